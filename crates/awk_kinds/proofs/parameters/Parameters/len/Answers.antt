use Rattle.std.proofs.Common.{length, ap, ◌∙◌}
use Rattle.awk_kinds.proofs.Tabled.{formals_long}
use Rattle.awk_kinds.proofs.parameters.Parameters.len.Goals as goal

pub returns : goal.returns
returns c = c.len.ensures.len ∙ formals_long c.self.inside.names c.self.inside.arrays.items c.self.invariant ∙ ap length c.self.view_is
