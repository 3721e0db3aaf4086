use Rattle.std.proofs.Common.{length, ap, ◌∙◌}
use Rattle.awk_kinds.specs.definitions.Signatures.{ProgramKinds}
use Rattle.awk_kinds.proofs.Tabled.{signatures_long}
use Rattle.awk_kinds.proofs.kinds.Kinds.function_count.Goals as goal

pub returns : goal.returns
returns c = c.len.ensures.len ∙ signatures_long c.self.inside.functions c.self.inside.parameters.items c.self.invariant ∙ ap (λ (k : ProgramKinds). length k.functions) c.self.view_is
