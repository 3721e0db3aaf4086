use Rattle.std.proofs.Common.{sym, ap, ◌∙◌}
use Rattle.awk_kinds.specs.definitions.Signatures.{place_of, parameter_names}
use Rattle.awk_kinds.proofs.Tabled.{formal_names}
use Rattle.awk_kinds.proofs.parameters.Parameters.find.Goals as goal

pub returns : goal.returns
returns c =
    c.find.ensures ∙ ap (λ names. place_of names c.args.name.now) (sym (formal_names c.self.inside.names c.self.inside.arrays.items c.self.invariant) ∙ ap parameter_names c.self.view_is)
