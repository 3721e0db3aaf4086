use Rattle.std.proofs.Common.{sym, ap, ◌∙◌}
use Rattle.awk_kinds.specs.definitions.Signatures.{ProgramKinds, place_of, signature_names}
use Rattle.awk_kinds.proofs.Tabled.{function_names}
use Rattle.awk_kinds.proofs.kinds.Kinds.function.Goals as goal

pub returns : goal.returns
returns c =
    c.find.ensures ∙ ap (λ names. place_of names c.args.name.now) (sym (function_names c.self.inside.functions c.self.inside.parameters.items c.self.invariant) ∙ ap (λ (k : ProgramKinds). signature_names k.functions) c.self.view_is)
