use Rattle.std.proofs.Common.{sym, ap, ◌∙◌}
use Rattle.awk_kinds.specs.definitions.Signatures.{ProgramKinds, signature_names}
use Rattle.awk_kinds.proofs.Tabled.{function_names}
use Rattle.awk_kinds.proofs.kinds.Kinds.functions.Goals as goal

pub returns : goal.returns
returns c = sym (function_names c.self.inside.functions c.self.inside.parameters.items c.self.invariant) ∙ ap (λ (k : ProgramKinds). signature_names k.functions) c.self.view_is
