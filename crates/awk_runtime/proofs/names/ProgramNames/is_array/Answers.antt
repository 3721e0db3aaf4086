use Rattle.std.proofs.Common.{sym, ap, ◌∙◌}
use Rattle.awk_semantics.specs.Inputs.{is_among}
use Rattle.awk_runtime.specs.support.Naming.{Naming}
use Rattle.awk_runtime.proofs.NameWords.{is_among-names}
use Rattle.awk_runtime.proofs.names.ProgramNames.is_array.Goals as goal

pub returns : goal.returns
returns c = c.has.ensures ∙ sym (is_among-names c.args.name.now c.self.inside.arrays) ∙ ap (λ (n : Naming). is_among c.args.name.now n.arrays) c.self.view_is
