use Rattle.std.proofs.Common.{ap, ◌∙◌, length}
use Rattle.std.specs.Option.{unwrap_or}
use Rattle.awk_semantics.specs.Primitives.{number_in}
use Rattle.awk_runtime.specs.support.Naming.{Naming}
use Rattle.awk_runtime.proofs.NameNumbers.{number-is}
use Rattle.awk_runtime.proofs.names.ProgramNames.array_number.Goals as goal

pub returns-in-Some : goal.returns-in-Some
returns-in-Some c =
    let names = c.self.inside.arrays in
    ap (λ i. unwrap_or i (length names)) c.in-Some.ensures ∙ (number-is c.args.name.now names ∙ ap (λ (n : Naming). number_in n.arrays c.args.name.now) c.self.view_is)

pub returns-in-None : goal.returns-in-None
returns-in-None c =
    let names = c.self.inside.arrays in
    c.len.ensures.len ∙ (ap (λ i. unwrap_or i (length names)) c.in-None.ensures ∙ (number-is c.args.name.now names ∙ ap (λ (n : Naming). number_in n.arrays c.args.name.now) c.self.view_is))
