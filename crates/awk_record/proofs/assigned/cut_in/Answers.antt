use Rattle.std.proofs.Common.{ℕ, List, ◌∙◌, ap}
use Rattle.awk_value.specs.declared.value.Value.TheVariants.{Input}
use Rattle.awk_record.proofs.FieldOfPieces.{cut_stretch}
use Rattle.awk_record.proofs.assigned.cut_in.Goals as goal

pub returns-in-Input : goal.returns-in-Input
returns-in-Input c = λ is. ap (λ (t : List ℕ). Input t) (c.cut_to.ensures.cut is ∙ cut_stretch c.args.text.now c.args.span c.requires)
