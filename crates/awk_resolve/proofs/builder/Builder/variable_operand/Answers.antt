use Rattle.awk_resolve.proofs.InPlaceForms.{name_operand}
use Rattle.awk_resolve.proofs.builder.Builder.variable_operand.Goals as goal

pub returns : goal.returns
returns c = name_operand (rw c.as_slice.ensures at c.in_ok-variable_of.ensures)
