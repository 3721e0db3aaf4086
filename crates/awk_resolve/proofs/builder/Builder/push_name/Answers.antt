use Rattle.awk_resolve.proofs.Building.{ok_map}
use Rattle.awk_resolve.proofs.ExpressionForms.{name_lowered}
use Rattle.awk_resolve.proofs.builder.Builder.push_name.Goals as goal

pub returns : goal.returns
returns c = ok_map _ (λ i p. name_lowered c.requires (rw c.as_slice.ensures at c.in_ok-variable.ensures) p) c.push_value.ensures
