use Rattle.awk_resolve.proofs.Building.{ok_map, behind, still}
use Rattle.awk_resolve.proofs.SimpleStatements.{expression_built}
use Rattle.awk_resolve.proofs.builder.Builder.lower_expression.Goals as goal

pub returns-in-Some : goal.returns-in-Some
returns-in-Some c = rw c.in-Some.is at c.in_ok-place.ensures

pub returns : goal.returns
returns c =
    let before = rw c.in_default.is at c.in_ok-place.ensures in
    ok_map _ (λ i r. behind before (expression_built (still before c.requires.next) c.in_ok-leave.ensures c.in_ok-value.ensures r)) c.step.ensures
