use Rattle.awk_resolve.proofs.Building.{behind, still}
use Rattle.awk_resolve.proofs.ChangeForms.{post_update_built, post_raise_built}
use Rattle.awk_resolve.proofs.builder.Builder.lower_post_raise.Goals as goal

pub returns-in-Some : goal.returns-in-Some
returns-in-Some c = post_update_built c.requires.next (rw c.in-Some.is at c.in_ok-target.ensures) c.args.o c.in_ok-increment.ensures

pub returns : goal.returns
returns c =
    let before = rw c.in_default.is at c.in_ok-target.ensures in
    behind before (post_raise_built (still before c.requires.next) c.in_ok-target-2.ensures c.args.o c.in_ok-raise.ensures c.in_ok-operand.ensures c.in_ok-step.ensures)
