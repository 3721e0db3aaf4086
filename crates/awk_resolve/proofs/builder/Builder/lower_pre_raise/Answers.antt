use Rattle.awk_resolve.proofs.Building.{behind, still}
use Rattle.awk_resolve.proofs.ChangeForms.{pre_update_built, pre_raise_built}
use Rattle.awk_resolve.proofs.builder.Builder.lower_pre_raise.Goals as goal

pub returns-in-Some : goal.returns-in-Some
returns-in-Some c = pre_update_built c.requires.next (rw c.in-Some.is at c.in_ok-target.ensures) c.args.o (rw c.assigned_by_one.ensures at c.in_ok-update.ensures)

pub returns : goal.returns
returns c =
    let before = rw c.in_default.is at c.in_ok-target.ensures in
    behind before (pre_raise_built (still before c.requires.next) c.in_ok-target-2.ensures c.args.o (rw c.assigned_by_one-2.ensures at c.in_ok-assign.ensures) c.in_ok-one.ensures c.in_ok-operand.ensures c.in_ok-step.ensures)
