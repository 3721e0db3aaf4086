use Rattle.awk_resolve.proofs.ChangeForms.{assignment_built}
use Rattle.awk_resolve.proofs.builder.Builder.lower_any_assignment.Goals as goal

pub lower_append_to-requires : goal.lower_append_to-requires
lower_append_to-requires c = let appends = rw c.in-Some.is at c.appended.ensures in record { stand = c.requires; append = appends.begins }

pub returns-in-Some : goal.returns-in-Some
returns-in-Some c =
    let appends = rw c.in-Some.is at c.appended.ensures in
    rw (appends.operator, appends.named) c.lower_append_to.ensures

pub returns : goal.returns
returns c = assignment_built c.requires.next c.in_ok-target.ensures c.args.o c.in_ok-assign.ensures c.in_ok-value.ensures c.in_ok-operand.ensures c.in_ok-step.ensures
