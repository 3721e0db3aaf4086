use Rattle.std.proofs.Common.{refl}
use Rattle.awk_resolve.specs.declared.node.Target.TheVariants as target
use Rattle.awk_evaluator.proofs.Parts.{not_incremented, number_raised, increments_behind}
use Rattle.awk_evaluator.proofs.machine.Machine.increment.Goals as goal

pub returns-then-not-spend : goal.returns-then-not-spend
returns-then-not-spend c = not_incremented (c.if-not-spend.ensures {u = tt}).spends c.args.operator c.args.target.now

pub returns-then-raise_in_place : goal.returns-then-raise_in_place
returns-then-raise_in_place c =
    let e = c.if-not-spend.ensures {u = tt} in
    rw c.in-Variable.is (increments_behind {m1 = c.spend.new.self} e.spends e.operands e.spends.changes.callers c.args.operator (target.Variable c.in-Variable.variable) _ (number_raised c.args.operator c.in-Variable.variable ((c.if-raise_in_place.ensures {u = tt}).raises refl) refl (((c.if-raise_in_place.ensures {u = tt}).raises refl).changes.callers)))

pub returns-else-raise_in_place : goal.returns-else-raise_in_place
returns-else-raise_in_place c =
    let e = c.if-not-spend.ensures {u = tt} in
    let kept = (c.if-raise_in_place.ensures {u = tt}).kept refl in
    increments_behind {m1 = c.spend.new.self} e.spends e.operands e.spends.changes.callers c.args.operator c.args.target.now _ (rw kept at c.increment_value.ensures)

pub returns-in-Element : goal.returns-in-Element
returns-in-Element c =
    let e = c.if-not-spend.ensures {u = tt} in
    increments_behind {m1 = c.spend.new.self} e.spends e.operands e.spends.changes.callers c.args.operator c.args.target.now _ c.increment_element.ensures
