use Rattle.awk_resolve.specs.declared.node.Target.TheVariants as target
use Rattle.awk_evaluator.proofs.Parts.{not_updated, updates_behind, variable_updated}
use Rattle.awk_evaluator.proofs.machine.Machine.update.Goals as goal

pub returns-then-not-spend : goal.returns-then-not-spend
returns-then-not-spend c = not_updated (c.if-not-spend.ensures {u = tt}).spends c.args.operator c.args.target.now c.args.operand.now

pub returns-in-Variable : goal.returns-in-Variable
returns-in-Variable c =
    let e = c.if-not-spend.ensures {u = tt} in
    rw c.in-Variable.is (updates_behind e.spends e.operands e.spends.changes.callers c.args.operator (target.Variable c.in-Variable.variable) c.args.operand.now _ (variable_updated c.args.operator c.in-Variable.variable c.args.operand.now _ c.update_variable.ensures))

pub returns-in-Element : goal.returns-in-Element
returns-in-Element c =
    let e = c.if-not-spend.ensures {u = tt} in
    rw c.in-Element.is (updates_behind e.spends e.operands e.spends.changes.callers c.args.operator (target.Element c.in-Element.array c.in-Element.key) c.args.operand.now _ c.update_element.ensures)
