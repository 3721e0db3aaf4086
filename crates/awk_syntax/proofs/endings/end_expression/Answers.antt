use Rattle.awk_syntax.proofs.endings.end_expression.Goals as goal

pub returns-in-DoCondition : goal.returns-in-DoCondition
returns-in-DoCondition c = rw c.in-DoCondition.is (rw c.into_inner.ensures at (c.end_do.ensures c.args.stack.now.items))

pub returns-in-ForCondition : goal.returns-in-ForCondition
returns-in-ForCondition c = rw c.in-ForCondition.is (c.end_for_condition.ensures c.args.stack.now.items)
