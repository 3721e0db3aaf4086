use Rattle.std.proofs.Common.{Ok, Err, ap}
use Rattle.awk_evaluator.proofs.Appending.{not_spent, spent_appends, kept_appends}
use Rattle.awk_evaluator.proofs.machine.Machine.append_operands.Goals as goal

pub returns-then-not-spend : goal.returns-then-not-spend
returns-then-not-spend c =
    let e = c.if-not-spend.ensures {u = tt} in
    not_spent e.operands e.spends.changes.callers c.args.target.now c.args.parts.now e.spends

pub returns-in-Ok-true : goal.returns-in-Ok-true
returns-in-Ok-true c =
    let e = c.if-not-spend.ensures {u = tt} in
    spent_appends e.operands e.spends.changes.callers c.args.target.now c.args.parts.now (Ok tt) e.spends ((c.in-Ok-true.ensures {u = tt}).appended (ap Ok c.in-Ok-true.field-0-test))

pub returns-in-Ok-false : goal.returns-in-Ok-false
returns-in-Ok-false c =
    let e = c.if-not-spend.ensures {u = tt} in
    spent_appends e.operands e.spends.changes.callers c.args.target.now c.args.parts.now _ e.spends (kept_appends c.args.target.now c.args.parts.now ((c.in-Ok-false.ensures {u = tt}).kept (ap Ok c.in-Ok-false.field-0-test)) _ c.append_any_operands.ensures)

pub returns-in-Err : goal.returns-in-Err
returns-in-Err c =
    let e = c.if-not-spend.ensures {u = tt} in
    let refused = (c.in-Err.ensures {u = tt}).refused in
    spent_appends {m1 = c.spend.new.self} e.operands e.spends.changes.callers c.args.target.now c.args.parts.now (Err c.in-Err.halt) e.spends (record { done = record { operands = tt; calls = tt; changes = refused.changes } })
