use Rattle.awk_runtime.proofs.Composition.{ready_behind}
use Rattle.awk_evaluator.proofs.Parts.{prints_behind, not_printed}
use Rattle.awk_evaluator.proofs.machine.Machine.print_by_step.Goals as goal

pub returns-then-not-spend : goal.returns-then-not-spend
returns-then-not-spend g c =
    let e = c.if-not-spend.ensures {u = tt} in
    record { ready = ready_behind e.spends.changes c.requires.ready; prints = not_printed e.spends c.args.operands.now }

pub returns : goal.returns
returns g c =
    let e = c.if-not-spend.ensures {u = tt} in
    record { ready = c.print_operands.ensures.ready; prints = prints_behind e.spends e.operands e.spends.changes.callers c.args.operands.now _ c.print_operands.ensures.prints }
