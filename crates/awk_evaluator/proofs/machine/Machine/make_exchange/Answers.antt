use Rattle.awk_evaluator.proofs.Parts.{computes_kept, exchanges_behind, not_exchanged}
use Rattle.awk_evaluator.proofs.machine.Machine.make_exchange.Goals as goal

pub returns-then-not-spend : goal.returns-then-not-spend
returns-then-not-spend c =
    let e = c.if-not-spend.ensures {u = tt} in
    not_exchanged e.spends c.args.exchange.now

pub returns : goal.returns
returns c =
    let e = c.if-not-spend.ensures {u = tt} in
    exchanges_behind e.spends e.operands e.spends.changes.callers c.args.exchange.now _ c.is_done.ensures.came (computes_kept c.is_done.ensures.kept c.substitute_in-count.ensures)
