use Rattle.std.proofs.Common.{◌≡◌, suc, ◌+◌, sym, arith, append-nil, append_assoc}
use Rattle.awk_evaluator.proofs.AppliedValues.{values_at, values_over}
use Rattle.awk_evaluator.proofs.function_values.push_copies.Goals as goal

pub loop-value-preserved : goal.loop-value-preserved
loop-value-preserved c =
    let next : c.loop-value.value-index + 1 ≡ suc c.loop-value.value-index = omega arith in
    let at = values_at c.args.others.now c.loop-value.value-index c.value-item.result (omega arith) (sym c.value-item.is) in
    rw (c.in_ok-push.ensures.items, next, append_assoc, c.in_ok-clone.ensures.cases) (rw at at c.loop-value.invariant)

pub returns : goal.returns
returns c =
    let at = values_over c.args.others.now c.loop-value.value-index (omega arith) in
    rw (at, append-nil) at c.loop-value.invariant
