use Rattle.std.proofs.Common.{true, false, ◌∙◌}
use Rattle.awk_runtime.proofs.CallWords.{missing_next, missing_value}
use Rattle.awk_runtime.proofs.runtime.Runtime.give_missing.Goals as goal
use Rattle.awk_runtime.proofs.runtime.Runtime.give_missing.Goals.{then-is_array+in_ok-give_new_array, else-is_array+in_ok-give_value}

pub loop-is_array-preserved : goal.loop-is_array-preserved
loop-is_array-preserved c = elim c.if-is_array.branch [
  | then-is_array+in_ok-give_new_array w ↦
      missing_next c.args.self.now c.loop-is_array.self c.if-is_array.self c.args.kinds.now c.loop-is_array.is_array-index true c.loop-is_array-test.true w.if-is_array.true c.loop-is_array.invariant (w.self-is ∙ w.in_ok-give_new_array.ensures.given)
  | else-is_array+in_ok-give_value w ↦
      missing_next c.args.self.now c.loop-is_array.self c.if-is_array.self c.args.kinds.now c.loop-is_array.is_array-index false c.loop-is_array-test.true w.if-is_array.false c.loop-is_array.invariant (w.self-is ∙ (w.in_ok-give_value.ensures.given ∙ missing_value c.loop-is_array.self))
]
