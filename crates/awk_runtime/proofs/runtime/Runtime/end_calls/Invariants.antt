use Rattle.std.proofs.Common.{length}
use Rattle.awk_runtime.proofs.CallWords.{Ending}
use Rattle.awk_runtime.proofs.runtime.Runtime.end_calls.Given as goal

abbrev pub invariant-loop-left : goal.invariant-loop-left
invariant-loop-left l = Ending l.initial.self l.self

abbrev pub decreases-loop-left : goal.decreases-loop-left
decreases-loop-left l = length l.self.frames.frames
