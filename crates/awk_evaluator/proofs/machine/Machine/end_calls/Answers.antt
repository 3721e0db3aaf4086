use Rattle.std.proofs.Common.{ap}
use Rattle.awk_storage.specs.support.Frames.{arrays_before_of}
use Rattle.awk_runtime.proofs.CallWords.{ending_begins, ending_ends}
use Rattle.awk_evaluator.proofs.machine.Machine.end_calls.Goals as goal

pub returns-else-not-are_over-clause-ends : goal.returns-else-not-are_over-clause-ends
returns-else-not-are_over-clause-ends c =
    let m = c.args.self.now.runtime in
    let over = c.if-not-are_over.false in
    ending_ends m m (ap arrays_before_of (c.are_over.ensures.frames over)) (c.are_over.ensures.callers over) (ending_begins m)
