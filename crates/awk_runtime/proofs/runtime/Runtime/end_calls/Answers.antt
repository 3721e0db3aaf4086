use Rattle.std.proofs.Common.{sym, ap, arith, ◌≡◌, length}
use Rattle.awk_storage.specs.support.Frames.{FramesView, older_of}
use Rattle.awk_runtime.proofs.CallWords.{none_is, ending_goes_on, ending_ends, fewer_calls}
use Rattle.awk_runtime.proofs.runtime.Runtime.end_calls.Goals as goal

pub loop-left-preserved : goal.loop-left-preserved
loop-left-preserved c =
    let e = c.in-Some.ensures {u = tt} in
    rw (c.truncate.ensures, e.left) (ending_goes_on c.args.self.now c.loop-left.self c.in-Some.left.arrays_before (sym e.arrays) c.loop-left.invariant)

pub loop-left-smaller : goal.loop-left-smaller
loop-left-smaller c =
    let e = c.in-Some.ensures {u = tt} in
    let shorter = fewer_calls c.loop-left.self.frames.frames c.in-Some.left.arrays_before (sym e.arrays) in
    let same : length c.leave.new.self.frames ≡ length (older_of c.loop-left.self.frames.frames) = ap (λ (v : FramesView). length v.frames) e.left in
    omega (arith, shorter, same)

pub returns : goal.returns
returns c =
    let e = c.in_default.ensures {u = tt} in
    rw e.kept (ending_ends c.args.self.now c.loop-left.self (sym e.arrays) (none_is c.loop-left.self.frames.callers e.caller) c.loop-left.invariant)
