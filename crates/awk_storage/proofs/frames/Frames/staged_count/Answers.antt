use Rattle.std.proofs.Common.{[], ap, length, arith, length-drop}
use Rattle.awk_storage.specs.support.Frames.{FramesView, saved_of, total_count}
use Rattle.awk_storage.proofs.FrameLemmas.{staged-is}
use Rattle.awk_storage.proofs.frames.Frames.staged_count.Goals as goal

pub returns : goal.returns
returns c =
    let b = c.self.inside in
    omega (arith, ap length c.as_slice.ensures.value, c.self.invariant.0.end, ap length (staged-is [] b.locals.items (saved_of b.control.entries b.control.heights)), length-drop (total_count (saved_of b.control.entries b.control.heights)) b.locals.items, ap (λ (v : FramesView). length v.staged) c.self.view_is)
