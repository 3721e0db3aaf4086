use Rattle.std.proofs.Common.{[], ap, arith}
use Rattle.awk_storage.specs.support.Frames.{FramesView, heights_of}
use Rattle.awk_storage.proofs.FrameLemmas.{heights-are}
use Rattle.awk_storage.proofs.frames.Frames.may_enter.Goals as goal

pub returns-clause-may : goal.returns-clause-may
returns-clause-may c = λ e.
    let b = c.self.inside in
    let low = c.may_enter.ensures.may e in
    let sum = heights-are [] b.locals.items b.control.entries b.control.heights c.self.invariant.1.many in
    let view = ap (λ (v : FramesView). heights_of v.frames) c.self.view_is in
    omega (arith, low, sum, view)

pub returns-clause-may_not : goal.returns-clause-may_not
returns-clause-may_not c = λ e.
    let b = c.self.inside in
    let high = c.may_enter.ensures.may_not e in
    let sum = heights-are [] b.locals.items b.control.entries b.control.heights c.self.invariant.1.many in
    let view = ap (λ (v : FramesView). heights_of v.frames) c.self.view_is in
    omega (arith, high, sum, view)
