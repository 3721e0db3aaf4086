use Rattle.std.proofs.Common.{◌≡◌, sym, ap, ◌∙◌, [], arith}
use Rattle.std.proofs.lemmas.Bool.Decides.{nat_tests}
use Rattle.awk_storage.specs.support.Frames.{FramesView}
use Rattle.awk_storage.proofs.FrameLemmas.{none-long, no-frames, no-callers}
use Rattle.awk_storage.proofs.frames.Frames.are_over.Goals as goal

pub returns-clause-frames : goal.returns-clause-frames
returns-clause-frames c = λ over.
    let b = c.self.inside in
    let count = c.len.ensures.count in
    let none : b.control.entries ≡ [] = none-long b.control.entries (grind (arith, nat_tests, over, count)) in
    sym (ap (λ (v : FramesView). v.frames) c.self.view_is) ∙ no-frames b.control.entries b.control.heights b.locals.items none

pub returns-clause-callers : goal.returns-clause-callers
returns-clause-callers c = λ over.
    let b = c.self.inside in
    let count = c.len.ensures.count in
    let none : b.control.entries ≡ [] = none-long b.control.entries (grind (arith, nat_tests, over, count)) in
    sym (ap (λ (v : FramesView). v.callers) c.self.view_is) ∙ no-callers b.control.entries none
