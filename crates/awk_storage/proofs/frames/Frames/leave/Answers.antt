use Rattle.std.proofs.Common.{ap, ◌∙◌, [], ◌≡◌, sym, subst, arith, take, drop}
use Rattle.std.specs.Prelude.{slice_get}
use Rattle.awk_storage.specs.Control.{Controlled, but_last}
use Rattle.awk_storage.specs.support.Entered.{AreEntered}
use Rattle.awk_storage.specs.support.Frames.{FramesView, saved_of, frames_from, callers_in, with_callers, older_of, newest_count, arrays_before_of}
use Rattle.awk_storage.proofs.Heights.{fits_without, entered_without}
use Rattle.awk_storage.proofs.FrameLemmas.{left-room, left-newest, left-kept, left-frames, left-arrays, left-caller, left-callers}
use Rattle.awk_storage.proofs.frames.Frames.leave.Goals as goal

pub leave-requires-clause-fits : goal.leave-requires-clause-fits
leave-requires-clause-fits c = fits_without _ _ c.self.invariant.1 c.in_ok-entry.ensures.some c.pop.ensures.heights

pub cut-requires : goal.cut-requires
cut-requires c =
    let b = c.self.inside in
    left-room b.control.entries b.control.heights c.pop.new.self.entries c.in_ok-entry.entry b.locals.items b.base b.top c.self.invariant.0 c.self.invariant.1.many c.in_ok-entry.ensures.some

pub newest_count-requires : goal.newest_count-requires
newest_count-requires c = subst AreEntered (sym c.leave.ensures) (entered_without _ _ c.self.invariant.1 c.in_ok-entry.ensures.some c.pop.ensures.heights)

pub overflow_sub-self : goal.overflow_sub-self
overflow_sub-self c =
    let b = c.self.inside in
    let saved : saved_of c.leave.new.self.entries c.leave.new.self.heights ≡ saved_of c.pop.new.self.entries (but_last b.control.heights) =
    ap (λ (k : Controlled). saved_of k.entries k.heights) c.leave.ensures ∙ ap (λ h. saved_of c.pop.new.self.entries (but_last h)) c.pop.ensures.heights in
    let count = c.newest_count.ensures ∙ ap newest_count saved in
    let low = left-newest b.control.entries b.control.heights c.pop.new.self.entries c.in_ok-entry.entry b.locals.items b.base b.top c.self.invariant.0 c.self.invariant.1.many c.in_ok-entry.ensures.some in
    omega (arith, count, low)

pub invariant_of-self-2 : goal.invariant_of-self-2
invariant_of-self-2 c =
    let b = c.self.inside in
    let saved : saved_of c.leave.new.self.entries c.leave.new.self.heights ≡ saved_of c.pop.new.self.entries (but_last b.control.heights) =
    ap (λ (k : Controlled). saved_of k.entries k.heights) c.leave.ensures ∙ ap (λ h. saved_of c.pop.new.self.entries (but_last h)) c.pop.ensures.heights in
    let count = c.newest_count.ensures ∙ ap newest_count saved in (
      rw (c.cut.ensures, saved, count) (left-kept b.control.entries b.control.heights c.pop.new.self.entries c.in_ok-entry.entry b.locals.items b.base b.top c.self.invariant.0 c.self.invariant.1.many c.in_ok-entry.ensures.some),
      subst AreEntered (sym c.leave.ensures) (entered_without _ _ c.self.invariant.1 c.in_ok-entry.ensures.some c.pop.ensures.heights),
    )

pub returns-clause-left : goal.returns-clause-left
returns-clause-left c =
    let b = c.self.inside in
    let saved : saved_of c.leave.new.self.entries c.leave.new.self.heights ≡ saved_of c.pop.new.self.entries (but_last b.control.heights) =
    ap (λ (k : Controlled). saved_of k.entries k.heights) c.leave.ensures ∙ ap (λ h. saved_of c.pop.new.self.entries (but_last h)) c.pop.ensures.heights in
    let callers = ap (λ (k : Controlled). callers_in k.entries) c.leave.ensures
    ∙ left-callers b.control.entries b.control.heights c.pop.new.self.entries c.in_ok-entry.entry b.locals.items b.base b.top c.self.invariant.0 c.self.invariant.1.many c.in_ok-entry.ensures.some in
    let active = ap (λ l. frames_from [] l (saved_of c.leave.new.self.entries c.leave.new.self.heights)) c.cut.ensures
    ∙ ap (λ l. frames_from [] (take b.base b.locals.items) l) saved
    ∙ left-frames b.control.entries b.control.heights c.pop.new.self.entries c.in_ok-entry.entry b.locals.items b.base b.top c.self.invariant.0 c.self.invariant.1.many c.in_ok-entry.ensures.some in
    ap (with_callers (callers_in c.leave.new.self.entries)) active
    ∙ ap (λ l. record { frames = older_of (frames_from [] b.locals.items (saved_of b.control.entries b.control.heights)).frames; staged = []; callers = l }) callers
    ∙ ap (λ (v : FramesView). record { frames = older_of v.frames; staged = []; callers = drop 1 v.callers }) c.self.view_is

pub returns-clause-arrays : goal.returns-clause-arrays
returns-clause-arrays c =
    let b = c.self.inside in
    left-arrays b.control.entries b.control.heights c.pop.new.self.entries c.in_ok-entry.entry b.locals.items b.base b.top c.self.invariant.0 c.self.invariant.1.many c.in_ok-entry.ensures.some
    ∙ ap (λ (v : FramesView). arrays_before_of v.frames) c.self.view_is

pub returns-clause-caller : goal.returns-clause-caller
returns-clause-caller c =
    let b = c.self.inside in
    left-caller b.control.entries b.control.heights c.pop.new.self.entries c.in_ok-entry.entry b.locals.items b.base b.top c.self.invariant.0 c.self.invariant.1.many c.in_ok-entry.ensures.some
    ∙ ap (λ (v : FramesView). slice_get v.callers 0) c.self.view_is
