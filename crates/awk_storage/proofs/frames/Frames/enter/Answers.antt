use Rattle.std.proofs.Common.{ap, ◌∙◌, [], ◌∷◌, ◌++◌, length, ◌-◌, ◌≡◌, sym, subst, arith}
use Rattle.awk_storage.specs.Control.{Controlled, HasRoom}
use Rattle.awk_storage.specs.declared.entry.Entry.{Entry}
use Rattle.awk_storage.specs.support.Frames.{FramesView, saved_of, frames_from, callers_in, with_callers, heights_of, AreKept}
use Rattle.awk_storage.proofs.Heights.{room_for, fits_still, entered_with}
use Rattle.awk_storage.proofs.FrameLemmas.{heights-are, entry-kept, entry-frames, callers-more}
use Rattle.awk_storage.proofs.frames.Frames.enter.Goals as goal

pub enter-requires : goal.enter-requires
enter-requires c =
    let b = c.self.inside in
    let low = c.requires.low in
    let sum = heights-are [] b.locals.items b.control.entries b.control.heights c.self.invariant.1.many in
    let view = ap (λ (v : FramesView). heights_of v.frames) c.self.view_is in
    omega (arith, low, sum, view)

pub push-requires : goal.push-requires
push-requires c = record { room = subst HasRoom (sym c.in_ok-enter.ensures.entered) (room_for c.self.inside.control c.args.height c.self.invariant.1 c.requires.high) }

pub leave-requires-clause-fits : goal.leave-requires-clause-fits
leave-requires-clause-fits c = fits_still c.args.height c.self.invariant.1 (c.in-Err.ensures.err ∙ c.in_ok-enter.ensures.entered)

pub invariant_of-self-in-Ok : goal.invariant_of-self-in-Ok
invariant_of-self-in-Ok c =
    let b = c.self.inside in
    let end : length c.as_slice-end.result.now ≡ length b.locals.items = ap length c.as_slice-end.ensures.value in
    let e : Entry = record { count = length c.as_slice-end.result.now - b.top; arrays_before = c.args.arrays_before; caller = c.args.caller } in
    let entries = c.in-Ok.ensures.entries ∙ ap (λ (x : Controlled). x.entries ++ e ∷ []) c.in_ok-enter.ensures.entered in
    let heights = c.in-Ok.ensures.heights ∙ ap (λ (x : Controlled). x.heights) c.in_ok-enter.ensures.entered in (
      subst (λ n. AreKept (saved_of c.push.new.self.entries c.push.new.self.heights) b.locals.items b.top n) (sym end)
          (entry-kept b.control.entries b.control.heights b.locals.items b.base b.top c.self.invariant.0 c.self.invariant.1.many e c.args.height (ap (λ n. n - b.top) end) entries heights),
      entered_with e c.args.height c.self.invariant.1 c.requires.high entries heights,
    )

pub returns-in-Ok-clause-entered : goal.returns-in-Ok-clause-entered
returns-in-Ok-clause-entered c =
    let b = c.self.inside in
    let end : length c.as_slice-end.result.now ≡ length b.locals.items = ap length c.as_slice-end.ensures.value in
    let e : Entry = record { count = length c.as_slice-end.result.now - b.top; arrays_before = c.args.arrays_before; caller = c.args.caller } in
    let entries = c.in-Ok.ensures.entries ∙ ap (λ (x : Controlled). x.entries ++ e ∷ []) c.in_ok-enter.ensures.entered in
    let heights = c.in-Ok.ensures.heights ∙ ap (λ (x : Controlled). x.heights) c.in_ok-enter.ensures.entered in
    let old = frames_from [] b.locals.items (saved_of b.control.entries b.control.heights) in
    ap (with_callers (callers_in c.push.new.self.entries)) (entry-frames b.control.entries b.control.heights b.locals.items b.base b.top c.self.invariant.0 c.self.invariant.1.many e c.args.height (ap (λ n. n - b.top) end) entries heights)
    ∙ ap (λ callers. with_callers callers (record { frames = record { locals = old.staged; height = c.args.height; arrays_before = c.args.arrays_before } ∷ old.frames; staged = [] })) (ap callers_in entries ∙ callers-more b.control.entries e)
    ∙ ap (λ (v : FramesView). record { frames = record { locals = v.staged; height = c.args.height; arrays_before = c.args.arrays_before } ∷ v.frames; staged = []; callers = c.args.caller ∷ v.callers }) c.self.view_is
