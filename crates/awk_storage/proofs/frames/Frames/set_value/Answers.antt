use Rattle.std.proofs.Common.{ap, ◌∙◌, [], ◌+◌, ◌≡◌, ◌<◌, length, set, refl, sym, arith, get_or}
use Rattle.std.specs.Prelude.{slice_get, Option, Some, None}
use Rattle.std.proofs.lemmas.Option.{slice_get_read}
use Rattle.awk_semantics.specs.declared.local.Local.{Local}
use Rattle.awk_storage.specs.support.Frames.{FramesView, saved_of, frames_from, callers_in, with_callers, newest_of, with_value_at}
use Rattle.awk_storage.proofs.FrameLemmas.{in-order, set-newest, none-newest}
use Rattle.awk_storage.proofs.frames.Frames.set_value.Goals as goal

pub overflow_sub-self-inside : goal.overflow_sub-self-inside
overflow_sub-self-inside c = in-order _ _ _ _ c.self.invariant.0

pub returns-then-index-self : goal.returns-then-index-self
returns-then-index-self c =
    let b = c.self.inside in
    let none : slice_get (newest_of c.args.self.now.frames) c.args.index ≡ None = ap (λ (v : FramesView). slice_get (newest_of v.frames) c.args.index) (sym c.self.view_is)
    ∙ none-newest (saved_of b.control.entries b.control.heights) b.locals.items b.base b.top c.self.invariant.0 c.args.index c.if-index-self.true in
    ap (λ (o : Option Local). record { frames = with_value_at o c.args.index c.args.value c.args.self.now.frames; staged = c.args.self.now.staged; callers = c.args.self.now.callers }) (sym none)

pub returns : goal.returns
returns c =
    let b = c.self.inside in
    let value : c.index_mut.result.now ≡ get_or b.locals.items (b.base + c.args.index) c.index_mut.result.now = c.index_mut.ensures.value in
    let within : b.base + c.args.index < length b.locals.items = omega (arith, c.if-index-self.false, c.self.invariant.0.within) in
    let at : slice_get b.locals.items (b.base + c.args.index) ≡ Some c.index_mut.result.now = slice_get_read b.locals.items (length b.locals.items) (b.base + c.args.index) c.index_mut.result.now refl within value in
    ap (λ l. with_callers (callers_in b.control.entries) (frames_from [] (set b.locals.items (b.base + c.args.index) l) (saved_of b.control.entries b.control.heights))) c.give.ensures
    ∙ (ap (with_callers (callers_in b.control.entries)) (set-newest (saved_of b.control.entries b.control.heights) b.locals.items b.base b.top c.self.invariant.0 c.args.index c.index_mut.result.now c.args.value c.if-index-self.false at)
    ∙ ap (λ (v : FramesView). record { frames = with_value_at (slice_get (newest_of v.frames) c.args.index) c.args.index c.args.value v.frames; staged = v.staged; callers = v.callers }) c.self.view_is)
