use Rattle.std.proofs.Common.{ap, ◌∙◌, ◌+◌, ◌<◌, ◌≡◌, length, refl, sym, arith}
use Rattle.std.specs.Prelude.{slice_get, Some}
use Rattle.std.proofs.lemmas.Option.{slice_get_read}
use Rattle.awk_storage.specs.support.Frames.{FramesView, saved_of, newest_of}
use Rattle.awk_storage.proofs.FrameLemmas.{in-order, get-newest, none-newest}
use Rattle.awk_storage.proofs.frames.Frames.local.Goals as goal

pub overflow_sub-self-inside : goal.overflow_sub-self-inside
overflow_sub-self-inside c = in-order _ _ _ _ c.self.invariant.0

pub returns-then-index-self : goal.returns-then-index-self
returns-then-index-self c =
    let b = c.self.inside in
    let within : b.base + c.args.index < length b.locals.items = omega (arith, c.if-index-self.true, c.self.invariant.0.within) in
    let at : slice_get b.locals.items (b.base + c.args.index) ≡ Some c.index.result.now = slice_get_read b.locals.items (length b.locals.items) (b.base + c.args.index) c.index.result.now refl within c.index.ensures in
    sym at
    ∙ (get-newest (saved_of b.control.entries b.control.heights) b.locals.items b.base b.top c.self.invariant.0 c.args.index c.if-index-self.true
    ∙ ap (λ (v : FramesView). slice_get (newest_of v.frames) c.args.index) c.self.view_is)

pub returns : goal.returns
returns c =
    let b = c.self.inside in
    sym (ap (λ (v : FramesView). slice_get (newest_of v.frames) c.args.index) (sym c.self.view_is)
    ∙ none-newest (saved_of b.control.entries b.control.heights) b.locals.items b.base b.top c.self.invariant.0 c.args.index c.if-index-self.false)
