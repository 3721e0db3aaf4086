use Rattle.std.proofs.Common.{[], ap, ◌∙◌, ◌≡◌, ◌-◌, List, length, take, sym, subst, arith}
use Rattle.awk_semantics.specs.declared.local.Local.{Local}
use Rattle.awk_storage.specs.support.Frames.{FramesView, saved_of, frames_from, callers_in, with_callers, AreKept}
use Rattle.awk_storage.proofs.FrameLemmas.{staged-count, staged-cut, kept-cut}
use Rattle.awk_storage.proofs.frames.Frames.truncate_staged.Goals as goal

pub overflow_sub-end-then-count-given : goal.overflow_sub-end-then-count-given
overflow_sub-end-then-count-given c =
    let b = c.self.inside in
    let given : c.staged_count-given.result ≡ length b.locals.items - b.top = c.staged_count-given.ensures ∙ (ap (λ (v : FramesView). length v.staged) (sym c.self.view_is) ∙ staged-count (saved_of b.control.entries b.control.heights) b.locals.items b.base b.top c.self.invariant.0) in
    omega (arith, given, ap length c.as_slice.ensures.value)

pub invariant_of-self : goal.invariant_of-self
invariant_of-self c =
    let b = c.self.inside in
    let given : c.staged_count-given.result ≡ length b.locals.items - b.top = c.staged_count-given.ensures ∙ (ap (λ (v : FramesView). length v.staged) (sym c.self.view_is) ∙ staged-count (saved_of b.control.entries b.control.heights) b.locals.items b.base b.top c.self.invariant.0) in
    let end = length c.as_slice.result.now - (c.staged_count-given.result - c.args.count) in
    let long : length c.as_slice.result.now ≡ length b.locals.items = ap length c.as_slice.ensures.value in (
      subst (λ (l : List Local). AreKept (saved_of b.control.entries b.control.heights) l b.base b.top) (sym c.truncate.ensures.items)
          (kept-cut (saved_of b.control.entries b.control.heights) b.locals.items b.base b.top c.self.invariant.0 end (omega (arith, given, long)) (omega (arith, given, long))),
      c.self.invariant.1,
    )

pub returns-then-count-given : goal.returns-then-count-given
returns-then-count-given c =
    let b = c.self.inside in
    let given : c.staged_count-given.result ≡ length b.locals.items - b.top = c.staged_count-given.ensures ∙ (ap (λ (v : FramesView). length v.staged) (sym c.self.view_is) ∙ staged-count (saved_of b.control.entries b.control.heights) b.locals.items b.base b.top c.self.invariant.0) in
    let end = length c.as_slice.result.now - (c.staged_count-given.result - c.args.count) in
    let long : length c.as_slice.result.now ≡ length b.locals.items = ap length c.as_slice.ensures.value in
    ap (λ (l : List Local). with_callers (callers_in b.control.entries) (frames_from [] l (saved_of b.control.entries b.control.heights))) c.truncate.ensures.items
    ∙ (ap (with_callers (callers_in b.control.entries)) (staged-cut (saved_of b.control.entries b.control.heights) b.locals.items b.base b.top c.self.invariant.0 end c.args.count (omega (arith, given, long, c.if-count-given.true)) (omega (arith, given, long)))
    ∙ ap (λ (v : FramesView). record v { staged = take c.args.count v.staged }) c.self.view_is)
