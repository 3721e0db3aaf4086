use Rattle.std.proofs.Common.{◌≡◌, ap, sym, ◌∙◌, arith}
use Rattle.awk_grammar.specs.definitions.Height.{height_of}
use Rattle.awk_grammar.specs.definitions.View.{expr_of}
use Rattle.awk_frames.proofs.CheckedLists.{exprs_counted, exprs_checked}
use Rattle.awk_frames.proofs.lists.one_more_expr.Goals as goal

pub invariant_of-result : goal.invariant_of-result
invariant_of-result c =
    let h = c.in-Some-expr.expr.counted ∙ ap (λ z. height_of (expr_of z)) (sym c.into_inner.ensures) in
    let e = exprs_counted c.in-Some.list.exprs.items c.push.new.self.items c.into_inner.result c.in-Some.list.height c.in-Some-expr.expr.height c.in_ok-push.ensures.items c.in-Some.list.counted h in
    record { counted = omega arith; low = omega arith }

pub returns : goal.returns
returns c =
    let h = c.in-Some-expr.expr.counted ∙ ap (λ z. height_of (expr_of z)) (sym c.into_inner.ensures) in
    rw (c.in-Some.is, c.in-Some-expr.is, sym c.into_inner.ensures) (exprs_checked c.in-Some.list.exprs.items c.push.new.self.items c.into_inner.result c.in_ok-push.ensures.items (omega arith) (omega arith))
