use Rattle.std.proofs.Common.{rules, ◌≡◌, ◌+◌, ap, ◌∙◌}
use Rattle.std.proofs.lemmas.Result.{IfOk-weaker}
use Rattle.awk_grammar.specs.declared.tree.Expr.TheViews.{the_lemmas}
use Rattle.awk_grammar.specs.Height.{height_of, tallest}
use Rattle.awk_grammar.specs.View.{expr_of, exprs_of}
use Rattle.awk_kinds.proofs.Rows.{row_is_list}
use Rattle.awk_resolve.proofs.heights.+heights.Goals as goal

pub height_of-returns-in_ok-tallest-in-Element : goal.height_of-returns-in_ok-tallest-in-Element
height_of-returns-in_ok-tallest-in-Element t c =
    let is : height_of (expr_of c.args.e.now) ≡ 1 + tallest (exprs_of c.in-Element.list.items) = search (rules, the_lemmas, row_is_list) in
    rw is (IfOk-weaker c.above-in-Element.result _ _ (λ _ q. q ∙ ap (λ h. 1 + h) (rw c.deref-in-Element.ensures.value at c.in_ok-tallest-in-Element.ensures)) c.above-in-Element.ensures)
