use Rattle.std.proofs.Common.{◌≡◌, rules, sym, ap, ◌∙◌}
use Rattle.std.proofs.lemmas.Slice.Eq.{bytes_eq-Decides}
use Rattle.awk_grammar.specs.declared.tree.Expr.TheViews.{the_lemmas}
use Rattle.awk_grammar.specs.Tree as tree
use Rattle.awk_grammar.specs.View.{expr_of, exprs_of}
use Rattle.awk_kinds.proofs.Rows.{row_is_list}
use Rattle.awk_resolve.proofs.appends_in_place.is_same_place.Goals as goal

pub returns-then-eq : goal.returns-then-eq
returns-then-eq c = λ ok.
    let p = c.in-Element-Element in
    let left : expr_of c.args.a.now ≡ tree.Element p.x (exprs_of p.list.items) = search (rules, the_lemmas, row_is_list) in
    let right : expr_of c.args.b.now ≡ tree.Element p.y (exprs_of p.others.items) = search (rules, the_lemmas, row_is_list) in
    let name = sym c.as_slice-in-Element-Element.ensures ∙ (bytes_eq-Decides c.as_slice-in-Element-Element.result.now c.as_slice-in-Element-Element-2.result.now).0 (sym (c.if-eq.ensures)) ∙ c.as_slice-in-Element-Element-2.ensures in
    let keys = ap exprs_of (sym c.deref.ensures.value) ∙ c.are_same_keys.ensures ok ∙ ap exprs_of c.deref-then-eq.ensures.value in
    left ∙ ap (λ x. tree.Element x (exprs_of p.list.items)) name ∙ ap (λ (es : tree.Exprs). tree.Element p.y es) keys ∙ sym right
