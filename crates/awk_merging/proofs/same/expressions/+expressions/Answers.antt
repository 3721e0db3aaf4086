use Rattle.std.proofs.Common.{◌≡◌, rules, sym, ap, ◌∙◌}
use Rattle.awk_grammar.specs.declared.tree.Expr.TheViews.{the_lemmas}
use Rattle.awk_grammar.specs.Tree as tree
use Rattle.awk_grammar.specs.View.{expr_of, exprs_of}
use Rattle.awk_kinds.proofs.Rows.{row_is_list}
use Rattle.awk_merging.proofs.same.expressions.+expressions.Goals as goal

pub same_expr-returns-then-same_bytes : goal.same_expr-returns-then-same_bytes
same_expr-returns-then-same_bytes t c = λ ok.
    let p = c.in-Element-Element in
    let xs = exprs_of p.list.items in
    let ys = exprs_of p.others.items in
    let left : expr_of c.args.a.now ≡ tree.Element p.x xs = search (rules, the_lemmas, row_is_list) in
    let right : expr_of c.args.b.now ≡ tree.Element p.y ys = search (rules, the_lemmas, row_is_list) in
    let name = c.same_bytes.ensures c.if-same_bytes.true in
    let from = c.deref.ensures.value in
    let list = ap exprs_of (sym from) ∙ c.same_exprs.ensures ok ∙ ap exprs_of c.deref-then-same_bytes.ensures.value in
    left ∙ ap (λ x. tree.Element x xs) name ∙ ap (λ es. tree.Element p.y es) list ∙ sym right

pub same_expr-returns-then-same_bytes-2 : goal.same_expr-returns-then-same_bytes-2
same_expr-returns-then-same_bytes-2 t c = λ ok.
    let p = c.in-Call-Call in
    let xs = exprs_of p.list.items in
    let ys = exprs_of p.others.items in
    let left : expr_of c.args.a.now ≡ tree.Call p.f xs = search (rules, the_lemmas, row_is_list) in
    let right : expr_of c.args.b.now ≡ tree.Call p.g ys = search (rules, the_lemmas, row_is_list) in
    let name = c.same_bytes-in-Call-Call.ensures c.if-same_bytes-2.true in
    let from = c.deref-then-same_bytes-2.ensures.value in
    let to = c.deref-then-same_bytes-2-2.ensures.value in
    let list = ap exprs_of (sym from) ∙ c.same_exprs-then-same_bytes-2.ensures ok ∙ ap exprs_of to in
    left ∙ ap (λ f. tree.Call f xs) name ∙ ap (λ es. tree.Call p.g es) list ∙ sym right

pub same_expr-returns-then-same_built_in : goal.same_expr-returns-then-same_built_in
same_expr-returns-then-same_built_in t c = λ ok.
    let p = c.in-BuiltIn-BuiltIn in
    let xs = exprs_of p.list.items in
    let ys = exprs_of p.others.items in
    let left : expr_of c.args.a.now ≡ tree.BuiltIn p.f xs = search (rules, the_lemmas, row_is_list) in
    let right : expr_of c.args.b.now ≡ tree.BuiltIn p.g ys = search (rules, the_lemmas, row_is_list) in
    let name = c.same_built_in.ensures c.if-same_built_in.true in
    let from = c.deref-then-same_built_in.ensures.value in
    let to = c.deref-then-same_built_in-2.ensures.value in
    let list = ap exprs_of (sym from) ∙ c.same_exprs-then-same_built_in.ensures ok ∙ ap exprs_of to in
    left ∙ ap (λ f. tree.BuiltIn f xs) name ∙ ap (λ es. tree.BuiltIn p.g es) list ∙ sym right

pub same_expr-returns-then-same_exprs : goal.same_expr-returns-then-same_exprs
same_expr-returns-then-same_exprs t c = λ ok.
    let p = c.in-ListMembership-ListMembership in
    let xs = exprs_of p.list.items in
    let ys = exprs_of p.others.items in
    let left : expr_of c.args.a.now ≡ tree.ListMembership xs p.x = search (rules, the_lemmas, row_is_list) in
    let right : expr_of c.args.b.now ≡ tree.ListMembership ys p.y = search (rules, the_lemmas, row_is_list) in
    let from = c.deref-in-ListMembership-ListMembership.ensures.value in
    let to = c.deref-in-ListMembership-ListMembership-2.ensures.value in
    let same = c.same_exprs-in-ListMembership-ListMembership.ensures c.if-same_exprs.true in
    let list = ap exprs_of (sym from) ∙ same ∙ ap exprs_of to in
    let name = c.same_bytes-then-same_exprs.ensures ok in
    left ∙ ap (λ es. tree.ListMembership es p.x) list ∙ ap (λ x. tree.ListMembership ys x) name ∙ sym right
