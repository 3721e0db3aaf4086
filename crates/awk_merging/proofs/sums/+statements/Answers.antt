use Rattle.std.proofs.Common.{◌≡◌, ℕ, Bool, suc, ◌+◌, ◌<◌, List, ◌∷◌, ◌++◌, length, get_or, drop, Result, Ok, Err, OnOk, sym, ap, ◌∙◌, add-one, drop-cons, rules}
use Rattle.std.specs.declared.alloc.AllocError.{AllocError}
use Rattle.awk_grammar.specs.Tree as g
use Rattle.awk_grammar.specs.View.{expr_of, optional_simple_of, statement_of, statements_of}
use Rattle.awk_grammar.specs.declared.tree.Statement.{Statement}
use Rattle.awk_grammar.specs.declared.tree.Statement.TheViews.{the_lemmas}
use Rattle.awk_kinds.proofs.Rows.{row_is_block}
use Rattle.awk_pieces.specs.definitions.Pieceable.{is_own}
use Rattle.awk_merging.specs.definitions.Sums.{Sum}
use Rattle.awk_merging.specs.definitions.Mergeable.{sum_in_part, sums_in, sums_in_all}
use Rattle.awk_merging.specs.support.WithSums.{with_sums}
use Rattle.awk_merging.proofs.SumsFound.{with_sums-append}
use Rattle.awk_merging.proofs.sums.+statements.Goals as goal

pub add_of_statement-returns-in-Block : goal.add_of_statement-returns-in-Block
add_of_statement-returns-in-Block t c =
    let is : statement_of c.args.s.now ≡ g.Block (statements_of c.in-Block.all.items) =
    search (rules, the_lemmas, row_is_block) in
    rw is (rw c.deref.ensures.value at c.add_of_all.ensures)

both : (r : Result (Unit {0}) AllocError) (old between new xs ys : List Sum) → between ≡ with_sums old xs →
    OnOk r (new ≡ with_sums between ys) →
    OnOk r (new ≡ with_sums old (xs ++ ys))
both (Ok u) old between new xs ys first second = second ∙ ap (λ (l : List Sum). with_sums l ys) first ∙ sym (with_sums-append old xs ys)
both (Err e) old between new xs ys first second = tt

pub add_of_statement-returns-in_ok-add_of_statement-in-IfElse : goal.add_of_statement-returns-in_ok-add_of_statement-in-IfElse
add_of_statement-returns-in_ok-add_of_statement-in-IfElse t c =
    let is : statement_of c.args.s.now ≡ g.IfElse (expr_of c.in-IfElse.field-0.value) (statement_of c.in-IfElse.s.value) (statement_of c.in-IfElse.other.value) =
    search (rules, the_lemmas) in
    let first = rw c.deref-in-IfElse.ensures at c.in_ok-add_of_statement-in-IfElse.ensures in
    let second = rw c.deref-in-IfElse-2.ensures at c.add_of_statement-in-IfElse.ensures in
    rw is (both c.add_of_statement-in-IfElse.result _ _ _ (sums_in (is_own c.args.names.now) (statement_of c.in-IfElse.s.value)) (sums_in (is_own c.args.names.now) (statement_of c.in-IfElse.other.value)) first second)

pub add_of_loop-returns : goal.add_of_loop-returns
add_of_loop-returns t c =
    let own = is_own c.args.names.now in
    let rest = both c.add_of_statement.result _ _ _ (sum_in_part own (optional_simple_of c.args.parts.now.last)) (sums_in own (statement_of c.args.body.now)) c.in_ok-add_of_part-2.ensures c.add_of_statement.ensures in
    both c.add_of_statement.result _ _ _ (sum_in_part own (optional_simple_of c.args.parts.now.first)) _ c.in_ok-add_of_part.ensures rest

next : (own : List ℕ → Bool) (all : List Statement) (i : ℕ) (x : Statement) (old new end : List Sum) → i < length all → x ≡ get_or all i x →
    new ≡ with_sums old (sums_in own (statement_of x)) → with_sums old (sums_in_all own (statements_of (drop i all))) ≡ end →
    with_sums new (sums_in_all own (statements_of (drop (i + 1) all))) ≡ end
next own all i x old new end within is added so_far =
    let left : drop i all ≡ x ∷ drop (i + 1) all =
    rw (add-one, drop-cons all i x) (ap (λ (y : Statement). y ∷ drop (suc i) all) (sym is)) in
    ap (λ (l : List Sum). with_sums l (sums_in_all own (statements_of (drop (i + 1) all)))) added
    ∙ sym (with_sums-append old (sums_in own (statement_of x)) (sums_in_all own (statements_of (drop (i + 1) all))))
    ∙ ap (λ (l : List Statement). with_sums old (sums_in_all own (statements_of l))) (sym left)
    ∙ so_far

pub add_of_all-loop-s-preserved : goal.add_of_all-loop-s-preserved
add_of_all-loop-s-preserved t c =
    next (is_own c.args.names.now) c.args.all.now c.loop-s.s-index c.s-item.result _ _ _ c.loop-s-test.true c.s-item.is c.in_ok-add_of_statement.ensures c.loop-s.invariant
