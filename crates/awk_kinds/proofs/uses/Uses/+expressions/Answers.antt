use Rattle.std.proofs.Common.{◌≡◌, ◌++◌, rules, sym, ap, ◌∙◌, arith}
use Rattle.std.proofs.lemmas.Result.{IfOk-weaker}
use Rattle.awk_grammar.specs.declared.tree.Expr.TheViews.{the_lemmas}
use Rattle.awk_grammar.specs.Tree as tree
use Rattle.awk_grammar.specs.View.{expr_of, exprs_of}
use Rattle.awk_kinds.specs.definitions.Kinds.{passed, uses_in_expr}
use Rattle.awk_kinds.specs.definitions.NameUses.{count_of, names_in_expr, names_in_passed, names_in_argument}
use Rattle.awk_kinds.specs.declared.uses.NameUse.TheVariants.{Called, Computed}
use Rattle.awk_kinds.specs.support.Adds.{Adds}
use Rattle.awk_kinds.proofs.Rows.{row_is_list}
use Rattle.awk_kinds.proofs.Adding.{adds_none, adds_both, adds_arrays, list_at, list_over, count_is, arguments_at, called_at, built_in_at, not_passed, computed, argument_of_other}
use Rattle.awk_kinds.proofs.uses.Uses.+expressions.Goals as goal
use Rattle.awk_kinds.proofs.uses.Uses.+expressions.Goals.{add_arguments-in-Name+in_ok-add_passed, add_arguments-in_default+in_ok-clone+in_ok-add_name_use+in_ok-add_expr}
use Rattle.awk_kinds.proofs.uses.Uses.+expressions.Goals.{add_built_in-in-Name+in_ok-add_bare, add_built_in-in_default+in_ok-add_no_name+in_ok-add_expr}

pub add_expr-returns-in_ok-add_array-in-Element : goal.add_expr-returns-in_ok-add_array-in-Element
add_expr-returns-in_ok-add_array-in-Element t c =
    let is : expr_of c.args.e.now ≡ tree.Element c.in-Element.x (exprs_of c.in-Element.list.items) = search (rules, the_lemmas, row_is_list) in
    rw is (IfOk-weaker c.add_list.result _ _ (λ _ q. adds_both c.in_ok-add_array-in-Element.ensures (rw c.deref.ensures.value at q)) c.add_list.ensures)

pub add_expr-returns-in_ok-add_name_use-in-Call : goal.add_expr-returns-in_ok-add_name_use-in-Call
add_expr-returns-in_ok-add_name_use-in-Call t c =
    let is : expr_of c.args.e.now ≡ tree.Call c.in-Call.function (exprs_of c.in-Call.arguments.items) = search (rules, the_lemmas, row_is_list) in
    let count : c.len.result ≡ count_of (exprs_of c.in-Call.arguments.items) = sym (count_is c.in-Call.arguments.items ∙ omega arith) in
    let called : Called c.in_ok-clone-in-Call.field-0 c.len.result ≡ Called c.in-Call.function (count_of (exprs_of c.in-Call.arguments.items)) = ap (λ f. Called f c.len.result) c.in_ok-clone-in-Call.ensures.cases ∙ ap (Called c.in-Call.function) count in
    rw is (IfOk-weaker c.add_arguments.result _ _ (λ _ q. adds_both (rw called at c.in_ok-add_name_use-in-Call.ensures) (rw c.deref-in-Call.ensures.value at q)) c.add_arguments.ensures)

pub add_expr-returns-in_ok-add_split-in-BuiltIn : goal.add_expr-returns-in_ok-add_split-in-BuiltIn
add_expr-returns-in_ok-add_split-in-BuiltIn t c =
    let is : expr_of c.args.e.now ≡ tree.BuiltIn c.in-BuiltIn.function (exprs_of c.in-BuiltIn.arguments.items) = search (rules, the_lemmas, row_is_list) in
    rw is (IfOk-weaker c.add_built_in.result _ _ (λ _ q. adds_both (rw c.deref-in-BuiltIn.ensures.value at c.in_ok-add_split-in-BuiltIn.ensures) (rw c.deref-in-BuiltIn-2.ensures.value at q)) c.add_built_in.ensures)

pub add_expr-returns-in_ok-add_list-in-ListMembership : goal.add_expr-returns-in_ok-add_list-in-ListMembership
add_expr-returns-in_ok-add_list-in-ListMembership t c =
    let is : expr_of c.args.e.now ≡ tree.ListMembership (exprs_of c.in-ListMembership.list.items) c.in-ListMembership.array = search (rules, the_lemmas, row_is_list) in
    rw is (IfOk-weaker c.add_array-in-ListMembership.result _ _ (λ _ q. adds_arrays (rw c.deref-in-ListMembership.ensures.value at c.in_ok-add_list-in-ListMembership.ensures) q) c.add_array-in-ListMembership.ensures)

pub add_list-loop-e-preserved : goal.add_list-loop-e-preserved
add_list-loop-e-preserved t c = λ new h.
    c.loop-e.invariant new (rw (list_at c.args.list.now c.loop-e.e-index c.e-item.result (omega arith) (sym c.e-item.is)) (adds_both c.in_ok-add_expr.ensures h))

pub add_list-returns : goal.add_list-returns
add_list-returns t c = c.loop-e.invariant _ (rw (list_over c.args.list.now c.loop-e.e-index (omega arith)) adds_none)

pub add_arguments-returns : goal.add_arguments-returns
add_arguments-returns t c = c.loop-i.invariant _ (rw (list_over c.args.list.now c.loop-i.i (omega arith)) adds_none)

pub add_arguments-loop-i-preserved : goal.add_arguments-loop-i-preserved
add_arguments-loop-i-preserved t c = λ new h.
    let scope = c.args.scope.now in
    let f = c.args.function.now in
    let i = c.loop-i.i in
    let e = c.index-list-i.result in
    let step : Adds c.loop-i.self c.match-e.self (passed scope f i (expr_of e) ++ uses_in_expr scope (expr_of e)) (names_in_passed f i (expr_of e) (names_in_expr scope (expr_of e))) =
    elim c.match-e.branch [
      | add_arguments-in-Name+in_ok-add_passed w ↦ rw (w.self-is, ap expr_of w.in-Name.is) w.in_ok-add_passed.ensures
      | add_arguments-in_default+in_ok-clone+in_ok-add_name_use+in_ok-add_expr w ↦
          let called : Computed w.in_ok-clone.field-0 i ≡ Computed f i = ap (λ g. Computed g i) w.in_ok-clone.ensures.cases in
          rw (w.self-is, not_passed scope f i e (λ x eq. w.in_default.not-Name x eq), computed f i e (names_in_expr scope (expr_of e)) (λ x eq. w.in_default.not-Name x eq))
          (adds_both (rw called at w.in_ok-add_name_use.ensures) w.in_ok-add_expr.ensures)
    ] in
    c.loop-i.invariant new (rw (arguments_at scope f c.args.list.now i e (omega arith) (sym c.index-list-i.is), called_at scope f c.args.list.now i e (omega arith) (sym c.index-list-i.is)) (adds_both step h))

pub add_built_in-returns : goal.add_built_in-returns
add_built_in-returns t c = c.loop-i.invariant _ (rw (list_over c.args.list.now c.loop-i.i (omega arith)) adds_none)

pub add_built_in-loop-i-preserved : goal.add_built_in-loop-i-preserved
add_built_in-loop-i-preserved t c = λ new h.
    let scope = c.args.scope.now in
    let f = c.args.function in
    let i = c.loop-i.i in
    let e = c.index-list-i.result in
    let step : Adds c.loop-i.self c.match-e.self (uses_in_expr scope (expr_of e)) (names_in_argument scope f i (expr_of e) (names_in_expr scope (expr_of e))) =
    elim c.match-e.branch [
      | add_built_in-in-Name+in_ok-add_bare w ↦ rw (w.self-is, ap expr_of w.in-Name.is) w.in_ok-add_bare.ensures
      | add_built_in-in_default+in_ok-add_no_name+in_ok-add_expr w ↦
          rw (w.self-is, argument_of_other scope f i e (names_in_expr scope (expr_of e)) (λ x eq. w.in_default.not-Name x eq))
          (adds_both w.in_ok-add_no_name.ensures w.in_ok-add_expr.ensures)
    ] in
    c.loop-i.invariant new (rw (built_in_at scope f c.args.list.now i e (omega arith) (sym c.index-list-i.is), list_at c.args.list.now i e (omega arith) (sym c.index-list-i.is)) (adds_both step h))
