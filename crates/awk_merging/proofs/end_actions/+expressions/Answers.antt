use Rattle.std.proofs.Common.{◌≡◌, true, false, sym, ◌∙◌, rules}
use Rattle.awk_grammar.specs.Tree as g
use Rattle.awk_grammar.specs.View.{expr_of, exprs_of}
use Rattle.awk_grammar.specs.declared.tree.Expr.TheViews.{the_lemmas}
use Rattle.awk_kinds.proofs.Rows.{row_is_list}
use Rattle.awk_merging.specs.definitions.Mergeable.{makes_value, is_array_sum}
use Rattle.awk_merging.specs.support.SumsOf.{sums_of}
use Rattle.awk_merging.proofs.end_actions.+expressions.Goals as goal

pub reads_sums-returns-then-makes_value : goal.reads_sums-returns-then-makes_value
reads_sums-returns-then-makes_value t c =
    let is : expr_of c.args.e.now ≡ g.BuiltIn c.in-BuiltIn.function (exprs_of c.in-BuiltIn.arguments.items) =
    search (rules, the_lemmas, row_is_list) in
    let may : makes_value c.in-BuiltIn.function (exprs_of c.in-BuiltIn.arguments.items) ≡ true =
    sym (rw c.deref-in-BuiltIn.ensures.value at c.makes_value.ensures) ∙ c.if-makes_value.true in
    rw (is, may) (rw c.deref-then-makes_value.ensures.value at c.all_read_sums-then-makes_value.ensures)

pub reads_sums-returns-else-makes_value : goal.reads_sums-returns-else-makes_value
reads_sums-returns-else-makes_value t c =
    let is : expr_of c.args.e.now ≡ g.BuiltIn c.in-BuiltIn.function (exprs_of c.in-BuiltIn.arguments.items) =
    search (rules, the_lemmas, row_is_list) in
    let may : makes_value c.in-BuiltIn.function (exprs_of c.in-BuiltIn.arguments.items) ≡ false =
    sym (rw c.deref-in-BuiltIn.ensures.value at c.makes_value.ensures) ∙ c.if-makes_value.false in
    rw (is, may) c.if-makes_value.false

pub reads_sums-returns-then-is_array_sum : goal.reads_sums-returns-then-is_array_sum
reads_sums-returns-then-is_array_sum t c =
    let is : expr_of c.args.e.now ≡ g.Element c.in-Element.array (exprs_of c.in-Element.subscripts.items) =
    search (rules, the_lemmas, row_is_list) in
    let named : is_array_sum (sums_of c.args.others.now.sums.now) c.in-Element.array ≡ true =
    sym (rw c.as_slice-in-Element.ensures at c.is_array_sum.ensures) ∙ c.if-is_array_sum.true in
    rw (is, named) (rw c.deref-then-is_array_sum.ensures.value at c.all_read_sums.ensures)

pub reads_sums-returns-then-is_array_sum-2 : goal.reads_sums-returns-then-is_array_sum-2
reads_sums-returns-then-is_array_sum-2 t c =
    let is : expr_of c.args.e.now ≡ g.ListMembership (exprs_of c.in-ListMembership.list.items) c.in-ListMembership.array =
    search (rules, the_lemmas, row_is_list) in
    let named : is_array_sum (sums_of c.args.others.now.sums.now) c.in-ListMembership.array ≡ true =
    sym (rw c.as_slice-in-ListMembership.ensures at c.is_array_sum-in-ListMembership.ensures) ∙ c.if-is_array_sum-2.true in
    rw (is, named) (rw c.deref-then-is_array_sum-2.ensures.value at c.all_read_sums-then-is_array_sum-2.ensures)
