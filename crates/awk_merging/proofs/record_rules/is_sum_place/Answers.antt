use Rattle.std.proofs.Common.{◌≡◌, true, sym, ◌∙◌, rules}
use Rattle.awk_grammar.specs.Tree as g
use Rattle.awk_grammar.specs.View.{expr_of, exprs_of}
use Rattle.awk_grammar.specs.declared.tree.Expr.TheViews.{the_lemmas}
use Rattle.awk_kinds.proofs.Rows.{row_is_list}
use Rattle.awk_merging.specs.definitions.Mergeable.{is_array_sum}
use Rattle.awk_merging.specs.support.SumsOf.{sums_of}
use Rattle.awk_merging.proofs.record_rules.is_sum_place.Goals as goal

pub returns-then-is_array_sum : goal.returns-then-is_array_sum
returns-then-is_array_sum c =
    let is : expr_of c.args.place.now ≡ g.Element c.in-Element.array (exprs_of c.in-Element.subscripts.items) =
    search (rules, the_lemmas, row_is_list) in
    let named : is_array_sum (sums_of c.args.others.now.sums.now) c.in-Element.array ≡ true =
    sym (rw c.as_slice.ensures at c.is_array_sum.ensures) ∙ c.if-is_array_sum.true in
    rw (is, named) (rw c.deref.ensures.value at c.all_keep_to_record.ensures)
