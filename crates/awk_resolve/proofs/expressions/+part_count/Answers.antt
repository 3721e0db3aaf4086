use Rattle.std.proofs.Common.{◌≡◌, suc, rules, sym, ap, ◌∙◌}
use Rattle.awk_grammar.specs.declared.tree.Expr.TheViews.{the_lemmas}
use Rattle.awk_grammar.specs.declared.tree.BinaryOperator.TheVariants.{Concatenate}
use Rattle.awk_grammar.specs.Tree as tree
use Rattle.awk_grammar.specs.View.{expr_of}
use Rattle.awk_kinds.specs.definitions.NameUses.{count_of}
use Rattle.awk_resolve.specs.support.Parts.{parts_of}
use Rattle.awk_resolve.proofs.PartForms.{count_with_last}
use Rattle.awk_resolve.proofs.expressions.+part_count.Goals as goal

pub returns-in_ok-part_count-in-Binary-Concatenate-default-default : goal.returns-in_ok-part_count-in-Binary-Concatenate-default-default
returns-in_ok-part_count-in-Binary-Concatenate-default-default t c =
    let x = c.in-Binary-Concatenate-default-default in
    let before = c.in_ok-part_count-in-Binary-Concatenate-default-default in
    let is : expr_of c.args.e.now ≡ tree.Binary Concatenate (expr_of x.a.value) (expr_of x.field-2.value) = search (rules, the_lemmas) in
    let of_left : before.field-0 ≡ count_of (parts_of (expr_of x.a.value)) = rw c.deref.ensures at before.ensures in
    let count : count_of (parts_of (expr_of c.args.e.now)) ≡ suc before.field-0 = ap (λ (e : tree.Expr). count_of (parts_of e)) is ∙ count_with_last (parts_of (expr_of x.a.value)) (expr_of x.field-2.value) ∙ ap suc (sym of_left) in
    rw count c.one_more.ensures
