use Rattle.std.proofs.Common.{◌≡◌, false, rules, ap}
use Rattle.awk_grammar.specs.declared.tree.Expr.TheViews.{the_lemmas}
use Rattle.awk_grammar.specs.declared.tree.BinaryOperator.TheVariants.{Concatenate}
use Rattle.awk_grammar.specs.Tree as tree
use Rattle.awk_grammar.specs.View.{expr_of}
use Rattle.awk_resolve.specs.support.Parts.{is_concatenation, parts_of}
use Rattle.awk_resolve.proofs.PartForms.{parts_whole}
use Rattle.awk_resolve.proofs.AppendsInPlace.{one_operand_more}
use Rattle.awk_resolve.proofs.builder.Builder.+parts_in_place.Goals as goal
use Rattle.awk_resolve.proofs.builder.Builder.+parts_in_place.Goals.{in_default-via-in-Binary+in_default, in_default-via-in_default}

pub returns-in_default : goal.returns-in_default
returns-in_default t c =
    let other : is_concatenation (expr_of c.args.e.now) ≡ false = elim c.in_default.branch [ in_default-via-in-Binary+in_default w ↦ search (rules, the_lemmas) | in_default-via-in_default w ↦ search (rules, the_lemmas) ] in
    rw (parts_whole (expr_of c.args.e.now) other) c.part_in_place.ensures

pub returns : goal.returns
returns t c =
    let x = c.in-Binary-Concatenate-default-default in
    let is : expr_of c.args.e.now ≡ tree.Binary Concatenate (expr_of x.a.value) (expr_of x.b.value) = search (rules, the_lemmas) in
    let front = rw c.deref.ensures at (rw c.in-Some.is at c.in_ok-operands.ensures) in
    let last = rw c.deref-2.ensures at (rw c.in-Some-2.is at c.in_ok-operand.ensures) in
    rw (ap parts_of is, c.in_ok-push.ensures.items) (one_operand_more front last)
