use Rattle.std.proofs.Common.{◌≡◌, false, rules, ap}
use Rattle.awk_grammar.specs.declared.tree.Expr.TheViews.{the_lemmas}
use Rattle.awk_grammar.specs.declared.tree.BinaryOperator.TheVariants.{Concatenate}
use Rattle.awk_grammar.specs.Tree as tree
use Rattle.awk_grammar.specs.View.{expr_of}
use Rattle.awk_resolve.specs.support.Parts.{is_concatenation, parts_behind}
use Rattle.awk_resolve.proofs.Building.{ok_map}
use Rattle.awk_resolve.proofs.ListForms.{none_lowered}
use Rattle.awk_resolve.proofs.PartForms.{part_lowered, no_parts_behind}
use Rattle.awk_resolve.proofs.builder.Builder.+lower_parts_behind.Goals as goal

pub returns-in_default : goal.returns-in_default
returns-in_default t c =
    let other : is_concatenation (expr_of c.args.e.now) ≡ false = search (rules, the_lemmas) in
    rw (no_parts_behind (expr_of c.args.e.now) other) (none_lowered c.requires)

pub returns-in_default-2 : goal.returns-in_default-2
returns-in_default-2 t c =
    let other : is_concatenation (expr_of c.args.e.now) ≡ false = search (rules, the_lemmas) in
    rw (no_parts_behind (expr_of c.args.e.now) other) (none_lowered c.requires)

pub returns : goal.returns
returns t c =
    let x = c.in-Binary-Concatenate-default-default in
    let is : expr_of c.args.e.now ≡ tree.Binary Concatenate (expr_of x.a.value) (expr_of x.b.value) = search (rules, the_lemmas) in
    rw (ap parts_behind is) (ok_map _ (λ i q. part_lowered (rw c.deref.ensures at c.in_ok-last.ensures) q) (rw c.deref-2.ensures at c.lower_parts_behind.ensures))
