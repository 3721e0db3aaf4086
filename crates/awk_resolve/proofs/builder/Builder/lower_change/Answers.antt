use Rattle.std.proofs.Common.{◌≡◌, rules}
use Rattle.awk_lex.specs.declared.token.BuiltIn.TheVariants as built_in
use Rattle.awk_grammar.specs.declared.tree.Expr.TheViews.{the_lemmas}
use Rattle.awk_grammar.specs.Tree as tree
use Rattle.awk_grammar.specs.View.{expr_of, exprs_of}
use Rattle.awk_kinds.proofs.Rows.{row_is_list}
use Rattle.awk_resolve.proofs.builder.Builder.lower_change.Goals as goal

pub returns-in-BuiltIn-Sub-default : goal.returns-in-BuiltIn-Sub-default
returns-in-BuiltIn-Sub-default c =
    let is : expr_of c.args.e.now ≡ tree.BuiltIn built_in.Sub (exprs_of c.in-BuiltIn-Sub-default.list.items) = search (rules, the_lemmas, row_is_list) in
    rw is (rw c.deref-in-BuiltIn-Sub-default.ensures.value at c.lower_exchange.ensures)

pub returns-in-BuiltIn-Gsub-default : goal.returns-in-BuiltIn-Gsub-default
returns-in-BuiltIn-Gsub-default c =
    let is : expr_of c.args.e.now ≡ tree.BuiltIn built_in.Gsub (exprs_of c.in-BuiltIn-Gsub-default.list.items) = search (rules, the_lemmas, row_is_list) in
    rw is (rw c.deref-in-BuiltIn-Gsub-default.ensures.value at c.lower_exchange-in-BuiltIn-Gsub-default.ensures)
