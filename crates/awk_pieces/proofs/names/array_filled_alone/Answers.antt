use Rattle.std.proofs.Common.{◌≡◌, rules}
use Rattle.awk_lex.specs.declared.token.BuiltIn.TheVariants as built_in
use Rattle.awk_grammar.specs.Tree as tree
use Rattle.awk_grammar.specs.View.{expr_of, exprs_of}
use Rattle.awk_grammar.specs.declared.tree.Expr.TheViews.{the_lemmas}
use Rattle.awk_kinds.proofs.Rows.{row_is_list}
use Rattle.awk_pieces.proofs.names.array_filled_alone.Goals as goal

pub returns-in-BuiltIn-Split-default : goal.returns-in-BuiltIn-Split-default
returns-in-BuiltIn-Split-default c =
    let is : expr_of c.args.e.now ≡ tree.BuiltIn built_in.Split (exprs_of c.in-BuiltIn-Split-default.arguments.items) = search (rules, the_lemmas, row_is_list) in
    rw is (rw c.deref.ensures.value at c.array_split.ensures)
