use Rattle.std.proofs.Common.{◌≡◌, rules, sym, ap, ◌∙◌}
use Rattle.awk_lex.specs.declared.token.BuiltIn.TheVariants as builtin
use Rattle.awk_grammar.specs.declared.tree.Expr.TheViews.{the_lemmas}
use Rattle.awk_grammar.specs.Tree as tree
use Rattle.awk_grammar.specs.View.{expr_of, exprs_of}
use Rattle.awk_kinds.proofs.Rows.{row_is_list}
use Rattle.awk_merging.proofs.derived.cells.is_newline_found.Goals as goal

pub returns-in-BuiltIn-Index-default : goal.returns-in-BuiltIn-Index-default
returns-in-BuiltIn-Index-default c = λ ok.
    let es = exprs_of c.in-BuiltIn-Index-default.list.items in
    let is : expr_of c.args.e.now ≡ tree.BuiltIn builtin.Index es = search (rules, the_lemmas, row_is_list) in
    let list = ap exprs_of (sym c.deref.ensures.value) ∙ c.is_key_and_newline.ensures ok in
    is ∙ ap (λ es. tree.BuiltIn builtin.Index es) list
