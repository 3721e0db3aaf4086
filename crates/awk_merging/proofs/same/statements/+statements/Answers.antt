use Rattle.std.proofs.Common.{◌≡◌, rules, sym, ap, ◌∙◌}
use Rattle.awk_grammar.specs.declared.tree.Statement.TheViews.{the_lemmas}
use Rattle.awk_grammar.specs.Tree as tree
use Rattle.awk_grammar.specs.View.{statement_of, statements_of}
use Rattle.awk_kinds.proofs.Rows.{row_is_block}
use Rattle.awk_merging.proofs.same.statements.+statements.Goals as goal

pub same_statement-returns-in-Block-Block : goal.same_statement-returns-in-Block-Block
same_statement-returns-in-Block-Block t c = λ ok.
    let p = c.in-Block-Block in
    let xs = statements_of p.all.items in
    let ys = statements_of p.others.items in
    let left : statement_of c.args.a.now ≡ tree.Block xs = search (rules, the_lemmas, row_is_block) in
    let right : statement_of c.args.b.now ≡ tree.Block ys = search (rules, the_lemmas, row_is_block) in
    let from = c.deref.ensures.value in
    let to = c.deref-in-Block-Block.ensures.value in
    let all = ap statements_of (sym from) ∙ c.same_statements.ensures ok ∙ ap statements_of to in
    left ∙ ap (λ all. tree.Block all) all ∙ sym right
