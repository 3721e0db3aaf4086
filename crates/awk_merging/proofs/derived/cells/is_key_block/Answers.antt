use Rattle.std.proofs.Common.{◌≡◌, rules, sym, ap, ◌∙◌}
use Rattle.awk_grammar.specs.declared.tree.Statement.TheViews.{the_lemmas}
use Rattle.awk_grammar.specs.Tree as tree
use Rattle.awk_grammar.specs.View.{statement_of, statements_of}
use Rattle.awk_kinds.proofs.Rows.{row_is_block}
use Rattle.awk_merging.proofs.derived.cells.is_key_block.Goals as goal

pub returns-in-Block : goal.returns-in-Block
returns-in-Block c = λ ok.
    let all = statements_of c.in-Block.all.items in
    let is : statement_of c.args.s.now ≡ tree.Block all = search (rules, the_lemmas, row_is_block) in
    is ∙ ap (λ all. tree.Block all) (ap statements_of (sym c.deref.ensures.value) ∙ c.are_key_prints.ensures ok)
