use Rattle.std.proofs.Common.{◌≡◌, rules}
use Rattle.awk_grammar.specs.Tree as tree
use Rattle.awk_grammar.specs.View.{statement_of, statements_of}
use Rattle.awk_grammar.specs.declared.tree.Statement.TheViews.{the_lemmas}
use Rattle.awk_kinds.proofs.Rows.{row_is_block}
use Rattle.awk_pieces.proofs.names.+names.Goals as goal

pub add_names-returns-in-Block : goal.add_names-returns-in-Block
add_names-returns-in-Block t c =
    let is : statement_of c.args.s.now ≡ tree.Block (statements_of c.in-Block.all.items) = search (rules, the_lemmas, row_is_block) in
    rw is (rw c.deref.ensures.value at c.add_all_names.ensures)
