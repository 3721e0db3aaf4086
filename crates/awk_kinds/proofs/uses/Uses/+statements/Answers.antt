use Rattle.std.proofs.Common.{◌≡◌, rules, sym, arith}
use Rattle.std.proofs.lemmas.Result.{IfOk-weaker}
use Rattle.awk_grammar.specs.declared.tree.Statement.TheViews.{the_lemmas}
use Rattle.awk_grammar.specs.Tree as tree
use Rattle.awk_grammar.specs.View.{statement_of, statements_of}
use Rattle.awk_kinds.proofs.Rows.{row_is_block}
use Rattle.awk_kinds.proofs.Adding.{adds_none, adds_both, block_at, block_over}
use Rattle.awk_kinds.proofs.uses.Uses.+statements.Goals as goal

pub add_statement-returns-in-Block : goal.add_statement-returns-in-Block
add_statement-returns-in-Block t c =
    let is : statement_of c.args.s.now ≡ tree.Block (statements_of c.in-Block.all.items) = search (rules, the_lemmas, row_is_block) in
    rw is (IfOk-weaker c.add_block.result _ _ (λ _ q. (rw c.deref.ensures.value at q)) c.add_block.ensures)

pub add_block-loop-s-preserved : goal.add_block-loop-s-preserved
add_block-loop-s-preserved t c = λ new h.
    c.loop-s.invariant new (rw (block_at c.args.all.now c.loop-s.s-index c.s-item.result (omega arith) (sym c.s-item.is)) (adds_both c.in_ok-add_statement.ensures h))

pub add_block-returns : goal.add_block-returns
add_block-returns t c = c.loop-s.invariant _ (rw (block_over c.args.all.now c.loop-s.s-index (omega arith)) adds_none)
