use Rattle.std.proofs.Common.{◌≡◌, ◌+◌, ◌-◌, length, rules, sym, ap, arith}
use Rattle.awk_grammar.specs.declared.tree.Statement.TheViews.{the_lemmas}
use Rattle.awk_grammar.specs.Tree as tree
use Rattle.awk_grammar.specs.View.{statement_of, statements_of}
use Rattle.awk_kinds.proofs.Adding.{block_at, block_over}
use Rattle.awk_kinds.proofs.Rows.{row_is_block}
use Rattle.awk_resolve.proofs.Building.{ok_map}
use Rattle.awk_resolve.proofs.StatementForms.{empty_built, block_built, if_built, if_else_built, none_built, more_built}
use Rattle.awk_resolve.proofs.LoopStatements.{while_built, do_built, for_built}
use Rattle.awk_resolve.proofs.WalkStatements.{for_in_built}
use Rattle.awk_resolve.proofs.builder.Builder.+statements.Goals as goal

pub lower_if-returns : goal.lower_if-returns
lower_if-returns t c = ok_map _ (λ i r. if_built c.requires.next c.in_ok-here.ensures c.in_ok-test.ensures r) c.step.ensures

pub lower_while-returns : goal.lower_while-returns
lower_while-returns t c = ok_map _ (λ i r. while_built c.in_ok-number.ensures c.in_ok-again.ensures c.in_ok-condition.ensures c.in_ok-body.ensures c.close.ensures r) c.step.ensures

pub lower_do-returns : goal.lower_do-returns
lower_do-returns t c = ok_map _ (λ i r. do_built c.in_ok-number.ensures c.in_ok-again.ensures c.in_ok-condition.ensures c.in_ok-body.ensures c.close.ensures r) c.step.ensures

pub lower_for-returns : goal.lower_for-returns
lower_for-returns t c =
    ok_map _ (λ i r. for_built c.in_ok-number.ensures c.in_ok-again.ensures c.in_ok-condition.ensures c.in_ok-last.ensures c.in_ok-body.ensures c.close.ensures c.in_ok-first.ensures r) c.step.ensures

pub lower_for_in-returns : goal.lower_for_in-returns
lower_for_in-returns t c =
    ok_map _
    (λ i r. for_in_built c.requires.next (rw c.as_slice.ensures at c.in_ok-variable.ensures) (rw c.as_slice-2.ensures at c.in_ok-array.ensures) c.in_ok-number.ensures c.in_ok-next.ensures c.in_ok-leave.ensures c.in_ok-body.ensures c.in_ok-take.ensures c.close.ensures c.in_ok-walk.ensures r)
    c.step.ensures

pub lower_statement-returns-in-Empty : goal.lower_statement-returns-in-Empty
lower_statement-returns-in-Empty t c = rw (ap statement_of c.in-Empty.is) (empty_built c.requires.next)

pub lower_statement-returns-in-Block : goal.lower_statement-returns-in-Block
lower_statement-returns-in-Block t c =
    let is : statement_of c.args.s.now ≡ tree.Block (statements_of c.in-Block.all.items) = search (rules, the_lemmas, row_is_block) in
    let built = rw c.deref.ensures.value at c.lower_block.ensures in
    rw is (ok_map _ (λ i q. block_built q) built)

pub lower_statement-returns-in_ok-test-in-IfElse : goal.lower_statement-returns-in_ok-test-in-IfElse
lower_statement-returns-in_ok-test-in-IfElse t c = rw (ap statement_of c.in-IfElse.is) (ok_map _ (λ i r. if_else_built (rw c.deref-in-IfElse.ensures at c.in_ok-here-in-IfElse.ensures) (rw c.deref-in-IfElse-2.ensures at c.in_ok-other-in-IfElse.ensures) (rw c.deref-in-IfElse-3.ensures at c.in_ok-test-in-IfElse.ensures) r) c.step.ensures)

pub lower_block-loop-i-init : goal.lower_block-loop-i-init
lower_block-loop-i-init t c = rw (block_over c.args.all.now (length c.args.all.now) (omega arith)) (none_built c.requires.next)

pub lower_block-loop-i-preserved : goal.lower_block-loop-i-preserved
lower_block-loop-i-preserved t c =
    let back : (c.loop-i.i - 1) + 1 ≡ c.loop-i.i = omega arith in
    let is = block_at c.args.all.now (c.loop-i.i - 1) c.index-all-i.result (omega arith) (sym c.index-all-i.is) in
    rw (is, back) (more_built c.loop-i.invariant c.in_ok-next.ensures)
