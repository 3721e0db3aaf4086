use Rattle.std.proofs.Common.{◌≡◌, suc, ◌+◌, refl, arith, true, sym, ap, ap₂, ◌∙◌, subst, rules, Ok, IfOk, ◌++◌, append_assoc, drop}
use Rattle.std.proofs.Math.Seq.{drop-cons}
use Rattle.awk_grammar.specs.Tree as tree
use Rattle.awk_grammar.specs.View.{expr_of, statement_of, statements_of, optional_simple_of, optional_expr_of}
use Rattle.awk_grammar.specs.declared.tree.Statement.TheViews.{the_lemmas}
use Rattle.awk_kinds.proofs.Rows.{row_is_block}
use Rattle.awk_pieces.specs.definitions.Pieceable.{no_own, also, name_set_first, name_behind, listed, keeps_to_record, may_keep_to_record}
use Rattle.awk_pieces.specs.support.Known.{own_of}
use Rattle.awk_pieces.proofs.Alike.{Names}
use Rattle.awk_pieces.proofs.KnownNames.{added_on, unchanged_on, second_stops, third_stops, fourth_stops, all_hold}
use Rattle.awk_merging.specs.definitions.Mergeable.{knows, is_part_summing, only_sums, all_only_sum}
use Rattle.awk_merging.specs.support.Others.{known_in}
use Rattle.awk_merging.specs.support.SumsOf.{sums_of}
use Rattle.awk_merging.proofs.record_rules.+statements.Goals as goal

pub only_sums-returns-in-Block-clause-is : goal.only_sums-returns-in-Block-clause-is
only_sums-returns-in-Block-clause-is t c =
    let is : statement_of c.args.s.now ≡ tree.Block (statements_of c.in-Block.all.items) = search (rules, the_lemmas, row_is_block) in
    rw is (rw c.deref.ensures.value at c.all_only_sum.ensures.is)

pub only_sums-returns-else-not-branch-clause-is : goal.only_sums-returns-else-not-branch-clause-is
only_sums-returns-else-not-branch-clause-is t c =
    let known = c.args.known.now in
    let whole : statement_of c.args.s.now ≡ tree.IfElse (expr_of c.in-IfElse.c.value) (statement_of c.in-IfElse.s.value) (statement_of c.in-IfElse.other.value) = search (rules, the_lemmas) in
    let told = c.in_ok-only_sums-in-IfElse.ensures {u = tt} in
    let tested : keeps_to_record (own_of known) no_own (known_in (sums_of c.args.sums.now) known) (expr_of c.in-IfElse.c.value) ≡ true = sym (rw c.deref-in-IfElse.ensures at c.keeps_to_record.ensures) ∙ c.if-not-keeps_to_record.false in
    let first : only_sums (own_of known) (sums_of c.args.sums.now) (known_in (sums_of c.args.sums.now) known) (statement_of c.in-IfElse.s.value) ≡ true = sym (rw c.deref-in-IfElse-2.ensures at told.is) ∙ c.if-not-branch.false in
    let same = ap₂ (λ (o k : Names). (o, k)) told.own (unchanged_on (λ (o : Names). knows o (sums_of c.args.sums.now)) known c.only_sums.new.known told.own (told.set (ap Ok c.if-not-branch.false))) in
    rw (whole, tested, first) (subst (λ (z : Names × Names). IfOk c.only_sums-in-IfElse.result (λ is. is ≡ only_sums z.0 (sums_of c.args.sums.now) z.1 (statement_of c.in-IfElse.other.value))) same (rw c.deref-in-IfElse-3.ensures at c.only_sums-in-IfElse.ensures.is))

pub is_loop_summing-returns-then-not-may_keep_to_record-clause-is :
    goal.is_loop_summing-returns-then-not-may_keep_to_record-clause-is
is_loop_summing-returns-then-not-may_keep_to_record-clause-is t c =
    let own = (c.in_ok-add.ensures {u = tt}).own in
    let grown = added_on (λ (o : Names). knows o (sums_of c.args.sums.now)) c.args.known.now c.add.new.self (name_set_first (optional_simple_of c.args.parts.now.first)) own (rw c.name_set_first.ensures at (c.in_ok-add.ensures {u = tt}).set) in
    second_stops _ _ _ (sym (ap₂ (λ (o k : Names). may_keep_to_record o no_own k (optional_expr_of c.args.parts.now.condition)) own grown) ∙ (sym c.may_keep_to_record.ensures ∙ c.if-not-may_keep_to_record.true))

pub is_loop_summing-returns-then-not-is_part_summing-2-clause-is :
    goal.is_loop_summing-returns-then-not-is_part_summing-2-clause-is
is_loop_summing-returns-then-not-is_part_summing-2-clause-is t c =
    let own = (c.in_ok-add.ensures {u = tt}).own in
    let grown = added_on (λ (o : Names). knows o (sums_of c.args.sums.now)) c.args.known.now c.add.new.self (name_set_first (optional_simple_of c.args.parts.now.first)) own (rw c.name_set_first.ensures at (c.in_ok-add.ensures {u = tt}).set) in
    third_stops _ _ _ _ (sym (ap₂ (λ (o k : Names). is_part_summing o (sums_of c.args.sums.now) k (optional_simple_of c.args.parts.now.last)) own grown) ∙ (sym c.is_part_summing-2.ensures ∙ c.if-not-is_part_summing-2.true))

pub is_loop_summing-returns-then-not-branch-clause-is :
    goal.is_loop_summing-returns-then-not-branch-clause-is
is_loop_summing-returns-then-not-branch-clause-is t c =
    let own = (c.in_ok-add.ensures {u = tt}).own in
    let grown = added_on (λ (o : Names). knows o (sums_of c.args.sums.now)) c.args.known.now c.add.new.self (name_set_first (optional_simple_of c.args.parts.now.first)) own (rw c.name_set_first.ensures at (c.in_ok-add.ensures {u = tt}).set) in
    let known = c.args.known.now in
    let more = also (own_of known) (name_set_first (optional_simple_of c.args.parts.now.first)) (known_in (sums_of c.args.sums.now) known) in
    fourth_stops (is_part_summing (own_of known) (sums_of c.args.sums.now) (known_in (sums_of c.args.sums.now) known) (optional_simple_of c.args.parts.now.first)) (may_keep_to_record (own_of known) no_own more (optional_expr_of c.args.parts.now.condition))
    (is_part_summing (own_of known) (sums_of c.args.sums.now) more (optional_simple_of c.args.parts.now.last)) (only_sums (own_of known) (sums_of c.args.sums.now) more (statement_of c.args.body.now)) (sym (ap₂ (λ (o k : Names). only_sums o (sums_of c.args.sums.now) k (statement_of c.args.body.now)) own grown) ∙ (sym (c.in_ok-only_sums.ensures {u = tt}).is ∙ c.if-not-branch.true))

pub is_loop_summing-returns-clause-is : goal.is_loop_summing-returns-clause-is
is_loop_summing-returns-clause-is t c =
    let own = (c.in_ok-add.ensures {u = tt}).own in
    let grown = added_on (λ (o : Names). knows o (sums_of c.args.sums.now)) c.args.known.now c.add.new.self (name_set_first (optional_simple_of c.args.parts.now.first)) own (rw c.name_set_first.ensures at (c.in_ok-add.ensures {u = tt}).set) in
    all_hold _ _ _ _ (sym c.is_part_summing.ensures ∙ c.if-not-is_part_summing.false)
    (sym (ap₂ (λ (o k : Names). may_keep_to_record o no_own k (optional_expr_of c.args.parts.now.condition)) own grown) ∙ (sym c.may_keep_to_record.ensures ∙ c.if-not-may_keep_to_record.false))
    (sym (ap₂ (λ (o k : Names). is_part_summing o (sums_of c.args.sums.now) k (optional_simple_of c.args.parts.now.last)) own grown) ∙ (sym c.is_part_summing-2.ensures ∙ c.if-not-is_part_summing-2.false))
    (sym (ap₂ (λ (o k : Names). only_sums o (sums_of c.args.sums.now) k (statement_of c.args.body.now)) own grown) ∙ (sym (c.in_ok-only_sums.ensures {u = tt}).is ∙ c.if-not-branch.false))

pub all_only_sum-loop-s-preserved : goal.all_only_sum-loop-s-preserved
all_only_sum-loop-s-preserved t c =
    let told = c.in_ok-only_sums.ensures {u = tt} in
    let more = c.in_ok-add.ensures {u = tt} in
    let before = c.loop-s.known in
    let first = told.set (ap Ok c.if-not-branch.false) in
    let own = more.own ∙ told.own in
    let set = (rw c.name_behind.ensures at more.set) ∙ ap (λ xs. xs ++ listed (name_behind (statement_of c.s-item.result))) first in
    let front = c.loop-s.invariant.1 in
    let grown = added_on (λ (o : Names). knows o (sums_of c.args.sums.now)) before c.add.new.self (name_behind (statement_of c.s-item.result)) own set in
    let rest = statements_of (drop (c.loop-s.s-index + 1) c.args.all.now) in
    let next : c.loop-s.s-index + 1 ≡ suc c.loop-s.s-index = omega arith in
    let step : statements_of (drop c.loop-s.s-index c.args.all.now) ≡ tree.Then (statement_of c.s-item.result) rest =
    rw next (ap statements_of (drop-cons c.args.all.now c.loop-s.s-index c.s-item.result (omega arith)) ∙ ap (λ x. tree.Then (statement_of x) (statements_of (drop (suc c.loop-s.s-index) c.args.all.now))) (sym c.s-item.is)) in
    let is : only_sums (own_of before) (sums_of c.args.sums.now) (known_in (sums_of c.args.sums.now) before) (statement_of c.s-item.result) ≡ true = sym told.is ∙ c.if-not-branch.false in (
      own ∙ c.loop-s.invariant.0,
      (front.0 ++ listed (name_behind (statement_of c.s-item.result)), set ∙ (ap (λ xs. xs ++ listed (name_behind (statement_of c.s-item.result))) front.1 ∙ append_assoc c.args.known.now.set.items front.0 (listed (name_behind (statement_of c.s-item.result))))),
      ap₂ (λ (o k : Names). all_only_sum o (sums_of c.args.sums.now) k rest) own grown ∙ (rw (step, is) refl ∙ c.loop-s.invariant.2),
    )
