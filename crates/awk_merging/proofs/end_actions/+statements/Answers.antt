use Rattle.std.proofs.Common.{◌≡◌, suc, ◌+◌, refl, arith, Bool, true, false, ◌&&◌, Some, sym, ap, ap₂, ◌∙◌, subst, rules, Ok, IfOk, ◌++◌, append_assoc, drop}
use Rattle.std.proofs.Math.Seq.{drop-cons}
use Rattle.awk_grammar.specs.Tree as tree
use Rattle.awk_grammar.specs.View.{expr_of, statement_of, statements_of, optional_simple_of, optional_expr_of}
use Rattle.awk_grammar.specs.declared.tree.Statement.TheViews.{the_lemmas}
use Rattle.awk_kinds.proofs.Rows.{row_is_block}
use Rattle.awk_pieces.specs.definitions.Pieceable.{also, name_set_first, name_behind, listed}
use Rattle.awk_pieces.specs.support.Known.{own_of}
use Rattle.awk_pieces.proofs.Alike.{Names}
use Rattle.awk_pieces.proofs.KnownNames.{added_on, unchanged_on, second_stops, third_stops, fourth_stops, all_hold}
use Rattle.awk_merging.specs.definitions.Mergeable.{shows, reads_sums, may_read_sums, is_part_of_end, only_prints, all_only_print}
use Rattle.awk_merging.specs.support.Others.{shown_in}
use Rattle.awk_merging.specs.support.SumsOf.{sums_of}
use Rattle.awk_merging.proofs.end_actions.+statements.Goals as goal

pub only_prints-returns-in-Block-clause-is : goal.only_prints-returns-in-Block-clause-is
only_prints-returns-in-Block-clause-is t c =
    let is : statement_of c.args.s.now ≡ tree.Block (statements_of c.in-Block.all.items) = search (rules, the_lemmas, row_is_block) in
    rw is (rw c.deref.ensures.value at c.all_only_print.ensures.is)

pub only_prints-returns-else-not-branch-clause-is : goal.only_prints-returns-else-not-branch-clause-is
only_prints-returns-else-not-branch-clause-is t c =
    let known = c.args.known.now in
    let sums = sums_of c.args.sums.now in
    let whole : statement_of c.args.s.now ≡ tree.IfElse (expr_of c.in-IfElse.c.value) (statement_of c.in-IfElse.s.value) (statement_of c.in-IfElse.other.value) = search (rules, the_lemmas) in
    let told = c.in_ok-only_prints-in-IfElse.ensures {u = tt} in
    let tested : reads_sums sums (shown_in known) (expr_of c.in-IfElse.c.value) ≡ true = sym (rw c.deref-in-IfElse.ensures at c.reads_sums.ensures) ∙ c.if-not-reads_sums.false in
    let first : only_prints (own_of known) sums (shown_in known) (statement_of c.in-IfElse.s.value) ≡ true = sym (rw c.deref-in-IfElse-2.ensures at told.is) ∙ c.if-not-branch.false in
    let same = ap₂ (λ (o k : Names). (o, k)) told.own (unchanged_on shows known c.only_prints.new.known told.own (told.set (ap Ok c.if-not-branch.false))) in
    rw (whole, tested, first) (subst (λ (z : Names × Names). IfOk c.only_prints-in-IfElse.result (λ is. is ≡ only_prints z.0 sums z.1 (statement_of c.in-IfElse.other.value))) same (rw c.deref-in-IfElse-3.ensures at c.only_prints-in-IfElse.ensures.is))

pub is_loop_of_end-returns-then-not-may_read_sums-clause-is :
    goal.is_loop_of_end-returns-then-not-may_read_sums-clause-is
is_loop_of_end-returns-then-not-may_read_sums-clause-is t c =
    let own = (c.in_ok-add.ensures {u = tt}).own in
    let grown = added_on shows c.args.known.now c.add.new.self (name_set_first (optional_simple_of c.args.parts.now.first)) own (rw c.name_set_first.ensures at (c.in_ok-add.ensures {u = tt}).set) in
    second_stops _ _ _ (sym (ap₂ (λ (o k : Names). may_read_sums (sums_of c.args.sums.now) k (optional_expr_of c.args.parts.now.condition)) own grown) ∙ (sym c.may_read_sums.ensures ∙ c.if-not-may_read_sums.true))

pub is_loop_of_end-returns-then-not-is_part_of_end-2-clause-is :
    goal.is_loop_of_end-returns-then-not-is_part_of_end-2-clause-is
is_loop_of_end-returns-then-not-is_part_of_end-2-clause-is t c =
    let own = (c.in_ok-add.ensures {u = tt}).own in
    let grown = added_on shows c.args.known.now c.add.new.self (name_set_first (optional_simple_of c.args.parts.now.first)) own (rw c.name_set_first.ensures at (c.in_ok-add.ensures {u = tt}).set) in
    third_stops _ _ _ _ (sym (ap₂ (λ (o k : Names). is_part_of_end (sums_of c.args.sums.now) k (optional_simple_of c.args.parts.now.last)) own grown) ∙ (sym c.is_part_of_end-2.ensures ∙ c.if-not-is_part_of_end-2.true))

pub is_loop_of_end-returns-then-not-branch-clause-is :
    goal.is_loop_of_end-returns-then-not-branch-clause-is
is_loop_of_end-returns-then-not-branch-clause-is t c =
    let own = (c.in_ok-add.ensures {u = tt}).own in
    let grown = added_on shows c.args.known.now c.add.new.self (name_set_first (optional_simple_of c.args.parts.now.first)) own (rw c.name_set_first.ensures at (c.in_ok-add.ensures {u = tt}).set) in
    let known = c.args.known.now in
    let more = also (own_of known) (name_set_first (optional_simple_of c.args.parts.now.first)) (shown_in known) in
    fourth_stops (is_part_of_end (sums_of c.args.sums.now) (shown_in known) (optional_simple_of c.args.parts.now.first)) (may_read_sums (sums_of c.args.sums.now) more (optional_expr_of c.args.parts.now.condition))
    (is_part_of_end (sums_of c.args.sums.now) more (optional_simple_of c.args.parts.now.last)) (only_prints (own_of known) (sums_of c.args.sums.now) more (statement_of c.args.body.now)) (sym (ap₂ (λ (o k : Names). only_prints o (sums_of c.args.sums.now) k (statement_of c.args.body.now)) own grown) ∙ (sym (c.in_ok-only_prints.ensures {u = tt}).is ∙ c.if-not-branch.true))

pub is_loop_of_end-returns-clause-is : goal.is_loop_of_end-returns-clause-is
is_loop_of_end-returns-clause-is t c =
    let own = (c.in_ok-add.ensures {u = tt}).own in
    let grown = added_on shows c.args.known.now c.add.new.self (name_set_first (optional_simple_of c.args.parts.now.first)) own (rw c.name_set_first.ensures at (c.in_ok-add.ensures {u = tt}).set) in
    all_hold _ _ _ _ (sym c.is_part_of_end.ensures ∙ c.if-not-is_part_of_end.false)
    (sym (ap₂ (λ (o k : Names). may_read_sums (sums_of c.args.sums.now) k (optional_expr_of c.args.parts.now.condition)) own grown) ∙ (sym c.may_read_sums.ensures ∙ c.if-not-may_read_sums.false))
    (sym (ap₂ (λ (o k : Names). is_part_of_end (sums_of c.args.sums.now) k (optional_simple_of c.args.parts.now.last)) own grown) ∙ (sym c.is_part_of_end-2.ensures ∙ c.if-not-is_part_of_end-2.false))
    (sym (ap₂ (λ (o k : Names). only_prints o (sums_of c.args.sums.now) k (statement_of c.args.body.now)) own grown) ∙ (sym (c.in_ok-only_prints.ensures {u = tt}).is ∙ c.if-not-branch.false))

-- where the last of three parts doesn't hold, or all do

last_stops : (a b c : Bool) → c ≡ false → false ≡ (a && (b && c))
last_stops true true c e = sym e
last_stops true false c e = refl
last_stops false b c e = refl

all_three : (a b c : Bool) → a ≡ true → b ≡ true → c ≡ true → true ≡ (a && (b && c))
all_three true true c e f g = sym g
all_three true false c e f g = sym f
all_three false b c e f g = sym e

pub is_walk-returns-then-not-branch-clause-is : goal.is_walk-returns-then-not-branch-clause-is
is_walk-returns-then-not-branch-clause-is t c =
    let sums = sums_of c.args.sums.now in
    let own = (c.in_ok-add.ensures {u = tt}).own in
    let grown = added_on shows c.args.known.now c.add.new.self (Some c.args.variable.now) own (c.in_ok-add.ensures {u = tt}).set in
    last_stops _ _ _ (sym (ap₂ (λ (o k : Names). only_prints o sums k (statement_of c.args.body.now)) own grown) ∙ (sym (c.in_ok-only_prints.ensures {u = tt}).is ∙ c.if-not-branch.true))

pub is_walk-returns-clause-is : goal.is_walk-returns-clause-is
is_walk-returns-clause-is t c =
    let sums = sums_of c.args.sums.now in
    let own = (c.in_ok-add.ensures {u = tt}).own in
    let grown = added_on shows c.args.known.now c.add.new.self (Some c.args.variable.now) own (c.in_ok-add.ensures {u = tt}).set in
    all_three _ _ _ (sym (rw c.as_slice.ensures at c.may_be_set.ensures) ∙ c.if-not-may_be_set.false) (sym (rw c.as_slice-2.ensures at c.is_array_sum.ensures) ∙ c.if-not-is_array_sum.false)
    (sym (ap₂ (λ (o k : Names). only_prints o sums k (statement_of c.args.body.now)) own grown) ∙ (sym (c.in_ok-only_prints.ensures {u = tt}).is ∙ c.if-not-branch.false))

pub all_only_print-loop-s-preserved : goal.all_only_print-loop-s-preserved
all_only_print-loop-s-preserved t c =
    let told = c.in_ok-only_prints.ensures {u = tt} in
    let more = c.in_ok-add.ensures {u = tt} in
    let before = c.loop-s.known in
    let first = told.set (ap Ok c.if-not-branch.false) in
    let own = more.own ∙ told.own in
    let set = (rw c.name_behind.ensures at more.set) ∙ ap (λ xs. xs ++ listed (name_behind (statement_of c.s-item.result))) first in
    let front = c.loop-s.invariant.1 in
    let grown = added_on shows before c.add.new.self (name_behind (statement_of c.s-item.result)) own set in
    let rest = statements_of (drop (c.loop-s.s-index + 1) c.args.all.now) in
    let next : c.loop-s.s-index + 1 ≡ suc c.loop-s.s-index = omega arith in
    let step : statements_of (drop c.loop-s.s-index c.args.all.now) ≡ tree.Then (statement_of c.s-item.result) rest =
    rw next (ap statements_of (drop-cons c.args.all.now c.loop-s.s-index c.s-item.result (omega arith)) ∙ ap (λ x. tree.Then (statement_of x) (statements_of (drop (suc c.loop-s.s-index) c.args.all.now))) (sym c.s-item.is)) in
    let is : only_prints (own_of before) (sums_of c.args.sums.now) (shown_in before) (statement_of c.s-item.result) ≡ true = sym told.is ∙ c.if-not-branch.false in (
      own ∙ c.loop-s.invariant.0,
      (front.0 ++ listed (name_behind (statement_of c.s-item.result)), set ∙ (ap (λ xs. xs ++ listed (name_behind (statement_of c.s-item.result))) front.1 ∙ append_assoc c.args.known.now.set.items front.0 (listed (name_behind (statement_of c.s-item.result))))),
      ap₂ (λ (o k : Names). all_only_print o (sums_of c.args.sums.now) k rest) own grown ∙ (rw (step, is) refl ∙ c.loop-s.invariant.2),
    )
