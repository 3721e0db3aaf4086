use Rattle.std.proofs.Common.{◌≡◌, suc, ◌+◌, refl, arith, true, false, sym, ap, ap₂, ◌∙◌, subst, rules, Ok, IfOk, ◌++◌, append_assoc, drop}
use Rattle.std.proofs.Math.Seq.{drop-cons}
use Rattle.awk_grammar.specs.Tree as tree
use Rattle.awk_grammar.specs.View.{expr_of, statement_of, statements_of, optional_simple_of, optional_expr_of}
use Rattle.awk_grammar.specs.declared.tree.Statement.TheViews.{the_lemmas}
use Rattle.awk_kinds.proofs.Rows.{row_is_block}
use Rattle.awk_pieces.specs.definitions.Pieceable.{also, name_set_first, name_behind, array_filled_first, array_behind, listed, keeps_to_record, may_keep_to_record, is_part_for_itself, is_for_itself, are_for_themselves}
use Rattle.awk_pieces.specs.support.Known.{own_of, arrays_of, mine_of, known_of}
use Rattle.awk_pieces.proofs.Alike.{Names}
use Rattle.awk_pieces.proofs.KnownNames.{added_both, unchanged, same_three, second_stops, third_stops, fourth_stops, all_hold}
use Rattle.awk_pieces.proofs.pieceable.+statements.Goals as goal

pub is_for_itself-returns-in-Block-clause-is : goal.is_for_itself-returns-in-Block-clause-is
is_for_itself-returns-in-Block-clause-is t c =
    let is : statement_of c.args.s.now ≡ tree.Block (statements_of c.in-Block.all.items) = search (rules, the_lemmas, row_is_block) in
    rw is (rw c.deref.ensures.value at c.are_for_themselves.ensures.is)

pub is_for_itself-returns-then-not-branch-clause-is : goal.is_for_itself-returns-then-not-branch-clause-is
is_for_itself-returns-then-not-branch-clause-is t c =
    let known = c.args.known.now in
    let whole : statement_of c.args.s.now ≡ tree.IfElse (expr_of c.in-IfElse.c.value) (statement_of c.in-IfElse.s.value) (statement_of c.in-IfElse.other.value) = search (rules, the_lemmas) in
    let told = c.in_ok-is_for_itself-in-IfElse.ensures {u = tt} in
    let tested : keeps_to_record (own_of known) (arrays_of known) (known_of known) (expr_of c.in-IfElse.c.value) ≡ true = sym (rw c.deref-in-IfElse.ensures at c.keeps_to_record-in-IfElse.ensures) ∙ c.if-not-keeps_to_record.false in
    let first : is_for_itself (own_of known) (arrays_of known) (known_of known) (statement_of c.in-IfElse.s.value) ≡ false = sym (rw c.deref-in-IfElse-2.ensures at told.is) ∙ c.if-not-branch.true in
    rw (whole, tested, first) refl

pub is_for_itself-returns-else-not-branch-clause-is : goal.is_for_itself-returns-else-not-branch-clause-is
is_for_itself-returns-else-not-branch-clause-is t c =
    let known = c.args.known.now in
    let whole : statement_of c.args.s.now ≡ tree.IfElse (expr_of c.in-IfElse.c.value) (statement_of c.in-IfElse.s.value) (statement_of c.in-IfElse.other.value) = search (rules, the_lemmas) in
    let told = c.in_ok-is_for_itself-in-IfElse.ensures {u = tt} in
    let tested : keeps_to_record (own_of known) (arrays_of known) (known_of known) (expr_of c.in-IfElse.c.value) ≡ true = sym (rw c.deref-in-IfElse.ensures at c.keeps_to_record-in-IfElse.ensures) ∙ c.if-not-keeps_to_record.false in
    let first : is_for_itself (own_of known) (arrays_of known) (known_of known) (statement_of c.in-IfElse.s.value) ≡ true = sym (rw c.deref-in-IfElse-2.ensures at told.is) ∙ c.if-not-branch.false in
    let next = c.is_for_itself-in-IfElse.new.known in
    let same = ap₂ (λ (z : Names × Names) (k : Names). (z, k)) (ap₂ (λ (o a : Names). (o, a)) told.own told.arrays) (unchanged known next told.own told.arrays (told.set (ap Ok c.if-not-branch.false))) in
    rw (whole, tested, first) (subst (λ (z : (Names × Names) × Names). IfOk c.is_for_itself-in-IfElse-2.result (λ is. is ≡ is_for_itself z.0.0 z.0.1 z.1 (statement_of c.in-IfElse.other.value))) same (rw c.deref-in-IfElse-3.ensures at c.is_for_itself-in-IfElse-2.ensures.is))

pub is_loop_for_itself-returns-then-not-may_keep_to_record-clause-is :
    goal.is_loop_for_itself-returns-then-not-may_keep_to_record-clause-is
is_loop_for_itself-returns-then-not-may_keep_to_record-clause-is t c =
    let known = c.args.known.now in
    let one = c.in_ok-add.ensures {u = tt} in
    let two = c.in_ok-add-2.ensures {u = tt} in
    let own : own_of c.add-2.new.self ≡ own_of known = two.own ∙ one.own in
    let arrays : arrays_of c.add-2.new.self ≡ arrays_of known = two.arrays ∙ one.arrays in
    let first = optional_simple_of c.args.parts.now.first in
    let grown = added_both known c.add.new.self c.add-2.new.self (array_filled_first first) (name_set_first first) one.own one.arrays (rw c.array_filled_first.ensures at one.set) two.own two.arrays (rw c.name_set_first.ensures at two.set) in
    second_stops _ _ _ (sym (same_three (λ o a k. may_keep_to_record o a k (optional_expr_of c.args.parts.now.condition)) _ _ _ _ _ _ own arrays grown) ∙ (sym c.may_keep_to_record.ensures ∙ c.if-not-may_keep_to_record.true))

pub is_loop_for_itself-returns-then-not-is_part_for_itself-2-clause-is :
    goal.is_loop_for_itself-returns-then-not-is_part_for_itself-2-clause-is
is_loop_for_itself-returns-then-not-is_part_for_itself-2-clause-is t c =
    let known = c.args.known.now in
    let one = c.in_ok-add.ensures {u = tt} in
    let two = c.in_ok-add-2.ensures {u = tt} in
    let own : own_of c.add-2.new.self ≡ own_of known = two.own ∙ one.own in
    let arrays : arrays_of c.add-2.new.self ≡ arrays_of known = two.arrays ∙ one.arrays in
    let first = optional_simple_of c.args.parts.now.first in
    let grown = added_both known c.add.new.self c.add-2.new.self (array_filled_first first) (name_set_first first) one.own one.arrays (rw c.array_filled_first.ensures at one.set) two.own two.arrays (rw c.name_set_first.ensures at two.set) in
    third_stops _ _ _ _ (sym (same_three (λ o a k. is_part_for_itself o a k (optional_simple_of c.args.parts.now.last)) _ _ _ _ _ _ own arrays grown) ∙ (sym c.is_part_for_itself-2.ensures ∙ c.if-not-is_part_for_itself-2.true))

pub is_loop_for_itself-returns-then-not-branch-clause-is :
    goal.is_loop_for_itself-returns-then-not-branch-clause-is
is_loop_for_itself-returns-then-not-branch-clause-is t c =
    let known = c.args.known.now in
    let one = c.in_ok-add.ensures {u = tt} in
    let two = c.in_ok-add-2.ensures {u = tt} in
    let own : own_of c.add-2.new.self ≡ own_of known = two.own ∙ one.own in
    let arrays : arrays_of c.add-2.new.self ≡ arrays_of known = two.arrays ∙ one.arrays in
    let first = optional_simple_of c.args.parts.now.first in
    let grown = added_both known c.add.new.self c.add-2.new.self (array_filled_first first) (name_set_first first) one.own one.arrays (rw c.array_filled_first.ensures at one.set) two.own two.arrays (rw c.name_set_first.ensures at two.set) in
    let more = also (mine_of known) (name_set_first first) (also (mine_of known) (array_filled_first first) (known_of known)) in
    fourth_stops (is_part_for_itself (own_of known) (arrays_of known) (known_of known) first) (may_keep_to_record (own_of known) (arrays_of known) more (optional_expr_of c.args.parts.now.condition))
    (is_part_for_itself (own_of known) (arrays_of known) more (optional_simple_of c.args.parts.now.last)) (is_for_itself (own_of known) (arrays_of known) more (statement_of c.args.body.now)) (sym (same_three (λ o a k. is_for_itself o a k (statement_of c.args.body.now)) _ _ _ _ _ _ own arrays grown) ∙ (sym (c.in_ok-is_for_itself.ensures {u = tt}).is ∙ c.if-not-branch.true))

pub is_loop_for_itself-returns-clause-is : goal.is_loop_for_itself-returns-clause-is
is_loop_for_itself-returns-clause-is t c =
    let known = c.args.known.now in
    let one = c.in_ok-add.ensures {u = tt} in
    let two = c.in_ok-add-2.ensures {u = tt} in
    let own : own_of c.add-2.new.self ≡ own_of known = two.own ∙ one.own in
    let arrays : arrays_of c.add-2.new.self ≡ arrays_of known = two.arrays ∙ one.arrays in
    let first = optional_simple_of c.args.parts.now.first in
    let grown = added_both known c.add.new.self c.add-2.new.self (array_filled_first first) (name_set_first first) one.own one.arrays (rw c.array_filled_first.ensures at one.set) two.own two.arrays (rw c.name_set_first.ensures at two.set) in
    all_hold _ _ _ _ (sym c.is_part_for_itself.ensures ∙ c.if-not-is_part_for_itself.false)
    (sym (same_three (λ o a k. may_keep_to_record o a k (optional_expr_of c.args.parts.now.condition)) _ _ _ _ _ _ own arrays grown) ∙ (sym c.may_keep_to_record.ensures ∙ c.if-not-may_keep_to_record.false))
    (sym (same_three (λ o a k. is_part_for_itself o a k (optional_simple_of c.args.parts.now.last)) _ _ _ _ _ _ own arrays grown) ∙ (sym c.is_part_for_itself-2.ensures ∙ c.if-not-is_part_for_itself-2.false))
    (sym (same_three (λ o a k. is_for_itself o a k (statement_of c.args.body.now)) _ _ _ _ _ _ own arrays grown) ∙ (sym (c.in_ok-is_for_itself.ensures {u = tt}).is ∙ c.if-not-branch.false))

pub are_for_themselves-loop-s-preserved : goal.are_for_themselves-loop-s-preserved
are_for_themselves-loop-s-preserved t c =
    let told = c.in_ok-is_for_itself.ensures {u = tt} in
    let one = c.in_ok-add.ensures {u = tt} in
    let two = c.in_ok-add-2.ensures {u = tt} in
    let before = c.loop-s.known in
    let statement = statement_of c.s-item.result in
    let array = listed (array_behind statement) in
    let name = listed (name_behind statement) in
    let first = told.set (ap Ok c.if-not-branch.false) in
    let own : own_of c.add-in-loop-s.new.self ≡ own_of before = two.own ∙ (one.own ∙ told.own) in
    let arrays : arrays_of c.add-in-loop-s.new.self ≡ arrays_of before = two.arrays ∙ (one.arrays ∙ told.arrays) in
    let filled = (rw c.array_behind.ensures at one.set) ∙ ap (λ xs. xs ++ array) first in
    let set = rw c.name_behind.ensures at two.set in
    let front = c.loop-s.invariant.2 in
    let grown = added_both before c.add.new.self c.add-in-loop-s.new.self (array_behind statement) (name_behind statement) (one.own ∙ told.own) (one.arrays ∙ told.arrays) filled two.own two.arrays set in
    let rest = statements_of (drop (c.loop-s.s-index + 1) c.args.all.now) in
    let next : c.loop-s.s-index + 1 ≡ suc c.loop-s.s-index = omega arith in
    let step : statements_of (drop c.loop-s.s-index c.args.all.now) ≡ tree.Then statement rest =
    rw next (ap statements_of (drop-cons c.args.all.now c.loop-s.s-index c.s-item.result (omega arith)) ∙ ap (λ x. tree.Then (statement_of x) (statements_of (drop (suc c.loop-s.s-index) c.args.all.now))) (sym c.s-item.is)) in
    let is : is_for_itself (own_of before) (arrays_of before) (known_of before) statement ≡ true = sym told.is ∙ c.if-not-branch.false in (
      own ∙ c.loop-s.invariant.0,
      arrays ∙ c.loop-s.invariant.1,
      ((front.0 ++ array) ++ name, set ∙ (ap (λ xs. xs ++ name) (filled ∙ (ap (λ xs. xs ++ array) front.1 ∙ append_assoc c.args.known.now.set.items front.0 array)) ∙ append_assoc c.args.known.now.set.items (front.0 ++ array) name)),
      same_three (λ o a k. are_for_themselves o a k rest) _ _ _ _ _ _ own arrays grown ∙ (rw (step, is) refl ∙ c.loop-s.invariant.3),
    )

pub is_for_itself-returns-in_ok-is_for_itself-in-If-clause-is : goal.is_for_itself-returns-in_ok-is_for_itself-in-If-clause-is
is_for_itself-returns-in_ok-is_for_itself-in-If-clause-is t c =
    let known = c.args.known.now in
    let whole : statement_of c.args.s.now ≡ tree.If (expr_of c.in-If.c.value) (statement_of c.in-If.s.value) = search (rules, the_lemmas) in
    let tested : keeps_to_record (own_of known) (arrays_of known) (known_of known) (expr_of c.in-If.c.value) ≡ true = sym (rw c.deref-in-If.ensures at c.keeps_to_record.ensures) ∙ c.if-keeps_to_record.true in
    rw (whole, tested) (rw c.deref-then-keeps_to_record.ensures at (c.in_ok-is_for_itself-in-If.ensures {u = tt}).is)

pub is_for_itself-returns-in_ok-is_for_itself-in-While-clause-is : goal.is_for_itself-returns-in_ok-is_for_itself-in-While-clause-is
is_for_itself-returns-in_ok-is_for_itself-in-While-clause-is t c =
    let known = c.args.known.now in
    let whole : statement_of c.args.s.now ≡ tree.While (expr_of c.in-While.c.value) (statement_of c.in-While.s.value) = search (rules, the_lemmas) in
    let tested : keeps_to_record (own_of known) (arrays_of known) (known_of known) (expr_of c.in-While.c.value) ≡ true = sym (rw c.deref-in-While.ensures at c.keeps_to_record-in-While.ensures) ∙ c.if-keeps_to_record-2.true in
    rw (whole, tested) (rw c.deref-then-keeps_to_record-2.ensures at (c.in_ok-is_for_itself-in-While.ensures {u = tt}).is)

pub is_for_itself-returns-in_ok-is_for_itself-in-Do-clause-is : goal.is_for_itself-returns-in_ok-is_for_itself-in-Do-clause-is
is_for_itself-returns-in_ok-is_for_itself-in-Do-clause-is t c =
    let known = c.args.known.now in
    let whole : statement_of c.args.s.now ≡ tree.Do (statement_of c.in-Do.s.value) (expr_of c.in-Do.c.value) = search (rules, the_lemmas) in
    let tested : keeps_to_record (own_of known) (arrays_of known) (known_of known) (expr_of c.in-Do.c.value) ≡ true = sym (rw c.deref-in-Do.ensures at c.keeps_to_record-in-Do.ensures) ∙ c.if-keeps_to_record-3.true in
    rw (whole, tested) (rw c.deref-then-keeps_to_record-3.ensures at (c.in_ok-is_for_itself-in-Do.ensures {u = tt}).is)
