use Rattle.std.proofs.Common.{None, ◌≡◌, suc, ◌-◌, Bool, true, false, List, [], rules, get_or, drop, length, refl, sym, ap, ◌∙◌, true≢false, arith, to_z, of_z}
use mir.Syntax.{w128}
use Rattle.awk_grammar.specs.declared.tree.Expr.TheViews.{the_lemmas}
use Rattle.awk_lex.specs.declared.token.Operator.TheVariants as o
use Rattle.awk_grammar.specs.declared.tree.BinaryOperator.TheVariants.{Concatenate, Infix}
use Rattle.awk_grammar.specs.Tree as tree
use Rattle.awk_grammar.specs.View.{expr_of, exprs_of, optional_expr_of}
use Rattle.std.proofs.lemmas.Option.{get_or_from_slice_get}
use Rattle.awk_resolve.specs.support.Builds.{array_parameters_in, EvaluateAll, EvaluateArguments}
use Rattle.awk_resolve.specs.support.Appends.{without_first}
use Rattle.awk_resolve.specs.support.Parts.{is_concatenation, parts_of}
use Rattle.awk_resolve.specs.support.Calls.{arrays_of, roles_from}
use Rattle.awk_resolve.proofs.Building.{ok_map, same, still, behind, stands, arrays_same, extends}
use Rattle.awk_resolve.proofs.ExpressionForms.{number_lowered, strict_lowered, string_lowered, ere_lowered, length_lowered, element_lowered, field_lowered, group_lowered, unary_lowered, membership_lowered, list_membership_lowered, assign_lowered, pre_increment_lowered, post_increment_lowered}
use Rattle.awk_resolve.proofs.ElementForms.{element_read, operand_contained, target_post_incremented, target_raise_tested, operand_contained_tested}
use Rattle.awk_resolve.proofs.InPlaceForms.{nothing_before, operand_lowered, match_tested, strict, strictly_by, operated_with_lowered, operated_on_lowered, compared_with_lowered, compared_lowered}
use Rattle.awk_resolve.proofs.AppendForms.{append_lowered, whole_left, behind_concatenation, behind_other}
use Rattle.awk_resolve.proofs.PartForms.{part_lowered, whole_part_lowered, joined_lowered}
use Rattle.awk_resolve.proofs.PatternForms.{matched, unless_ere_lowered, ere_stays}
use Rattle.awk_resolve.proofs.ConditionForms.{test_lowered, ere_tested, mismatch_tested, group_tested, not_tested, and_tested, or_tested, and_lowered, or_lowered, conditional_lowered}
use Rattle.awk_resolve.proofs.ListForms.{none_lowered, more_lowered, count_exprs, exprs_over, exprs_at, some_expr, one_expr, two_exprs, three_exprs, key_lowered}
use Rattle.awk_resolve.proofs.OperandForms.{name_operand, element_operand, field_operand, number_field, not_an_ere}
use Rattle.awk_resolve.proofs.CallForms.{call_fits, call_lowered, no_arguments, array_argument, value_argument}
use Rattle.awk_resolve.proofs.BuiltInForms.{IsPlain, strict_applied, record_length_lowered, count_lowered, length_of_lowered, flush_all_lowered, flush_lowered, match_lowered, fields_split, split_lowered}
use Rattle.awk_resolve.proofs.OperandCalls.{operands_applied, behind_applied, length_of_operand}
use Rattle.awk_resolve.proofs.SubstituteForms.{substitute_lowered, substitute_place_lowered, exchange_lowered}
use Rattle.awk_resolve.proofs.TreeForms.{element_is, list_membership_is, call_is, built_in_is, getline_is, piped_is, takes_still, built_at}
use Rattle.awk_resolve.proofs.GetlineForms.{nothing_stays, something_lowered, no_operand_stays, operand_there, getline_lowered, piped_getline_lowered}
use Rattle.awk_resolve.proofs.builder.Builder.+expressions.Goals as goal
use Rattle.awk_resolve.proofs.builder.Builder.+expressions.Goals.{lower_parts-in_default-via-in-Binary+in_default, lower_parts-in_default-via-in_default, lower_behind_first-in_default-via-in-Binary+in_default, lower_behind_first-in_default-via-in_default, lower_built_in-else-takes_one-via-then-takes_one+else-list-ne1, lower_built_in-else-takes_one-via-else-takes_one, lower_match_test-in_default-via-in-Number-1, lower_match_test-in_default-via-in-Ere+in_ok-operand+in-None-1}

pub lower-returns-in-Number : goal.lower-returns-in-Number
lower-returns-in-Number t c =
    let number : to_z w128 (of_z w128 c.in-Number.n) ≡ c.in-Number.n = search rules in
    rw (ap expr_of c.in-Number.is) (ok_map _ (λ i p. number_lowered _ c.requires p) (rw number at c.push_constant.ensures))

pub lower-returns-in_ok-clone-in-String : goal.lower-returns-in_ok-clone-in-String
lower-returns-in_ok-clone-in-String t c = rw (ap expr_of c.in-String.is) (ok_map _ (λ i p. string_lowered _ c.requires p) (rw c.in_ok-clone-in-String.ensures.cases at c.push_constant-in-String.ensures))

pub lower-returns-in-Ere : goal.lower-returns-in-Ere
lower-returns-in-Ere t c = rw (ap expr_of c.in-Ere.is) (ok_map _ (λ i p. ere_lowered c.requires p) c.push_ere.ensures)

pub lower-returns-in-Length : goal.lower-returns-in-Length
lower-returns-in-Length t c = rw (ap expr_of c.in-Length.is) (ok_map _ (λ i p. length_lowered c.requires p) c.push_value.ensures)

pub lower-returns-in-Element : goal.lower-returns-in-Element
lower-returns-in-Element t c = rw (element_is c.args.e.now c.in-Element.x c.in-Element.list c.in-Element.is) (rw c.deref.ensures.value at c.lower_element.ensures)

pub lower-returns-in-Field : goal.lower-returns-in-Field
lower-returns-in-Field t c = rw (ap expr_of c.in-Field.is) (rw c.deref-in-Field.ensures at c.lower_field.ensures)

pub lower-returns-in-Group : goal.lower-returns-in-Group
lower-returns-in-Group t c = rw (ap expr_of c.in-Group.is) (ok_map _ (λ i q. group_lowered q) (rw c.deref-in-Group.ensures at c.lower.ensures))

pub lower-returns-in-Unary : goal.lower-returns-in-Unary
lower-returns-in-Unary t c = rw (ap expr_of c.in-Unary.is) (rw c.deref-in-Unary.ensures at c.lower_unary.ensures)

pub lower-returns-in-Binary : goal.lower-returns-in-Binary
lower-returns-in-Binary t c = rw (ap expr_of c.in-Binary.is) (rw (c.deref-in-Binary.ensures, c.deref-in-Binary-2.ensures) at c.lower_binary.ensures)

pub lower-returns-in-Membership : goal.lower-returns-in-Membership
lower-returns-in-Membership t c = rw (ap expr_of c.in-Membership.is) (rw c.deref-in-Membership.ensures at c.lower_membership.ensures)

pub lower-returns-in-ListMembership : goal.lower-returns-in-ListMembership
lower-returns-in-ListMembership t c =
    rw (list_membership_is c.args.e.now c.in-ListMembership.list c.in-ListMembership.x c.in-ListMembership.is) (rw c.deref-in-ListMembership.ensures.value at c.lower_list_membership.ensures)

pub lower-returns-in-Conditional : goal.lower-returns-in-Conditional
lower-returns-in-Conditional t c = rw (ap expr_of c.in-Conditional.is) (rw (c.deref-in-Conditional.ensures, c.deref-in-Conditional-2.ensures, c.deref-in-Conditional-3.ensures) at c.lower_conditional.ensures)

pub lower-returns-in-Assign : goal.lower-returns-in-Assign
lower-returns-in-Assign t c = rw (ap expr_of c.in-Assign.is) (rw (c.deref-in-Assign.ensures, c.deref-in-Assign-2.ensures) at c.lower_assign.ensures)

pub lower-returns-in-PreIncrement : goal.lower-returns-in-PreIncrement
lower-returns-in-PreIncrement t c = rw (ap expr_of c.in-PreIncrement.is) (rw c.deref-in-PreIncrement.ensures at c.lower_pre_increment.ensures)

pub lower-returns-in-PostIncrement : goal.lower-returns-in-PostIncrement
lower-returns-in-PostIncrement t c = rw (ap expr_of c.in-PostIncrement.is) (rw c.deref-in-PostIncrement.ensures at c.lower_post_increment.ensures)

-- the parts of a concatenation

pub lower_parts-returns-in_default : goal.lower_parts-returns-in_default
lower_parts-returns-in_default t c =
    let other : is_concatenation (expr_of c.args.e.now) ≡ false = elim c.in_default.branch [
      | lower_parts-in_default-via-in-Binary+in_default w ↦ search (rules, the_lemmas)
      | lower_parts-in_default-via-in_default w ↦ search (rules, the_lemmas)
    ] in
    ok_map _ (λ i q. whole_part_lowered (expr_of c.args.e.now) other q) c.lower.ensures

pub lower_parts-returns : goal.lower_parts-returns
lower_parts-returns t c =
    let x = c.in-Binary-Concatenate-default-default in
    let is : expr_of c.args.e.now ≡ tree.Binary Concatenate (expr_of x.a.value) (expr_of x.b.value) = search (rules, the_lemmas) in
    rw (ap parts_of is) (ok_map _ (λ i q. part_lowered (rw c.deref.ensures at c.in_ok-last.ensures) q) (rw c.deref-2.ensures at c.lower_parts.ensures))

pub lower_field-returns-in_default : goal.lower_field-returns-in_default
lower_field-returns-in_default t c =
    let none = rw c.in_default.is at c.in_ok-operand.ensures in
    ok_map _ (λ i q. field_lowered c.requires (nothing_before none c.in_ok-read.ensures) q) c.lower.ensures

pub lower_field-returns : goal.lower_field-returns
lower_field-returns t c = ok_map _ (λ i q. operand_lowered c.requires (rw c.in-Some.is at c.in_ok-operand.ensures) q) c.push_value-2.ensures

pub lower-returns-in-Call : goal.lower-returns-in-Call
lower-returns-in-Call t c = rw (call_is c.args.e.now c.in-Call.function c.in-Call.list c.in-Call.is) (rw c.deref-in-Call.ensures.value at c.lower_call.ensures)

pub lower-returns-in-BuiltIn : goal.lower-returns-in-BuiltIn
lower-returns-in-BuiltIn t c = rw (built_in_is c.args.e.now c.in-BuiltIn.function c.in-BuiltIn.list c.in-BuiltIn.is) (rw c.deref-in-BuiltIn.ensures.value at c.lower_built_in.ensures)

pub lower-returns-in-Getline : goal.lower-returns-in-Getline
lower-returns-in-Getline t c = rw (getline_is c.args.e.now c.in-Getline.place c.in-Getline.file c.in-Getline.is) c.lower_getline.ensures

pub lower-returns-in-PipedGetline : goal.lower-returns-in-PipedGetline
lower-returns-in-PipedGetline t c = rw (piped_is c.args.e.now c.in-PipedGetline.command c.in-PipedGetline.place c.in-PipedGetline.is) (rw c.deref-in-PipedGetline.ensures at c.lower_piped_getline.ensures)

pub lower_getline-returns : goal.lower_getline-returns
lower_getline-returns t c =
    ok_map _ (λ i q. getline_lowered c.in_ok-target.target (optional_expr_of c.args.place.now) (optional_expr_of c.args.file.now) c.requires c.in_ok-target.ensures (rw c.source_of.ensures at c.in_ok-read.ensures) c.in_ok-name.ensures q) c.lower_optional_operand.ensures

pub lower_piped_getline-returns : goal.lower_piped_getline-returns
lower_piped_getline-returns t c = ok_map _ (λ i q. piped_getline_lowered c.in_ok-target.target (optional_expr_of c.args.place.now) c.requires c.in_ok-target.ensures c.in_ok-read.ensures c.in_ok-operand.ensures q) c.lower.ensures

pub lower_element-returns-in-Some : goal.lower_element-returns-in-Some
lower_element-returns-in-Some t c = ok_map _ (λ i q. element_read c.requires (rw c.as_slice.ensures at c.in_ok-number.ensures) (rw c.in-Some.is at c.in_ok-key.ensures) q) c.push_value.ensures

pub lower_element-returns : goal.lower_element-returns
lower_element-returns t c =
    let before = rw c.in_default.is at c.in_ok-key.ensures in
    ok_map _ (λ i q. behind before (element_lowered (still before c.requires) (rw c.as_slice.ensures at c.in_ok-number.ensures) c.in_ok-read.ensures q)) c.lower_key.ensures

pub lower_unary-returns : goal.lower_unary-returns
lower_unary-returns t c = ok_map _ (λ i q. unary_lowered c.args.o c.requires c.in_ok-change.ensures q) c.lower.ensures

pub lower_membership-returns-in-Some : goal.lower_membership-returns-in-Some
lower_membership-returns-in-Some t c = ok_map _ (λ i q. operand_contained c.requires (rw c.as_slice.ensures at c.in_ok-number.ensures) (rw c.in-Some.is at c.in_ok-key.ensures) q) c.push_value.ensures

pub lower_membership-returns : goal.lower_membership-returns
lower_membership-returns t c =
    let none = rw c.in_default.is at c.in_ok-key.ensures in
    ok_map _ (λ i q. membership_lowered c.requires (rw c.as_slice.ensures at c.in_ok-number.ensures) (nothing_before none c.in_ok-contains.ensures) q) c.lower.ensures

pub lower_list_membership-returns : goal.lower_list_membership-returns
lower_list_membership-returns t c = ok_map _ (λ i q. list_membership_lowered c.requires (rw c.as_slice.ensures at c.in_ok-array.ensures) c.in_ok-contains.ensures q) c.lower_key.ensures

pub lower_conditional-returns : goal.lower_conditional-returns
lower_conditional-returns t c = ok_map _ (λ i q. conditional_lowered c.in_ok-here.ensures c.in_ok-other.ensures q) c.lower_test.ensures

-- assignments

pub lower_assign-returns-in-Some : goal.lower_assign-returns-in-Some
lower_assign-returns-in-Some t c =
    let appends = rw c.in-Some.is at c.appended.ensures in
    rw (appends.operator, appends.named) c.lower_append.ensures

pub lower_assign-returns : goal.lower_assign-returns
lower_assign-returns t c = ok_map _ (λ i q. assign_lowered c.requires c.in_ok-target.ensures c.args.o c.in_ok-assign.ensures c.in_ok-right.ensures q) c.lower_operand.ensures

pub lower_pre_increment-returns : goal.lower_pre_increment-returns
lower_pre_increment-returns t c = ok_map _ (λ i q. pre_increment_lowered c.requires c.in_ok-target.ensures c.args.o c.in_ok-increment.ensures q) c.lower_operand.ensures

pub lower_post_increment-returns-in-Some : goal.lower_post_increment-returns-in-Some
lower_post_increment-returns-in-Some t c = ok_map _ (λ i q. target_post_incremented c.requires c.args.o (rw c.in-Some.is at c.in_ok-target.ensures) q) c.push_value.ensures

pub lower_post_increment-returns : goal.lower_post_increment-returns
lower_post_increment-returns t c =
    let before = rw c.in_default.is at c.in_ok-target.ensures in
    ok_map _ (λ i q. behind before (post_increment_lowered (still before c.requires) c.in_ok-target-2.ensures c.args.o c.in_ok-increment.ensures q)) c.lower_operand.ensures

pub lower_append-returns : goal.lower_append-returns
lower_append-returns t c = ok_map _ (λ i q. append_lowered c.args.name.now (expr_of c.args.e.now) c.requires.stands (rw c.as_slice.ensures at c.in_ok-variable.ensures) c.requires.append c.in_ok-append.ensures c.in_ok-right.ensures q) c.push_name.ensures

pub lower_behind_first-returns-in_default : goal.lower_behind_first-returns-in_default
lower_behind_first-returns-in_default t c =
    let other : is_concatenation (expr_of c.args.e.now) ≡ false = elim c.in_default.branch [
      | lower_behind_first-in_default-via-in-Binary+in_default w ↦ search (rules, the_lemmas)
      | lower_behind_first-in_default-via-in_default w ↦ search (rules, the_lemmas)
    ] in
    rw (whole_left (expr_of c.args.e.now) other) c.lower.ensures

pub lower_behind_first-returns-then-not-is_concatenation : goal.lower_behind_first-returns-then-not-is_concatenation
lower_behind_first-returns-then-not-is_concatenation t c =
    let x = c.in-Binary-Concatenate-default-default in
    let is : expr_of c.args.e.now ≡ tree.Binary Concatenate (expr_of x.a.value) (expr_of x.b.value) = search (rules, the_lemmas) in
    let other : is_concatenation (expr_of x.a.value) ≡ false = sym (rw c.deref.ensures at c.is_concatenation.ensures) ∙ c.if-not-is_concatenation.true in
    let whole : without_first (expr_of c.args.e.now) ≡ expr_of x.b.value = ap without_first is ∙ behind_other (expr_of x.a.value) (expr_of x.b.value) other in
    rw whole (rw c.deref-then-not-is_concatenation.ensures at c.lower-then-not-is_concatenation.ensures)

pub lower_behind_first-returns : goal.lower_behind_first-returns
lower_behind_first-returns t c =
    let x = c.in-Binary-Concatenate-default-default in
    let is : expr_of c.args.e.now ≡ tree.Binary Concatenate (expr_of x.a.value) (expr_of x.b.value) = search (rules, the_lemmas) in
    let more : is_concatenation (expr_of x.a.value) ≡ true = sym (rw c.deref.ensures at c.is_concatenation.ensures) ∙ c.if-not-is_concatenation.false in
    let whole : without_first (expr_of c.args.e.now) ≡ tree.Binary Concatenate (without_first (expr_of x.a.value)) (expr_of x.b.value) = ap without_first is ∙ behind_concatenation (expr_of x.a.value) (expr_of x.b.value) more in
    rw whole (ok_map _ (λ i q. strict_lowered Concatenate refl refl refl c.requires c.in_ok-operate.ensures (rw c.deref-2.ensures at c.in_ok-last.ensures) q) (rw c.deref-3.ensures at c.lower_behind_first.ensures))

-- lists

pub lower_all-loop-i-init : goal.lower_all-loop-i-init
lower_all-loop-i-init t c = (rw (exprs_over c.args.list.now (length c.args.list.now) (omega arith)) (none_lowered c.requires), c.requires)

pub lower_all-loop-i-preserved : goal.lower_all-loop-i-preserved
lower_all-loop-i-preserved t c =
    let back : suc (c.loop-i.i - 1) ≡ c.loop-i.i = omega arith in
    let is = exprs_at c.args.list.now (c.loop-i.i - 1) c.index-list-i.result (omega arith) (sym c.index-list-i.is) in
    (rw (is, back) (more_lowered c.loop-i.invariant.0 c.in_ok-rest.ensures), stands c.in_ok-rest.ensures)

pub lower_all-returns : goal.lower_all-returns
lower_all-returns t c = built_at (λ k. EvaluateAll (exprs_of (drop k c.args.list.now)) c.args.next) c.loop-i.i 0 (omega arith) c.loop-i.invariant.0

pub lower_arguments-loop-i-init : goal.lower_arguments-loop-i-init
lower_arguments-loop-i-init t c = (rw (exprs_over c.args.list.now (length c.args.list.now) (omega arith)) (no_arguments _ c.requires), c.requires)

pub lower_arguments-loop-i-preserved-then-not-takes_array : goal.lower_arguments-loop-i-preserved-then-not-takes_array
lower_arguments-loop-i-preserved-then-not-takes_array t c =
    let bs = arrays_of c.args.self.now c.args.function in
    let rest = built_at (λ k. EvaluateArguments (roles_from k bs) (exprs_of (drop k c.args.list.now)) c.args.next) c.loop-i.i (suc (c.loop-i.i - 1)) (omega arith) c.loop-i.invariant.0 in
    let is = takes_still c.args.function (c.loop-i.i - 1) c.loop-i.invariant.0 c.takes_array.ensures c.if-not-takes_array.true in (
      rw (exprs_at c.args.list.now (c.loop-i.i - 1) c.index-list-i.result (omega arith) (sym c.index-list-i.is)) (value_argument bs (c.loop-i.i - 1) is rest c.in_ok-rest.ensures),
      stands c.in_ok-rest.ensures,
    )

pub lower_arguments-loop-i-preserved : goal.lower_arguments-loop-i-preserved
lower_arguments-loop-i-preserved t c =
    let bs = arrays_of c.args.self.now c.args.function in
    let rest = built_at (λ k. EvaluateArguments (roles_from k bs) (exprs_of (drop k c.args.list.now)) c.args.next) c.loop-i.i (suc (c.loop-i.i - 1)) (omega arith) c.loop-i.invariant.0 in
    let is = takes_still c.args.function (c.loop-i.i - 1) c.loop-i.invariant.0 c.takes_array.ensures c.if-not-takes_array.false in
    let some = some_expr c.args.list.now (c.loop-i.i - 1) (omega arith) in
    (rw some.1 (array_argument bs (c.loop-i.i - 1) is rest), c.loop-i.invariant.1)

pub lower_arguments-returns : goal.lower_arguments-returns
lower_arguments-returns t c =
    built_at (λ k. EvaluateArguments (roles_from k (arrays_of c.args.self.now c.args.function)) (exprs_of (drop k c.args.list.now)) c.args.next) c.loop-i.i 0 (omega arith) c.loop-i.invariant.0

pub lower_key-returns : goal.lower_key-returns
lower_key-returns t c =
    let list = c.args.list.now in
    ok_map _ (λ i q. key_lowered c.requires (c.in_ok-count.ensures ∙ sym (count_exprs list)) (λ e. omega (arith, e, count_exprs list, c.if-list-eq1.false)) c.in_ok-key.ensures q) c.lower_all.ensures

-- places and patterns

pub lower_operand-returns-in-Name : goal.lower_operand-returns-in-Name
lower_operand-returns-in-Name t c = rw (ap expr_of c.in-Name.is) (name_operand _ c.requires)

pub lower_operand-returns-in-Element : goal.lower_operand-returns-in-Element
lower_operand-returns-in-Element t c =
    rw (element_is c.args.p.now c.in-Element.field-0 c.in-Element.list c.in-Element.is) (ok_map _ (λ i q. element_operand _ q) (rw c.deref.ensures.value at c.lower_key.ensures))

pub lower_operand-returns-in-Field : goal.lower_operand-returns-in-Field
lower_operand-returns-in-Field t c = rw (ap expr_of c.in-Field.is) (rw c.deref-in-Field.ensures at c.lower_field_number.ensures)

pub lower_field_number-returns-in-Number : goal.lower_field_number-returns-in-Number
lower_field_number-returns-in-Number t c =
    let number : to_z w128 (of_z w128 c.in-Number.n) ≡ c.in-Number.n = search rules in
    rw (ap expr_of c.in-Number.is) (ok_map _ (λ i q. number_field _ c.requires q) (rw number at c.push_constant.ensures))

pub lower_field_number-returns : goal.lower_field_number-returns
lower_field_number-returns t c = ok_map _ (λ i q. field_operand c.requires c.in_ok-number.ensures q) c.lower.ensures

pub lower_optional-returns-in-None : goal.lower_optional-returns-in-None
lower_optional-returns-in-None t c = rw (ap optional_expr_of c.in-None.is) (nothing_stays c.requires)

pub lower_optional-returns-in-Some : goal.lower_optional-returns-in-Some
lower_optional-returns-in-Some t c = rw (ap optional_expr_of c.in-Some.is) (ok_map _ (λ i q. something_lowered q) (rw c.deref.ensures at c.lower.ensures))

pub lower_optional_operand-returns-in-None : goal.lower_optional_operand-returns-in-None
lower_optional_operand-returns-in-None t c = rw (ap optional_expr_of c.in-None.is) (no_operand_stays c.requires)

pub lower_optional_operand-returns-in-Some : goal.lower_optional_operand-returns-in-Some
lower_optional_operand-returns-in-Some t c = rw (ap optional_expr_of c.in-Some.is) (ok_map _ (λ i q. operand_there q) (rw c.deref.ensures at c.lower_operand.ensures))

pub lower_unless_ere-returns-in-Ere : goal.lower_unless_ere-returns-in-Ere
lower_unless_ere-returns-in-Ere t c = rw (ap expr_of c.in-Ere.is) (ere_stays _ c.requires)

pub lower_unless_ere-returns-in_default : goal.lower_unless_ere-returns-in_default
lower_unless_ere-returns-in_default t c = ok_map _ (λ i q. unless_ere_lowered (expr_of c.args.e.now) (not_an_ere c.args.e.now (λ x eq. c.in_default.not-Ere x eq)) q) c.lower.ensures

-- tests

pub lower_test-returns-in-Group : goal.lower_test-returns-in-Group
lower_test-returns-in-Group t c = rw (ap expr_of c.in-Group.is) (ok_map _ (λ i q. group_tested q) (rw c.deref.ensures at c.lower_test.ensures))

pub lower_test-returns-in_ok-number-in-Ere : goal.lower_test-returns-in_ok-number-in-Ere
lower_test-returns-in_ok-number-in-Ere t c = rw (ap expr_of c.in-Ere.is) (ok_map _ (λ i q. ere_tested c.requires.here c.requires.other c.in_ok-number-in-Ere.ensures q) c.push.ensures)

pub lower_test-returns-in-Unary : goal.lower_test-returns-in-Unary
lower_test-returns-in-Unary t c = rw (ap expr_of c.in-Unary.is) (ok_map _ (λ i q. not_tested c.in-Unary.o (sym c.is_not.ensures ∙ c.if-is_not.true) q) (rw c.deref-in-Unary.ensures at c.lower_test-in-Unary.ensures))

pub lower_test-returns-in_ok-second-in-Binary : goal.lower_test-returns-in_ok-second-in-Binary
lower_test-returns-in_ok-second-in-Binary t c =
    rw (ap expr_of c.in-Binary.is)
    (ok_map _ (λ i q. and_tested c.in-Binary.o (sym c.is_and.ensures ∙ c.if-is_and.true) (rw c.deref-in-Binary.ensures at c.in_ok-second-in-Binary.ensures) q) (rw c.deref-in-Binary-2.ensures at c.lower_test-in-Binary-2.ensures))

pub lower_test-returns-in_ok-second-in-Binary-2 : goal.lower_test-returns-in_ok-second-in-Binary-2
lower_test-returns-in_ok-second-in-Binary-2 t c =
    rw (ap expr_of c.in-Binary-2.is)
    (ok_map _ (λ i q. or_tested c.in-Binary-2.o (sym c.is_or.ensures ∙ c.if-is_or.true) (rw c.deref-in-Binary-2-2.ensures at c.in_ok-second-in-Binary-2.ensures) q) (rw c.deref-in-Binary-2-3.ensures at c.lower_test-in-Binary-2-3.ensures))

pub lower_test-returns-in-Binary-Infix-Matches-default-default : goal.lower_test-returns-in-Binary-Infix-Matches-default-default
lower_test-returns-in-Binary-Infix-Matches-default-default t c =
    let x = c.in-Binary-Infix-Matches-default-default in
    let is : expr_of c.args.e.now ≡ tree.Binary (Infix o.Matches) (expr_of x.a.value) (expr_of x.b.value) = search (rules, the_lemmas) in
    rw is (rw (c.deref-in-Binary-Infix-Matches-default-default.ensures, c.deref-in-Binary-Infix-Matches-default-default-2.ensures) at c.lower_match_test.ensures)

pub lower_test-returns-in-Binary-Infix-NotMatches-default-default : goal.lower_test-returns-in-Binary-Infix-NotMatches-default-default
lower_test-returns-in-Binary-Infix-NotMatches-default-default t c =
    let x = c.in-Binary-Infix-NotMatches-default-default in
    let is : expr_of c.args.e.now ≡ tree.Binary (Infix o.NotMatches) (expr_of x.a.value) (expr_of x.b.value) = search (rules, the_lemmas) in
    rw is (ok_map _ (λ i q. mismatch_tested q) (rw (c.deref-in-Binary-Infix-NotMatches-default-default.ensures, c.deref-in-Binary-Infix-NotMatches-default-default-2.ensures) at c.lower_match_test-in-Binary-Infix-NotMatches-default-default.ensures))

pub lower_any_test-returns : goal.lower_any_test-returns
lower_any_test-returns t c = ok_map _ (λ i q. test_lowered c.requires.here c.requires.other c.in_ok-test.ensures q) c.lower.ensures

pub lower_raise_test-returns-in_default : goal.lower_raise_test-returns-in_default
lower_raise_test-returns-in_default t c = ok_map _ (λ i q. behind (rw c.in_default.is at c.in_ok-target.ensures) q) c.lower_any_test.ensures

pub lower_raise_test-returns : goal.lower_raise_test-returns
lower_raise_test-returns t c = rw c.requires.raises (ok_map _ (λ i q. target_raise_tested c.requires.here c.requires.other c.args.o (rw c.in-Some.is at c.in_ok-target.ensures) q) c.push.ensures)

pub lower_element_test-returns-in_default : goal.lower_element_test-returns-in_default
lower_element_test-returns-in_default t c = let none = rw c.in_default.is at c.in_ok-key.ensures in rw (sym none) c.lower_any_test.ensures

pub lower_element_test-returns : goal.lower_element_test-returns
lower_element_test-returns t c =
    rw c.requires.contains
    (ok_map _ (λ i q. operand_contained_tested c.requires.here c.requires.other (rw c.as_slice.ensures at c.in_ok-array.ensures) (rw c.in-Some.is at c.in_ok-key.ensures) q) c.push.ensures)

pub lower_match_test-returns : goal.lower_match_test-returns
lower_match_test-returns t c = rw (ap expr_of c.in-Ere.is) (ok_map _ (λ i q. match_tested c.requires.here c.requires.other (rw c.in-Some.is at c.in_ok-operand.ensures) c.in_ok-number.ensures q) c.push.ensures)

pub lower_match_test-returns-2 : goal.lower_match_test-returns-2
lower_match_test-returns-2 t c =
    let same : c.in_default.self ≡ c.args.self.now = elim c.in_default.branch [
      | lower_match_test-in_default-via-in-Number-1 w ↦ w.self-is
      | lower_match_test-in_default-via-in-Ere+in_ok-operand+in-None-1 w ↦ (let none : w.in_ok-operand.field-0 ≡ None = search rules in w.self-is ∙ rw none at w.in_ok-operand.ensures)
    ] in
    ok_map _ (λ i q. test_lowered c.requires.here c.requires.other (nothing_before same c.in_ok-test.ensures) q) c.lower_binary.ensures

-- operators

pub lower_binary-returns-then-is_and : goal.lower_binary-returns-then-is_and
lower_binary-returns-then-is_and t c = ok_map _ (λ i q. and_lowered c.args.o c.requires c.in_ok-yes.ensures (sym c.is_and.ensures ∙ c.if-is_and.true) c.in_ok-second.ensures q) c.lower_test-then-is_and.ensures

pub lower_binary-returns-then-is_or : goal.lower_binary-returns-then-is_or
lower_binary-returns-then-is_or t c = ok_map _ (λ i q. or_lowered c.args.o c.requires c.in_ok-yes-2.ensures (sym c.is_or.ensures ∙ c.if-is_or.true) c.in_ok-second-2.ensures q) c.lower_test-then-is_or-2.ensures

pub lower_binary-returns-in-Some : goal.lower_binary-returns-in-Some
lower_binary-returns-in-Some t c =
    ok_map _ (λ i q. matched c.args.o c.in-Some.o c.in_ok-pattern.pattern (sym c.in-Some.ensures) c.requires c.in_ok-pattern.ensures (rw c.matching.ensures at c.in_ok-matches.ensures) c.in_ok-right.ensures q) c.lower.ensures

pub lower_binary-lower_strict-requires : goal.lower_binary-lower_strict-requires
lower_binary-lower_strict-requires t c = (search rules, (c.requires, strictly_by c.args.o (sym c.is_and.ensures ∙ c.if-is_and.false) (sym c.is_or.ensures ∙ c.if-is_or.false) (sym c.in_default.ensures)))

-- two operands

pub lower_strict-returns-in_default : goal.lower_strict-returns-in_default
lower_strict-returns-in_default t c =
    let none = rw c.in_default.is at c.in_ok-right.ensures in
    let is = strict c.args.o c.requires.strict in
    ok_map _ (λ i q. strict_lowered c.args.o is.no_and is.no_or is.no_match c.requires.stands (nothing_before none c.in_ok-operate.ensures) c.in_ok-right-2.ensures q) c.lower-in_default.ensures

pub lower_strict-returns-in_default-2 : goal.lower_strict-returns-in_default-2
lower_strict-returns-in_default-2 t c =
    let none = rw c.in_default-2.is at c.in_ok-left.ensures in
    let right = rw c.in-Some.is at c.in_ok-right.ensures in
    ok_map _ (λ i q. operated_with_lowered c.args.o c.requires.strict c.requires.stands right (nothing_before none c.in_ok-operate-2.ensures) q) c.lower-in_default-2.ensures

pub lower_strict-returns : goal.lower_strict-returns
lower_strict-returns t c =
    let right = rw c.in-Some.is at c.in_ok-right.ensures in
    let left = rw c.in-Some-2.is at c.in_ok-left.ensures in
    ok_map _ (λ i q. operated_on_lowered c.args.o c.requires.strict c.requires.stands right left q) c.push_value-2.ensures

pub lower_joined-returns : goal.lower_joined-returns
lower_joined-returns t c = ok_map _ (λ i q. joined_lowered c.requires (c.in_ok-count.ensures ∙ ap suc c.in_ok-part_count.ensures) c.in_ok-join.ensures c.in_ok-last.ensures q) c.lower_parts.ensures

-- the test of what an operator makes

pub lower_comparison-returns-in_default : goal.lower_comparison-returns-in_default
lower_comparison-returns-in_default t c =
    let none = rw c.in_default.is at c.in_ok-right.ensures in
    ok_map _ (λ i q. test_lowered c.requires.here c.requires.other (nothing_before none c.in_ok-test.ensures) q) c.lower_binary.ensures

pub lower_comparison-returns-in_default-2 : goal.lower_comparison-returns-in_default-2
lower_comparison-returns-in_default-2 t c =
    let none = rw c.in_default-2.is at c.in_ok-left.ensures in
    let right = rw c.in-Some.is at c.in_ok-right.ensures in
    ok_map _ (λ i q. compared_with_lowered c.args.o c.requires.strict c.requires.here c.requires.other right (nothing_before none c.in_ok-test-2.ensures) q) c.lower.ensures

pub lower_comparison-returns : goal.lower_comparison-returns
lower_comparison-returns t c =
    let right = rw c.in-Some.is at c.in_ok-right.ensures in
    let left = rw c.in-Some-2.is at c.in_ok-left.ensures in
    ok_map _ (λ i q. compared_lowered c.args.o c.requires.strict c.requires.here c.requires.other right left q) c.push-2.ensures

-- calls

pub lower_call-push_value-requires : goal.lower_call-push_value-requires
lower_call-push_value-requires t c = call_fits c.args.scope.now (array_parameters_in c.args.self.now) c.in_ok-number.number c.in_ok-number.are_arrays.now c.in_ok-forms.forms.items _ c.in_ok-number.ensures.found.arrays c.in_ok-forms.ensures

pub lower_call-returns : goal.lower_call-returns
lower_call-returns t c =
    let bs = c.in_ok-number.are_arrays.now in
    let arrays : bs ≡ arrays_of c.push_value.new.self c.in_ok-number.number = (let e = get_or_from_slice_get (array_parameters_in c.args.self.now) c.in_ok-number.number bs [] c.in_ok-number.ensures.found.arrays in sym e) ∙ sym (ap (λ (l : List (List Bool)). get_or l c.in_ok-number.number []) (arrays_same c.args.self.now c.push_value.new.self c.in_ok-call.ensures.same.functions)) in
    ok_map _ (λ i q. call_lowered c.args.scope.now bs c.requires (rw c.as_slice.ensures at c.in_ok-number.ensures.found.number) c.in_ok-number.ensures.found.arrays c.in_ok-forms.ensures c.in_ok-call.ensures q) (rw (sym arrays) at c.lower_arguments.ensures)

pub lower_length-returns-in-empty : goal.lower_length-returns-in-empty
lower_length-returns-in-empty t c = rw (exprs_over c.args.list.now 0 (omega arith)) (ok_map _ (λ i p. record_length_lowered c.requires p) c.push_value.ensures)

pub lower_length-returns-in-Some : goal.lower_length-returns-in-Some
lower_length-returns-in-Some t c =
    rw (one_expr c.args.list.now c.e-item.result (omega arith) (sym c.e-item.is)) (ok_map _ (λ i p. count_lowered (expr_of c.e-item.result) c.requires c.in-Some.ensures p) c.push_value-in-Some.ensures)

pub lower_length-returns-in-Some-2 : goal.lower_length-returns-in-Some-2
lower_length-returns-in-Some-2 t c =
    let is = one_expr c.args.list.now c.e-item.result (omega arith) (sym c.e-item.is) in
    let found = rw (c.in-Some-2.is, is) at c.in_ok-operands-in-len1.ensures in
    rw is (ok_map _ (λ i p. length_of_operand (expr_of c.e-item.result) c.requires c.in_default-measured.ensures found p) c.push_value-in-Some-2.ensures)

pub lower_length-returns-in_ok-length-in-len1 : goal.lower_length-returns-in_ok-length-in-len1
lower_length-returns-in_ok-length-in-len1 t c =
    rw (one_expr c.args.list.now c.e-item.result (omega arith) (sym c.e-item.is))
    (ok_map _ (λ i q. behind (rw c.in_default-2.is at c.in_ok-operands-in-len1.ensures) (length_of_lowered (expr_of c.e-item.result) (still (rw c.in_default-2.is at c.in_ok-operands-in-len1.ensures) c.requires) c.in_default-measured.ensures c.in_ok-length-in-len1.ensures q)) c.lower.ensures)

pub lower_flush-returns-in-empty : goal.lower_flush-returns-in-empty
lower_flush-returns-in-empty t c = rw (exprs_over c.args.list.now 0 (omega arith)) (ok_map _ (λ i p. flush_all_lowered c.requires p) c.push_value.ensures)

pub lower_flush-returns-in_ok-flush-in-len1 : goal.lower_flush-returns-in_ok-flush-in-len1
lower_flush-returns-in_ok-flush-in-len1 t c =
    rw (one_expr c.args.list.now c.name-item.result (omega arith) (sym c.name-item.is)) (ok_map _ (λ i q. flush_lowered c.requires c.in_ok-flush-in-len1.ensures q) c.lower.ensures)

pub lower_match-returns : goal.lower_match-returns
lower_match-returns t c =
    rw (two_exprs c.args.list.now c.text-item.result c.pattern-item.result c.in-len2.len_at_least c.in-len2.len_below c.text-item.is c.pattern-item.is)
    (ok_map _ (λ i q. match_lowered c.in_ok-number.number c.requires c.in_ok-number.ensures c.in_ok-found.ensures c.in_ok-right.ensures q) c.lower.ensures)

pub lower_split-returns-in_ok-split-in-len2 : goal.lower_split-returns-in_ok-split-in-len2
lower_split-returns-in_ok-split-in-len2 t c =
    rw (two_exprs c.args.list.now c.text-item.result c.array-item.result c.in-len2.len_at_least c.in-len2.len_below c.text-item.is c.array-item.is)
    (ok_map _ (λ i q. fields_split (rw c.name_in.ensures at c.in_ok-array-in-len2.ensures) c.requires c.in_ok-split-in-len2.ensures q) c.lower.ensures)

pub lower_split-returns-in_ok-right-in-len3 : goal.lower_split-returns-in_ok-right-in-len3
lower_split-returns-in_ok-right-in-len3 t c =
    rw (three_exprs c.args.list.now c.text-item-then-list-lt4.result c.array-item-then-list-lt4.result c.separator-item.result c.in-len3.len_at_least c.in-len3.len_below c.text-item-then-list-lt4.is c.array-item-then-list-lt4.is c.separator-item.is)
    (ok_map _ (λ i q. split_lowered (rw c.name_in-in-len3.ensures at c.in_ok-array-in-len3.ensures) c.in_ok-pattern_of-in-len3.field-0 c.requires c.in_ok-pattern_of-in-len3.ensures (rw c.split_by-by.ensures at c.in_ok-split-in-len3.ensures) c.in_ok-right-in-len3.ensures q) c.lower-in-len3.ensures)

pub lower_substitute-returns-in-Some : goal.lower_substitute-returns-in-Some
lower_substitute-returns-in-Some t c = ok_map _ (λ i q. exchange_lowered c.requires (rw c.in-Some.is at c.in_ok-exchange.ensures) q) c.push_value.ensures

pub lower_substitute-returns-in_ok-right-in-len2 : goal.lower_substitute-returns-in_ok-right-in-len2
lower_substitute-returns-in_ok-right-in-len2 t c =
    rw (two_exprs c.args.list.now c.pattern-item.result c.replacement-item.result c.in-len2.len_at_least c.in-len2.len_below c.pattern-item.is c.replacement-item.is)
    (ok_map _ (λ i q. behind (rw c.in_default.is at c.in_ok-exchange.ensures) (substitute_lowered c.args.all c.in_ok-number-in-len2.number (still (rw c.in_default.is at c.in_ok-exchange.ensures) c.requires) c.in_ok-number-in-len2.ensures c.in_ok-substitute-in-len2.ensures c.in_ok-right-in-len2.ensures q)) c.lower_unless_ere.ensures)

pub lower_substitute-returns-in_ok-right-in-len3 : goal.lower_substitute-returns-in_ok-right-in-len3
lower_substitute-returns-in_ok-right-in-len3 t c =
    rw (three_exprs c.args.list.now c.pattern-item-then-list-lt4.result c.replacement-item-then-list-lt4.result c.place-item.result c.in-len3.len_at_least c.in-len3.len_below c.pattern-item-then-list-lt4.is c.replacement-item-then-list-lt4.is c.place-item.is)
    (ok_map _ (λ i q. behind (rw c.in_default.is at c.in_ok-exchange.ensures) (substitute_place_lowered c.args.all c.in_ok-number-in-len3.number (still (rw c.in_default.is at c.in_ok-exchange.ensures) c.requires) c.in_ok-target-in-len3.ensures c.in_ok-number-in-len3.ensures c.in_ok-substitute-in-len3.ensures c.in_ok-old-in-len3.ensures c.in_ok-operand-in-len3.ensures c.in_ok-right-in-len3.ensures q)) c.lower_unless_ere-in-len3.ensures)

pub lower_in_place-returns-then-not-reads_in_place : goal.lower_in_place-returns-then-not-reads_in_place
lower_in_place-returns-then-not-reads_in_place t c = same

pub lower_in_place-returns-in-Some : goal.lower_in_place-returns-in-Some
lower_in_place-returns-in-Some t c =
    operands_applied c.args.function (sym c.reads_in_place.ensures ∙ c.if-not-reads_in_place.false) c.requires (rw c.in-Some.is at c.in_ok-operands.ensures) c.in_ok-place.ensures

pub lower_in_place-returns-in_default-2 : goal.lower_in_place-returns-in_default-2
lower_in_place-returns-in_default-2 t c =
    let before = rw c.in_default.is at c.in_ok-operands.ensures in
    extends before (rw c.in_default-2.is at c.in_ok-operand.ensures)

pub lower_in_place-returns : goal.lower_in_place-returns
lower_in_place-returns t c =
    let before = rw c.in_default.is at c.in_ok-operands.ensures in
    let split = c.in-Some-split_first.ensures.cases.0 in
    let first = rw split at (rw c.in-Some-2.is at c.in_ok-operand.ensures) in
    rw (ap exprs_of split)
    (behind before (behind_applied c.args.function (sym c.reads_in_place.ensures ∙ c.if-not-reads_in_place.false) (c.is_read_behind.ensures c.if-not-is_read_behind.false) (still before c.requires) first
    (c.in_ok-count.ensures ∙ sym (count_exprs c.in-Some-split_first.others.now)) c.in_ok-last.ensures c.in_ok-place-2.ensures))

pub lower_built_in-returns-in_ok-last-in_default : goal.lower_built_in-returns-in_ok-last-in_default
lower_built_in-returns-in_ok-last-in_default t c =
    let one : c.takes_one.result ≡ true → c.in_ok-count-in_default.count ≡ 1 =
    λ h. elim c.else-takes_one.branch [
      | lower_built_in-else-takes_one-via-then-takes_one+else-list-ne1 w ↦ omega (arith, w.if-list-ne1.false, c.in_ok-count-in_default.ensures)
      | lower_built_in-else-takes_one-via-else-takes_one w ↦ absurd (true≢false (sym h ∙ w.if-takes_one.false))
    ] in
    let plain : IsPlain c.args.function = record {
      no_length = λ e. c.in_default.not-Length e;
      no_flush = λ e. c.in_default.not-Fflush e;
      no_match = λ e. c.in_default.not-Match e;
      no_split = λ e. c.in_default.not-Split e;
      no_sub = λ e. c.in_default.not-Sub e;
      no_gsub = λ e. c.in_default.not-Gsub e;
    } in
    let before = rw c.in_default-2.is at c.in_ok-place-in_default.ensures in
    ok_map _ (λ i q. behind before (strict_applied c.args.function c.in_ok-count-in_default.count plain (λ h. one (c.takes_one.ensures ∙ h)) (c.in_ok-count-in_default.ensures ∙ sym (count_exprs c.args.list.now)) (still before c.requires)
    (rw c.strict_node.ensures at c.in_ok-last-in_default.ensures) q)) c.lower_all.ensures
