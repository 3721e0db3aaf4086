use Rattle.std.proofs.Common.{refl}
use Rattle.awk_rows.proofs.Computing.{computed, gives}
use Rattle.awk_rows.proofs.expressions.arithmetic.Goals as goal

pub returns-clause-a_minus_behind_a_text_subtracts : goal.returns-clause-a_minus_behind_a_text_subtracts
unfolding computed
returns-clause-a_minus_behind_a_text_subtracts c = gives refl (λ outside. refl)

pub returns-clause-division_goes_from_left_to_right : goal.returns-clause-division_goes_from_left_to_right
unfolding computed
returns-clause-division_goes_from_left_to_right c = gives refl (λ outside. refl)

pub returns-clause-a_sum_above_the_greatest_number_is_a_fault : goal.returns-clause-a_sum_above_the_greatest_number_is_a_fault
unfolding computed
returns-clause-a_sum_above_the_greatest_number_is_a_fault c = gives refl (λ outside. refl)

pub returns-clause-a_division_by_zero_is_a_fault : goal.returns-clause-a_division_by_zero_is_a_fault
unfolding computed
returns-clause-a_division_by_zero_is_a_fault c = gives refl (λ outside. refl)

pub returns-clause-what_was_printed_before_a_fault_is_left : goal.returns-clause-what_was_printed_before_a_fault_is_left
unfolding computed
returns-clause-what_was_printed_before_a_fault_is_left c = gives refl (λ outside. refl)

pub returns-clause-powers_and_remainders_have_the_sign_of_their_left_side : goal.returns-clause-powers_and_remainders_have_the_sign_of_their_left_side
unfolding computed
returns-clause-powers_and_remainders_have_the_sign_of_their_left_side c = gives refl (λ outside. refl)

pub returns-clause-the_least_number_has_no_opposite : goal.returns-clause-the_least_number_has_no_opposite
unfolding computed
returns-clause-the_least_number_has_no_opposite c = gives refl (λ outside. refl)
