use Rattle.std.proofs.Common.{refl}
use Rattle.awk_rows.proofs.Computing.{computed, gives}
use Rattle.awk_rows.proofs.texts.formats.Goals as goal

pub returns-clause-numbers_in_widths_and_with_least_digits : goal.returns-clause-numbers_in_widths_and_with_least_digits
unfolding computed
returns-clause-numbers_in_widths_and_with_least_digits c = gives refl (λ outside. refl)

pub returns-clause-a_number_is_printed_as_its_byte : goal.returns-clause-a_number_is_printed_as_its_byte
unfolding computed
returns-clause-a_number_is_printed_as_its_byte c = gives refl (λ outside. refl)

pub returns-clause-a_number_that_is_no_byte_is_a_fault : goal.returns-clause-a_number_that_is_no_byte_is_a_fault
unfolding computed
returns-clause-a_number_that_is_no_byte_is_a_fault c = gives refl (λ outside. refl)

pub returns-clause-flags_of_numbers : goal.returns-clause-flags_of_numbers
unfolding computed
returns-clause-flags_of_numbers c = gives refl (λ outside. refl)

pub returns-clause-a_text_is_cut_and_a_character_set_to_the_right : goal.returns-clause-a_text_is_cut_and_a_character_set_to_the_right
unfolding computed
returns-clause-a_text_is_cut_and_a_character_set_to_the_right c = gives refl (λ outside. refl)

pub returns-clause-an_unended_directive_is_a_fault : goal.returns-clause-an_unended_directive_is_a_fault
unfolding computed
returns-clause-an_unended_directive_is_a_fault c = gives refl (λ outside. refl)

pub returns-clause-a_width_above_the_greatest_is_a_fault : goal.returns-clause-a_width_above_the_greatest_is_a_fault
unfolding computed
returns-clause-a_width_above_the_greatest_is_a_fault c = gives refl (λ outside. refl)
