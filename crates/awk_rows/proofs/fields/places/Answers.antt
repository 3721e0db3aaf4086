use Rattle.std.proofs.Common.{refl}
use Rattle.awk_rows.specs.definitions.Row.{ample}
use Rattle.awk_rows.proofs.Computing.{computed, gives, gives_of, means_from}
use Rattle.awk_rows.proofs.fields.places.Goals as goal

pub returns-clause-a_new_separator_holds_from_the_next_record_on : goal.returns-clause-a_new_separator_holds_from_the_next_record_on
unfolding computed
returns-clause-a_new_separator_holds_from_the_next_record_on c = gives_of refl refl

pub returns-clause-an_assigned_field_joins_the_record_again : goal.returns-clause-an_assigned_field_joins_the_record_again
unfolding computed
returns-clause-an_assigned_field_joins_the_record_again c = gives_of refl refl

pub returns-clause-an_assigned_count_cuts_and_an_assigned_field_fills_up : goal.returns-clause-an_assigned_count_cuts_and_an_assigned_field_fills_up
unfolding computed
returns-clause-an_assigned_count_cuts_and_an_assigned_field_fills_up c = gives_of refl refl

pub returns-clause-a_field_far_behind_makes_empty_ones : goal.returns-clause-a_field_far_behind_makes_empty_ones
unfolding computed
returns-clause-a_field_far_behind_makes_empty_ones c = means_from ample refl refl

pub returns-clause-an_assigned_record_is_separated_again : goal.returns-clause-an_assigned_record_is_separated_again
unfolding computed
returns-clause-an_assigned_record_is_separated_again c = gives_of refl refl

pub returns-clause-a_negative_count_is_a_fault : goal.returns-clause-a_negative_count_is_a_fault
unfolding computed
returns-clause-a_negative_count_is_a_fault c = gives refl (λ outside. refl)

pub returns-clause-a_negative_field_is_a_fault : goal.returns-clause-a_negative_field_is_a_fault
unfolding computed
returns-clause-a_negative_field_is_a_fault c = gives refl (λ outside. refl)

pub returns-clause-a_count_above_the_most_fields_is_a_fault : goal.returns-clause-a_count_above_the_most_fields_is_a_fault
unfolding computed
returns-clause-a_count_above_the_most_fields_is_a_fault c = gives refl (λ outside. refl)

pub returns-clause-the_first_field_of_each_record : goal.returns-clause-the_first_field_of_each_record
unfolding computed
returns-clause-the_first_field_of_each_record c = gives_of refl refl

pub returns-clause-the_separator_of_the_last_assignment_joins : goal.returns-clause-the_separator_of_the_last_assignment_joins
unfolding computed
returns-clause-the_separator_of_the_last_assignment_joins c = gives_of refl refl

pub returns-clause-an_assigned_record_is_separated_by_the_separator_of_then : goal.returns-clause-an_assigned_record_is_separated_by_the_separator_of_then
unfolding computed
returns-clause-an_assigned_record_is_separated_by_the_separator_of_then c = gives_of refl refl

pub returns-clause-a_separator_of_one_byte : goal.returns-clause-a_separator_of_one_byte
unfolding computed
returns-clause-a_separator_of_one_byte c = means_from ample refl refl

pub returns-clause-bytes_of_any_value_are_characters : goal.returns-clause-bytes_of_any_value_are_characters
unfolding computed
returns-clause-bytes_of_any_value_are_characters c = gives_of refl refl
