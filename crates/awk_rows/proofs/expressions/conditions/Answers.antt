use Rattle.std.proofs.Common.{refl}
use Rattle.awk_rows.proofs.Computing.{computed, gives, gives_of}
use Rattle.awk_rows.proofs.expressions.conditions.Goals as goal

pub returns-clause-fields_are_compared_as_numbers_and_texts_as_texts : goal.returns-clause-fields_are_compared_as_numbers_and_texts_as_texts
unfolding computed
returns-clause-fields_are_compared_as_numbers_and_texts_as_texts c = gives_of refl refl

pub returns-clause-an_assigned_field_is_compared_as_a_text : goal.returns-clause-an_assigned_field_is_compared_as_a_text
unfolding computed
returns-clause-an_assigned_field_is_compared_as_a_text c = gives_of refl refl

pub returns-clause-what_was_never_assigned_is_zero_and_empty : goal.returns-clause-what_was_never_assigned_is_zero_and_empty
unfolding computed
returns-clause-what_was_never_assigned_is_zero_and_empty c = gives refl (λ outside. refl)

pub returns-clause-an_increment_gives_the_value_before_it_or_behind_it : goal.returns-clause-an_increment_gives_the_value_before_it_or_behind_it
unfolding computed
returns-clause-an_increment_gives_the_value_before_it_or_behind_it c = gives refl (λ outside. refl)

pub returns-clause-a_parenthesis_behind_print_begins_its_expression : goal.returns-clause-a_parenthesis_behind_print_begins_its_expression
unfolding computed
returns-clause-a_parenthesis_behind_print_begins_its_expression c = gives refl (λ outside. refl)

pub returns-clause-an_assignment_may_stand_right_of_and : goal.returns-clause-an_assignment_may_stand_right_of_and
unfolding computed
returns-clause-an_assignment_may_stand_right_of_and c = gives refl (λ outside. refl)

pub returns-clause-an_assignment_may_stand_right_of_or : goal.returns-clause-an_assignment_may_stand_right_of_or
unfolding computed
returns-clause-an_assignment_may_stand_right_of_or c = gives refl (λ outside. refl)

pub returns-clause-an_assignment_may_stand_in_both_choices : goal.returns-clause-an_assignment_may_stand_in_both_choices
unfolding computed
returns-clause-an_assignment_may_stand_in_both_choices c = gives refl (λ outside. refl)

pub returns-clause-an_assignment_takes_in_what_stands_right_of_it : goal.returns-clause-an_assignment_takes_in_what_stands_right_of_it
unfolding computed
returns-clause-an_assignment_takes_in_what_stands_right_of_it c = gives refl (λ outside. refl)
