use Rattle.std.proofs.Common.{refl}
use Rattle.awk_rows.proofs.Computing.{computed}
use Rattle.awk_rows.proofs.Refusing.{refuses}
use Rattle.awk_rows.proofs.refusals.names.Goals as goal

pub returns-clause-a_number_is_passed_for_an_array : goal.returns-clause-a_number_is_passed_for_an_array
unfolding computed
returns-clause-a_number_is_passed_for_an_array c = refuses refl

pub returns-clause-an_array_is_found_through_two_calls : goal.returns-clause-an_array_is_found_through_two_calls
unfolding computed
returns-clause-an_array_is_found_through_two_calls c = refuses refl

pub returns-clause-a_length_alone_makes_no_array : goal.returns-clause-a_length_alone_makes_no_array
unfolding computed
returns-clause-a_length_alone_makes_no_array c = refuses refl

pub returns-clause-a_function_is_called_that_is_not_there : goal.returns-clause-a_function_is_called_that_is_not_there
unfolding computed
returns-clause-a_function_is_called_that_is_not_there c = refuses refl

pub returns-clause-next_stands_in_no_begin : goal.returns-clause-next_stands_in_no_begin
unfolding computed
returns-clause-next_stands_in_no_begin c = refuses refl

pub returns-clause-nextfile_stands_in_no_begin : goal.returns-clause-nextfile_stands_in_no_begin
unfolding computed
returns-clause-nextfile_stands_in_no_begin c = refuses refl

pub returns-clause-the_name_of_a_function_that_is_left_out : goal.returns-clause-the_name_of_a_function_that_is_left_out
unfolding computed
returns-clause-the_name_of_a_function_that_is_left_out c = refuses refl

pub returns-clause-a_function_is_used_as_a_variable : goal.returns-clause-a_function_is_used_as_a_variable
unfolding computed
returns-clause-a_function_is_used_as_a_variable c = refuses refl
