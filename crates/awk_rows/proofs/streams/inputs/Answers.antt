use Rattle.std.proofs.Common.{refl}
use Rattle.awk_rows.specs.definitions.Row.{ample}
use Rattle.awk_rows.proofs.Computing.{computed, gives_of, means, means_from}
use Rattle.awk_rows.proofs.streams.inputs.Goals as goal

pub returns-clause-getline_reads_a_file_to_its_end_and_counts_no_record : goal.returns-clause-getline_reads_a_file_to_its_end_and_counts_no_record
unfolding computed
returns-clause-getline_reads_a_file_to_its_end_and_counts_no_record c = means_from ample refl refl

pub returns-clause-getline_of_a_variable_counts_records : goal.returns-clause-getline_of_a_variable_counts_records
unfolding computed
returns-clause-getline_of_a_variable_counts_records c = gives_of refl refl

pub returns-clause-getline_of_a_file_takes_the_place_of_the_record : goal.returns-clause-getline_of_a_file_takes_the_place_of_the_record
unfolding computed
returns-clause-getline_of_a_file_takes_the_place_of_the_record c = means_from ample refl refl

pub returns-clause-getline_of_a_command_goes_on_where_it_was : goal.returns-clause-getline_of_a_command_goes_on_where_it_was
unfolding computed
returns-clause-getline_of_a_command_goes_on_where_it_was c = means_from ample refl refl

pub returns-clause-getline_of_a_file_that_breaks_is_refused : goal.returns-clause-getline_of_a_file_that_breaks_is_refused
unfolding computed
returns-clause-getline_of_a_file_that_breaks_is_refused c = means_from ample refl refl

pub returns-clause-a_command_is_closed : goal.returns-clause-a_command_is_closed
unfolding computed
returns-clause-a_command_is_closed c = means_from ample refl refl

pub returns-clause-a_command_may_be_joined : goal.returns-clause-a_command_may_be_joined
unfolding computed
returns-clause-a_command_may_be_joined c = means_from ample refl refl

pub returns-clause-operands_are_assignments_and_files_in_turn : goal.returns-clause-operands_are_assignments_and_files_in_turn
unfolding computed
returns-clause-operands_are_assignments_and_files_in_turn c = means_from ample refl refl

pub returns-clause-an_operand_spends_a_step : goal.returns-clause-an_operand_spends_a_step
unfolding computed
returns-clause-an_operand_spends_a_step c = means refl

pub returns-clause-two_files_are_read_within_eight_steps : goal.returns-clause-two_files_are_read_within_eight_steps
unfolding computed
returns-clause-two_files_are_read_within_eight_steps c = means_from 8 refl refl

pub returns-clause-an_assignment_holds_from_its_turn_on : goal.returns-clause-an_assignment_holds_from_its_turn_on
unfolding computed
returns-clause-an_assignment_holds_from_its_turn_on c = means_from ample refl refl

pub returns-clause-records_are_counted_in_all_and_by_file : goal.returns-clause-records_are_counted_in_all_and_by_file
unfolding computed
returns-clause-records_are_counted_in_all_and_by_file c = means_from ample refl refl

pub returns-clause-nextfile_goes_on_with_the_next_file : goal.returns-clause-nextfile_goes_on_with_the_next_file
unfolding computed
returns-clause-nextfile_goes_on_with_the_next_file c = means_from ample refl refl

pub returns-clause-an_operand_that_is_not_there_is_a_fault : goal.returns-clause-an_operand_that_is_not_there_is_a_fault
unfolding computed
returns-clause-an_operand_that_is_not_there_is_a_fault c = means_from ample refl refl
