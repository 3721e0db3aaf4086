use Rattle.std.proofs.Common.{refl}
use Rattle.awk_rows.specs.definitions.Row.{ample}
use Rattle.awk_rows.proofs.Computing.{computed, gives, gives_of, means, means_from}
use Rattle.awk_rows.proofs.control.runs.Goals as goal

pub returns-clause-exit_in_begin_goes_on_with_end : goal.returns-clause-exit_in_begin_goes_on_with_end
unfolding computed
returns-clause-exit_in_begin_goes_on_with_end c = gives_of refl refl

pub returns-clause-without_a_record_the_counts_are_zero : goal.returns-clause-without_a_record_the_counts_are_zero
unfolding computed
returns-clause-without_a_record_the_counts_are_zero c = gives_of refl refl

pub returns-clause-an_exit_status_is_taken_by_its_last_byte : goal.returns-clause-an_exit_status_is_taken_by_its_last_byte
unfolding computed
returns-clause-an_exit_status_is_taken_by_its_last_byte c = gives refl (λ outside. refl)

pub returns-clause-the_empty_program_does_nothing : goal.returns-clause-the_empty_program_does_nothing
unfolding computed
returns-clause-the_empty_program_does_nothing c = gives refl (λ outside. refl)

pub returns-clause-a_record_spends_a_step_and_so_does_its_statement : goal.returns-clause-a_record_spends_a_step_and_so_does_its_statement
unfolding computed
returns-clause-a_record_spends_a_step_and_so_does_its_statement c = means refl

pub returns-clause-two_records_are_printed_within_four_steps : goal.returns-clause-two_records_are_printed_within_four_steps
unfolding computed
returns-clause-two_records_are_printed_within_four_steps c = means_from 4 refl refl

pub returns-clause-a_record_is_stopped_before_its_statement : goal.returns-clause-a_record_is_stopped_before_its_statement
unfolding computed
returns-clause-a_record_is_stopped_before_its_statement c = means refl

pub returns-clause-the_next_record_is_stopped : goal.returns-clause-the_next_record_is_stopped
unfolding computed
returns-clause-the_next_record_is_stopped c = means refl

pub returns-clause-a_pattern_spends_no_step : goal.returns-clause-a_pattern_spends_no_step
unfolding computed
returns-clause-a_pattern_spends_no_step c = means_from 3 refl refl

pub returns-clause-exit_ends_the_records : goal.returns-clause-exit_ends_the_records
unfolding computed
returns-clause-exit_ends_the_records c = gives_of refl refl

pub returns-clause-a_variable_is_assigned_before_the_run : goal.returns-clause-a_variable_is_assigned_before_the_run
unfolding computed
returns-clause-a_variable_is_assigned_before_the_run c = λ outside. means_from ample refl refl
