use Rattle.std.proofs.Common.{refl}
use Rattle.awk_rows.specs.definitions.Row.{ample}
use Rattle.awk_rows.proofs.Computing.{computed, means_from}
use Rattle.awk_rows.proofs.streams.outputs.Goals as goal

pub returns-clause-a_file_is_opened_once : goal.returns-clause-a_file_is_opened_once
unfolding computed
returns-clause-a_file_is_opened_once c = means_from ample refl refl

pub returns-clause-a_file_is_closed_once : goal.returns-clause-a_file_is_closed_once
unfolding computed
returns-clause-a_file_is_closed_once c = means_from ample refl refl

pub returns-clause-a_file_that_is_open_is_not_opened_again : goal.returns-clause-a_file_that_is_open_is_not_opened_again
unfolding computed
returns-clause-a_file_that_is_open_is_not_opened_again c = means_from ample refl refl

pub returns-clause-a_command_is_run_and_gives_its_status : goal.returns-clause-a_command_is_run_and_gives_its_status
unfolding computed
returns-clause-a_command_is_run_and_gives_its_status c = means_from ample refl refl

pub returns-clause-an_output_that_is_not_opened_is_a_fault : goal.returns-clause-an_output_that_is_not_opened_is_a_fault
unfolding computed
returns-clause-an_output_that_is_not_opened_is_a_fault c = means_from ample refl refl

pub returns-clause-a_command_that_is_closed_gives_its_status : goal.returns-clause-a_command_that_is_closed_gives_its_status
unfolding computed
returns-clause-a_command_that_is_closed_gives_its_status c = means_from ample refl refl

pub returns-clause-fflush_knows_the_outputs_that_are_open : goal.returns-clause-fflush_knows_the_outputs_that_are_open
unfolding computed
returns-clause-fflush_knows_the_outputs_that_are_open c = means_from ample refl refl
