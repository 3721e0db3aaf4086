use Rattle.std.proofs.Common.{[], codes, refl}
use Rattle.awk_rows.proofs.Computing.{computed, gives}
use Rattle.awk_rows.proofs.arrays.calls.Goals as goal

pub returns-clause-an_array_is_made_by_the_call_that_fills_it : goal.returns-clause-an_array_is_made_by_the_call_that_fills_it
unfolding computed
returns-clause-an_array_is_made_by_the_call_that_fills_it c = gives {bytes = codes "k 1\n"} refl (λ outside. refl)

pub returns-clause-an_array_is_one_under_two_parameters : goal.returns-clause-an_array_is_one_under_two_parameters
unfolding computed
returns-clause-an_array_is_one_under_two_parameters c = gives {bytes = codes "5\n"} refl (λ outside. refl)

pub returns-clause-a_local_array_is_new_for_each_call : goal.returns-clause-a_local_array_is_new_for_each_call
unfolding computed
returns-clause-a_local_array_is_new_for_each_call c = gives {bytes = codes "1\n"} refl (λ outside. refl)

pub returns-clause-next_without_a_record_is_a_fault : goal.returns-clause-next_without_a_record_is_a_fault
unfolding computed
returns-clause-next_without_a_record_is_a_fault c = gives {bytes = []} refl (λ outside. refl)
