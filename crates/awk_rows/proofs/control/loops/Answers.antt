use Rattle.std.proofs.Common.{refl}
use Rattle.awk_rows.proofs.Computing.{computed, gives, means, means_from}
use Rattle.awk_rows.proofs.control.loops.Goals as goal

pub returns-clause-a_do_loop_spends_six_steps : goal.returns-clause-a_do_loop_spends_six_steps
unfolding computed
returns-clause-a_do_loop_spends_six_steps c = λ outside. means_from 6 refl refl

pub returns-clause-a_do_loop_is_stopped_within_five_steps : goal.returns-clause-a_do_loop_is_stopped_within_five_steps
unfolding computed
returns-clause-a_do_loop_is_stopped_within_five_steps c = λ outside. means refl

pub returns-clause-a_newline_may_stand_behind_and_and_before_else : goal.returns-clause-a_newline_may_stand_behind_and_and_before_else
unfolding computed
returns-clause-a_newline_may_stand_behind_and_and_before_else c = gives refl (λ outside. refl)

pub returns-clause-a_loop_is_stopped_where_its_turn_has_no_step : goal.returns-clause-a_loop_is_stopped_where_its_turn_has_no_step
unfolding computed
returns-clause-a_loop_is_stopped_where_its_turn_has_no_step c = λ outside. means refl

pub returns-clause-a_loop_ends_with_its_last_step : goal.returns-clause-a_loop_ends_with_its_last_step
unfolding computed
returns-clause-a_loop_ends_with_its_last_step c = λ outside. means_from 11 refl refl

pub returns-clause-an_endless_loop_is_stopped_at_the_limit : goal.returns-clause-an_endless_loop_is_stopped_at_the_limit
unfolding computed
returns-clause-an_endless_loop_is_stopped_at_the_limit c = λ outside. means refl

pub returns-clause-without_a_step_nothing_is_done : goal.returns-clause-without_a_step_nothing_is_done
unfolding computed
returns-clause-without_a_step_nothing_is_done c = λ outside. means refl
