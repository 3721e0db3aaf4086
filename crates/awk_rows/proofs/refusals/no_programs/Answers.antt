use Rattle.std.proofs.Common.{refl}
use Rattle.awk_rows.proofs.Computing.{computed}
use Rattle.awk_rows.proofs.Refusing.{refuses}
use Rattle.awk_rows.proofs.refusals.no_programs.Goals as goal

pub returns-clause-comparisons_do_not_stand_in_a_row : goal.returns-clause-comparisons_do_not_stand_in_a_row
unfolding computed
returns-clause-comparisons_do_not_stand_in_a_row c = refuses refl

pub returns-clause-two_stars_are_no_power : goal.returns-clause-two_stars_are_no_power
unfolding computed
returns-clause-two_stars_are_no_power c = refuses refl

pub returns-clause-a_minus_does_not_stand_behind_a_dollar : goal.returns-clause-a_minus_does_not_stand_behind_a_dollar
unfolding computed
returns-clause-a_minus_does_not_stand_behind_a_dollar c = refuses refl

pub returns-clause-an_assignment_does_not_stand_right_of_not : goal.returns-clause-an_assignment_does_not_stand_right_of_not
unfolding computed
returns-clause-an_assignment_does_not_stand_right_of_not c = refuses refl

pub returns-clause-a_condition_does_not_stand_behind_a_redirection : goal.returns-clause-a_condition_does_not_stand_behind_a_redirection
unfolding computed
returns-clause-a_condition_does_not_stand_behind_a_redirection c = refuses refl

pub returns-clause-an_assignment_does_not_stand_right_of_a_sum : goal.returns-clause-an_assignment_does_not_stand_right_of_a_sum
unfolding computed
returns-clause-an_assignment_does_not_stand_right_of_a_sum c = refuses refl

pub returns-clause-an_assignment_does_not_stand_right_of_a_comparison : goal.returns-clause-an_assignment_does_not_stand_right_of_a_comparison
unfolding computed
returns-clause-an_assignment_does_not_stand_right_of_a_comparison c = refuses refl

pub returns-clause-sub_exchanges_in_a_place : goal.returns-clause-sub_exchanges_in_a_place
unfolding computed
returns-clause-sub_exchanges_in_a_place c = refuses refl

pub returns-clause-split_has_two_arguments_or_three : goal.returns-clause-split_has_two_arguments_or_three
unfolding computed
returns-clause-split_has_two_arguments_or_three c = refuses refl
