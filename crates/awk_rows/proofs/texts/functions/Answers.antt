use Rattle.std.proofs.Common.{refl}
use Rattle.awk_rows.proofs.Computing.{computed, gives}
use Rattle.awk_rows.proofs.texts.functions.Goals as goal

pub returns-clause-positions_before_the_first_use_up_the_count : goal.returns-clause-positions_before_the_first_use_up_the_count
unfolding computed
returns-clause-positions_before_the_first_use_up_the_count c = gives refl (λ outside. refl)

pub returns-clause-a_position_and_the_number_in_front_of_a_text : goal.returns-clause-a_position_and_the_number_in_front_of_a_text
unfolding computed
returns-clause-a_position_and_the_number_in_front_of_a_text c = gives refl (λ outside. refl)

pub returns-clause-small_and_capital_letters_and_a_formatted_text : goal.returns-clause-small_and_capital_letters_and_a_formatted_text
unfolding computed
returns-clause-small_and_capital_letters_and_a_formatted_text c = gives refl (λ outside. refl)
