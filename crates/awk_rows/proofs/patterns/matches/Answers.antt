use Rattle.std.proofs.Common.{refl}
use Rattle.awk_rows.proofs.Computing.{computed, gives, gives_of}
use Rattle.awk_rows.proofs.patterns.matches.Goals as goal

pub returns-clause-a_pattern_alone_prints_its_records : goal.returns-clause-a_pattern_alone_prints_its_records
unfolding computed
returns-clause-a_pattern_alone_prints_its_records c = gives_of refl refl

pub returns-clause-a_match_and_none : goal.returns-clause-a_match_and_none
unfolding computed
returns-clause-a_match_and_none c = gives_of refl refl

pub returns-clause-an_empty_match_stands_at_the_first_place : goal.returns-clause-an_empty_match_stands_at_the_first_place
unfolding computed
returns-clause-an_empty_match_stands_at_the_first_place c = gives refl (λ outside. refl)

pub returns-clause-a_text_is_read_as_a_pattern_where_it_is_matched : goal.returns-clause-a_text_is_read_as_a_pattern_where_it_is_matched
unfolding computed
returns-clause-a_text_is_read_as_a_pattern_where_it_is_matched c = gives refl (λ outside. refl)

pub returns-clause-a_text_that_is_no_pattern_is_a_fault_where_it_is_matched : goal.returns-clause-a_text_that_is_no_pattern_is_a_fault_where_it_is_matched
unfolding computed
returns-clause-a_text_that_is_no_pattern_is_a_fault_where_it_is_matched c = gives refl (λ outside. refl)

pub returns-clause-two_stars_are_as_one : goal.returns-clause-two_stars_are_as_one
unfolding computed
returns-clause-two_stars_are_as_one c = gives refl (λ outside. refl)

pub returns-clause-a_pattern_may_begin_with_an_equals_sign : goal.returns-clause-a_pattern_may_begin_with_an_equals_sign
unfolding computed
returns-clause-a_pattern_may_begin_with_an_equals_sign c = gives_of refl refl

pub returns-clause-of_the_leftmost_matches_the_longest_is_found : goal.returns-clause-of_the_leftmost_matches_the_longest_is_found
unfolding computed
returns-clause-of_the_leftmost_matches_the_longest_is_found c = gives_of refl refl

pub returns-clause-a_range_begins_again : goal.returns-clause-a_range_begins_again
unfolding computed
returns-clause-a_range_begins_again c = gives_of refl refl

pub returns-clause-the_longest_match_goes_to_the_end : goal.returns-clause-the_longest_match_goes_to_the_end
unfolding computed
returns-clause-the_longest_match_goes_to_the_end c = gives_of refl refl

pub returns-clause-a_pattern_may_name_the_byte_zero : goal.returns-clause-a_pattern_may_name_the_byte_zero
unfolding computed
returns-clause-a_pattern_may_name_the_byte_zero c = gives_of refl refl

pub returns-clause-any_byte_is_a_character : goal.returns-clause-any_byte_is_a_character
unfolding computed
returns-clause-any_byte_is_a_character c = gives_of refl refl
