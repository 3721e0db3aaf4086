use Rattle.std.proofs.Common.{codes, refl}
use Rattle.awk_rows.specs.definitions.Row.{ample}
use Rattle.awk_rows.proofs.Computing.{computed, gives, gives_of, means_from}
use Rattle.awk_rows.proofs.patterns.exchanges.Goals as goal

pub returns-clause-empty_matches_are_exchanged_but_not_behind_a_match : goal.returns-clause-empty_matches_are_exchanged_but_not_behind_a_match
unfolding computed
returns-clause-empty_matches_are_exchanged_but_not_behind_a_match c = gives_of refl refl

pub returns-clause-an_empty_match_is_exchanged_at_each_place : goal.returns-clause-an_empty_match_is_exchanged_at_each_place
unfolding computed
returns-clause-an_empty_match_is_exchanged_at_each_place c = gives_of refl refl

pub returns-clause-an_ampersand_is_the_match_unless_it_is_escaped : goal.returns-clause-an_ampersand_is_the_match_unless_it_is_escaped
unfolding computed
returns-clause-an_ampersand_is_the_match_unless_it_is_escaped c = gives refl (λ outside. refl)

pub returns-clause-a_separator_that_is_no_pattern_is_a_fault_before_any_input : goal.returns-clause-a_separator_that_is_no_pattern_is_a_fault_before_any_input
unfolding computed
returns-clause-a_separator_that_is_no_pattern_is_a_fault_before_any_input c = gives refl (λ outside. refl)

pub returns-clause-a_text_is_split_by_a_pattern : goal.returns-clause-a_text_is_split_by_a_pattern
unfolding computed
returns-clause-a_text_is_split_by_a_pattern c = gives {bytes = codes "3 ac\n0 0\n"} refl (λ outside. refl)

pub returns-clause-a_blank_as_a_pattern_is_one_blank : goal.returns-clause-a_blank_as_a_pattern_is_one_blank
unfolding computed
returns-clause-a_blank_as_a_pattern_is_one_blank c = gives refl (λ outside. refl)

pub returns-clause-fields_are_separated_by_a_pattern : goal.returns-clause-fields_are_separated_by_a_pattern
unfolding computed
returns-clause-fields_are_separated_by_a_pattern c = means_from ample refl refl
