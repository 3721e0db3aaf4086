use Rattle.std.proofs.Common.{refl}
use Rattle.awk_rows.specs.definitions.Row.{ample}
use Rattle.awk_rows.proofs.Computing.{computed, gives_of, means_from}
use Rattle.awk_rows.proofs.fields.separators.Goals as goal

pub returns-clause-paragraphs_have_a_newline_as_a_second_separator : goal.returns-clause-paragraphs_have_a_newline_as_a_second_separator
unfolding computed
returns-clause-paragraphs_have_a_newline_as_a_second_separator c = means_from ample refl refl

pub returns-clause-a_new_record_separator_holds_from_the_next_record_on : goal.returns-clause-a_new_record_separator_holds_from_the_next_record_on
unfolding computed
returns-clause-a_new_record_separator_holds_from_the_next_record_on c = means_from ample refl refl

pub returns-clause-a_semicolon_separates_records : goal.returns-clause-a_semicolon_separates_records
unfolding computed
returns-clause-a_semicolon_separates_records c = means_from ample refl refl

pub returns-clause-a_newline_is_kept_in_the_last_record : goal.returns-clause-a_newline_is_kept_in_the_last_record
unfolding computed
returns-clause-a_newline_is_kept_in_the_last_record c = means_from ample refl refl

pub returns-clause-a_paragraph_ends_at_empty_lines : goal.returns-clause-a_paragraph_ends_at_empty_lines
unfolding computed
returns-clause-a_paragraph_ends_at_empty_lines c = means_from ample refl refl

pub returns-clause-a_record_may_be_passed_over : goal.returns-clause-a_record_may_be_passed_over
unfolding computed
returns-clause-a_record_may_be_passed_over c = gives_of refl refl

pub returns-clause-a_separator_may_change_within_the_input : goal.returns-clause-a_separator_may_change_within_the_input
unfolding computed
returns-clause-a_separator_may_change_within_the_input c = gives_of refl refl

pub returns-clause-a_separator_of_several_bytes_stands_for_itself : goal.returns-clause-a_separator_of_several_bytes_stands_for_itself
unfolding computed
returns-clause-a_separator_of_several_bytes_stands_for_itself c = means_from ample refl refl

pub returns-clause-a_point_in_a_separator_of_several_bytes_is_a_point : goal.returns-clause-a_point_in_a_separator_of_several_bytes_is_a_point
unfolding computed
returns-clause-a_point_in_a_separator_of_several_bytes_is_a_point c = means_from ample refl refl
