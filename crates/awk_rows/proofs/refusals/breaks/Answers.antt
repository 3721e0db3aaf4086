use Rattle.std.proofs.Common.{refl}
use Rattle.awk_rows.proofs.Computing.{computed}
use Rattle.awk_rows.proofs.Refusing.{refuses}
use Rattle.awk_rows.proofs.refusals.breaks.Goals as goal

pub returns-clause-a_byte_that_begins_no_token : goal.returns-clause-a_byte_that_begins_no_token
unfolding computed
returns-clause-a_byte_that_begins_no_token c = refuses refl

pub returns-clause-a_string_that_is_not_closed : goal.returns-clause-a_string_that_is_not_closed
unfolding computed
returns-clause-a_string_that_is_not_closed c = refuses refl

pub returns-clause-an_escape_that_stands_for_nothing : goal.returns-clause-an_escape_that_stands_for_nothing
unfolding computed
returns-clause-an_escape_that_stands_for_nothing c = refuses refl

pub returns-clause-a_pattern_that_is_not_closed : goal.returns-clause-a_pattern_that_is_not_closed
unfolding computed
returns-clause-a_pattern_that_is_not_closed c = refuses refl

pub returns-clause-a_number_with_a_fraction : goal.returns-clause-a_number_with_a_fraction
unfolding computed
returns-clause-a_number_with_a_fraction c = refuses refl
