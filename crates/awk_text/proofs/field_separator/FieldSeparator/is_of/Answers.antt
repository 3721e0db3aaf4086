use Rattle.std.proofs.Common.{rules}
use Rattle.awk_text.proofs.field_separator.FieldSeparator.is_of.Goals as goal

pub returns-then-self-newline_too : goal.returns-then-self-newline_too
returns-then-self-newline_too c = search rules

pub returns-else-self-newline_too : goal.returns-else-self-newline_too
returns-else-self-newline_too c = search rules
