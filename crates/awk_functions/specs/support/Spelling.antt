-- Which text spells a pattern, and which separator an operand of `split` stands for (POSIX awk, Regular Expressions; String
-- Functions).
use Rattle.std.specs.Prelude.{ℕ, List, Result}
use Rattle.awk_value.specs.Values.{str_of}
use Rattle.awk_text.specs.Separators.{Separator}
use Rattle.awk_semantics.specs.declared.halt.Halt.{Halt}
use Rattle.awk_semantics.specs.Operators.{pattern_in}
use Rattle.awk_semantics.specs.Texts.{separator_in, ere_separator}
use Rattle.awk_functions.specs.declared.patterns.PatternOperand.{PatternOperand}
use Rattle.awk_functions.specs.declared.patterns.PatternOperand.TheVariants as operand

-- the text between the slashes of an ERE, or the text of a value
abbrev pub spelling_of : PatternOperand → List ℕ
spelling_of (operand.Ere number text) = text.now
spelling_of (operand.Value v) = str_of v.now

-- an ERE is a separator whatever its length, and the text of a value is read as FS is
abbrev pub separator_for : PatternOperand → Result Separator Halt
separator_for (operand.Ere number text) = ere_separator (pattern_in text.now)
separator_for (operand.Value v) = separator_in (str_of v.now)
