-- Which built-in functions make a value of values alone (POSIX awk, Arithmetic Functions; String Functions).
use Rattle.std.specs.Prelude.{Bool, true, false}
use Rattle.awk_lex.specs.declared.token.BuiltIn.{BuiltIn}
use Rattle.awk_lex.specs.declared.token.BuiltIn.TheVariants.{Length, Substr, Index, Split, Sub, Gsub, Match, Sprintf, ToLower, ToUpper, Int, System, Close, Fflush}

-- `length` is none: it is of the record, or of an array, too
abbrev pub is_of_values : BuiltIn → Bool
is_of_values Substr = true
is_of_values Index = true
is_of_values Sprintf = true
is_of_values ToLower = true
is_of_values ToUpper = true
is_of_values Int = true
is_of_values Length = false
is_of_values Split = false
is_of_values Sub = false
is_of_values Gsub = false
is_of_values Match = false
is_of_values System = false
is_of_values Close = false
is_of_values Fflush = false
