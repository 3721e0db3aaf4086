-- What operators make of values is what they make of their numbers.
use Rattle.std.specs.Prelude.{◌≡◌, ℤ, Ok}
use Rattle.awk_value.specs.declared.value.Value.{Value}
use Rattle.awk_value.specs.declared.value.Value.TheVariants as value
use Rattle.awk_value.specs.Values.{num_of}
use Rattle.awk_lex.specs.declared.token.Operator.{Operator}
use Rattle.awk_semantics.specs.Operators.{applied}

-- an operator makes of two values what it makes of their numbers
abbrev pub IsOfNumbers : Operator → Type 0
IsOfNumbers o = (x y : Value) (m n : ℤ) → num_of x ≡ Ok m → num_of y ≡ Ok n → applied o x y ≡ applied o (value.Number m) (value.Number n)
