-- Operators of arithmetic make of values what they make of their numbers.
use Rattle.std.proofs.Common.{◌≡◌, ℤ, Option, Some, None, Result, Ok, ap, ◌∙◌}
use Rattle.std.specs.Prelude.{IfSome}
use Rattle.awk_value.specs.declared.fault.ValueFault.{ValueFault}
use Rattle.awk_value.specs.declared.value.Value.{Value}
use Rattle.awk_value.specs.Values.{num_of, from_numbers}
use Rattle.awk_semantics.specs.definitions.Faults.{of_values}

pub arithmetic_by : (f : ℤ → ℤ → Result ℤ ValueFault) (x y : Value) (m n : ℤ) → num_of x ≡ Ok m → num_of y ≡ Ok n → of_values (from_numbers f (num_of x) (num_of y)) ≡ of_values (from_numbers f (Ok m) (Ok n))
arithmetic_by f x y m n e e' = ap (λ r. of_values (from_numbers f r (num_of y))) e ∙ ap (λ r. of_values (from_numbers f (Ok m) r)) e'

-- what holds anyway holds where there is a number
pub where_some : {P : Type 0} (r : Option ℤ) → P → IfSome r (λ n. P)
where_some None p = tt
where_some (Some n) p = p
