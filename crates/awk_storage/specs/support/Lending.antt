-- What the arrays end as, once a reference to one of their values has ended.
use Rattle.std.specs.Prelude.{ℕ, List, Option, slice_set}
use Rattle.std.specs.Borrow.{Fml, LendsIf, MutBor}
use Rattle.awk_value.specs.declared.value.Value.{Value}
use Rattle.awk_value.specs.contracts.value.Value.{the_row as value_row}
use Rattle.awk_value.specs.Arrays.{Array, with_pair}
use Rattle.awk_storage.specs.contracts.arrays.Arrays.{the_row}
use Rattle.awk_storage.specs.support.Tables.{array_of}

-- the element has the value that is left in the place; where there is no place, the arrays are as they were
abbrev pub LendsElement : MutBor (List Array) → ℕ → List ℕ → Option (MutBor Value) → Fml
LendsElement arrays number key place = LendsIf the_row value_row arrays place (λ v. slice_set arrays.now number (with_pair (array_of arrays.now number) key v)) arrays.now
