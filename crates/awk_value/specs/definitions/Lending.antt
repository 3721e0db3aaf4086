-- What an array ends as, once a reference to one of its values has ended.
use Rattle.std.specs.Prelude.{ℕ, List, Option}
use Rattle.std.specs.Borrow.{Fml, LendsIf, MutBor}
use Rattle.awk_value.specs.declared.value.Value.{Value}
use Rattle.awk_value.specs.contracts.value.Value.{the_row as value_row}
use Rattle.awk_value.specs.contracts.table.Table.{the_row}
use Rattle.awk_value.specs.definitions.Arrays.{Array, with_pair}

-- the key has the value that is left in the place; where there is no place, the array is as it was
abbrev pub LendsValue : MutBor Array → List ℕ → Option (MutBor Value) → Fml
LendsValue array key place = LendsIf the_row value_row array place (with_pair array.now key) array.now
