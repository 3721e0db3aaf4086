-- What the keys that are numbers end as, once a reference to a value of one has ended.
use Rattle.std.specs.Prelude.{◌≡◌, ℤ, List, Option, OnSome}
use Rattle.std.specs.Borrow.{Fml, LendsIf, LendsSo, MutBor}
use Rattle.std.specs.Map.{lookup}
use Rattle.std.specs.Ordering.{int_eq}
use Rattle.awk_value.specs.declared.value.Value.{Value}
use Rattle.awk_value.specs.contracts.value.Value.{the_row as value_row}
use Rattle.awk_value.specs.declared.entry.Entry.{Entry}
use Rattle.awk_value.specs.contracts.dense.Dense.{the_row as dense_row}
use Rattle.awk_value.specs.contracts.numbers.Numbers.{the_row as numbers_row}
use Rattle.awk_value.specs.support.DenseKeys.{numbered, with_value}

-- the key has the value that is left in the place; where there is no place, all is as it was
abbrev pub LendsPlace : MutBor (List Entry) → ℤ → Option (MutBor Value) → Fml
LendsPlace es key place = LendsSo dense_row value_row es place
    (λ new v. OnSome place (numbered 0 new ≡ with_value (lookup (int_eq key) (numbered 0 es.now)) key v (numbered 0 es.now))) (λ new. new ≡ es.now)

abbrev pub LendsNumber : MutBor (List (ℤ × Entry)) → ℤ → Option (MutBor Value) → Fml
LendsNumber es key place = LendsIf numbers_row value_row es place (λ v. with_value (lookup (int_eq key) es.now) key v es.now) es.now
