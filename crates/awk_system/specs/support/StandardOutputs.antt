-- The standard outputs are open.
use Rattle.std.specs.Prelude.{◌≡◌, ◌<◌, ℕ, true, is_some, ◌||◌}
use Rattle.std.specs.Ordering.{nat_cmp}
use Rattle.std.specs.BTreeMap.{BTreeMap, get}
use Rattle.std.proofs.Common.{ap}
use Rattle.std.proofs.lemmas.Bool.{lt-ltb}
use Rattle.awk_system.specs.definitions.Opened.{is_open_in}

pub standard_outputs_open : {V : Type 0} (opened : BTreeMap ℕ V) (id : ℕ) → id < 2 → is_open_in opened id ≡ true
standard_outputs_open opened id below = ap (λ b. b || is_some (get nat_cmp opened id)) (lt-ltb id 2 below)
