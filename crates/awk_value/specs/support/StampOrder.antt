-- Rows with stamps, in the order of the stamps.
use Rattle.std.specs.Prelude.{ℕ, zero, suc, List, [], ◌++◌, nat_eq}
use Rattle.std.specs.Option.{option_to_list}
use Rattle.std.specs.Map.{lookup}

-- what the rows hold at the stamps 0, 1 and so on below n
abbrev pub stamp_order : {P : Type 0} → ℕ → List (ℕ × P) → List P
stamp_order zero rows = []
stamp_order (suc n) rows = stamp_order n rows ++ option_to_list (lookup (nat_eq n) rows)
