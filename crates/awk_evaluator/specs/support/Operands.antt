-- The operands of the active calls.
use Rattle.std.specs.Prelude.{◌++◌, List, reverse}
use Rattle.awk_value.specs.declared.value.Value.{Value}

pub record OperandsView : Type 0 where
  -- those of the newest call, the newest first
  pub values : List Value
  -- those of its callers, the oldest first
  pub below : List Value

-- all of them, the oldest first
abbrev pub all_of : OperandsView → List Value
all_of o = o.below ++ reverse o.values
