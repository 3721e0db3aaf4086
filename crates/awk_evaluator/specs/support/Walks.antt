-- What walks do with the operands.
use Rattle.std.specs.Prelude.{◌≡◌, ◌-◌, ℕ, pos, List, ◌∷◌, ◌++◌, drop, map, Result, Ok, Err, OnOk}
use Rattle.awk_value.specs.declared.value.Value.TheVariants as value
use Rattle.awk_semantics.specs.declared.halt.Halt.{Halt}
use Rattle.awk_storage.specs.declared.position.Array.{Array}
use Rattle.awk_storage.specs.declared.position.Variable.{Variable}
use Rattle.awk_storage.specs.Positions.{put_variable}
use Rattle.awk_storage.specs.Forms.{keys_of_array}
use Rattle.awk_resolve.specs.Nodes.{first, second, walk_values, keys_left}
use Rattle.awk_runtime.specs.Simulation.{Changes}
use Rattle.awk_evaluator.specs.support.Operands.{OperandsView}
use Rattle.awk_evaluator.specs.declared.machine.Machine.{Machine}

-- keys upon the operands, the first one on top
abbrev pub laid : List (List ℕ) → OperandsView → OperandsView
laid keys o = record { values = map (λ key. value.Text key) keys ++ o.values; below = o.below }

-- the keys of an array are put on the stack, or that ends; want of memory may come behind them
abbrev pub PutsKeysBy : Array → Machine → Result (Unit {0}) Halt → Machine → Type 0
PutsKeysBy a m (Ok u) m' = (keys : List (List ℕ)) × Changes (keys_of_array a) m.runtime m'.runtime (Ok keys) × (m'.operands ≡ record m.operands { values = walk_values keys ++ m.operands.values })
PutsKeysBy a m (Err h) m' = Changes (keys_of_array a) m.runtime m'.runtime (Err h)

pub record PutsKeys (a : Array) (m : Machine) (r : Result (Unit {0}) Halt) (m' : Machine) : Type 0 where
  pub puts : PutsKeysBy a m r m'

-- a variable gets the next key
pub record TakesKey (x : Variable) (m : Machine) (r : Result (Unit {0}) Halt) (m' : Machine) : Type 0 where
  pub changes : Changes (put_variable m.runtime.names.scalars x (second m.operands.values)) m.runtime m'.runtime r
  pub operands : OnOk r (m'.operands ≡ record m.operands { values = value.Number (pos (keys_left (first m.operands.values) - 1)) ∷ drop 2 m.operands.values })
  pub calls : OnOk r (m'.runtime.frames.callers ≡ m.runtime.frames.callers)
