-- What the parts of a run over a plan do.
use Rattle.std.specs.Prelude.{◌≡◌, ℕ, ◌≤◌, suc, Bool, true, false, List, None, Result, Ok, Err}
use Rattle.awk_value.specs.declared.value.Value.{Value}
use Rattle.awk_streams.specs.WorldState.{WorldState}
use Rattle.awk_grammar.specs.Tree.{Item}
use Rattle.awk_semantics.specs.declared.halt.Halt.{Halt}
use Rattle.awk_semantics.specs.definitions.State.{Run}
use Rattle.awk_semantics.specs.definitions.Inputs.{next_record}
use Rattle.awk_semantics.specs.definitions.Items.{until_next, each_record}
use Rattle.awk_resolve.specs.declared.plan.Plan.{Plan}
use Rattle.awk_runtime.specs.declared.runtime.Runtime.{Runtime}
use Rattle.awk_runtime.specs.support.Simulation.{IsReady, Simulates, Follows}
use Rattle.awk_runtime.specs.support.Inputs.{Begins}
use Rattle.awk_run.specs.support.Planned.{IsPlanFor, place_in, part_at}

-- a part of a run that is made of what the places of a plan do
abbrev pub Part : Type 0 → Type 0
Part A = (ℕ → Run Value) → Run A

-- the code does what the part says, whichever program the plan is of, and at any bound above the steps
pub record FollowsPlan {A : Type 0} (is_logged : Type 0) (plan : Plan) (part : Part A) (old : Runtime) (before : WorldState) (new : Runtime) (after : WorldState) (r : Result A Halt) : Type 0 where
  pub steps : new.steps ≤ old.steps
  pub names : new.names ≡ old.names
  pub told : (items : List Item) → IsPlanFor items plan old.names → (n : ℕ) → old.steps ≤ n → Simulates is_logged old before new after r (part (place_in items plan n))

-- the records that are left, at any bound above the steps
pub record ReadsOn (is_logged : Type 0) (plan : Plan) (old : Runtime) (before : WorldState) (new : Runtime) (after : WorldState) (r : Result (Unit {0}) Halt) : Type 0 where
  pub bounded : (m : ℕ) → old.steps ≤ m → FollowsPlan is_logged plan (λ at. each_record (suc m) (until_next (part_at at plan.rules))) old before new after r

-- what is known of the state whenever the plan is run
pub record IsSet (is_logged : Type 0) (plan : Plan) (m : Runtime) (k : WorldState) : Type 0 where
  pub ready : IsReady is_logged k m.streams
  pub items : List Item
  pub planned : IsPlanFor items plan m.names

-- the next record begins, or there is none, or a fault ends the reading
abbrev pub FindsNext : Type 0 → Runtime → WorldState → Runtime → WorldState → Result Bool Halt → Type 0
FindsNext is_logged old before new after (Ok true) = Begins is_logged old before new after (Ok tt)
FindsNext is_logged old before new after (Ok false) = Follows is_logged next_record old before new after (Ok None)
FindsNext is_logged old before new after (Err h) = (plan : Plan) → ReadsOn is_logged plan old before new after (Err h)

pub record ReadsNext (is_logged : Type 0) (old : Runtime) (before : WorldState) (new : Runtime) (after : WorldState) (r : Result Bool Halt) : Type 0 where
  pub finds : FindsNext is_logged old before new after r
  pub set : (plan : Plan) → IsSet is_logged plan old before → IsSet is_logged plan new after
