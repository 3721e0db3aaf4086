-- Records that the rules of a plan do nothing on, and that are passed over.
use Rattle.std.specs.Prelude.{◌≡◌, ℕ, ◌≤◌, List, slice_get, Option, Some, Result, IfSome}
use Rattle.awk_streams.specs.WorldState.{WorldState}
use Rattle.awk_grammar.specs.Tree.{Item}
use Rattle.awk_semantics.specs.declared.halt.Halt.{Halt}
use Rattle.awk_semantics.specs.definitions.Items.{until_next}
use Rattle.awk_resolve.specs.declared.plan.Plan.{Plan}
use Rattle.awk_resolve.specs.declared.node.Node.TheVariants as node
use Rattle.awk_runtime.specs.declared.passing.Unwanted.{Unwanted}
use Rattle.awk_runtime.specs.declared.runtime.Runtime.{Runtime}
use Rattle.awk_runtime.specs.support.Naming.{Naming}
use Rattle.awk_runtime.specs.support.Passing.{IsUnwanted, Ignores}
use Rattle.awk_run.specs.support.Planned.{IsPlanFor, place_in, part_at}
use Rattle.awk_run.specs.support.Follows.{ReadsOn, IsSet}

-- nothing is done at a place
abbrev pub IsEnd : Plan → ℕ → Type 0
IsEnd plan place = slice_get plan.nodes.items place ≡ Some node.End

-- the rules of a plan do nothing on records that they don't want, whichever program it is of
pub record RulesIgnore (plan : Plan) (unwanted : Unwanted) : Type 0 where
  pub ignores : (items : List Item) (names : Naming) → IsPlanFor items plan names → (n : ℕ) → Ignores (until_next (part_at (place_in items plan n) plan.rules)) (IsUnwanted names unwanted)

-- what is read on behind the records that are passed over is what is read on with them
pub record PassesOn (is_logged : Type 0) (plan : Plan) (old : Runtime) (k : WorldState) (new : Runtime) : Type 0 where
  pub steps : new.steps ≤ old.steps
  pub set : IsSet is_logged plan new k
  pub on : (last : Runtime) (after : WorldState) (r : Result (Unit {0}) Halt) → ReadsOn is_logged plan new k last after r → ReadsOn is_logged plan old k last after r

-- so it is for each plan whose rules ignore what is passed over
pub record PassesFor (is_logged : Type 0) (unwanted : Option Unwanted) (old : Runtime) (k : WorldState) (new : Runtime) : Type 0 where
  pub passes : (plan : Plan) → IfSome unwanted (RulesIgnore plan) → IsSet is_logged plan old k → PassesOn is_logged plan old k new
