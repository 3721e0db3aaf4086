-- What is still to be done: from a place, and then from the entry of each active call, the newest first. Each has bounds of its
-- own: how many calls may be within one another, and how many turns of loops may follow.
use Rattle.std.specs.Prelude.{◌≡◌, ◌≤◌, ◌<◌, ℕ, suc, List, [], ◌∷◌, drop, take, reverse, map, slice_get, Some, Result}
use Rattle.awk_value.specs.declared.value.Value.{Value}
use Rattle.awk_streams.specs.WorldState.{WorldState}
use Rattle.awk_kinds.specs.Kinds.{FormalParameter, Definition}
use Rattle.awk_semantics.specs.declared.halt.Halt.{Halt}
use Rattle.awk_semantics.specs.declared.local.Local.{Local}
use Rattle.awk_semantics.specs.State.{State, Run, ◌>>=◌, ret}
use Rattle.awk_semantics.specs.Primitives.{enter, leave}
use Rattle.awk_semantics.specs.Calls.{definition_of, body_height, call_within, functions_within}
use Rattle.awk_resolve.specs.declared.node.Node.{Node}
use Rattle.awk_resolve.specs.declared.plan.Function.{Function as PlannedFunction}
use Rattle.awk_resolve.specs.declared.plan.Plan.{Plan}
use Rattle.awk_resolve.specs.Nodes.{Tables, Cont, function_at, made, level, cont_at, AreBelow, IsOrdered, AllCallsFit}
use Rattle.awk_resolve.specs.States.{LocalsFit}
use Rattle.awk_resolve.specs.Plans.{array_parameters}
use Rattle.awk_runtime.specs.support.Naming.{Naming}
use Rattle.awk_runtime.specs.declared.runtime.Runtime.{Runtime}
use Rattle.awk_runtime.specs.support.Simulation.{Simulates}
use Rattle.awk_storage.specs.declared.entry.Caller.{Caller}

-- what the evaluator needs of a plan's lists
pub record IsSound (plan : Plan) : Type 0 where
  pub ordered : IsOrdered plan.nodes.items
  pub calls : AllCallsFit (array_parameters plan.functions.items) plan.nodes.items
  -- a body has a height
  pub high : (i : ℕ) (f : PlannedFunction) → slice_get plan.functions.items i ≡ Some f → 0 < f.height

module _ (tables : Tables) (ds : List Definition) (plan : Plan) where
  -- a call of a function does what the place of its body does, with whatever values under it
  pub record StandsFor (i : ℕ) (f : PlannedFunction) : Type 0 where
    pub parameters : List FormalParameter
    pub kinds : map (λ (p : FormalParameter). p.is_array) parameters ≡ f.arrays.items
    pub height : body_height (definition_of ds (function_at tables i)) ≡ f.height
    pub calls : (n m : ℕ) (given : List Local) (vs : List Value) (s : State) → LocalsFit f.arrays.items given → s.steps ≤ m → s.array_names ≡ tables.arrays
        → call_within ds (suc n) (function_at tables i) given s
        ≡ (enter parameters f.height given >>= λ _. cont_at tables (functions_within ds n) plan.heads.items plan.nodes.items m f.body vs >>= λ w. leave >>= λ _. ret w) s

  pub record PlanStands : Type 0 where
    pub functions : (i : ℕ) (f : PlannedFunction) → slice_get plan.functions.items i ≡ Some f → StandsFor i f

-- what the numbers in nodes stand for, by the names that a run has
abbrev pub tables_in : Naming → Tables → Tables
tables_in names tables = record { names = names.scalars; eres = names.eres; arrays = names.arrays; functions = tables.functions }

-- what is left to be done

pub record Entry : Type 0 where
  pub next : ℕ
  pub values : List Value

-- the entries of the callers, the newest first, of what lies below the newest call's operands
abbrev pub seen : List Value → List Caller → List Entry
seen below [] = []
seen below (e ∷ es) = record { next = e.next; values = reverse (drop e.base below) } ∷ seen (take e.base below) es

pub record Bound : Type 0 where
  pub calls : ℕ
  pub turns : ℕ

abbrev pub Bounds : Type 0
Bounds = ℕ → Bound

abbrev pub behind : Bounds → Bounds
behind bs i = bs (suc i)

abbrev pub IsAbove : ℕ → Bound → Type 0
IsAbove steps b = (steps ≤ b.calls) × (steps ≤ b.turns)

-- where the rest of a run begins: at a place, or at a node
pub data Start : Type 0 where
  AtPlace : (place : ℕ) → Start
  AtNode : (node : Node) → Start

-- a place that stands before such a start
abbrev pub IsBefore : Start → ℕ → Type 0
IsBefore (AtPlace at) i = i < at
IsBefore (AtNode x) i = (at : ℕ) → AreBelow at x → i < at

module _ (tables : Tables) (ds : List Definition) (plan : Plan) where
  abbrev pub cont : Bound → ℕ → Cont
  cont b place = cont_at tables (functions_within ds b.calls) plan.heads.items plan.nodes.items b.turns place

  -- a turn of a loop
  abbrev pub turn : Bound → ℕ → Cont
  turn b i = level tables (functions_within ds b.calls) plan.heads.items plan.nodes.items b.turns i

  abbrev pub begun : Start → Bound → Cont
  begun (AtPlace place) b = cont b place
  begun (AtNode x) b = made tables (functions_within ds b.calls) (turn b) (cont b) x

  unfoldable pub resume : Bounds → List Entry → Value → Run Value
  resume bs [] w = ret w
  resume bs (e ∷ below) w = leave >>= λ _. cont (bs 0) e.next (w ∷ e.values) >>= λ u. resume (behind bs) below u

  -- from this start, with these values and entries, the rest of a run leads to this end
  pub record Rest (is_logged : Type 0) (start : Start) (vs : List Value) (stack : List Entry) (old : Runtime) (before : WorldState) (new : Runtime) (after : WorldState) (r : Result Value Halt) : Type 0 where
    pub does : (b : Bound) (bs : Bounds) → IsAbove old.steps b → ((i : ℕ) → IsAbove old.steps (bs i)) → Simulates is_logged old before new after r (begun start b vs >>= λ w. resume bs stack w)
