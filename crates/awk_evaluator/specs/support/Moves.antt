-- Where the moves of the machine lead.
use Rattle.std.specs.Prelude.{◌≡◌, ◌≢◌, ◌≤◌, ◌<◌, if◌then◌else◌, ℕ, Bool, true, false, Option, Some, None, List, [], ◌∷◌, drop, length, Result, Ok, Err, OnOk}
use Rattle.std.specs.Global.{Vec}
use Rattle.awk_value.specs.declared.value.Value.{Value}
use Rattle.awk_value.specs.Values.{truth_of}
use Rattle.awk_streams.specs.WorldState.{WorldState}
use Rattle.awk_kinds.specs.Kinds.{Definition}
use Rattle.awk_semantics.specs.declared.halt.Halt.{Halt}
use Rattle.awk_semantics.specs.declared.halt.Halt.TheVariants as halt
use Rattle.awk_semantics.specs.declared.fault.Fault.TheVariants.{OutOfMemory}
use Rattle.awk_semantics.specs.Primitives.{leave}
use Rattle.awk_semantics.specs.Calls.{functions_within}
use Rattle.awk_semantics.specs.Semantics.{Functions}
use Rattle.awk_resolve.specs.declared.node.Node.{Node}
use Rattle.awk_resolve.specs.declared.node.Node.TheVariants as n
use Rattle.awk_resolve.specs.declared.node.ArgumentForm.{ArgumentForm}
use Rattle.awk_resolve.specs.declared.node.Exchange.{Exchange}
use Rattle.awk_resolve.specs.declared.node.ValueNode.{ValueNode}
use Rattle.awk_resolve.specs.declared.node.ValueNode.TheVariants as v
use Rattle.awk_resolve.specs.declared.node.EffectNode.{EffectNode}
use Rattle.awk_resolve.specs.declared.plan.Plan.{Plan}
use Rattle.awk_resolve.specs.Nodes.{Tables, first, value_of, popped, effect_of, dropped, cont_at}
use Rattle.awk_runtime.specs.declared.runtime.Runtime.{Runtime}
use Rattle.awk_runtime.specs.support.Simulation.{Simulates, Changes, ChangesCalls}
use Rattle.awk_storage.specs.declared.entry.Caller.{Caller}
use Rattle.awk_evaluator.specs.declared.machine.Machine.{Machine}
use Rattle.awk_evaluator.specs.declared.machine.Move.{Move}
use Rattle.awk_evaluator.specs.declared.machine.Move.TheVariants as move
use Rattle.awk_evaluator.specs.support.Operands.{OperandsView}
use Rattle.awk_evaluator.specs.support.Rest.{PlanStands, tables_in, Entry, seen, Start, AtPlace, IsBefore, Rest}

-- the entries of the callers, of which the newest one is the first
abbrev pub seen_of : OperandsView → List Caller → List Entry
seen_of o callers = seen o.below callers

abbrev pub stack_of : Machine → List Entry
stack_of m = seen_of m.operands m.runtime.frames.callers

-- no call is active, and nothing is awaited
pub record IsIdle (m : Machine) : Type 0 where
  pub operands : m.operands ≡ record { values = []; below = [] }
  pub calls : m.runtime.frames.callers ≡ []

-- the rest of a run from this start of a machine leads to this end, whatever the tables that its names are for
abbrev pub RestOf : Tables → List Definition → Plan → Type 0 → Start → Machine → WorldState → Runtime → WorldState → Result Value Halt → Type 0
RestOf tables ds plan is_logged at m k new after r = Rest tables ds plan is_logged at m.operands.values (stack_of m) m.runtime k new after r

-- what is left at the second place and machine is what is left at the first
pub record Leads (is_logged : Type 0) (plan : Plan) (at : Start) (m : Machine) (k : WorldState) (at' : ℕ) (m' : Machine) (k' : WorldState) : Type 0 where
  pub names : m'.runtime.names ≡ m.runtime.names
  pub steps : m'.runtime.steps ≤ m.runtime.steps
  pub leads : (tables : Tables) (ds : List Definition) → PlanStands (tables_in m.runtime.names tables) ds plan → (new : Runtime) (after : WorldState) (r : Result Value Halt)
      → RestOf (tables_in m.runtime.names tables) ds plan is_logged (AtPlace at') m' k' new after r
      → RestOf (tables_in m.runtime.names tables) ds plan is_logged at m k new after r

-- nothing is left
pub record Ends (is_logged : Type 0) (plan : Plan) (at : Start) (m : Machine) (k : WorldState) (r : Result Value Halt) (m' : Machine) (k' : WorldState) : Type 0 where
  pub idle : OnOk r (IsIdle m')
  pub ends : (tables : Tables) (ds : List Definition) → PlanStands (tables_in m.runtime.names tables) ds plan → RestOf (tables_in m.runtime.names tables) ds plan is_logged at m k m'.runtime k' r

-- nothing is left, and the topmost operand is the last value
pub record Finishes (is_logged : Type 0) (plan : Plan) (at : Start) (m : Machine) (k : WorldState) (m' : Machine) (k' : WorldState) : Type 0 where
  pub calls : m'.runtime.frames.callers ≡ []
  pub ends : (tables : Tables) (ds : List Definition) → PlanStands (tables_in m.runtime.names tables) ds plan → RestOf (tables_in m.runtime.names tables) ds plan is_logged at m k m'.runtime k' (Ok (first m'.operands.values))

-- to a place that stands before this one
pub record Onward (is_logged : Type 0) (plan : Plan) (at : Start) (m : Machine) (k : WorldState) (at' : ℕ) (m' : Machine) (k' : WorldState) : Type 0 where
  pub leads : Leads is_logged plan at m k at' m' k'
  pub less : IsBefore at at'
  pub calls : m'.runtime.frames.callers ≡ m.runtime.frames.callers

-- behind a step that was spent
pub record Upward (is_logged : Type 0) (plan : Plan) (at : Start) (m : Machine) (k : WorldState) (at' : ℕ) (m' : Machine) (k' : WorldState) : Type 0 where
  pub leads : Leads is_logged plan at m k at' m' k'
  pub less : m'.runtime.steps < m.runtime.steps

-- behind a call
pub record Backward (is_logged : Type 0) (plan : Plan) (at : Start) (m : Machine) (k : WorldState) (at' : ℕ) (m' : Machine) (k' : WorldState) : Type 0 where
  pub leads : Leads is_logged plan at m k at' m' k'
  pub less : length m'.runtime.frames.callers < length m.runtime.frames.callers

abbrev pub MovesBy : Type 0 → Plan → Start → Machine → WorldState → Move → Machine → WorldState → Type 0
MovesBy is_logged plan at m k (move.On i) m' k' = Onward is_logged plan at m k i m' k'
MovesBy is_logged plan at m k (move.Up i) m' k' = Upward is_logged plan at m k i m' k'
MovesBy is_logged plan at m k (move.Back i) m' k' = Backward is_logged plan at m k i m' k'
MovesBy is_logged plan at m k move.Over m' k' = Finishes is_logged plan at m k m' k'
MovesBy is_logged plan at m k move.Halted m' k' = Ends is_logged plan at m k (Err m'.halt) m' k'

pub record Moves (is_logged : Type 0) (plan : Plan) (at : Start) (m : Machine) (k : WorldState) (to : Move) (m' : Machine) (k' : WorldState) : Type 0 where
  pub moves : MovesBy is_logged plan at m k to m' k'

abbrev pub TurnsBy : Type 0 → Plan → Start → Machine → WorldState → Move → Machine → WorldState → Type 0
TurnsBy is_logged plan at m k (move.On i) m' k' = ⊥
TurnsBy is_logged plan at m k (move.Up i) m' k' = Upward is_logged plan at m k i m' k'
TurnsBy is_logged plan at m k (move.Back i) m' k' = Backward is_logged plan at m k i m' k'
TurnsBy is_logged plan at m k move.Over m' k' = Finishes is_logged plan at m k m' k'
TurnsBy is_logged plan at m k move.Halted m' k' = Ends is_logged plan at m k (Err m'.halt) m' k'

pub record Turns (is_logged : Type 0) (plan : Plan) (at : Start) (m : Machine) (k : WorldState) (to : Move) (m' : Machine) (k' : WorldState) : Type 0 where
  pub turns : TurnsBy is_logged plan at m k to m' k'

abbrev pub StepsBy : Type 0 → Plan → Start → Machine → WorldState → Move → Machine → WorldState → Type 0
StepsBy is_logged plan at m k (move.On i) m' k' = ⊥
StepsBy is_logged plan at m k (move.Up i) m' k' = Upward is_logged plan at m k i m' k'
StepsBy is_logged plan at m k (move.Back i) m' k' = ⊥
StepsBy is_logged plan at m k move.Over m' k' = Finishes is_logged plan at m k m' k'
StepsBy is_logged plan at m k move.Halted m' k' = Ends is_logged plan at m k (Err m'.halt) m' k'

pub record Steps (is_logged : Type 0) (plan : Plan) (at : Start) (m : Machine) (k : WorldState) (to : Move) (m' : Machine) (k' : WorldState) : Type 0 where
  pub steps : StepsBy is_logged plan at m k to m' k'

-- nothing is changed but why the machine is halted
pub record Keeps (m m' : Machine) : Type 0 where
  pub operands : m'.operands ≡ m.operands
  pub calls : m'.runtime.frames.callers ≡ m.runtime.frames.callers
  pub runtime : m'.runtime ≡ m.runtime

-- what a part came to, where the machine keeps why one that isn't done ended

abbrev pub came : Bool → Machine → Result (Unit {0}) Halt
came true m = Ok tt
came false m = Err m.halt

abbrev pub told : Option Bool → Machine → Result Bool Halt
told (Some holds) m = Ok holds
told None m = Err m.halt

abbrev pub without_value : {A : Type 0} → Result A Halt → Result (Unit {0}) Halt
without_value (Ok a) = Ok tt
without_value (Err h) = Err h

abbrev pub truth_in : Result Value Halt → Result Bool Halt
truth_in (Ok w) = Ok (truth_of w)
truth_in (Err h) = Err h

-- a part is done, whatever value it gives

abbrev pub DoneBy : (Result Value Halt → Type 0) → Result (Unit {0}) Halt → Type 0
DoneBy P (Ok u) = (w : Value) × P (Ok w)
DoneBy P (Err h) = P (Err h)

pub record Done (P : Result Value Halt → Type 0) (r : Result (Unit {0}) Halt) : Type 0 where
  pub done : DoneBy P r

-- the moves behind a part, behind a step, and behind a test

abbrev pub onward : Bool → ℕ → Move
onward true i = move.On i
onward false i = move.Halted

abbrev pub upward : Bool → ℕ → Move
upward true i = move.Up i
upward false i = move.Halted

abbrev pub toward : Option Bool → (here other : ℕ) → Move
toward (Some holds) here other = move.On (if holds then here else other)
toward None here other = move.Halted

-- nodes that append texts, raise places, walk over keys or end all calls
abbrev pub IsRare : Node → Type 0
IsRare (n.AppendTo x count k) = Unit {0}
IsRare (n.Raise o p k) = Unit {0}
IsRare (n.Walk a k) = Unit {0}
IsRare (n.NextKey i exit) = Unit {0}
IsRare (n.TakeKey x k) = Unit {0}
IsRare (n.LeaveWalk k) = Unit {0}
IsRare (n.Stop ending) = Unit {0}
IsRare x = ⊥

-- a value that was found is put on the stack

abbrev pub PutsFoundBy : Value → (next : ℕ) → Machine → Move → Machine → Type 0
PutsFoundBy w next m (move.On i) m' = (i ≡ next) × (m'.operands ≡ record m.operands { values = w ∷ m.operands.values })
PutsFoundBy w next m move.Halted m' = m'.halt ≡ halt.Fault OutOfMemory
PutsFoundBy w next m to m' = ⊥

pub record PutsFound (w : Value) (next : ℕ) (m : Machine) (to : Move) (m' : Machine) : Type 0 where
  pub puts : PutsFoundBy w next m to m'
  pub calls : m'.runtime.frames.callers ≡ m.runtime.frames.callers
  pub runtime : m'.runtime ≡ m.runtime

-- a node that is no call
abbrev pub IsStrict : ValueNode → Type 0
IsStrict x = ((f : ℕ) (fs : Vec ArgumentForm) → x ≢ v.Call f fs) × ((e : Exchange) → x ≢ v.SubstituteIn e)

-- the value of a node is found: what it takes is taken off the stack
pub record Evaluates (is_logged : Type 0) (x : ValueNode) (m : Machine) (k : WorldState) (r : Result Value Halt) (m' : Machine) (k' : WorldState) : Type 0 where
  pub operands : OnOk r (m'.operands ≡ record m.operands { values = drop (popped x) m.operands.values })
  pub calls : OnOk r (m'.runtime.frames.callers ≡ m.runtime.frames.callers)
  pub simulates : (tables : Tables) (functions : Functions) → Simulates is_logged m.runtime k m'.runtime k' r (value_of (tables_in m.runtime.names tables) functions x m.operands.values)

-- the same without the world
pub record Computes (x : ValueNode) (m : Machine) (r : Result Value Halt) (m' : Machine) : Type 0 where
  pub operands : OnOk r (m'.operands ≡ record m.operands { values = drop (popped x) m.operands.values })
  pub calls : OnOk r (m'.runtime.frames.callers ≡ m.runtime.frames.callers)
  pub changes : (tables : Tables) (functions : Functions) → Changes (value_of (tables_in m.runtime.names tables) functions x m.operands.values) m.runtime m'.runtime r

-- what a node does is done
pub record Performs (is_logged : Type 0) (x : EffectNode) (m : Machine) (k : WorldState) (r : Result (Unit {0}) Halt) (m' : Machine) (k' : WorldState) : Type 0 where
  pub operands : OnOk r (m'.operands ≡ record m.operands { values = drop (dropped x) m.operands.values })
  pub calls : OnOk r (m'.runtime.frames.callers ≡ m.runtime.frames.callers)
  pub simulates : (tables : Tables) (functions : Functions) → Simulates is_logged m.runtime k m'.runtime k' r (effect_of (tables_in m.runtime.names tables) functions x m.operands.values)

-- the same without the world
pub record Acts (x : EffectNode) (m : Machine) (r : Result (Unit {0}) Halt) (m' : Machine) : Type 0 where
  pub operands : OnOk r (m'.operands ≡ record m.operands { values = drop (dropped x) m.operands.values })
  pub calls : OnOk r (m'.runtime.frames.callers ≡ m.runtime.frames.callers)
  pub changes : (tables : Tables) (functions : Functions) → Changes (effect_of (tables_in m.runtime.names tables) functions x m.operands.values) m.runtime m'.runtime r

-- a value is returned to the newest entry, or is the last one
abbrev pub GivesBackBy : Value → Machine → Move → Machine → Type 0
GivesBackBy v m (move.On i) m' = ⊥
GivesBackBy v m (move.Up i) m' = ⊥
GivesBackBy v m (move.Back i) m' = (vs : List Value) × (stack_of m ≡ record { next = i; values = vs } ∷ stack_of m') × (m'.operands.values ≡ v ∷ vs) × ChangesCalls leave m.runtime m'.runtime (Ok tt) × (length m'.runtime.frames.callers < length m.runtime.frames.callers)
GivesBackBy v m move.Over m' = (first m'.operands.values ≡ v) × (m.runtime.frames.callers ≡ []) × (m'.runtime.frames.callers ≡ []) × (m'.runtime ≡ m.runtime)
GivesBackBy v m move.Halted m' = (e : Entry) × (es : List Entry) × (stack_of m ≡ e ∷ es) × ChangesCalls leave m.runtime m'.runtime (Ok tt) × (m'.halt ≡ halt.Fault OutOfMemory)

pub record GivesBack (v : Value) (m : Machine) (to : Move) (m' : Machine) : Type 0 where
  pub gives : GivesBackBy v m to m'

-- what a run from a place does, whatever the bound of its calls and turns
pub record Executes (is_logged : Type 0) (plan : Plan) (at : ℕ) (m : Machine) (k : WorldState) (r : Result Value Halt) (m' : Machine) (k' : WorldState) : Type 0 where
  pub executes : (tables : Tables) (ds : List Definition) → PlanStands (tables_in m.runtime.names tables) ds plan → (n : ℕ) → m.runtime.steps ≤ n
      → Simulates is_logged m.runtime k m'.runtime k' r (cont_at (tables_in m.runtime.names tables) (functions_within ds n) plan.heads.items plan.nodes.items n at [])
