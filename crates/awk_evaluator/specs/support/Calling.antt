-- What the evaluator does to begin a call.
use Rattle.std.specs.Prelude.{◌≡◌, ◌<◌, ◌≤◌, ℕ, List, [], ◌∷◌, ◌++◌, drop, map, Result, Ok, Err, OnOk, IfErr}
use Rattle.awk_kinds.specs.Kinds.{FormalParameter}
use Rattle.awk_semantics.specs.declared.halt.Halt.{Halt}
use Rattle.awk_value.specs.declared.value.Value.{Value}
use Rattle.awk_semantics.specs.Results.{IsWantOfMemory}
use Rattle.awk_semantics.specs.declared.local.Local.{Local}
use Rattle.awk_semantics.specs.declared.local.Local.TheVariants as local
use Rattle.awk_semantics.specs.State.{Run, ◌>>=◌}
use Rattle.awk_semantics.specs.Primitives.{check_height, spend, enter}
use Rattle.awk_resolve.specs.declared.node.ArgumentForm.{ArgumentForm}
use Rattle.awk_resolve.specs.declared.plan.Function.{Function}
use Rattle.awk_resolve.specs.Nodes.{first, behind_form, given_by, taken, values_among}
use Rattle.awk_resolve.specs.declared.node.ArgumentForm.TheVariants as form
use Rattle.awk_storage.specs.support.Frames.{FramesView}
use Rattle.awk_runtime.specs.declared.runtime.Runtime.{Runtime}
use Rattle.awk_runtime.specs.Calling.{kept_number}
use Rattle.awk_runtime.specs.Simulation.{ChangesCalls}
use Rattle.awk_evaluator.specs.declared.machine.Machine.{Machine}
use Rattle.awk_evaluator.specs.support.Moves.{stack_of}

-- what an argument gives, and all of them, by the state of the code

abbrev pub kept_by : ArgumentForm → List Value → FramesView → Local
kept_by form.Value vs calls = local.Value (first vs)
kept_by (form.Array a) vs calls = local.Array (kept_number a calls)

abbrev pub kept_all : List ArgumentForm → List Value → FramesView → List Local
kept_all [] vs calls = []
kept_all (f ∷ fs) vs calls = kept_by f vs calls ∷ kept_all fs (behind_form f vs) calls

abbrev pub with_all : List Local → Runtime → Runtime
with_all ls m = record m { frames = record m.frames { staged = m.frames.staged ++ ls } }

-- the call that is about to be made is given all arguments
pub record GivesAll (fs : List ArgumentForm) (m : Machine) (r : Result (Unit {0}) Halt) (m' : Machine) : Type 0 where
  pub given : OnOk r (m'.runtime ≡ with_all (kept_all fs (taken (values_among fs) m.operands.values) m.runtime.frames) m.runtime)
  pub operands : OnOk r (m'.operands ≡ record m.operands { values = drop (values_among fs) m.operands.values })
  pub calls : OnOk r (m'.runtime.frames.callers ≡ m.runtime.frames.callers)
  pub names : m'.runtime.names ≡ m.runtime.names
  pub steps : m'.runtime.steps ≤ m.runtime.steps
  pub streams : m'.runtime.streams ≡ m.runtime.streams
  pub memory : IfErr r IsWantOfMemory

-- the height is checked, a step is spent, and the parameters are what these forms give
abbrev pub begin_call : List FormalParameter → (height : ℕ) → List ArgumentForm → Machine → Run (Unit {0})
begin_call parameters height fs m = check_height height >>= λ _. spend >>= λ _. given_by fs (taken (values_among fs) m.operands.values) >>= λ given. enter parameters height given

-- what became of a call, without the place of its body
abbrev pub entered : Result ℕ Halt → Result (Unit {0}) Halt
entered (Ok body) = Ok tt
entered (Err h) = Err h

abbrev pub BeginsCallBy : Function → List ArgumentForm → (next : ℕ) → Machine → Result ℕ Halt → Machine → Type 0
BeginsCallBy f fs next m (Ok body) m' = (body ≡ f.body) × (m'.runtime.steps < m.runtime.steps) × (stack_of m' ≡ record { next = next; values = drop (values_among fs) m.operands.values } ∷ stack_of m)
BeginsCallBy f fs next m (Err h) m' = Unit {0}

-- a function of which each parameter is known to be an array or not is called
pub record BeginsCall (f : Function) (fs : List ArgumentForm) (next : ℕ) (m : Machine) (r : Result ℕ Halt) (m' : Machine) : Type 0 where
  pub begins : BeginsCallBy f fs next m r m'
  pub names : m'.runtime.names ≡ m.runtime.names
  pub steps : m'.runtime.steps ≤ m.runtime.steps
  pub streams : m'.runtime.streams ≡ m.runtime.streams
  pub changes : (parameters : List FormalParameter) → map (λ (p : FormalParameter). p.is_array) parameters ≡ f.arrays.items → ChangesCalls (begin_call parameters f.height fs m) m.runtime m'.runtime (entered r)
