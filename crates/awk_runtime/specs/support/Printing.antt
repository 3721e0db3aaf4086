-- What printing and opening an output do, where the outputs of the code stand for those of the definitions.
use Rattle.std.specs.Prelude.{◌≡◌, ◌≤◌, ℕ, ℤ, List, [], ◌∷◌, Option, Some, None, Result, Ok, Err, bytes_eq, codes, if◌then◌else◌}
use Rattle.awk_streams.specs.WorldState.{WorldState}
use Rattle.awk_streams.specs.declared.streams.Target.{Target}
use Rattle.awk_streams.specs.declared.streams.Target.TheVariants as target
use Rattle.awk_streams.specs.Streams.{opening_at}
use Rattle.awk_semantics.specs.declared.halt.Halt.{Halt}
use Rattle.awk_value.specs.declared.value.Value.{Value}
use Rattle.awk_grammar.specs.declared.tree.PrintForm.{PrintForm}
use Rattle.awk_grammar.specs.declared.tree.PrintForm.TheVariants.{Print}
use Rattle.awk_semantics.specs.State.{Run, ◌>>=◌, ret}
use Rattle.awk_semantics.specs.Primitives.{read_field}
use Rattle.awk_semantics.specs.Semantics.{Functions, print_by}
use Rattle.awk_runtime.specs.declared.runtime.Runtime.{Runtime}
use Rattle.awk_runtime.specs.support.Simulation.{SimulatesLogged}

-- the standard output of this name
abbrev pub standard_named : List ℕ → Option Target
standard_named name =
    if bytes_eq name (codes "/dev/stdout") then Some target.StandardOutput
    else (if bytes_eq name (codes "/dev/stderr") then Some target.StandardError
    else None)

-- a print to the opening that a run gives
abbrev pub print_at : Functions → Run ℕ → PrintForm → List Value → Run (Unit {0})
print_at functions to form vs = to >>= λ n. print_by functions form n vs

-- the field of a number as a line to standard output
abbrev pub print_field_at : Functions → ℤ → Run (Unit {0})
print_field_at functions n = read_field n >>= λ w. print_at functions (ret 0) Print (w ∷ [])

-- what is done where the target is this opening of an output
pub record PrintsTo (is_logged : Type 0) (to : Target) (run : ℕ → Run (Unit {0})) (old : Runtime) (before : WorldState) (new : Runtime) (after : WorldState) (r : Result (Unit {0}) Halt) : Type 0 where
  pub steps : new.steps ≤ old.steps
  pub names : new.names ≡ old.names
  pub callers : new.frames.callers ≡ old.frames.callers
  pub told : is_logged → (n : ℕ) → opening_at to old.streams before.log ≡ Some n → SimulatesLogged old before new after r (run n)

-- the target is an opening, which the run gives
pub record TargetOpened (run : Run ℕ) (old : Runtime) (before : WorldState) (to : Target) (new : Runtime) (after : WorldState) : Type 0 where
  pub opening : ℕ
  pub place : opening_at to new.streams after.log ≡ Some opening
  pub simulates : SimulatesLogged old before new after (Ok opening) run

abbrev pub TargetTold : Run ℕ → Runtime → WorldState → Result Target Halt → Runtime → WorldState → Type 0
TargetTold run old before (Ok to) new after = TargetOpened run old before to new after
TargetTold run old before (Err h) new after = SimulatesLogged old before new after (Err h) run

-- an opening of an output is found, or made
pub record OpensTarget (is_logged : Type 0) (run : Run ℕ) (old : Runtime) (before : WorldState) (new : Runtime) (after : WorldState) (r : Result Target Halt) : Type 0 where
  pub steps : new.steps ≤ old.steps
  pub names : new.names ≡ old.names
  pub callers : new.frames.callers ≡ old.frames.callers
  pub told : is_logged → TargetTold run old before r new after
