-- What each part of a run keeps: what names stand for, and the steps, which never grow.
use Rattle.std.specs.Prelude.{◌≡◌, ℕ, ◌≤◌, min, List, [], ◌∷◌, length, map, Option, Some, None, Ok}
use Rattle.awk_semantics.specs.declared.local.Local.{Local}
use Rattle.awk_semantics.specs.declared.local.Local.TheVariants as local
use Rattle.awk_semantics.specs.definitions.State.{Frame, State, Run}
use Rattle.awk_semantics.specs.definitions.Semantics.{Functions}

-- an active call, but for the values of its parameters
pub record FrameScope : Type 0 where
  -- the parameters by name, and the number of the array that each stands for, if it stands for one
  pub locals : List (List ℕ × Option ℕ)
  pub height : ℕ
  pub arrays_before : ℕ

-- what names stand for
pub record Scope : Type 0 where
  -- the active calls, the newest first
  pub frames : List FrameScope
  -- how many arrays there are
  pub arrays : ℕ
  pub array_names : List (List ℕ)
  pub function_names : List (List ℕ)

abbrev pub kind_of : Local → Option ℕ
kind_of (local.Value v) = None
kind_of (local.Array n) = Some n

abbrev pub parameter_of : List ℕ × Local → List ℕ × Option ℕ
parameter_of x = (x.0, kind_of x.1)

abbrev pub frame_scope : Frame → FrameScope
frame_scope frame = record { locals = map parameter_of frame.locals; height = frame.height; arrays_before = frame.arrays_before }

abbrev pub scope_of : State → Scope
scope_of s = record {
  frames = map frame_scope s.frames;
  arrays = length s.arrays;
  array_names = s.array_names;
  function_names = s.function_names;
}

-- how many of the arrays are left once these calls are over
abbrev pub arrays_behind : List FrameScope → ℕ → ℕ
arrays_behind [] n = n
arrays_behind (frame ∷ frames) n = arrays_behind frames (min frame.arrays_before n)

-- the scope once all calls are over
abbrev pub outside_of : Scope → Scope
outside_of scope = record scope { frames = []; arrays = arrays_behind scope.frames scope.arrays }

pub record Keeps {A : Type 0} (m : Run A) : Type 0 where
  pub falls : (s : State) → (m s).state.steps ≤ s.steps
  -- where it doesn't end early
  pub scope : (s : State) (a : A) → (m s).result ≡ Ok a → scope_of (m s).state ≡ scope_of s
  -- however it ends, but for calls that it may have left open
  pub outside : (s : State) → outside_of (scope_of (m s).state) ≡ outside_of (scope_of s)

-- so do the calls of a program's functions
abbrev pub CallsKeep : Functions → Type 0
CallsKeep functions = (f : List ℕ) (given : List Local) → Keeps (functions.call f given)

-- a run that may leave calls open, or end those that are active: it keeps what stands outside them
pub record KeepsOutside {A : Type 0} (m : Run A) : Type 0 where
  pub falls : (s : State) → (m s).state.steps ≤ s.steps
  pub outside : (s : State) → outside_of (scope_of (m s).state) ≡ outside_of (scope_of s)

-- a run behind which no call is active
pub record EndsOutside {A : Type 0} (m : Run A) : Type 0 where
  pub falls : (s : State) → (m s).state.steps ≤ s.steps
  pub scope : (s : State) → scope_of (m s).state ≡ outside_of (scope_of s)
  pub frames : (s : State) → (m s).state.frames ≡ []
