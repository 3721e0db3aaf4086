-- How calls, and what they are given, stand for those of the definitions.
use Rattle.std.specs.Prelude.{◌≡◌, ℕ, suc, ℤ, Bool, true, false, List, [], ◌∷◌, ◌++◌, length, map, take, drop, slice_get, unwrap_or, Option, Some, None, Result, Ok, Err, OnOk, OnErr, IfErr}
use Rattle.std.specs.Fmt.{signed_decimal}
use Rattle.std.specs.Global.{Vec}
use Rattle.awk_value.specs.declared.value.Value.TheVariants as value
use Rattle.awk_value.specs.Values.{str_of}
use Rattle.awk_value.specs.Arrays.{Array as Elements, value_at}
use Rattle.awk_semantics.specs.declared.halt.Halt.{Halt}
use Rattle.awk_semantics.specs.declared.local.Local.{Local}
use Rattle.awk_semantics.specs.declared.local.Local.TheVariants as local
use Rattle.awk_semantics.specs.State.{State}
use Rattle.awk_semantics.specs.Primitives.{enter, leave, outside_calls}
use Rattle.awk_semantics.specs.Results.{IsWantOfMemory}
use Rattle.awk_kinds.specs.Kinds.{FormalParameter}
use Rattle.awk_storage.specs.declared.position.Array.{Array}
use Rattle.awk_storage.specs.declared.position.Array.TheVariants as array
use Rattle.awk_storage.specs.declared.entry.Caller.{Caller}
use Rattle.awk_storage.specs.support.Frames.{FramesView, newest_of}
use Rattle.awk_storage.specs.support.Tables.{array_of}
use Rattle.awk_runtime.specs.declared.runtime.Runtime.{Runtime}
use Rattle.awk_runtime.specs.support.Simulation.{OwnRelation, ChangesCalls}

-- the number of a parameter's array
abbrev pub number_of_kept : Option Local → ℕ
number_of_kept (Some (local.Array n)) = n
number_of_kept (Some (local.Value v)) = 0
number_of_kept None = 0

-- the number of an array, by its position
abbrev pub kept_number : Array → FramesView → ℕ
kept_number (array.Global n) calls = n
kept_number (array.Local i) calls = number_of_kept (slice_get (newest_of calls.frames) i)

-- a list, as the definitions have it
abbrev pub listed : {A : Type 0} → Result (Vec A) Halt → Result (List A) Halt
listed (Ok v) = Ok v.items
listed (Err h) = Err h

-- the text of the element at a number, of the array of this number; one that isn't there is empty
abbrev pub argument_text : List Elements → ℕ → ℤ → List ℕ
argument_text arrays n i = str_of (unwrap_or (value_at (array_of arrays n) (signed_decimal i)) value.Nothing)

-- the call that is about to be made is given this for its next parameter
abbrev pub with_given : Local → Runtime → Runtime
with_given l m = record m { frames = record m.frames { staged = m.frames.staged ++ l ∷ [] } }

-- it is given nothing
abbrev pub without_given : Runtime → Runtime
without_given m = record m { frames = record m.frames { staged = [] } }

-- memory was refused to the code's own part
pub record Refused (old new : Runtime) : Type 0 where
  pub steps : new.steps ≡ old.steps
  pub names : new.names ≡ old.names
  pub streams : new.streams ≡ old.streams

-- what parameters have for want of arguments, where the next array gets this number; `kinds` tells of each parameter whether
-- it is an array
abbrev pub missing_locals : (kinds : List Bool) → (n : ℕ) → List Local
missing_locals [] n = []
missing_locals (true ∷ kinds) n = local.Array n ∷ missing_locals kinds (suc n)
missing_locals (false ∷ kinds) n = local.Value value.Nothing ∷ missing_locals kinds n

-- the arrays that are made for them
abbrev pub missing_arrays : (kinds : List Bool) → List Elements
missing_arrays [] = []
missing_arrays (true ∷ kinds) = [] ∷ missing_arrays kinds
missing_arrays (false ∷ kinds) = missing_arrays kinds

abbrev pub with_missing : (kinds : List Bool) → Runtime → Runtime
with_missing kinds m = record m {
  arrays = m.arrays ++ missing_arrays kinds;
  frames = record m.frames { staged = m.frames.staged ++ missing_locals kinds (length m.arrays) };
}

-- as many are given as there are parameters
abbrev pub completed : (kinds : List Bool) → Runtime → Runtime
completed kinds m = record m {
  arrays = m.arrays ++ missing_arrays (drop (length m.frames.staged) kinds);
  frames = record m.frames {
    staged = take (length kinds) m.frames.staged ++ missing_locals (drop (length m.frames.staged) kinds) (length m.arrays);
  };
}

-- an argument is given
pub record Gives (l : Local) (old new : Runtime) (r : Result (Unit {0}) Halt) : Type 0 where
  pub given : OnOk r (new ≡ with_given l old)
  pub unchanged : OnErr r (new ≡ old)
  pub memory : IfErr r IsWantOfMemory

-- a call is active that was given all this, and this is its caller
pub record EntersCall (kinds : List Bool) (height : ℕ) (caller : Caller) (old new : Runtime) (r : Result (Unit {0}) Halt) : Type 0 where
  pub callers : OnOk r (new.frames.callers ≡ caller ∷ old.frames.callers)
  pub enters : (parameters : List FormalParameter) → map (λ p. p.is_array) parameters ≡ kinds → ChangesCalls (enter parameters height old.frames.staged) (without_given old) new r

-- the newest call is over, and this is its caller
abbrev pub LeavesCallBy : Runtime → Option Caller → Runtime → Type 0
LeavesCallBy old (Some caller) new = (old.frames.callers ≡ caller ∷ new.frames.callers) × ChangesCalls leave old new (Ok tt)
LeavesCallBy old None new = (old.frames.callers ≡ []) × (new ≡ old)

pub record LeavesCall (old : Runtime) (caller : Option Caller) (new : Runtime) : Type 0 where
  pub leaves : LeavesCallBy old caller new

-- no call is active any more; what was asked of the outside stays
pub record EndsCalls (old new : Runtime) : Type 0 where
  pub steps : new.steps ≡ old.steps
  pub names : new.names ≡ old.names
  pub streams : new.streams ≡ old.streams
  pub status : new.status ≡ old.status
  pub callers : new.frames.callers ≡ []
  pub holds : (s : State) → OwnRelation old s → OwnRelation new (outside_calls s)
