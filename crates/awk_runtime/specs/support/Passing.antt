-- Records that no rule of a program wants, and that are passed over.
use Rattle.std.specs.Prelude.{◌≡◌, ◌⊎◌, ℕ, ◌+◌, ◌≤◌, ◌<◌, suc, true, false, List, [], ◌∷◌, ◌++◌, length, take, drop, get_or, is_some, Result, Ok}
use Rattle.std.specs.List.{All}
use Rattle.awk_value.specs.Values.{str_of}
use Rattle.awk_streams.specs.WorldState.{WorldState}
use Rattle.awk_streams.specs.MainInput.{IsLineOf, lines_of, main_bytes}
use Rattle.awk_kinds.specs.declared.special.Special.TheVariants.{Rs}
use Rattle.awk_kinds.specs.Variables.{value_of, name_of}
use Rattle.awk_semantics.specs.declared.halt.Halt.{Halt}
use Rattle.awk_semantics.specs.State.{State, Run, gives}
use Rattle.awk_semantics.specs.Operators.{pattern_in}
use Rattle.awk_semantics.specs.Items.{each_record}
use Rattle.awk_functions.specs.Matched.{matched}
use Rattle.awk_runtime.specs.declared.passing.Passed.{Passed}
use Rattle.awk_runtime.specs.declared.passing.Unwanted.{Unwanted}
use Rattle.awk_runtime.specs.declared.passing.Unwanted.TheVariants.{All as Every, Unmatched}
use Rattle.awk_runtime.specs.declared.runtime.Runtime.{Runtime}
use Rattle.awk_runtime.specs.support.Naming.{Naming, ere_at}
use Rattle.awk_runtime.specs.support.Simulation.{Simulates}

-- no rule wants a record of this text
abbrev pub IsUnwanted : Naming → Unwanted → (text : List ℕ) → Type 0
IsUnwanted names Every text = Unit {0}
IsUnwanted names (Unmatched ere) text = matched (pattern_in (ere_at names ere)) text ≡ Ok false

-- no rule wants what stands in a text and ends at or before a place
abbrev pub AreUnwantedUpTo : Naming → Unwanted → (text : List ℕ) → (place : ℕ) → Type 0
AreUnwantedUpTo names unwanted text place =
    (before part after : List ℕ) → text ≡ before ++ (part ++ after) → length before + length part ≤ place → IsUnwanted names unwanted part

-- nothing is done on a record of such a text, where no call is active
abbrev pub Ignores : Run (Unit {0}) → (List ℕ → Type 0) → Type 0
Ignores action unwanted = (s : State) → s.frames ≡ [] → unwanted s.current.text → action s ≡ gives tt s

-- so many records, of so many bytes with their separators, stand in front, end at or before a place, and have one more behind them
pub record IsPassed (separator : ℕ) (bytes : List ℕ) (place : ℕ) (passed : Passed) : Type 0 where
  pub lines : List (List ℕ)
  pub count : passed.records ≡ length lines
  pub within : passed.bytes ≤ length bytes
  pub before : passed.bytes ≤ suc place
  pub taken : take passed.bytes bytes ≡ lines_of separator lines
  pub are : All (IsLineOf separator) lines
  pub next : List ℕ
  pub is_next : IsLineOf separator next
  pub rest : List ℕ
  pub left : drop passed.bytes bytes ≡ next ++ separator ∷ rest

-- this separator stands at a place
pub record IsAt (separator : ℕ) (bytes : List ℕ) (place : ℕ) : Type 0 where
  pub within : place < length bytes
  pub there : get_or bytes place 0 ≡ separator

-- the front of bytes, or a place behind a separator
abbrev pub IsEndOfLine : (separator : ℕ) (bytes : List ℕ) (place : ℕ) → Type 0
IsEndOfLine separator bytes place = (place ≡ 0) ⊎ ((last : ℕ) × (place ≡ last + 1) × IsAt separator bytes last)

-- a whole record stands in front of these bytes
abbrev pub BeginsWithLine : (separator : ℕ) (bytes : List ℕ) → Type 0
BeginsWithLine separator bytes = (place : ℕ) × IsAt separator bytes place

-- so many records are at hand that no rule wants, with one more behind them; no call is active, and there are steps for all
pub record MayPass (unwanted : Unwanted) (m : Runtime) (passed : Passed) : Type 0 where
  pub outside : m.frames.frames ≡ []
  pub steps : passed.records < m.steps
  pub separator : ℕ
  pub by : str_of (value_of m.specials (name_of Rs)) ≡ separator ∷ []
  pub main : is_some m.streams.main ≡ true
  pub place : ℕ
  pub passed_in : IsPassed separator (main_bytes m.streams.main) place passed
  pub none_wanted : AreUnwantedUpTo m.names unwanted (main_bytes m.streams.main) place

-- what is read and done behind the records that are passed over is what is read and done with them, whatever ignores them
pub record PassesOver (is_logged : Type 0) (unwanted : List ℕ → Type 0) (old : Runtime) (k : WorldState) (new : Runtime) : Type 0 where
  pub steps : new.steps ≤ old.steps
  pub names : new.names ≡ old.names
  pub goes_on : (action : Run (Unit {0})) → Ignores action unwanted → (last : Runtime) (after : WorldState) (r : Result (Unit {0}) Halt)
      → ((n : ℕ) → new.steps ≤ n → Simulates is_logged new k last after r (each_record (suc n) action))
      → (n : ℕ) → old.steps ≤ n → Simulates is_logged old k last after r (each_record (suc n) action)
