-- How the main input is looked for and opened.
use Rattle.std.specs.Prelude.{◌≡◌, ℕ, ◌≤◌, suc, Bool, true, false, List, Option, Some, None, is_some, Result, Ok, Err, OnOk}
use Rattle.awk_world.specs.declared.world.InputKind.{InputKind}
use Rattle.awk_streams.specs.WorldState.{WorldState}
use Rattle.awk_semantics.specs.declared.halt.Halt.{Halt}
use Rattle.awk_semantics.specs.State.{Run}
use Rattle.awk_semantics.specs.Streams.{open_main}
use Rattle.awk_semantics.specs.Inputs.{search_operands_within, next_record}
use Rattle.awk_semantics.specs.Items.{begin_record}
use Rattle.awk_runtime.specs.declared.runtime.Runtime.{Runtime}
use Rattle.awk_runtime.specs.support.Simulation.{Simulates, Changes, Spends, Follows, IsReady}

-- no main input is open, unless a record was found
abbrev pub ClosedUnless : {A : Type 0} → Result (Option A) Halt → Runtime → Type 0
ClosedUnless (Ok None) m = m.streams.main ≡ None
ClosedUnless (Ok (Some a)) m = Unit {0}
ClosedUnless (Err h) m = Unit {0}

-- a record is looked for, and where none is found no main input is left open
pub record Seeks (is_logged : Type 0) (run : Run (Option (List ℕ))) (old : Runtime) (before : WorldState) (new : Runtime) (after : WorldState) (r : Result (Option (List ℕ)) Halt) : Type 0 where
  pub simulates : Simulates is_logged old before new after r run
  pub callers : new.frames.callers ≡ old.frames.callers
  pub closed : ClosedUnless r new

-- the elements of ARGV that are left, at any bound above the steps
pub record SearchesOn (is_logged : Type 0) (old : Runtime) (before : WorldState) (new : Runtime) (after : WorldState) (r : Result (Option (List ℕ)) Halt) : Type 0 where
  pub simulates : (n : ℕ) → old.steps ≤ n → Simulates is_logged old before new after r (search_operands_within (suc n))
  pub callers : new.frames.callers ≡ old.frames.callers

-- a main input is opened, and then there is one
pub record OpensMainInput (is_logged : Type 0) (kind : InputKind) (path : List ℕ) (old : Runtime) (before : WorldState) (new : Runtime) (after : WorldState) (r : Result (Unit {0}) Halt) : Type 0 where
  pub simulates : Simulates is_logged old before new after r (open_main kind path)
  pub callers : new.frames.callers ≡ old.frames.callers
  pub main : OnOk r (is_some new.streams.main ≡ true)

-- a record that is found begins: it is read, a step is spent, and it is made the one at hand, or that fails
pub record Begins (is_logged : Type 0) (old : Runtime) (before : WorldState) (new : Runtime) (after : WorldState) (r : Result (Unit {0}) Halt) : Type 0 where
  pub text : List ℕ
  pub read : Runtime
  pub spent : Runtime
  pub reads : Follows is_logged next_record old before read after (Ok (Some text))
  pub ready : IsReady is_logged after read.streams
  pub spends : Spends read spent (Ok tt)
  pub begins : Changes (begin_record text) spent new r

-- so it is, or nothing changes
abbrev pub BeginsWhere : Type 0 → Runtime → WorldState → Runtime → WorldState → Result Bool Halt → Type 0
BeginsWhere is_logged old before new after (Ok true) = Begins is_logged old before new after (Ok tt)
BeginsWhere is_logged old before new after (Ok false) = new ≡ old
BeginsWhere is_logged old before new after (Err h) = Begins is_logged old before new after (Err h)
