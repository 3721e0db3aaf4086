-- What writing and flushing an output comes to.
use Rattle.std.specs.Prelude.{◌≡◌, ◌⊎◌, ◌≤◌, ℕ, true, List, ◌∷◌, length, take, Some, Result, OnOk, OnErr, IfErr}
use Rattle.std.specs.Result.{is_ok}
use Rattle.awk_streams.specs.declared.fault.StreamFault.{StreamFault}
use Rattle.awk_streams.specs.declared.fault.StreamFault.TheVariants.{Memory, WriteFailed}
use Rattle.awk_world.specs.declared.world.WorldFault.{WorldFault}
use Rattle.awk_world.specs.declared.world.WorldFault.TheVariants.{Memory as WorldMemory, Failed}
use Rattle.awk_world.specs.definitions.Log.{Event}
use Rattle.awk_world.specs.definitions.WorldState.{WorldState, FailsNow, is_any}
use Rattle.awk_world.specs.definitions.Writes.{GoesOn, Writes, flushed_if}
use Rattle.awk_world.specs.definitions.Grows.{Grows}

abbrev pub output_fault_of : WorldFault → StreamFault
output_fault_of WorldMemory = Memory
output_fault_of Failed = WriteFailed

abbrev pub IsOutputFault : StreamFault → Type 0
IsOutputFault fault = (fault ≡ Memory) ⊎ (fault ≡ WriteFailed)

-- a write or a flush failed with this fault, and nothing else did
abbrev pub FailsWith : StreamFault → WorldState → WorldState → Type 0
FailsWith fault before after = (what : WorldFault) × (fault ≡ output_fault_of what) × FailsNow what before after

-- that of this output
abbrev pub FailsAtOutput : ℕ → StreamFault → WorldState → WorldState → Type 0
FailsAtOutput id fault before after = (what : WorldFault) × (fault ≡ output_fault_of what) × (after.failures ≡ record { at = length after.log; output = Some id; what = what } ∷ before.failures)

-- the bytes were written, or a beginning of them, and then there was a failure
pub record WritesAll (id : ℕ) (bytes : List ℕ) (before : WorldState) (result : Result (Unit {0}) StreamFault) (after : WorldState) : Type 0 where
  pub count : ℕ
  pub within : count ≤ length bytes
  pub writes : GoesOn (Writes id (take count bytes)) before.log after.log
  pub all : OnOk result (count ≡ length bytes)
  pub no_failure : OnOk result (after.failures ≡ before.failures)
  pub failure : OnErr result (is_any after.failures ≡ true)
  pub fails : IfErr result (λ fault. FailsAtOutput id fault before after)
  pub grows : Grows before after

-- the output was flushed, or there was a failure
pub record Flushes (id : ℕ) (before : WorldState) (result : Result (Unit {0}) StreamFault) (after : WorldState) : Type 0 where
  pub adds : after.log ≡ flushed_if (is_ok result) id before.log
  pub no_failure : OnOk result (after.failures ≡ before.failures)
  pub failure : OnErr result (is_any after.failures ≡ true)
  pub fails : IfErr result (λ fault. FailsAtOutput id fault before after)
  pub grows : Grows before after

-- the bytes that were held back are written, or a beginning of them; then the output is flushed, or there was a failure
pub record WritesAndFlushes (id : ℕ) (held : List ℕ) (before : WorldState) (result : Result (Unit {0}) StreamFault) (after : WorldState) : Type 0 where
  pub count : ℕ
  pub within : count ≤ length held
  pub written : List Event
  pub writes : GoesOn (Writes id (take count held)) before.log written
  pub adds : after.log ≡ flushed_if (is_ok result) id written
  pub all : OnOk result (count ≡ length held)
  pub no_failure : OnOk result (after.failures ≡ before.failures)
  pub failure : OnErr result (is_any after.failures ≡ true)
  pub fails : IfErr result (λ fault. FailsAtOutput id fault before after)
  pub grows : Grows before after
