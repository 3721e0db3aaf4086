-- Bringing what outputs hold back to them, step by step.
use Rattle.std.specs.Prelude.{◌≡◌, ℕ, Bool, true, false, List, Result, Ok, OnOk, OnErr}
use Rattle.awk_world.specs.definitions.Log.{Event}
use Rattle.awk_world.specs.definitions.Oracle.{SameCounts}
use Rattle.awk_world.specs.definitions.Orderly.{IsInOrder}
use Rattle.awk_world.specs.definitions.Writes.{GoesOn}
use Rattle.awk_world.specs.definitions.WorldState.{WorldState, is_any}
use Rattle.awk_world.specs.definitions.Openings.{openings, in_order, is_flushed, Begins}
use Rattle.awk_world.specs.definitions.Grows.{Grows}
use Rattle.awk_streams.specs.declared.fault.StreamFault.{StreamFault}
use Rattle.awk_streams.specs.declared.named.NamedStream.{NamedStream}
use Rattle.awk_streams.specs.declared.named.NamedStream.TheVariants as named
use Rattle.awk_streams.specs.definitions.Streams.{StreamsView, AreOpen, AreSound, held_of, with_held, is_output_among, AreBringing}
use Rattle.awk_streams.specs.definitions.Lost.{Spares}
use Rattle.awk_streams.specs.definitions.Outputs.{WritesAndFlushes}
use Rattle.awk_streams.specs.support.Kept.{SameAt}

-- bytes were brought to some of these outputs, or some of them flushed; nothing else was done
pub record Touches (among : ℕ → Bool) (before after : WorldState) : Type 0 where
  pub only : GoesOn AreBringing before.log after.log
  pub same : (j : ℕ) → SameAt j before.log after.log
  pub counts : SameCounts before.log after.log
  pub order : IsInOrder before.is_open before.log → IsInOrder after.is_open after.log
  pub others : (j : ℕ) → among j ≡ false → is_flushed j after.log ≡ is_flushed j before.log
  pub grows : Grows before after

-- an input has nothing to flush
abbrev pub FlushesNamed : NamedStream → WorldState → Result (Unit {0}) StreamFault → WorldState → Type 0
FlushesNamed (named.Input kind name input) before result after = (result ≡ Ok tt) × (after ≡ before)
FlushesNamed (named.Output kind name output) before result after = WritesAndFlushes output.id output.held before result after

-- all but these outputs are flushed
abbrev pub AreFlushedBut : List (ℕ × List ℕ) → List Event → Type 0
AreFlushedBut held log = (j : ℕ) → is_output_among j held ≡ false → is_flushed j log ≡ true

-- the outputs have received all they held back, where nothing failed; else some have received beginnings
pub record BringsHeld (before : WorldState) (old : List (ℕ × List ℕ)) (result : Result (Unit {0}) StreamFault) (after : WorldState) (new : List (ℕ × List ℕ)) : Type 0 where
  pub touches : Touches (λ j. is_output_among j old) before after
  pub printed : OnOk result (with_held new (openings after.log) ≡ with_held old (openings before.log))
  pub begins : Begins (in_order (with_held new (openings after.log))) (in_order (with_held old (openings before.log)))
  pub spares : Spares before old after new
  pub no_failure : OnOk result (after.failures ≡ before.failures)
  pub failure : OnErr result (is_any after.failures ≡ true)

-- from these streams to those, bytes were brought, or that failed
pub record BringsTo (logged : Type 0) (before : WorldState) (old : StreamsView) (result : Result (Unit {0}) StreamFault) (after : WorldState) (new : StreamsView) : Type 0 where
  pub open_as : AreOpen after new
  pub sound : logged → AreSound after new
  pub told : logged → BringsHeld before (held_of old) result after (held_of new)
