-- Flushing some of the outputs, step by step.
use Rattle.std.specs.Prelude.{◌≡◌, ℕ, zero, suc, Bool, true, false, ◌&&◌, ◌==◌, List, [], ◌∷◌, Option, Some, None, Result, OnOk, IfErr}
use Rattle.awk_world.specs.definitions.WorldState.{WorldState}
use Rattle.awk_world.specs.definitions.Writes.{GoesOn}
use Rattle.awk_world.specs.definitions.Openings.{is_flushed}
use Rattle.awk_streams.specs.declared.fault.StreamFault.{StreamFault}
use Rattle.awk_streams.specs.declared.named.NamedStream.{NamedStream}
use Rattle.awk_streams.specs.definitions.Streams.{StreamsView, AreOpen, AreSound, number_of, held_of}
use Rattle.awk_streams.specs.definitions.Flushes.{is_standard_output, is_standard_error, is_output_called, held_unless, emptied, AreBringingTo}
use Rattle.awk_streams.specs.support.Brings.{BringsHeld}
use Rattle.awk_streams.specs.definitions.Outputs.{FailsWith}

-- the outputs of such numbers were flushed, or that failed
pub record BringsSome (among : ℕ → Bool) (before : WorldState) (old : StreamsView) (result : Result (Unit {0}) StreamFault) (after : WorldState) (new : StreamsView) : Type 0 where
  pub brings : BringsHeld before (held_of old) result after (held_of new)
  pub only : GoesOn (AreBringingTo among) before.log after.log
  pub flushed : OnOk result ((id : ℕ) → among id ≡ true → is_flushed id after.log ≡ true)
  pub stays : OnOk result ((id : ℕ) → is_flushed id before.log ≡ true → is_flushed id after.log ≡ true)
  pub fails : IfErr result (λ fault. FailsWith fault before after)

pub record BringsSomeTo (logged : Type 0) (among : ℕ → Bool) (before : WorldState) (old : StreamsView) (result : Result (Unit {0}) StreamFault) (after : WorldState) (new : StreamsView) : Type 0 where
  pub open_as : AreOpen after new
  pub sound : logged → AreSound after new
  pub told : logged → BringsSome among before old result after new

-- whether this is an output of the text, and has this number
abbrev pub is_number_at : List ℕ → Option NamedStream → ℕ → Bool
is_number_at text None id = false
is_number_at text (Some x) id = is_output_called text x && number_of x == id

-- the streams where the first n outputs of the text hold nothing back, or that in this place
abbrev pub emptied_to : ℕ → List ℕ → List NamedStream → List NamedStream
emptied_to zero text xs = xs
emptied_to (suc n) text [] = []
emptied_to (suc n) text (x ∷ xs) = emptied text x ∷ emptied_to n text xs

abbrev pub emptied_at : ℕ → List ℕ → List NamedStream → List NamedStream
emptied_at n text [] = []
emptied_at zero text (x ∷ xs) = emptied text x ∷ xs
emptied_at (suc n) text (x ∷ xs) = x ∷ emptied_at n text xs

-- the streams where the standard output of the text holds nothing back
abbrev pub standard_emptied : List ℕ → StreamsView → StreamsView
standard_emptied text streams = record streams { output = held_unless (is_standard_output text) streams.output; error = held_unless (is_standard_error text) streams.error }
