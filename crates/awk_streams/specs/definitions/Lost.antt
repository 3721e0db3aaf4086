-- What is left of the outputs where writing or flushing some of them failed (POSIX awk, CONSEQUENCES OF ERRORS).
use Rattle.std.specs.Prelude.{◌≡◌, ℕ, Bool, true, false, ◌||◌, ◌==◌, List, [], ◌∷◌, length, slice_get, Option, Some, None}
use Rattle.awk_world.specs.declared.failure.Failure.{Failure}
use Rattle.awk_world.specs.definitions.Log.{Event, Wrote}
use Rattle.awk_world.specs.definitions.Writes.{with_events}
use Rattle.awk_world.specs.definitions.Openings.{Opening, openings, in_order, is_flushed}
use Rattle.awk_world.specs.definitions.WorldState.{WorldState}
use Rattle.awk_streams.specs.definitions.Streams.{place_of_some, with_held}

abbrev pub is_number : ℕ → Option ℕ → Bool
is_number n None = false
is_number n (Some m) = m == n

-- whether a write or a flush of the output under this number failed
abbrev pub has_failed : ℕ → List Failure → Bool
has_failed id [] = false
has_failed id (f ∷ failures) = is_number id f.output || has_failed id failures

-- whether one of the opening in this place failed: the newest that the log tells under the number
abbrev pub is_lost : List Event → List Failure → ℕ → Bool
is_lost log [] n = false
is_lost log (f ∷ failures) n = is_number n (place_of_some f.output (openings log)) || is_lost log failures n

-- the openings are the same, but for those of which a write or a flush failed
abbrev pub AreSameBut : List Event → List Failure → List Opening → List Opening → Type 0
AreSameBut log failures xs ys = (n : ℕ) → is_lost log failures n ≡ false → slice_get xs n ≡ slice_get ys n

-- nothing is held back for the outputs of these failures
abbrev pub AreSpent : List Failure → List (ℕ × List ℕ) → Type 0
AreSpent failures [] = Unit {0}
AreSpent failures (h ∷ held) = (has_failed h.0 failures ≡ true → h.1 ≡ []) × AreSpent failures held

-- these openings have received all but what is held back, save those of which a write or a flush failed; these hold nothing back
pub record KeepsOthers (printed : List Opening) (world : WorldState) (held : List (ℕ × List ℕ)) : Type 0 where
  pub same : AreSameBut world.log world.failures (in_order (with_held held (openings world.log))) printed
  pub spent : AreSpent world.failures held

-- no output lost anything of what is printed, save those of which a write or a flush failed; these hold nothing back
pub record Spares (before : WorldState) (old : List (ℕ × List ℕ)) (after : WorldState) (new : List (ℕ × List ℕ)) : Type 0 where
  pub same : AreSameBut after.log after.failures (in_order (with_held new (openings after.log))) (in_order (with_held old (openings before.log)))
  pub spent : AreSpent before.failures old → AreSpent after.failures new

-- these events write nothing to this output
abbrev pub WriteNothingTo : Option ℕ → List Event → Type 0
WriteNothingTo output [] = Unit {0}
WriteNothingTo output (Wrote id bytes ∷ es) = (is_number id output ≡ true → bytes ≡ []) × WriteNothingTo output es
WriteNothingTo output (e ∷ es) = WriteNothingTo output es

-- behind the failure its output got no more bytes
pub record IsSilentBehind (log : List Event) (f : Failure) : Type 0 where
  pub earlier : List Event
  pub later : List Event
  pub parts : log ≡ with_events later earlier
  pub count : length earlier ≡ f.at
  pub nothing : WriteNothingTo f.output later

abbrev pub AreSilentBehind : List Event → List Failure → Type 0
AreSilentBehind log [] = Unit {0}
AreSilentBehind log (f ∷ failures) = IsSilentBehind log f × AreSilentBehind log failures

-- each opening has received just these bytes, and the last of them were flushed, but for those of which a write or a flush failed
pub record AreBroughtBut (failures : List Failure) (outputs : List Opening) (log : List Event) : Type 0 where
  pub received : AreSameBut log failures (in_order (openings log)) outputs
  pub flushed : (id : ℕ) → has_failed id failures ≡ false → is_flushed id log ≡ true
