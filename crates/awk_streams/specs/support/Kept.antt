-- What a stretch of a log, or a call, leaves as it was.
use Rattle.std.specs.Prelude.{◌≡◌, ℕ, List, [], ◌∷◌}
use Rattle.awk_world.specs.definitions.Log.{Event, Read, Ended, Broke, Wrote, Flushed}
use Rattle.awk_world.specs.definitions.Oracle.{SameCounts, standing, reading_of}
use Rattle.awk_world.specs.definitions.Openings.{openings}
use Rattle.awk_streams.specs.declared.input.Input.{Input}
use Rattle.awk_streams.specs.declared.named.NamedStream.{NamedStream}
use Rattle.awk_streams.specs.definitions.Streams.{place_of, number_of}
use Rattle.std.specs.Prelude.{Option, Some, None}

-- these events open, close and run nothing
abbrev pub IsQuiet : List Event → Type 0
IsQuiet [] = Unit {0}
IsQuiet (Read id bytes ∷ es) = IsQuiet es
IsQuiet (Ended id ∷ es) = IsQuiet es
IsQuiet (Broke id ∷ es) = IsQuiet es
IsQuiet (Wrote id bytes ∷ es) = IsQuiet es
IsQuiet (Flushed id ∷ es) = IsQuiet es
IsQuiet (e ∷ es) = ⊥

-- no opening, no closing of a command and no run was answered, and the same stands open
pub record SameStreams (old new : List Event) : Type 0 where
  pub stands : (id : ℕ) → standing id new ≡ standing id old
  pub counts : SameCounts old new

-- under this number stands the same, of which the same was read, and which is the same opening of an output
pub record SameAt (id : ℕ) (old new : List Event) : Type 0 where
  pub stands : standing id new ≡ standing id old
  pub reads : reading_of id new ≡ reading_of id old
  pub place : place_of id (openings new) ≡ place_of id (openings old)

abbrev pub SameFor : List NamedStream → List Event → List Event → Type 0
SameFor [] old new = Unit {0}
SameFor (x ∷ xs) old new = SameAt (number_of x) old new × SameFor xs old new

abbrev pub SameForMain : Option Input → List Event → List Event → Type 0
SameForMain None old new = Unit {0}
SameForMain (Some input) old new = SameAt input.id old new

-- events that write and flush this output alone
abbrev pub AreOfOutput : ℕ → List Event → Type 0
AreOfOutput id [] = Unit {0}
AreOfOutput id (Wrote i bytes ∷ es) = (i ≡ id) × AreOfOutput id es
AreOfOutput id (Flushed i ∷ es) = (i ≡ id) × AreOfOutput id es
AreOfOutput id (e ∷ es) = ⊥
