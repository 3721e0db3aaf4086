-- What the marks of a text tell of the places that weren't given yet.
use Rattle.std.specs.Prelude.{◌≡◌, ◌<◌, ◌≤◌, ℕ, ◌-◌, Bool, true, false, not, nat_le, ◌==◌, ◌&&◌, ◌||◌, if◌then◌else◌, List, length, slice_index}
use Rattle.awk_text.specs.declared.marks.Marks.{Marks}
use Rattle.awk_text.specs.declared.marks.Turns.{Turns}
use Rattle.awk_text.specs.definitions.Pieces.{is_blank_or_newline}
use Rattle.awk_text.specs.support.Stretch.{AreMarks}

-- the first of the places from here on that passes, or the limit
pub record IsNextPlace (test : ℕ → Bool) (limit from place : ℕ) : Type 0 where
  pub high : from ≤ place
  pub within : place ≤ limit
  pub none : (k : ℕ) → from ≤ k → k < place → test k ≡ false
  pub stops : place < limit → test place ≡ true

-- whether a place from here on passes
abbrev pub from_here : (from : ℕ) (test : ℕ → Bool) (place : ℕ) → Bool
from_here from test place = nat_le from place && test place

-- the marks tell which places from here on pass, up to their end
pub record AreLeft (test : ℕ → Bool) (from : ℕ) (left : Marks) : Type 0 where
  pub order : left.base ≤ left.end
  pub high : from ≤ left.end
  pub before : (k : ℕ) → from ≤ k → k < left.base → test k ≡ false
  pub marks : AreMarks (from_here from test) left.base (left.end - left.base) left.bits

-- whether a place is the first, or stands behind a blank
abbrev pub is_behind_blank : (text : List ℕ) (first place : ℕ) → Bool
is_behind_blank text first place = place == first || is_blank_or_newline (slice_index text (place - 1))

-- whether a blank stands behind a byte that is none, or the other way round
abbrev pub is_turn : (text : List ℕ) (first place : ℕ) → Bool
is_turn text first place =
    if is_behind_blank text first place then not (is_blank_or_newline (slice_index text place)) else is_blank_or_newline (slice_index text place)

-- the turns tell which places from here on are turns, up to their end
pub record AreTurnsLeft (text : List ℕ) (first from : ℕ) (left : Turns) : Type 0 where
  pub high : first ≤ from
  pub within : left.marks.end ≤ length text
  pub before : left.before ≡ (if is_behind_blank text first left.marks.end then 1 else 0)
  pub marks : AreLeft (is_turn text first) from left.marks
