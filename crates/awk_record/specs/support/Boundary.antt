-- What a boundary, the supply and a resumed search stand for.
use Rattle.std.specs.Prelude.{◌≡◌, ◌<◌, ◌≤◌, ℕ, ◌+◌, slice_index, length, List, [], ◌∷◌, Option, Some, None, Bool, false, take, drop, ◌-◌, if◌then◌else◌}
use Rattle.awk_record.specs.definitions.Cut.{Ending, AtEnd, AtBreak, Cut, Found, NoMore, BrokenOff, TooLong, longest, begins_with, newlines, without_newline}
use Rattle.awk_record.specs.declared.boundary.Boundary.{Boundary}
use Rattle.awk_record.specs.declared.boundary.Boundary.TheVariants.{Stretch, Empty, Unfinished, Over}
use Rattle.awk_record.specs.declared.separator_search.Progress.{Progress}
use Rattle.awk_record.specs.declared.separator_search.ResumedSearch.{ResumedSearch}
use Rattle.awk_record.specs.declared.buffer.Supply.{Supply}
use Rattle.awk_record.specs.declared.buffer.Supply.TheVariants.{Open, Ended, Broke}

abbrev pub ending_of : Supply → Option Ending
ending_of Open = None
ending_of Ended = Some AtEnd
ending_of Broke = Some AtBreak

-- while no ending was met, a cut goes as if the input broke off here
abbrev pub ending_or_break : Supply → Ending
ending_or_break Open = AtBreak
ending_or_break Ended = AtEnd
ending_or_break Broke = AtBreak

abbrev pub end_if : Bool → Ending
end_if at_end = if at_end then AtEnd else AtBreak

abbrev pub trim_if : Bool → List ℕ → List ℕ
trim_if trims bytes = if trims then without_newline bytes else bytes

-- so many newlines stand in front
abbrev pub AreNewlines : (n : ℕ) → (bytes : List ℕ) → Type 0
AreNewlines n bytes = (k : ℕ) → k < n → slice_index bytes k ≡ 10

-- from a place on the word doesn't stand among the first n bytes
abbrev pub HasNoWord : (word : List ℕ) (place n : ℕ) (bytes : List ℕ) → Type 0
HasNoWord word place n bytes = (k : ℕ) → place ≤ k → k + length word ≤ n → begins_with word (drop k bytes) ≡ false

-- a search for a separator that found none has come so far: it skipped so many newlines, where the separator is the empty one,
-- and none stands among so many bytes
abbrev pub IsKnown : (separator : List ℕ) → Progress → (bytes : List ℕ) → Type 0
IsKnown [] progress bytes = AreNewlines progress.skipped bytes × HasNoWord (10 ∷ 10 ∷ []) progress.skipped progress.searched bytes
IsKnown (c ∷ separator) progress bytes = HasNoWord (c ∷ separator) 0 progress.searched bytes

abbrev pub nothing_known : Progress
nothing_known = record { skipped = 0; searched = 0 }

-- the bytes at hand were searched as is kept
pub record IsSearched (bytes : List ℕ) (search : ResumedSearch) : Type 0 where
  pub skipped : search.progress.skipped ≤ length bytes
  pub searched : search.progress.searched ≤ length bytes
  pub known : IsKnown search.separator.items search.progress bytes

-- the cut of the bytes at a boundary
abbrev pub cut_by : Boundary → List ℕ → Cut
cut_by (Stretch from to next) bytes = Found (take (to - from) (drop from bytes)) (drop next bytes)
cut_by Empty bytes = NoMore
cut_by (Unfinished skipped) bytes = BrokenOff
cut_by Over bytes = TooLong

-- the boundary lies within so many bytes
abbrev pub IsWithin : ℕ → Boundary → Type 0
IsWithin n (Stretch from to next) = (from ≤ to) × (to ≤ n) × (next ≤ n)
IsWithin n Empty = Unit {0}
IsWithin n (Unfinished skipped) = skipped ≤ n
IsWithin n Over = Unit {0}

-- so many newlines were skipped, where the separator is the empty one
abbrev pub IsSkipped : (separator : List ℕ) (skipped : ℕ) (bytes : List ℕ) → Type 0
IsSkipped [] skipped bytes = skipped ≡ newlines bytes
IsSkipped (c ∷ separator) skipped bytes = Unit {0}

-- what a search for the separator has skipped, if the boundary says that no record is whole
abbrev pub Skips : (separator : List ℕ) (bytes : List ℕ) → Boundary → Type 0
Skips separator bytes (Unfinished skipped) = IsSkipped separator skipped bytes
Skips separator bytes (Stretch from to next) = Unit {0}
Skips separator bytes Empty = Unit {0}
Skips separator bytes Over = Unit {0}

-- no more bytes are held than a record may have, where none is whole
abbrev pub IsShort : (n : ℕ) → Boundary → Type 0
IsShort n (Unfinished skipped) = n ≤ longest
IsShort n (Stretch from to next) = Unit {0}
IsShort n Empty = Unit {0}
IsShort n Over = Unit {0}
