-- The calls that have begun and not ended, as the contracts see them, and how many entries that may be.
use Rattle.std.specs.Prelude.{ℕ, ◌+◌, ◌-◌, ◌<◌, List, take, length}
use Rattle.std.specs.List.{sum}
use Rattle.awk_semantics.specs.Primitives.{most_height}
use Rattle.awk_storage.specs.declared.entry.Entry.{Entry}
use Rattle.awk_storage.specs.declared.control.TheConstants.{FIRST_BOUND}

-- the entries, and the heights of the bodies that were entered and not left, the newest last
pub record Controlled : Type 0 where
  pub entries : List Entry
  pub heights : List ℕ

-- the heights of all bodies that are entered at a time
abbrev pub highest_sum : ℕ
highest_sum = most_height

-- the bodies below the one that was entered last
abbrev pub but_last : List ℕ → List ℕ
but_last heights = take (length heights - 1) heights

-- how many entries stand at most
abbrev pub bound_of : Controlled → ℕ
bound_of c = FIRST_BOUND + sum c.heights

-- one entry more may stand
abbrev pub HasRoom : Controlled → Type 0
HasRoom c = length c.entries < bound_of c
