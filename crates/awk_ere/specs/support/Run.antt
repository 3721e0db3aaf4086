-- Patterns that are a run of bytes of a class, and nothing else.
use Rattle.std.specs.Prelude.{◌≡◌, ℕ, ◌<◌, ◌≤◌, Bool, true, false, List, [], ◌∷◌, map, length, Option, Some, None, slice_index}
use Rattle.awk_ere.specs.definitions.Tree.{Class, has}
use Rattle.awk_ere.specs.definitions.Program.{resolve, read, enter, leave}
use Rattle.awk_ere.specs.declared.pattern.Pattern.{Pattern}

-- the pattern is one or more bytes of the class
abbrev pub IsRunOf : Class → Pattern → Type 0
IsRunOf class p = map (resolve p.program.classes.items) p.program.instructions.items ≡ enter 2 ∷ read class ∷ leave ∷ []

-- from one place up to another each byte is in the class, or none is
abbrev pub Stays : Bool → Class → List ℕ → ℕ → ℕ → Type 0
Stays inside class s low high = (k : ℕ) → low ≤ k → k < high → has class (slice_index s k) ≡ inside

-- this is the first run behind a place, and all of it, or there is none
abbrev pub IsFirstRun : Class → List ℕ → ℕ → Option (ℕ × ℕ) → Type 0
IsFirstRun class s from None = Stays false class s from (length s)
IsFirstRun class s from (Some m) =
    (from ≤ m.0) × (m.0 < m.1) × (m.1 ≤ length s) × Stays false class s from m.0 × Stays true class s m.0 m.1
    × (m.1 < length s → has class (slice_index s m.1) ≡ false)
