-- What the code keeps of a pattern that a text spells.
use Rattle.std.specs.Prelude.{◌≡◌, ℕ, ◌⊎◌, List, Option, Some, None, Result, Ok, Err}
use Rattle.awk_ere.specs.Tree.{Tree}
use Rattle.awk_ere.specs.Means.{Means, pattern_of}
use Rattle.awk_ere.specs.declared.pattern.Pattern.{Pattern}
use Rattle.awk_semantics.specs.declared.halt.Halt.{Halt}
use Rattle.awk_semantics.specs.declared.halt.Halt.TheVariants as halt
use Rattle.awk_semantics.specs.declared.fault.Fault.TheVariants.{OutOfMemory, PatternRefused}

-- the pattern of the code is this one
abbrev pub MeansOf : Option Tree → Pattern → Type 0
MeansOf None p = ⊥
MeansOf (Some t) p = Means t p

-- memory was refused, or the text spells no pattern
abbrev pub IsRefusal : Halt → (text : List ℕ) → Type 0
IsRefusal h text = (h ≡ halt.Fault OutOfMemory) ⊎ ((h ≡ halt.Fault PatternRefused) × (pattern_of text ≡ None))

-- a pattern is kept with its text, or the text is refused
abbrev pub ReadsFor : {A : Type 0} → List ℕ → (A → List ℕ) → Result A Halt → Type 0
ReadsFor text text_of (Ok a) = text_of a ≡ text
ReadsFor text text_of (Err h) = IsRefusal h text
