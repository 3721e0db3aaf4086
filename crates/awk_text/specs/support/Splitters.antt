-- What the code keeps of a separator.
use Rattle.std.specs.Prelude.{◌≡◌, ℕ, ◌≤◌, Bool, List, Result, Ok, Err}
use Rattle.awk_ere.specs.definitions.Tree.{Tree}
use Rattle.awk_ere.specs.definitions.Means.{Means}
use Rattle.awk_text.specs.declared.fault.TextFault.{TextFault}
use Rattle.awk_text.specs.declared.span.Span.{Span}
use Rattle.awk_text.specs.declared.splitter.Splitter.{Splitter}
use Rattle.awk_text.specs.declared.splitter.Splitter.TheVariants as splitters
use Rattle.awk_text.specs.definitions.Separators.{Separator, blanks, byte, each, ere, or_newline, IsCandidate}

-- it stands for a separator
abbrev pub Stands : Separator → (newline_too : Bool) → Splitter → Type 0
Stands blanks newline_too splitters.Blanks = Unit {0}
Stands (byte b) newline_too (splitters.Byte c) = b ≡ c
Stands each newline_too splitters.Each = Unit {0}
Stands (ere t) newline_too (splitters.Ere m) = Means (or_newline newline_too t) m.pattern
Stands _ newline_too _ = ⊥

abbrev pub StandsFor : Result Separator TextFault → (newline_too : Bool) → Splitter → Type 0
StandsFor (Ok s) newline_too splitter = Stands s newline_too splitter
StandsFor (Err fault) newline_too splitter = ⊥

-- none of the candidates begins before a place
abbrev pub NoneBefore : Tree → (text : List ℕ) → (place from : ℕ) → Type 0
NoneBefore t text place from = (m : Span) → IsCandidate t text place m → from ≤ m.start
