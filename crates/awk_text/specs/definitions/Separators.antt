-- What separates the fields of a text, and which separator the value of FS stands for. POSIX awk, "Regular Expressions",
-- the rules on FS: a space stands for blanks, any other single character for itself, and a longer text for the ERE that it
-- spells. The standard leaves the empty text open.
use Rattle.std.specs.Prelude.{◌≡◌, ◌<◌, ◌≤◌, ℕ, Bool, true, false, ◌==◌, if◌then◌else◌, List, [], ◌∷◌, length, Option, None, Some, Result, Ok, Err}
use Rattle.awk_ere.specs.definitions.Tree.{Tree, class, class_of, branches, none, next, Matches}
use Rattle.awk_ere.specs.definitions.Means.{Means, pattern_of}
use Rattle.awk_text.specs.declared.fault.TextFault.{TextFault}
use Rattle.awk_text.specs.declared.fault.TextFault.TheVariants.{Pattern}
use Rattle.awk_text.specs.declared.separator.Separator.{Separator as CodeSeparator}
use Rattle.awk_text.specs.declared.separator.Separator.TheVariants as code
use Rattle.awk_text.specs.declared.span.Span.{Span}

pub data Separator : Type 0 where
  -- runs of spaces, tabs and newlines
  blanks : Separator
  -- each place of this byte
  byte : ℕ → Separator
  -- nothing stands between the fields: each byte is one
  each : Separator
  -- the chosen matches of this ERE
  ere : Tree → Separator

-- the ERE that a text spells; a text that spells none is refused
abbrev pub ere_or_refused : Option Tree → Result Separator TextFault
ere_or_refused None = Err Pattern
ere_or_refused (Some t) = Ok (ere t)

abbrev pub separator_of : List ℕ → Result Separator TextFault
separator_of [] = Ok each
separator_of (b ∷ []) = Ok (if b == 32 then blanks else byte b)
separator_of (b ∷ c ∷ text) = ere_or_refused (pattern_of (b ∷ c ∷ text))

-- the code's separator is this one
abbrev pub IsSeparator : Separator → CodeSeparator → Type 0
IsSeparator blanks code.Blanks = Unit {0}
IsSeparator (byte b) (code.Byte c) = b ≡ c
IsSeparator each code.Each = Unit {0}
IsSeparator (ere t) (code.Ere p) = Means t p
IsSeparator _ _ = ⊥

-- it is the one that a value of FS stands for
abbrev pub IsMadeFor : Result Separator TextFault → CodeSeparator → Type 0
IsMadeFor (Ok s) made = IsSeparator s made
IsMadeFor (Err fault) made = ⊥

-- a value of FS that is not refused, and whether newlines separate too
pub record Rule : Type 0 where
  pub text : List ℕ
  pub newline_too : Bool

-- what was made of a value that is not refused
abbrev pub separator_made : Result Separator TextFault → Separator
separator_made (Ok s) = s
separator_made (Err fault) = blanks

abbrev pub separator_by : Rule → Separator
separator_by rule = separator_made (separator_of rule.text)

-- the ERE with a newline as one more branch, where newlines separate too
abbrev pub or_newline : (newline_too : Bool) → Tree → Tree
or_newline false t = t
or_newline true t = branches t (next (class (class_of (λ b. b == 10))) none)

-- a match within the text, with a byte in it, that doesn't begin before the place
pub record IsCandidate (t : Tree) (text : List ℕ) (place : ℕ) (m : Span) : Type 0 where
  pub behind : place ≤ m.start
  pub full : m.start < m.end
  pub within : m.end ≤ length text
  pub matches : Matches text t m.start m.end

-- of the candidates from a place on the one that begins first, and of those the longest; or nothing, where there is none
abbrev pub IsNextSeparator : Tree → (text : List ℕ) → (place : ℕ) → Option Span → Type 0
IsNextSeparator t text place None = (m : Span) → IsCandidate t text place m → ⊥
IsNextSeparator t text place (Some best) =
    IsCandidate t text place best
    × ((m : Span) → IsCandidate t text place m → best.start ≤ m.start)
    × ((m : Span) → IsCandidate t text place m → m.start ≡ best.start → m.end ≤ best.end)

-- each is the next separator behind the one before, and behind the last there is none
abbrev pub AreSeparators : Tree → (text : List ℕ) → (place : ℕ) → List Span → Type 0
AreSeparators t text place [] = IsNextSeparator t text place None
AreSeparators t text place (m ∷ ms) = IsNextSeparator t text place (Some m) × AreSeparators t text m.end ms
