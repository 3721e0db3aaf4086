-- What the functions of texts give, as functions: where a part stands, which matches of a pattern are chosen, and a text
-- with them exchanged (POSIX awk, String Functions). That they are what the relations of awk_text say
-- is told by laws.
use Rattle.std.specs.Prelude.{ℕ, zero, suc, ◌-◌, Bool, true, false, ℤ, pos, negsuc, List, [], ◌∷◌, length, Option, Some, None, Result, Ok, Err}
use Rattle.awk_ere.specs.Tree.{Tree}
use Rattle.awk_text.specs.declared.span.Span.{Span}
use Rattle.awk_text.specs.declared.fault.TextFault.{TextFault}
use Rattle.awk_record.specs.Cut.{first_at}
use Rattle.awk_text.specs.definitions.Separators.{Separator, ere, separator_of}
use Rattle.awk_text.specs.support.ChosenSeparators.{longest_end, if_full, or_later}
use Rattle.awk_text.specs.definitions.Replaced.{replaced_from}
use Rattle.awk_text.specs.declared.format_fault.FormatFault.{FormatFault}
use Rattle.awk_semantics.specs.declared.fault.Fault.TheVariants as fault
use Rattle.awk_semantics.specs.declared.halt.Halt.{Halt}
use Rattle.awk_semantics.specs.declared.halt.Halt.TheVariants as halt
use Rattle.awk_semantics.specs.definitions.Faults.{format_fault}

-- the position of a place, from 1, or 0 for none
abbrev pub position : Option ℕ → ℕ
position None = 0
position (Some i) = suc i

-- the first position at which the part stands in the text, or 0 where it doesn't; the empty part stands nowhere
abbrev pub position_of : (part text : List ℕ) → ℕ
position_of [] text = 0
position_of (b ∷ part) text = position (first_at (b ∷ part) text)

abbrev pub span_to : (start : ℕ) → (end : Option ℕ) → Option Span
span_to start None = None
span_to start (Some end) = Some (record { start = start; end = end })

-- of the matches that begin at one of so many places the first, and of those the longest
abbrev pub find_within : Tree → (text : List ℕ) → (count place : ℕ) → Option Span
find_within t text zero place = None
find_within t text (suc n) place = or_later (span_to place (longest_end t text place)) (find_within t text n (suc place))

-- the first match from a place on, and of those the longest
unfoldable pub find_from : Tree → (text : List ℕ) → (place : ℕ) → Option Span
find_from t text place = find_within t text (suc (length text) - place) place

-- the next match behind one that ends at this place: not the empty one there
unfoldable pub find_behind : Tree → (text : List ℕ) → (end : ℕ) → Option Span
find_behind t text end = or_later (if_full end (longest_end t text end)) (find_from t text (suc end))

-- a match, and at most so many behind it
abbrev pub matches_from : Tree → (text : List ℕ) → (count : ℕ) → Option Span → List Span
matches_from t text n None = []
matches_from t text zero (Some m) = m ∷ []
matches_from t text (suc n) (Some m) = m ∷ matches_from t text n (find_behind t text m.end)

-- the matches that are exchanged: all that don't overlap, or the first alone
abbrev pub chosen : (all : Bool) → Tree → (text : List ℕ) → List Span
chosen true t text = matches_from t text (length text) (find_from t text 0)
chosen false t text = matches_from t text 0 (find_from t text 0)

-- how many matches were exchanged, and the text then
pub record Exchange : Type 0 where
  pub count : ℕ
  pub text : List ℕ

unfoldable pub exchanged : (all : Bool) → Tree → (replacement text : List ℕ) → Exchange
exchanged all t replacement text = record {
  count = length (chosen all t text);
  text = replaced_from replacement text 0 (chosen all t text);
}

-- RSTART and RLENGTH for what `match` found
abbrev pub start_of : Option Span → ℤ
start_of None = pos 0
start_of (Some m) = pos (suc m.start)

abbrev pub length_of : Option Span → ℤ
length_of None = negsuc 0
length_of (Some m) = pos (m.end - m.start)

abbrev pub of_format : {A : Type 0} → Result A FormatFault → Result A Halt
of_format (Ok a) = Ok a
of_format (Err f) = Err (halt.Fault (format_fault f))

-- a separator; a text that is none is a fault
abbrev pub of_separator : Result Separator TextFault → Result Separator Halt
of_separator (Ok s) = Ok s
of_separator (Err f) = Err (halt.Fault fault.PatternRefused)

-- what separates the pieces of a split: a text is read as FS is, and an ERE is one whatever its length
abbrev pub separator_in : (text : List ℕ) → Result Separator Halt
separator_in text = of_separator (separator_of text)

abbrev pub ere_separator : Result Tree Halt → Result Separator Halt
ere_separator (Ok t) = Ok (ere t)
ere_separator (Err reason) = Err reason
