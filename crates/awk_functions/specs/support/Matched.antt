-- What patterns find in texts (POSIX awk, Regular Expressions; String Functions).
use Rattle.std.specs.Prelude.{◌≡◌, ℕ, zero, suc, ◌+◌, ◌≤◌, Bool, false, List, ◌++◌, length, Option, Some, None, Result, Ok, Err}
use Rattle.awk_ere.specs.Tree.{Tree}
use Rattle.awk_ere.specs.Means.{occurs}
use Rattle.awk_text.specs.declared.span.Span.{Span}
use Rattle.awk_text.specs.Separators.{Separator}
use Rattle.awk_text.specs.Fields.{pieces_of}
use Rattle.awk_semantics.specs.declared.halt.Halt.{Halt}
use Rattle.awk_semantics.specs.Texts.{find_from, exchanged}
use Rattle.awk_functions.specs.declared.found.Exchanged.{Exchanged}

-- whether a pattern matches somewhere in a text
abbrev pub matched : Result Tree Halt → (text : List ℕ) → Result Bool Halt
matched (Ok t) text = Ok (occurs t text)
matched (Err reason) text = Err reason

-- no part of a text that ends at or before a place has a match
abbrev pub HasNoMatchUpTo : Result Tree Halt → (text : List ℕ) → (place : ℕ) → Type 0
HasNoMatchUpTo pattern text place =
    (before part after : List ℕ) → text ≡ before ++ (part ++ after) → length before + length part ≤ place → matched pattern part ≡ Ok false

-- the first match of a pattern in a text, and of those the longest
abbrev pub found : Result Tree Halt → (text : List ℕ) → Result (Option Span) Halt
found (Ok t) text = Ok (find_from t text 0)
found (Err reason) text = Err reason

-- how many matches were exchanged and the text then, if any was
abbrev pub some_exchanged : (count : ℕ) (text : List ℕ) → Option Exchanged
some_exchanged zero text = None
some_exchanged (suc n) text = Some (record { count = suc n; text = text })

abbrev pub exchanged_by : (all : Bool) → Result Tree Halt → (replacement text : List ℕ) → Result (Option Exchanged) Halt
exchanged_by all (Ok t) replacement text = Ok (some_exchanged (exchanged all t replacement text).count (exchanged all t replacement text).text)
exchanged_by all (Err reason) replacement text = Err reason

-- the pieces of a text between separators
abbrev pub split_by : Result Separator Halt → (text : List ℕ) → Result (List (List ℕ)) Halt
split_by (Ok separator) text = Ok (pieces_of separator false text)
split_by (Err reason) text = Err reason
