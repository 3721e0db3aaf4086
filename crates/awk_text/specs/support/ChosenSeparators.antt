-- The separators that an ERE chooses, as a function. What it decides is told by a law, `AreSeparators`.
use Rattle.std.specs.Prelude.{ℕ, zero, suc, ◌-◌, Bool, true, false, nat_eq, nat_lt, if◌then◌else◌, List, [], ◌∷◌, length, drop, Option, None, Some}
use Rattle.awk_ere.specs.definitions.Tree.{Tree}
use Rattle.awk_ere.specs.definitions.Desugared.{desugar}
use Rattle.awk_ere.specs.support.Marked.{Marked, flow, step, fresh}
use Rattle.awk_text.specs.declared.span.Span.{Span}

-- the later end, or this place if a match ends here
abbrev pub or_here : Bool → (place : ℕ) → (later : Option ℕ) → Option ℕ
or_here here place (Some end) = Some end
or_here true place None = Some place
or_here false place None = None

-- The last end of a match at a place or behind it, which the rest of the text follows: of one that begins at a place that
-- passes, where the marks stand for those that began before.
abbrev pub last_end : (ℕ → Bool) → Marked → (place : ℕ) → (rest : List ℕ) → Option ℕ
last_end from p k [] = or_here (flow (nat_eq k 0) true (from k) p) k None
last_end from p k (x ∷ rest) =
    or_here (flow (nat_eq k 0) false (from k) p) k (last_end from (step (nat_eq k 0) false x (from k) false p) (suc k) rest)

-- the end of the longest match that begins at a place
unfoldable pub longest_end : Tree → (text : List ℕ) → (place : ℕ) → Option ℕ
longest_end t text place = last_end (λ k. nat_eq k place) (fresh (desugar t)) place (drop place text)

-- the match with a byte in it
abbrev pub if_full : (start : ℕ) → (end : Option ℕ) → Option Span
if_full start None = None
if_full start (Some end) = if nat_lt start end then Some (record { start = start; end = end }) else None

abbrev pub or_later : Option Span → Option Span → Option Span
or_later (Some m) later = Some m
or_later None later = later

-- the first of them, of those that begin at one of so many places
abbrev pub first_full : Tree → (text : List ℕ) → (count place : ℕ) → Option Span
first_full t text zero place = None
first_full t text (suc n) place = or_later (if_full place (longest_end t text place)) (first_full t text n (suc place))

-- the next separator from a place on
unfoldable pub next_separator : Tree → (text : List ℕ) → (place : ℕ) → Option Span
next_separator t text place = first_full t text (length text - place) place

-- the place behind what was found
abbrev pub place_behind : (place : ℕ) → Option Span → ℕ
place_behind place None = place
place_behind place (Some m) = m.end

abbrev pub onto_found : Option Span → List Span → List Span
onto_found None ms = []
onto_found (Some m) ms = m ∷ ms

-- the separators from a place on, if they are no more than so many
abbrev pub separators_within : Tree → (text : List ℕ) → (count place : ℕ) → List Span
separators_within t text zero place = []
separators_within t text (suc n) place =
    onto_found (next_separator t text place) (separators_within t text n (place_behind place (next_separator t text place)))

-- the separators from a place on
unfoldable pub separators_from : Tree → (text : List ℕ) → (place : ℕ) → List Span
separators_from t text place = separators_within t text (length text) place
