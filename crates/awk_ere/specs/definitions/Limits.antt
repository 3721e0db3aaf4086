-- What a written pattern must not exceed, and which refusal a text gets.
use Rattle.std.specs.Prelude.{◌≡◌, ◌<◌, ◌≤◌, ℕ, Bool, true, false, ◌||◌, not, nat_le, ◌⊎◌, List, [], ◌∷◌, codes}
use Rattle.awk_ere.specs.definitions.Tree.{Tree, size}
use Rattle.awk_ere.specs.definitions.Brackets.{mark_value, BracketItem, single, range, class, Bracket, these, others}
use Rattle.awk_ere.specs.definitions.Tokens.{Atom, ordinary, any, escape, bracket, Repeat, star, plus, option, exactly, at_least, between, number, Token, atom, at_start, at_end, opening, closing, bar, again}
use Rattle.awk_ere.specs.definitions.Written.{Whole, whole_tokens, tree_of, whole_opened, IsWritten}
use Rattle.awk_ere.specs.declared.fault.PatternFault.{PatternFault}
use Rattle.awk_ere.specs.declared.fault.PatternFault.TheVariants.{Memory, IllFormed, BadCount, TooLarge}

-- the greatest count of a repeat, how many parentheses may be open at once, and how large a pattern may be
abbrev pub greatest_count : ℕ
greatest_count = 255

abbrev pub most_opened : ℕ
most_opened = 200

abbrev pub greatest_size : ℕ
greatest_size = 10000

-- a range that descends
abbrev pub any_descends : List BracketItem → Bool
any_descends [] = false
any_descends (single m ∷ is) = any_descends is
any_descends (range x y ∷ is) = not (nat_le (mark_value x) (mark_value y)) || any_descends is
any_descends (class n ∷ is) = any_descends is

abbrev pub bracket_is_bad : Bracket → Bool
bracket_is_bad (these is) = any_descends is
bracket_is_bad (others is) = any_descends is

abbrev pub atom_is_bad : Atom → Bool
atom_is_bad (ordinary b) = false
atom_is_bad any = false
atom_is_bad (escape e) = false
atom_is_bad (bracket k) = bracket_is_bad k

-- a count above 255, or one whose least is above its greatest
abbrev pub repeat_is_bad : Repeat → Bool
repeat_is_bad star = false
repeat_is_bad plus = false
repeat_is_bad option = false
repeat_is_bad (exactly ds) = not (nat_le (number 0 ds) greatest_count)
repeat_is_bad (at_least ds) = not (nat_le (number 0 ds) greatest_count)
repeat_is_bad (between ds es) = not (nat_le (number 0 es) greatest_count) || not (nat_le (number 0 ds) (number 0 es))

abbrev pub token_is_bad : Token → Bool
token_is_bad (atom a) = atom_is_bad a
token_is_bad at_start = false
token_is_bad at_end = false
token_is_bad opening = false
token_is_bad closing = false
token_is_bad bar = false
token_is_bad (again r) = repeat_is_bad r

abbrev pub any_bad : List Token → Bool
any_bad [] = false
any_bad (w ∷ ws) = token_is_bad w || any_bad ws

-- the text is no pattern, even if counts and the order of ranges are ignored
abbrev pub IsIllFormed : List ℕ → Type 0
IsIllFormed text = (w : Whole) → IsWritten w text → ⊥

-- a count or a range of the text is refused
abbrev pub HasBadCount : List ℕ → Type 0
HasBadCount text = (w : Whole) × IsWritten w text × (any_bad (whole_tokens w) ≡ true)

-- more than 200 parentheses are open at once, or the size is above 10,000
abbrev pub IsTooLarge : List ℕ → Type 0
IsTooLarge text =
    (w : Whole) × IsWritten w text × (any_bad (whole_tokens w) ≡ false)
    × ((most_opened < whole_opened w) ⊎ (greatest_size < size (tree_of w)))

-- the text is written so, and within the limits
abbrev pub IsGood : Whole → List ℕ → Type 0
IsGood w text =
    IsWritten w text × (any_bad (whole_tokens w) ≡ false) × (whole_opened w ≤ most_opened) × (size (tree_of w) ≤ greatest_size)

-- the text spells the pattern within the limits
abbrev pub SpellsWithin : Tree → List ℕ → Type 0
SpellsWithin t text = (w : Whole) × IsGood w text × (tree_of w ≡ t)

-- ---- How a text is refused

-- the text may be refused so. Want of memory says nothing of the text.
abbrev pub Refused : PatternFault → List ℕ → Type 0
Refused Memory text = Unit {0}
Refused IllFormed text = IsIllFormed text
Refused BadCount text = HasBadCount text
Refused TooLarge text = IsTooLarge text

-- ---- How a refusal of a pattern is shown.

abbrev pub fault_text : PatternFault → List ℕ
fault_text Memory = codes "P0: out of memory"
fault_text IllFormed = codes "P1: pattern ill-formed"
fault_text BadCount = codes "P2: interval or range refused"
fault_text TooLarge = codes "P3: pattern too large"
