-- What the code keeps of a token.
use Rattle.std.specs.Prelude.{ℕ, suc, ◌-◌, min, Bool, false, ◌&&◌, ◌||◌, not, nat_le, ◌==◌, List, [], ◌∷◌, Option, Some, None, if◌then◌else◌}
use Rattle.std.specs.Option.{option_map}
use Rattle.awk_ere.specs.declared.class_name.ClassName.{ClassName}
use Rattle.awk_ere.specs.declared.reading.bracket.BracketItem.{BracketItem as SeenItem}
use Rattle.awk_ere.specs.declared.reading.bracket.BracketItem.TheVariants as items
use Rattle.awk_ere.specs.declared.token.Repeat.{Repeat as SeenRepeat}
use Rattle.awk_ere.specs.declared.token.Repeat.TheVariants as repeats
use Rattle.awk_ere.specs.declared.token.Token.{Token as SeenToken}
use Rattle.awk_ere.specs.declared.token.Token.TheVariants as seen
use Rattle.awk_ere.specs.definitions.Escapes.{within, starts, names_byte, named, is_letter, is_digit, Escape, escape_value}
use Rattle.awk_ere.specs.definitions.Brackets.{Mark, mark_value, named_class, BracketItem, single, range, class, begins_range, is_barred}
use Rattle.awk_ere.specs.definitions.Tokens.{some_bytes, Atom, ordinary, any, escape, bracket, Repeat, star, plus, option, exactly, at_least, between, number, Token, atom, at_start, at_end, opening, closing, bar, again}
use Rattle.awk_ere.specs.definitions.Limits.{greatest_count, any_descends, bracket_is_bad}
use Rattle.awk_ere.specs.support.Lexer.{tail, mark_at, name_at, closes, digits, after_digits}

-- the value of a byte or an escape, and of a bracket whether none of its ranges descends
abbrev pub seen_atom : Atom → SeenToken
seen_atom (ordinary b) = seen.Byte b
seen_atom any = seen.Any
seen_atom (escape e) = seen.Byte (escape_value e)
seen_atom (bracket k) = seen.Bracket (not (bracket_is_bad k))

-- a count, or one more than the greatest where it is above that
abbrev pub capped : ℕ → ℕ
capped n = min n (suc greatest_count)

abbrev pub seen_count : List ℕ → ℕ
seen_count ds = capped (number 0 ds)

abbrev pub seen_repeat : Repeat → SeenRepeat
seen_repeat star = repeats.Star
seen_repeat plus = repeats.Plus
seen_repeat option = repeats.Option
seen_repeat (exactly ds) = repeats.Exactly (seen_count ds)
seen_repeat (at_least ds) = repeats.AtLeast (seen_count ds)
seen_repeat (between ds es) = repeats.Between (seen_count ds) (seen_count es)

abbrev pub seen_token : Token → SeenToken
seen_token (atom a) = seen_atom a
seen_token at_start = seen.Start
seen_token at_end = seen.End
seen_token opening = seen.Open
seen_token closing = seen.Close
seen_token bar = seen.Bar
seen_token (again r) = seen.Again (seen_repeat r)

-- the token at the front of a text, and what follows it
abbrev pub seen_front : Token × List ℕ → SeenToken × List ℕ
seen_front w = (seen_token w.0, w.1)

-- the byte that a backslash and a byte that is no octal digit stand for
abbrev pub named_byte : ℕ → Option ℕ
named_byte b = if names_byte b then Some (named b) else (if is_letter b || is_digit b then None else Some b)

abbrev pub seen_escape : Escape × List ℕ → ℕ × List ℕ
seen_escape e = (escape_value e.0, e.1)

-- ---- brackets

-- a byte, an item, and what they have
abbrev pub seen_mark : Mark × List ℕ → ℕ × List ℕ
seen_mark m = (mark_value m.0, m.1)

abbrev pub part_of : BracketItem → SeenItem
part_of (single m) = items.Single (mark_value m)
part_of (range x y) = items.Range (mark_value x) (mark_value y)
part_of (class n) = items.Class n

abbrev pub seen_item : BracketItem × List ℕ → SeenItem × List ℕ
seen_item i = (part_of i.0, i.1)

abbrev pub holds : SeenItem → ℕ → Bool
holds (items.Single x) b = x == b
holds (items.Range x y) b = within x y b
holds (items.Class n) b = named_class n b

abbrev pub descends : SeenItem → Bool
descends (items.Single x) = false
descends (items.Range x y) = not (nat_le x y)
descends (items.Class n) = false

-- what goes on from a byte, by the mark at the end of its range
abbrev pub range_to : ℕ → Option (ℕ × List ℕ) → Option (SeenItem × List ℕ)
range_to x None = None
range_to x (Some y) = Some (items.Range x y.0, y.1)

abbrev pub range_seen : ℕ → List ℕ → Option (SeenItem × List ℕ)
range_seen x rest =
    if begins_range rest then range_to x (option_map seen_mark (mark_at (tail rest))) else Some (items.Single x, rest)

-- an item, by what was read at its front
abbrev pub class_seen : Option (ClassName × List ℕ) → Option (SeenItem × List ℕ)
class_seen None = None
class_seen (Some n) = Some (items.Class n.0, n.1)

abbrev pub mark_seen : Option (ℕ × List ℕ) → Option (SeenItem × List ℕ)
mark_seen None = None
mark_seen (Some m) = range_seen m.0 m.1

abbrev pub item_seen : Bool → List ℕ → Option (SeenItem × List ℕ)
item_seen first [] = None
item_seen first (b ∷ bs) =
    if b == 91 && starts (λ c. c == 58) bs then class_seen (name_at (tail bs)) else (
    if is_barred first b bs then None else mark_seen (option_map seen_mark (mark_at (b ∷ bs))))

-- what follows the ] that closes the bracket here
abbrev pub end_at : Bool → List ℕ → Option (List ℕ)
end_at first text = if closes first text then Some (tail text) else None

-- the items of a bracket, and what follows the ]
abbrev pub seen_items : List BracketItem × List ℕ → SeenToken × List ℕ
seen_items r = (seen.Bracket (not (any_descends r.0)), r.1)

-- ---- intervals

-- the value of the digit at the front, and what follows it
abbrev pub digit_seen : List ℕ → Option (ℕ × List ℕ)
digit_seen [] = None
digit_seen (b ∷ bs) = if is_digit b then Some (b - 48, bs) else None

-- the digits at the front as a count, and what follows them
abbrev pub number_seen : List ℕ → Option (ℕ × List ℕ)
number_seen text = if some_bytes (digits text) then Some (seen_count (digits text), after_digits text) else None

-- the end of an interval behind its comma, by its counts
abbrev pub most_seen : ℕ → Option (ℕ × List ℕ) → Option (SeenToken × List ℕ)
most_seen least None = None
most_seen least (Some most) =
    if starts (λ b. b == 125) most.1 then Some (seen.Again (repeats.Between least most.0), tail most.1) else None

abbrev pub end_seen : ℕ → List ℕ → Option (SeenToken × List ℕ)
end_seen least text =
    if starts (λ b. b == 125) text then Some (seen.Again (repeats.AtLeast least), tail text) else most_seen least (number_seen text)
