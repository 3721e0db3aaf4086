-- Reading the tokens of a pattern from the front of a text.
use Rattle.std.specs.Prelude.{ℕ, zero, suc, Bool, true, false, ◌&&◌, ◌||◌, not, nat_le, ◌==◌, List, [], ◌∷◌, length, Option, Some, None, if◌then◌else◌}
use Rattle.awk_ere.specs.declared.class_name.ClassName.{ClassName}
use Rattle.awk_ere.specs.declared.class_name.ClassName.TheVariants.{Alnum, Alpha, Blank, Cntrl, Digit, Graph, Lower, Print, Punct, Space, Upper, Xdigit}
use Rattle.awk_ere.specs.definitions.Escapes.{is_octal, is_digit, is_letter, starts, names_byte, Escape, letter, octal1, octal2, octal3, itself, octal}
use Rattle.awk_ere.specs.definitions.Brackets.{Mark, plain, escaped, is_name_mark, name_bytes, BracketItem, single, range, class, begins_range, is_barred, Bracket, these, others}
use Rattle.awk_ere.specs.definitions.Tokens.{some_bytes, ordinary, any, escape, bracket, Repeat, star, plus, option, exactly, at_least, between, Token, atom, at_start, at_end, opening, closing, bar, again}

infixl 10 ◌>>=◌
abbrev pub ◌>>=◌ : {A B : Type 0} → Option A → (A → Option B) → Option B
None >>= f = None
(Some x) >>= f = f x

abbrev pub or_else : {A : Type 0} → Option A → Option A → Option A
or_else None o = o
or_else (Some x) o = Some x

abbrev pub tail : List ℕ → List ℕ
tail [] = []
tail (b ∷ bs) = bs

-- ---- escapes, behind the backslash

abbrev pub octal_more : ℕ → ℕ → List ℕ → Option (Escape × List ℕ)
octal_more a b [] = Some (octal2 a b, [])
octal_more a b (c ∷ ds) =
    if is_octal c then (if nat_le (octal a b c) 255 then Some (octal3 a b c, ds) else None) else Some (octal2 a b, c ∷ ds)

abbrev pub octal_at : ℕ → List ℕ → Option (Escape × List ℕ)
octal_at a [] = Some (octal1 a, [])
octal_at a (b ∷ cs) = if is_octal b then octal_more a b cs else Some (octal1 a, b ∷ cs)

abbrev pub escape_at : List ℕ → Option (Escape × List ℕ)
escape_at [] = None
escape_at (a ∷ bs) =
    if is_octal a then octal_at a bs else (
    if names_byte a then Some (letter a, bs) else (
    if is_letter a || is_digit a then None else Some (itself a, bs)))

-- ---- brackets, behind the [

abbrev pub as_mark : Escape × List ℕ → Option (Mark × List ℕ)
as_mark e = Some (escaped e.0, e.1)

abbrev pub mark_at : List ℕ → Option (Mark × List ℕ)
mark_at [] = None
mark_at (b ∷ bs) =
    if b == 92 then (escape_at bs >>= as_mark) else (
    if b == 91 && starts is_name_mark bs then None else Some (plain b, bs))

-- what follows the bytes at the front
abbrev pub strip : List ℕ → List ℕ → Option (List ℕ)
strip [] text = Some text
strip (p ∷ ps) [] = None
strip (p ∷ ps) (b ∷ bs) = if p == b then strip ps bs else None

abbrev pub this_name : ClassName → List ℕ → Option (ClassName × List ℕ)
this_name n text = strip (name_bytes n) text >>= λ rest. Some (n, rest)

abbrev pub first_name : List ClassName → List ℕ → Option (ClassName × List ℕ)
first_name [] text = None
first_name (n ∷ ns) text = or_else (this_name n text) (first_name ns text)

abbrev pub all_names : List ClassName
all_names = Alnum ∷ Alpha ∷ Blank ∷ Cntrl ∷ Digit ∷ Graph ∷ Lower ∷ Print ∷ Punct ∷ Space ∷ Upper ∷ Xdigit ∷ []

abbrev pub name_at : List ℕ → Option (ClassName × List ℕ)
name_at text = first_name all_names text

abbrev pub as_range : Mark → Mark × List ℕ → Option (BracketItem × List ℕ)
as_range x y = Some (range x y.0, y.1)

-- what goes on from a byte: a range, or nothing more
abbrev pub range_at : Mark × List ℕ → Option (BracketItem × List ℕ)
range_at m = if begins_range m.1 then (mark_at (tail m.1) >>= as_range m.0) else Some (single m.0, m.1)

abbrev pub as_class : ClassName × List ℕ → Option (BracketItem × List ℕ)
as_class n = Some (class n.0, n.1)

abbrev pub item_at : Bool → List ℕ → Option (BracketItem × List ℕ)
item_at first [] = None
item_at first (b ∷ bs) =
    if b == 91 && starts (λ c. c == 58) bs then (name_at (tail bs) >>= as_class) else (
    if is_barred first b bs then None else (mark_at (b ∷ bs) >>= range_at))

abbrev pub closes : Bool → List ℕ → Bool
closes first text = not first && starts (λ b. b == 93) text

abbrev pub with_item : BracketItem → List BracketItem × List ℕ → Option (List BracketItem × List ℕ)
with_item i r = Some (i ∷ r.0, r.1)

-- fewer than so many items, and the ] behind them
abbrev pub items_at : ℕ → Bool → List ℕ → Option (List BracketItem × List ℕ)
items_at zero first text = None
items_at (suc n) first text =
    if closes first text then Some ([], tail text) else (item_at first text >>= λ i. items_at n false i.1 >>= with_item i.0)

abbrev pub as_these : List BracketItem × List ℕ → Option (Bracket × List ℕ)
as_these r = Some (these r.0, r.1)

abbrev pub as_others : List BracketItem × List ℕ → Option (Bracket × List ℕ)
as_others r = Some (others r.0, r.1)

abbrev pub bracket_at : List ℕ → Option (Bracket × List ℕ)
bracket_at text =
    if starts (λ b. b == 94) text then (items_at (length (tail text)) true (tail text) >>= as_others) else (items_at (length text) true text >>= as_these)

-- ---- intervals, behind the {

-- the digits at the front, and what follows them
abbrev pub digits : List ℕ → List ℕ
digits [] = []
digits (b ∷ bs) = if is_digit b then b ∷ digits bs else []

abbrev pub after_digits : List ℕ → List ℕ
after_digits [] = []
after_digits (b ∷ bs) = if is_digit b then after_digits bs else b ∷ bs

abbrev pub between_at : List ℕ → List ℕ → List ℕ → Option (Repeat × List ℕ)
between_at ds es text = if some_bytes es && starts (λ b. b == 125) text then Some (between ds es, tail text) else None

abbrev pub comma_at : List ℕ → List ℕ → Option (Repeat × List ℕ)
comma_at ds text =
    if starts (λ b. b == 125) text then Some (at_least ds, tail text) else between_at ds (digits text) (after_digits text)

abbrev pub count_at : List ℕ → List ℕ → Option (Repeat × List ℕ)
count_at ds text =
    if some_bytes ds then (
    if starts (λ b. b == 125) text then Some (exactly ds, tail text) else (
    if starts (λ b. b == 44) text then comma_at ds (tail text) else None))
    else None

abbrev pub interval_at : List ℕ → Option (Repeat × List ℕ)
interval_at text = count_at (digits text) (after_digits text)

-- ---- tokens

abbrev pub as_escape : Escape × List ℕ → Option (Token × List ℕ)
as_escape e = Some (atom (escape e.0), e.1)

abbrev pub as_bracket : Bracket × List ℕ → Option (Token × List ℕ)
as_bracket k = Some (atom (bracket k.0), k.1)

abbrev pub as_interval : Repeat × List ℕ → Option (Token × List ℕ)
as_interval r = Some (again r.0, r.1)

abbrev pub escape_token : List ℕ → Option (Token × List ℕ)
escape_token text = escape_at text >>= as_escape

abbrev pub bracket_token : List ℕ → Option (Token × List ℕ)
bracket_token text = bracket_at text >>= as_bracket

abbrev pub interval_token : List ℕ → Option (Token × List ℕ)
interval_token text = interval_at text >>= as_interval

-- the token that a byte alone is
abbrev pub sign : ℕ → Token
sign b =
    if b == 46 then atom any else (
    if b == 94 then at_start else (
    if b == 36 then at_end else (
    if b == 40 then opening else (
    if b == 41 then closing else (
    if b == 124 then bar else (
    if b == 42 then again star else (
    if b == 43 then again plus else (
    if b == 63 then again option else atom (ordinary b)))))))))

-- the token at the front, and what follows it
abbrev pub token_at : List ℕ → Option (Token × List ℕ)
token_at [] = None
token_at (b ∷ bs) =
    if b == 92 then escape_token bs else (
    if b == 91 then bracket_token bs else (
    if b == 123 then interval_token bs else Some (sign b, bs)))
