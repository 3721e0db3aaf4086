-- Bracket expressions (XBD 9.3.5).
use Rattle.std.specs.Prelude.{ℕ, Bool, true, false, ◌&&◌, ◌||◌, not, ◌==◌, List, [], ◌∷◌, ◌++◌, codes}
use Rattle.awk_ere.specs.definitions.Escapes.{within, is_digit, is_letter, among, starts, Escape, escape_bytes, escape_value, escape_fits}
use Rattle.awk_ere.specs.declared.class_name.ClassName.{ClassName}
use Rattle.awk_ere.specs.declared.class_name.ClassName.TheVariants.{Alnum, Alpha, Blank, Cntrl, Digit, Graph, Lower, Print, Punct, Space, Upper, Xdigit}

-- a byte in a bracket
pub data Mark : Type 0 where
  plain : ℕ → Mark
  escaped : Escape → Mark

abbrev pub mark_bytes : Mark → List ℕ
mark_bytes (plain b) = b ∷ []
mark_bytes (escaped e) = 92 ∷ escape_bytes e

abbrev pub mark_value : Mark → ℕ
mark_value (plain b) = b
mark_value (escaped e) = escape_value e

abbrev pub is_name_mark : ℕ → Bool
is_name_mark b = among (codes ":.=") b

-- a [ is itself unless one of : . = follows
abbrev pub mark_fits : Mark → List ℕ → Bool
mark_fits (plain b) rest = not (b == 92) && not (b == 91 && starts is_name_mark rest)
mark_fits (escaped e) rest = escape_fits e rest

-- the name of a class, with the :] behind it
abbrev pub name_bytes : ClassName → List ℕ
name_bytes Alnum = codes "alnum:]"
name_bytes Alpha = codes "alpha:]"
name_bytes Blank = codes "blank:]"
name_bytes Cntrl = codes "cntrl:]"
name_bytes Digit = codes "digit:]"
name_bytes Graph = codes "graph:]"
name_bytes Lower = codes "lower:]"
name_bytes Print = codes "print:]"
name_bytes Punct = codes "punct:]"
name_bytes Space = codes "space:]"
name_bytes Upper = codes "upper:]"
name_bytes Xdigit = codes "xdigit:]"

-- the bytes of a class
abbrev pub named_class : ClassName → ℕ → Bool
named_class Alnum b = is_letter b || is_digit b
named_class Alpha b = is_letter b
named_class Blank b = b == 32 || b == 9
named_class Cntrl b = within 0 31 b || b == 127
named_class Digit b = is_digit b
named_class Graph b = within 33 126 b
named_class Lower b = within 97 122 b
named_class Print b = within 32 126 b
named_class Punct b = within 33 126 b && not (is_letter b || is_digit b)
named_class Space b = within 9 13 b || b == 32
named_class Upper b = within 65 90 b
named_class Xdigit b = is_digit b || (within 65 70 b || within 97 102 b)

pub data BracketItem : Type 0 where
  single : Mark → BracketItem
  range : Mark → Mark → BracketItem
  class : ClassName → BracketItem

abbrev pub item_bytes : BracketItem → List ℕ
item_bytes (single m) = mark_bytes m
item_bytes (range x y) = mark_bytes x ++ 45 ∷ mark_bytes y
item_bytes (class n) = 91 ∷ 58 ∷ name_bytes n

abbrev pub item_has : BracketItem → ℕ → Bool
item_has (single m) b = mark_value m == b
item_has (range x y) b = within (mark_value x) (mark_value y) b
item_has (class n) b = named_class n b

-- a - that isn't last
abbrev pub begins_range : List ℕ → Bool
begins_range [] = false
begins_range (a ∷ []) = false
begins_range (a ∷ c ∷ cs) = a == 45 && not (c == 93)

-- the byte closes the bracket, or is a - that is neither first nor last
abbrev pub is_barred : Bool → ℕ → List ℕ → Bool
is_barred first b rest = not first && (b == 93 || (b == 45 && not (starts (λ c. c == 93) rest)))

abbrev pub may_begin : Bool → Mark → List ℕ → Bool
may_begin first (plain b) rest = not (is_barred first b rest)
may_begin first (escaped e) rest = true

-- an unescaped ] ends no range
abbrev pub may_end : Mark → Bool
may_end (plain b) = not (b == 93)
may_end (escaped e) = true

abbrev pub item_fits : Bool → BracketItem → List ℕ → Bool
item_fits first (single m) rest = mark_fits m rest && (may_begin first m rest && not (begins_range rest))
item_fits first (range x y) rest =
    mark_fits x (45 ∷ (mark_bytes y ++ rest)) && (may_begin first x (45 ∷ (mark_bytes y ++ rest)) && (mark_fits y rest && may_end y))
item_fits first (class n) rest = true

abbrev pub items_bytes : List BracketItem → List ℕ
items_bytes [] = 93 ∷ []
items_bytes (i ∷ is) = item_bytes i ++ items_bytes is

-- the items may stand before the rest
abbrev pub items_fit : Bool → List BracketItem → List ℕ → Bool
items_fit first [] rest = not first
items_fit first (i ∷ is) rest = item_fits first i (items_bytes is ++ rest) && items_fit false is rest

abbrev pub any_has : List BracketItem → ℕ → Bool
any_has [] b = false
any_has (i ∷ is) b = item_has i b || any_has is b

pub data Bracket : Type 0 where
  these : List BracketItem → Bracket
  others : List BracketItem → Bracket

-- what stands behind the [
abbrev pub bracket_bytes : Bracket → List ℕ
bracket_bytes (these is) = items_bytes is
bracket_bytes (others is) = 94 ∷ items_bytes is

abbrev pub bracket_fits : Bracket → List ℕ → Bool
bracket_fits (these is) rest = items_fit true is rest && not (starts (λ b. b == 94) (items_bytes is ++ rest))
bracket_fits (others is) rest = items_fit true is rest

abbrev pub bracket_has : Bracket → ℕ → Bool
bracket_has (these is) b = any_has is b
bracket_has (others is) b = not (any_has is b)
