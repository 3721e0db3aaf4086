-- The check of a whole text, which keeps no pattern.
use Rattle.std.specs.Prelude.{◌≡◌, ℕ, zero, suc, ◌+◌, Bool, true, false, ◌&&◌, ◌||◌, not, nat_le, ◌==◌, List, Option, Some, None}
use Rattle.awk_ere.specs.declared.check.Before.{Before}
use Rattle.awk_ere.specs.declared.check.Before.TheVariants.{Nothing, Anchor, Part}
use Rattle.awk_ere.specs.declared.check.CheckState.{CheckState}
use Rattle.awk_ere.specs.declared.check.Facts.{Facts}
use Rattle.awk_ere.specs.declared.token.Repeat.TheVariants as repeats
use Rattle.awk_ere.specs.declared.token.Token.{Token}
use Rattle.awk_ere.specs.declared.token.Token.TheVariants as tokens
use Rattle.awk_ere.specs.definitions.Written.{Whole, whole_tokens, whole_opened, IsWritten}
use Rattle.awk_ere.specs.definitions.Limits.{greatest_count, any_bad, IsIllFormed}

-- ---- the tokens of the code one after another

abbrev pub place : Before → ℕ → CheckState
place before n = record { before = before; groups = n }

-- a group ends, where one is open
abbrev pub group_behind : ℕ → Option CheckState
group_behind zero = None
group_behind (suc n) = Some (place Part n)

abbrev pub close_behind : Before → ℕ → Option CheckState
close_behind Nothing n = None
close_behind Anchor n = group_behind n
close_behind Part n = group_behind n

abbrev pub bar_behind : Before → ℕ → Option CheckState
bar_behind Nothing n = None
bar_behind Anchor n = Some (place Nothing n)
bar_behind Part n = Some (place Nothing n)

abbrev pub repeat_behind : Before → ℕ → Option CheckState
repeat_behind Nothing n = None
repeat_behind Anchor n = None
repeat_behind Part n = Some (place Part n)

-- where the check stands behind a token
abbrev pub place_behind : Token → CheckState → Option CheckState
place_behind (tokens.Byte b) p = Some (place Part p.groups)
place_behind tokens.Any p = Some (place Part p.groups)
place_behind (tokens.Bracket o) p = Some (place Part p.groups)
place_behind tokens.Start p = Some (place Anchor p.groups)
place_behind tokens.End p = Some (place Anchor p.groups)
place_behind tokens.Open p = Some (place Nothing (p.groups + 1))
place_behind tokens.Close p = close_behind p.before p.groups
place_behind tokens.Bar p = bar_behind p.before p.groups
place_behind (tokens.Again r) p = repeat_behind p.before p.groups

abbrev pub ends_something : Before → Bool
ends_something Nothing = false
ends_something Anchor = true
ends_something Part = true

abbrev pub may_stop : CheckState → Bool
may_stop p = ends_something p.before && p.groups == 0

-- a count or a range is refused
abbrev pub is_bad : Token → Bool
is_bad (tokens.Byte b) = false
is_bad tokens.Any = false
is_bad (tokens.Bracket ordered) = not ordered
is_bad tokens.Start = false
is_bad tokens.End = false
is_bad tokens.Open = false
is_bad tokens.Close = false
is_bad tokens.Bar = false
is_bad (tokens.Again repeats.Star) = false
is_bad (tokens.Again repeats.Plus) = false
is_bad (tokens.Again repeats.Option) = false
is_bad (tokens.Again (repeats.Exactly m)) = not (nat_le m greatest_count)
is_bad (tokens.Again (repeats.AtLeast m)) = not (nat_le m greatest_count)
is_bad (tokens.Again (repeats.Between m n)) = not (nat_le n greatest_count) || not (nat_le m n)

-- ---- what the check says

-- the text is no pattern, or it is one, with these facts
abbrev pub Checked : List ℕ → Option Facts → Type 0
Checked text None = IsIllFormed text
Checked text (Some f) = (w : Whole) × IsWritten w text × (any_bad (whole_tokens w) ≡ f.bad) × (whole_opened w ≡ f.opened)
