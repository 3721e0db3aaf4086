-- Which pattern a text spells, as a function. What it decides is told by a law, `SpellsWithin`.
use Rattle.std.specs.Prelude.{ℕ, zero, suc, Bool, ◌&&◌, not, nat_le, List, [], ◌∷◌, length, Option, Some, None, option_map, if◌then◌else◌}
use Rattle.awk_ere.specs.definitions.Tree.{Tree, size}
use Rattle.awk_ere.specs.definitions.Tokens.{Token}
use Rattle.awk_ere.specs.definitions.Written.{Whole, nothing, whole, whole_tokens, tree_of, whole_opened}
use Rattle.awk_ere.specs.definitions.Limits.{most_opened, greatest_size, any_bad}
use Rattle.awk_ere.specs.support.Lexer.{◌>>=◌, token_at}
use Rattle.awk_ere.specs.support.Parser.{parse}

abbrev pub in_front : Token → List Token → Option (List Token)
in_front w ws = Some (w ∷ ws)

-- the tokens of a text of at most n of them
abbrev pub tokens_of : ℕ → List ℕ → Option (List Token)
tokens_of n [] = Some []
tokens_of zero (b ∷ bs) = None
tokens_of (suc n) (b ∷ bs) = token_at (b ∷ bs) >>= λ w. tokens_of n w.1 >>= in_front w.0

abbrev pub whole_of : List Token → Option Whole
whole_of [] = Some nothing
whole_of (w ∷ ws) = option_map whole (parse (w ∷ ws))

abbrev pub is_within : Whole → Bool
is_within w = not (any_bad (whole_tokens w)) && (nat_le (whole_opened w) most_opened && nat_le (size (tree_of w)) greatest_size)

abbrev pub within_limits : Whole → Option Tree
within_limits w = if is_within w then Some (tree_of w) else None

-- the pattern that a text spells within the limits, if it spells one
unfoldable pub pattern_of : List ℕ → Option Tree
pattern_of text = tokens_of (length text) text >>= whole_of >>= within_limits
