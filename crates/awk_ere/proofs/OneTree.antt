-- A text spells one pattern.
use Rattle.std.proofs.Common.{◌≡◌, ℕ, List, [], refl, sym, ap, ◌∙◌}
use Rattle.std.proofs.lemmas.Option.{same_Some, none-some}
use Rattle.awk_ere.specs.definitions.Tree.{Tree}
use Rattle.awk_ere.specs.definitions.Written.{Pattern, tokens, Whole, nothing, whole, whole_tokens, tree_of, Spells}
use Rattle.awk_ere.specs.support.Parser.{parse}
use Rattle.awk_ere.proofs.ParseRoundTrip.{parse_tokens}
use Rattle.awk_ere.proofs.TokenRoundTrip.{one_spelling}

some_tokens : (p : Pattern) → [] ≡ tokens p → ⊥
some_tokens p e = none-some p (ap parse e ∙ parse_tokens p)

pub one_whole : (w v : Whole) → whole_tokens w ≡ whole_tokens v → w ≡ v
one_whole nothing nothing e = refl
one_whole nothing (whole q) e = absurd (some_tokens q e)
one_whole (whole p) nothing e = absurd (some_tokens p (sym e))
one_whole (whole p) (whole q) e = ap whole (same_Some p q (sym (parse_tokens p) ∙ ap parse e ∙ parse_tokens q))

pub one_pattern : (text : List ℕ) (t u : Tree) → Spells t text → Spells u text → t ≡ u
one_pattern text t u h k =
    sym h.2 ∙ ap tree_of (one_whole h.0 k.0 (one_spelling (whole_tokens h.0) (whole_tokens k.0) text h.1 k.1)) ∙ k.2
