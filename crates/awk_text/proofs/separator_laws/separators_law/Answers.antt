use Rattle.std.proofs.Common.{◌≡◌, ℕ, Bool, true, false, if◌then◌else◌, ◌==◌, List, [], ◌∷◌, Option, Some, None, Ok}
use Rattle.awk_ere.specs.definitions.Tree.{Tree}
use Rattle.awk_ere.specs.definitions.Desugared.{IsOrdered}
use Rattle.awk_ere.specs.definitions.Means.{pattern_of}
use Rattle.awk_ere.proofs.PatternDecided.{pattern_ordered}
use Rattle.awk_text.specs.definitions.Separators.{Separator, blanks, byte, ere, ere_or_refused, separator_of, or_newline}
use Rattle.awk_text.proofs.ChosenSeparators.{decides}
use Rattle.awk_text.proofs.separator_laws.separators_law.Goals as goal

spelled : (o : Option Tree) (t : Tree) → ere_or_refused o ≡ Ok (ere t) → o ≡ Some t
spelled None t e = absurd (cc)
spelled (Some u) t e = cc

no_ere : (b : ℕ) (is_blank : Bool) (t : Tree) → (if is_blank then blanks else byte b) ≡ ere t → ⊥
no_ere b true t e = cc
no_ere b false t e = cc

of_value : (text : List ℕ) (t : Tree) → separator_of text ≡ Ok (ere t) → IsOrdered t
of_value [] t e = absurd (cc)
of_value (b ∷ []) t e = absurd (no_ere b (b == 32) t (cc))
of_value (b ∷ c ∷ text) t e = pattern_ordered (b ∷ c ∷ text) t (spelled (pattern_of (b ∷ c ∷ text)) t e)

with_newline : (newline_too : Bool) (t : Tree) → IsOrdered t → IsOrdered (or_newline newline_too t)
with_newline false t h = h
with_newline true t h = (h, (tt, tt))

pub returns : goal.returns
returns c = record {
  decided = λ t text place ms ordered. decides t text place ms ordered;
  ordered = λ text newline_too t e. with_newline newline_too t (of_value text t e);
}
