-- What may be read at a place, as the code keeps it.
use Rattle.std.proofs.Common.{◌≡◌, ℕ, Bool, true, false, ◌&&◌, ◌||◌, not, List, refl, sym, ap, ◌∙◌}
use Rattle.awk_kinds.specs.Names.{has_name}
use Rattle.awk_pieces.specs.definitions.Pieceable.{tells_apart, knows as plain_knows}
use Rattle.awk_pieces.specs.support.Known.{set_known}
use Rattle.awk_pieces.proofs.Alike.{Names}
use Rattle.awk_pieces.proofs.KnownNames.{known_is}
use Rattle.awk_merging.specs.definitions.Sums.{Sum}
use Rattle.awk_merging.specs.definitions.Mergeable.{is_other, is_shown, knows, shows}

-- what was set is known alike, whatever was known before of other names
same_set : (own : Names) (xs : List (List ℕ)) (k l : Names) (z : List ℕ) → k z ≡ l z → set_known own xs k z ≡ set_known own xs l z
same_set own xs k l z same = known_is own xs k z ∙ ap (λ (b : Bool). (own z && has_name xs z) || b) same ∙ sym (known_is own xs l z)

not_set : (o h k : Bool) → o ≡ false → ((o && h) || k) ≡ k
not_set true h k e = absurd (cc)
not_set false h k e = refl

plain_own : (t o : Bool) → o ≡ true → not (t || o) ≡ false
plain_own true o e = refl
plain_own false o e = ap not e

and_own : (k o : Bool) → o ≡ true → (k && not o) ≡ false
and_own true o e = ap not e
and_own false o e = refl

and_other : (k o : Bool) → o ≡ false → (k && not o) ≡ k
and_other true o e = ap not e
and_other false o e = refl

-- a variable of the record

pub own_in_rule : (own : Names) (sums : List Sum) (xs : List (List ℕ)) (z : List ℕ) → own z ≡ true → set_known own xs (plain_knows own) z ≡ set_known own xs (knows own sums) z
own_in_rule own sums xs z is = same_set own xs (plain_knows own) (knows own sums) z (plain_own (tells_apart z) (own z) is ∙ sym (and_own (is_other sums z) (own z) is))

pub own_in_end : (own : Names) (xs : List (List ℕ)) (z : List ℕ) → own z ≡ true → set_known own xs (plain_knows own) z ≡ set_known own xs (shows own) z
own_in_end own xs z is = same_set own xs (plain_knows own) (shows own) z (plain_own (tells_apart z) (own z) is ∙ sym (and_own (is_shown z) (own z) is))

-- another one

pub other_in_rule : (own : Names) (sums : List Sum) (xs : List (List ℕ)) (z : List ℕ) → own z ≡ false → is_other sums z ≡ set_known own xs (knows own sums) z
other_in_rule own sums xs z other = sym (known_is own xs (knows own sums) z ∙ not_set (own z) (has_name xs z) (knows own sums z) other ∙ and_other (is_other sums z) (own z) other)

pub other_in_end : (own : Names) (xs : List (List ℕ)) (z : List ℕ) → own z ≡ false → is_shown z ≡ set_known own xs (shows own) z
other_in_end own xs z other = sym (known_is own xs (shows own) z ∙ not_set (own z) (has_name xs z) (shows own z) other ∙ and_other (is_shown z) (own z) other)
