-- What the functions of matches give is the leftmost, longest match, and the matches that are replaced.
use Rattle.std.proofs.Common.{◌≡◌, ℕ, zero, suc, ◌+◌, ◌-◌, ◌≤◌, Bool, true, false, List, length, Option, Some, None, refl, sym, ap, subst, ◌∙◌, arith, inl, inr}
use Rattle.std.specs.Prelude.{◌↔◌}
use Rattle.std.proofs.lemmas.Bool.{cases_lt, cond-true, cond-false, lt-ltb, le-ltb}
use Rattle.awk_ere.specs.Tree.{Tree, Matches}
use Rattle.awk_ere.specs.definitions.Desugared.{IsOrdered}
use Rattle.awk_ere.specs.support.Found.{Longest}
use Rattle.awk_ere.proofs.StepTellsMatches.{match_within, match_le}
use Rattle.awk_text.specs.declared.span.Span.{Span}
use Rattle.awk_text.specs.definitions.Chosen.{IsMatch, IsLeftmostLongest, Follows, IsNextMatch, AreMatches, AreChosen}
use Rattle.awk_text.specs.definitions.Replaced.{Replaced, Replaces}
use Rattle.awk_text.specs.support.Search.{FindsFrom}
use Rattle.awk_text.specs.support.ChosenSeparators.{longest_end, if_full, or_later}
use Rattle.awk_text.proofs.LongestEnd.{longest_is}
use Rattle.awk_text.proofs.NextMatch.{first_match}
use Rattle.awk_text.proofs.OneReplaced.{one_result}
use Rattle.awk_semantics.specs.definitions.Texts.{span_to, find_within, find_from, find_behind, matches_from, chosen, exchanged}
use Rattle.awk_semantics.specs.support.Exchanged.{IsExchange}

abbrev span_of : ℕ → ℕ → Span
span_of i j = record { start = i; end = j }

-- there is one best

one_best : (C : Span → Type 0) (m n : Span) → IsLeftmostLongest C (Some m) → IsLeftmostLongest C (Some n) → m ≡ n
one_best C m n a b =
    let low : m.start ≤ n.start = a.1 n b.0 in
    let high : n.start ≤ m.start = b.1 m a.0 in
    let begins : m.start ≡ n.start = omega arith in
    let less : m.end ≤ n.end = b.2 m a.0 begins in
    let more : n.end ≤ m.end = a.2 n b.0 (sym begins) in
    let ends : m.end ≡ n.end = omega arith in
    ap (λ k. span_of k m.end) begins ∙ ap (λ k. span_of n.start k) ends

one_found : (C : Span → Type 0) (a b : Option Span) → IsLeftmostLongest C a → IsLeftmostLongest C b → a ≡ b
one_found C None None x y = refl
one_found C None (Some n) x y = absurd (x n y.0)
one_found C (Some m) None x y = absurd (y m x.0)
one_found C (Some m) (Some n) x y = ap Some (one_best C m n x y)

module _ (t : Tree) (s : List ℕ) where
  -- what begins here
  abbrev IsHere : ℕ → Option Span → Type 0
  IsHere place None = (m : Span) → IsMatch t s m → m.start ≡ place → ⊥
  IsHere place (Some best) = IsMatch t s best × (best.start ≡ place) × ((m : Span) → IsMatch t s m → m.start ≡ place → m.end ≤ best.end)

  from_here : (place : ℕ) (m : Span) → IsMatch t s m → m.start ≡ place → Matches s t place m.end
  from_here place m c same = subst (λ k. Matches s t k m.end) same c.1

  longest_here : (place : ℕ) (end : Option ℕ) → place ≤ length s → Longest t s place end → IsHere place (span_to place end)
  longest_here place None le none = λ m c same. none m.end (from_here place m c same)
  longest_here place (Some e) le longest = ((le, longest.0), refl, λ m c same. longest.1 m.end (from_here place m c same))

  behind : (place : ℕ) (m : Span) → (m.start ≡ place → ⊥) → place ≤ m.start → suc place ≤ m.start
  behind place m other from = elim (cases_lt place m.start) [ inl lt ↦ omega arith | inr ge ↦ absurd (other (omega arith)) ]

  first_is : (place : ℕ) (here rest : Option Span) → IsHere place here → FindsFrom t s (suc place) rest → FindsFrom t s place (or_later here rest)
  first_is place (Some best) rest h n = ((h.0, omega (arith, h.1)), λ m c. omega (arith, h.1, c.1), λ m c same. h.2 m c.0 (same ∙ h.1))
  first_is place None None h n = λ m c. n m (c.0, behind place m (h m c.0) c.1)
  first_is place None (Some best) h n = (
    (n.0.0, omega (arith, n.0.1)),
    λ m c. n.1 m (c.0, behind place m (h m c.0) c.1),
    λ m c same. n.2 m (c.0, behind place m (h m c.0) c.1) same,
  )

  found_within : IsOrdered t → (n place : ℕ) → n ≡ suc (length s) - place → FindsFrom t s place (find_within t s n place)
  found_within ordered zero place is = λ m c. omega (arith, is, c.0.0, c.1)
  found_within ordered (suc n) place is =
      let le : place ≤ length s = omega arith in
      let rest : n ≡ suc (length s) - suc place = omega arith in
      first_is place (span_to place (longest_end t s place)) (find_within t s n (suc place))
      (longest_here place (longest_end t s place) le (longest_is t s place ordered le))
      (found_within ordered n (suc place) rest)

  pub find_finds : IsOrdered t → (place : ℕ) → FindsFrom t s place (find_from t s place)
  unfolding find_from
  find_finds ordered place = found_within ordered (suc (length s) - place) place refl

  pub find_decides : IsOrdered t → (place : ℕ) (found : Option Span) → FindsFrom t s place found ↔ (found ≡ find_from t s place)
  find_decides ordered place found = (
    λ finds. one_found (λ m. IsMatch t s m × (place ≤ m.start)) found (find_from t s place) finds (find_finds ordered place),
    λ same. subst (FindsFrom t s place) (sym same) (find_finds ordered place),
  )

  first_finds : IsOrdered t → IsNextMatch t s None (find_from t s 0)
  first_finds ordered = first_match t s (find_from t s 0) (find_finds ordered 0)

  pub first_decides : IsOrdered t → (found : Option Span) → IsNextMatch t s None found ↔ (found ≡ find_from t s 0)
  first_decides ordered found = (
    λ next. one_found (λ m. IsMatch t s m × Follows None m) found (find_from t s 0) next (first_finds ordered),
    λ same. subst (IsNextMatch t s None) (sym same) (first_finds ordered),
  )

  -- where each match that begins at a place ends there, the next one begins further on
  begins_later : (end : ℕ) → ((m : Span) → IsMatch t s m → m.start ≡ end → m.end ≤ end) → (m : Span) → IsMatch t s m × Follows (Some end) m → suc end ≤ m.start
  begins_later end h m c = elim (cases_lt end m.start) [
    | inl lt ↦ omega arith
    | inr ge ↦
        let from : end ≤ m.start = c.1.0 in
        let here : m.start ≡ end = omega arith in
        let most : m.end ≤ end = h m c.0 here in
        let forward : m.start ≤ m.end = match_le s t m.start m.end c.0.1 in
        absurd (c.1.1 here (omega arith))
  ]

  next_later : (end : ℕ) (found : Option Span) → ((m : Span) → IsMatch t s m → m.start ≡ end → m.end ≤ end) → FindsFrom t s (suc end) found → IsNextMatch t s (Some end) found
  next_later end None h none = λ m c. none m (c.0, begins_later end h m c)
  next_later end (Some best) h f =
      let low : suc end ≤ best.start = f.0.1 in (
        (f.0.0, (omega arith, λ here empty. omega arith)),
        λ m c. f.1 m (c.0, begins_later end h m c),
        λ m c same. f.2 m (c.0, begins_later end h m c) same,
      )

  next_by : (end : ℕ) (longest : Option ℕ) (rest : Option Span) → end ≤ length s → Longest t s end longest → FindsFrom t s (suc end) rest → IsNextMatch t s (Some end) (or_later (if_full end longest) rest)
  next_by end None rest le none f = next_later end rest (λ m c same. absurd (none m.end (from_here end m c same))) f
  next_by end (Some e) rest le longest f = elim (cases_lt end e) [
    | inl lt ↦
        subst (λ o. IsNextMatch t s (Some end) (or_later o rest)) (sym (cond-true _ _ _ (lt-ltb end e lt)))
        (((le, longest.0), (omega arith, λ here empty. omega arith)), λ m c. c.1.0, λ m c same. longest.1 m.end (from_here end m c.0 same))
    | inr ge ↦
        subst (λ o. IsNextMatch t s (Some end) (or_later o rest)) (sym (cond-false _ _ _ (le-ltb end e ge)))
        (next_later end rest (λ m c same. let most : m.end ≤ e = longest.1 m.end (from_here end m c same) in omega arith) f)
  ]

  next_is : IsOrdered t → (end : ℕ) → end ≤ length s → IsNextMatch t s (Some end) (find_behind t s end)
  unfolding find_behind
  next_is ordered end le = next_by end (longest_end t s end) (find_from t s (suc end)) le (longest_is t s end ordered le) (find_finds ordered (suc end))

  -- behind the end of the text no match follows
  none_follows : (end : ℕ) → length s ≤ end → IsNextMatch t s (Some end) None
  none_follows end past = λ m c.
      let within : m.start ≤ length s = c.0.0 in
      let from : end ≤ m.start = c.1.0 in
      let ends : m.end ≤ length s = match_within s t m.start m.end c.0.1 c.0.0 in
      let forward : m.start ≤ m.end = match_le s t m.start m.end c.0.1 in
      c.1.1 (omega arith) (omega arith)

  -- the next match ends further on
  ends_further : (end : ℕ) (m : Span) → IsMatch t s m × Follows (Some end) m → suc end ≤ m.end
  ends_further end m c = elim (cases_lt end m.end) [
    | inl lt ↦ omega arith
    | inr ge ↦
        let from : end ≤ m.start = c.1.0 in
        let forward : m.start ≤ m.end = match_le s t m.start m.end c.0.1 in
        absurd (c.1.1 (omega arith) (omega arith))
  ]

  further : (n end : ℕ) (found : Option Span) → length s ≤ end + suc n → IsNextMatch t s (Some end) found → (m : Span) → found ≡ Some m → length s ≤ m.end + n
  further n end None le next m is = absurd (cc)
  further n end (Some best) le next m is =
      let far : suc end ≤ best.end = ends_further end best next.0 in
      let same : best ≡ m = cc in
      let ends : best.end ≡ m.end = ap (λ (k : Span). k.end) same in
      omega arith

  are_from : IsOrdered t → (n : ℕ) (before : Option ℕ) (found : Option Span) → IsNextMatch t s before found → ((m : Span) → found ≡ Some m → length s ≤ m.end + n) → AreMatches t s before (matches_from t s n found)
  are_from ordered n before None next bound = next
  are_from ordered zero before (Some m) next bound =
      let past : length s ≤ m.end + 0 = bound m refl in
      (next, none_follows m.end (omega arith))
  are_from ordered (suc n) before (Some m) next bound =
      let le : m.end ≤ length s = match_within s t m.start m.end next.0.0.1 next.0.0.0 in
      let after : IsNextMatch t s (Some m.end) (find_behind t s m.end) = next_is ordered m.end le in
      (next, are_from ordered n (Some m.end) (find_behind t s m.end) after (further n m.end (find_behind t s m.end) (bound m refl) after))

  one_chosen : (found : Option Span) → IsNextMatch t s None found → AreChosen false t s (matches_from t s 0 found)
  one_chosen None next = next
  one_chosen (Some m) next = next

  pub chosen_are : IsOrdered t → (all : Bool) → AreChosen all t s (chosen all t s)
  chosen_are ordered true = are_from ordered (length s) None (find_from t s 0) (first_finds ordered) (λ m is. omega arith)
  chosen_are ordered false = one_chosen (find_from t s 0) (first_finds ordered)

  pub exchanged_is : IsOrdered t → (all : Bool) (r : List ℕ) → Replaced t r s all (exchanged all t r s).count (exchanged all t r s).text
  unfolding exchanged
  exchanged_is ordered all r = record { matches = chosen all t s; chosen = chosen_are ordered all; counted = refl; bytes = refl }

  pub exchange_decides : IsOrdered t → (all : Bool) (r : List ℕ) (count : ℕ) (other : List ℕ) → Replaced t r s all count other ↔ ((count ≡ (exchanged all t r s).count) × (other ≡ (exchanged all t r s).text))
  exchange_decides ordered all r count other = (
    λ replaced. one_result t s r all count (exchanged all t r s).count other (exchanged all t r s).text replaced (exchanged_is ordered all r),
    λ same. subst (λ n. Replaced t r s all n other) (sym same.0) (subst (λ l. Replaced t r s all (exchanged all t r s).count l) (sym same.1) (exchanged_is ordered all r)),
  )

  pub replaces_decides : IsOrdered t → (all : Bool) (r : List ℕ) (count : Option ℕ) (other : List ℕ) → Replaces t r s all count other → IsExchange (exchanged all t r s) s count other
  replaces_decides ordered all r None other replaces = let same = (exchange_decides ordered all r 0 s).0 replaces in (sym same.0, sym same.1)
  replaces_decides ordered all r (Some n) other replaces = let same = (exchange_decides ordered all r n other).0 replaces.1 in (replaces.0, sym same.0, sym same.1)
