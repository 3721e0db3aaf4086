-- The separators that an ERE chooses are decided, and there is one choice of them.
use Rattle.std.proofs.Common.{◌≡◌, ℕ, zero, suc, ◌+◌, ◌-◌, ◌≤◌, List, [], ◌∷◌, length, Option, Some, None, refl, sym, ap, subst, ◌∙◌, arith, inl, inr}
use Rattle.std.specs.Prelude.{◌↔◌}
use Rattle.std.proofs.lemmas.Bool.{cases_lt, cond-true, cond-false, lt-ltb, le-ltb}
use Rattle.awk_ere.specs.definitions.Tree.{Tree, Matches}
use Rattle.awk_ere.specs.definitions.Desugared.{IsOrdered}
use Rattle.awk_ere.specs.support.Found.{Longest}
use Rattle.awk_ere.proofs.StepTellsMatches.{match_within}
use Rattle.awk_text.specs.declared.span.Span.{Span}
use Rattle.awk_text.specs.definitions.Separators.{IsCandidate, IsNextSeparator, AreSeparators}
use Rattle.awk_text.specs.support.ChosenSeparators.{longest_end, if_full, or_later, first_full, next_separator, place_behind, onto_found, separators_within, separators_from}
use Rattle.awk_text.proofs.LongestEnd.{longest_is}

abbrev span_of : ℕ → ℕ → Span
span_of i j = record { start = i; end = j }

module _ (t : Tree) (s : List ℕ) where
  -- what begins here, or what begins behind this place
  abbrev IsHere : ℕ → Option Span → Type 0
  IsHere place None = (m : Span) → IsCandidate t s place m → m.start ≡ place → ⊥
  IsHere place (Some best) =
      IsCandidate t s place best × (best.start ≡ place) × ((m : Span) → IsCandidate t s place m → m.start ≡ place → m.end ≤ best.end)

  from_here : (place : ℕ) (m : Span) → IsCandidate t s place m → m.start ≡ place → Matches s t place m.end
  from_here place m c same = subst (λ k. Matches s t k m.end) same c.matches

  full_here : (place : ℕ) (end : Option ℕ) → place ≤ length s → ((j : ℕ) → Matches s t place j → j ≤ length s) → Longest t s place end → IsHere place (if_full place end)
  full_here place None le within none = λ m c same. none m.end (from_here place m c same)
  full_here place (Some e) le within longest = elim (cases_lt place e) [
    | inl lt ↦
        subst (IsHere place) (sym (cond-true _ _ _ (lt-ltb place e lt)))
        (record { behind = omega arith; full = lt; within = within e longest.0; matches = longest.0 }, refl, λ m c same. longest.1 m.end (from_here place m c same))
    | inr ge ↦
        subst (IsHere place) (sym (cond-false _ _ _ (le-ltb place e ge)))
        (λ m c same. let high = longest.1 m.end (from_here place m c same) in let full = c.full in absurd (omega (arith, high, full, same)))
  ]

  later : (place : ℕ) (m : Span) → IsCandidate t s (suc place) m → IsCandidate t s place m
  later place m c = let behind = c.behind in record { behind = omega arith; full = c.full; within = c.within; matches = c.matches }

  behind : (place : ℕ) (m : Span) → IsCandidate t s place m → (m.start ≡ place → ⊥) → IsCandidate t s (suc place) m
  behind place m c other = let from = c.behind in record { behind = elim (cases_lt place m.start) [ inl lt ↦ omega arith | inr ge ↦ absurd (other (omega arith)) ]; full = c.full; within = c.within; matches = c.matches }

  first_is : (place : ℕ) (here rest : Option Span) → IsHere place here → IsNextSeparator t s (suc place) rest → IsNextSeparator t s place (or_later here rest)
  first_is place (Some best) rest h n =
      (h.0, λ m c. let from = c.behind in omega (arith, h.1, from), λ m c same. h.2 m c (same ∙ h.1))
  first_is place None None h n = λ m c. n m (behind place m c (h m c))
  first_is place None (Some best) h n =
      (later place best n.0, λ m c. n.1 m (behind place m c (h m c)), λ m c same. n.2 m (behind place m c (h m c)) same)

  none_left : (place : ℕ) → length s ≤ place → IsNextSeparator t s place None
  none_left place past m c = let from = c.behind in let full = c.full in let within = c.within in omega (arith, past, from, full, within)

  -- it is found by trying one place after another
  first_found : IsOrdered t → (n place : ℕ) → n ≡ length s - place → IsNextSeparator t s place (first_full t s n place)
  first_found ordered zero place is = none_left place (omega arith)
  first_found ordered (suc n) place is =
      let le : place ≤ length s = omega arith in
      let rest : n ≡ length s - suc place = omega arith in
      first_is place (if_full place (longest_end t s place)) (first_full t s n (suc place))
      (full_here place (longest_end t s place) le (λ j m. match_within s t place j m le) (longest_is t s place ordered le))
      (first_found ordered n (suc place) rest)

  pub next_is : IsOrdered t → (place : ℕ) → IsNextSeparator t s place (next_separator t s place)
  unfolding next_separator
  next_is ordered place = first_found ordered (length s - place) place refl

  onto_next : (place : ℕ) (found : Option Span) (ms : List Span) → IsNextSeparator t s place found → ((m : Span) → found ≡ Some m → AreSeparators t s m.end ms) → AreSeparators t s place (onto_found found ms)
  onto_next place None ms next rest = next
  onto_next place (Some m) ms next rest = (next, rest m refl)

  further : (n place : ℕ) (found : Option Span) (m : Span) → length s ≤ place + suc n → IsNextSeparator t s place found → found ≡ Some m → length s ≤ place_behind place found + n
  further n place None m le next is = cc
  further n place (Some best) m le next is = let from = next.0.behind in let full = next.0.full in omega (arith, le, from, full)

  behind_found : (place : ℕ) (found : Option Span) (m : Span) → found ≡ Some m → place_behind place found ≡ m.end
  behind_found place found m is = ap (place_behind place) is

  are_within : IsOrdered t → (n place : ℕ) → length s ≤ place + n → AreSeparators t s place (separators_within t s n place)
  are_within ordered zero place le = none_left place (omega arith)
  are_within ordered (suc n) place le =
      let found : Option Span = next_separator t s place in
      let next : IsNextSeparator t s place (next_separator t s place) = next_is ordered place in
      onto_next place (next_separator t s place) (separators_within t s n (place_behind place (next_separator t s place))) next
      (λ m is. subst (λ k. AreSeparators t s k (separators_within t s n (place_behind place (next_separator t s place)))) (behind_found place (next_separator t s place) m is)
      (are_within ordered n (place_behind place (next_separator t s place)) (further n place (next_separator t s place) m le next is)))

  pub are_from : IsOrdered t → (place : ℕ) → AreSeparators t s place (separators_from t s place)
  unfolding separators_from
  are_from ordered place = are_within ordered (length s) place (omega arith)

  one_next : (place : ℕ) (m n : Span) → IsNextSeparator t s place (Some m) → IsNextSeparator t s place (Some n) → m ≡ n
  one_next place m n a b =
      let low : m.start ≤ n.start = a.1 n b.0 in
      let high : n.start ≤ m.start = b.1 m a.0 in
      let begins : m.start ≡ n.start = omega arith in
      let less : m.end ≤ n.end = b.2 m a.0 begins in
      let more : n.end ≤ m.end = a.2 n b.0 (sym begins) in
      let ends : m.end ≡ n.end = omega arith in
      ap (λ k. span_of k m.end) begins ∙ ap (λ k. span_of n.start k) ends

  pub one_choice : (place : ℕ) (ms ns : List Span) → AreSeparators t s place ms → AreSeparators t s place ns → ms ≡ ns
  one_choice place [] [] a b = refl
  one_choice place [] (n ∷ ns) a b = absurd (a n b.0.0)
  one_choice place (m ∷ ms) [] a b = absurd (b m a.0.0)
  one_choice place (m ∷ ms) (n ∷ ns) a b =
      let same = one_next place m n a.0 b.0 in
      let rest = one_choice m.end ms ns a.1 (subst (λ (k : Span). AreSeparators t s k.end ns) (sym same) b.1) in
      ap (λ k. k ∷ ms) same ∙ ap (λ ks. n ∷ ks) rest

  pub decides : (place : ℕ) (ms : List Span) → IsOrdered t → AreSeparators t s place ms ↔ (ms ≡ separators_from t s place)
  decides place ms ordered = (
    λ are. one_choice place ms (separators_from t s place) are (are_from ordered place),
    λ same. subst (AreSeparators t s place) (sym same) (are_from ordered place),
  )

  -- the first of them, and those behind it
  pub from_found : IsOrdered t → (place : ℕ) (m : Span) → IsNextSeparator t s place (Some m) → separators_from t s place ≡ m ∷ separators_from t s m.end
  from_found ordered place m next =
      one_choice place (separators_from t s place) (m ∷ separators_from t s m.end) (are_from ordered place) (next, are_from ordered m.end)

  pub from_nothing : IsOrdered t → (place : ℕ) → IsNextSeparator t s place None → separators_from t s place ≡ []
  from_nothing ordered place none = one_choice place (separators_from t s place) [] (are_from ordered place) none
