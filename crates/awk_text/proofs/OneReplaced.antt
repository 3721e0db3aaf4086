-- The chosen matches are the only ones.
use Rattle.std.proofs.Common.{◌≡◌, ℕ, ◌≤◌, List, [], ◌∷◌, length, Option, Some, None, Bool, true, false, refl, sym, ap, ◌∙◌, subst, arith}
use Rattle.awk_ere.specs.definitions.Tree.{Tree}
use Rattle.awk_text.specs.declared.span.Span.{Span}
use Rattle.awk_text.specs.definitions.Chosen.{IsMatch, IsLeftmostLongest, Follows, AreMatches, AreChosen}
use Rattle.awk_text.specs.definitions.Replaced.{replaced_from, Replaced}

abbrev span_of : ℕ → ℕ → Span
span_of i j = record { start = i; end = j }

one_best : (C : Span → Type 0) (m n : Span) → IsLeftmostLongest C (Some m) → IsLeftmostLongest C (Some n) → m ≡ n
one_best C m n a b =
    let low : m.start ≤ n.start = a.1 n b.0 in
    let high : n.start ≤ m.start = b.1 m a.0 in
    let begins : m.start ≡ n.start = omega arith in
    let less : m.end ≤ n.end = b.2 m a.0 begins in
    let more : n.end ≤ m.end = a.2 n b.0 (sym begins) in
    let ends : m.end ≡ n.end = omega arith in
    ap (λ k. span_of k m.end) begins ∙ ap (λ k. span_of n.start k) ends

module _ (t : Tree) (s : List ℕ) where
  one_list : (before : Option ℕ) (ms ns : List Span) → AreMatches t s before ms → AreMatches t s before ns → ms ≡ ns
  one_list before [] [] a b = refl
  one_list before [] (n ∷ ns) a b = absurd (a n b.0.0)
  one_list before (m ∷ ms) [] a b = absurd (b m a.0.0)
  one_list before (m ∷ ms) (n ∷ ns) a b =
      let same = one_best (λ k. IsMatch t s k × Follows before k) m n a.0 b.0 in
      let rest = one_list (Some m.end) ms ns a.1 (subst (λ (k : Span). AreMatches t s (Some k.end) ns) (sym same) b.1) in
      ap (λ k. k ∷ ms) same ∙ ap (λ ks. n ∷ ks) rest

  one_choice : (all : Bool) (ms ns : List Span) → AreChosen all t s ms → AreChosen all t s ns → ms ≡ ns
  one_choice true ms ns a b = one_list None ms ns a b
  one_choice false [] [] a b = refl
  one_choice false [] (n ∷ []) a b = absurd (a n b.0)
  one_choice false (m ∷ []) [] a b = absurd (b m a.0)
  one_choice false (m ∷ []) (n ∷ []) a b = ap (λ k. k ∷ []) (one_best (λ k. IsMatch t s k × Follows None k) m n a b)
  one_choice false [] (n ∷ k ∷ ns) a b = absurd b
  one_choice false (m ∷ []) (n ∷ k ∷ ns) a b = absurd b
  one_choice false (m ∷ k ∷ ms) ns a b = absurd a

  pub one_result : (r : List ℕ) (all : Bool) (m n : ℕ) (one other : List ℕ) → Replaced t r s all m one → Replaced t r s all n other → (m ≡ n) × (one ≡ other)
  one_result r all m n one other a b =
      let same = one_choice all a.matches b.matches a.chosen b.chosen in (
        a.counted ∙ (ap length same ∙ sym b.counted),
        a.bytes ∙ (ap (replaced_from r s 0) same ∙ sym b.bytes),
      )
