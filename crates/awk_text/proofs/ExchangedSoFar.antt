-- Replacing: whatever matches are chosen from here, what is written and theirs are the whole.
use Rattle.std.proofs.Common.{◌≡◌, ℕ, ◌+◌, List, [], ◌∷◌, ◌++◌, length, drop, Some, None, Bool, true, false, refl, ap, ◌∙◌, arith, append_assoc}
use Rattle.std.specs.Prelude.{slice_range}
use Rattle.std.proofs.lemmas.List.{take_rest}
use Rattle.awk_ere.specs.definitions.Tree.{Tree}
use Rattle.awk_text.specs.declared.span.Span.{Span}
use Rattle.awk_text.specs.definitions.Pieces.{stretch_at}
use Rattle.awk_text.specs.definitions.Chosen.{IsNextMatch, AreMatches}
use Rattle.awk_text.specs.definitions.Replaced.{replaced_from, Replaced}
use Rattle.awk_text.specs.definitions.Replacement.{replacement_for}

-- what is added for a match
abbrev pub added : (replacement text : List ℕ) (place : ℕ) → Span → List ℕ
added replacement text place m = slice_range text place m.start ++ replacement_for replacement (stretch_at text m)

module _ (t : Tree) (r s : List ℕ) where
  abbrev pub Exchanged : List ℕ → ℕ → ℕ → Type 0
  Exchanged out count end = (ms : List Span) → AreMatches t s (Some end) ms →
      (all : List Span) × AreMatches t s None all × (out ++ replaced_from r s end ms ≡ replaced_from r s 0 all) × (count + length ms ≡ length all)

  regroup : (out a b c : List ℕ) → (out ++ (a ++ b)) ++ c ≡ out ++ (a ++ (b ++ c))
  regroup out a b c = append_assoc out (a ++ b) c ∙ ap (λ l. out ++ l) (append_assoc a b c)

  pub exchanged_first : (out : List ℕ) (m : Span) → IsNextMatch t s None (Some m) → out ≡ [] ++ added r s 0 m → Exchanged out 1 m.end
  exchanged_first out m first e ms are = (
    m ∷ ms,
    (first, are),
    ap (λ o. o ++ replaced_from r s m.end ms) e ∙ regroup [] (slice_range s 0 m.start) (replacement_for r (stretch_at s m)) (replaced_from r s m.end ms),
    omega arith,
  )

  pub exchanged_more : (out more : List ℕ) (count end : ℕ) (m : Span) → IsNextMatch t s (Some end) (Some m) → more ≡ out ++ added r s end m → Exchanged out count end → Exchanged more (count + 1) m.end
  exchanged_more out more count end m next e so_far ms are =
      let whole = so_far (m ∷ ms) (next, are) in
      let n = whole.3 in (
        whole.0,
        whole.1,
        ap (λ o. o ++ replaced_from r s m.end ms) e ∙ (regroup out (slice_range s end m.start) (replacement_for r (stretch_at s m)) (replaced_from r s m.end ms) ∙ whole.2),
        omega arith,
      )

  pub exchanged_end : (out more : List ℕ) (count end : ℕ) → IsNextMatch t s (Some end) None → more ≡ out ++ slice_range s end (length s) → Exchanged out count end → Replaced t r s true count more
  exchanged_end out more count end none e so_far =
      let whole = so_far [] none in
      let n = whole.3 in
      record { matches = whole.0; chosen = whole.1; counted = omega arith; bytes = e ∙ (ap (λ l. out ++ l) (take_rest s end) ∙ whole.2) }

  pub first_exchanged : (out more : List ℕ) (m : Span) → IsNextMatch t s None (Some m) → out ≡ [] ++ added r s 0 m → more ≡ out ++ slice_range s m.end (length s) → Replaced t r s false 1 more
  first_exchanged out more m first e f =
      record { matches = m ∷ []; chosen = first; counted = refl; bytes = f ∙ (ap (λ l. out ++ l) (take_rest s m.end) ∙ (ap (λ o. o ++ drop m.end s) e ∙ regroup [] (slice_range s 0 m.start) (replacement_for r (stretch_at s m)) (drop m.end s))) }

  pub nothing_exchanged : (all : Bool) → IsNextMatch t s None None → Replaced t r s all 0 s
  nothing_exchanged true none = record { matches = []; chosen = none; counted = refl; bytes = refl }
  nothing_exchanged false none = record { matches = []; chosen = none; counted = refl; bytes = refl }
