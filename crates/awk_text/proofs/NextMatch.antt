-- Which match is chosen, by what a search found.
use Rattle.std.proofs.Common.{◌≡◌, ℕ, ◌+◌, ◌<◌, ◌≤◌, List, length, Option, Some, None, refl, subst, arith, inl, inr}
use Rattle.std.specs.Prelude.{IfSome}
use Rattle.std.proofs.lemmas.Bool.{cases_lt}
use Rattle.awk_ere.specs.definitions.Tree.{Tree, Matches, Finds}
use Rattle.awk_text.specs.declared.span.Span.{Span}
use Rattle.awk_text.specs.definitions.Pieces.{IsSpanOf}
use Rattle.awk_text.specs.definitions.Chosen.{IsMatch, Follows, IsNextMatch}
use Rattle.awk_text.specs.support.Search.{FindsFrom, IsLongest, LiesBehind}
use Rattle.awk_text.proofs.MatchesStay.{match_stays}

pub lies_within : (place : ℕ) (s : List ℕ) (found : Option Span) → IfSome found (LiesBehind place s) → IfSome found (IsSpanOf s)
lies_within place s None lies = lies
lies_within place s (Some m) lies = (lies.order, lies.within)

module _ (t : Tree) (s : List ℕ) where
  pub search_nothing : (from : ℕ) → Finds t s from None → FindsFrom t s from None
  search_nothing from none m c = none m.start m.end c.1 c.0.0 c.0.1

  pub search_found : (from i j : ℕ) → Finds t s from (Some (i, j)) → FindsFrom t s from (Some (record { start = i; end = j }))
  search_found from i j f = (
    ((f.1, f.3), f.0),
    λ m c. elim (cases_lt m.start i) [ inl lt ↦ absurd (f.2 m.start m.end c.1 lt c.0.1) | inr ge ↦ ge ],
    λ m c same. f.4 m.end (subst (λ k. Matches s t k m.end) same c.0.1),
  )

  pub first_match : (found : Option Span) → FindsFrom t s 0 found → IsNextMatch t s None found
  first_match None none = λ m c. none m (c.0, omega arith)
  first_match (Some best) f = ((f.0.0, tt), λ m c. f.1 m (c.0, omega arith), λ m c same. f.2 m (c.0, omega arith) same)

  pub next_none : (end : ℕ) → FindsFrom t s end None → IsNextMatch t s (Some end) None
  next_none end none m c = none m (c.0, c.1.0)

  pub next_found : (end : ℕ) (best : Span) → FindsFrom t s end (Some best) → end < best.end → IsNextMatch t s (Some end) (Some best)
  next_found end best f lt =
      ((f.0.0, (f.0.1, λ here empty. omega arith)), λ m c. f.1 m (c.0, c.1.0), λ m c same. f.2 m (c.0, c.1.0) same)

  -- where the best is the empty one at `end`, the next begins behind it
  begins_behind : (end : ℕ) (best : Span) → FindsFrom t s end (Some best) → best.end ≤ end → (m : Span) → IsMatch t s m × Follows (Some end) m → end + 1 ≤ m.start
  begins_behind end best f le m c = elim (cases_lt end m.start) [
    | inl lt ↦ omega arith
    | inr ge ↦
        let from : end ≤ m.start = c.1.0 in
        let low : end ≤ best.start = f.0.1 in
        let order = (match_stays s t best.start best.end f.0.0.1 f.0.0.0).0 in
        let forward = (match_stays s t m.start m.end c.0.1 c.0.0).0 in
        let same : m.start ≡ best.start = omega arith in
        let most : m.end ≤ best.end = f.2 m (c.0, c.1.0) same in
        let here : m.start ≡ end = omega arith in
        let empty : m.end ≡ end = omega arith in
        absurd (c.1.1 here empty)
  ]

  pub next_behind : (end : ℕ) (best : Span) → FindsFrom t s end (Some best) → best.end ≤ end → (r : Option Span) → FindsFrom t s (end + 1) r → IsNextMatch t s (Some end) r
  next_behind end best f le None later = λ m c. later m (c.0, begins_behind end best f le m c)
  next_behind end best f le (Some n) later =
      let low : end + 1 ≤ n.start = later.0.1 in (
        (later.0.0, (omega arith, λ here empty. omega arith)),
        λ m c. later.1 m (c.0, begins_behind end best f le m c),
        λ m c same. later.2 m (c.0, begins_behind end best f le m c) same,
      )

  -- the one that is chosen is the longest that begins there
  pub first_longest : (best : Span) → IsNextMatch t s None (Some best) → IsLongest t s best
  first_longest best f end m = f.2 (record { start = best.start; end = end }) ((f.0.0.0, m), tt) refl

  pub next_longest : (before : ℕ) (best : Span) → before < best.end → IsNextMatch t s (Some before) (Some best) → IsLongest t s best
  next_longest before best past f end m = elim (cases_lt best.end end) [
    | inl lt ↦ f.2 (record { start = best.start; end = end }) ((f.0.0.0, m), (f.0.1.0, λ here same. omega arith)) refl
    | inr ge ↦ ge
  ]

  -- behind an empty match that is the longest the next begins further on
  past_empty : (last : Span) → last.start ≡ last.end → IsLongest t s last → (m : Span) → IsMatch t s m × Follows (Some last.end) m → last.end + 1 ≤ m.start
  past_empty last empty longest m c = elim (cases_lt last.end m.start) [
    | inl lt ↦ omega arith
    | inr ge ↦
        let from : last.end ≤ m.start = c.1.0 in
        let here : m.start ≡ last.end = omega arith in
        let same : m.start ≡ last.start = omega arith in
        let most = longest m.end (subst (λ k. Matches s t k m.end) same c.0.1) in
        let forward = (match_stays s t m.start m.end c.0.1 c.0.0).0 in
        absurd (c.1.1 here (omega arith))
  ]

  pub next_past_empty : (last : Span) → last.start ≡ last.end → IsLongest t s last → (r : Option Span) → FindsFrom t s (last.end + 1) r → IsNextMatch t s (Some last.end) r
  next_past_empty last empty longest None later = λ m c. later m (c.0, past_empty last empty longest m c)
  next_past_empty last empty longest (Some n) later =
      let low : last.end + 1 ≤ n.start = later.0.1 in (
        (later.0.0, (omega arith, λ here same. omega arith)),
        λ m c. later.1 m (c.0, past_empty last empty longest m c),
        λ m c same. later.2 m (c.0, past_empty last empty longest m c) same,
      )

  -- nothing begins behind the text
  pub nothing_behind : (end : ℕ) → length s ≤ end → FindsFrom t s (end + 1) None
  nothing_behind end past m c =
      let within : m.start ≤ length s = c.0.0 in
      let behind : end + 1 ≤ m.start = c.1 in
      omega arith
