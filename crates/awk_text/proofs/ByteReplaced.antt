-- The matches of a pattern that matches one byte alone.
use Rattle.std.proofs.Common.{◌≡◌, ℕ, suc, ◌+◌, ◌-◌, ◌<◌, ◌≤◌, List, [], ◌∷◌, length, drop, get_or, Option, Some, None, refl, sym, ap, ◌∙◌, arith, inl, inr}
use Rattle.std.proofs.lemmas.Bool.{cases_lt, eq-eqb, eqb-true}
use Rattle.std.proofs.lemmas.List.{get_or-drop, length-drop}
use Rattle.std.proofs.lemmas.Option.{get_or_from_slice_get, slice_get-get_or, slice_get_within}
use Rattle.std.specs.Prelude.{slice_get, true}
use Rattle.memchr.specs.Find.{IsFirstByte, is_byte}
use Rattle.awk_ere.specs.definitions.Tree.{Tree, Matches}
use Rattle.awk_text.specs.declared.span.Span.{Span}
use Rattle.awk_text.specs.definitions.Chosen.{IsMatch, Follows, IsNextMatch, AreMatches}
use Rattle.awk_ere.specs.support.Found.{IsOneByte}
use Rattle.awk_text.proofs.ExchangedSoFar.{Exchanged}

module _ (t : Tree) (byte : ℕ) (one : IsOneByte t byte) (s : List ℕ) where
  -- behind a place nothing else is asked of a match than that it begins there or further on
  follows : (place : ℕ) (m : Span) → IsMatch t s m → place ≤ m.start → Follows (Some place) m
  follows place m is low = (low, λ here empty. let end : m.end ≡ suc m.start = ((one s m.start m.end).0 is.1).1 in omega arith)

  first_as_next : (found : Option Span) → IsNextMatch t s (Some 0) found → IsNextMatch t s None found
  first_as_next None next = λ m c. next m (c.0, follows 0 m c.0 (omega arith))
  first_as_next (Some best) next = (
    (next.0.0, tt),
    λ m c. next.1 m (c.0, follows 0 m c.0 (omega arith)),
    λ m c same. next.2 m (c.0, follows 0 m c.0 (omega arith)) same,
  )

  from_front : (ms : List Span) → AreMatches t s (Some 0) ms → AreMatches t s None ms
  from_front [] next = first_as_next None next
  from_front (m ∷ ms) are = (first_as_next (Some m) are.0, are.1)

  -- nothing is replaced yet
  pub exchanged_nothing : (r : List ℕ) → Exchanged t r s [] 0 0
  exchanged_nothing r ms are = (ms, from_front ms are, refl, omega arith)

  reads : (place i : ℕ) → place ≤ i → get_or (drop place s) (i - place) 0 ≡ get_or s i 0
  reads place i low = let sum : place + (i - place) ≡ i = omega arith in get_or-drop place s (i - place) 0 ∙ ap (λ k. get_or s k 0) sum

  -- at a match the byte stands
  byte_at : (place : ℕ) (m : Span) → IsMatch t s m → place ≤ m.start → (m.start < length s) × (is_byte byte (get_or (drop place s) (m.start - place) 0) ≡ true)
  byte_at place m is low =
      let there = (one s m.start m.end).0 is.1 in (
        slice_get_within s m.start byte there.0,
        eq-eqb _ _ (reads place m.start low ∙ get_or_from_slice_get s m.start byte 0 there.0),
      )

  -- the first place of the byte is the next match
  pub next_byte : (place len : ℕ) → place ≤ length s → IsFirstByte (is_byte byte) (drop place s) (Some len) → IsNextMatch t s (Some place) (Some (record { start = place + len; end = place + len + 1 }))
  next_byte place len le found =
      let start = place + len in
      let size : length (drop place s) ≡ length s - place = length-drop place s in
      let lt : len < length (drop place s) = found.0.high in
      let within : start < length s = omega arith in
      let is : get_or s start 0 ≡ byte = sym (get_or-drop place s len 0) ∙ eqb-true (get_or (drop place s) len 0) byte found.1 in
      let here : slice_get s start ≡ Some byte = slice_get-get_or s start 0 within ∙ ap (λ (x : ℕ). Some x) is in
      let matches : Matches s t start (start + 1) = (one s start (start + 1)).1 (here, omega arith) in
      let m : Span = record { start = start; end = start + 1 } in (
        ((omega arith, matches), follows place m (omega arith, matches) (omega arith)),
        λ other c. elim (cases_lt other.start start) as (λ _. start ≤ other.start) [
          | inl less ↦
              let low : place ≤ other.start = c.1.0 in
              let stands = byte_at place other c.0 low in
              absurd (found.0.before (other.start - place) (omega arith) (omega arith) stands.1)
          | inr ge ↦ ge
        ],
        λ other c same. let end : other.end ≡ suc other.start = ((one s other.start other.end).0 c.0.1).1 in omega arith,
      )

  -- where it stands no more there is none
  pub no_byte : (place : ℕ) → place ≤ length s → IsFirstByte (is_byte byte) (drop place s) None → IsNextMatch t s (Some place) None
  no_byte place le none m c =
      let size : length (drop place s) ≡ length s - place = length-drop place s in
      let low : place ≤ m.start = c.1.0 in
      let stands = byte_at place m c.0 low in
      let within : m.start < length s = stands.0 in
      none (m.start - place) (omega arith) (omega arith) stands.1
