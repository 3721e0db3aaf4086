-- Which of all openings of outputs is meant.
use Rattle.std.proofs.Common.{◌≡◌, ◌<◌, ◌+◌, inl, inr, ℕ, zero, suc, List, [], ◌∷◌, ◌++◌, length, Some, None, refl, sym, ◌∙◌, ap, arith}
use Rattle.std.proofs.lemmas.Bool.{cond-true, cond-false, ne_eqb, eq-eqb, cases_eq}
use Rattle.std.proofs.lemmas.Option.{same_Some}
use Rattle.std.proofs.Math.Numerals.{add-one}
use Rattle.std.proofs.lemmas.List.{length-append}
use Rattle.awk_world.specs.declared.world.InputKind.{InputKind}
use Rattle.awk_world.specs.declared.world.OutputKind.{OutputKind}
use Rattle.awk_world.specs.definitions.Log.{Event, OpenedInput, OpenedOutput, Read, Ended, Broke, Wrote, Flushed, Closed, Ran}
use Rattle.awk_world.specs.definitions.Oracle.{AnInput, AnOutput, standing}
use Rattle.awk_world.specs.definitions.Orderly.{IsOrderly}
use Rattle.awk_world.specs.definitions.Openings.{Opening, openings, receives, in_order}
use Rattle.awk_streams.specs.definitions.Named.{with_bytes}
use Rattle.awk_streams.specs.definitions.Streams.{with_held, place_of}
use Rattle.awk_streams.proofs.HeldLemmas.{place-receives, length-receives}

no_element : {T : Type 0} {P : Type 0} (x : T) → None ≡ Some x → P
no_element x e = cc

pub length-in_order : (os : List (ℕ × Opening)) → length (in_order os) ≡ length os
length-in_order [] = refl
length-in_order ((i, o) ∷ older) = length-append (in_order older) (o ∷ []) ∙ (ap (λ n. n + 1) (length-in_order older) ∙ add-one (length older))

pub place_within : (id n : ℕ) (os : List (ℕ × Opening)) → place_of id os ≡ Some n → n < length os
place_within id n [] is = no_element n is
place_within id n ((i, o) ∷ older) is = elim (cases_eq i id) [
  | inl same ↦
      let here : length older ≡ n = same_Some (length older) n (sym (cond-true _ _ _ (eq-eqb i id same)) ∙ is) in
      omega (arith, here)
  | inr differs ↦
      let there : n < length older = place_within id n older (sym (cond-false _ _ _ (ne_eqb i id differs)) ∙ is) in
      omega (arith, there)
]

bytes_last : (n : ℕ) (bytes : List ℕ) (xs : List Opening) (o : Opening) → n ≡ length xs → with_bytes n bytes (xs ++ o ∷ []) ≡ xs ++ record { output = o.output; bytes = o.bytes ++ bytes } ∷ []
bytes_last zero bytes [] o is = refl
bytes_last (suc n) bytes [] o is = absurd (omega (arith, is))
bytes_last zero bytes (x ∷ xs) o is = absurd (omega (arith, is))
bytes_last (suc n) bytes (x ∷ xs) o is = ap (λ l. x ∷ l) (bytes_last n bytes xs o (omega (arith, is)))

bytes_before : (n : ℕ) (bytes : List ℕ) (xs : List Opening) (o : Opening) → n < length xs → with_bytes n bytes (xs ++ o ∷ []) ≡ with_bytes n bytes xs ++ o ∷ []
bytes_before n bytes [] o lt = absurd (omega (arith, lt))
bytes_before zero bytes (x ∷ xs) o lt = refl
bytes_before (suc n) bytes (x ∷ xs) o lt = ap (λ l. x ∷ l) (bytes_before n bytes xs o (omega (arith, lt)))

-- the opening under a number receives bytes: the one of its place does
pub in_order-receives : (id n : ℕ) (bytes : List ℕ) (os : List (ℕ × Opening)) → place_of id os ≡ Some n → in_order (receives id bytes os) ≡ with_bytes n bytes (in_order os)
in_order-receives id n bytes [] is = no_element n is
in_order-receives id n bytes ((i, o) ∷ older) is = elim (cases_eq i id) [
  | inl same ↦
      let here : length older ≡ n = same_Some (length older) n (sym (cond-true _ _ _ (eq-eqb i id same)) ∙ is) in
      ap in_order (cond-true _ _ _ (eq-eqb i id same)) ∙ sym (bytes_last n bytes (in_order older) o (sym here ∙ sym (length-in_order older)))
  | inr differs ↦
      let there : place_of id older ≡ Some n = sym (cond-false _ _ _ (ne_eqb i id differs)) ∙ is in
      let lt : n < length (in_order older) = omega (arith, place_within id n older there, length-in_order older) in
      ap in_order (cond-false _ _ _ (ne_eqb i id differs)) ∙ (ap (λ l. l ++ o ∷ []) (in_order-receives id n bytes older there) ∙ sym (bytes_before n bytes (in_order older) o lt))
]

pub place-held : (id : ℕ) (hs : List (ℕ × List ℕ)) (os : List (ℕ × Opening)) → place_of id (with_held hs os) ≡ place_of id os
place-held id [] os = refl
place-held id (h ∷ hs) os = place-held id hs (receives h.0 h.1 os) ∙ place-receives id h.0 h.1 os

pub length-held : (hs : List (ℕ × List ℕ)) (os : List (ℕ × Opening)) → length (with_held hs os) ≡ length os
length-held [] os = refl
length-held (h ∷ hs) os = length-held hs (receives h.0 h.1 os) ∙ length-receives h.0 h.1 os

-- what stands open as an output is one of the openings

not_output : {P : Type 0} (k : InputKind) (kind : OutputKind) → Some (AnInput k) ≡ Some (AnOutput kind) → P
not_output k kind e = cc

pub stands_opened : (id : ℕ) (kind : OutputKind) (log : List Event) → standing id log ≡ Some (AnOutput kind) → (n : ℕ) × (place_of id (openings log) ≡ Some n)
stands_opened id kind [] is = no_element (AnOutput kind) is
stands_opened id kind (OpenedInput k name (Some i) ∷ older) is = elim (cases_eq i id) [
  | inl same ↦ not_output k kind (sym (cond-true _ _ _ (eq-eqb i id same)) ∙ is)
  | inr differs ↦ stands_opened id kind older (sym (cond-false _ _ _ (ne_eqb i id differs)) ∙ is)
]
stands_opened id kind (OpenedInput k name None ∷ older) is = stands_opened id kind older is
stands_opened id kind (OpenedOutput k name mode (Some i) ∷ older) is = elim (cases_eq i id) [
  | inl same ↦ (length (openings older), cond-true _ _ _ (eq-eqb i id same))
  | inr differs ↦
      let there = stands_opened id kind older (sym (cond-false _ _ _ (ne_eqb i id differs)) ∙ is) in
      (there.0, cond-false _ _ _ (ne_eqb i id differs) ∙ there.1)
]
stands_opened id kind (OpenedOutput k name mode None ∷ older) is = stands_opened id kind older is
stands_opened id kind (Closed i answer ∷ older) is = elim (cases_eq i id) [
  | inl same ↦ no_element (AnOutput kind) (sym (cond-true _ _ _ (eq-eqb i id same)) ∙ is)
  | inr differs ↦ stands_opened id kind older (sym (cond-false _ _ _ (ne_eqb i id differs)) ∙ is)
]
stands_opened id kind (Wrote i bytes ∷ older) is = let there = stands_opened id kind older is in (there.0, place-receives id i bytes (openings older) ∙ there.1)
stands_opened id kind (Read i bytes ∷ older) is = stands_opened id kind older is
stands_opened id kind (Ended i ∷ older) is = stands_opened id kind older is
stands_opened id kind (Broke i ∷ older) is = stands_opened id kind older is
stands_opened id kind (Flushed i ∷ older) is = stands_opened id kind older is
stands_opened id kind (Ran command answer ∷ older) is = stands_opened id kind older is

-- the standard outputs are the first two openings
pub standard_opened : (id : ℕ) (log : List Event) → id < 2 → IsOrderly log → place_of id (openings log) ≡ Some id
standard_opened zero [] low orderly = refl
standard_opened (suc zero) [] low orderly = refl
standard_opened (suc (suc n)) [] low orderly = absurd (omega (arith, low))
standard_opened id (OpenedOutput k name mode (Some i) ∷ older) low orderly =
    cond-false _ _ _ (ne_eqb i id (λ (e : i ≡ id). absurd (omega (arith, e, low, orderly.0.named)))) ∙ standard_opened id older low orderly.1
standard_opened id (OpenedOutput k name mode None ∷ older) low orderly = standard_opened id older low orderly.1
standard_opened id (OpenedInput k name i ∷ older) low orderly = standard_opened id older low orderly.1
standard_opened id (Closed i answer ∷ older) low orderly = standard_opened id older low orderly.1
standard_opened id (Wrote i bytes ∷ older) low orderly = place-receives id i bytes (openings older) ∙ standard_opened id older low orderly.1
standard_opened id (Read i bytes ∷ older) low orderly = standard_opened id older low orderly.1
standard_opened id (Ended i ∷ older) low orderly = standard_opened id older low orderly.1
standard_opened id (Broke i ∷ older) low orderly = standard_opened id older low orderly.1
standard_opened id (Flushed i ∷ older) low orderly = standard_opened id older low orderly.1
standard_opened id (Ran command answer ∷ older) low orderly = standard_opened id older low orderly.1
