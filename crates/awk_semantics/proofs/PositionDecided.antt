-- The position of a part is decided: the first at which it stands.
use Rattle.std.proofs.Common.{◌≡◌, ℕ, zero, suc, ◌+◌, ◌<◌, ◌≤◌, true, false, ◌==◌, ◌&&◌, List, [], ◌∷◌, length, drop, get_or, Option, Some, None, refl, sym, ap, subst, ◌∙◌, arith, inl, inr}
use Rattle.std.specs.Prelude.{◌↔◌}
use Rattle.std.proofs.lemmas.Bool.{cases_Bool, cond-true, cond-false, false≢true}
use Rattle.std.proofs.lemmas.Bool.Decides.{nat_tests}
use Rattle.std.proofs.lemmas.List.{at_drop_more, get_or-drop, length-drop}
use Rattle.awk_record.specs.Cut.{begins_with, one_later, first_at}
use Rattle.awk_record.proofs.CutIsDecided.{begins_with-length}
use Rattle.awk_record.proofs.SearchFindsFirst.{begins_reads, found_needle, none_begins}
use Rattle.awk_text.specs.definitions.Functions.{IsPositionOf}
use Rattle.awk_semantics.specs.definitions.Texts.{position, position_of}

-- a part that reads as the text does from a place on begins what is left there
reads_begins : (part text : List ℕ) (k : ℕ) → k + length part ≤ length text → ((j : ℕ) → j < length part → get_or text (k + j) 0 ≡ get_or part j 0) → begins_with part (drop k text) ≡ true
reads_begins [] text k fits reads = refl
reads_begins (c ∷ part) text k fits reads =
    let room : k + suc (length part) ≤ length text = fits in
    let lt : k < length text = omega arith in
    let place : k + 0 ≡ k = omega arith in
    let here : get_or text k 0 ≡ c = ap (λ j. get_or text j 0) (sym place) ∙ reads 0 (omega arith) in
    let rest = reads_begins part text (k + 1) (omega arith) (λ j less. let next : k + 1 + j ≡ k + suc j = omega arith in ap (λ i. get_or text i 0) next ∙ reads (suc j) (omega arith)) in
    let both : ((get_or text k 0 == c) && begins_with part (drop (k + 1) text)) ≡ true = grind (arith, nat_tests) in
    at_drop_more (begins_with (c ∷ part)) text k 0 lt ∙ both

decided : (part text : List ℕ) (n : ℕ) → IsPositionOf part text n → n ≡ position_of part text
decided [] text zero is = refl
decided [] text (suc k) is = let stands = is.stands k (omega arith) in let none : 0 < 0 = stands.0 in absurd (omega arith)
decided (b ∷ part) text zero is = ap position (found_needle (b ∷ part) text None (omega arith) (λ k low high. is.absent refl (omega arith) k))
decided (b ∷ part) text (suc k) is =
    let stands = is.stands k (omega arith) in
    let fits = stands.1.fits in
    ap position (found_needle (b ∷ part) text (Some k) (omega arith) (record { low = omega arith; high = omega (arith, fits); before = λ j low lt. stands.2 j lt }, stands.1))

-- what the first place is

later_some : (o : Option ℕ) (i : ℕ) → one_later o ≡ Some i → (j : ℕ) × (o ≡ Some j) × (i ≡ suc j)
later_some None i e = absurd (cc)
later_some (Some j) i e = (j, refl, cc)

abbrev IsFirstPlace : (part text : List ℕ) → ℕ → Type 0
IsFirstPlace part text i = (i < length text) × (begins_with part (drop i text) ≡ true) × ((k : ℕ) → k < i → begins_with part (drop k text) ≡ false)

fails_before : (part : List ℕ) (x : ℕ) (text : List ℕ) (j : ℕ) → begins_with part (x ∷ text) ≡ false → ((k : ℕ) → k < j → begins_with part (drop k text) ≡ false) → (k : ℕ) → k < suc j → begins_with part (drop k (x ∷ text)) ≡ false
fails_before part x text j here rest zero lt = here
fails_before part x text j here rest (suc k) lt = rest k (omega arith)

first_place : (part text : List ℕ) (i : ℕ) → first_at part text ≡ Some i → IsFirstPlace part text i
first_place part [] i e = absurd (cc)
first_place part (x ∷ text) i e = elim (cases_Bool (begins_with part (x ∷ text))) [
  | inl holds ↦
      let found : Some 0 ≡ Some i = sym (cond-true _ _ _ holds) ∙ e in
      let same : 0 ≡ i = cc in
      subst (IsFirstPlace part (x ∷ text)) same (omega arith, holds, λ k lt. absurd (omega arith))
  | inr fails ↦
      let later = later_some (first_at part text) i (sym (cond-false _ _ _ fails) ∙ e) in
      let rest = first_place part text later.0 later.1 in
      let within = rest.0 in
      subst (IsFirstPlace part (x ∷ text)) (sym later.2) (omega (arith, within), rest.1, fails_before part x text later.0 fails rest.2)
]

found_is : (part text : List ℕ) (found : Option ℕ) → 0 < length part → first_at part text ≡ found → IsPositionOf part text (position found)
found_is part text None some e = record {
  stands = λ before is. absurd (omega (arith, is));
  absent = λ is _ i stands.
      let fits = stands.fits in
      false≢true (sym (none_begins part text e i (omega (arith, fits, some))) ∙ reads_begins part text i stands.fits stands.reads);
}
found_is part text (Some k) some e =
    let first = first_place part text k e in
    let within = first.0 in
    let long = begins_with-length part (drop k text) first.1 in
    record {
      stands = λ before is.
          let same : before ≡ k = omega (arith, is) in (
            some,
            record {
              fits = omega (arith, same, long, within, length-drop k text);
              reads = λ j less. ap (λ (i : ℕ). get_or text (i + j) 0) same ∙ sym (get_or-drop k text j 0) ∙ begins_reads part (drop k text) j less first.1;
            },
            λ i lt stands. false≢true (sym (first.2 i (omega (arith, same, lt))) ∙ reads_begins part text i stands.fits stands.reads),
          );
      absent = λ is. absurd (omega (arith, is));
    }

position_is : (part text : List ℕ) → IsPositionOf part text (position_of part text)
position_is [] text = record { stands = λ before is. absurd (omega (arith, is)); absent = λ is some. absurd (omega (arith, some)) }
position_is (b ∷ part) text = found_is (b ∷ part) text (first_at (b ∷ part) text) (omega arith) refl

pub position_decides : (part text : List ℕ) (n : ℕ) → IsPositionOf part text n ↔ (n ≡ position_of part text)
position_decides part text n = (decided part text n, λ same. subst (IsPositionOf part text) (sym same) (position_is part text))
