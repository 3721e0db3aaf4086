use Rattle.std.proofs.Common.{◌≡◌, ℕ, suc, ◌+◌, ◌-◌, ◌*◌, ◌<◌, ◌≤◌, true, false, ◌==◌, List, [], ◌∷◌, ◌++◌, length, take, arith, ap, sym, ◌∙◌, refl, append_assoc, append-nil, length-append, inl, inr}
use Rattle.std.specs.Prelude.{nat_le, Some, None}
use Rattle.std.proofs.lemmas.Bool.{cases_Bool, eqb-true, false≢true}
use Rattle.std.proofs.lemmas.Bool.Decides.{nat_tests}
use Rattle.std.proofs.Math.Seq.{take-append_seam}
use Rattle.awk_value.specs.Numbers.{digits_value, after_digits}
use Rattle.awk_text.specs.definitions.Reading.{count_of, before_percent, from_percent, first_part, parts_within}
use Rattle.awk_text.specs.declared.part.Part.{Part}

-- More digits make no smaller number.
digits_value_grows : (n : ℕ) (bs : List ℕ) → n ≤ digits_value n bs
digits_value_grows n [] = omega arith
digits_value_grows n (b ∷ bs) =
    let rest = digits_value_grows (n * 10 + (b - 48)) bs in
    grind arith

-- A value that is too large already is refused, whatever follows.
pub count_refused : (n : ℕ) (bs text : List ℕ) → 65535 < n → digits_value n bs ≡ digits_value 0 text → count_of text ≡ None
count_refused n bs text large same =
    let grows = digits_value_grows n bs in
    let above : nat_le (digits_value 0 text) 65535 ≡ false = grind (arith, nat_tests) in
    rw above

-- One that is not, is the count.
pub count_is : (n : ℕ) (rest text : List ℕ) → n ≤ 65535 → n ≡ digits_value 0 text → rest ≡ after_digits text → count_of text ≡ Some (n, rest)
count_is n rest text fits same after =
    let within : nat_le (digits_value 0 text) 65535 ≡ true = grind (arith, nat_tests) in
    rw within (rw same (rw after))

-- What stands before the first percent sign and from it on are the text.
halves : (text : List ℕ) → before_percent text ++ from_percent text ≡ text
halves [] = refl
halves (b ∷ text) =
    let rest = halves text in
    elim (cases_Bool (b == 37)) [
      | inl here ↦ rw here
      | inr apart ↦ rw apart (ap (λ t. b ∷ t) rest)
    ]

front_of : (front rest text : List ℕ) → front ++ rest ≡ text → take (length text - length rest) text ≡ front
front_of front rest text e =
    let count : length text - length rest ≡ length front = omega (arith, ap length e, length-append front rest) in
    ap (λ n. take n text) count ∙ (ap (take (length front)) (sym e) ∙ take-append_seam front rest)

pub front_is : (text rest : List ℕ) (n : ℕ) → rest ≡ from_percent text → n ≡ length text - length rest → take n text ≡ before_percent text
front_is text rest n er en =
    ap (λ k. take k text) en ∙ front_of (before_percent text) rest text (ap (λ r. before_percent text ++ r) er ∙ halves text)

-- One part more, and one fewer that there may be.
pub one_more : (total : ℕ) (done more whole : List Part) (part : Part) (text rest : List ℕ) → length text + length done ≤ total → 0 < length text → first_part text ≡ (part, rest) → more ≡ done ++ part ∷ [] →
    done ++ parts_within (total - length done) text ≡ whole → more ++ parts_within (total - length more) rest ≡ whole
one_more total done more whole part [] rest fits full e added h = absurd (omega arith)
one_more total done more whole part (b ∷ text) rest fits full e added h =
    let fuel : total - length done ≡ suc (total - length more) = omega (arith, ap length added, length-append done (part ∷ [])) in
    let here : parts_within (total - length done) (b ∷ text) ≡ part ∷ parts_within (total - length more) rest =
    ap (λ n. parts_within n (b ∷ text)) fuel ∙ ap (λ (p : Part × List ℕ). p.0 ∷ parts_within (total - length more) p.1) e in
    ap (λ ps. ps ++ parts_within (total - length more) rest) added
    ∙ (append_assoc done (part ∷ []) (parts_within (total - length more) rest)
    ∙ (ap (λ ps. done ++ ps) (sym here) ∙ h))

-- Where the text is used up, there are no more.
pub all_read : (done whole : List Part) (n : ℕ) (rest : List ℕ) → true ≡ (length rest == 0) → done ++ parts_within n rest ≡ whole → done ≡ whole
all_read done whole n [] none h = sym (append-nil done) ∙ h
all_read done whole n (b ∷ rest) none h = absurd (omega (arith, eqb-true (length (b ∷ rest)) 0 (sym none)))

pub has_bytes : (text : List ℕ) → false ≡ (length text == 0) → 0 < length text
has_bytes [] e = absurd (false≢true e)
has_bytes (b ∷ bs) e = omega arith
