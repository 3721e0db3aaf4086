-- The cut of bytes whose first paragraph is known.
use Rattle.std.proofs.Common.{◌≡◌, ◌≢◌, inl, inr, ℕ, suc, ◌+◌, ◌-◌, ◌<◌, ◌≤◌, ◌==◌, true, false, List, [], ◌∷◌, ◌++◌, length, take, drop, get_or, Option, refl, sym, ◌∙◌, ap, arith, length-append, append-nil}
use Rattle.std.proofs.Math.Seq.{take-append_seam, drop-append_seam, get_or-append_seam}
use Rattle.std.proofs.lemmas.Bool.{cases_Bool, cases_lt, cond-true, cond-false, eqb-true, eq-eqb}
use Rattle.std.proofs.lemmas.List.{drop-drop, get_or_append_left, get_or_past}
use Rattle.std.proofs.lemmas.List.Elements.{All-head, All-tail}
use Rattle.awk_record.specs.definitions.Cut.{Ending, AtEnd, AtBreak, Found, NoMore, BrokenOff, longest, begins_with, unfinished, cut_at, cut_behind, newlines, without_newline, cut_of}
use Rattle.awk_record.specs.definitions.Paragraph.{AreNewline, IsParagraph}
use Rattle.awk_record.proofs.SearchFindsFirst.{first_at_some, first_at_none}
use Rattle.awk_record.proofs.BlankLines.{two_fail}
use Rattle.awk_record.proofs.CutOfLine.{limited-within}

other_byte : (b : ℕ) → b ≢ 10 → (b == 10) ≡ false
other_byte b other = elim (cases_Bool (b == 10)) [
  | inl holds ↦ absurd (other (eqb-true b 10 holds))
  | inr fails ↦ fails
]

-- the newlines in front
newlines_none : (bytes : List ℕ) → get_or bytes 0 0 ≢ 10 → newlines bytes ≡ 0
newlines_none [] other = refl
newlines_none (b ∷ bytes) other = cond-false _ _ _ (other_byte b other)

newlines_gap : (gap bytes : List ℕ) → AreNewline gap → get_or bytes 0 0 ≢ 10 → newlines (gap ++ bytes) ≡ length gap
newlines_gap [] bytes are other = newlines_none bytes other
newlines_gap (b ∷ gap) bytes are other =
    let first : (b == 10) ≡ true = eq-eqb b 10 (All-head (λ (x : ℕ). x ≡ 10) b gap are) in
    cond-true _ _ _ first ∙ ap suc (newlines_gap gap bytes (All-tail (λ (x : ℕ). x ≡ 10) b gap are) other)

behind_gap : (gap bytes : List ℕ) (ending : Ending) → AreNewline gap → get_or bytes 0 0 ≢ 10 → cut_of [] (gap ++ bytes) ending ≡ cut_behind (length gap) (10 ∷ 10 ∷ []) without_newline bytes ending
behind_gap gap bytes ending are other =
    ap (λ n. cut_behind n (10 ∷ 10 ∷ []) without_newline (drop n (gap ++ bytes)) ending) (newlines_gap gap bytes are other)
    ∙ ap (λ b. cut_behind (length gap) (10 ∷ 10 ∷ []) without_newline b ending) (drop-append_seam gap bytes)

-- no blank line begins in a paragraph, where other bytes follow or none
none_begins : (first rest : List ℕ) → IsParagraph first → (k : ℕ) → k < length first → begins_with (10 ∷ 10 ∷ []) (drop k (first ++ rest)) ≡ false
none_begins first rest is k lt = two_fail (first ++ rest) k (λ here next. elim (cases_lt (k + 1) (length first)) [
  | inl inside ↦ is.single k inside (sym (get_or_append_left first rest 0 k lt) ∙ here) (sym (get_or_append_left first rest 0 (k + 1) inside) ∙ next)
  | inr last ↦
      let place : k ≡ length first - 1 = omega arith in
      is.ends (ap (λ j. get_or first j 0) (sym place) ∙ (sym (get_or_append_left first rest 0 k lt) ∙ here))
])

first_begins : (first rest : List ℕ) → IsParagraph first → get_or (first ++ rest) 0 0 ≢ 10
first_begins first rest is here = is.begins (sym (get_or_append_left first rest 0 0 is.some) ∙ here)

pub cut_of-paragraph : (gap first rest : List ℕ) (ending : Ending) → AreNewline gap → IsParagraph first → length gap + (length first + 2) ≤ longest → cut_of [] (gap ++ (first ++ 10 ∷ 10 ∷ rest)) ending ≡ Found first rest
cut_of-paragraph gap first rest ending are is le =
    let bytes = first ++ 10 ∷ 10 ∷ rest in
    let within : length first < length bytes = omega (arith, length-append first (10 ∷ 10 ∷ rest)) in
    let here : begins_with (10 ∷ 10 ∷ []) (drop (length first) bytes) ≡ true = ap (begins_with (10 ∷ 10 ∷ [])) (drop-append_seam first (10 ∷ 10 ∷ rest)) in
    let place = first_at_some (10 ∷ 10 ∷ []) bytes (length first) within (none_begins first (10 ∷ 10 ∷ rest) is) here in
    let front : take (length first) bytes ≡ first = take-append_seam first (10 ∷ 10 ∷ rest) in
    let back : drop (length first + 2) bytes ≡ rest = sym (drop-drop 2 (length first) bytes) ∙ ap (drop 2) (drop-append_seam first (10 ∷ 10 ∷ rest)) in
    behind_gap gap bytes ending are (first_begins first (10 ∷ 10 ∷ rest) is)
    ∙ (ap (λ (i : Option ℕ). cut_at i (length gap) (10 ∷ 10 ∷ []) without_newline bytes ending) place
    ∙ (limited-within (length gap + (length first + 2)) _ le ∙ rw (front, back) refl))

-- where no blank line follows
nowhere : (gap bytes : List ℕ) (ending : Ending) → AreNewline gap → get_or bytes 0 0 ≢ 10 → ((k : ℕ) → k < length bytes → begins_with (10 ∷ 10 ∷ []) (drop k bytes) ≡ false) → length gap + length bytes ≤ longest →
    cut_of [] (gap ++ bytes) ending ≡ unfinished without_newline bytes ending
nowhere gap bytes ending are other none le =
    behind_gap gap bytes ending are other
    ∙ (ap (λ (i : Option ℕ). cut_at i (length gap) (10 ∷ 10 ∷ []) without_newline bytes ending) (first_at_none (10 ∷ 10 ∷ []) bytes none) ∙ limited-within (length gap + length bytes) _ le)

last_some : (bytes : List ℕ) → 0 < length bytes → unfinished without_newline bytes AtEnd ≡ Found (without_newline bytes) []
last_some [] lt = absurd (omega arith)
last_some (b ∷ bytes) lt = refl

pub cut_of-last_paragraph : (gap first : List ℕ) → AreNewline gap → IsParagraph first → length gap + length first ≤ longest → cut_of [] (gap ++ first) AtEnd ≡ Found first []
cut_of-last_paragraph gap first are is le =
    let none : (k : ℕ) → k < length first → begins_with (10 ∷ 10 ∷ []) (drop k first) ≡ false = λ k lt.
    ap (λ b. begins_with (10 ∷ 10 ∷ []) (drop k b)) (sym (append-nil first)) ∙ none_begins first [] is k lt in
    let whole : without_newline first ≡ first = cond-false _ _ _ (other_byte (get_or first (length first - 1) 0) is.ends) in
    nowhere gap first AtEnd are is.begins none le ∙ (last_some first is.some ∙ ap (λ b. Found b []) whole)

pub cut_of-ended_paragraph : (gap first : List ℕ) → AreNewline gap → IsParagraph first → length gap + (length first + 1) ≤ longest → cut_of [] (gap ++ (first ++ 10 ∷ [])) AtEnd ≡ Found first []
cut_of-ended_paragraph gap first are is le =
    let bytes = first ++ 10 ∷ [] in
    let size : length bytes ≡ length first + 1 = length-append first (10 ∷ []) in
    let none : (k : ℕ) → k < length bytes → begins_with (10 ∷ 10 ∷ []) (drop k bytes) ≡ false = λ k lt. elim (cases_lt k (length first)) [
      | inl inside ↦ none_begins first (10 ∷ []) is k inside
      | inr last ↦ two_fail bytes k (λ here next.
          let past : get_or bytes (k + 1) 0 ≡ 0 = get_or_past bytes (k + 1) 0 (omega arith) in
          let bad : 0 ≡ 10 = sym past ∙ next in
          absurd (omega arith))
    ] in
    let place : length bytes - 1 ≡ length first = omega arith in
    let newline : (get_or bytes (length bytes - 1) 0 == 10) ≡ true = eq-eqb (get_or bytes (length bytes - 1) 0) 10 (ap (λ j. get_or bytes j 0) place ∙ get_or-append_seam first 10 [] 0) in
    let front : take (length bytes - 1) bytes ≡ first = ap (λ n. take n bytes) place ∙ take-append_seam first (10 ∷ []) in
    let trimmed : without_newline bytes ≡ first = cond-true _ _ _ newline ∙ front in
    nowhere gap bytes AtEnd are (first_begins first (10 ∷ []) is) none (omega arith) ∙ (last_some bytes (omega arith) ∙ ap (λ b. Found b []) trimmed)

pub cut_of-newlines : (gap : List ℕ) → AreNewline gap → length gap ≤ longest → cut_of [] gap AtEnd ≡ NoMore
cut_of-newlines gap are le =
    ap (λ b. cut_of [] b AtEnd) (sym (append-nil gap))
    ∙ nowhere gap [] AtEnd are (λ is. let bad : 0 ≡ 10 = is in absurd (omega arith)) (λ k lt. absurd (omega arith)) (omega arith)

pub cut_of-broken_paragraph : (gap first : List ℕ) → AreNewline gap → IsParagraph first → length gap + length first ≤ longest → cut_of [] (gap ++ first) AtBreak ≡ BrokenOff
cut_of-broken_paragraph gap first are is le =
    let none : (k : ℕ) → k < length first → begins_with (10 ∷ 10 ∷ []) (drop k first) ≡ false = λ k lt.
    ap (λ b. begins_with (10 ∷ 10 ∷ []) (drop k b)) (sym (append-nil first)) ∙ none_begins first [] is k lt in
    nowhere gap first AtBreak are is.begins none le ∙ broken first
  where
    broken : (bytes : List ℕ) → unfinished without_newline bytes AtBreak ≡ BrokenOff
    broken [] = refl
    broken (b ∷ bytes) = refl
