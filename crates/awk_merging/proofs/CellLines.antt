-- The lines of a cell are records.
use Rattle.std.proofs.Common.{◌≡◌, inl, inr, ℕ, suc, ◌+◌, ◌*◌, ◌%◌, ◌<◌, ◌≤◌, ◌^◌, ◌==◌, nat_lt, ℤ, pos, negsuc, true, false, List, [], ◌∷◌, ◌++◌, length, Option, Some, None, Ok, refl, sym, ap, ◌∙◌, arith, append_assoc}
use Rattle.std.specs.Char.{digit_value}
use Rattle.std.specs.Fmt.{decimal, signed_decimal}
use Rattle.std.specs.Str.Parse.{AllDigits}
use Rattle.std.proofs.Math.Seq.{take-append_seam, drop-append-add}
use Rattle.std.proofs.lemmas.Bool.{cases_Bool, cond-true, cond-false}
use Rattle.std.proofs.lemmas.Bool.Decides.{nat_tests}
use Rattle.std.proofs.lemmas.Fmt.{decimal_is_IsNumeral_wide, length-decimal-le_wide}
use Rattle.std.proofs.lemmas.Str.Parse.{digit_from_value}
use Rattle.awk_value.specs.declared.value.Value.TheVariants as value
use Rattle.awk_value.specs.Arithmetic.{is_in_range}
use Rattle.awk_record.specs.definitions.Cut.{AtEnd, Found, longest, begins_with, first_at, one_later, cut_of}
use Rattle.awk_record.proofs.CutIsDecided.{one_later-none}
use Rattle.awk_lex.specs.declared.token.Operator.TheVariants as operator
use Rattle.awk_semantics.specs.definitions.Operators.{applied}
use Rattle.awk_merging.specs.definitions.LawOfCells.{IsLine}
use Rattle.awk_merging.specs.definitions.LawOfStates.{IsRecord}

abbrev newline : List ℕ
newline = 10 ∷ []

-- a line is cut off at its newline

newline_behind : (line rest : List ℕ) → first_at newline line ≡ None → first_at newline (line ++ (10 ∷ rest)) ≡ Some (length line)
newline_behind [] rest none = refl
newline_behind (b ∷ line) rest none = elim (cases_Bool (begins_with newline (b ∷ line))) [
  | inl holds ↦ let bad : ◌≡◌ {A = Option ℕ} (Some 0) None = sym (cond-true _ _ _ holds) ∙ none in cc
  | inr fails ↦ cond-false _ _ _ fails ∙ ap one_later (newline_behind line rest (one_later-none _ (sym (cond-false _ _ _ fails) ∙ none)))
]

pub line_cut : (line rest : List ℕ) → IsRecord line → cut_of newline (line ++ (10 ∷ rest)) AtEnd ≡ Found line rest
line_cut line rest is =
    let short : nat_lt longest (0 + (length line + 1)) ≡ false = grind (arith, nat_tests, is.1) in
    rw (newline_behind line rest is.0) (cond-false _ _ _ short ∙ rw (take-append_seam, drop-append-add) refl)

-- a number that is written is a line

digit_no_newline : (c : ℕ) → digit_value c < 10 → (c == 10) ≡ false
digit_no_newline c small = let within = digit_from_value c small in grind (arith, nat_tests)

digits_line : (ds : List ℕ) → AllDigits 10 ds → IsLine ds
digits_line [] all = refl
digits_line (c ∷ cs) all = rw (digit_no_newline c all.0, digits_line cs all.1) refl

decimal_record : (n : ℕ) → n < 10 ^ 60 → IsRecord (decimal n)
decimal_record n small =
    let wide : n < 10 ^ 64 = omega arith in
    let few : length (decimal n) ≤ 60 = length-decimal-le_wide 60 n (omega arith) small wide in
    (digits_line (decimal n) (decimal_is_IsNumeral_wide n wide).0.1, omega arith)

small_in_range : (n : ℕ) → nat_lt n (2 ^ 127) ≡ true → suc n < 10 ^ 60
small_in_range n is = grind (arith, nat_tests)

pub number_record : (n : ℤ) → is_in_range n ≡ true → IsRecord (signed_decimal n)
number_record (pos n) is = decimal_record n (omega (arith, small_in_range n is))
number_record (negsuc n) is =
    let inner = decimal_record (suc n) (small_in_range n is) in
    let wide : suc n < 10 ^ 64 = omega (arith, small_in_range n is) in
    let few : length (decimal (suc n)) ≤ 60 = length-decimal-le_wide 60 (suc n) (omega arith) (small_in_range n is) wide in
    (rw inner.0 refl, omega arith)

-- which line of a cell a record is

pub first_line : (j : ℕ) → applied operator.Remainder (value.Number (pos (suc (3 * j)))) (value.Number (pos 3)) ≡ Ok (value.Number (pos 1))
first_line j = let e : suc (3 * j) % 3 ≡ 1 = omega arith in ap (λ (n : ℕ). Ok (value.Number (pos n))) e

pub second_line : (j : ℕ) → applied operator.Remainder (value.Number (pos (suc (suc (3 * j))))) (value.Number (pos 3)) ≡ Ok (value.Number (pos 2))
second_line j = let e : suc (suc (3 * j)) % 3 ≡ 2 = omega arith in ap (λ (n : ℕ). Ok (value.Number (pos n))) e

pub third_line : (j : ℕ) → applied operator.Remainder (value.Number (pos (suc (suc (suc (3 * j)))))) (value.Number (pos 3)) ≡ Ok (value.Number (pos 0))
third_line j = let e : suc (suc (suc (3 * j))) % 3 ≡ 0 = omega arith in ap (λ (n : ℕ). Ok (value.Number (pos n))) e

-- the text of a cell, with more behind it
pub cell_front : (name key number rest : List ℕ) → (name ++ (10 ∷ (key ++ (10 ∷ (number ++ (10 ∷ [])))))) ++ rest ≡ name ++ (10 ∷ (key ++ (10 ∷ (number ++ (10 ∷ rest)))))
cell_front name key number rest =
    append_assoc name (10 ∷ (key ++ (10 ∷ (number ++ (10 ∷ []))))) rest
    ∙ ap (λ (l : List ℕ). name ++ (10 ∷ l)) (append_assoc key (10 ∷ (number ++ (10 ∷ []))) rest ∙ ap (λ (l : List ℕ). key ++ (10 ∷ l)) (append_assoc number (10 ∷ []) rest))
