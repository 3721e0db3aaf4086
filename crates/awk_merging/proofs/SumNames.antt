-- What is asked of the names of sums, as the code asks it of each.
use Rattle.std.proofs.Common.{◌≡◌, inl, inr, ℕ, Bool, true, false, not, ◌==◌, ◌&&◌, ◌||◌, List, [], ◌∷◌, None, refl, sym, ap, ◌∙◌, bytes_eq}
use Rattle.std.specs.List.{list_any, list_all}
use Rattle.std.proofs.lemmas.Bool.{cases_Bool, cond-false, and_parts}
use Rattle.awk_record.specs.definitions.Cut.{first_at, one_later}
use Rattle.awk_merging.specs.declared.sums.Sum.{Sum as KeptSum}
use Rattle.awk_merging.specs.declared.sums.Sum.TheVariants as kept
use Rattle.awk_merging.specs.definitions.Sums.{Sum, name_of_sum}
use Rattle.awk_merging.specs.definitions.LawOfCells.{IsLine}
use Rattle.awk_merging.specs.definitions.LawOfDerived.{IsOneOf}
use Rattle.awk_merging.specs.definitions.Mergeable.{is_sum, is_array_sum, is_variable_sum}
use Rattle.awk_merging.specs.support.SumsOf.{sum_of, sums_of, is_array, is_variable}
use Rattle.awk_merging.specs.support.Lines.{is_line}
use Rattle.awk_merging.proofs.Gathering.{not_both}

pub any_named : (sums : List KeptSum) (name : List ℕ) →
    list_any (λ (x : KeptSum). bytes_eq (name_of_sum (sum_of x)) name) sums ≡ is_sum (sums_of sums) name
any_named [] name = refl
any_named (x ∷ xs) name = ap (λ b. bytes_eq (name_of_sum (sum_of x)) name || b) (any_named xs name)

pub any_array : (sums : List KeptSum) (name : List ℕ) →
    list_any (λ (x : KeptSum). is_array (sum_of x) name) sums ≡ is_array_sum (sums_of sums) name
any_array [] name = refl
any_array (kept.ByKey a ∷ xs) name = ap (λ b. bytes_eq a name || b) (any_array xs name)
any_array (kept.Alone x ∷ xs) name = any_array xs name

pub any_variable : (sums : List KeptSum) (name : List ℕ) →
    list_any (λ (x : KeptSum). is_variable (sum_of x) name) sums ≡ is_variable_sum (sums_of sums) name
any_variable [] name = refl
any_variable (kept.ByKey a ∷ xs) name = any_variable xs name
any_variable (kept.Alone x ∷ xs) name = ap (λ b. bytes_eq x name || b) (any_variable xs name)

-- a line has no newline

newline_none : (text : List ℕ) → list_any (λ (byte : ℕ). byte == 10) text ≡ false → first_at (10 ∷ []) text ≡ None
newline_none [] none = refl
newline_none (b ∷ bytes) none = elim (cases_Bool (b == 10)) [
  | inl newline ↦ absurd (not_both (b == 10 || list_any (λ (byte : ℕ). byte == 10) bytes) (ap (λ v. v || list_any (λ (byte : ℕ). byte == 10) bytes) newline) none)
  | inr other ↦
      cond-false _ _ _ (ap (λ v. v && true) other)
      ∙ ap one_later (newline_none bytes (sym (ap (λ v. v || list_any (λ (byte : ℕ). byte == 10) bytes) other) ∙ none))
]

not_true : (b : Bool) → not b ≡ true → b ≡ false
not_true false is = refl
not_true true is = sym is

pub line_of : (text : List ℕ) → is_line text ≡ true → IsLine text
line_of text is = newline_none text (not_true (list_any (λ (byte : ℕ). byte == 10) text) is)

pub all_lines : (sums : List KeptSum) → list_all (λ (x : KeptSum). is_line (name_of_sum (sum_of x))) sums ≡ true →
    (x : Sum) → IsOneOf x (sums_of sums) → IsLine (name_of_sum x)
all_lines [] all x is = absurd is
all_lines (y ∷ ys) all x (inl is) = line_of (name_of_sum x) (ap (λ (z : Sum). is_line (name_of_sum z)) is ∙ (and_parts _ _ all).0)
all_lines (y ∷ ys) all x (inr later) = all_lines ys ((and_parts _ _ all).1) x later
