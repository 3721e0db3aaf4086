-- Sums that are found one after another are those of the whole text, each once.
use Rattle.std.proofs.Common.{◌≡◌, inl, inr, ℕ, Bool, true, false, ◌||◌, List, [], ◌∷◌, ◌++◌, refl, sym, ap, ◌∙◌, subst, bytes_eq, cond, append_assoc, append-nil}
use Rattle.std.proofs.lemmas.Bool.{cases_Bool, cond-true, cond-false}
use Rattle.awk_merging.specs.definitions.Sums.{Sum, name_of_sum}
use Rattle.awk_merging.specs.definitions.Mergeable.{without_name, each_once, is_sum}
use Rattle.awk_merging.specs.support.WithSums.{with_sum, with_sums}
use Rattle.awk_merging.proofs.Gathering.{same_key}

pub with_sums-append : (sums xs ys : List Sum) → with_sums sums (xs ++ ys) ≡ with_sums (with_sums sums xs) ys
with_sums-append sums [] ys = refl
with_sums-append sums (x ∷ xs) ys = with_sums-append (with_sum sums x) xs ys

-- the sums whose names are none of these
abbrev others : List Sum → List Sum → List Sum
others sums [] = []
others sums (y ∷ ys) = cond (is_sum sums (name_of_sum y)) (others sums ys) (y ∷ others sums ys)

or_false : (b : Bool) → (b || false) ≡ b
or_false true = refl
or_false false = refl

or_third : (a b c : Bool) → (a || (b || c)) ≡ ((a || b) || c)
or_third true b c = refl
or_third false b c = refl

is_sum-added : (sums : List Sum) (x : Sum) (name : List ℕ) →
    is_sum (sums ++ x ∷ []) name ≡ (is_sum sums name || bytes_eq (name_of_sum x) name)
is_sum-added [] x name = or_false (bytes_eq (name_of_sum x) name)
is_sum-added (y ∷ ys) x name =
    ap (λ b. bytes_eq (name_of_sum y) name || b) (is_sum-added ys x name)
    ∙ or_third (bytes_eq (name_of_sum y) name) (is_sum ys name) (bytes_eq (name_of_sum x) name)

one_by_one : (p e : Bool) (sums : List Sum) (y : Sum) (zs all : List Sum) → is_sum sums (name_of_sum y) ≡ p →
    all ≡ others sums zs →
    cond (p || e) all (y ∷ all) ≡ others sums (cond e zs (y ∷ zs))
one_by_one true true sums y zs all is same = same
one_by_one false true sums y zs all is same = same
one_by_one true false sums y zs all is same = same ∙ sym (cond-true _ _ _ is)
one_by_one false false sums y zs all is same = ap (λ (l : List Sum). y ∷ l) same ∙ sym (cond-false _ _ _ is)

others-added : (sums : List Sum) (x : Sum) (ys : List Sum) →
    others (sums ++ x ∷ []) ys ≡ others sums (without_name (name_of_sum x) ys)
others-added sums x [] = refl
others-added sums x (y ∷ ys) =
    ap (λ b. cond b (others (sums ++ x ∷ []) ys) (y ∷ others (sums ++ x ∷ []) ys)) (is_sum-added sums x (name_of_sum y))
    ∙ one_by_one (is_sum sums (name_of_sum y)) (bytes_eq (name_of_sum x) (name_of_sum y)) sums y (without_name (name_of_sum x) ys)
    (others (sums ++ x ∷ []) ys) refl (others-added sums x ys)

others-known : (sums : List Sum) (name : List ℕ) → is_sum sums name ≡ true → (ys : List Sum) →
    others sums (without_name name ys) ≡ others sums ys
others-known sums name known [] = refl
others-known sums name known (y ∷ ys) = elim (cases_Bool (bytes_eq name (name_of_sum y))) [
  | inl same ↦
      ap (λ (l : List Sum). others sums l) (cond-true _ _ _ same)
      ∙ others-known sums name known ys
      ∙ sym (cond-true _ _ _ (subst (λ (z : List ℕ). is_sum sums z ≡ true) (same_key name (name_of_sum y) same) known))
  | inr apart ↦
      ap (λ (l : List Sum). others sums l) (cond-false _ _ _ apart)
      ∙ ap (λ (l : List Sum). cond (is_sum sums (name_of_sum y)) l (y ∷ l)) (others-known sums name known ys)
]

pub with_sums-once : (xs sums : List Sum) → with_sums sums xs ≡ sums ++ others sums (each_once xs)
with_sums-once [] sums = sym (append-nil sums)
with_sums-once (x ∷ xs) sums = elim (cases_Bool (is_sum sums (name_of_sum x))) [
  | inl known ↦
      ap (λ (l : List Sum). with_sums l xs) (cond-true _ _ _ known)
      ∙ with_sums-once xs sums
      ∙ ap (λ (l : List Sum). sums ++ l) (sym (others-known sums (name_of_sum x) known (each_once xs)) ∙ sym (cond-true _ _ _ known))
  | inr new ↦
      ap (λ (l : List Sum). with_sums l xs) (cond-false _ _ _ new)
      ∙ with_sums-once xs (sums ++ x ∷ [])
      ∙ ap (λ (l : List Sum). (sums ++ x ∷ []) ++ l) (others-added sums x (each_once xs))
      ∙ append_assoc sums (x ∷ []) (others sums (without_name (name_of_sum x) (each_once xs)))
      ∙ ap (λ (l : List Sum). sums ++ l) (sym (cond-false _ _ _ new))
]

others-none : (ys : List Sum) → others [] ys ≡ ys
others-none [] = refl
others-none (y ∷ ys) = ap (λ (l : List Sum). y ∷ l) (others-none ys)

-- from none on
pub with_sums-none : (xs : List Sum) → with_sums [] xs ≡ each_once xs
with_sums-none xs = with_sums-once xs [] ∙ others-none (each_once xs)
