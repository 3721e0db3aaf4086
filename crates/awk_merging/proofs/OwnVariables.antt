-- The variables of the record that a program has: none of awk's own, and no sum.
use Rattle.std.proofs.Common.{◌≡◌, inl, inr, ℕ, Bool, true, false, ◌||◌, not, List, [], ◌∷◌, refl, sym, ap, ◌∙◌, bytes_eq}
use Rattle.std.proofs.lemmas.Bool.{cases_Bool}
use Rattle.awk_kinds.specs.Names.{has_name}
use Rattle.awk_grammar.specs.Tree.{Item}
use Rattle.awk_pieces.specs.definitions.Pieceable.{tells_apart, is_setting_of_awk, names_set_in_rules}
use Rattle.awk_pieces.proofs.Alike.{Names}
use Rattle.awk_pieces.proofs.ReadsAlike.{left_true, right_true}
use Rattle.awk_merging.specs.definitions.Sums.{Sum, name_of_sum}
use Rattle.awk_merging.specs.definitions.LawOfDerived.{IsOneOf}
use Rattle.awk_merging.specs.definitions.Mergeable.{own_in, sums_of_program, is_sum, is_other, knows}
use Rattle.awk_merging.proofs.Gathering.{same_key, not_both}
use Rattle.awk_merging.proofs.ProgramSums.{AreFree, is_free, own_sums}
use Rattle.awk_merging.proofs.Sound.{or_false}

-- no name of awk's, and none of a sum
pub record AreOwn (own : Names) (xs : List Sum) : Type 0 where
  pub awk : (x : List ℕ) → own x ≡ true → (tells_apart x || is_setting_of_awk x) ≡ false
  pub sums : AreFree own xs

pub not_true : (b : Bool) → not b ≡ true → b ≡ false
not_true true e = cc
not_true false e = refl

pub own_apart : (items : List Item) → AreOwn (own_in items) (sums_of_program items)
own_apart items = record {
  awk = λ x is. not_true _ (right_true (has_name (names_set_in_rules items) x) _ is);
  sums = own_sums items;
}

pub true_or_false : (b : Bool) → (b ≡ true → ⊥) → b ≡ false
true_or_false b bad = elim (cases_Bool b) [ inl is ↦ absurd (bad is) | inr other ↦ other ]

module _ (own : Names) (xs : List Sum) (are : AreOwn own xs) where
  -- a name of awk's is none
  pub not_own : (x : List ℕ) → (tells_apart x || is_setting_of_awk x) ≡ true → own x ≡ false
  not_own x taken = true_or_false (own x) (λ is. not_both (tells_apart x || is_setting_of_awk x) taken (are.awk x is))

  -- a sum isn't, either
  pub sum_not_own : (x : Sum) → IsOneOf x xs → own (name_of_sum x) ≡ false
  sum_not_own x one = is_free own x xs are.sums one

  pub own_other : (x z : List ℕ) → own x ≡ true → own z ≡ false → bytes_eq x z ≡ false
  own_other x z is not = true_or_false (bytes_eq x z) (λ same. not_both (own z) (ap own (sym (same_key x z same)) ∙ is) not)

-- what a rule knows as it begins is no variable of the record, and neither a sum nor another on each piece

pub known_other : (own : Names) (xs : List Sum) (x : List ℕ) → knows own xs x ≡ true → is_other xs x ≡ true
known_other own xs x is = left_true (is_other xs x) _ is

pub known_not_own : (own : Names) (xs : List Sum) (x : List ℕ) → knows own xs x ≡ true → own x ≡ false
known_not_own own xs x is = not_true (own x) (right_true (is_other xs x) _ is)

-- no sum has the name of one
pub own_no_sum : (own : Names) (xs : List Sum) → AreFree own xs → (x : List ℕ) → own x ≡ true → is_sum xs x ≡ false
own_no_sum own [] free x is = refl
own_no_sum own (y ∷ ys) free x is =
    or_false _ _ (true_or_false (bytes_eq (name_of_sum y) x) (λ same. not_both (own x) is (ap own (sym (same_key (name_of_sum y) x same)) ∙ free.0))) (own_no_sum own ys free.1 x is)
