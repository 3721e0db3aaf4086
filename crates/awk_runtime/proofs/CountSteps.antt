-- Records that are counted one by one, where many are counted at once.
use Rattle.std.proofs.Common.{◌≡◌, ℕ, suc, ℤ, pos, Bool, true, false, List, ◌∷◌, Ok, refl, sym, ap, ◌∙◌, subst, arith}
use Rattle.std.specs.Prelude.{◌+ℤ◌, bytes_eq, if◌then◌else◌}
use Rattle.std.proofs.lemmas.Int.{ints}
use Rattle.std.proofs.lemmas.Slice.Eq.{bytes_eq-Decides}
use Rattle.awk_value.specs.declared.value.Value.{Value}
use Rattle.awk_value.specs.declared.value.Value.TheVariants as value
use Rattle.awk_value.specs.Arithmetic.{range_checked, sum_of}
use Rattle.awk_kinds.specs.declared.special.Special.TheVariants.{Fnr, Nr}
use Rattle.awk_kinds.specs.Variables.{Pairs, value_of, name_of, with_value, CountsRecords}
use Rattle.awk_runtime.proofs.VariableWords.{turned}

-- NR and FNR put before all others
abbrev pub counted_pairs : (all in_file : ℤ) → Pairs → Pairs
counted_pairs all in_file pairs = (name_of Fnr, value.Number in_file) ∷ (name_of Nr, value.Number all) ∷ pairs

same_eq : (x y : List ℕ) → bytes_eq x y ≡ bytes_eq y x
same_eq x y = by (bytes_eq y x) refl
  where
    by : (b : Bool) → bytes_eq y x ≡ b → bytes_eq x y ≡ b
    by true is = (bytes_eq-Decides x y).1 (sym ((bytes_eq-Decides y x).0 is))
    by false is = turned y x is

-- their values
pairs_values : (all in_file : ℤ) (pairs : Pairs) (x : List ℕ) → value_of (counted_pairs all in_file pairs) x ≡ with_value (with_value (value_of pairs) (name_of Nr) (value.Number all)) (name_of Fnr) (value.Number in_file) x
pairs_values all in_file pairs x =
    by (bytes_eq x (name_of Fnr)) (bytes_eq x (name_of Nr)) refl refl
    ∙ (ap (λ b. if b then value.Number in_file else (if bytes_eq x (name_of Nr) then value.Number all else value_of pairs x)) (same_eq x (name_of Fnr))
    ∙ ap (λ b. if bytes_eq (name_of Fnr) x then value.Number in_file else (if b then value.Number all else value_of pairs x)) (same_eq x (name_of Nr)))
  where
    by : (b c : Bool) → bytes_eq x (name_of Fnr) ≡ b → bytes_eq x (name_of Nr) ≡ c → value_of (counted_pairs all in_file pairs) x ≡ (if bytes_eq x (name_of Fnr) then value.Number in_file else (if bytes_eq x (name_of Nr) then value.Number all else value_of pairs x))
    by true c is is' = rw is refl
    by false true is is' = rw (is, is') refl
    by false false is is' = rw (is, is') refl

-- what is given last counts
given_twice : (b c : Bool) (v w v' w' o : Value) → (if b then w' else (if c then v' else (if b then w else (if c then v else o)))) ≡ (if b then w' else (if c then v' else o))
given_twice true c v w v' w' o = refl
given_twice false true v w v' w' o = refl
given_twice false false v w v' w' o = refl

one_more : (n : ℤ) (k : ℕ) → (n +ℤ pos 1) +ℤ pos k ≡ n +ℤ pos (suc k)
one_more n k = omega (arith, ints)

sums_on : (n : ℤ) (k : ℕ) → sum_of n (pos (suc k)) ≡ Ok (n +ℤ pos (suc k)) → sum_of (n +ℤ pos 1) (pos k) ≡ Ok ((n +ℤ pos 1) +ℤ pos k)
sums_on n k fits = subst (λ z. range_checked z ≡ Ok z) (sym (one_more n k)) fits

-- the first is counted, and then the others
module _ (count : ℕ) (pairs : Pairs) (new : List ℕ → Value) (c : CountsRecords (suc count) (value_of pairs) new) where
  abbrev pub counted_first : Pairs
  counted_first = counted_pairs (c.all +ℤ pos 1) (c.in_file +ℤ pos 1) pairs

  pub first_counted : CountsRecords 1 (value_of pairs) (value_of counted_first)
  first_counted = record {
    all = c.all;
    in_file = c.in_file;
    nr = c.nr;
    fnr = c.fnr;
    nr_counts = λ k few. c.nr_counts k (omega arith);
    fnr_counts = λ k few. c.fnr_counts k (omega arith);
    counted = pairs_values (c.all +ℤ pos 1) (c.in_file +ℤ pos 1) pairs;
  }

  pub others_counted : CountsRecords count (value_of counted_first) new
  others_counted = record {
    all = c.all +ℤ pos 1;
    in_file = c.in_file +ℤ pos 1;
    nr = refl;
    fnr = refl;
    nr_counts = λ k few. sums_on c.all k (c.nr_counts (suc k) (omega arith));
    fnr_counts = λ k few. sums_on c.in_file k (c.fnr_counts (suc k) (omega arith));
    counted = λ x.
        c.counted x
        ∙ (sym (given_twice (bytes_eq (name_of Fnr) x) (bytes_eq (name_of Nr) x) (value.Number (c.all +ℤ pos 1)) (value.Number (c.in_file +ℤ pos 1)) (value.Number (c.all +ℤ pos (suc count))) (value.Number (c.in_file +ℤ pos (suc count))) (value_of pairs x))
        ∙ (ap (λ o. if bytes_eq (name_of Fnr) x then value.Number (c.in_file +ℤ pos (suc count)) else (if bytes_eq (name_of Nr) x then value.Number (c.all +ℤ pos (suc count)) else o)) (sym (pairs_values (c.all +ℤ pos 1) (c.in_file +ℤ pos 1) pairs x))
        ∙ (ap (λ z. if bytes_eq (name_of Fnr) x then value.Number z else (if bytes_eq (name_of Nr) x then value.Number (c.all +ℤ pos (suc count)) else value_of counted_first x)) (sym (one_more c.in_file count))
        ∙ ap (λ z. if bytes_eq (name_of Fnr) x then value.Number ((c.in_file +ℤ pos 1) +ℤ pos count) else (if bytes_eq (name_of Nr) x then value.Number z else value_of counted_first x)) (sym (one_more c.all count)))));
  }

-- where none is counted, the values are as they were
none_more : (n : ℤ) → n +ℤ pos 0 ≡ n
none_more n = omega (arith, ints)

own_value : (f : List ℕ → Value) (x y : List ℕ) (v : Value) → f x ≡ v → (if bytes_eq x y then v else f y) ≡ f y
own_value f x y v is = by (bytes_eq x y) refl
  where
    by : (b : Bool) → bytes_eq x y ≡ b → (if b then v else f y) ≡ f y
    by true e = sym is ∙ ap f ((bytes_eq-Decides x y).0 e)
    by false e = refl

pub none_counted : (old new : List ℕ → Value) → CountsRecords 0 old new → (x : List ℕ) → new x ≡ old x
none_counted old new c x =
    c.counted x
    ∙ (ap (λ z. if bytes_eq (name_of Fnr) x then value.Number z else with_value old (name_of Nr) (value.Number (c.all +ℤ pos 0)) x) (none_more c.in_file)
    ∙ (ap (λ o. if bytes_eq (name_of Fnr) x then value.Number c.in_file else o) (ap (λ z. if bytes_eq (name_of Nr) x then value.Number z else old x) (none_more c.all) ∙ own_value old (name_of Nr) x (value.Number c.all) c.nr)
    ∙ own_value old (name_of Fnr) x (value.Number c.in_file) c.fnr))
