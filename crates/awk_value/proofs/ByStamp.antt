-- Rows by their stamps: one stamp more is one item more, in its place.
use Rattle.std.proofs.Common.{◌≡◌, ℕ, zero, suc, ◌<◌, ◌≤◌, Bool, true, false, cond, nat_eq, List, [], ◌∷◌, ◌++◌, refl, ap, ◌∙◌, Option, Some, None, append_assoc, arith}
use Rattle.std.specs.Option.{option_to_list}
use Rattle.std.specs.Map.{lookup, set_value, remove_entry}
use Rattle.std.specs.List.{AllByRecursion}
use Rattle.std.proofs.lemmas.Bool.Decides.{nat_tests}
use Rattle.awk_value.specs.support.StampOrder.{stamp_order}

eqb_apart : (m n : ℕ) → (m ≡ n → ⊥) → nat_eq m n ≡ false
eqb_apart m n h = grind (arith, nat_tests)

module _ {P : Type 0} where
  -- a stamp_ordering reads the look-ups below n
  pub stamp_order-same : (n : ℕ) (xs ys : List (ℕ × P))
      → ((s : ℕ) → s < n → lookup (nat_eq s) xs ≡ lookup (nat_eq s) ys) → stamp_order n xs ≡ stamp_order n ys
  stamp_order-same zero xs ys h = refl
  stamp_order-same (suc n) xs ys h =
      λ j. stamp_order-same n xs ys (λ s l. h s (omega arith)) j ++ option_to_list (h n (omega arith) j)

  -- a stamp that is not reached
  pub stamp_order-past : (n s : ℕ) (p : P) (rest : List (ℕ × P)) → n ≤ s
      → stamp_order n ((s, p) ∷ rest) ≡ stamp_order n rest
  stamp_order-past n s p rest h =
      stamp_order-same n ((s, p) ∷ rest) rest (λ q l. let e = eqb_apart q s (λ x. omega arith) in ap (λ b. cond b (Some p) (lookup (nat_eq q) rest)) e)

  pub record Split (n s : ℕ) (rest : List (ℕ × P)) : Type 0 where
    pub before : List P
    pub after : List P
    pub without : stamp_order n rest ≡ before ++ after
    pub with : (p : P) → stamp_order n ((s, p) ∷ rest) ≡ before ++ p ∷ after

  split_by : (m s : ℕ) (rest : List (ℕ × P)) → (s < m → Split m s rest) → s < suc m
      → lookup (nat_eq s) rest ≡ None → (b : Bool) → nat_eq m s ≡ b → Split (suc m) s rest
  split_by m s rest ih l none true e =
      let same : m ≡ s = grind (arith, nat_tests) in
      let gone : lookup (nat_eq m) rest ≡ None = ap (λ (k : ℕ). lookup (nat_eq k) rest) same ∙ none in
      record {
        before = stamp_order m rest;
        after = [];
        without = ap (λ o. stamp_order m rest ++ option_to_list o) gone;
        with =
            λ p. (λ j. stamp_order-past m s p rest (omega arith) j ++ option_to_list (cond (e j) (Some p) (lookup (nat_eq m) rest)));
      }
  split_by m s rest ih l none false e =
      let apart : m ≡ s → ⊥ = λ x. grind (arith, nat_tests) in
      let r = ih (omega arith) in
      let o = lookup (nat_eq m) rest in
      record {
        before = r.before;
        after = r.after ++ option_to_list o;
        without = ap (λ l. l ++ option_to_list o) r.without ∙ append_assoc r.before r.after (option_to_list o);
        with =
            λ p. (λ j. r.with p j ++ option_to_list (cond (e j) (Some p) o))
            ∙ append_assoc r.before (p ∷ r.after) (option_to_list o);
      }

  -- one stamp more is one item more, in its place
  pub split : (n s : ℕ) (rest : List (ℕ × P)) → s < n → lookup (nat_eq s) rest ≡ None → Split n s rest
  split zero s rest l none = absurd (omega arith)
  split (suc m) s rest l none = split_by m s rest (λ h. split m s rest h none) l none (nat_eq m s) refl

  -- what holds of each row's item holds of each ordered
  all_push : (Q : P → Type 0) (xs : List P) (o : Option P) → AllByRecursion Q xs
      → AllByRecursion Q (option_to_list o) → AllByRecursion Q (xs ++ option_to_list o)
  all_push Q [] o a b = b
  all_push Q (x ∷ xs) o a b = (a.0, all_push Q xs o a.1 b)

  all_looked : (Q : P → Type 0) (s : ℕ) (rows : List (ℕ × P)) → AllByRecursion (λ r. Q r.1) rows
      → AllByRecursion Q (option_to_list (lookup (nat_eq s) rows))
  all_looked Q s [] a = tt
  all_looked Q s (r ∷ rs) a =
      elim (nat_eq s r.0) as (λ (b : Bool). AllByRecursion Q (option_to_list (cond b (Some r.1) (lookup (nat_eq s) rs)))) [ true ↦ (a.0, tt) | false ↦ all_looked Q s rs a.1 ]

  pub all_stamp_order : (Q : P → Type 0) (n : ℕ) (rows : List (ℕ × P)) → AllByRecursion (λ r. Q r.1) rows
      → AllByRecursion Q (stamp_order n rows)
  all_stamp_order Q zero rows a = tt
  all_stamp_order Q (suc n) rows a =
      all_push Q (stamp_order n rows) (lookup (nat_eq n) rows) (all_stamp_order Q n rows a) (all_looked Q n rows a)

  pub all_left : (Q : P → Type 0) (xs ys : List P) → AllByRecursion Q (xs ++ ys) → AllByRecursion Q xs
  all_left Q [] ys a = tt
  all_left Q (x ∷ xs) ys a = (a.0, all_left Q xs ys a.1)

-- the words on pairs at a key that stands between xs and ys, and not in xs
module _ {L V : Type 0} (t : L → Bool) (k : L) (v : V) (here : t k ≡ true) (ys : List (L × V)) where
  pub lookup-between : (xs : List (L × V)) → AllByRecursion (λ e. t e.0 ≡ false) xs
      → lookup t (xs ++ (k, v) ∷ ys) ≡ Some v
  lookup-between [] a = ap (λ b. cond b (Some v) (lookup t ys)) here
  lookup-between (x ∷ xs) a = ap (λ b. cond b (Some x.1) (lookup t (xs ++ (k, v) ∷ ys))) a.0 ∙ lookup-between xs a.1

  pub remove-between : (xs : List (L × V)) → AllByRecursion (λ e. t e.0 ≡ false) xs
      → remove_entry t (xs ++ (k, v) ∷ ys) ≡ xs ++ ys
  remove-between [] a = ap (λ b. cond b ys ((k, v) ∷ remove_entry t ys)) here
  remove-between (x ∷ xs) a =
      ap (λ b. cond b (xs ++ (k, v) ∷ ys) (x ∷ remove_entry t (xs ++ (k, v) ∷ ys))) a.0
      ∙ ap (λ l. x ∷ l) (remove-between xs a.1)

  pub set-between : (w : V) (xs : List (L × V)) → AllByRecursion (λ e. t e.0 ≡ false) xs
      → set_value t (xs ++ (k, v) ∷ ys) w ≡ xs ++ (k, w) ∷ ys
  set-between w [] a = ap (λ b. cond b ((k, w) ∷ ys) ((k, v) ∷ set_value t ys w)) here
  set-between w (x ∷ xs) a =
      ap (λ b. cond b ((x.0, w) ∷ xs ++ (k, v) ∷ ys) (x ∷ set_value t (xs ++ (k, v) ∷ ys) w)) a.0
      ∙ ap (λ l. x ∷ l) (set-between w xs a.1)
