-- Entries that change places, and entries in the order of their stamps.
use Rattle.std.proofs.Common.{◌≡◌, ℕ, zero, suc, ◌+◌, ◌-◌, ◌<◌, ◌≤◌, Bool, true, false, cond, nat_eq, nat_lt, List, [], ◌∷◌, ◌++◌, map, length, get_or, refl, sym, ap, subst, ◌∙◌, Option, Some, None, position, not, take, slice_set, arith}
use Rattle.std.specs.Option.{option_to_list, option_map_or, option_map}
use Rattle.std.specs.Map.{lookup, remove_entry, keys_of}
use Rattle.std.specs.List.{IsDistinct, AllByRecursion, position_or_len, swap_remove}
use Rattle.std.specs.List.Sorted.{IsPermutation, IsNonDecreasingBy}
use Rattle.std.proofs.lemmas.Bool.Decides.{nat_tests}
use Rattle.std.proofs.lemmas.Cmp.{nat_eq_equiv}
use Rattle.std.proofs.lemmas.List.{get_or_default, length-map}
use Rattle.std.proofs.lemmas.List.Elements.{recursion_from_All, All-from_recursion}
use Rattle.std.proofs.lemmas.List.Sorted.{IsPermutation-map, IsPermutation-sym, IsPermutation-swap_remove, Contains-permutation, All-permutation}
use Rattle.std.proofs.lemmas.Map.Keys.{IsDistinct-IsPermutation}
use Rattle.std.proofs.lemmas.Map.Views.{exact_unsigned_eq, Contains-from_lookup, lookup-from_Contains}
use Rattle.indexmap.specs.IndexMap.{swap_remove_entry}
use Rattle.awk_value.proofs.Rows.{map-both}
use Rattle.awk_value.specs.support.StampOrder.{stamp_order}
use Rattle.awk_value.proofs.ByStamp.{stamp_order-same, stamp_order-past, split}
use Rattle.awk_value.proofs.OneEntry.{rows, Kept, none_apart, some_same, ltb_apart, taken_there, below_there, remove-ordered, kept_push, stamp_order-push, ordered_free}
use Rattle.std.proofs.lemmas.Map.{none_passes_from_lookup}
use Rattle.awk_value.proofs.Counts.{stamp_order-nil}

pub flips : (x y : ℕ) → nat_eq x y ≡ nat_eq y x
flips x y = by (nat_eq x y) (nat_eq y x) refl refl
  where
    by : (a b : Bool) → nat_eq x y ≡ a → nat_eq y x ≡ b → a ≡ b
    by true true p q = refl
    by false false p q = refl
    by true false p q = grind (arith, nat_tests)
    by false true p q = grind (arith, nat_tests)

next : (a b : ℕ) → a ≡ b → 1 + a ≡ suc b
next a b e = omega arith

-- look-ups by distinct stamps don't see the places
pub looked-moved : {P : Type 0} (xs ys : List (ℕ × P)) → IsPermutation xs ys → IsDistinct nat_eq (keys_of xs)
    → (s : ℕ) → lookup (nat_eq s) xs ≡ lookup (nat_eq s) ys
looked-moved {P} xs ys m d s = by (lookup (nat_eq s) xs) (lookup (nat_eq s) ys) refl refl
  where
    dy : IsDistinct nat_eq (keys_of ys)
    dy = IsDistinct-IsPermutation nat_eq flips (keys_of xs) (keys_of ys) (IsPermutation-map (λ e. e.0) xs ys m) d

    over : (v : P) → lookup (nat_eq s) xs ≡ Some v → lookup (nat_eq s) ys ≡ Some v
    over v e =
        lookup-from_Contains nat_eq_equiv s v ys dy (Contains-permutation xs ys (s, v) m (Contains-from_lookup exact_unsigned_eq s v xs e))

    back : (v : P) → lookup (nat_eq s) ys ≡ Some v → lookup (nat_eq s) xs ≡ Some v
    back v e =
        lookup-from_Contains nat_eq_equiv s v xs d (Contains-permutation ys xs (s, v) (IsPermutation-sym xs ys m) (Contains-from_lookup exact_unsigned_eq s v ys e))

    by : (a b : Option P) → lookup (nat_eq s) xs ≡ a → lookup (nat_eq s) ys ≡ b
        → lookup (nat_eq s) xs ≡ lookup (nat_eq s) ys
    by (Some v) b p q = p ∙ sym (over v p)
    by None (Some w) p q = back w q ∙ sym q
    by None None p q = p ∙ sym q

-- an array doesn't see the places of its rows
pub stamp_order-moved : {P : Type 0} (n : ℕ) (xs ys : List (ℕ × P)) → IsPermutation xs ys
    → IsDistinct nat_eq (keys_of xs) → stamp_order n xs ≡ stamp_order n ys
stamp_order-moved n xs ys m d = stamp_order-same n xs ys (λ s l. looked-moved xs ys m d s)

module _ {K X : Type 0} (t : K → Bool) (x : X) where
  record Placed (es : List (K × X)) : Type 0 where
    pub key : K
    pub index : ℕ
    pub within : index < length es
    pub at : (d : K × X) → get_or es index d ≡ (key, x)
    pub is : position_or_len t (keys_of es) ≡ index

  placed : (es : List (K × X)) → lookup t es ≡ Some x → Placed es
  placed [] e = absurd (let n : None ≡ Some x = e in cc)
  placed (f ∷ fs) e = by (placed fs) (t f.0) refl
    where
      by : (lookup t fs ≡ Some x → Placed fs) → (b : Bool) → t f.0 ≡ b → Placed (f ∷ fs)
      by ih true p =
          let is : f.1 ≡ x = some_same f.1 x (sym (ap (λ b. cond b (Some f.1) (lookup t fs)) p) ∙ e) in
          record {
            key = f.0;
            index = 0;
            within = omega arith;
            at = λ d. (λ j. (f.0, is j));
            is = ap (λ b. cond (not b) (1 + position_or_len t (keys_of fs)) 0) p;
          }
      by ih false p =
          let r = ih (sym (ap (λ b. cond b (Some f.1) (lookup t fs)) p) ∙ e) in
          let w : r.index < length fs = r.within in
          record {
            key = r.key;
            index = suc r.index;
            within = omega arith;
            at = r.at;
            is =
                ap (λ b. cond (not b) (1 + position_or_len t (keys_of fs)) 0) p
                ∙ next (position_or_len t (keys_of fs)) r.index r.is;
          }

below_true : (i n : ℕ) → i < n → nat_lt i n ≡ true
below_true i n h = grind (arith, nat_tests)

same_false : (n : ℕ) → nat_lt n n ≡ false
same_false n = grind (arith, nat_tests)

-- a swap_remove that hits moves the entry to the front
pub swap-hit : {K X : Type 0} (t : K → Bool) (x : X) (es : List (K × X)) → lookup t es ≡ Some x
    → (k : K) × IsPermutation es ((k, x) ∷ swap_remove_entry t es)
swap-hit t x [] e = absurd (let n : None ≡ Some x = e in cc)
swap-hit {K} {X} t x (f ∷ fs) e =
    let es : List (K × X) = f ∷ fs in
    let r = placed t x es e in
    let i : ℕ = r.index in
    let w : i < length es = r.within in
    let k : K × X = (r.key, x) in
    let long : length (keys_of es) ≡ length es = length-map es (λ p. p.0) in
    let value_at : position t (keys_of es) ≡ Some i =
    (λ j. cond (nat_lt (r.is j) (long j)) (Some (r.is j)) None)
    ∙ ap (λ b. cond b (Some i) None) (below_true i (length es) w) in
    let gone : swap_remove_entry t es ≡ swap_remove es i f =
    ap (λ o. option_map_or (λ n. swap_remove es n f) o es) value_at in
    let last : swap_remove es i f ≡ swap_remove es i k =
    ap (λ y. take (length es - 1) (slice_set es i y)) (get_or_default es (length es - 1) f k (omega arith)) in
    (r.key, subst (λ l. IsPermutation es (k ∷ l)) (sym (gone ∙ last)) (IsPermutation-swap_remove es i k w (sym (r.at k))))

-- one that misses changes nothing
pub swap-missed : {K X : Type 0} (t : K → Bool) (es : List (K × X)) → lookup t es ≡ None → swap_remove_entry t es ≡ es
swap-missed t [] e = refl
swap-missed {K} {X} t (f ∷ fs) e =
    let es : List (K × X) = f ∷ fs in
    let long : length (keys_of es) ≡ length es = length-map es (λ p. p.0) in
    let value_at : position t (keys_of es) ≡ None =
    (λ j. cond (nat_lt (beyond es e j) (long j)) (Some (beyond es e j)) None)
    ∙ ap (λ b. cond b (Some (length es)) None) (same_false (length es)) in
    ap (λ o. option_map_or (λ n. swap_remove es n f) o es) value_at
  where
    beyond : (es : List (K × X)) → lookup t es ≡ None → position_or_len t (keys_of es) ≡ length es
    beyond [] e = refl
    beyond (f ∷ fs) e = by (beyond fs) (t f.0) refl
      where
        by : (lookup t fs ≡ None → position_or_len t (keys_of fs) ≡ length fs) → (b : Bool) → t f.0 ≡ b
            → position_or_len t (keys_of (f ∷ fs)) ≡ length (f ∷ fs)
        by ih true p = absurd (let n : None ≡ Some f.1 = sym e ∙ ap (λ b. cond b (Some f.1) (lookup t fs)) p in cc)
        by ih false p =
            ap (λ b. cond (not b) (1 + position_or_len t (keys_of fs)) 0) p
            ∙ next (position_or_len t (keys_of fs)) (length fs) (ih (sym (ap (λ b. cond b (Some f.1) (lookup t fs)) p) ∙ e))

all_from : {X : Type 0} (Q : X → Type 0) (xs : List X) → ((j : ℕ) (d : X) → j < length xs → Q (get_or xs j d))
    → AllByRecursion Q xs
all_from Q [] h = tt
all_from Q (x ∷ xs) h = (h 0 x (omega arith), all_from Q xs (λ j d l. h (suc j) d (omega arith)))

-- no look-up below the least stamp
stamp_order-above : {P : Type 0} (n : ℕ) (rs : List (ℕ × P)) → AllByRecursion (λ r. n ≤ r.0) rs → stamp_order n rs ≡ []
stamp_order-above zero rs a = refl
stamp_order-above {P} (suc m) rs a =
    (λ j. stamp_order-above m rs (less rs a) j ++ option_to_list (absent rs a j))
  where
    less : (rs : List (ℕ × P)) → AllByRecursion (λ r. suc m ≤ r.0) rs → AllByRecursion (λ r. m ≤ r.0) rs
    less [] a = tt
    less (r ∷ rs) a = (let l : suc m ≤ r.0 = a.0 in omega arith, less rs a.1)

    absent : (rs : List (ℕ × P)) → AllByRecursion (λ r. suc m ≤ r.0) rs → lookup (nat_eq m) rs ≡ None
    absent [] a = refl
    absent (r ∷ rs) a =
        let l : suc m ≤ r.0 = a.0 in
        ap (λ b. cond b (Some r.1) (lookup (nat_eq m) rs)) (ltb_apart m r.0 (omega arith)) ∙ absent rs a.1

-- the least stamp's item comes first
stamp_order-first : {P : Type 0} (n s : ℕ) (p : P) (rs : List (ℕ × P)) → s < n → AllByRecursion (λ r. s < r.0) rs
    → stamp_order n ((s, p) ∷ rs) ≡ p ∷ stamp_order n rs
stamp_order-first zero s p rs l a = absurd (omega arith)
stamp_order-first {P} (suc m) s p rs l a = by (λ h. stamp_order-first m s p rs h a) (nat_eq m s) refl
  where
    over : (k : ℕ) → k ≤ suc s → (rs : List (ℕ × P)) → AllByRecursion (λ r. s < r.0) rs
        → AllByRecursion (λ r. k ≤ r.0) rs
    over k h [] a = tt
    over k h (r ∷ rs) a = (let l : s < r.0 = a.0 in omega arith, over k h rs a.1)

    by : (s < m → stamp_order m ((s, p) ∷ rs) ≡ p ∷ stamp_order m rs) → (b : Bool) → nat_eq m s ≡ b
        → stamp_order (suc m) ((s, p) ∷ rs) ≡ p ∷ stamp_order (suc m) rs
    by ih true e =
        let same : m ≡ s = grind (arith, nat_tests) in
        let front : stamp_order m ((s, p) ∷ rs) ≡ [] =
        stamp_order-past m s p rs (omega arith) ∙ stamp_order-above m rs (over m (omega arith) rs a) in
        let back : stamp_order (suc m) rs ≡ [] = stamp_order-above (suc m) rs (over (suc m) (omega arith) rs a) in
        (λ j. front j ++ option_to_list (cond (e j) (Some p) (lookup (nat_eq m) rs))) ∙ ap (λ l. p ∷ l) (sym back)
    by ih false e =
        let apart : m ≡ s → ⊥ = λ x. grind (arith, nat_tests) in
        (λ j. ih (omega arith) j ++ option_to_list (cond (e j) (Some p) (lookup (nat_eq m) rs)))

module _ {K E L V : Type 0} (name : K → L) (stamp : E → ℕ) (value : E → V) where
  abbrev row : K × E → ℕ × (L × V)
  row e = (stamp e.1, (name e.0, value e.1))

  pub kept-moved : (eq : K → K → Bool) → ((x y : K) → eq x y ≡ eq y x) → (n : ℕ) (es fs : List (K × E))
      → IsPermutation es fs → Kept name stamp value eq n es → Kept name stamp value eq n fs
  kept-moved eq turn n es fs m i =
      let rm = IsPermutation-map row es fs m in
      let sm = IsPermutation-map (λ r. r.0) (rows name stamp value es) (rows name stamp value fs) rm in (
        IsDistinct-IsPermutation nat_eq flips _ _ sm i.0,
        IsDistinct-IsPermutation eq turn _ _ (IsPermutation-map (λ e. e.0) es fs m) i.1,
        recursion_from_All (λ s. s < n) _ (All-permutation (λ s. s < n) _ _ sm (All-from_recursion (λ s. s < n) _ i.2)),
      )

  pub ordered-moved : (eq : K → K → Bool) (n : ℕ) (es fs : List (K × E)) → IsPermutation es fs
      → Kept name stamp value eq n es
      → stamp_order n (rows name stamp value fs) ≡ stamp_order n (rows name stamp value es)
  ordered-moved eq n es fs m i = sym (stamp_order-moved n _ _ (IsPermutation-map row es fs m) i.0)

  -- an entry taken out, wherever the others went
  module _ (eq : K → K → Bool) (turn : (x y : K) → eq x y ≡ eq y x) (n : ℕ) (es fs : List (K × E)) (k : K) (x : E) (m : IsPermutation es ((k, x) ∷ fs)) (i : Kept name stamp value eq n es) where
    pub kept-taken : Kept name stamp value eq n fs
    unfolding IsDistinct
    kept-taken = let k = kept-moved eq turn n es ((k, x) ∷ fs) m i in (k.0.1, k.1.1, k.2.1)

    pub ordered-taken : (p : L → Bool) → ((x y : K) → p (name x) ≡ true → p (name y) ≡ eq x y)
        → lookup (λ k. p (name k)) es ≡ Some x
        → stamp_order n (rows name stamp value fs) ≡ remove_entry p (stamp_order n (rows name stamp value es))
    unfolding IsDistinct
    ordered-taken p is_test e =
        let gs : List (K × E) = remove_entry (λ k. p (name k)) es in
        let d = kept-moved eq turn n es ((k, x) ∷ fs) m i in
        let r = taken_there name stamp value eq n p is_test es i.0 i.1 i.2 x e in
        let l = below_there name stamp value eq n p is_test es i.0 i.1 i.2 x e in
        let none : lookup (nat_eq (stamp x)) (rows name stamp value fs) ≡ None =
        none_apart (stamp x) (rows name stamp value fs) d.0.0 in
        let each : (q : ℕ) → lookup (nat_eq q) (rows name stamp value fs) ≡ lookup (nat_eq q) (rows name stamp value gs) =
        λ q. one x fs gs none r.absent q (nat_eq q (stamp x)) refl (k, x) (r.key, x)
        (sym (looked-moved (rows name stamp value es) (rows name stamp value ((k, x) ∷ fs)) (IsPermutation-map row es ((k, x) ∷ fs) m) i.0 q) ∙ r.own q) in
        stamp_order-same n (rows name stamp value fs) (rows name stamp value gs) (λ q h. each q)
        ∙ remove-ordered name stamp value n p es x l r
      where
        one : (x : E) (fs gs : List (K × E)) → lookup (nat_eq (stamp x)) (rows name stamp value fs) ≡ None
            → lookup (nat_eq (stamp x)) (rows name stamp value gs) ≡ None → (q : ℕ) (b : Bool)
            → nat_eq q (stamp x) ≡ b
            → (u v : K × E)
            → lookup (nat_eq q) ((stamp x, (name u.0, value x)) ∷ rows name stamp value fs) ≡ lookup (nat_eq q) ((stamp x, (name v.0, value x)) ∷ rows name stamp value gs)
            → lookup (nat_eq q) (rows name stamp value fs) ≡ lookup (nat_eq q) (rows name stamp value gs)
        one x fs gs a b q true e u v h =
            let same : q ≡ stamp x = grind (arith, nat_tests) in
            ap (λ k. lookup (nat_eq k) (rows name stamp value fs)) same ∙ a ∙ sym b
            ∙ ap (λ k. lookup (nat_eq k) (rows name stamp value gs)) (sym same)
        one x fs gs a b q false e u v h =
            sym (ap (λ c. cond c (Some (name u.0, value x)) (lookup (nat_eq q) (rows name stamp value fs))) e) ∙ h
            ∙ ap (λ c. cond c (Some (name v.0, value x)) (lookup (nat_eq q) (rows name stamp value gs))) e

  -- an entry more, wherever it went
  module _ (eq : K → K → Bool) (turn : (x y : K) → eq x y ≡ eq y x) (n m : ℕ) (k : K) (x : E) (es fs : List (K × E)) (s : stamp x ≡ n) (e : m ≡ n + 1)
      (none : lookup (eq k) es ≡ None) (i : Kept name stamp value eq n es) (moves : IsPermutation (es ++ (k, x) ∷ []) fs) where
    last_kept : Kept name stamp value eq m (es ++ (k, x) ∷ [])
    unfolding IsDistinct
    last_kept =
        kept_push name stamp value eq n m k x es (es ++ (k, x) ∷ []) refl s e (distinct-more es (none_passes_from_lookup (eq k) es none) i.1) i
      where
        apart : (f : K × E) (es : List (K × E)) → eq k f.0 ≡ false
            → AllByRecursion (λ y. eq f.0 y ≡ false) (keys_of es)
            → AllByRecursion (λ y. eq f.0 y ≡ false) (keys_of (es ++ (k, x) ∷ []))
        apart f [] h a = (turn f.0 k ∙ h, tt)
        apart f (g ∷ gs) h a = (a.0, apart f gs h a.1)

        distinct-more : (es : List (K × E)) → AllByRecursion (λ e. eq k e.0 ≡ false) es
            → IsDistinct eq (keys_of es) → IsDistinct eq (keys_of (es ++ (k, x) ∷ []))
        distinct-more [] a d = (tt, tt)
        distinct-more (f ∷ fs) a d = (apart f fs a.0 d.0, distinct-more fs a.1 d.1)

    pub kept-more : Kept name stamp value eq m fs
    kept-more = kept-moved eq turn m (es ++ (k, x) ∷ []) fs moves last_kept

    pub ordered-more : stamp_order m (rows name stamp value fs) ≡ stamp_order n (rows name stamp value es) ++ (name k, value x) ∷ []
    ordered-more =
        ordered-moved eq m (es ++ (k, x) ∷ []) fs moves last_kept
        ∙ stamp_order-push name stamp value eq n m k x es (es ++ (k, x) ∷ []) refl s e i

-- rows in the order of their stamps are the array
pub stamp_order-ordered : {P : Type 0} (n : ℕ) (rs : List (ℕ × P)) → IsNonDecreasingBy (λ r. r.0) rs
    → IsDistinct nat_eq (keys_of rs) → AllByRecursion (λ s. s < n) (keys_of rs) → stamp_order n rs ≡ map (λ r. r.1) rs
unfolding IsDistinct
stamp_order-ordered n [] s d b = stamp_order-nil n
stamp_order-ordered {P} n (r ∷ rs) s d b =
    stamp_order-first n r.0 r.1 rs b.0 (later rs (all_from (λ f. r.0 ≤ f.0) rs (λ j e l. s 0 (suc j) e (omega arith) (omega arith))) d.0)
    ∙ ap (λ l. r.1 ∷ l) (stamp_order-ordered n rs (λ a c e l h. s (suc a) (suc c) e (omega arith) (omega arith)) d.1 b.1)
  where
    above : (x y : ℕ) → x ≤ y → nat_eq x y ≡ false → x < y
    above x y l h = let apart : x ≡ y → ⊥ = λ z. grind (arith, nat_tests) in omega arith

    later : (fs : List (ℕ × P)) → AllByRecursion (λ f. r.0 ≤ f.0) fs
        → AllByRecursion (λ s. nat_eq r.0 s ≡ false) (keys_of fs) → AllByRecursion (λ f. r.0 < f.0) fs
    later [] a b = tt
    later (f ∷ fs) a b = (above r.0 f.0 a.0 b.0, later fs a.1 b.1)

-- what is made of each item
module _ {P Q : Type 0} (f : P → Q) where
  lookup-made : (p : ℕ → Bool) (rs : List (ℕ × P)) → lookup p (map (λ r. (r.0, f r.1)) rs) ≡ option_map f (lookup p rs)
  lookup-made p [] = refl
  lookup-made p (r ∷ rs) = by (p r.0) (lookup p (map (λ r. (r.0, f r.1)) rs)) (lookup p rs) (lookup-made p rs)
    where
      by : (b : Bool) (x : Option Q) (y : Option P) → x ≡ option_map f y
          → cond b (Some (f r.1)) x ≡ option_map f (cond b (Some r.1) y)
      by true x y h = refl
      by false x y h = h

  option-made : (o : Option P) → option_to_list (option_map f o) ≡ map f (option_to_list o)
  option-made None = refl
  option-made (Some p) = refl

  pub stamp_order-made : (n : ℕ) (rs : List (ℕ × P))
      → stamp_order n (map (λ r. (r.0, f r.1)) rs) ≡ map f (stamp_order n rs)
  stamp_order-made zero rs = refl
  stamp_order-made (suc n) rs =
      (λ j. stamp_order-made n rs j ++ option_to_list (lookup-made (nat_eq n) rs j))
      ∙ ap (λ l. map f (stamp_order n rs) ++ l) (option-made (lookup (nat_eq n) rs))
      ∙ sym (map-both f (stamp_order n rs) (option_to_list (lookup (nat_eq n) rs)))

-- the array's keys differ
module _ {K V : Type 0} (eq : K → K → Bool) (turn : (x y : K) → eq x y ≡ eq y x) where
  distinct-middle : (k : K) (v : V) (xs ys : List (K × V)) → AllByRecursion (λ e. eq k e.0 ≡ false) (xs ++ ys)
      → IsDistinct eq (keys_of (xs ++ ys)) → IsDistinct eq (keys_of (xs ++ (k, v) ∷ ys))
  unfolding IsDistinct
  distinct-middle k v [] ys a d = (keyed ys a, d)
    where
      keyed : (ys : List (K × V)) → AllByRecursion (λ e. eq k e.0 ≡ false) ys
          → AllByRecursion (λ y. eq k y ≡ false) (keys_of ys)
      keyed [] a = tt
      keyed (y ∷ ys) a = (a.0, keyed ys a.1)
  distinct-middle k v (x ∷ xs) ys a d = (among xs d.0, distinct-middle k v xs ys a.1 d.1)
    where
      among : (xs : List (K × V)) → AllByRecursion (λ y. eq x.0 y ≡ false) (keys_of (xs ++ ys))
          → AllByRecursion (λ y. eq x.0 y ≡ false) (keys_of (xs ++ (k, v) ∷ ys))
      among [] h = (turn x.0 k ∙ a.0, h)
      among (z ∷ zs) h = (h.0, among zs h.1)

module _ {K E L V : Type 0} (name : K → L) (stamp : E → ℕ) (value : E → V) (eq : L → L → Bool) (turn : (x y : L) → eq x y ≡ eq y x) (n : ℕ) where
  pub ordered-distinct : (es : List (K × E)) → Kept name stamp value (λ x y. eq (name x) (name y)) n es
      → IsDistinct eq (keys_of (stamp_order n (rows name stamp value es)))
  unfolding IsDistinct
  ordered-distinct [] i =
      subst (λ (l : List (L × V)). IsDistinct eq (keys_of l)) (sym (stamp_order-nil {P = L × V} n)) tt
  ordered-distinct (e ∷ es) i =
      let s =
      split n (stamp e.1) (rows name stamp value es) i.2.0 (none_apart (stamp e.1) (rows name stamp value es) i.0.0) in
      let rest = ordered-distinct es (i.0.1, i.1.1, i.2.1) in
      let free = ordered_free name stamp value n (eq (name e.0)) es (keyed es i.1.0) in
      subst (λ l. IsDistinct eq (keys_of l)) (sym (s.with (name e.0, value e.1)))
      (distinct-middle eq turn (name e.0) (value e.1) s.before s.after (subst (λ l. AllByRecursion (λ f. eq (name e.0) f.0 ≡ false) l) s.without free) (subst (λ l. IsDistinct eq (keys_of l)) s.without rest))
    where
      keyed : (fs : List (K × E)) → AllByRecursion (λ y. eq (name e.0) (name y) ≡ false) (keys_of fs)
          → AllByRecursion (λ f. eq (name e.0) (name f.0) ≡ false) fs
      keyed [] a = tt
      keyed (f ∷ fs) a = (a.0, keyed fs a.1)
