-- One entry of a map: looked up, set and taken out, and what the order of the stamps makes of it.
use Rattle.std.proofs.Common.{◌≡◌, ℕ, suc, ◌+◌, ◌<◌, Bool, true, false, cond, nat_eq, List, [], ◌∷◌, ◌++◌, map, refl, sym, ap, subst, ◌∙◌, Option, Some, None, arith}
use Rattle.std.specs.Option.{option_to_list}
use Rattle.std.specs.Map.{lookup, set_value, remove_entry, keys_of}
use Rattle.std.specs.List.{IsDistinct, AllByRecursion}
use Rattle.std.proofs.lemmas.Bool.Decides.{nat_tests}
use Rattle.std.proofs.lemmas.Map.{none_passes_from_lookup}
use Rattle.awk_value.specs.support.StampOrder.{stamp_order}
use Rattle.awk_value.proofs.ByStamp.{stamp_order-same, split, all_stamp_order, all_left, lookup-between, remove-between, set-between}

two_conds : {X : Type 0} (b c : Bool) (x y z : X) → (b ≡ true → c ≡ true → ⊥)
    → cond b x (cond c y z) ≡ cond c y (cond b x z)
two_conds true true x y z h = absurd (h refl refl)
two_conds true false x y z h = refl
two_conds false true x y z h = refl
two_conds false false x y z h = refl

both_stamps : (q s r : ℕ) → nat_eq r s ≡ false → nat_eq q r ≡ true → nat_eq q s ≡ true → ⊥
both_stamps q s r h a b = grind (arith, nat_tests)

turned : (r s : ℕ) → nat_eq r s ≡ false → nat_eq s r ≡ false
turned r s h = grind (arith, nat_tests)

pub some_same : {X : Type 0} (x y : X) → Some x ≡ Some y → x ≡ y
some_same x y e = cc

-- no look-up finds a stamp that differs from all
pub none_apart : {P : Type 0} (s : ℕ) (rows : List (ℕ × P))
    → AllByRecursion (λ r. nat_eq s r ≡ false) (keys_of rows) → lookup (nat_eq s) rows ≡ None
none_apart s [] a = refl
none_apart s (r ∷ rs) a = ap (λ b. cond b (Some r.1) (lookup (nat_eq s) rs)) a.0 ∙ none_apart s rs a.1

-- a new stamp at the end
keys-push : {P : Type 0} (rows : List (ℕ × P)) (n : ℕ) (p : P) → keys_of (rows ++ (n, p) ∷ []) ≡ keys_of rows ++ n ∷ []
keys-push [] n p = refl
keys-push (r ∷ rs) n p = ap (λ l. r.0 ∷ l) (keys-push rs n p)

pub ltb_apart : (q n : ℕ) → q < n → nat_eq q n ≡ false
ltb_apart q n h = grind (arith, nat_tests)

gtb_apart : (q n : ℕ) → q < n → nat_eq n q ≡ false
gtb_apart q n h = grind (arith, nat_tests)

self_same : (n : ℕ) → nat_eq n n ≡ true
self_same n = grind (arith, nat_tests)

below_push : (n m : ℕ) (xs : List ℕ) → m ≡ n + 1 → AllByRecursion (λ s. s < n) xs
    → AllByRecursion (λ s. s < m) (xs ++ n ∷ [])
below_push n m [] e a = (omega arith, tt)
below_push n m (x ∷ xs) e a = (let l : x < n = a.0 in omega arith, below_push n m xs e a.1)

apart_push : (x n : ℕ) (xs : List ℕ) → x < n → AllByRecursion (λ y. nat_eq x y ≡ false) xs
    → AllByRecursion (λ y. nat_eq x y ≡ false) (xs ++ n ∷ [])
apart_push x n [] l a = (ltb_apart x n l, tt)
apart_push x n (y ∷ ys) l a = (a.0, apart_push x n ys l a.1)

distinct_push : (n : ℕ) (xs : List ℕ) → AllByRecursion (λ s. s < n) xs → IsDistinct nat_eq xs
    → IsDistinct nat_eq (xs ++ n ∷ [])
unfolding IsDistinct
distinct_push n [] a d = (tt, tt)
distinct_push n (x ∷ xs) a d = (apart_push x n xs a.0 d.0, distinct_push n xs a.1 d.1)

looked_before : {P : Type 0} (q n : ℕ) (p : P) (rows : List (ℕ × P)) → nat_eq q n ≡ false
    → lookup (nat_eq q) (rows ++ (n, p) ∷ []) ≡ lookup (nat_eq q) rows
looked_before q n p [] h = ap (λ b. cond b (Some p) None) h
looked_before q n p (r ∷ rs) h = ap (cond (nat_eq q r.0) (Some r.1)) (looked_before q n p rs h)

looked_last : {P : Type 0} (n : ℕ) (p : P) (rows : List (ℕ × P)) → AllByRecursion (λ s. s < n) (keys_of rows)
    → lookup (nat_eq n) (rows ++ (n, p) ∷ []) ≡ Some p
looked_last n p [] a = ap (λ b. cond b (Some p) None) (self_same n)
looked_last n p (r ∷ rs) a =
    ap (λ b. cond b (Some r.1) (lookup (nat_eq n) (rs ++ (n, p) ∷ []))) (gtb_apart r.0 n a.0) ∙ looked_last n p rs a.1

module _ {K E L V : Type 0} (name : K → L) (stamp : E → ℕ) (value : E → V) where
  abbrev pub rows : List (K × E) → List (ℕ × (L × V))
  rows es = map (λ (e : K × E). (stamp e.1, (name e.0, value e.1))) es

  -- what a look-up's hit reads of each entry
  hit : (Q : E → Type 0) (t : K → Bool) (x : E) (es : List (K × E)) → AllByRecursion (λ (e : K × E). Q e.1) es
      → lookup t es ≡ Some x → Q x
  hit Q t x [] a e = absurd (let n : None ≡ Some x = e in cc)
  hit Q t x (f ∷ fs) a e = by (hit Q t x fs a.1) (t f.0) refl
    where
      by : (lookup t fs ≡ Some x → Q x) → (b : Bool) → t f.0 ≡ b → Q x
      by ih true p = subst Q (some_same f.1 x (sym (ap (λ b. cond b (Some f.1) (lookup t fs)) p) ∙ e)) a.0
      by ih false p = ih (sym (ap (λ b. cond b (Some f.1) (lookup t fs)) p) ∙ e)

  stamps_apart : (s : ℕ) (es : List (K × E)) → AllByRecursion (λ r. nat_eq s r ≡ false) (keys_of (rows es))
      → AllByRecursion (λ (e : K × E). nat_eq s (stamp e.1) ≡ false) es
  stamps_apart s [] a = tt
  stamps_apart s (e ∷ es) a = (a.0, stamps_apart s es a.1)

  -- the entry x at the test, taken out of the entries
  pub record Taken (t : K → Bool) (es : List (K × E)) (x : E) : Type 0 where
    pub key : K
    pub passes : t key ≡ true
    pub own : (q : ℕ)
        → lookup (nat_eq q) (rows es) ≡ lookup (nat_eq q) ((stamp x, (name key, value x)) ∷ rows (remove_entry t es))
    pub given : (y : E) → stamp y ≡ stamp x → (q : ℕ)
        → lookup (nat_eq q) (rows (set_value t es y)) ≡ lookup (nat_eq q) ((stamp x, (name key, value y)) ∷ rows (remove_entry t es))
    pub absent : lookup (nat_eq (stamp x)) (rows (remove_entry t es)) ≡ None
    pub free : AllByRecursion (λ (e : K × E). t e.0 ≡ false) (remove_entry t es)

  module _ (eq : K → K → Bool) (t : K → Bool) (is_test : (x y : K) → t x ≡ true → t y ≡ eq x y) where
    freed : (k : K) → t k ≡ true → (es : List (K × E)) → AllByRecursion (λ y. eq k y ≡ false) (keys_of es)
        → AllByRecursion (λ (e : K × E). t e.0 ≡ false) es
    freed k p [] a = tt
    freed k p (e ∷ es) a = (is_test k e.0 p ∙ a.0, freed k p es a.1)

    pub taken : (x : E) (es : List (K × E)) → IsDistinct nat_eq (keys_of (rows es)) → IsDistinct eq (keys_of es)
        → lookup t es ≡ Some x → Taken t es x
    unfolding IsDistinct
    taken x [] d k e = absurd (let n : None ≡ Some x = e in cc)
    taken x (f ∷ fs) d k e = by (taken x fs d.1 k.1) (t f.0) refl
      where
        by : (lookup t fs ≡ Some x → Taken t fs x) → (b : Bool) → t f.0 ≡ b → Taken t (f ∷ fs) x
        by ih true p =
            let is : f.1 ≡ x = some_same f.1 x (sym (ap (λ b. cond b (Some f.1) (lookup t fs)) p) ∙ e) in
            let left : remove_entry t (f ∷ fs) ≡ fs = ap (λ b. cond b fs (f ∷ remove_entry t fs)) p in
            let put : (y : E) → set_value t (f ∷ fs) y ≡ (f.0, y) ∷ fs =
            λ y. ap (λ b. cond b ((f.0, y) ∷ fs) (f ∷ set_value t fs y)) p in
            record {
              key = f.0;
              passes = p;
              own = λ q. (λ j. lookup (nat_eq q) ((stamp (is j), (name f.0, value (is j))) ∷ rows (sym left j)));
              given =
                  λ y s q. (λ j. lookup (nat_eq q) (rows (put y j)))
                  ∙ (λ j. lookup (nat_eq q) ((s j, (name f.0, value y)) ∷ rows (sym left j)));
              absent = (λ j. lookup (nat_eq (stamp (sym is j))) (rows (left j))) ∙ none_apart (stamp f.1) (rows fs) d.0;
              free = subst (λ l. AllByRecursion (λ (e : K × E). t e.0 ≡ false) l) (sym left) (freed f.0 p fs k.0);
            }
        by ih false p =
            let e' : lookup t fs ≡ Some x = sym (ap (λ b. cond b (Some f.1) (lookup t fs)) p) ∙ e in
            let r = ih e' in
            let left : remove_entry t (f ∷ fs) ≡ f ∷ remove_entry t fs =
            ap (λ b. cond b fs (f ∷ remove_entry t fs)) p in
            let put : (y : E) → set_value t (f ∷ fs) y ≡ f ∷ set_value t fs y =
            λ y. ap (λ b. cond b ((f.0, y) ∷ fs) (f ∷ set_value t fs y)) p in
            let apart : nat_eq (stamp f.1) (stamp x) ≡ false =
            hit (λ y. nat_eq (stamp f.1) (stamp y) ≡ false) t x fs (stamps_apart (stamp f.1) fs d.0) e' in
            let first = Some (name f.0, value f.1) in
            record {
              key = r.key;
              passes = r.passes;
              own = λ q.
                  ap (cond (nat_eq q (stamp f.1)) first) (r.own q)
                  ∙ two_conds (nat_eq q (stamp f.1)) (nat_eq q (stamp x)) _ _ _ (both_stamps q (stamp x) (stamp f.1) apart)
                  ∙ (λ j. lookup (nat_eq q) ((stamp x, (name r.key, value x)) ∷ rows (sym left j)));
              given = λ y s q.
                  (λ j. lookup (nat_eq q) (rows (put y j)))
                  ∙ ap (cond (nat_eq q (stamp f.1)) first) (r.given y s q)
                  ∙ two_conds (nat_eq q (stamp f.1)) (nat_eq q (stamp x)) _ _ _ (both_stamps q (stamp x) (stamp f.1) apart)
                  ∙ (λ j. lookup (nat_eq q) ((stamp x, (name r.key, value y)) ∷ rows (sym left j)));
              absent =
                  (λ j. lookup (nat_eq (stamp x)) (rows (left j)))
                  ∙ ap (λ b. cond b first (lookup (nat_eq (stamp x)) (rows (remove_entry t fs)))) (turned (stamp f.1) (stamp x) apart)
                  ∙ r.absent;
              free = subst (λ l. AllByRecursion (λ (e : K × E). t e.0 ≡ false) l) (sym left) (p, r.free);
            }

  -- the array, parted at a key that is there
  pub record Parted (n : ℕ) (t : K → Bool) (es : List (K × E)) (x : E) : Type 0 where
    pub key : K
    pub passes : t key ≡ true
    pub before : List (L × V)
    pub after : List (L × V)
    pub whole : stamp_order n (rows es) ≡ before ++ (name key, value x) ∷ after
    pub left : stamp_order n (rows (remove_entry t es)) ≡ before ++ after
    pub put : (y : E) → stamp y ≡ stamp x
        → stamp_order n (rows (set_value t es y)) ≡ before ++ (name key, value y) ∷ after

  pub parted : (n : ℕ) (t : K → Bool) (es : List (K × E)) (x : E) → stamp x < n → Taken t es x → Parted n t es x
  parted n t es x l r =
      let s = split n (stamp x) (rows (remove_entry t es)) l r.absent in
      record {
        key = r.key;
        passes = r.passes;
        before = s.before;
        after = s.after;
        whole = stamp_order-same n _ _ (λ q h. r.own q) ∙ s.with (name r.key, value x);
        left = s.without;
        put = λ y e. stamp_order-same n _ _ (λ q h. r.given y e q) ∙ s.with (name r.key, value y);
      }

  rows_free : (p : L → Bool) (es : List (K × E)) → AllByRecursion (λ (e : K × E). p (name e.0) ≡ false) es
      → AllByRecursion (λ r. p r.1.0 ≡ false) (rows es)
  rows_free p [] a = tt
  rows_free p (e ∷ es) a = (a.0, rows_free p es a.1)

  -- a key that no entry has is not in the array
  pub ordered_free : (n : ℕ) (p : L → Bool) (es : List (K × E))
      → AllByRecursion (λ (e : K × E). p (name e.0) ≡ false) es
      → AllByRecursion (λ e. p e.0 ≡ false) (stamp_order n (rows es))
  ordered_free n p es a = all_stamp_order (λ e. p e.0 ≡ false) n (rows es) (rows_free p es a)

  -- the keys before the parted one differ from it
  pub free_before : (n : ℕ) (p : L → Bool) (es : List (K × E)) (x : E) (r : Taken (λ k. p (name k)) es x) (q : Parted n (λ k. p (name k)) es x)
      → AllByRecursion (λ e. p e.0 ≡ false) q.before
  free_before n p es x r q =
      all_left (λ e. p e.0 ≡ false) q.before q.after (subst (λ l. AllByRecursion (λ e. p e.0 ≡ false) l) q.left (ordered_free n p (remove_entry (λ k. p (name k)) es) r.free))

  -- what the words say of the array at a key that is there
  module _ (n : ℕ) (p : L → Bool) (es : List (K × E)) (x : E) (l : stamp x < n) (r : Taken (λ k. p (name k)) es x) where
    pub lookup-ordered : lookup p (stamp_order n (rows es)) ≡ Some (value x)
    lookup-ordered =
        let q = parted n (λ k. p (name k)) es x l r in
        ap (lookup p) q.whole
        ∙ lookup-between p (name q.key) (value x) q.passes q.after q.before (free_before n p es x r q)

    pub remove-ordered : stamp_order n (rows (remove_entry (λ k. p (name k)) es)) ≡ remove_entry p (stamp_order n (rows es))
    remove-ordered =
        let q = parted n (λ k. p (name k)) es x l r in
        q.left
        ∙ sym (ap (remove_entry p) q.whole ∙ remove-between p (name q.key) (value x) q.passes q.after q.before (free_before n p es x r q))

    pub set-ordered : (y : E) → stamp y ≡ stamp x
        → stamp_order n (rows (set_value (λ k. p (name k)) es y)) ≡ set_value p (stamp_order n (rows es)) (value y)
    set-ordered y e =
        let q = parted n (λ k. p (name k)) es x l r in
        q.put y e
        ∙ sym (ap (λ g. set_value p g (value y)) q.whole ∙ set-between p (name q.key) (value x) q.passes q.after (value y) q.before (free_before n p es x r q))

  module _ (eq : K → K → Bool) (n : ℕ) (p : L → Bool) (is_test : (x y : K) → p (name x) ≡ true → p (name y) ≡ eq x y) (es : List (K × E))
      (stamps : IsDistinct nat_eq (keys_of (rows es))) (keys : IsDistinct eq (keys_of es)) (below : AllByRecursion (λ s. s < n) (keys_of (rows es))) where
    below_each : (es : List (K × E)) → AllByRecursion (λ s. s < n) (keys_of (rows es))
        → AllByRecursion (λ (e : K × E). stamp e.1 < n) es
    below_each [] a = tt
    below_each (e ∷ es) a = (a.0, below_each es a.1)

    pub taken_there : (x : E) → lookup (λ k. p (name k)) es ≡ Some x → Taken (λ k. p (name k)) es x
    taken_there x e = taken eq (λ k. p (name k)) is_test x es stamps keys e

    pub below_there : (x : E) → lookup (λ k. p (name k)) es ≡ Some x → stamp x < n
    below_there x e = hit (λ y. stamp y < n) (λ k. p (name k)) x es (below_each es below) e

    lookup_free : (xs : List (L × V)) → AllByRecursion (λ e. p e.0 ≡ false) xs → lookup p xs ≡ None
    lookup_free [] a = refl
    lookup_free (x ∷ xs) a = ap (λ b. cond b (Some x.1) (lookup p xs)) a.0 ∙ lookup_free xs a.1

    remove_free : (xs : List (L × V)) → AllByRecursion (λ e. p e.0 ≡ false) xs → remove_entry p xs ≡ xs
    remove_free [] a = refl
    remove_free (x ∷ xs) a = ap (λ b. cond b xs (x ∷ remove_entry p xs)) a.0 ∙ ap (λ l. x ∷ l) (remove_free xs a.1)

    -- what a look-up in the array finds, by what the map finds
    pub found-some : (x : E) → lookup (λ k. p (name k)) es ≡ Some x
        → lookup p (stamp_order n (rows es)) ≡ Some (value x)
    found-some x e = lookup-ordered n p es x (below_there x e) (taken_there x e)

    pub found-none : lookup (λ k. p (name k)) es ≡ None → lookup p (stamp_order n (rows es)) ≡ None
    found-none e =
        lookup_free (stamp_order n (rows es)) (ordered_free n p es (none_passes_from_lookup (λ k. p (name k)) es e))

    pub without-none : lookup (λ k. p (name k)) es ≡ None
        → remove_entry p (stamp_order n (rows es)) ≡ stamp_order n (rows es)
    without-none e =
        remove_free (stamp_order n (rows es)) (ordered_free n p es (none_passes_from_lookup (λ k. p (name k)) es e))

    pub set-found : (x y : E) → lookup (λ k. p (name k)) es ≡ Some x → stamp y ≡ stamp x
        → stamp_order n (rows (set_value (λ k. p (name k)) es y)) ≡ set_value p (stamp_order n (rows es)) (value y)
    set-found x y e s = set-ordered n p es x (below_there x e) (taken_there x e) y s

  pub stamps-set : (t : K → Bool) (x y : E) → stamp y ≡ stamp x → (es : List (K × E)) → lookup t es ≡ Some x
      → keys_of (rows (set_value t es y)) ≡ keys_of (rows es)
  stamps-set t x y s [] e = refl
  stamps-set t x y s (f ∷ fs) e = by (stamps-set t x y s fs) (t f.0) refl
    where
      by : (lookup t fs ≡ Some x → keys_of (rows (set_value t fs y)) ≡ keys_of (rows fs)) → (b : Bool) → t f.0 ≡ b
          → keys_of (rows (set_value t (f ∷ fs) y)) ≡ keys_of (rows (f ∷ fs))
      by ih true h =
          let is : f.1 ≡ x = some_same f.1 x (sym (ap (λ b. cond b (Some f.1) (lookup t fs)) h) ∙ e) in
          ap (λ b. keys_of (rows (cond b ((f.0, y) ∷ fs) (f ∷ set_value t fs y)))) h
          ∙ (λ j. (s ∙ sym (ap stamp is)) j ∷ keys_of (rows fs))
      by ih false h =
          ap (λ b. keys_of (rows (cond b ((f.0, y) ∷ fs) (f ∷ set_value t fs y)))) h
          ∙ ap (λ l. stamp f.1 ∷ l) (ih (sym (ap (λ b. cond b (Some f.1) (lookup t fs)) h) ∙ e))

  -- what the map keeps: stamps differ, keys differ, stamps are below n
  abbrev pub Kept : (K → K → Bool) → ℕ → List (K × E) → Type 0
  Kept eq n es =
      IsDistinct nat_eq (keys_of (rows es)) × IsDistinct eq (keys_of es) × AllByRecursion (λ s. s < n) (keys_of (rows es))

  pub kept_put : (eq : K → K → Bool) (n : ℕ) (t : K → Bool) (x y : E) (es fs : List (K × E))
      → fs ≡ set_value t es y → keys_of fs ≡ keys_of es → stamp y ≡ stamp x → lookup t es ≡ Some x → Kept eq n es
      → Kept eq n fs
  kept_put eq n t x y es fs f ks s e i =
      let st : keys_of (rows fs) ≡ keys_of (rows es) = ap (λ l. keys_of (rows l)) f ∙ stamps-set t x y s es e in
      (subst (λ l. IsDistinct nat_eq l) (sym st) i.0, subst (λ l. IsDistinct eq l) (sym ks) i.1, subst (λ l. AllByRecursion (λ s. s < n) l) (sym st) i.2)

  rows-push : (es : List (K × E)) (k : K) (x : E)
      → rows (es ++ (k, x) ∷ []) ≡ rows es ++ (stamp x, (name k, value x)) ∷ []
  rows-push [] k x = refl
  rows-push (e ∷ es) k x = ap (λ l. (stamp e.1, (name e.0, value e.1)) ∷ l) (rows-push es k x)

  pub kept_push : (eq : K → K → Bool) (n m : ℕ) (k : K) (x : E) (es fs : List (K × E)) → fs ≡ es ++ (k, x) ∷ []
      → stamp x ≡ n → m ≡ n + 1 → IsDistinct eq (keys_of fs) → Kept eq n es → Kept eq m fs
  kept_push eq n m k x es fs f s e d i =
      let st : keys_of (rows fs) ≡ keys_of (rows es) ++ n ∷ [] =
      ap (λ l. keys_of (rows l)) f ∙ ap keys_of (rows-push es k x)
      ∙ keys-push (rows es) (stamp x) (name k, value x) ∙ ap (λ z. keys_of (rows es) ++ z ∷ []) s in (
        subst (λ l. IsDistinct nat_eq l) (sym st) (distinct_push n (keys_of (rows es)) i.2 i.0),
        d,
        subst (λ l. AllByRecursion (λ s. s < m) l) (sym st) (below_push n m (keys_of (rows es)) e i.2),
      )

  pub stamp_order-push : (eq : K → K → Bool) (n m : ℕ) (k : K) (x : E) (es fs : List (K × E))
      → fs ≡ es ++ (k, x) ∷ [] → stamp x ≡ n → m ≡ n + 1 → Kept eq n es
      → stamp_order m (rows fs) ≡ stamp_order n (rows es) ++ (name k, value x) ∷ []
  stamp_order-push eq n m k x es fs f s e i =
      let p : L × V = (name k, value x) in
      let st : rows fs ≡ rows es ++ (n, p) ∷ [] = ap rows f ∙ rows-push es k x ∙ ap (λ z. rows es ++ (z, p) ∷ []) s in
      let up : m ≡ suc n = omega arith in
      (λ j. stamp_order (up j) (st j))
      ∙ (λ j. stamp_order-same n (rows es ++ (n, p) ∷ []) (rows es) (λ q l. looked_before q n p (rows es) (ltb_apart q n l)) j ++ option_to_list (looked_last n p (rows es) i.2 j))

  pub absent-found : (eq : K → K → Bool) (n : ℕ) (p : L → Bool) (is_test : (x y : K) → p (name x) ≡ true → p (name y) ≡ eq x y) (es : List (K × E))
      → Kept eq n es → lookup p (stamp_order n (rows es)) ≡ None → lookup (λ k. p (name k)) es ≡ None
  absent-found eq n p is_test es i none = by (lookup (λ k. p (name k)) es) refl
    where
      by : (o : Option E) → lookup (λ k. p (name k)) es ≡ o → lookup (λ k. p (name k)) es ≡ None
      by None e = e
      by (Some x) e =
          absurd (let h : None ≡ Some (value x) = sym none ∙ found-some eq n p is_test es i.0 i.1 i.2 x e in cc)
