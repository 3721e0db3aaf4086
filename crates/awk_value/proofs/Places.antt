-- Keys that are numbers, each at its own place in a list: looked up, set, added and taken out.
use Rattle.std.proofs.Common.{◌≡◌, ℕ, zero, suc, ℤ, pos, ◌+◌, ◌-◌, ◌^◌, ◌<◌, ◌≤◌, Bool, true, false, cond, nat_eq, List, [], ◌∷◌, ◌++◌, length, set, get_or, refl, sym, ap, ◌∙◌, subst, Option, Some, None, arith, append-nil, append_assoc, length-append, option_to_list, map, take, length-take}
use Rattle.std.specs.Prelude.{slice_get}
use Rattle.std.specs.Ordering.{int_eq}
use Rattle.std.specs.Map.{lookup, set_value, remove_entry}
use Rattle.std.specs.List.{AllByRecursion}
use Rattle.std.specs.List.Sorted.{IsPermutation}
use Rattle.std.proofs.lemmas.Bool.Decides.{Decides-int_eq, nat_tests}
use Rattle.std.proofs.lemmas.Option.{slice_get_within, slice_get_read, get_or_from_slice_get}
use Rattle.std.proofs.lemmas.List.Sorted.{IsPermutation-refl, length_permutation, IsPermutation-append_right, IsPermutation-append_comm}
use Rattle.awk_value.specs.declared.value.Value.{Value}
use Rattle.awk_value.specs.declared.entry.Entry.{Entry}
use Rattle.awk_value.specs.support.DenseKeys.{is_gone, numbered, with_value, revalued, IsPlaceOf}
use Rattle.std.proofs.lemmas.List.{take_more}
use Rattle.awk_value.proofs.Rows.{map-both}
use Rattle.awk_value.proofs.ByStamp.{lookup-between, remove-between, set-between}

same_stamp : (m n : ℕ) → m ≡ n → nat_eq m n ≡ true
same_stamp m n h = grind (arith, nat_tests)

other_stamp : (m n : ℕ) → (m ≡ n → ⊥) → nat_eq m n ≡ false
other_stamp m n h = grind (arith, nat_tests)

pub stamp_gone : (e : Entry) → e.stamp ≡ 2 ^ 64 - 1 → is_gone e ≡ true
stamp_gone e h = same_stamp e.stamp (2 ^ 64 - 1) h

pub stamp_kept : (e : Entry) → (e.stamp ≡ 2 ^ 64 - 1 → ⊥) → is_gone e ≡ false
stamp_kept e h = other_stamp e.stamp (2 ^ 64 - 1) h

apart_from : (z : ℤ) (k : ℕ) → (z ≡ pos k → ⊥) → int_eq z (pos k) ≡ false
apart_from z k h = by (int_eq z (pos k)) refl
  where
    by : (b : Bool) → int_eq z (pos k) ≡ b → int_eq z (pos k) ≡ false
    by true e = absurd (h ((Decides-int_eq z (pos k)).0 e))
    by false e = e

pub int_same : (z : ℤ) → int_eq z z ≡ true
int_same z = (Decides-int_eq z z).1 refl

other_pos : (i k : ℕ) → (i ≡ k → ⊥) → pos i ≡ pos k → ⊥
other_pos i k h e = let same : i ≡ k = cc in h same

-- a number that has no place among these
pub free : (z : ℤ) (n : ℕ) (es : List Entry) → ((k : ℕ) → n ≤ k → k < n + length es → z ≡ pos k → ⊥)
    → AllByRecursion (λ (e : ℤ × Entry). int_eq z e.0 ≡ false) (numbered n es)
free z n [] h = tt
free z n (e ∷ es) h = by (is_gone e) (free z (suc n) es (λ k l m. h k (omega arith) (omega arith)))
  where
    by : (b : Bool) → AllByRecursion (λ (e : ℤ × Entry). int_eq z e.0 ≡ false) (numbered (suc n) es)
        → AllByRecursion (λ (e : ℤ × Entry). int_eq z e.0 ≡ false) (cond b (numbered (suc n) es) ((pos n, e) ∷ numbered (suc n) es))
    by true a = a
    by false a = (apart_from z n (h n (omega arith) (omega arith)), a)

pub lookup-free : {X : Type 0} (t : ℤ → Bool) (es : List (ℤ × X)) → AllByRecursion (λ (e : ℤ × X). t e.0 ≡ false) es → lookup t es ≡ None
lookup-free t [] a = refl
lookup-free t (e ∷ es) a = ap (λ b. cond b (Some e.1) (lookup t es)) a.0 ∙ lookup-free t es a.1

pub free-both : {X : Type 0} (t : ℤ → Bool) (xs ys : List (ℤ × X)) → AllByRecursion (λ (e : ℤ × X). t e.0 ≡ false) xs
    → AllByRecursion (λ (e : ℤ × X). t e.0 ≡ false) ys → AllByRecursion (λ (e : ℤ × X). t e.0 ≡ false) (xs ++ ys)
free-both t [] ys a b = b
free-both t (x ∷ xs) ys a b = (a.0, free-both t xs ys a.1 b)

pub numbered-append : (n : ℕ) (xs ys : List Entry) → numbered n (xs ++ ys) ≡ numbered n xs ++ numbered (n + length xs) ys
numbered-append n [] ys = let same : n ≡ n + 0 = omega arith in ap (λ k. numbered k ys) same
numbered-append n (x ∷ xs) ys = by (is_gone x) (numbered (suc n) (xs ++ ys)) (numbered-append (suc n) xs ys ∙ ap (λ k. numbered (suc n) xs ++ numbered k ys) next)
  where
    next : suc n + length xs ≡ n + suc (length xs)
    next = omega arith

    by : (b : Bool) (l : List (ℤ × Entry)) → l ≡ numbered (suc n) xs ++ numbered (n + suc (length xs)) ys
        → cond b l ((pos n, x) ∷ l) ≡ cond b (numbered (suc n) xs) ((pos n, x) ∷ numbered (suc n) xs) ++ numbered (n + suc (length xs)) ys
    by true l h = h
    by false l h = ap (λ l. (pos n, x) ∷ l) h

pub length-numbered : (n : ℕ) (es : List Entry) → length (numbered n es) ≤ length es
length-numbered n [] = omega arith
length-numbered n (e ∷ es) = by (is_gone e) (length-numbered (suc n) es)
  where
    by : (b : Bool) → length (numbered (suc n) es) ≤ length es
        → length (cond b (numbered (suc n) es) ((pos n, e) ∷ numbered (suc n) es)) ≤ suc (length es)
    by true h = omega arith
    by false h = omega arith

length-set_value : {K X : Type 0} (t : K → Bool) (es : List (K × X)) (w : X) → length (set_value t es w) ≡ length es
length-set_value t [] w = refl
length-set_value {K} {X} t (e ∷ es) w = by (t e.0) (length-set_value t es w)
  where
    by : (b : Bool) → length (set_value t es w) ≡ length es → length (cond b ((e.0, w) ∷ es) (e ∷ set_value t es w)) ≡ length (e ∷ es)
    by true h = refl
    by false h = ap suc h

-- a list, parted at a place
pub record Spot (es : List Entry) (i : ℕ) (x : Entry) : Type 0 where
  pub front : List Entry
  pub back : List Entry
  pub whole : es ≡ front ++ x ∷ back
  pub long : length front ≡ i
  pub put : (y : Entry) → set es i y ≡ front ++ y ∷ back

pub spot : (es : List Entry) (i : ℕ) (x : Entry) → slice_get es i ≡ Some x → Spot es i x
spot [] i x e = absurd (let n : None ≡ Some x = e in cc)
spot (y ∷ es) zero x e =
    let same : y ≡ x = cc in
    record { front = []; back = es; whole = ap (λ z. z ∷ es) same; long = refl; put = λ z. refl }
spot (y ∷ es) (suc i) x e =
    let r = spot es i x e in
    record {
      front = y ∷ r.front;
      back = r.back;
      whole = ap (λ l. y ∷ l) r.whole;
      long = ap suc r.long;
      put = λ z. ap (λ l. y ∷ l) (r.put z);
    }

-- an entry between others
kept-between : (front back : List Entry) (i : ℕ) (x : Entry) → length front ≡ i → is_gone x ≡ false
    → numbered 0 (front ++ x ∷ back) ≡ numbered 0 front ++ (pos i, x) ∷ numbered (suc i) back
kept-between front back i x long kept =
    let at : 0 + length front ≡ i = omega arith in
    numbered-append 0 front (x ∷ back)
    ∙ ap (λ l. numbered 0 front ++ l) (ap (λ k. numbered k (x ∷ back)) at ∙ ap (λ b. cond b (numbered (suc i) back) ((pos i, x) ∷ numbered (suc i) back)) kept)

gone-between : (front back : List Entry) (i : ℕ) (x : Entry) → length front ≡ i → is_gone x ≡ true
    → numbered 0 (front ++ x ∷ back) ≡ numbered 0 front ++ numbered (suc i) back
gone-between front back i x long gone =
    let at : 0 + length front ≡ i = omega arith in
    numbered-append 0 front (x ∷ back)
    ∙ ap (λ l. numbered 0 front ++ l) (ap (λ k. numbered k (x ∷ back)) at ∙ ap (λ b. cond b (numbered (suc i) back) ((pos i, x) ∷ numbered (suc i) back)) gone)

-- a number behind all places
pub none-past : (es : List Entry) (i : ℕ) → length es ≤ i → lookup (int_eq (pos i)) (numbered 0 es) ≡ None
none-past es i past =
    lookup-free (int_eq (pos i)) (numbered 0 es) (free (pos i) 0 es (λ k l m. other_pos i k (λ e. omega arith)))

pub none-negative : (es : List Entry) (z : ℤ) → ((k : ℕ) → z ≡ pos k → ⊥) → lookup (int_eq z) (numbered 0 es) ≡ None
none-negative es z h = lookup-free (int_eq z) (numbered 0 es) (free z 0 es (λ k l m. h k))

-- a place with its entry
module _ (es : List Entry) (i : ℕ) (x : Entry) (there : slice_get es i ≡ Some x) where
  at : Spot es i x
  at = spot es i x there

  free-front : AllByRecursion (λ (e : ℤ × Entry). int_eq (pos i) e.0 ≡ false) (numbered 0 at.front)
  free-front = let long = at.long in free (pos i) 0 at.front (λ k l m. other_pos i k (λ e. omega arith))

  free-back : AllByRecursion (λ (e : ℤ × Entry). int_eq (pos i) e.0 ≡ false) (numbered (suc i) at.back)
  free-back = free (pos i) (suc i) at.back (λ k l m. other_pos i k (λ e. omega arith))

  pub none-gone : is_gone x ≡ true → lookup (int_eq (pos i)) (numbered 0 es) ≡ None
  none-gone gone =
      ap (λ l. lookup (int_eq (pos i)) (numbered 0 l)) at.whole
      ∙ ap (lookup (int_eq (pos i))) (gone-between at.front at.back i x at.long gone)
      ∙ lookup-free (int_eq (pos i)) (numbered 0 at.front ++ numbered (suc i) at.back) (free-both (int_eq (pos i)) (numbered 0 at.front) (numbered (suc i) at.back) free-front free-back)

  -- a number is added at a place that has none
  pub filled : (y : Entry) → is_gone x ≡ true → is_gone y ≡ false
      → IsPermutation (numbered 0 es ++ (pos i, y) ∷ []) (numbered 0 (set es i y))
  filled y gone kept =
      let fs = numbered 0 at.front in
      let bs = numbered (suc i) at.back in
      let z : List (ℤ × Entry) = (pos i, y) ∷ [] in
      let old : numbered 0 es ≡ fs ++ bs = ap (numbered 0) at.whole ∙ gone-between at.front at.back i x at.long gone in
      let new : numbered 0 (set es i y) ≡ fs ++ (pos i, y) ∷ bs = ap (numbered 0) (at.put y) ∙ kept-between at.front at.back i y at.long kept in
      subst (λ l. IsPermutation (l ++ z) (numbered 0 (set es i y))) (sym old)
      (subst (λ l. IsPermutation ((fs ++ bs) ++ z) l) (sym new)
      (subst (λ l. IsPermutation l (fs ++ (pos i, y) ∷ bs)) (sym (append_assoc fs bs z))
      (IsPermutation-append_right fs (bs ++ z) (z ++ bs) (IsPermutation-append_comm bs z))))

  module _ (kept : is_gone x ≡ false) where
    seen : numbered 0 es ≡ numbered 0 at.front ++ (pos i, x) ∷ numbered (suc i) at.back
    seen = ap (numbered 0) at.whole ∙ kept-between at.front at.back i x at.long kept

    pub place-hit : lookup (int_eq (pos i)) (numbered 0 es) ≡ Some x
    place-hit =
        ap (lookup (int_eq (pos i))) seen
        ∙ lookup-between (int_eq (pos i)) (pos i) x (int_same (pos i)) (numbered (suc i) at.back) (numbered 0 at.front) free-front

    pub place-set : (y : Entry) → is_gone y ≡ false → numbered 0 (set es i y) ≡ set_value (int_eq (pos i)) (numbered 0 es) y
    place-set y k =
        ap (numbered 0) (at.put y) ∙ kept-between at.front at.back i y at.long k
        ∙ sym (ap (λ l. set_value (int_eq (pos i)) l y) seen
        ∙ set-between (int_eq (pos i)) (pos i) x (int_same (pos i)) (numbered (suc i) at.back) y (numbered 0 at.front) free-front)

    pub place-left : (y : Entry) → is_gone y ≡ true → numbered 0 (set es i y) ≡ remove_entry (int_eq (pos i)) (numbered 0 es)
    place-left y g =
        ap (numbered 0) (at.put y) ∙ gone-between at.front at.back i y at.long g
        ∙ sym (ap (remove_entry (int_eq (pos i))) seen
        ∙ remove-between (int_eq (pos i)) (pos i) x (int_same (pos i)) (numbered (suc i) at.back) (numbered 0 at.front) free-front)

    -- one fewer
    pub place-fewer : (y : Entry) → is_gone y ≡ true → length (numbered 0 es) ≡ suc (length (numbered 0 (set es i y)))
    place-fewer y g =
        let fs = numbered 0 at.front in
        let bs = numbered (suc i) at.back in
        ap length seen ∙ middle fs bs
        ∙ ap (λ l. suc (length l)) (sym (ap (numbered 0) (at.put y) ∙ gone-between at.front at.back i y at.long g))
      where
        middle : (fs bs : List (ℤ × Entry)) → length (fs ++ (pos i, x) ∷ bs) ≡ suc (length (fs ++ bs))
        middle [] bs = refl
        middle (f ∷ fs) bs = ap suc (middle fs bs)

    -- the value at the place is another one
    pub place-revalued : (v : Value) → numbered 0 (set es i (revalued x v)) ≡ with_value (lookup (int_eq (pos i)) (numbered 0 es)) (pos i) v (numbered 0 es)
    place-revalued v = place-set (revalued x v) kept ∙ ap (λ o. with_value o (pos i) v (numbered 0 es)) (sym place-hit)

-- a place more
pub pushed : (es : List Entry) (y : Entry) → is_gone y ≡ false → numbered 0 (es ++ y ∷ []) ≡ numbered 0 es ++ (pos (length es), y) ∷ []
pushed es y kept = kept-between es [] (length es) y refl kept

pub pushed-gap : (es : List Entry) (y : Entry) → is_gone y ≡ true → numbered 0 (es ++ y ∷ []) ≡ numbered 0 es
pushed-gap es y gone = gone-between es [] (length es) y refl gone ∙ append-nil (numbered 0 es)

get-last : (xs : List Entry) (z : Entry) (n : ℕ) → n ≡ length xs → slice_get (xs ++ z ∷ []) n ≡ Some z
get-last [] z zero e = refl
get-last [] z (suc n) e = absurd (omega arith)
get-last (x ∷ xs) z zero e = absurd (omega arith)
get-last (x ∷ xs) z (suc n) e = get-last xs z n (omega arith)

-- the last place is taken away, whose number is no key
pub trimmed : (old new : List Entry) (r : Option Entry) (last : Entry) → old ≡ new ++ option_to_list r
    → Some last ≡ slice_get old (length old - 1) → is_gone last ≡ true → numbered 0 new ≡ numbered 0 old
trimmed old new None last e there gone = ap (numbered 0) (sym (e ∙ append-nil new))
trimmed old new (Some z) last e there gone =
    let at : length old - 1 ≡ length new = omega (arith, ap length e, length-append new (z ∷ [])) in
    let both : Some last ≡ Some z = there ∙ ap (λ l. slice_get l (length old - 1)) e ∙ get-last new z (length old - 1) at in
    let same : last ≡ z = cc in
    sym (ap (numbered 0) e ∙ pushed-gap new z (sym (ap is_gone same) ∙ gone))

-- a number at its place
module _ (es : List Entry) (place : ℕ) (key : ℤ) (p : IsPlaceOf es place key) where
  pub within-at : place < length es
  within-at = slice_get_within es place p.entry p.there

  pub entry-at : (x : Entry) → x ≡ get_or es place x → x ≡ p.entry
  entry-at x e = e ∙ get_or_from_slice_get es place p.entry x p.there

  pub hit-at : lookup (int_eq key) (numbered 0 es) ≡ Some p.entry
  hit-at = ap (λ z. lookup (int_eq z) (numbered 0 es)) p.number ∙ place-hit es place p.entry p.there p.kept

  pub revalued-at : (v : Value) → numbered 0 (set es place (revalued p.entry v)) ≡ with_value (lookup (int_eq key) (numbered 0 es)) key v (numbered 0 es)
  revalued-at v =
      place-revalued es place p.entry p.there p.kept v
      ∙ ap (λ z. with_value (lookup (int_eq z) (numbered 0 es)) z v (numbered 0 es)) (sym p.number)

  -- as many are keys
  pub many-at : (v : Value) → length (numbered 0 (set es place (revalued p.entry v))) ≡ length (numbered 0 es)
  many-at v = ap length (place-set es place p.entry p.there p.kept (revalued p.entry v) p.kept) ∙ length-set_value (int_eq (pos place)) (numbered 0 es) (revalued p.entry v)

  pub left-at : (y : Entry) → is_gone y ≡ true → numbered 0 (set es place y) ≡ remove_entry (int_eq key) (numbered 0 es)
  left-at y g = place-left es place p.entry p.there p.kept y g ∙ ap (λ z. remove_entry (int_eq z) (numbered 0 es)) (sym p.number)

  pub fewer-at : (y : Entry) → is_gone y ≡ true → length (numbered 0 es) ≡ suc (length (numbered 0 (set es place y)))
  fewer-at y g = place-fewer es place p.entry p.there p.kept y g

-- a number that is no key is put at its place, or behind the others
pub put-over : (es : List Entry) (place : ℕ) (x y : Entry) → lookup (int_eq (pos place)) (numbered 0 es) ≡ None → place < length es
    → x ≡ get_or es place x → is_gone y ≡ false → IsPermutation (numbered 0 es ++ (pos place, y) ∷ []) (numbered 0 (set es place y))
put-over es place x y none within read kept =
    let there = slice_get_read es (length es) place x refl within read in
    filled es place x there y (by there (is_gone x) refl) kept
  where
    by : slice_get es place ≡ Some x → (b : Bool) → is_gone x ≡ b → is_gone x ≡ true
    by there true e = e
    by there false e = absurd (let hit : None ≡ Some x = sym none ∙ place-hit es place x there e in cc)

pub put-behind : (es : List Entry) (place : ℕ) (y : Entry) → place ≤ length es → length es ≤ place → is_gone y ≡ false
    → IsPermutation (numbered 0 es ++ (pos place, y) ∷ []) (numbered 0 (es ++ y ∷ []))
put-behind es place y low high kept =
    let same : length es ≡ place = omega arith in
    subst (λ l. IsPermutation (numbered 0 es ++ (pos place, y) ∷ []) l) (sym (pushed es y kept ∙ ap (λ k. numbered 0 es ++ (pos k, y) ∷ []) same)) (IsPermutation-refl _)

pub one-more : (old new : List (ℤ × Entry)) (z : ℤ × Entry) → IsPermutation (old ++ z ∷ []) new → length new ≡ length old + 1
one-more old new z m = length_permutation (old ++ z ∷ []) new m ∙ length-append old (z ∷ [])

-- what is made of one place more
pub one-listed : {Y : Type 0} (f : ℤ × Entry → Y) (es : List Entry) (n : ℕ) (x : Entry) (all here old : List Y) → n < length es → x ≡ get_or es n x
    → here ≡ old ++ map f (numbered 0 (take n es)) → all ≡ here ++ map f (numbered n (x ∷ [])) → all ≡ old ++ map f (numbered 0 (take (n + 1) es))
one-listed f es n x all here old within read h e =
    let front = take n es in
    let long : 0 + length front ≡ n = omega (arith, length-take n es) in
    let more : take (n + 1) es ≡ front ++ x ∷ [] = take_more es n x within ∙ ap (λ y. front ++ y ∷ []) (sym read) in
    let both : numbered 0 (take (n + 1) es) ≡ numbered 0 front ++ numbered n (x ∷ []) =
    ap (numbered 0) more ∙ numbered-append 0 front (x ∷ []) ∙ ap (λ k. numbered 0 front ++ numbered k (x ∷ [])) long in
    e ∙ ap (λ l. l ++ map f (numbered n (x ∷ []))) h ∙ append_assoc old (map f (numbered 0 front)) (map f (numbered n (x ∷ [])))
    ∙ ap (λ l. old ++ l) (sym (ap (map f) both ∙ map-both f (numbered 0 front) (numbered n (x ∷ []))))
