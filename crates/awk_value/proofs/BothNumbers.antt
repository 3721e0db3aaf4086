-- Keys that are numbers, in two lists one after the other: looked up, set, added and taken out in either.
use Rattle.std.proofs.Common.{◌≡◌, ℤ, Bool, true, false, cond, List, [], ◌∷◌, ◌++◌, refl, sym, ap, ◌∙◌, subst, Option, Some, None, append_assoc}
use Rattle.std.specs.Prelude.{is_some, MatchOption}
use Rattle.std.specs.Option.{option_map}
use Rattle.std.specs.Ordering.{int_eq}
use Rattle.std.specs.Map.{lookup, set_value, remove_entry}
use Rattle.std.specs.List.Sorted.{IsPermutation}
use Rattle.std.proofs.lemmas.List.Sorted.{IsPermutation-refl, IsPermutation-append_left, IsPermutation-append_right, IsPermutation-append_comm, IsPermutation-trans, IsPermutation-middle, IsPermutation-cons}
use Rattle.indexmap.specs.IndexMap.{swap_remove_entry}
use Rattle.awk_value.specs.declared.value.Value.{Value}
use Rattle.awk_value.specs.declared.entry.Entry.{Entry}
use Rattle.awk_value.specs.support.DenseKeys.{IsTaken, revalued, with_value}
use Rattle.awk_value.proofs.Moves.{swap-hit, swap-missed}

module _ {K X : Type 0} (t : K → Bool) where
  pub first-lookup : (xs ys : List (K × X)) (x : X) → lookup t xs ≡ Some x → lookup t (xs ++ ys) ≡ Some x
  first-lookup [] ys x e = absurd (let n : None ≡ Some x = e in cc)
  first-lookup (f ∷ fs) ys x e = by (t f.0) (first-lookup fs ys x) e
    where
      by : (b : Bool) → (lookup t fs ≡ Some x → lookup t (fs ++ ys) ≡ Some x) → cond b (Some f.1) (lookup t fs) ≡ Some x
          → cond b (Some f.1) (lookup t (fs ++ ys)) ≡ Some x
      by true h e = e
      by false h e = h e

  pub second-lookup : (xs ys : List (K × X)) → lookup t xs ≡ None → lookup t (xs ++ ys) ≡ lookup t ys
  second-lookup [] ys e = refl
  second-lookup (f ∷ fs) ys e = by (t f.0) (second-lookup fs ys) e
    where
      by : (b : Bool) → (lookup t fs ≡ None → lookup t (fs ++ ys) ≡ lookup t ys) → cond b (Some f.1) (lookup t fs) ≡ None
          → cond b (Some f.1) (lookup t (fs ++ ys)) ≡ lookup t ys
      by true h e = absurd (let n : None ≡ Some f.1 = sym e in cc)
      by false h e = h e

  pub first-set : (xs ys : List (K × X)) (x w : X) → lookup t xs ≡ Some x → set_value t (xs ++ ys) w ≡ set_value t xs w ++ ys
  first-set [] ys x w e = absurd (let n : None ≡ Some x = e in cc)
  first-set (f ∷ fs) ys x w e = by (t f.0) (first-set fs ys x w) e
    where
      by : (b : Bool) → (lookup t fs ≡ Some x → set_value t (fs ++ ys) w ≡ set_value t fs w ++ ys) → cond b (Some f.1) (lookup t fs) ≡ Some x
          → cond b ((f.0, w) ∷ (fs ++ ys)) (f ∷ set_value t (fs ++ ys) w) ≡ cond b ((f.0, w) ∷ fs) (f ∷ set_value t fs w) ++ ys
      by true h e = refl
      by false h e = ap (λ l. f ∷ l) (h e)

  pub second-set : (xs ys : List (K × X)) (w : X) → lookup t xs ≡ None → set_value t (xs ++ ys) w ≡ xs ++ set_value t ys w
  second-set [] ys w e = refl
  second-set (f ∷ fs) ys w e = by (t f.0) (second-set fs ys w) e
    where
      by : (b : Bool) → (lookup t fs ≡ None → set_value t (fs ++ ys) w ≡ fs ++ set_value t ys w) → cond b (Some f.1) (lookup t fs) ≡ None
          → cond b ((f.0, w) ∷ (fs ++ ys)) (f ∷ set_value t (fs ++ ys) w) ≡ f ∷ (fs ++ set_value t ys w)
      by true h e = absurd (let n : None ≡ Some f.1 = sym e in cc)
      by false h e = ap (λ l. f ∷ l) (h e)

  pub removed-taken : (es : List (K × X)) (x : X) → lookup t es ≡ Some x → IsTaken x es (remove_entry t es)
  removed-taken [] x e = absurd (let n : None ≡ Some x = e in cc)
  removed-taken (f ∷ fs) x e = by (t f.0) (removed-taken fs x) e
    where
      by : (b : Bool) → (lookup t fs ≡ Some x → IsTaken x fs (remove_entry t fs)) → cond b (Some f.1) (lookup t fs) ≡ Some x
          → IsTaken x (f ∷ fs) (cond b fs (f ∷ remove_entry t fs))
      by true h e =
          let same : f.1 ≡ x = cc in
          record { key = f.0; moved = subst (λ y. IsPermutation (f ∷ fs) ((f.0, y) ∷ fs)) same (IsPermutation-refl (f ∷ fs)) }
      by false h e =
          let r = h e in
          record {
            key = r.key;
            moved =
                IsPermutation-trans _ _ _ (IsPermutation-cons f fs ((r.key, x) ∷ remove_entry t fs) r.moved)
                (IsPermutation-middle (f ∷ []) (r.key, x) (remove_entry t fs));
          }

  pub removed-missed : (es : List (K × X)) → lookup t es ≡ None → remove_entry t es ≡ es
  removed-missed [] e = refl
  removed-missed (f ∷ fs) e = by (t f.0) (removed-missed fs) e
    where
      by : (b : Bool) → (lookup t fs ≡ None → remove_entry t fs ≡ fs) → cond b (Some f.1) (lookup t fs) ≡ None
          → cond b fs (f ∷ remove_entry t fs) ≡ f ∷ fs
      by true h e = absurd (let n : None ≡ Some f.1 = sym e in cc)
      by false h e = ap (λ l. f ∷ l) (h e)

  pub none-first : (xs ys : List (K × X)) → lookup t (xs ++ ys) ≡ None → lookup t xs ≡ None
  none-first xs ys e = by (lookup t xs) refl
    where
      by : (o : Option X) → lookup t xs ≡ o → lookup t xs ≡ None
      by None h = h
      by (Some x) h = absurd (let n : None ≡ Some x = sym e ∙ first-lookup xs ys x h in cc)

-- an entry more in the first list
pub first-added : {A : Type 0} (xs us ys : List A) (z : A) → IsPermutation (xs ++ z ∷ []) us → IsPermutation ((xs ++ ys) ++ z ∷ []) (us ++ ys)
first-added xs us ys z m =
    let last = z ∷ [] in
    IsPermutation-trans ((xs ++ ys) ++ last) ((xs ++ last) ++ ys) (us ++ ys)
    (subst (λ l. IsPermutation ((xs ++ ys) ++ last) l) (sym (append_assoc xs last ys))
    (subst (λ l. IsPermutation l (xs ++ (last ++ ys))) (sym (append_assoc xs ys last))
    (IsPermutation-append_right xs (ys ++ last) (last ++ ys) (IsPermutation-append_comm ys last))))
    (IsPermutation-append_left ys (xs ++ last) us m)

-- an entry fewer in the first list, or in the second one
pub first-taken : {K X : Type 0} (x : X) (xs us ys : List (K × X)) → IsTaken x xs us → IsTaken x (xs ++ ys) (us ++ ys)
first-taken x xs us ys r = record { key = r.key; moved = IsPermutation-append_left ys xs ((r.key, x) ∷ us) r.moved }

pub second-taken : {K X : Type 0} (x : X) (xs ys vs : List (K × X)) → IsTaken x ys vs → IsTaken x (xs ++ ys) (xs ++ vs)
second-taken x xs ys vs r = record {
  key = r.key;
  moved =
      IsPermutation-trans (xs ++ ys) (xs ++ (r.key, x) ∷ vs) ((r.key, x) ∷ (xs ++ vs)) (IsPermutation-append_right xs ys ((r.key, x) ∷ vs) r.moved)
      (IsPermutation-middle xs (r.key, x) vs);
}

-- a number is taken out, if it is there
abbrev pub Leaves : ℤ → (old new : List (ℤ × Entry)) → Type 0
Leaves z old new = MatchOption (lookup (int_eq z) old) (new ≡ old) (λ x. IsTaken x old new)

pub leaves-as : (y z : ℤ) (old older new newer : List (ℤ × Entry)) → y ≡ z → old ≡ older → new ≡ newer → Leaves y old new → Leaves z older newer
leaves-as y z old older new newer e f g h =
    subst (λ w. Leaves w older newer) e (subst (λ l. Leaves y l newer) f (subst (λ l. Leaves y old l) g h))

-- one is added behind
pub second-added : (ds ss us all : List (ℤ × Entry)) (z : ℤ) (x : Entry) → ds ++ ss ≡ all → us ≡ ss ++ (z, x) ∷ [] → IsPermutation (all ++ (z, x) ∷ []) (ds ++ us)
second-added ds ss us all z x e h =
    subst (λ l. IsPermutation (l ++ (z, x) ∷ []) (ds ++ us)) e
    (subst (λ l. IsPermutation ((ds ++ ss) ++ (z, x) ∷ []) (ds ++ l)) (sym h)
    (subst (λ l. IsPermutation l (ds ++ (ss ++ (z, x) ∷ []))) (sym (append_assoc ds ss ((z, x) ∷ []))) (IsPermutation-refl (ds ++ (ss ++ (z, x) ∷ [])))))

module _ (z : ℤ) (ds ss : List (ℤ × Entry)) where
  -- the value of one is another
  pub first-looked : true ≡ is_some (lookup (int_eq z) ds) → lookup (int_eq z) (ds ++ ss) ≡ lookup (int_eq z) ds
  first-looked there = by (lookup (int_eq z) ds) refl there
    where
      by : (o : Option Entry) → lookup (int_eq z) ds ≡ o → true ≡ is_some o → lookup (int_eq z) (ds ++ ss) ≡ lookup (int_eq z) ds
      by None e there = absurd (cc)
      by (Some x) e there = first-lookup (int_eq z) ds ss x e ∙ sym e

  pub first-revalued : (v : Value) (us : List (ℤ × Entry)) → true ≡ is_some (lookup (int_eq z) ds) → us ≡ with_value (lookup (int_eq z) ds) z v ds
      → us ++ ss ≡ with_value (lookup (int_eq z) (ds ++ ss)) z v (ds ++ ss)
  first-revalued v us there h = by (lookup (int_eq z) ds) refl there
    where
      by : (o : Option Entry) → lookup (int_eq z) ds ≡ o → true ≡ is_some o → us ++ ss ≡ with_value (lookup (int_eq z) (ds ++ ss)) z v (ds ++ ss)
      by None e there = absurd (cc)
      by (Some x) e there =
          let t = int_eq z in
          ap (λ l. l ++ ss) (h ∙ ap (λ o. with_value o z v ds) e)
          ∙ sym (ap (λ o. with_value o z v (ds ++ ss)) (first-lookup t ds ss x e) ∙ first-set t ds ss x (revalued x v) e)

  pub none-looked : false ≡ is_some (lookup (int_eq z) ds) → lookup (int_eq z) ds ≡ None
  none-looked there = by (lookup (int_eq z) ds) refl there
    where
      by : (o : Option Entry) → lookup (int_eq z) ds ≡ o → false ≡ is_some o → lookup (int_eq z) ds ≡ None
      by None e there = e
      by (Some x) e there = absurd (cc)

  pub second-revalued : (x : Entry) (v : Value) (us : List (ℤ × Entry)) → lookup (int_eq z) ds ≡ None → lookup (int_eq z) ss ≡ Some x → us ≡ set_value (int_eq z) ss (revalued x v)
      → ds ++ us ≡ with_value (lookup (int_eq z) (ds ++ ss)) z v (ds ++ ss)
  second-revalued x v us none e h =
      let t = int_eq z in
      ap (λ l. ds ++ l) h
      ∙ sym (ap (λ o. with_value o z v (ds ++ ss)) (second-lookup t ds ss none ∙ e) ∙ second-set t ds ss (revalued x v) none)

  -- one is removed: from the first list if it is there
  pub first-removed : (us : List (ℤ × Entry)) → true ≡ is_some (lookup (int_eq z) ds) → us ≡ remove_entry (int_eq z) ds
      → Leaves z (ds ++ ss) (us ++ ss)
  first-removed us there h = by (lookup (int_eq z) ds) refl there
    where
      by : (o : Option Entry) → lookup (int_eq z) ds ≡ o → true ≡ is_some o
          → MatchOption (lookup (int_eq z) (ds ++ ss)) (us ++ ss ≡ ds ++ ss) (λ x. IsTaken x (ds ++ ss) (us ++ ss))
      by None e there = absurd (cc)
      by (Some x) e there =
          let taken : IsTaken x ds us = subst (IsTaken x ds) (sym h) (removed-taken (int_eq z) ds x e) in
          subst (λ o. MatchOption o (us ++ ss ≡ ds ++ ss) (λ x. IsTaken x (ds ++ ss) (us ++ ss))) (sym (first-lookup (int_eq z) ds ss x e)) (first-taken x ds us ss taken)

  pub second-removed : (us : List (ℤ × Entry)) → false ≡ is_some (lookup (int_eq z) ds) → us ≡ swap_remove_entry (int_eq z) ss
      → Leaves z (ds ++ ss) (ds ++ us)
  second-removed us there h = by (lookup (int_eq z) ds) refl there
    where
      found : (o : Option Entry) → lookup (int_eq z) ss ≡ o → MatchOption o (ds ++ us ≡ ds ++ ss) (λ x. IsTaken x (ds ++ ss) (ds ++ us))
      found None e = ap (λ l. ds ++ l) (h ∙ swap-missed (int_eq z) ss e)
      found (Some x) e =
          let m = swap-hit (int_eq z) x ss e in
          second-taken x ds ss us (record { key = m.0; moved = subst (λ l. IsPermutation ss ((m.0, x) ∷ l)) (sym h) m.1 })

      by : (o : Option Entry) → lookup (int_eq z) ds ≡ o → false ≡ is_some o
          → MatchOption (lookup (int_eq z) (ds ++ ss)) (ds ++ us ≡ ds ++ ss) (λ x. IsTaken x (ds ++ ss) (ds ++ us))
      by (Some x) e there = absurd (cc)
      by None e there =
          subst (λ o. MatchOption o (ds ++ us ≡ ds ++ ss) (λ x. IsTaken x (ds ++ ss) (ds ++ us))) (sym (second-lookup (int_eq z) ds ss e)) (found (lookup (int_eq z) ss) refl)

pub seen-none : (o : Option Entry) → true ≡ is_some o → None ≡ option_map (λ (e : Entry). e.value) o → ⊥
seen-none None there e = cc
seen-none (Some x) there e = cc
