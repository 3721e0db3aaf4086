-- How a search goes on.
use Rattle.std.proofs.Common.{◌≡◌, ◌⊎◌, inl, inr, ℕ, zero, suc, ◌+◌, ◌<◌, ◌≤◌, Bool, true, false, List, [], ◌∷◌, ◌++◌, get_or, length, refl, sym, subst, ap, ◌∙◌, arith, append_assoc, length-append}
use Rattle.std.proofs.Math.ListN.{set, replicate, get_or-eq_default}
use Rattle.std.proofs.lemmas.List.{get_or_default, get_or-set_same, get_or-set_other, length-set, append-nil, get_or_append_left}
use Rattle.std.proofs.lemmas.List.Elements.{Contains-get_or, Contains-push, Contains-push_cases, Contains-append_left}
use Rattle.std.proofs.lemmas.Bool.{cases_eq, cases_lt}
use Rattle.std.specs.List.{Contains}
use Rattle.awk_kinds.specs.declared.reach.Search.{Search}
use Rattle.awk_kinds.specs.support.Search.{IsMarked, unmarked, Marks, MarksOne, MarksAll}
use Rattle.awk_kinds.specs.support.Reach.{Reaches, First, Along, MarksReached}

unmarked_set : (bs : List Bool) (v : ℕ) → v < length bs → get_or bs v false ≡ false → suc (unmarked (set bs v true)) ≡ unmarked bs
unmarked_set [] v h e = absurd (omega (arith, h))
unmarked_set (true ∷ bs) zero h e = let bad : true ≡ false = e in cc
unmarked_set (false ∷ bs) zero h e = refl
unmarked_set (true ∷ bs) (suc v) h e = unmarked_set bs v (omega (arith, h)) e
unmarked_set (false ∷ bs) (suc v) h e = ap suc (unmarked_set bs v (omega (arith, h)) e)

pub newly : (old new : Search) (v : ℕ) → v < length old.marks.items → get_or old.marks.items v false ≡ false → new.marks.items ≡ set old.marks.items v true → new.found.items ≡ old.found.items ++ v ∷ [] → MarksOne old new v
newly old new v low off marks found =
    let on : IsMarked new v = ap (λ bs. get_or bs v false) marks ∙ get_or-set_same old.marks.items v true false low in
    let other : (w : ℕ) → (w ≡ v → ⊥) → get_or new.marks.items w false ≡ get_or old.marks.items w false = λ w ne. ap (λ bs. get_or bs w false) marks ∙ get_or-set_other old.marks.items v w true false ne in
    let kept : (w : ℕ) → IsMarked old w → IsMarked new w = λ w h. elim (cases_eq w v) [ inl e ↦ subst (λ x. IsMarked new x) (sym e) on | inr ne ↦ other w ne ∙ h ] in
    let fresh : (w : ℕ) → IsMarked new w → IsMarked old w ⊎ (w ≡ v) = λ w h. elim (cases_eq w v) [ inl e ↦ inr e | inr ne ↦ inl (sym (other w ne) ∙ h) ] in
    let u : suc (unmarked (set old.marks.items v true)) ≡ unmarked old.marks.items = unmarked_set old.marks.items v low off in
    let l : length (old.found.items ++ v ∷ []) ≡ length old.found.items + 1 = length-append old.found.items (v ∷ []) in
    record {
      marks = record {
        long = ap length marks ∙ length-set old.marks.items v true;
        kept = kept;
        fresh = fresh;
        grows = (v ∷ [], found);
        found = λ all w h. subst (λ xs. Contains xs w) (sym found) (elim (fresh w h) [ inl m ↦ Contains-append_left old.found.items (v ∷ []) w (all w m) | inr e ↦ subst (λ x. Contains (old.found.items ++ v ∷ []) x) (sym e) (Contains-push old.found.items v) ]);
        is_marked = λ all w h. elim (Contains-push_cases old.found.items v w (subst (λ xs. Contains xs w) found h)) [ inl c ↦ kept w (all w c) | inr e ↦ subst (λ x. IsMarked new x) e on ];
        left = ap (λ bs. unmarked bs + length new.found.items) marks ∙ ap (λ xs. unmarked (set old.marks.items v true) + length xs) found ∙ omega (arith, u, l);
      };
      marked = on;
    }

pub marks_none : (s : Search) (P : ℕ → Type 0) → Marks s s P
marks_none s P = record {
  long = refl;
  kept = λ v h. h;
  fresh = λ v h. inl h;
  grows = ([], sym (append-nil s.found.items));
  found = λ all. all;
  is_marked = λ all. all;
  left = refl;
}

pub marks_then : {a b c : Search} {P Q : ℕ → Type 0} → Marks a b P → Marks b c Q → ((v : ℕ) → Q v → P v) → Marks a c P
marks_then {a} {b} {c} {P} {Q} p q within = record {
  long = q.long ∙ p.long;
  kept = λ v h. q.kept v (p.kept v h);
  fresh = λ v h. elim (q.fresh v h) [ inl m ↦ p.fresh v m | inr x ↦ inr (within v x) ];
  grows = (p.grows.0 ++ q.grows.0, q.grows.1 ∙ ap (λ l. l ++ q.grows.0) p.grows.1 ∙ append_assoc a.found.items p.grows.0 q.grows.0);
  found = λ all. q.found (p.found all);
  is_marked = λ all. q.is_marked (p.is_marked all);
  left = q.left ∙ p.left;
}

pub marked_low : (bs : List Bool) (v : ℕ) → get_or bs v false ≡ true → v < length bs
marked_low bs v h = elim (cases_lt v (length bs)) [ inl low ↦ low | inr high ↦ (let bad : false ≡ true = sym (get_or-eq_default bs false high) ∙ h in cc) ]

-- a search along edges, of whose found vertices the first ones are done
pub record Searching (count : ℕ) (first : List ℕ) (edges : List (ℕ × ℕ)) (s : Search) (done : ℕ) : Type 0 where
  pub long : length s.marks.items ≡ count
  pub sound : (v : ℕ) → IsMarked s v → Reaches first edges v
  pub found : (v : ℕ) → IsMarked s v → Contains s.found.items v
  pub is_marked : (v : ℕ) → Contains s.found.items v → IsMarked s v
  pub starts : (v : ℕ) → Contains first v → IsMarked s v
  pub within : done ≤ length s.found.items
  pub closed : (k : ℕ) → k < done → (v : ℕ) → Contains edges (v, get_or s.found.items k 0) → IsMarked s v

pub begins : (count : ℕ) (first : List ℕ) (edges : List (ℕ × ℕ)) (old new : Search) → length old.marks.items ≡ count → ((v : ℕ) → IsMarked old v → ⊥) → old.found.items ≡ [] → MarksAll old new first → Searching count first edges new 0
begins count first edges old new long none empty m = record {
  long = m.marks.long ∙ long;
  sound = λ v h. elim (m.marks.fresh v h) [ inl x ↦ absurd (none v x) | inr c ↦ First v c ];
  found = m.marks.found (λ v h. absurd (none v h));
  is_marked = m.marks.is_marked (λ v h. (let h' : Contains [] v = subst (λ xs. Contains xs v) empty h in absurd (omega (arith, h'.1))));
  starts = m.marked;
  within = omega arith;
  closed = λ k h. absurd (omega (arith, h));
}

-- the next of the found vertices is done
pub goes_on : (count : ℕ) (first : List ℕ) (edges : List (ℕ × ℕ)) (old new : Search) (done : ℕ) (list : List ℕ) → Searching count first edges old done → done < length old.found.items → ((v : ℕ) → Contains list v → Contains edges (v, get_or old.found.items done 0)) → ((v : ℕ) → Contains edges (v, get_or old.found.items done 0) → Contains list v) → MarksAll old new list → Searching count first edges new (done + 1)
goes_on count first edges old new done list s low from to m =
    let same : (k : ℕ) → k < length old.found.items → get_or new.found.items k 0 ≡ get_or old.found.items k 0 = λ k h. ap (λ xs. get_or xs k 0) m.marks.grows.1 ∙ get_or_append_left old.found.items m.marks.grows.0 0 k h in
    let longer : length new.found.items ≡ length old.found.items + length m.marks.grows.0 = ap length m.marks.grows.1 ∙ length-append old.found.items m.marks.grows.0 in
    let here : Contains old.found.items (get_or old.found.items done 0) = Contains-get_or old.found.items done 0 low in
    record {
      long = m.marks.long ∙ s.long;
      sound = λ v h. elim (m.marks.fresh v h) [ inl x ↦ s.sound v x | inr c ↦ Along v (get_or old.found.items done 0) (from v c) (s.sound (get_or old.found.items done 0) (s.is_marked _ here)) ];
      found = m.marks.found s.found;
      is_marked = m.marks.is_marked s.is_marked;
      starts = λ v h. m.marks.kept v (s.starts v h);
      within = omega (arith, low, longer);
      closed = λ k h v c. elim (cases_lt k done) [
        | inl before ↦ m.marks.kept v (s.closed k before v (subst (λ w. Contains edges (v, w)) (same k (omega (arith, before, low))) c))
        | inr after ↦ (let e : k ≡ done = omega (arith, after, h) in m.marked v (to v (subst (λ w. Contains edges (v, w)) (ap (λ j. get_or new.found.items j 0) e ∙ same done low) c)))
      ];
    }

complete : (count : ℕ) (first : List ℕ) (edges : List (ℕ × ℕ)) (s : Search) (done : ℕ) → Searching count first edges s done → length s.found.items ≤ done → (v : ℕ) → Reaches first edges v → IsMarked s v
complete count first edges s done h all v (First v' c) = h.starts v c
complete count first edges s done h all v (Along v' w c r) =
    let at : Contains s.found.items w = h.found w (complete count first edges s done h all w r) in
    h.closed at.0 (omega (arith, at.1, all)) v (subst (λ x. Contains edges (v, x)) (sym (get_or_default s.found.items at.0 0 w at.1 ∙ at.2)) c)

pub ends : (count : ℕ) (first : List ℕ) (edges : List (ℕ × ℕ)) (s : Search) (done : ℕ) → Searching count first edges s done → length s.found.items ≤ done → MarksReached count first edges s.marks.items
ends count first edges s done h all = record { long = h.long; sound = h.sound; complete = complete count first edges s done h all }

never : (n v : ℕ) → get_or (replicate n false) v false ≡ false
never zero v = refl
never (suc n) zero = refl
never (suc n) (suc v) = never n v

pub none_marked : (bs : List Bool) (n v : ℕ) → bs ≡ replicate n false → get_or bs v false ≡ true → ⊥
none_marked bs n v e h = let bad : false ≡ true = sym (never n v) ∙ ap (λ xs. get_or xs v false) (sym e) ∙ h in cc

pub end_low : (count : ℕ) (first : List ℕ) (edges : List (ℕ × ℕ)) (s : Search) (done x : ℕ) → Searching count first edges s done → done < length s.found.items → x ≡ get_or s.found.items done x → x < count
end_low count first edges s done x h low e = subst (λ n. x < n) h.long (marked_low s.marks.items x (h.is_marked x (done, low, sym e)))
