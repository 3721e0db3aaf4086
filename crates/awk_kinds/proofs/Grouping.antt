-- How edges are grouped by their ends.
use Rattle.std.proofs.Common.{◌≡◌, inl, inr, ℕ, zero, suc, ◌+◌, ◌<◌, List, [], ◌∷◌, ◌++◌, get_or, length, refl, sym, subst, ap, ◌∙◌, arith, length-append}
use Rattle.std.proofs.Math.ListN.{set}
use Rattle.std.proofs.lemmas.List.{get_or-set_same, get_or-set_other, length-set}
use Rattle.std.proofs.lemmas.List.Elements.{Contains-push, Contains-push_cases, Contains-append_left}
use Rattle.std.proofs.lemmas.Bool.{cases_eq}
use Rattle.std.specs.List.{Contains}
use Rattle.std.specs.Global.{Vec}
use Rattle.awk_kinds.specs.support.Search.{Groups, rows_of}

pub none_in : {A X : Type 0} (x : X) → Contains [] x → A
none_in x h = absurd (omega (arith, h.1))

padded : (rows : List (List ℕ)) (w : ℕ) → get_or (rows ++ [] ∷ []) w [] ≡ get_or rows w []
padded [] zero = refl
padded [] (suc w) = refl
padded (r ∷ rs) zero = refl
padded (r ∷ rs) (suc w) = padded rs w

pub no_groups : Groups 0 [] []
no_groups = record { long = refl; sound = λ v w h. none_in v h; complete = λ v w h. none_in _ h }

pub one_more : (n : ℕ) (rows : List (List ℕ)) → Groups n [] rows → Groups (n + 1) [] (rows ++ [] ∷ [])
one_more n rows g = record {
  long = omega (arith, g.long, length-append rows ([] ∷ []));
  sound = λ v w h. g.sound v w (subst (λ r. Contains r v) (padded rows w) h);
  complete = λ v w h. none_in (v, w) h;
}

pub edge_added : (count : ℕ) (es : List (ℕ × ℕ)) (rows : List (List ℕ)) (v0 w0 : ℕ) → w0 < count → Groups count es rows → Groups count (es ++ (v0, w0) ∷ []) (set rows w0 (get_or rows w0 [] ++ v0 ∷ []))
edge_added count es rows v0 w0 low g =
    let row : List ℕ = get_or rows w0 [] ++ v0 ∷ [] in
    let here : get_or (set rows w0 row) w0 [] ≡ row = get_or-set_same rows w0 row [] (omega (arith, low, g.long)) in
    record {
      long = length-set rows w0 row ∙ g.long;
      sound = λ v w h. elim (cases_eq w w0) [
        | inl e ↦ (let h' : Contains row v = subst (λ r. Contains r v) (ap (λ x. get_or (set rows w0 row) x []) e ∙ here) h in
            elim (Contains-push_cases (get_or rows w0 []) v0 v h') [
              | inl old ↦ Contains-append_left es ((v0, w0) ∷ []) (v, w) (subst (λ x. Contains es (v, x)) (sym e) (g.sound v w0 old))
              | inr is ↦ subst (λ x. Contains (es ++ (v0, w0) ∷ []) (x, w)) is (subst (λ x. Contains (es ++ (v0, w0) ∷ []) (v0, x)) (sym e) (Contains-push es (v0, w0)))
            ])
        | inr ne ↦ Contains-append_left es ((v0, w0) ∷ []) (v, w) (g.sound v w (subst (λ r. Contains r v) (get_or-set_other rows w0 w row [] ne) h))
      ];
      complete = λ v w h. elim (Contains-push_cases es (v0, w0) (v, w) h) [
        | inl old ↦ (let h' : Contains (get_or rows w []) v = g.complete v w old in
            elim (cases_eq w w0) [
              | inl e ↦ subst (λ r. Contains r v) (sym (ap (λ x. get_or (set rows w0 row) x []) e ∙ here)) (Contains-append_left (get_or rows w0 []) (v0 ∷ []) v (subst (λ x. Contains (get_or rows x []) v) e h'))
              | inr ne ↦ subst (λ r. Contains r v) (sym (get_or-set_other rows w0 w row [] ne)) h'
            ])
        | inr is ↦ subst (λ (p : ℕ × ℕ). Contains (get_or (set rows w0 row) p.1 []) p.0) is (subst (λ r. Contains r v0) (sym here) (Contains-push (get_or rows w0 []) v0))
      ];
    }

pub rows_push : (gs : List (Vec ℕ)) (g : Vec ℕ) → rows_of (gs ++ g ∷ []) ≡ rows_of gs ++ g.items ∷ []
rows_push [] g = refl
rows_push (h ∷ gs) g = ap (λ rs. h.items ∷ rs) (rows_push gs g)

pub rows_set : (gs : List (Vec ℕ)) (i : ℕ) (g : Vec ℕ) → rows_of (set gs i g) ≡ set (rows_of gs) i g.items
rows_set [] i g = refl
rows_set (h ∷ gs) zero g = refl
rows_set (h ∷ gs) (suc i) g = ap (λ rs. h.items ∷ rs) (rows_set gs i g)

pub rows_long : (gs : List (Vec ℕ)) → length (rows_of gs) ≡ length gs
rows_long [] = refl
rows_long (g ∷ gs) = ap suc (rows_long gs)

pub row_at : (gs : List (Vec ℕ)) (i : ℕ) (g : Vec ℕ) → i < length gs → g ≡ get_or gs i g → get_or (rows_of gs) i [] ≡ g.items
row_at [] i g h e = absurd (omega (arith, h))
row_at (x ∷ gs) zero g h e = ap (λ (v : Vec ℕ). v.items) (sym e)
row_at (x ∷ gs) (suc i) g h e = row_at gs i g (omega (arith, h)) e
