-- A set of names has those that were put in, in whatever order and however often.
use Rattle.std.proofs.Common.{◌≡◌, ℕ, Bool, true, false, ◌||◌, List, [], ◌∷◌, ◌++◌, bytes_eq, if◌then◌else◌, refl, sym, ap, ◌∙◌}
use Rattle.std.specs.Global.{Vec}
use Rattle.std.specs.List.{list_any}
use Rattle.std.proofs.Math.Bool.{or-false, or-true}
use Rattle.std.proofs.lemmas.List.Folds.{list_any-append}
use Rattle.std.proofs.lemmas.Slice.Eq.{bytes_eq-Decides}
use Rattle.indexmap.specs.IndexSet.{insert_key}
use Rattle.awk_kinds.specs.definitions.Names.{has_name}

-- the name is a key
abbrev pub is_key : List (Vec ℕ) → List ℕ → Bool
is_key ks x = list_any (λ k. bytes_eq x k.items) ks

-- the keys are these names
abbrev pub Knows : List (Vec ℕ) → List (List ℕ) → Type 0
Knows ks ps = (x : List ℕ) → is_key ks x ≡ has_name ps x

pub one_more : (ks : List (Vec ℕ)) (k : Vec ℕ) (ps : List (List ℕ)) (p : List ℕ) → k.items ≡ p → Knows ks ps → Knows (insert_key (λ k l. bytes_eq k.items l.items) ks k) (ps ++ p ∷ [])
one_more ks k ps p is knows x = by (is_key ks k.items) refl ∙ ap (λ q. has_name (ps ++ q ∷ []) x) is
  where
    there : is_key ks k.items ≡ true → (c : Bool) → bytes_eq x k.items ≡ c → has_name ps x ≡ (has_name ps x || (c || false))
    there e false h = sym (or-false (has_name ps x))
    there e true h = ap (has_name ps) ((bytes_eq-Decides x k.items).0 h) ∙ sym (knows k.items) ∙ e ∙ sym (or-true (has_name ps x))

    by : (b : Bool) → is_key ks k.items ≡ b → is_key (if b then ks else ks ++ k ∷ []) x ≡ has_name (ps ++ k.items ∷ []) x
    by true e = knows x ∙ there e (bytes_eq x k.items) refl ∙ sym (list_any-append (bytes_eq x) ps (k.items ∷ []))
    by false e = list_any-append (λ (l : Vec ℕ). bytes_eq x l.items) ks (k ∷ []) ∙ ap (λ b. b || (bytes_eq x k.items || false)) (knows x) ∙ sym (list_any-append (bytes_eq x) ps (k.items ∷ []))
