-- Names that are copied, one behind the other.
use Rattle.std.proofs.Common.{◌≡◌, ℕ, zero, suc, ◌<◌, Bool, true, false, ◌||◌, List, [], ◌∷◌, ◌++◌, length, take, Option, Some, None, slice_get, bytes_eq, if◌then◌else◌, refl, sym, ap, ◌∙◌, true≢false, arith}
use Rattle.std.proofs.lemmas.Slice.Eq.{bytes_eq-Decides}
use Rattle.awk_kinds.specs.definitions.Names.{has_name, with_name, AreDistinct}

-- a name that is there stands somewhere
stands_somewhere : (names : List (List ℕ)) (x : List ℕ) → has_name names x ≡ true → (i : ℕ) × (slice_get names i ≡ Some x)
stands_somewhere [] x e = absurd (true≢false (sym e))
stands_somewhere (y ∷ names) x e = by (bytes_eq x y) refl (λ h. stands_somewhere names x h)
  where
    by : (b : Bool) → bytes_eq x y ≡ b → (has_name names x ≡ true → (i : ℕ) × (slice_get names i ≡ Some x)) → (i : ℕ) × (slice_get (y ∷ names) i ≡ Some x)
    by true is later = (0, ap Some (sym ((bytes_eq-Decides x y).0 is)))
    by false is later =
        let rest = later (ap (λ b. b || has_name names x) (sym is) ∙ e) in
        (suc rest.0, rest.1)

get-take : (names : List (List ℕ)) (n i : ℕ) (x : List ℕ) → slice_get (take n names) i ≡ Some x → (i < n) × (slice_get names i ≡ Some x)
get-take names zero i x e = cc
get-take [] (suc n) i x e = cc
get-take (y ∷ names) (suc n) zero x e = (omega arith, e)
get-take (y ∷ names) (suc n) (suc i) x e = let h = get-take names n i x e in (omega (arith, h.0), h.1)

-- the next of names that are distinct
pub next_added : (names : List (List ℕ)) (i : ℕ) (x : List ℕ) → AreDistinct names → slice_get names i ≡ Some x → with_name (take i names) x ≡ take (suc i) names
next_added names i x distinct at = by (has_name (take i names) x) refl
  where
    longer : (names : List (List ℕ)) (i : ℕ) (x : List ℕ) → slice_get names i ≡ Some x → take i names ++ x ∷ [] ≡ take (suc i) names
    longer [] i x at = cc
    longer (y ∷ names) zero x at = let e : x ≡ y = cc in ap (λ z. z ∷ []) e
    longer (y ∷ names) (suc i) x at = ap (λ l. y ∷ l) (longer names i x at)

    by : (b : Bool) → has_name (take i names) x ≡ b → (if b then take i names else take i names ++ x ∷ []) ≡ take (suc i) names
    by true e =
        let s = stands_somewhere (take i names) x e in
        let g = get-take names i s.0 x s.1 in
        absurd (omega (arith, g.0, distinct s.0 i x g.1 at))
    by false e = longer names i x at
