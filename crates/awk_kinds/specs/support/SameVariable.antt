-- Whether two variables are the same.
use Rattle.std.proofs.Common.{◌≡◌, Bool, true, false, ◌&&◌, bytes_eq, refl, sym, ap, ◌∙◌}
use Rattle.std.proofs.lemmas.Slice.Eq.{bytes_eq-Decides}
use Rattle.std.specs.Bool.{Decides}
use Rattle.std.specs.Cmp.{IsEquivalence, decided}
use Rattle.awk_kinds.specs.declared.variable.Variable.{Variable}
use Rattle.awk_kinds.specs.declared.variable.Variable.TheVariants.{Global, Parameter}
use Rattle.awk_kinds.specs.definitions.Kinds.{same_variable}
use Rattle.awk_kinds.specs.support.Hashed.{hashed}

both_true : (a b : Bool) → (a && b) ≡ true → (a ≡ true) × (b ≡ true)
both_true true b h = (refl, h)
both_true false b h = (h, (let bad : false ≡ true = h in cc))

pub same_is : (v w : Variable) → same_variable v w ≡ true → v ≡ w
same_is (Global x) (Global y) h = ap Global ((bytes_eq-Decides x y).0 h)
same_is (Global x) (Parameter g y) h = let bad : false ≡ true = h in cc
same_is (Parameter f x) (Global y) h = let bad : false ≡ true = h in cc
same_is (Parameter f x) (Parameter g y) h =
    let p : (bytes_eq f g ≡ true) × (bytes_eq x y ≡ true) = both_true (bytes_eq f g) (bytes_eq x y) h in
    ap (λ z. Parameter z x) ((bytes_eq-Decides f g).0 p.0) ∙ ap (λ z. Parameter g z) ((bytes_eq-Decides x y).0 p.1)

pub same_self : (v : Variable) → same_variable v v ≡ true
same_self (Global x) = (bytes_eq-Decides x x).1 refl
same_self (Parameter f x) = ap (λ b. b && bytes_eq x x) ((bytes_eq-Decides f f).1 refl) ∙ (bytes_eq-Decides x x).1 refl

pub same_variable-Decides : (v w : Variable) → Decides (same_variable v w) (v ≡ w)
same_variable-Decides v w = (same_is v w, λ e. ap (λ x. same_variable v x) (sym e) ∙ same_self v)

pub same_variable_equiv : IsEquivalence same_variable
same_variable_equiv = decided same_variable same_variable-Decides

pub same_hash : (v w : Variable) → same_variable v w ≡ true → hashed v ≡ hashed w
same_hash v w e = ap hashed (same_is v w e)
