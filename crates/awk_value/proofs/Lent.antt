-- What is left of an array whose value was lent, by what is left in the place.
use Rattle.std.proofs.Common.{◌≡◌, inl}
use Rattle.std.specs.Prelude.{◌⊎◌}

pub lent_as : {G A B C : Type 0} (g : G) (f h : A → B) → ((w : A) → f w ≡ h w)
    → ◌≡◌ {A = (G × (A → B)) ⊎ C} (inl (g, f)) (inl (g, h))
lent_as g f h e = (λ i. inl (g, λ w. e w i))
