-- Choices between values, and options one after another.
use Rattle.std.proofs.Common.{◌≡◌, ℕ, Bool, true, false, cond, List, [], ◌∷◌, ◌++◌, Option, Some, None, refl, sym, subst, ◌∙◌, inl, inr}
use Rattle.std.specs.Prelude.{◌⊎◌, ◌==◌}
use Rattle.std.proofs.lemmas.Option.{none-some}
use Rattle.std.proofs.lemmas.Bool.{false≢true, or_cases, eqb-true}
use Rattle.awk_ere.specs.definitions.Escapes.{among}
use Rattle.awk_ere.specs.support.Lexer.{◌>>=◌}

pub chosen : {A : Type 0} (b : Bool) (x y z : A) → cond b x y ≡ z → ((b ≡ true) × (x ≡ z)) ⊎ ((b ≡ false) × (y ≡ z))
chosen true x y z e = inl (refl, e)
chosen false x y z e = inr (refl, e)

pub chosen_some : {A : Type 0} (b : Bool) (o : Option A) (y : A) → cond b o None ≡ Some y → (b ≡ true) × (o ≡ Some y)
chosen_some true o y e = (refl, e)
chosen_some false o y e = absurd (none-some y e)

pub bind_some : {A B : Type 0} (o : Option A) (f : A → Option B) (y : B) → (o >>= f) ≡ Some y → (x : A) × (o ≡ Some x) × (f x ≡ Some y)
bind_some None f y e = absurd (none-some y e)
bind_some (Some x) f y e = (x, refl, e)

-- what would be true is false
pub refuted : (a b : Bool) → (a ≡ true → b ≡ true) → b ≡ false → a ≡ false
refuted true b f e = sym (f refl) ∙ e
refuted false b f e = refl

abbrev pub AllOf : (ℕ → Type 0) → List ℕ → Type 0
AllOf P [] = Unit {0}
AllOf P (x ∷ xs) = P x × AllOf P xs

pub among_all : (P : ℕ → Type 0) (xs : List ℕ) (b : ℕ) → AllOf P xs → among xs b ≡ true → P b
among_all P [] b h e = absurd (false≢true e)
among_all P (x ∷ xs) b h e =
    elim (or_cases (b == x) (among xs b) e) [
      | inl f ↦ subst P (sym (eqb-true b x f)) h.0
      | inr f ↦ among_all P xs b h.1 f
    ]

-- what a reader took from the front of a text
pub record Takes (text bytes rest : List ℕ) (may_stand : Bool) : Type 0 where
  pub parts : text ≡ bytes ++ rest
  pub fits : may_stand ≡ true
