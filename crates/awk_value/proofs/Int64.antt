-- A 64-bit number, as the code and as the clauses say it.
use Rattle.std.proofs.Common.{◌≡◌, ◌<◌, arith, ℕ, ℤ, pos, negsuc, true, false, FitsSigned, w64, to_z, of_z, to_z-of_z, nat_abs, int_lt, true≢false, sym, ap, ◌∙◌, refl}
use Rattle.std.proofs.lemmas.Bool.Decides.{Decides-ltb}
use Rattle.awk_value.specs.support.Texts.{IsInt64}

pub is_int64 : (z : ℤ) → FitsSigned w64 z → IsInt64 z
is_int64 (pos n) h = h.sfits
is_int64 (negsuc n) h = h.sfits

pub fits_int64 : (z : ℤ) → IsInt64 z → FitsSigned w64 z
fits_int64 (pos n) h = record { sfits = h }
fits_int64 (negsuc n) h = record { sfits = h }

-- as the code passes it on
pub passed : (z : ℤ) → FitsSigned w64 z → to_z w64 (of_z w64 z) ≡ z
passed z f = to_z-of_z f

not_negative : (z : ℤ) → int_lt z (pos 0) ≡ false → z ≡ pos (nat_abs z)
not_negative (pos n) e = refl
not_negative (negsuc n) e = absurd (true≢false e)

below_zero : (z : ℤ) → int_lt z (pos 0) ≡ true → (k : ℕ) → z ≡ pos k → ⊥
below_zero z e k same =
    let h : int_lt (pos k) (pos 0) ≡ true = ap (λ y. int_lt y (pos 0)) (sym same) ∙ e in
    let low : k < 0 = (Decides-ltb k 0).0 h in
    omega arith

-- as the code tells where it lies
pub place_is : (z : ℤ) → FitsSigned w64 z → int_lt (to_z w64 (of_z w64 z)) (pos 0) ≡ false → z ≡ pos (nat_abs (to_z w64 (of_z w64 z)))
place_is z f e =
    not_negative z (ap (λ y. int_lt y (pos 0)) (sym (to_z-of_z f)) ∙ e) ∙ ap (λ y. pos (nat_abs y)) (sym (to_z-of_z f))

pub no_place : (z : ℤ) → FitsSigned w64 z → int_lt (to_z w64 (of_z w64 z)) (pos 0) ≡ true → (k : ℕ) → z ≡ pos k → ⊥
no_place z f e = below_zero z (ap (λ y. int_lt y (pos 0)) (sym (to_z-of_z f)) ∙ e)
