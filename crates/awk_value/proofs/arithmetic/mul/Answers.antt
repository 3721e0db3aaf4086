use Rattle.std.proofs.Common.{rules, ◌≡◌, ◌^◌, ◌≤◌, ap, ◌∙◌, sym, subst, lit<, arith}
use Rattle.std.specs.Int.{w64, w128}
use Rattle.std.specs.Prelude.{ℤ, pos, negsuc, ◌*ℤ◌, Ok, FitsSigned, unsigned_abs}
use Rattle.std.proofs.lemmas.Int.{to_z-of_z, int_wrap_fits, wrapping_mul_is, fits_signed_mul}
use Rattle.awk_value.proofs.RangeIsInt128.{in_range, out_of_range}
use Rattle.awk_value.proofs.arithmetic.mul.Goals as goal

small : (a : ℤ) → FitsSigned w64 a → unsigned_abs a ≤ 2 ^ 63
small (pos n) f = let fits = f.sfits in omega arith
small (negsuc n) f = let fits = f.sfits in omega arith

short_product : (a b : ℤ) → FitsSigned w64 a → FitsSigned w64 b → FitsSigned w128 (a *ℤ b)
short_product a b f g = fits_signed_mul w128 a b (2 ^ 63) (2 ^ 63) (small a f) (small b g) (lit< tt)

pub returns-in-Ok-Ok : goal.returns-in-Ok-Ok
returns-in-Ok-Ok c =
    let f = subst (FitsSigned w64) (sym c.in-Ok-Ok.ensures.1) c.in-Ok-Ok.ensures.0 in
    let g = subst (FitsSigned w64) (sym c.in-Ok-Ok.ensures'.1) c.in-Ok-Ok.ensures'.0 in
    let m : c.from.result ≡ c.args.m = c.from.ensures ∙ to_z-of_z w64 c.in-Ok-Ok.short f ∙ c.in-Ok-Ok.ensures.1 ∙ to_z-of_z w128 c.args.m c.ranges.m in
    let n : c.from-in-Ok-Ok.result ≡ c.args.n = c.from-in-Ok-Ok.ensures ∙ to_z-of_z w64 c.in-Ok-Ok.other g ∙ c.in-Ok-Ok.ensures'.1 ∙ to_z-of_z w128 c.args.n c.ranges.n in
    let fits = short_product c.args.m c.args.n
    (subst (FitsSigned w64) (c.in-Ok-Ok.ensures.1 ∙ to_z-of_z w128 c.args.m c.ranges.m) f)
    (subst (FitsSigned w64) (c.in-Ok-Ok.ensures'.1 ∙ to_z-of_z w128 c.args.n c.ranges.n) g) in
    rw (m, n)
    (ap Ok (wrapping_mul_is w128 c.args.m c.args.n c.ranges.m c.ranges.n ∙ int_wrap_fits w128 (c.args.m *ℤ c.args.n) fits)
    ∙ sym (in_range (c.args.m *ℤ c.args.n) fits))

pub returns-in_default : goal.returns-in_default
returns-in_default c = search (rules, in_range, out_of_range)
