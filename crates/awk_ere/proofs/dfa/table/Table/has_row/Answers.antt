use Rattle.std.proofs.Common.{◌≡◌, ℕ, Bool, true, List, length, take, drop, ◌+◌, ◌-◌, ◌*◌, sym, ap, ◌∙◌, arith}
use Rattle.std.proofs.Math.Bool.{beq}
use Rattle.std.specs.Cmp.{booleans_Decides}
use lib.Pointwise.{pointwise}
use Rattle.std.proofs.lemmas.Slice.Eq.{slice_eq-Decides}
use Rattle.awk_ere.proofs.dfa.table.Table.has_row.Goals as goal

same_row : (m n : ℕ) (xs ys : List Bool) → (r : Bool) → r ≡ pointwise beq (take (m + n - m) xs) ys → r ≡ true → take n xs ≡ ys
same_row m n xs ys r e t =
    let z : m + n - m ≡ n = omega arith in
    ap (λ k. take k xs) (sym z) ∙ (slice_eq-Decides booleans_Decides (take (m + n - m) xs) ys r e).0 t

pub returns : goal.returns
returns c = λ is.
    let m = c.args.number * length c.args.positions.now in
    let n = length c.args.positions.now in
    ap (λ l. take n (drop m l)) (sym c.as_slice.ensures.value) ∙ same_row m n (drop m c.as_slice.result.now) c.args.positions.now c.eq.result c.eq.ensures is
