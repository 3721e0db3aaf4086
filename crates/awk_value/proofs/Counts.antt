-- As many items stand in the order of their stamps as there are rows.
use Rattle.std.proofs.Common.{◌≡◌, ℕ, zero, suc, ◌<◌, ◌≤◌, nat_eq, Option, Some, None, List, [], ◌∷◌, ◌++◌, length, length-append, refl, ap, arith}
use Rattle.std.specs.Option.{option_to_list}
use Rattle.std.specs.Map.{keys_of, lookup}
use Rattle.std.specs.List.{IsDistinct, AllByRecursion}
use Rattle.awk_value.specs.support.StampOrder.{stamp_order}
use Rattle.awk_value.proofs.ByStamp.{split}
use Rattle.awk_value.proofs.OneEntry.{none_apart}

pub stamp_order-nil : {P : Type 0} (n : ℕ) → stamp_order {P = P} n [] ≡ []
stamp_order-nil zero = refl
stamp_order-nil {P} (suc n) = ap (λ (l : List P). l ++ []) (stamp_order-nil n)

length-middle : {P : Type 0} (xs ys : List P) (p : P) → length (xs ++ p ∷ ys) ≡ suc (length (xs ++ ys))
length-middle [] ys p = omega arith
length-middle (x ∷ xs) ys p = let h = length-middle xs ys p in omega arith

-- as many are ordered as there are
pub length-stamp_order : {P : Type 0} (n : ℕ) (rows : List (ℕ × P)) → IsDistinct nat_eq (keys_of rows)
    → AllByRecursion (λ s. s < n) (keys_of rows) → length (stamp_order n rows) ≡ length rows
unfolding IsDistinct
length-stamp_order n [] d b = ap length (stamp_order-nil n)
length-stamp_order n (r ∷ rs) d b =
    let s = split n r.0 rs b.0 (none_apart r.0 rs d.0) in
    let ih = length-stamp_order n rs d.1 b.1 in
    let e1 = ap length (s.with r.1) in
    let e2 = ap length s.without in
    let e3 = length-middle s.before s.after r.1 in
    omega arith

at_most_one : {P : Type 0} (o : Option P) → length (option_to_list o) ≤ 1
at_most_one None = omega arith
at_most_one (Some p) = omega arith

-- no more are ordered than there are stamps
pub stamp_order-few : {P : Type 0} (n : ℕ) (rows : List (ℕ × P)) → length (stamp_order n rows) ≤ n
stamp_order-few zero rows = omega arith
stamp_order-few (suc n) rows =
    let ih = stamp_order-few n rows in
    let one = at_most_one (lookup (nat_eq n) rows) in
    let e = length-append (stamp_order n rows) (option_to_list (lookup (nat_eq n) rows)) in
    omega arith
