use Rattle.std.proofs.Common.{◌≡◌, ℕ, ◌+◌, ◌-◌, ◌≤◌, List, take, drop, length, length-take, length-drop, arith}
use Rattle.std.proofs.lemmas.List.{drop-take, take-take, drop-drop}

-- The bytes of a cut, in either order of its ends.
pub drop_of_take : {X : Type 0} (xs : List X) (start end : ℕ) → start ≤ end → take (end - start) (drop start xs) ≡ drop start (take end xs)
drop_of_take xs start end ordered =
    let end_by_start : end ≡ start + (end - start) = omega arith in
    let whole = drop-take start (end - start) xs in
    cc

-- A cut of a cut is a cut of the whole.
pub cut_of_cut : {X : Type 0} (xs : List X) (start from to end : ℕ) → from ≤ to → start + to ≤ end → drop (start + from) (take (start + to) xs) ≡ drop from (take to (drop start (take end xs)))
cut_of_cut xs start from to end ordered within =
    let to_by_from : start + to ≡ (start + from) + (to - from) = omega arith in
    let end_by_start : end ≡ start + (end - start) = omega arith in
    let to_split : to ≡ from + (to - from) = omega arith in
    let fits : to ≤ end - start = omega arith in
    let outer = drop-take (start + from) (to - from) xs in
    let whole = drop-take start (end - start) xs in
    let shorter = take-take to (end - start) (drop start xs) fits in
    let inner = drop-take from (to - from) (drop start xs) in
    let both = drop-drop from start xs in
    cc

-- The places of a cut are places of the whole.
pub place_in_whole : (xs : List ℕ) (start end place : ℕ) → start ≤ end → end ≤ length xs → place ≤ length (drop start (take end xs)) → start + place ≤ end
place_in_whole xs start end place ordered within inside = grind (arith, length-take, length-drop)
