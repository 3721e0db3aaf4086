-- What a packed text is once bytes are put behind it.
use Rattle.std.proofs.Common.{◌≡◌, ◌≤◌, ◌+◌, ◌-◌, ◌++◌, ◌∙◌, ℕ, List, length, take, drop, ap, length-take, arith}
use Rattle.std.proofs.lemmas.List.{drop-append-le}
use Rattle.std.proofs.lemmas.Slice.{take-put_mid}
use borrow.Rule.Slice.PartMut.{put_mid}

pub extended_end : (room more put : List ℕ) (start end : ℕ) → start ≤ end → end ≤ length room → put ≡ more → drop start (take (end + length more) (put_mid end (end + length more - end) room put)) ≡ drop start (take end room) ++ more
extended_end room more put start end ordered within same =
    let long : length put ≡ length more = ap length same in
    let few : start ≤ length (take end room) = grind (arith, length-take) in
    ap (drop start) (take-put_mid end (end + length more - end) room put (end + length more) (omega arith) within)
    ∙ drop-append-le start (take end room) put few
    ∙ ap (λ bytes. drop start (take end room) ++ bytes) same
