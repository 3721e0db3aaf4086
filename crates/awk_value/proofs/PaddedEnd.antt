-- What is left of a padded text that was appended.
use Rattle.std.proofs.Common.{◌≡◌, ◌≤◌, ◌+◌, ◌++◌, ℕ, List, length, take, ap, ◌∙◌}
use Rattle.std.proofs.Math.Seq.{take-append-add}
use Rattle.std.proofs.lemmas.List.{length-take-le}

pub padded_end : (before padded : List ℕ) (len : ℕ) → len ≤ length padded → take (length before + length (take len padded)) (before ++ padded) ≡ before ++ take len padded
padded_end before padded len few =
    take-append-add before padded (length (take len padded)) ∙ ap (λ n. before ++ take n padded) (length-take-le len padded few)
