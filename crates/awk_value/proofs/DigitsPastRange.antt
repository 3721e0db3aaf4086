use Rattle.std.proofs.Common.{◌≡◌, ℕ, ◌+◌, ◌-◌, ◌*◌, ◌^◌, ◌<◌, ◌≤◌, true, List, [], ◌∷◌, arith}
use Rattle.std.specs.Char.{is_ascii_digit}
use Rattle.awk_value.specs.definitions.Numbers.{digits_value}

-- More digits make no smaller number.
digits_value_grows : (n : ℕ) (bs : List ℕ) → n ≤ digits_value n bs
digits_value_grows n [] = omega arith
digits_value_grows n (b ∷ bs) =
    let rest = digits_value_grows (n * 10 + (b - 48)) bs in
    grind arith

-- Past a tenth of 2^127 one more digit passes 2^127.
pub digits_pass : (n b : ℕ) (bs : List ℕ) → 17014118346046923173168730371588410572 < n → is_ascii_digit b ≡ true → 2 ^ 127 < digits_value n (b ∷ bs)
digits_pass n b bs large digit =
    let rest = digits_value_grows (n * 10 + (b - 48)) bs in
    rw digit (omega arith)
