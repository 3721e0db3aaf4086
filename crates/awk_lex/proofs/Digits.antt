-- The number that digits spell, read from the left.
use Rattle.std.proofs.Common.{◌≡◌, ℕ, ◌+◌, ◌-◌, ◌*◌, ◌^◌, ◌<◌, ◌≤◌, true, List, length, get_or, take, arith, rules}
use Rattle.std.specs.List.{list_all}
use Rattle.std.specs.Char.{is_ascii_digit, digit_value}
use Rattle.std.specs.Str.Parse.{digits_value}
use Rattle.std.proofs.lemmas.List.Sums.{AllPass-from_list_all}
use Rattle.std.proofs.lemmas.Int.Digits.{digits_value_more}
use Rattle.std.proofs.lemmas.Str.Parse.{digits_value-take-le}

digit_is : (c : ℕ) → is_ascii_digit c ≡ true → digit_value c ≡ c - 48
digit_is c h = search rules

pub read_more : (ds : List ℕ) (i value : ℕ) → list_all is_ascii_digit ds ≡ true → i < length ds → value ≡ digits_value 10 (take i ds)
    → value * 10 + (get_or ds i 0 - 48) ≡ digits_value 10 (take (i + 1) ds)
read_more ds i value all inside e =
    let digit = digit_is (get_or ds i 0) (AllPass-from_list_all is_ascii_digit ds all i 0 inside) in
    omega (arith, digits_value_more 10 ds i inside)

-- one digit more passes the largest number
pub too_large : (ds : List ℕ) (i value : ℕ) → i < length ds → value ≡ digits_value 10 (take i ds)
    → 17014118346046923173168730371588410572 < value → 2 ^ 127 ≤ digits_value 10 ds
too_large ds i value inside e large =
    omega (arith, digits_value_more 10 ds i inside, digits_value-take-le 10 ds (i + 1) (omega arith))
