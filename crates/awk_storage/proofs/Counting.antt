-- Counts that are numbers still.
use Rattle.std.proofs.Common.{◌≡◌, ℕ, ◌<◌, ◌≤◌, ◌^◌, ℤ, pos, negsuc, ◌+ℤ◌, ◌≤ℤ◌, ◌<ℤ◌, Ok, arith}
use Rattle.std.specs.Prelude.{FitsSigned}
use Rattle.std.specs.Int.{w128}
use Rattle.std.proofs.lemmas.Int.{ints}
use Rattle.awk_value.specs.Arithmetic.{sum_of}
use Rattle.awk_value.proofs.RangeIsInt128.{in_range}

pub count_fits : (n : ℤ) (k count : ℕ) → (pos 0 ≤ℤ n) × (n <ℤ pos (2 ^ 62)) → count < 2 ^ 64 → k ≤ count → FitsSigned w128 (n +ℤ pos k)
count_fits (pos m) k count small low within =
    let most : m < 2 ^ 62 = omega (arith, ints, small.1) in
    record { sfits = omega (arith, most, low, within) }
count_fits (negsuc m) k count small low within = absurd (omega (arith, ints, small.0))

pub counts_on : (n : ℤ) (k count : ℕ) → (pos 0 ≤ℤ n) × (n <ℤ pos (2 ^ 62)) → count < 2 ^ 64 → k ≤ count → sum_of n (pos k) ≡ Ok (n +ℤ pos k)
counts_on n k count small low within = in_range (n +ℤ pos k) (count_fits n k count small low within)
