use Rattle.std.proofs.Common.{◌≡◌, ◌-◌, ◌≤◌, true, take, length}
use Rattle.std.specs.Str.{all_ascii_digits}
use Rattle.awk_value.specs.support.Texts.{digits_after}
use Rattle.awk_value.proofs.decimal.few_digits.Given as goal

abbrev pub invariant-loop-at : goal.invariant-loop-at
invariant-loop-at l = record {
  within : l.at ≤ length l.digits;
  all : all_ascii_digits (take l.at l.digits) ≡ true;
  read : l.number ≡ digits_after 0 (take l.at l.digits);
}

abbrev pub decreases-loop-at : goal.decreases-loop-at
decreases-loop-at l = length l.digits - l.at
