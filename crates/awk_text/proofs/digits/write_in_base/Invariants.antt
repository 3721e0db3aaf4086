use Rattle.std.proofs.Common.{◌≡◌, ◌≤◌, length, drop}
use Rattle.std.specs.Fmt.{digits, digits_onto}
use Rattle.awk_text.proofs.digits.write_in_base.Given as goal

abbrev pub invariant-loop-at : goal.invariant-loop-at
invariant-loop-at l = record {
  within : l.at ≤ 64;
  size : length l.buffer ≡ 64;
  told : digits_onto l.at l.base l.upper l.rest (drop l.at l.buffer) ≡ digits l.base l.upper l.number;
}

abbrev pub decreases-loop-at : goal.decreases-loop-at
decreases-loop-at l = l.at
