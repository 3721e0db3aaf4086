use Rattle.std.proofs.Common.{◌≡◌, ◌≤◌, length}
use Rattle.awk_value.specs.Numbers.{digits_value, after_digits}
use Rattle.awk_text.proofs.read.read_count.Given as goal

abbrev pub invariant-loop-first : goal.invariant-loop-first
invariant-loop-first l = record {
  value : digits_value l.value l.rest ≡ digits_value 0 l.text;
  rest : after_digits l.rest ≡ after_digits l.text;
  fits : l.value ≤ 65535;
  short : length l.rest ≤ length l.text;
}

abbrev pub decreases-loop-first : goal.decreases-loop-first
decreases-loop-first l = length l.rest
