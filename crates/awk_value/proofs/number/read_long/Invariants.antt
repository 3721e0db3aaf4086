use Rattle.std.proofs.Common.{◌≡◌, length}
use Rattle.awk_value.specs.definitions.Numbers.{digits_value, after_digits}
use Rattle.awk_value.proofs.number.read_long.Given as goal

abbrev pub invariant-loop-first : goal.invariant-loop-first
invariant-loop-first l = record {
  value : digits_value l.value l.rest ≡ digits_value l.start l.text;
  rest : after_digits l.rest ≡ after_digits l.text;
}

abbrev pub decreases-loop-first : goal.decreases-loop-first
decreases-loop-first l = length l.rest
