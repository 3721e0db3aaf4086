use Rattle.std.proofs.Common.{◌≡◌, ◌<◌, ◌^◌, drop}
use Rattle.awk_value.specs.definitions.Numbers.{digits_value, after_digits}
use Rattle.awk_value.proofs.number.few_digits.Given as goal

abbrev pub invariant-loop-byte : goal.invariant-loop-byte
invariant-loop-byte l = record {
  value : digits_value l.value (drop l.byte-index l.text) ≡ digits_value 0 l.text;
  rest : after_digits (drop l.byte-index l.text) ≡ after_digits l.text;
  few : l.value < 10 ^ l.byte-index;
}
