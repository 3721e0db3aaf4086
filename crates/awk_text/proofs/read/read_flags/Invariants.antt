use Rattle.std.proofs.Common.{◌≡◌, ◌≤◌, length}
use Rattle.awk_text.specs.definitions.Reading.{no_flags, flags_from, after_flags}
use Rattle.awk_text.proofs.read.read_flags.Given as goal

abbrev pub invariant-loop-first : goal.invariant-loop-first
invariant-loop-first l = record {
  flags : flags_from l.flags l.rest ≡ flags_from no_flags l.text;
  rest : after_flags l.rest ≡ after_flags l.text;
  short : length l.rest ≤ length l.text;
}

abbrev pub decreases-loop-first : goal.decreases-loop-first
decreases-loop-first l = length l.rest
