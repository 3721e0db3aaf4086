use Rattle.std.proofs.Common.{◌≡◌, ◌≤◌, length}
use Rattle.awk_text.specs.definitions.Reading.{from_percent}
use Rattle.awk_text.proofs.read.skip_plain.Given as goal

abbrev pub invariant-loop-first : goal.invariant-loop-first
invariant-loop-first l = record {
  rest : from_percent l.rest ≡ from_percent l.text;
  short : length l.rest ≤ length l.text;
}

abbrev pub decreases-loop-first : goal.decreases-loop-first
decreases-loop-first l = length l.rest
