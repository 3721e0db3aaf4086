use Rattle.std.proofs.Common.{◌≡◌, ◌+◌, ◌-◌, ◌≤◌, ◌++◌, length}
use Rattle.awk_text.specs.definitions.Reading.{parts_of, parts_within}
use Rattle.awk_text.proofs.prepared.Format.read.Given as goal

-- the parts so far and those of what is left are the whole
abbrev pub invariant-loop-rest : goal.invariant-loop-rest
invariant-loop-rest l = record {
  fits : length l.rest + length l.parts.items ≤ length l.text;
  parts : l.parts.items ++ parts_within (length l.text - length l.parts.items) l.rest ≡ parts_of l.text;
}

abbrev pub decreases-loop-rest : goal.decreases-loop-rest
decreases-loop-rest l = length l.rest
