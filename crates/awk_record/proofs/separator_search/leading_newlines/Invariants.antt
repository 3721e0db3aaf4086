use Rattle.std.proofs.Common.{◌≡◌, ◌+◌, drop}
use Rattle.awk_record.specs.definitions.Cut.{newlines}
use Rattle.awk_record.proofs.separator_search.leading_newlines.Given as goal

abbrev pub invariant-loop-i : goal.invariant-loop-i
invariant-loop-i l = l.i + newlines (drop l.i l.bytes) ≡ newlines l.bytes
