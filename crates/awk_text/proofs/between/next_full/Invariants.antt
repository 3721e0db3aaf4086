use Rattle.std.proofs.Common.{◌≤◌, ◌+◌, ◌-◌, length}
use Rattle.awk_ere.specs.definitions.Means.{Means}
use Rattle.awk_ere.specs.support.Failures.{AreFailures}
use Rattle.awk_ere.specs.support.Table.{IsFor}
use Rattle.awk_ere.specs.definitions.Tree.{Tree}
use Rattle.awk_text.specs.support.Splitters.{NoneBefore}
use Rattle.awk_text.proofs.between.next_full.Given as goal

abbrev pub invariant-loop-start : goal.invariant-loop-start
invariant-loop-start l = record {
  behind : l.place ≤ l.from;
  within : l.from ≤ length l.text;
  same : IsFor l.scratch l.pattern;
  failures : AreFailures l.pattern l.text l.failures;
  none : (t : Tree) → Means t l.pattern → NoneBefore t l.text l.place l.from;
}

abbrev pub decreases-loop-start : goal.decreases-loop-start
decreases-loop-start l = length l.text + 1 - l.from
