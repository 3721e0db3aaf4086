use Rattle.std.proofs.Common.{◌≤◌, ◌-◌, length}
use Rattle.awk_ere.specs.definitions.Tree.{Tree, NoneFrom}
use Rattle.awk_ere.specs.definitions.Means.{Means}
use Rattle.awk_ere.specs.support.Table.{Serves}
use Rattle.awk_ere.specs.support.Failures.{AreFailures}
use Rattle.awk_ere.specs.support.Found.{OccursBetween}
use Rattle.awk_ere.proofs.pattern.Pattern.first_between.Given as goal

abbrev pub invariant-halves : goal.invariant-halves
invariant-halves l = record {
  same : Serves l.scratch l.self;
  failures : AreFailures l.self l.text l.failures;
  order : l.low ≤ l.first;
  begun : l.first ≤ length l.text;
  within : l.last ≤ length l.text;
  none : (t : Tree) → Means t l.self → NoneFrom t l.text l.low l.first;
  some : (t : Tree) → Means t l.self → OccursBetween t l.text l.low l.high → OccursBetween t l.text l.first l.last;
}

abbrev pub decreases-halves : goal.decreases-halves
decreases-halves l = l.last - l.first
