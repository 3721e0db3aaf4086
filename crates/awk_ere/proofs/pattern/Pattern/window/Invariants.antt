use Rattle.std.proofs.Common.{◌≤◌, ◌+◌, ◌-◌, length}
use Rattle.awk_ere.specs.definitions.Tree.{Tree, NoneFrom}
use Rattle.awk_ere.specs.definitions.Means.{Means}
use Rattle.awk_ere.specs.support.Table.{Serves}
use Rattle.awk_ere.proofs.pattern.Pattern.window.Given as goal

abbrev pub invariant-runs : goal.invariant-runs
invariant-runs l = record {
  same : Serves l.scratch l.self;
  order : l.from ≤ l.low;
  none : (t : Tree) → Means t l.self → NoneFrom t l.text l.from l.low;
}

abbrev pub decreases-runs : goal.decreases-runs
decreases-runs l = length l.text + 1 - l.low
