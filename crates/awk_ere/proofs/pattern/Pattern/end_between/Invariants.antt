use Rattle.std.proofs.Common.{◌≤◌, ◌+◌, ◌-◌, length, min}
use Rattle.awk_ere.specs.definitions.Tree.{Tree}
use Rattle.awk_ere.specs.definitions.Means.{Means}
use Rattle.awk_ere.specs.support.Table.{IsKnown, Serves}
use Rattle.awk_ere.specs.support.CursorState.{Stood}
use Rattle.awk_ere.specs.support.Found.{between}
use Rattle.awk_ere.proofs.pattern.Pattern.end_between.Given as goal

abbrev pub invariant-bytes : goal.invariant-bytes
invariant-bytes l = record {
  same : Serves l.scratch l.self;
  known : IsKnown l.scratch.table l.cursor.state;
  past : min (length l.text) (l.high + 1) ≤ l.cursor.place;
  within : l.cursor.place ≤ length l.text;
  stood : (t : Tree) → Means t l.self → Stood l.self l.scratch.table l.text t (between l.low l.high) l.cursor;
}

abbrev pub decreases-bytes : goal.decreases-bytes
decreases-bytes l = length l.text - l.cursor.place
