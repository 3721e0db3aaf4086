use Rattle.std.proofs.Common.{◌≤◌, ◌-◌, length}
use Rattle.awk_ere.specs.definitions.Tree.{Tree}
use Rattle.awk_ere.specs.definitions.Means.{Means}
use Rattle.awk_ere.specs.support.Table.{IsKnown, Serves}
use Rattle.awk_ere.specs.support.CursorState.{Stood}
use Rattle.awk_ere.specs.support.Found.{EndsWithin, between}
use Rattle.awk_ere.proofs.pattern.Pattern.longest_from.Given as goal

abbrev pub invariant-bytes : goal.invariant-bytes
invariant-bytes l = record {
  same : Serves l.scratch l.self;
  known : IsKnown l.scratch.table l.cursor.state;
  order : l.from ≤ l.cursor.place;
  within : l.cursor.place ≤ length l.text;
  end : EndsWithin l.from l.cursor.place l.cursor.end;
  stood : (t : Tree) → Means t l.self → Stood l.self l.scratch.table l.text t (between l.from l.from) l.cursor;
}

abbrev pub decreases-bytes : goal.decreases-bytes
decreases-bytes l = length l.text - l.cursor.place
