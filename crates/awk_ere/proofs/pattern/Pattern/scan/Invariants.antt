use Rattle.std.proofs.Common.{ℕ, ◌≤◌, ◌-◌, Bool}
use Rattle.awk_ere.specs.definitions.Tree.{Tree}
use Rattle.awk_ere.specs.definitions.Means.{Means}
use Rattle.awk_ere.specs.support.Table.{IsKnown, Serves}
use Rattle.awk_ere.specs.support.CursorState.{Stood, Enters}
use Rattle.awk_ere.proofs.pattern.Pattern.scan.Given as goal

abbrev pub invariant-bytes : goal.invariant-bytes
invariant-bytes l = record {
  same : Serves l.scratch l.self;
  known : IsKnown l.scratch.table l.cursor.state;
  order : l.fn.cursor.place ≤ l.cursor.place;
  within : l.cursor.place ≤ l.to;
  stood : (t : Tree) (from : ℕ → Bool) → Means t l.self → Enters from l.entering l.fn.cursor.place l.to → Stood l.self l.fn.scratch.table l.text t from l.fn.cursor → Stood l.self l.scratch.table l.text t from l.cursor;
}

abbrev pub decreases-bytes : goal.decreases-bytes
decreases-bytes l = l.to - l.cursor.place
