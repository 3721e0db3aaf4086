use Rattle.std.proofs.Common.{ℕ, Bool}
use Rattle.awk_ere.specs.definitions.Tree.{Tree}
use Rattle.awk_ere.specs.definitions.Means.{Means}
use Rattle.awk_ere.specs.support.Table.{IsKnown}
use Rattle.awk_ere.specs.support.CursorState.{Stood, Enters}
use Rattle.awk_ere.proofs.pattern.Pattern.fast_loop.Given as goal

abbrev pub invariant-loop-k : goal.invariant-loop-k
invariant-loop-k l = record {
  known : IsKnown l.table l.state;
  stood : (t : Tree) (from : ℕ → Bool) → Means t l.self → Enters from l.entering l.cursor.place l.k → Stood l.self l.table l.text t from l.cursor → Stood l.self l.table l.text t from (record { place = l.k; state = l.state; end = l.cursor.end });
}
