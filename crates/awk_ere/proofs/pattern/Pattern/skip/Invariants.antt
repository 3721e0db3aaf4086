use Rattle.std.proofs.Common.{ℕ, Bool}
use Rattle.awk_ere.specs.definitions.Tree.{Tree}
use Rattle.awk_ere.specs.definitions.Means.{Means}
use Rattle.awk_ere.specs.support.CursorState.{Stood, Enters}
use Rattle.awk_ere.proofs.pattern.Pattern.skip.Given as goal

abbrev pub invariant-loop-k : goal.invariant-loop-k
invariant-loop-k l =
    (t : Tree) (from : ℕ → Bool) → Means t l.self → Enters from l.entering l.cursor.place l.to → Stood l.self l.scratch.table l.text t from l.cursor → Stood l.self l.scratch.table l.text t from (record { place = l.k; state = l.cursor.state; end = l.cursor.end })
