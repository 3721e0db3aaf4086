use Rattle.std.proofs.Common.{ℕ, ◌≤◌, Bool, false}
use Rattle.awk_ere.specs.definitions.Tree.{Tree}
use Rattle.awk_ere.specs.definitions.Means.{Means}
use Rattle.awk_ere.specs.support.Table.{IsKnown}
use Rattle.awk_ere.specs.support.CursorState.{Stood, Enters}
use Rattle.awk_ere.specs.support.Found.{EndsWithin}
use Rattle.awk_ere.proofs.pattern.Pattern.last_loop.Given as goal

abbrev pub invariant-loop-k : goal.invariant-loop-k
invariant-loop-k l = record {
  known : IsKnown l.table l.state;
  end : (low : ℕ) → low ≤ l.fn.cursor.place → EndsWithin low l.fn.cursor.place l.fn.cursor.end → EndsWithin low l.k l.end;
  stood : (t : Tree) (from : ℕ → Bool) → Means t l.self → Enters from false l.fn.cursor.place l.to → Stood l.self l.table l.text t from l.fn.cursor → Stood l.self l.table l.text t from (record { place = l.k; state = l.state; end = l.end });
}
