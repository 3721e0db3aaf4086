use Rattle.std.proofs.Common.{ℕ, ◌<◌, get_or}
use Rattle.std.specs.List.{Contains}
use Rattle.awk_kinds.specs.support.Search.{Marks, IsMarked}
use Rattle.awk_kinds.proofs.reach.Search.mark_all.Given as goal

abbrev pub invariant-loop-v : goal.invariant-loop-v
invariant-loop-v l = record {
  marks : Marks l.fn.self l.self (Contains l.list);
  marked : (k : ℕ) → k < l.v-index → IsMarked l.self (get_or l.list k 0);
}
