use Rattle.std.proofs.Common.{◌≡◌, ◌≤◌, length, take, drop, min}
use Rattle.awk_storage.specs.support.Tables.{AreEmpty}
use Rattle.awk_storage.proofs.arrays.Arrays.truncate.Given as goal

abbrev pub invariant-loop-self : goal.invariant-loop-self
invariant-loop-self l = record {
  fewer : l.self-inside.live ≤ l.initial.self-inside.live;
  enough : min l.count l.initial.self-inside.live ≤ l.self-inside.live;
  within : l.self-inside.live ≤ length l.self-inside.tables.items;
  same : take l.self-inside.live l.self-inside.tables.items ≡ take l.self-inside.live l.initial.self-inside.tables.items;
  empty : AreEmpty (drop l.self-inside.live l.self-inside.tables.items);
}

abbrev pub decreases-loop-self : goal.decreases-loop-self
decreases-loop-self l = l.self-inside.live
