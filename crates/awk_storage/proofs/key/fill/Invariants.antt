use Rattle.std.proofs.Common.{◌≡◌, ◌+◌, length}
use Rattle.awk_semantics.specs.definitions.Primitives.{elements_from}
use Rattle.awk_storage.proofs.key.fill.Given as goal

abbrev pub invariant-loop-text : goal.invariant-loop-text
invariant-loop-text l = record {
  filled : l.table ≡ elements_from l.first l.yielded;
  next : l.key ≡ l.first + length l.yielded;
}
