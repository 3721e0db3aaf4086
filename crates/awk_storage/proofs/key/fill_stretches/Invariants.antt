use Rattle.std.proofs.Common.{◌≡◌, ◌+◌, take}
use Rattle.awk_text.specs.Pieces.{stretches_at}
use Rattle.awk_semantics.specs.definitions.Primitives.{elements_from}
use Rattle.awk_storage.proofs.key.fill_stretches.Given as goal

abbrev pub invariant-loop-span : goal.invariant-loop-span
invariant-loop-span l = record {
  filled : l.table ≡ elements_from 1 (stretches_at l.text (take l.span-index l.spans));
  next : l.key ≡ 1 + l.span-index;
}
