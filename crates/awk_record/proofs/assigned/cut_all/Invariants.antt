use Rattle.std.proofs.Common.{◌≡◌, take}
use Rattle.awk_text.specs.Pieces.{stretches_at}
use Rattle.awk_record.specs.definitions.Record.{inputs_of}
use Rattle.awk_record.proofs.assigned.cut_all.Given as goal

abbrev pub invariant-loop-span : goal.invariant-loop-span
invariant-loop-span l = l.values.items ≡ inputs_of (stretches_at l.text (take l.span-index l.spans))
