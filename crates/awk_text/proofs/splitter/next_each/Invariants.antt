use Rattle.std.proofs.Common.{◌≡◌, drop}
use Rattle.awk_text.specs.definitions.Fields.{each_piece}
use Rattle.awk_text.proofs.splitter.next_each.Given as goal

abbrev pub invariant-loop-start : goal.invariant-loop-start
invariant-loop-start l = each_piece l.newline_too (drop l.from l.text) ≡ each_piece l.newline_too (drop l.start l.text)
