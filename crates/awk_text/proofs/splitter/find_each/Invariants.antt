use Rattle.std.proofs.Common.{◌≡◌, ◌+◌, ◌-◌, ◌++◌, length}
use Rattle.awk_text.specs.definitions.Fields.{pieces_from}
use Rattle.awk_text.specs.definitions.Pieces.{stretches_at, AreSpansOf}
use Rattle.awk_text.specs.definitions.Separators.{each}
use Rattle.awk_text.proofs.splitter.find_each.Given as goal

-- the fields so far and those from here on are what they were
abbrev pub invariant-loop-found : goal.invariant-loop-found
invariant-loop-found l = record {
  within : AreSpansOf l.text l.initial.spans.items → AreSpansOf l.text l.spans.items;
  pieces : stretches_at l.text l.spans.items ++ pieces_from each l.newline_too l.text l.rest ≡ stretches_at l.text l.initial.spans.items ++ pieces_from each l.newline_too l.text l.initial.rest;
}

abbrev pub decreases-loop-found : goal.decreases-loop-found
decreases-loop-found l = length l.text + 1 - l.rest
