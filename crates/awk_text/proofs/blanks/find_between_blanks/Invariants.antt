use Rattle.std.proofs.Common.{◌≡◌, ◌<◌, ◌≤◌, ◌++◌, ◌-◌, ◌+◌, true, length, drop}
use Rattle.std.specs.Prelude.{min}
use Rattle.awk_text.specs.definitions.Pieces.{stretches_at, AreSpansOf, blank_pieces}
use Rattle.awk_text.specs.support.MarksLeft.{AreTurnsLeft, is_behind_blank}
use Rattle.awk_text.proofs.blanks.find_between_blanks.Given as goal

-- the fields so far and those from here on are what they were, and the turns from here on are left
abbrev pub invariant-loop-turns : goal.invariant-loop-turns
invariant-loop-turns l = record {
  within : AreSpansOf l.text l.initial.spans.items → AreSpansOf l.text l.spans.items;
  pieces : stretches_at l.text l.spans.items ++ blank_pieces (drop l.rest l.text) ≡ stretches_at l.text l.initial.spans.items ++ blank_pieces (drop l.initial.rest l.text);
  further : l.initial.rest ≤ l.rest;
  behind : l.rest < length l.text → is_behind_blank l.text l.initial.rest l.rest ≡ true;
  turns : AreTurnsLeft l.text l.initial.rest (min l.rest (length l.text)) l.turns;
}

abbrev pub decreases-loop-turns : goal.decreases-loop-turns
decreases-loop-turns l = length l.text + 1 - l.rest
