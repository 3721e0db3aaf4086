use Rattle.std.proofs.Common.{◌≡◌, ◌≤◌, ◌++◌, ◌-◌, length}
use Rattle.awk_text.specs.definitions.Fields.{kind_pieces_from}
use Rattle.awk_text.specs.definitions.Pieces.{stretches_at, AreSpansOf}
use Rattle.awk_text.specs.support.MarksLeft.{AreLeft}
use Rattle.awk_text.specs.support.Stretch.{is_kind_at}
use Rattle.awk_text.proofs.splitter.find_at_bytes.Given as goal

-- the fields so far and those from here on are what they were, and the marks from here on are left
abbrev pub invariant-loop-marks : goal.invariant-loop-marks
invariant-loop-marks g l = record {
  within : AreSpansOf l.text l.initial.spans.items → AreSpansOf l.text l.spans.items;
  pieces : stretches_at l.text l.spans.items ++ kind_pieces_from (g.S.Separates.separates l.separates) l.text l.rest
      ≡ stretches_at l.text l.initial.spans.items ++ kind_pieces_from (g.S.Separates.separates l.separates) l.text l.initial.rest;
  here : l.start ≡ l.rest;
  inside : l.start ≤ length l.text;
  end : l.marks.end ≤ length l.text;
  left : AreLeft (is_kind_at (g.S.Separates.separates l.separates) l.text) l.start l.marks;
}

abbrev pub decreases-loop-marks : goal.decreases-loop-marks
decreases-loop-marks g l = length l.text - l.start
