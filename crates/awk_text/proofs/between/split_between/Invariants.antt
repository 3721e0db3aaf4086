use Rattle.std.proofs.Common.{◌≡◌, ◌≤◌, ◌+◌, ◌-◌, ◌++◌, length}
use Rattle.awk_ere.specs.definitions.Means.{Means}
use Rattle.awk_ere.specs.support.Failures.{AreFailures}
use Rattle.awk_ere.specs.support.Table.{IsFor}
use Rattle.awk_ere.specs.definitions.Tree.{Tree}
use Rattle.awk_text.specs.definitions.Pieces.{stretches_at, AreSpansOf}
use Rattle.awk_text.specs.definitions.Fields.{ere_pieces, ere_pieces_from}
use Rattle.awk_text.proofs.between.split_between.Given as goal

-- the pieces so far and those from here on are the whole
abbrev pub invariant-loop-found : goal.invariant-loop-found
invariant-loop-found l = record {
  bounded : l.from ≤ length l.text + 1;
  within : AreSpansOf l.text l.spans.items;
  same : IsFor l.scratch l.pattern;
  failures : AreFailures l.pattern l.text l.failures;
  pieces : (t : Tree) → Means t l.pattern → stretches_at l.text l.spans.items ++ ere_pieces_from t l.text l.from ≡ ere_pieces t l.text;
}

abbrev pub decreases-loop-found : goal.decreases-loop-found
decreases-loop-found l = length l.text + 1 - l.from
