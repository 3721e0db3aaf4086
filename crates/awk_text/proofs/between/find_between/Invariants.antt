use Rattle.std.proofs.Common.{◌≡◌, ◌+◌, ◌-◌, ◌++◌, length}
use Rattle.awk_ere.specs.definitions.Means.{Means}
use Rattle.awk_ere.specs.support.Failures.{AreFailures}
use Rattle.awk_ere.specs.support.Table.{IsFor}
use Rattle.awk_ere.specs.definitions.Tree.{Tree}
use Rattle.awk_text.specs.definitions.Pieces.{stretches_at, AreSpansOf}
use Rattle.awk_text.specs.definitions.Fields.{ere_pieces_from}
use Rattle.awk_text.proofs.between.find_between.Given as goal

-- the pieces so far and those from here on are what they were
abbrev pub invariant-loop-scratch : goal.invariant-loop-scratch
invariant-loop-scratch l = record {
  within : AreSpansOf l.text l.initial.spans.items → AreSpansOf l.text l.spans.items;
  same : IsFor l.scratch l.pattern;
  failures : AreFailures l.pattern l.text l.failures;
  pieces : (t : Tree) → Means t l.pattern →
      stretches_at l.text l.spans.items ++ ere_pieces_from t l.text l.rest ≡ stretches_at l.text l.initial.spans.items ++ ere_pieces_from t l.text l.initial.rest;
}

abbrev pub decreases-loop-scratch : goal.decreases-loop-scratch
decreases-loop-scratch l = length l.text + 1 - l.rest
