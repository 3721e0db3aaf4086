use Rattle.std.proofs.Common.{◌≡◌, ◌≤◌, ◌+◌, ◌-◌, length, drop}
use Rattle.awk_resolve.specs.Nodes.{values_among}
use Rattle.awk_evaluator.proofs.beginning.values_among.Given as goal

abbrev pub invariant-forms : goal.invariant-forms
invariant-forms l = record {
  together : l.count + values_among (drop l.index l.forms) ≡ values_among l.forms;
  low : l.count ≤ l.index;
  within : l.index ≤ length l.forms;
}

abbrev pub decreases-forms : goal.decreases-forms
decreases-forms l = length l.forms - l.index
