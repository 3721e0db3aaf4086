use Rattle.std.proofs.Common.{◌≡◌, length}
use Rattle.awk_evaluator.specs.Walks.{laid}
use Rattle.awk_evaluator.proofs.machine.Machine.lay_keys.Given as goal

abbrev pub invariant-loop-key : goal.invariant-loop-key
invariant-loop-key l = record {
  runtime : l.self.runtime ≡ l.initial.self.runtime;
  together : laid l.keys.items l.self.operands ≡ laid l.initial.keys.items l.initial.self.operands;
}

abbrev pub decreases-loop-key : goal.decreases-loop-key
decreases-loop-key l = length l.keys.items
