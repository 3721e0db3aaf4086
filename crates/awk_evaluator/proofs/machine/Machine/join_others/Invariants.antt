use Rattle.std.proofs.Common.{◌≡◌, ℕ, List, drop}
use Rattle.awk_evaluator.specs.Lines.{AppendsBehind}
use Rattle.awk_evaluator.proofs.machine.Machine.join_others.Given as goal

abbrev pub invariant-loop-operand : goal.invariant-loop-operand
invariant-loop-operand l = record {
  same : l.self ≡ l.fn.self;
  rest : (after : List ℕ) → AppendsBehind (drop l.operand-index l.operands) l.fn.self.runtime l.line.items after → AppendsBehind l.operands l.fn.self.runtime l.fn.line.items after;
}
