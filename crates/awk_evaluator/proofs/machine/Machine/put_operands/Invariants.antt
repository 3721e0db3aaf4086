use Rattle.std.proofs.Common.{drop, Result}
use Rattle.awk_semantics.specs.declared.halt.Halt.{Halt}
use Rattle.awk_evaluator.specs.declared.machine.Machine.{Machine}
use Rattle.awk_evaluator.specs.Reading.{PutsOperands}
use Rattle.awk_evaluator.proofs.machine.Machine.put_operands.Given as goal

-- what the others come to, all come to
abbrev pub invariant-loop-operand : goal.invariant-loop-operand
invariant-loop-operand l = (r : Result (Unit {0}) Halt) (m' : Machine) → PutsOperands (drop l.operand-index l.operands) l.self r m' → PutsOperands l.operands l.initial.self r m'
