use Rattle.std.proofs.Common.{drop, List, Result}
use Rattle.awk_value.specs.declared.value.Value.{Value}
use Rattle.awk_semantics.specs.declared.halt.Halt.{Halt}
use Rattle.awk_evaluator.specs.declared.machine.Machine.{Machine}
use Rattle.awk_evaluator.specs.Applied.{ReadsAll}
use Rattle.awk_evaluator.proofs.AppliedValues.{values_behind}
use Rattle.awk_evaluator.proofs.machine.Machine.read_operands.Given as goal

-- what the others come to, all come to, behind the values that were read
abbrev pub invariant-loop-operand : goal.invariant-loop-operand
invariant-loop-operand l = (r : Result (List Value) Halt) (m' : Machine) → ReadsAll (drop l.operand-index l.operands) l.self r m' → ReadsAll l.operands l.initial.self (values_behind l.values.items r) m'
