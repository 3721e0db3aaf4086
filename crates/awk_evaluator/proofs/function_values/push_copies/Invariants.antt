use Rattle.std.proofs.Common.{◌≡◌, ◌++◌, drop}
use Rattle.awk_evaluator.proofs.function_values.push_copies.Given as goal

-- with the others behind them, they are all of them
abbrev pub invariant-loop-value : goal.invariant-loop-value
invariant-loop-value l = l.values.items ++ drop l.value-index l.others ≡ l.initial.values.items ++ l.others
