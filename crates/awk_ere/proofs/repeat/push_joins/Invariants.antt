use Rattle.std.proofs.Common.{◌≡◌, ◌-◌, ◌++◌}
use Rattle.awk_ere.specs.support.RepeatInstructions.{joins}
use Rattle.awk_ere.proofs.repeat.push_joins.Given as goal

abbrev pub invariant-loop : goal.invariant-loop
invariant-loop l = l.instructions.items ++ joins (l.count - l.counter) ≡ l.fn.instructions.items ++ joins l.count
