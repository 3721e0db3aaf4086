use Rattle.std.proofs.Common.{◌≡◌, ◌-◌, ◌++◌}
use Rattle.awk_ere.specs.support.RepeatInstructions.{rounds}
use Rattle.awk_ere.proofs.repeat.push_rounds.Given as goal

abbrev pub invariant-loop : goal.invariant-loop
invariant-loop l = l.instructions.items ++ rounds (l.count - l.counter) l.body ≡ l.fn.instructions.items ++ rounds l.count l.body
