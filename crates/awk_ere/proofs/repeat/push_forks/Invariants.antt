use Rattle.std.proofs.Common.{◌≡◌, ◌-◌, ◌++◌}
use Rattle.awk_ere.specs.support.RepeatInstructions.{forks}
use Rattle.awk_ere.proofs.repeat.push_forks.Given as goal

abbrev pub invariant-loop : goal.invariant-loop
invariant-loop l = l.instructions.items ++ forks (l.count - l.counter) l.body ≡ l.fn.instructions.items ++ forks l.count l.body
