use Rattle.std.proofs.Common.{refl, ap, Some}
use Rattle.awk_evaluator.specs.declared.machine.Move.TheVariants as move
use Rattle.awk_evaluator.proofs.Parts.{related_with_compares}
use Rattle.awk_evaluator.proofs.machine.Machine.compare_with.Goals as goal

pub returns-in-Some : goal.returns-in-Some
returns-in-Some c = record { holds = Some c.in-Some.holds; leads = ap move.On c.chosen.ensures; compares = related_with_compares (c.in-Some.ensures {u = tt}) (record { operands = c.pop.ensures.rest; calls = refl; runtime = refl }) }

pub returns : goal.returns
returns c = record { holds = c.compare_value_with.result; leads = c.toward.ensures; compares = c.compare_value_with.ensures }
