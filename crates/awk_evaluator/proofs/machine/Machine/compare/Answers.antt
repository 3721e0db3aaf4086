use Rattle.std.proofs.Common.{ap, Some}
use Rattle.awk_evaluator.specs.declared.machine.Move.TheVariants as move
use Rattle.awk_evaluator.proofs.Parts.{related_compares}
use Rattle.awk_evaluator.proofs.machine.Machine.compare.Goals as goal

pub returns-in-Some : goal.returns-in-Some
returns-in-Some c = record { holds = Some c.in-Some.holds; leads = ap move.On c.chosen.ensures; compares = related_compares (c.in-Some.ensures {u = tt}) }

pub returns : goal.returns
returns c = record { holds = c.compare_others.result; leads = c.toward.ensures; compares = c.compare_others.ensures }
