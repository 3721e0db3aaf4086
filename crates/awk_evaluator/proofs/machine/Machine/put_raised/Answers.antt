use Rattle.std.proofs.Common.{rules, ◌≡◌, to_z, of_z}
use mir.Syntax.{w128}
use Rattle.awk_evaluator.proofs.QuickValues.{raised_puts}
use Rattle.awk_evaluator.proofs.machine.Machine.put_raised.Goals as goal

pub returns-clause-puts : goal.returns-clause-puts
returns-clause-puts c = λ _.
    let made : to_z w128 (of_z w128 c.in-Some.n) ≡ c.in-Some.n = search rules in
    let replaced = c.replace.ensures in
    raised_puts _ c.in-Ok.ensures.pushed (rw made at replaced) c.in-Some.ensures.some.callers c.args.operator c.args.variable.now c.in-Some.ensures.some
