use Rattle.std.proofs.Common.{rules, ◌≡◌, refl, to_z, of_z}
use mir.Syntax.{w128}
use Rattle.awk_evaluator.proofs.QuickValues.{pushed_constant}
use Rattle.awk_evaluator.proofs.machine.Machine.put_constant.Goals as goal

pub returns-in-Number-clause-puts : goal.returns-in-Number-clause-puts
returns-in-Number-clause-puts c = λ ok.
    let number : to_z w128 (of_z w128 c.in-Number.n) ≡ c.in-Number.n = search rules in
    let pushed = c.put.ensures.pushed ok in
    rw c.in-Number.is (pushed_constant (rw number at pushed))

pub returns-clause-puts : goal.returns-clause-puts
returns-clause-puts c = λ ok. pushed_constant (record { operands = c.push_copy.ensures.pushed ok; calls = refl; runtime = refl })
