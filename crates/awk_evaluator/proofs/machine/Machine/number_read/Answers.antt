use Rattle.std.proofs.Common.{◌≡◌, rules, refl, to_z, of_z}
use mir.Syntax.{w128}
use Rattle.awk_evaluator.proofs.ReadFields.{number_known}
use Rattle.awk_evaluator.proofs.machine.Machine.number_read.Goals as goal

pub returns-in-Some-clause-some : goal.returns-in-Some-clause-some
returns-in-Some-clause-some c =
    let number : to_z w128 (of_z w128 c.in-Some.n) ≡ c.in-Some.n = search rules in
    rw number (number_known c.in-Some.ensures refl)
