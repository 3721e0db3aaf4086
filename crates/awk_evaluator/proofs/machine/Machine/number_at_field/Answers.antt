use Rattle.std.proofs.Common.{◌≡◌, rules, sym, to_z, of_z}
use mir.Syntax.{w128}
use Rattle.awk_evaluator.proofs.ReadFields.{number_known}
use Rattle.awk_evaluator.proofs.machine.Machine.number_at_field.Goals as goal

pub returns-in-Ok-clause-some : goal.returns-in-Ok-clause-some
returns-in-Ok-clause-some c =
    let number : to_z w128 (of_z w128 c.in-Ok.n) ≡ c.in-Ok.n = search rules in
    rw number (number_known c.in_ok-field.ensures.some (sym c.in-Ok.ensures))
