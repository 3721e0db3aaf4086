use Rattle.std.proofs.Common.{◌≡◌, rules, refl, to_z, of_z}
use mir.Syntax.{w128}
use Rattle.awk_evaluator.proofs.Parts.{number_read}
use Rattle.awk_evaluator.proofs.machine.Machine.assign_number_at.Goals as goal

pub returns-clause-assigned : goal.returns-clause-assigned
returns-clause-assigned c = λ done.
    let number : to_z w128 (of_z w128 c.in-Some.n) ≡ c.in-Some.n = search rules in
    let g = c.change_number.ensures.changes done in
    number_read c.args.operator c.args.variable.now c.in-Some.ensures (rw number at g) refl g.changes.callers
