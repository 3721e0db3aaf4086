use Rattle.std.proofs.Common.{◌≡◌, ap, ◌∙◌, rules, to_z, of_z}
use mir.Syntax.{w128}
use Rattle.awk_evaluator.specs.declared.machine.Machine.{Machine}
use Rattle.awk_evaluator.proofs.Parts.{alike_read}
use Rattle.awk_evaluator.proofs.machine.Machine.assign_from_field.Goals as goal

pub returns-clause-assigned : goal.returns-clause-assigned
returns-clause-assigned c = λ done.
    let number : to_z w128 (of_z w128 c.in-Some.n) ≡ c.in-Some.n = search rules in
    let same = c.number_of_field.ensures.same in
    let good = c.in-Some.ensures.some in
    let g = c.change_number.ensures.changes done in
    alike_read c.args.operator c.args.variable.now c.in-Some.n good.at_hand good.alike (rw (number, same) at g) (ap (λ (x : Machine). x.operands) same) (g.changes.callers ∙ ap (λ (x : Machine). x.runtime.frames.callers) same)
