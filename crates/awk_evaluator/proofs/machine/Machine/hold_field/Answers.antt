use Rattle.awk_evaluator.proofs.Moving.{no_functions}
use Rattle.std.proofs.Common.{rules, ◌≡◌, refl, to_z, of_z}
use mir.Syntax.{w128}
use Rattle.awk_evaluator.proofs.OperandPrints.{field_held}
use Rattle.awk_evaluator.proofs.machine.Machine.hold_field.Goals as goal

pub returns-clause-prints : goal.returns-clause-prints
returns-clause-prints g c = λ holds.
    let number : to_z w128 (of_z w128 c.in-Some.n) ≡ c.in-Some.n = search rules in
    field_held c.in-Some.n c.in-Some.ensures refl (c.hold_field.ensures.follows holds no_functions).callers (λ functions. (rw number at (c.hold_field.ensures.follows holds functions)).simulates)
