use Rattle.std.proofs.Common.{◌≡◌, rules, to_z, of_z}
use mir.Syntax.{w128}
use Rattle.awk_evaluator.proofs.Fields.{field_found}
use Rattle.awk_evaluator.proofs.machine.Machine.field_of.Goals as goal

pub returns-clause-some : goal.returns-clause-some
returns-clause-some c =
    let number : to_z w128 (of_z w128 c.in_ok-number.number) ≡ c.in_ok-number.number = search rules in
    let found = c.field_at_hand.ensures.some in
    field_found c.in_ok-number.number c.field_at_hand.result (c.in_ok-number.ensures {u = tt}) c.field_at_hand.ensures.same (rw number at found)
