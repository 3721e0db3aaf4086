use Rattle.std.proofs.Common.{◌≡◌, rules, to_z, of_z}
use mir.Syntax.{w128}
use Rattle.awk_evaluator.proofs.machine.Machine.at_operand.Goals as goal

pub returns-in-Some-clause-some : goal.returns-in-Some-clause-some
returns-in-Some-clause-some g c =
    let made : to_z w128 (of_z w128 c.in-Some.number) ≡ c.in-Some.number = search rules in
    record { key = _; at_hand = c.in-Some.ensures {u = tt}; acted = rw made at c.act.ensures }
