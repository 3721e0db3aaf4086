use Rattle.std.proofs.Common.{◌≡◌, rules, to_z, of_z}
use mir.Syntax.{w128}
use Rattle.awk_evaluator.proofs.QuickMoves.{related_hand}
use Rattle.awk_evaluator.proofs.machine.Machine.relate_numbers.Goals as goal

pub returns : goal.returns
returns c =
    let left : to_z w128 (of_z w128 c.in_ok-m.m) ≡ c.in_ok-m.m = search rules in
    let right : to_z w128 (of_z w128 c.in_ok-n.n) ≡ c.in_ok-n.n = search rules in
    rw c.in-Infix.is (related_hand c.in-Infix.infix c.relate_numbers.result (c.in_ok-m.ensures {u = tt}) (c.in_ok-n.ensures {u = tt}) (rw (left, right) at c.relate_numbers.ensures.holds))
