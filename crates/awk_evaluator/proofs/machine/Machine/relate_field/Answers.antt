use Rattle.std.proofs.Common.{◌≡◌, rules, sym, to_z, of_z}
use mir.Syntax.{w128}
use Rattle.awk_evaluator.proofs.QuickMoves.{related_hand}
use Rattle.awk_evaluator.proofs.ReadFields.{numbers_related}
use Rattle.awk_evaluator.proofs.machine.Machine.relate_field.Goals as goal

pub returns-clause-some : goal.returns-clause-some
returns-clause-some c =
    let m : to_z w128 (of_z w128 c.in-Some.m) ≡ c.in-Some.m = search rules in
    let n : to_z w128 (of_z w128 c.in-Number.n) ≡ c.in-Number.n = search rules in
    let same = c.text_of_field.ensures.same in
    let value = c.in-Number.is in
    let right = c.in_ok-value.ensures {u = tt} in
    let holds = c.relate_numbers.ensures.holds in
    rw c.in-Infix.is (numbers_related c.in-Infix.infix _ c.in-Some.m c.in-Number.n c.relate_numbers.result (c.in_ok-field.ensures {u = tt}).some (rw (same, value) at right) (sym c.in-Some.ensures.numeric) (rw (m, n) at holds) c.relate_numbers.ensures.relation)

pub returns-2-clause-some : goal.returns-2-clause-some
returns-2-clause-some c = rw c.in-Infix.is (related_hand c.in-Infix.infix c.relate.result (c.in_ok-field.ensures {u = tt}).some (rw c.text_of_field.ensures.same at (c.in_ok-value.ensures {u = tt})) c.relate.ensures)
