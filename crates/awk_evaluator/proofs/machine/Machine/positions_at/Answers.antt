use Rattle.std.proofs.Common.{rules, ◌≡◌, sym, arith, to_z, of_z}
use mir.Syntax.{w128}
use Rattle.awk_evaluator.proofs.AppliedValues.{one_of, two_of, one_at_hand, and_at_hand}
use Rattle.awk_evaluator.proofs.machine.Machine.positions_at.Goals as goal

pub returns-in_ok-number_at-in-len1 : goal.returns-in_ok-number_at-in-len1
returns-in_ok-number_at-in-len1 c =
    let start : to_z w128 (of_z w128 c.in_ok-number_at-in-len1.field-0) ≡ c.in_ok-number_at-in-len1.field-0 = search rules in
    let list = one_of c.args.operands.now c.start-item.result (omega arith) (sym c.start-item.is) in
    rw (list, start) (one_at_hand c.in_ok-number_at-in-len1.ensures)

pub returns-in_ok-number_at-in-len2-2 : goal.returns-in_ok-number_at-in-len2-2
returns-in_ok-number_at-in-len2-2 c =
    let start : to_z w128 (of_z w128 c.in_ok-number_at-in-len2.field-0) ≡ c.in_ok-number_at-in-len2.field-0 = search rules in
    let count : to_z w128 (of_z w128 c.in_ok-number_at-in-len2-2.field-0) ≡ c.in_ok-number_at-in-len2-2.field-0 = search rules in
    let list = two_of c.args.operands.now c.start-item-then-operands-lt3.result c.count-item.result c.in-len2.len_at_least c.in-len2.len_below c.start-item-then-operands-lt3.is c.count-item.is in
    rw (list, start, count) (and_at_hand c.in_ok-number_at-in-len2.ensures (one_at_hand c.in_ok-number_at-in-len2-2.ensures))
