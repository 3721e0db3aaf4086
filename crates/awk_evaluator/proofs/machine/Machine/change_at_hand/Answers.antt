use Rattle.std.proofs.Common.{◌≡◌, refl, rules, to_z, of_z}
use mir.Syntax.{w128}
use Rattle.awk_evaluator.proofs.Keys.{hand_updated, good_assigned}
use Rattle.awk_evaluator.proofs.machine.Machine.change_at_hand.Goals as goal

pub returns-in-Some-at_key-clause-changed : goal.returns-in-Some-at_key-clause-changed
returns-in-Some-at_key-clause-changed c = λ done.
    let number : to_z w128 (of_z w128 c.in-Some.n) ≡ c.in-Some.n = search rules in
    let h = rw c.number_to_assign.ensures.same at c.in-Some-at_key.ensures.some in
    let g = h.acted.does done in
    hand_updated c.args.operator c.args.array c.args.key.now c.args.operand.now _ h.at_hand refl
    (good_assigned c.args.operator c.args.array h.key c.in-Some.ensures.some (rw number at g.gives) g.operands g.calls)
