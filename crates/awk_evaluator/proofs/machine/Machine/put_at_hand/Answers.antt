use Rattle.std.proofs.Common.{refl}
use Rattle.awk_lex.specs.declared.token.AssignmentOperator.TheVariants.{Plain}
use Rattle.awk_evaluator.proofs.Keys.{hand_updated, value_assigned}
use Rattle.awk_evaluator.proofs.machine.Machine.put_at_hand.Goals as goal

pub returns-in-Some-at_key-clause-changed : goal.returns-in-Some-at_key-clause-changed
returns-in-Some-at_key-clause-changed c = λ done.
    let h = rw c.in-Some.ensures.same at c.in-Some-at_key.ensures.some in
    rw c.in-Plain.is (hand_updated Plain c.args.array c.args.key.now c.args.operand.now _ h.at_hand refl
    (value_assigned c.args.array h.key c.in-Some.ensures.some (h.acted.does done)))
