use Rattle.std.proofs.Common.{rules, ◌≡◌, refl, arith, to_z, of_z}
use mir.Syntax.{w128}
use Rattle.awk_evaluator.proofs.QuickValues.{length_puts}
use Rattle.awk_evaluator.proofs.machine.Machine.put_length.Goals as goal

pub returns-clause-puts : goal.returns-clause-puts
returns-clause-puts c = λ _.
    let made : to_z w128 (of_z w128 c.in-Some-length_at_hand.length) ≡ c.in-Some-length_at_hand.length = search rules in
    let replaced = c.replace.ensures in
    length_puts c.args.count c.in-Some-length_at_hand.length (omega arith) (c.in-Some.ensures {u = tt}).top (c.in-Some.ensures {u = tt}).there c.in-Some-length_at_hand.ensures (rw made at replaced) refl refl
