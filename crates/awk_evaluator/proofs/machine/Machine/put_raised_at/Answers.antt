use Rattle.std.proofs.Common.{◌≡◌, ◌∙◌, rules, to_z, of_z}
use mir.Syntax.{w128}
use Rattle.awk_evaluator.proofs.Keys.{raised_puts_at}
use Rattle.awk_evaluator.proofs.machine.Machine.put_raised_at.Goals as goal

pub returns-clause-puts : goal.returns-clause-puts
returns-clause-puts c = λ _.
    let made : to_z w128 (of_z w128 c.in-Some.n) ≡ c.in-Some.n = search rules in
    let h = c.in-Some.ensures.some in
    raised_puts_at (record { changes = h.at_hand.changes }) _ (h.operands ∙ c.in-Ok.ensures.pushed) h.raises (rw made at c.replace.ensures) h.calls
