use Rattle.awk_evaluator.proofs.Keys.{contains_puts_at}
use Rattle.awk_evaluator.proofs.machine.Machine.put_contains_at.Goals as goal

pub returns-in-Some-clause-puts : goal.returns-in-Some-clause-puts
returns-in-Some-clause-puts c = λ done.
    let h = c.in-Some.ensures.some in
    let p = h.acted.does done in
    contains_puts_at h.at_hand p.read p.pushed

pub returns-in-Some-clause-kept : goal.returns-in-Some-clause-kept
returns-in-Some-clause-kept c = λ no. c.in-Some.ensures.some.acted.keeps no
