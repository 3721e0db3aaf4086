use Rattle.awk_evaluator.proofs.Moving.{no_functions}
use Rattle.std.proofs.Common.{◌≡◌, ◌+◌, Ok, ap, ◌∙◌, drop, arith}
use Rattle.awk_evaluator.proofs.Computing.{performed}
use Rattle.awk_evaluator.proofs.machine.Machine.print_values.Goals as goal

pub returns-clause-performs : goal.returns-clause-performs
returns-clause-performs g c =
    let o = c.args.self.now.operands in
    let count : c.args.count ≡ 0 + c.args.count = omega arith in
    rw c.requires.print (performed (Ok tt) (c.drop.ensures ∙ ap (λ n. record o { values = drop n o.values }) count) (c.hold_values.ensures.follows c.if-not-hold_values.false no_functions).callers (λ tables functions. rw (← c.newest-values.ensures) (c.hold_values.ensures.follows c.if-not-hold_values.false functions).simulates))
