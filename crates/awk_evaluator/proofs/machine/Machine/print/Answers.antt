use Rattle.awk_evaluator.proofs.Moving.{no_functions}
use Rattle.std.proofs.Common.{◌≡◌, ◌+◌, drop, Ok, ap, ◌∙◌, arith}
use Rattle.std.proofs.lemmas.Result.{err_from_is_err_and}
use Rattle.awk_evaluator.proofs.Computing.{performed, effect_ended}
use Rattle.awk_evaluator.proofs.machine.Machine.print.Goals as goal

pub returns-in_err-print-clause-performs : goal.returns-in_err-print-clause-performs
returns-in_err-print-clause-performs g c =
    let p = err_from_is_err_and c.from_residual.result c.from_residual.ensures.1 in
    rw (p.1, p.2) (effect_ended _ (λ tables functions. rw (← c.newest-values.ensures) (c.in_err-print.ensures.follows functions).simulates))

pub returns-clause-performs : goal.returns-clause-performs
returns-clause-performs g c =
    let o = c.args.self.now.operands in
    let count : c.args.count ≡ 0 + c.args.count = omega arith in
    performed (Ok tt) (c.drop.ensures ∙ ap (λ n. record o { values = drop n o.values }) count) (c.in_ok-print.ensures.follows no_functions).callers (λ tables functions. rw (← c.newest-values.ensures) (c.in_ok-print.ensures.follows functions).simulates)
