use Rattle.std.proofs.Common.{◌∙◌, sym, arith}
use Rattle.std.proofs.lemmas.Result.{err_from_is_err_and}
use Rattle.awk_evaluator.proofs.Joining.{two_items}
use Rattle.awk_evaluator.proofs.Substituting.{substituted_puts, substitute_ends}
use Rattle.awk_evaluator.proofs.machine.Machine.substitute_operands.Goals as goal

pub returns-in_err-count-clause-ended : goal.returns-in_err-count-clause-ended
returns-in_err-count-clause-ended c =
    let p = err_from_is_err_and c.from_residual.result c.from_residual.ensures.1 in
    let two = sym c.newest.ensures ∙ two_items c.newest.result.now c.replacement-item.result c.old-item.result (omega (arith, c.in-len2.len_at_least)) (omega (arith, c.in-len2.len_below)) c.replacement-item.is c.old-item.is in
    rw (p.1, p.2) (substitute_ends _ _ _ _ _ two (λ tables. c.in_err-count.ensures))

pub returns-clause-puts : goal.returns-clause-puts
returns-clause-puts c = λ _.
    let two = sym c.newest.ensures ∙ two_items c.newest.result.now c.replacement-item.result c.old-item.result (omega (arith, c.in-len2.len_at_least)) (omega (arith, c.in-len2.len_below)) c.replacement-item.is c.old-item.is in
    substituted_puts _ _ _ _ _ two (λ tables. c.in_ok-count.ensures) (rw c.pop.ensures.rest at c.replace.ensures) c.in_ok-count.ensures.callers
