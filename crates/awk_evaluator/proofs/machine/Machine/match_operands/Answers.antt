use Rattle.std.proofs.Common.{sym, ◌∙◌, arith}
use Rattle.std.proofs.lemmas.Result.{err_from_is_err_and}
use Rattle.awk_evaluator.proofs.Joining.{two_items, match_ends}
use Rattle.awk_evaluator.proofs.machine.Machine.match_operands.Goals as goal

pub returns-in_err-holds-clause-ended : goal.returns-in_err-holds-clause-ended
returns-in_err-holds-clause-ended c =
    let p = err_from_is_err_and c.from_residual.result c.from_residual.ensures.1 in
    let two = sym c.newest.ensures ∙ two_items c.newest.result.now c.text-item.result c.pattern-item.result (omega (arith, c.in-len2.len_at_least)) (omega (arith, c.in-len2.len_below)) c.text-item.is c.pattern-item.is in
    rw (p.1, p.2) (match_ends two (c.in_err-holds.ensures {u = tt}).refused)
