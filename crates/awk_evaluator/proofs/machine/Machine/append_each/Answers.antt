use Rattle.std.proofs.Common.{ap, Ok}
use Rattle.std.proofs.lemmas.Result.{err_from_is_err_and}
use Rattle.awk_evaluator.proofs.Joining.{each_done}
use Rattle.awk_evaluator.proofs.machine.Machine.append_each.Goals as goal

pub returns-in_err-append_in_place-clause-refused : goal.returns-in_err-append_in_place-clause-refused
returns-in_err-append_in_place-clause-refused c =
    let p = err_from_is_err_and c.from_residual.result c.from_residual.ensures.1 in
    rw (p.1, p.2) (record { operands = tt; calls = tt; changes = (c.in_err-append_in_place.ensures {u = tt}).refused _ })

pub returns-clause-appended : goal.returns-clause-appended
returns-clause-appended c = λ _.
    let a = (c.in_ok-append_in_place.ensures {u = tt}).appends (ap Ok c.if-not-branch.false) in
    each_done c.args.variable.now c.args.count {ws = c.newest-parts.result.now} c.newest-parts.ensures a c.drop.ensures a.appends.callers
