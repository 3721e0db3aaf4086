use Rattle.std.proofs.Common.{◌≡◌, refl}
use Rattle.std.proofs.lemmas.Result.{err_from_is_err_and}
use Rattle.awk_evaluator.proofs.Joining.{operand_matched, operand_not_matched, record_matched}
use Rattle.awk_evaluator.proofs.machine.Machine.matches.Goals as goal

pub returns-in-Field-eq0 : goal.returns-in-Field-eq0
returns-in-Field-eq0 c =
    let inner = c.in-Field-eq0.field-0-test in
    let record_is : c.in-Field-eq0.field-0 ≡ 0 = rw c.in-Field-eq0.is at inner in
    rw (c.in-Field-eq0.is, record_is) (record_matched c.args.ere c.record_matches.result refl c.record_matches.ensures.callers c.record_matches.ensures)

pub returns-in_err-text : goal.returns-in_err-text
returns-in_err-text c =
    let p = err_from_is_err_and c.from_residual.result c.from_residual.ensures.1 in
    rw (p.1, p.2) (operand_not_matched c.args.operand.now c.args.ere c.in_err-text.ensures)

pub returns : goal.returns
returns c = operand_matched c.args.operand.now c.args.ere c.in_ok-text.ensures refl c.matches_ere.ensures.callers c.matches_ere.ensures
