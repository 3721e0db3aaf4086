use Rattle.std.proofs.Common.{refl}
use Rattle.std.proofs.lemmas.Result.{err_from_is_err_and}
use Rattle.awk_evaluator.proofs.Keys.{element_unread, element_read}
use Rattle.awk_evaluator.proofs.machine.Machine.element_at.Goals as goal

pub returns-in_err-key : goal.returns-in_err-key
returns-in_err-key c =
    let p = err_from_is_err_and c.from_residual.result c.from_residual.ensures.1 in
    rw (p.1, p.2) (element_unread c.args.array c.args.key.now c.in_err-key.ensures)

pub returns : goal.returns
returns c = element_read c.args.array c.args.key.now c.in_ok-key.ensures _ c.read_element_of.ensures refl c.read_element_of.ensures.callers
