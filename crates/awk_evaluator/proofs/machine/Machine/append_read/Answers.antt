use Rattle.std.proofs.lemmas.Result.{err_from_is_err_and}
use Rattle.awk_evaluator.proofs.Appending.{key_unread, key_read}
use Rattle.awk_evaluator.proofs.machine.Machine.append_read.Goals as goal

pub returns-in-Variable : goal.returns-in-Variable
returns-in-Variable c = rw c.in-Variable.is c.append_at.ensures

pub returns-in_err-key-in-Element : goal.returns-in_err-key-in-Element
returns-in_err-key-in-Element c =
    let p = err_from_is_err_and c.from_residual.result c.from_residual.ensures.1 in
    rw (p.1, p.2, c.in-Element.is) (key_unread c.in-Element.array c.in-Element.key c.args.parts.now c.in_err-key-in-Element.ensures)

pub returns-in_ok-key-in-Element : goal.returns-in_ok-key-in-Element
returns-in_ok-key-in-Element c = rw c.in-Element.is (key_read c.in-Element.array c.in-Element.key c.args.parts.now c.append_at-in-Element.result c.in_ok-key-in-Element.ensures c.append_at-in-Element.ensures)
