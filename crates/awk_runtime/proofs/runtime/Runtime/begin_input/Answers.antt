use Rattle.std.proofs.lemmas.Result.{err_from_is_err_and}
use Rattle.awk_runtime.proofs.EndWords.{input_ends, input_ends_later, input_begins}
use Rattle.awk_runtime.proofs.runtime.Runtime.begin_input.Goals as goal

pub returns-in_err-put_special : goal.returns-in_err-put_special
returns-in_err-put_special c =
    let p = err_from_is_err_and c.from_residual.result c.from_residual.ensures.1 in
    rw (p.1, p.2) (input_ends _ c.in_err-put_special.ensures)

pub returns-in_err-put_special-2 : goal.returns-in_err-put_special-2
returns-in_err-put_special-2 c =
    let p = err_from_is_err_and c.from_residual-in_err-put_special-2.result c.from_residual-in_err-put_special-2.ensures.1 in
    rw (p.1, p.2) (input_ends_later _ c.in_ok-put_special.ensures c.in_err-put_special-2.ensures)

pub returns : goal.returns
returns c = input_begins _ c.in_ok-put_special.ensures c.in_ok-put_special-2.ensures c.note_input.ensures
