use Rattle.std.proofs.lemmas.Result.{err_from_is_err_and}
use Rattle.awk_evaluator.proofs.Asking.{contains_asked, contains_ends}
use Rattle.awk_evaluator.proofs.machine.Machine.contains.Goals as goal

pub returns-in_err-is_there-in-Some : goal.returns-in_err-is_there-in-Some
returns-in_err-is_there-in-Some c =
    let p = err_from_is_err_and c.from_residual.result c.from_residual.ensures.1 in
    rw (p.1, p.2, c.in-Some.is) (contains_ends c.args.array c.in-Some.key c.in_err-is_there-in-Some.ensures)

pub returns-in_ok-is_there-in-Some : goal.returns-in_ok-is_there-in-Some
returns-in_ok-is_there-in-Some c = rw (c.truth_value.ensures, c.in-Some.is) (contains_asked c.args.array c.in-Some.key c.in_ok-is_there-in-Some.ensures)

pub returns-in-None : goal.returns-in-None
returns-in-None c = rw c.in-None.is c.contains_on_top.ensures
