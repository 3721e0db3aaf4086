use Rattle.std.proofs.lemmas.Result.{err_from_is_err_and}
use Rattle.awk_runtime.proofs.VariableWords.{count_ends, count_gives}
use Rattle.awk_runtime.proofs.runtime.Runtime.count_in.Goals as goal

pub returns-in_err-count : goal.returns-in_err-count
returns-in_err-count c =
    let p = err_from_is_err_and c.from_residual.result c.from_residual.ensures.1 in
    rw (p.1, p.2) (count_ends _ (rw c.special.ensures at (c.in_err-count.ensures {u = tt})))

pub returns : goal.returns
returns c = count_gives _ (rw c.special.ensures at (c.in_ok-count.ensures {u = tt})) c.put_special.ensures
