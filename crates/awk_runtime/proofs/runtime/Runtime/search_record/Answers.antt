use Rattle.std.proofs.lemmas.Result.{err_from_is_err_and}
use Rattle.awk_runtime.proofs.Seeks.{next_ends, next_gives, next_seeks}
use Rattle.awk_runtime.proofs.runtime.Runtime.search_record.Goals as goal

pub returns-in_err-text-clause-follows : goal.returns-in_err-text-clause-follows
returns-in_err-text-clause-follows g c =
    let p = err_from_is_err_and c.from_residual.result c.from_residual.ensures.1 in
    rw (p.1, p.2) (next_ends c.in_err-text.ensures.seeks)

pub returns-in-Some-clause-follows : goal.returns-in-Some-clause-follows
returns-in-Some-clause-follows g c = next_gives (rw c.in-Some.is at c.in_ok-text.ensures.seeks)

pub returns-in-None-clause-follows : goal.returns-in-None-clause-follows
returns-in-None-clause-follows g c = next_seeks (rw c.in-None.is at c.in_ok-text.ensures.seeks) c.search_operands.ensures.seeks
