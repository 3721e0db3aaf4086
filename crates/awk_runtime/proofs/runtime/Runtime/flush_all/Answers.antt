use Rattle.std.proofs.Common.{Ok, Err}
use Rattle.std.proofs.lemmas.Result.{err_from_is_err_and}
use Rattle.awk_runtime.proofs.Flushes.{all_follows}
use Rattle.awk_runtime.proofs.Turns.{written}
use Rattle.awk_runtime.proofs.runtime.Runtime.flush_all.Goals as goal

pub returns-in_err-flush_all-clause-follows : goal.returns-in_err-flush_all-clause-follows
returns-in_err-flush_all-clause-follows g c =
    let p = err_from_is_err_and c.from_residual.result c.from_residual.ensures.1 in
    rw (p.1, p.2) (all_follows (Err c.in_err-flush_all.field-0.0) (written _ _ _ _) c.in_err-flush_all.ensures.told)

pub returns-clause-follows : goal.returns-clause-follows
returns-clause-follows g c = all_follows (Ok tt) (written _ _ _ _) c.in_ok-flush_all.ensures.told

pub returns-clause-brings : goal.returns-clause-brings
returns-clause-brings g c = λ t. (c.in_ok-flush_all.ensures.told t).flushed
