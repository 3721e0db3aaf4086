use Rattle.std.proofs.lemmas.Result.{err_from_is_err_and}
use Rattle.awk_runtime.proofs.Seeks.{main_ends, main_gives, main_closes}
use Rattle.awk_runtime.proofs.runtime.Runtime.main_record.Goals as goal

pub returns-in_err-text-clause-seeks : goal.returns-in_err-text-clause-seeks
returns-in_err-text-clause-seeks g c =
    let p = err_from_is_err_and c.from_residual.result c.from_residual.ensures.1 in
    rw (p.1, p.2) (main_ends c.in_err-text.ensures.follows)

pub returns-in-Some-clause-seeks : goal.returns-in-Some-clause-seeks
returns-in-Some-clause-seeks g c = main_gives (rw c.in-Some.is at c.in_ok-text.ensures.follows)

pub returns-in-None-clause-seeks : goal.returns-in-None-clause-seeks
returns-in-None-clause-seeks g c = main_closes (rw c.in-None.is at c.in_ok-text.ensures.follows) c.close_main_input.ensures.follows c.close_main_input.ensures.none
