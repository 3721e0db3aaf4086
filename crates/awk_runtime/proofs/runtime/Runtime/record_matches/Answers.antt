use Rattle.std.proofs.lemmas.Result.{err_from_is_err_and}
use Rattle.awk_runtime.proofs.runtime.Runtime.record_matches.Goals as goal

pub returns-in_err-record_has_match : goal.returns-in_err-record_has_match
returns-in_err-record_has_match c =
    let p = err_from_is_err_and c.from_residual.result c.from_residual.ensures.1 in
    rw (p.1, p.2) c.in_err-record_has_match.ensures

pub returns : goal.returns
returns c = rw c.truth_value.ensures c.in_ok-record_has_match.ensures
