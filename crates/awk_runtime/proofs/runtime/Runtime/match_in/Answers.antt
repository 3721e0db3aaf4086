use Rattle.std.proofs.lemmas.Result.{err_from_is_err_and}
use Rattle.awk_runtime.proofs.TextChanges.{match_ends, match_gives}
use Rattle.awk_runtime.proofs.runtime.Runtime.match_in.Goals as goal

pub returns-in_err-found : goal.returns-in_err-found
returns-in_err-found c =
    let p = err_from_is_err_and c.from_residual.result c.from_residual.ensures.1 in
    rw (p.1, p.2) (match_ends _ _ c.in_err-found.ensures)

pub returns : goal.returns
returns c = match_gives _ _ c.in_ok-found.ensures c.note_match.ensures
