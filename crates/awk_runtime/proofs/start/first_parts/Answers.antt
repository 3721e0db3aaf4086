use Rattle.std.proofs.Common.{refl}
use Rattle.std.proofs.lemmas.Result.{err_from_is_err_and}
use Rattle.awk_runtime.proofs.start.first_parts.Goals as goal

pub returns-in_err-globals-clause-memory : goal.returns-in_err-globals-clause-memory
returns-in_err-globals-clause-memory c =
    let p = err_from_is_err_and c.from_residual-in_err-globals.result c.from_residual-in_err-globals.ensures.1 in
    rw (p.1, p.2) refl

pub returns-in_err-arrays-clause-memory : goal.returns-in_err-arrays-clause-memory
returns-in_err-arrays-clause-memory c =
    let p = err_from_is_err_and c.from_residual-in_err-arrays.result c.from_residual-in_err-arrays.ensures.1 in
    rw (p.1, p.2, c.in_err-arrays.ensures.memory) refl

pub returns-in_err-specials-clause-memory : goal.returns-in_err-specials-clause-memory
returns-in_err-specials-clause-memory c =
    let p = err_from_is_err_and c.from_residual-in_err-specials.result c.from_residual-in_err-specials.ensures.1 in
    rw (p.1, p.2, c.in_err-specials.ensures.memory) refl
