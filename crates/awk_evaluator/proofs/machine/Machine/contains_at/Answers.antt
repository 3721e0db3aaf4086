use Rattle.std.proofs.Common.{refl}
use Rattle.std.proofs.lemmas.Result.{err_from_is_err_and}
use Rattle.awk_evaluator.proofs.Asking.{key_ends, key_asks}
use Rattle.awk_evaluator.proofs.machine.Machine.contains_at.Goals as goal

pub returns-in_err-key : goal.returns-in_err-key
returns-in_err-key c =
    let p = err_from_is_err_and c.from_residual.result c.from_residual.ensures.1 in
    rw (p.1, p.2) (key_ends c.args.array c.args.key.now c.in_err-key.ensures)

pub returns : goal.returns
returns c = key_asks c.args.array c.args.key.now _ c.in_ok-key.ensures c.contains_at.ensures refl
