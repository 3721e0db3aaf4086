use Rattle.std.proofs.Common.{refl, arith}
use Rattle.std.proofs.lemmas.Result.{err_from_is_err_and}
use Rattle.awk_runtime.proofs.Composition.{memory_changes}
use Rattle.awk_runtime.proofs.ArrayWords.{keys_listed}
use Rattle.awk_runtime.proofs.runtime.Runtime.keys_of_array.Goals as goal

pub returns-in_err-keys : goal.returns-in_err-keys
returns-in_err-keys c =
    let p = err_from_is_err_and c.from_residual.result c.from_residual.ensures.1 in
    rw (p.1, p.2, c.in_err-keys.ensures.fault) (memory_changes _ refl refl refl (omega arith))

pub returns : goal.returns
returns c = keys_listed c.args.self.now c.args.array c.number_at-number.result c.number_at-number.ensures c.in_ok-keys.ensures.keys
