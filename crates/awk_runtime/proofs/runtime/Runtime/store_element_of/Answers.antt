use Rattle.std.proofs.Common.{refl, arith}
use Rattle.std.proofs.lemmas.Result.{err_from_is_err_and}
use Rattle.awk_value.specs.Values.{str_of}
use Rattle.awk_runtime.proofs.Composition.{memory_changes}
use Rattle.awk_runtime.proofs.ArrayWords.{element_stored}
use Rattle.awk_runtime.proofs.runtime.Runtime.store_element_of.Goals as goal

pub returns-in_err-value : goal.returns-in_err-value
returns-in_err-value c =
    let p = err_from_is_err_and c.from_residual.result c.from_residual.ensures.1 in
    rw (p.1, p.2) (memory_changes _ refl refl refl (omega arith))

pub returns-in_err-put : goal.returns-in_err-put
returns-in_err-put c =
    let p = err_from_is_err_and c.from_residual-in_err-put.result c.from_residual-in_err-put.ensures.1 in
    rw (p.1, p.2, c.in_err-put.ensures.fault) (memory_changes _ refl refl refl (omega arith))

pub returns : goal.returns
returns c = element_stored c.args.self.now c.args.array (str_of c.args.key.now) c.number_at-number.result c.number_at-number.ensures c.args.value (rw (c.of.ensures, c.in_ok-value.ensures) at c.in_ok-put.ensures.put)
