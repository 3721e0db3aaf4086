use Rattle.std.proofs.Common.{refl, arith}
use Rattle.std.proofs.lemmas.Result.{err_from_is_err_and}
use Rattle.awk_runtime.proofs.Composition.{memory_changes}
use Rattle.awk_runtime.proofs.ElementWords.{element_assigned}
use Rattle.awk_runtime.proofs.runtime.Runtime.assign_element.Goals as goal

pub returns-in_err-value : goal.returns-in_err-value
returns-in_err-value c =
    let p = err_from_is_err_and c.from_residual.result c.from_residual.ensures.1 in
    rw (p.1, p.2) (record { gives = memory_changes _ refl refl refl (omega arith) })

pub returns-in_err-put : goal.returns-in_err-put
returns-in_err-put c =
    let p = err_from_is_err_and c.from_residual-in_err-put.result c.from_residual-in_err-put.ensures.1 in
    rw (p.1, p.2, c.in_err-put.ensures.fault) (record { gives = memory_changes _ refl refl refl (omega arith) })

pub returns : goal.returns
returns c = element_assigned c.args.self.now c.args.array c.args.key.now c.number_at-number.result c.number_at-number.ensures c.args.value (rw (c.of.ensures, c.in_ok-value.ensures) at c.in_ok-put.ensures.put)
