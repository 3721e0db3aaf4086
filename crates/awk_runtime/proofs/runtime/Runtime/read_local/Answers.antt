use Rattle.std.proofs.Common.{refl, sym, ap, ◌∙◌, Some, arith}
use Rattle.std.proofs.lemmas.Result.{err_from_is_err_and}
use Rattle.awk_runtime.proofs.Composition.{memory_changes}
use Rattle.awk_runtime.proofs.VariableWords.{local_read, value_in}
use Rattle.awk_runtime.proofs.runtime.Runtime.read_local.Goals as goal

pub returns-in_err-clone-in-Some-Value : goal.returns-in_err-clone-in-Some-Value
returns-in_err-clone-in-Some-Value c =
    let p = err_from_is_err_and c.from_residual.result c.from_residual.ensures.1 in
    rw (p.1, p.2) (memory_changes _ refl refl refl (omega arith))

pub returns-in_ok-clone-in-Some-Value : goal.returns-in_ok-clone-in-Some-Value
returns-in_ok-clone-in-Some-Value c = local_read c.args.index c.args.self.now (c.in_ok-clone-in-Some-Value.ensures.cases ∙ ap value_in (ap Some (sym c.in-Some-Value.field-0-is) ∙ c.in-Some-Value.ensures))

pub returns-in-Some-Array : goal.returns-in-Some-Array
returns-in-Some-Array c = local_read c.args.index c.args.self.now (ap value_in (ap Some (sym c.in-Some-Array.field-0-is) ∙ c.in-Some-Array.ensures))

pub returns-in-None : goal.returns-in-None
returns-in-None c = local_read c.args.index c.args.self.now (ap value_in c.in-None.ensures)
