use Rattle.std.proofs.Common.{refl, arith}
use Rattle.std.proofs.lemmas.Result.{err_from_is_err_and}
use Rattle.awk_runtime.proofs.Composition.{memory_changes}
use Rattle.awk_runtime.proofs.VariableWords.{local_given}
use Rattle.awk_runtime.proofs.runtime.Runtime.put_local.Goals as goal

pub returns-in_err-value : goal.returns-in_err-value
returns-in_err-value c =
    let p = err_from_is_err_and c.from_residual.result c.from_residual.ensures.1 in
    rw (p.1, p.2) (memory_changes _ refl refl refl (omega arith))

pub returns-then-is_settled : goal.returns-then-is_settled
returns-then-is_settled c = local_given c.args.index c.args.value c.set_value.ensures (record { names = refl; current = refl; specials = refl; globals = refl; arrays = refl; streams = refl; next = refl; input_seen = refl; inside = refl; status = refl; steps = refl })

pub returns : goal.returns
returns c = local_given c.args.index c.args.value (rw c.in_ok-value.ensures at c.set_value-2.ensures) (record { names = refl; current = refl; specials = refl; globals = refl; arrays = refl; streams = refl; next = refl; input_seen = refl; inside = refl; status = refl; steps = refl })
