use Rattle.std.proofs.Common.{refl, ap, arith}
use Rattle.std.proofs.lemmas.Result.{err_from_is_err_and}
use Rattle.awk_runtime.proofs.Composition.{memory_changes}
use Rattle.awk_runtime.proofs.VariableWords.{special_put, special_fails, failed}
use Rattle.awk_runtime.proofs.runtime.Runtime.put_special.Goals as goal

pub returns-in_err-value : goal.returns-in_err-value
returns-in_err-value c =
    let p = err_from_is_err_and c.from_residual.result c.from_residual.ensures.1 in
    rw (p.1, p.2) (memory_changes _ refl refl refl (omega arith))

pub returns-in_err-set_special : goal.returns-in_err-set_special
returns-in_err-set_special c =
    let p = err_from_is_err_and c.from_residual-in_err-set_special.result c.from_residual-in_err-set_special.ensures.1 in
    rw (p.1, p.2, ← c.in_ok-value.ensures) (special_fails c.args.special _ c.in_err-set_special.field-0.0 (λ e. c.in_err-set_special.ensures.refused (ap failed e)) (record { beside = record { names = refl; current = refl; specials = c.in_err-set_special.ensures.err; globals = refl; arrays = refl; frames = refl; next = refl; input_seen = refl; inside = refl; status = refl; steps = refl }; streams = refl }))

pub returns : goal.returns
returns c = rw (← c.in_ok-value.ensures) (special_put c.args.special _ c.in_ok-set_special.ensures.accepted c.law_of_slots.ensures.own c.in_ok-set_special.ensures.set refl (record { names = refl; current = refl; arrays = refl; frames = refl; streams = refl; next = refl; input_seen = refl; inside = refl; status = refl; steps = refl }))
