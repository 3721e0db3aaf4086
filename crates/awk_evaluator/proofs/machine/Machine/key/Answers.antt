use Rattle.std.proofs.Common.{refl, Ok}
use Rattle.std.proofs.lemmas.Result.{err_from_is_err_and}
use Rattle.awk_runtime.proofs.Composition.{ends_changes}
use Rattle.awk_evaluator.proofs.Computing.{computed, ended, made_of}
use Rattle.awk_evaluator.proofs.machine.Machine.key.Goals as goal

pub returns-in_err-key : goal.returns-in_err-key
returns-in_err-key c =
    let p = err_from_is_err_and c.from_residual.result c.from_residual.ensures.1 in
    rw (p.1, p.2) (ended _ (λ tables functions. ends_changes _ (rw (← c.newest-subscripts.ensures) c.in_err-key.ensures)))

pub returns : goal.returns
returns c = computed (Ok _) c.drop.ensures c.in_ok-key.ensures.callers (λ tables functions. rw (← c.newest-subscripts.ensures) (made_of _ _ c.in_ok-key.ensures))
