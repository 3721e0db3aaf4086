use Rattle.std.proofs.Common.{refl, Ok}
use Rattle.std.proofs.lemmas.Result.{err_from_is_err_and}
use Rattle.awk_runtime.proofs.Composition.{ends_changes}
use Rattle.awk_evaluator.proofs.Computing.{computed, ended, made_of}
use Rattle.awk_evaluator.proofs.machine.Machine.contains_on_top.Goals as goal

pub returns-in_err-is_there : goal.returns-in_err-is_there
returns-in_err-is_there c =
    let p = err_from_is_err_and c.from_residual.result c.from_residual.ensures.1 in
    rw (p.1, p.2) (ended _ (λ tables functions. ends_changes _ (rw (← c.pop-key.ensures.top) c.in_err-is_there.ensures)))

pub returns : goal.returns
returns c = computed (Ok _) c.pop-key.ensures.rest c.in_ok-is_there.ensures.callers (λ tables functions. rw (← c.pop-key.ensures.top, c.truth_value.ensures) (made_of _ _ c.in_ok-is_there.ensures))
