use Rattle.std.proofs.Common.{Ok, refl}
use Rattle.std.proofs.lemmas.Result.{err_from_is_err_and}
use Rattle.awk_semantics.specs.BuiltIns.{flush_outputs}
use Rattle.awk_runtime.proofs.Composition.{then_simulates, ends_simulates, lift_simulates}
use Rattle.awk_evaluator.proofs.Computing.{evaluated, value_ended}
use Rattle.awk_evaluator.proofs.machine.Machine.flush_all.Goals as goal

pub returns-in_err-flush_all-clause-evaluates : goal.returns-in_err-flush_all-clause-evaluates
unfolding flush_outputs
returns-in_err-flush_all-clause-evaluates g c =
    let p = err_from_is_err_and c.from_residual.result c.from_residual.ensures.1 in
    rw (p.1, p.2) (value_ended _ (λ tables functions. ends_simulates _ c.in_err-flush_all.ensures.follows.simulates))

pub returns-clause-evaluates : goal.returns-clause-evaluates
unfolding flush_outputs
returns-clause-evaluates g c = evaluated (Ok _) refl c.in_ok-flush_all.ensures.follows.callers (λ tables functions. then_simulates _ c.in_ok-flush_all.ensures.follows.simulates (lift_simulates (Ok _) _ _ refl))
