use Rattle.std.proofs.Common.{◌≡◌, Ok, refl, arith}
use Rattle.std.proofs.lemmas.Result.{err_from_is_err_and}
use Rattle.std.proofs.lemmas.Int.{ints}
use mir.Syntax.{w128}
use mir.Val.{to_z, of_z}
use Rattle.awk_runtime.proofs.Composition.{then_simulates, ends_simulates, lift_simulates}
use Rattle.awk_evaluator.proofs.Computing.{evaluated, value_ended}
use Rattle.awk_evaluator.proofs.machine.Machine.close.Goals as goal

pub returns-in_err-close_named-clause-evaluates : goal.returns-in_err-close_named-clause-evaluates
returns-in_err-close_named-clause-evaluates g c =
    let p = err_from_is_err_and c.from_residual.result c.from_residual.ensures.1 in
    rw (p.1, p.2) (value_ended _ (λ tables functions. rw (← c.pop-name.ensures.top) (ends_simulates _ c.in_err-close_named.ensures.follows.simulates)))

pub returns-clause-evaluates : goal.returns-clause-evaluates
returns-clause-evaluates g c =
    let same : to_z w128 (of_z w128 c.in_ok-close_named.field-0) ≡ c.in_ok-close_named.field-0 = omega (arith, ints) in
    rw same (evaluated (Ok _) c.pop-name.ensures.rest c.in_ok-close_named.ensures.follows.callers (λ tables functions. rw (← c.pop-name.ensures.top) (then_simulates _ c.in_ok-close_named.ensures.follows.simulates (lift_simulates (Ok _) _ _ refl))))
