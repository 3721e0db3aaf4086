use Rattle.std.proofs.Common.{◌∷◌, drop, take, reverse, ap, ◌∙◌}
use Rattle.awk_value.specs.declared.value.Value.{Value}
use Rattle.awk_evaluator.specs.support.Operands.{OperandsView}
use Rattle.awk_evaluator.proofs.operands.Operands.hand_over_any.Goals as goal

pub returns : goal.returns
returns c =
    let put : Value → OperandsView → OperandsView = λ v o. record { values = v ∷ o.values; below = o.below } in
    let left : OperandsView → OperandsView = λ o. record { values = reverse (drop c.args.base o.below); below = take c.args.base o.below } in
    c.in_ok-push.ensures.pushed ∙ ap (put c.pop-value.result) (c.leave.ensures ∙ ap left c.pop-value.ensures.rest) ∙ ap (λ v. put v (left c.args.self.now)) c.pop-value.ensures.top
