use Rattle.std.proofs.Common.{List, drop, drop-drop, Ok, ap, ◌∙◌}
use Rattle.std.proofs.lemmas.Result.{err_from_is_err_and}
use Rattle.awk_value.specs.declared.value.Value.{Value}
use Rattle.awk_resolve.specs.Nodes.{first, place_operands}
use Rattle.awk_evaluator.specs.support.Operands.{OperandsView}
use Rattle.awk_evaluator.proofs.Computing.{evaluated, value_ended, second_is}
use Rattle.awk_evaluator.proofs.machine.Machine.getline_from_file.Goals as goal

pub returns-in_err-answer-clause-evaluates : goal.returns-in_err-answer-clause-evaluates
returns-in_err-answer-clause-evaluates g c =
    let p = err_from_is_err_and c.from_residual.result c.from_residual.ensures.1 in
    let vs = c.args.self.now.operands.values in
    let operand = ap (λ (o : OperandsView). first o.values) c.pop-name.ensures.rest ∙ second_is vs in
    rw (p.1, p.2) (value_ended _ (λ tables functions. rw (← c.pop-name.ensures.top, ← operand) c.in_err-answer.ensures.follows.simulates))

pub returns-clause-evaluates : goal.returns-clause-evaluates
returns-clause-evaluates g c =
    let vs = c.args.self.now.operands.values in
    let below = c.args.self.now.operands.below in
    let operand = ap (λ (o : OperandsView). first o.values) c.pop-name.ensures.rest ∙ second_is vs in
    let left = c.in_ok-answer.ensures.operands ∙ c.pop-name.ensures.rest in
    let rest = c.drop-2.ensures ∙ (ap (λ (o : OperandsView). record o { values = drop c.place_operand_count.result o.values }) left ∙ (ap (λ n. record { values = drop n (drop 1 vs); below = below }) c.place_operand_count.ensures ∙ ap (λ (l : List Value). record { values = l; below = below }) (drop-drop (place_operands c.args.place) 1 vs))) in
    evaluated (Ok _) rest c.in_ok-answer.ensures.follows.callers (λ tables functions. rw (← c.pop-name.ensures.top, ← operand) c.in_ok-answer.ensures.follows.simulates)
