use Rattle.awk_evaluator.proofs.Moving.{no_functions}
use Rattle.std.proofs.Common.{◌≡◌, List, drop, drop-drop, Ok, ap, ◌∙◌}
use Rattle.std.proofs.lemmas.Result.{err_from_is_err_and}
use Rattle.awk_value.specs.declared.value.Value.{Value}
use Rattle.awk_resolve.specs.Nodes.{taken}
use Rattle.awk_evaluator.specs.support.Operands.{OperandsView}
use Rattle.awk_evaluator.proofs.Computing.{performed, effect_ended}
use Rattle.awk_evaluator.proofs.machine.Machine.print_to.Goals as goal

pub returns-in_err-print_to-clause-performs : goal.returns-in_err-print_to-clause-performs
returns-in_err-print_to-clause-performs g c =
    let p = err_from_is_err_and c.from_residual.result c.from_residual.ensures.1 in
    let vs = c.args.self.now.operands.values in
    let values : c.newest-values.result.now ≡ taken c.args.count (drop 1 vs) = c.newest-values.ensures ∙ ap (λ (o : OperandsView). taken c.args.count o.values) c.pop-name.ensures.rest in
    rw (p.1, p.2) (effect_ended _ (λ tables functions. rw (← c.pop-name.ensures.top, ← values) (c.in_err-print_to.ensures.follows functions).simulates))

pub returns-clause-performs : goal.returns-clause-performs
returns-clause-performs g c =
    let below = c.args.self.now.operands.below in
    let vs = c.args.self.now.operands.values in
    let values : c.newest-values.result.now ≡ taken c.args.count (drop 1 vs) = c.newest-values.ensures ∙ ap (λ (o : OperandsView). taken c.args.count o.values) c.pop-name.ensures.rest in
    let rest = c.drop-2.ensures ∙ (ap (λ (o : OperandsView). record o { values = drop c.args.count o.values }) c.pop-name.ensures.rest ∙ ap (λ (l : List Value). record { values = l; below = below }) (drop-drop c.args.count 1 vs)) in
    performed (Ok tt) rest (c.in_ok-print_to.ensures.follows no_functions).callers (λ tables functions. rw (← c.pop-name.ensures.top, ← values) (c.in_ok-print_to.ensures.follows functions).simulates)
