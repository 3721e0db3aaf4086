use Rattle.std.proofs.Common.{◌≡◌, ◌+◌, List, drop, refl, ap, sym, ◌∙◌}
use Rattle.std.specs.Prelude.{get_or}
use Rattle.awk_value.specs.declared.value.Value.{Value}
use Rattle.awk_value.specs.declared.value.Value.TheVariants.{Nothing}
use Rattle.awk_resolve.specs.Nodes.{first, second, place_operands}
use Rattle.awk_evaluator.specs.support.Operands.{OperandsView}
use Rattle.awk_evaluator.proofs.Computing.{evaluated, second_is, drop_two, one_place_operand}
use Rattle.awk_evaluator.proofs.machine.Machine.getline_from_command.Goals as goal

pub returns-then-place_operand_count-eq0-clause-evaluates : goal.returns-then-place_operand_count-eq0-clause-evaluates
returns-then-place_operand_count-eq0-clause-evaluates g c =
    let o = c.args.self.now.operands in
    let none : place_operands c.args.place ≡ 0 = sym c.place_operand_count.ensures ∙ c.if-place_operand_count-eq0.true in
    let command : c.pop-top.result ≡ get_or o.values (place_operands c.args.place) Nothing = c.pop-top.ensures.top ∙ ap (λ n. get_or o.values n Nothing) (sym none) in
    evaluated c.named_getline_at.result
    (c.pop-top.ensures.rest ∙ ap (λ n. record o { values = drop (1 + n) o.values }) (sym none))
    c.named_getline_at.ensures.follows.callers
    (λ tables functions. rw (← command, ← c.pop-top.ensures.top) c.named_getline_at.ensures.follows.simulates)

pub returns-clause-evaluates : goal.returns-clause-evaluates
returns-clause-evaluates g c =
    let o = c.args.self.now.operands in
    let one : place_operands c.args.place ≡ 1 = one_place_operand c.args.place (λ none. c.if-place_operand_count-eq0.false (c.place_operand_count.ensures ∙ none)) in
    let next : c.pop-command.result ≡ second o.values = c.pop-command.ensures.top ∙ (ap (λ (v : OperandsView). first v.values) c.pop-top.ensures.rest ∙ second_is o.values) in
    let command : c.pop-command.result ≡ get_or o.values (place_operands c.args.place) Nothing = next ∙ ap (λ n. get_or o.values n Nothing) (sym one) in
    evaluated c.named_getline_at-2.result
    (c.pop-command.ensures.rest ∙ (ap (λ (v : OperandsView). record v { values = drop 1 v.values }) c.pop-top.ensures.rest ∙ (ap (λ (l : List Value). record o { values = l }) (drop_two o.values) ∙ ap (λ n. record o { values = drop (1 + n) o.values }) (sym one))))
    c.named_getline_at-2.ensures.follows.callers
    (λ tables functions. rw (← command, ← c.pop-top.ensures.top) c.named_getline_at-2.ensures.follows.simulates)
