use Rattle.awk_evaluator.proofs.Moving.{no_tables}
use Rattle.std.proofs.Common.{◌≡◌, ◌+◌, suc, List, drop, ap, sym, ◌∙◌}
use Rattle.awk_value.specs.declared.value.Value.{Value}
use Rattle.awk_resolve.specs.Nodes.{first, operands, pattern_operands}
use Rattle.awk_evaluator.specs.support.Rest.{tables_in}
use Rattle.awk_evaluator.specs.support.Operands.{OperandsView}
use Rattle.awk_evaluator.proofs.Computing.{computed, second_is, drop_two, substitute_drop, one_operand, in_place}
use Rattle.awk_evaluator.proofs.machine.Machine.substitute_in_place.Goals as goal

pub returns-then-operand_count-eq0 : goal.returns-then-operand_count-eq0
returns-then-operand_count-eq0 c =
    let vs = c.args.self.now.operands.values in
    let below = c.args.self.now.operands.below in
    let none : operands c.args.place ≡ 0 = sym c.operand_count.ensures ∙ c.if-operand_count-eq0.true in
    let left : c.pop-below.new.self ≡ record { values = drop 1 (drop 1 vs); below = below } = c.pop-below.ensures.rest ∙ ap (λ (o : OperandsView). record o { values = drop 1 o.values }) c.pop-old.ensures.rest in
    let next : c.pop-below.result ≡ first (drop 1 vs) = c.pop-below.ensures.top ∙ ap (λ (o : OperandsView). first o.values) c.pop-old.ensures.rest in
    let count : suc (operands c.args.place) + suc (pattern_operands c.args.ere) ≡ 1 + suc (pattern_operands c.args.ere) = ap (λ n. suc n + suc (pattern_operands c.args.ere)) none in
    computed _
    (c.exchange.ensures.rest ∙ (ap (λ (o : OperandsView). record o { values = drop (pattern_operands c.args.ere) o.values }) left ∙ ap (λ (l : List Value). record { values = l; below = below }) (substitute_drop c.args.ere 1 _ vs count)))
    (c.exchange.ensures.changes no_tables).callers
    (λ tables functions. in_place (tables_in c.args.self.now.runtime.names tables) c.args.all c.args.ere c.args.place vs (drop 1 vs) _ _ _ _ (next ∙ second_is vs) c.pop-old.ensures.top next (ap (λ (o : OperandsView). o.values) left) (ap (λ n. drop (suc n) vs) (sym none)) (c.exchange.ensures.changes tables))

pub returns : goal.returns
returns c =
    let vs = c.args.self.now.operands.values in
    let below = c.args.self.now.operands.below in
    let one : operands c.args.place ≡ 1 = one_operand c.args.place (λ none. c.if-operand_count-eq0.false (c.operand_count.ensures ∙ none)) in
    let left : c.pop-below.new.self ≡ record { values = drop 2 vs; below = below } = c.pop-below.ensures.rest ∙ (ap (λ (o : OperandsView). record o { values = drop 1 o.values }) c.pop-old.ensures.rest ∙ ap (λ (l : List Value). record { values = l; below = below }) (drop_two vs)) in
    let rest : c.pop-replacement.new.self ≡ record { values = drop 1 (drop 2 vs); below = below } = c.pop-replacement.ensures.rest ∙ ap (λ (o : OperandsView). record o { values = drop 1 o.values }) left in
    let next : c.pop-below.result ≡ first (drop 1 vs) = c.pop-below.ensures.top ∙ ap (λ (o : OperandsView). first o.values) c.pop-old.ensures.rest in
    let third : c.pop-replacement.result ≡ first (drop 2 vs) = c.pop-replacement.ensures.top ∙ ap (λ (o : OperandsView). first o.values) left in
    let count : suc (operands c.args.place) + suc (pattern_operands c.args.ere) ≡ 2 + suc (pattern_operands c.args.ere) = ap (λ n. suc n + suc (pattern_operands c.args.ere)) one in
    computed _
    (c.exchange-2.ensures.rest ∙ (ap (λ (o : OperandsView). record o { values = drop (pattern_operands c.args.ere) o.values }) rest ∙ ap (λ (l : List Value). record { values = l; below = below }) (substitute_drop c.args.ere 2 _ vs count)))
    (c.exchange-2.ensures.changes no_tables).callers
    (λ tables functions. in_place (tables_in c.args.self.now.runtime.names tables) c.args.all c.args.ere c.args.place vs (drop 2 vs) _ _ _ _ (next ∙ second_is vs) c.pop-old.ensures.top third (ap (λ (o : OperandsView). o.values) rest) (ap (λ n. drop (suc n) vs) (sym one)) (c.exchange-2.ensures.changes tables))
