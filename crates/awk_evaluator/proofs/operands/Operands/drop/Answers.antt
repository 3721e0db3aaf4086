use Rattle.std.proofs.Common.{rules, ◌≡◌, ◌-◌, max, List, length, drop, take, reverse, ap, ◌∙◌}
use Rattle.awk_value.specs.declared.value.Value.{Value}
use Rattle.awk_evaluator.specs.support.Operands.{OperandsView}
use Rattle.awk_evaluator.proofs.Stacks.{dropped_view}
use Rattle.awk_evaluator.proofs.operands.Operands.drop.Goals as goal

pub returns : goal.returns
returns c =
    let base = c.self.inside.base in
    let items = c.self.inside.values.items in
    let is : c.start_of-start.result ≡ max base (length items - c.args.count) = search rules in
    let seen : OperandsView → OperandsView = λ v. record { values = drop c.args.count v.values; below = v.below } in
    let view : List Value → OperandsView = λ l. record { values = reverse (drop base l); below = take base l } in
    ap view c.truncate.ensures.items
    ∙ dropped_view items base c.start_of-start.result c.args.count c.self.invariant is
    ∙ ap seen c.self.view_is
