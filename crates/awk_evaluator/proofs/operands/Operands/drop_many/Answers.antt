use Rattle.std.proofs.Common.{rules, ◌<◌, List, length, drop, take, reverse, ap, ◌∙◌}
use Rattle.awk_value.specs.declared.value.Value.{Value}
use Rattle.awk_evaluator.specs.support.Operands.{OperandsView}
use Rattle.awk_evaluator.proofs.Stacks.{all_dropped}
use Rattle.awk_evaluator.proofs.operands.Operands.drop_many.Goals as goal

pub returns-then-count-length : goal.returns-then-count-length
returns-then-count-length c =
    let base = c.self.inside.base in
    let items = c.self.inside.values.items in
    let view : List Value → OperandsView = λ l. record { values = reverse (drop base l); below = take base l } in
    let seen : OperandsView → OperandsView = λ v. record { values = drop c.args.count v.values; below = v.below } in
    let few : length items < c.args.count = search rules in
    ap view c.truncate.ensures.items ∙ all_dropped items base c.args.count few ∙ ap seen c.self.view_is
