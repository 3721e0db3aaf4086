use Rattle.std.proofs.Common.{[], List, drop, take, reverse, ap, ◌∙◌}
use Rattle.awk_value.specs.declared.value.Value.{Value}
use Rattle.awk_evaluator.specs.support.Operands.{OperandsView}
use Rattle.awk_evaluator.proofs.Stacks.{own_dropped}
use Rattle.awk_evaluator.proofs.operands.Operands.drop_all.Goals as goal

pub returns : goal.returns
returns c =
    let base = c.self.inside.base in
    let items = c.self.inside.values.items in
    let view : List Value → OperandsView = λ l. record { values = reverse (drop base l); below = take base l } in
    let seen : OperandsView → OperandsView = λ v. record { values = []; below = v.below } in
    ap view c.truncate.ensures.items ∙ own_dropped items base ∙ ap seen c.self.view_is
