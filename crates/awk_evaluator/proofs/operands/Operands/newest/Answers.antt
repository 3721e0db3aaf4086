use Rattle.std.proofs.Common.{rules, ◌≡◌, ◌-◌, max, length, drop, ap, ◌∙◌}
use Rattle.std.proofs.lemmas.List.{take_rest}
use Rattle.awk_resolve.specs.Nodes.{taken}
use Rattle.awk_evaluator.specs.support.Operands.{OperandsView}
use Rattle.awk_evaluator.proofs.Stacks.{newest_values}
use Rattle.awk_evaluator.proofs.operands.Operands.newest.Goals as goal

pub returns : goal.returns
returns c =
    let base = c.self.inside.base in
    let items = c.self.inside.values.items in
    let start = c.start_of-start.result in
    let is : start ≡ max base (length items - c.args.count) = search rules in
    let seen = λ (v : OperandsView). taken c.args.count v.values in
    take_rest c.deref.result.now start
    ∙ ap (drop start) c.deref.ensures.value
    ∙ newest_values items base start c.args.count c.self.invariant is
    ∙ ap seen c.self.view_is
