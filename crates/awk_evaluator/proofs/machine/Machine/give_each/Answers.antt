use Rattle.std.proofs.Common.{arith, sym, ap, ◌∙◌, drop}
use Rattle.awk_resolve.specs.Nodes.{taken}
use Rattle.awk_runtime.specs.declared.runtime.Runtime.{Runtime}
use Rattle.awk_runtime.specs.Calling.{with_given}
use Rattle.awk_evaluator.specs.Operands.{OperandsView}
use Rattle.awk_evaluator.specs.Calling.{kept_by}
use Rattle.awk_evaluator.proofs.Arguments.{one_within, given_more, given_none, all_given}
use Rattle.awk_evaluator.proofs.machine.Machine.give_each.Goals as goal

pub arguments-preserved : goal.arguments-preserved
arguments-preserved c =
    let at = sym c.in-Some.ensures in
    let i = c.arguments.invariant in
    let low = i.low in
    let one = c.count_of-given.ensures.low in
    let count = c.values_among-count.result in
    let given = c.in_ok-give_argument.ensures.gives.given in
    record {
      operands = c.in_ok-give_argument.ensures.operands ∙ i.operands;
      frames = ap (λ (m : Runtime). m.frames.frames) given ∙ i.frames;
      low = omega (arith, low, one);
      within = one_within c.args.forms.now c.arguments.index at;
      rest = given_more c.args.forms.now (taken count c.args.self.now.operands.values) c.arguments.index c.arguments.given c.count_of-given.result c.args.self.now.runtime.frames c.arguments.self.runtime _ _ at c.count_of-given.ensures.count i.frames
          (given ∙ ap (λ (o : OperandsView). with_given (kept_by c.in-Some.form (drop c.arguments.given (taken count o.values)) c.arguments.self.runtime.frames) c.arguments.self.runtime) i.operands) i.rest;
    }

pub returns : goal.returns
returns c =
    let i = c.arguments.invariant in
    let count = c.values_among-count.result in
    let dropped : OperandsView → OperandsView = λ o. record { values = drop count o.values; below = o.below } in
    all_given count c.values_among-count.ensures
    (given_none c.args.forms.now (taken count c.args.self.now.operands.values) c.arguments.index c.arguments.given c.args.self.now.runtime.frames _ _ (sym c.in_default.ensures) i.rest)
    (c.drop.ensures ∙ ap dropped i.operands)
