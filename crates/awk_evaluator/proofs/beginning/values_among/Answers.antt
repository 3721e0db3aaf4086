use Rattle.std.proofs.Common.{arith, sym}
use Rattle.awk_evaluator.proofs.Arguments.{one_more, none_more, one_within}
use Rattle.awk_evaluator.proofs.beginning.values_among.Goals as goal

pub forms-preserved : goal.forms-preserved
forms-preserved c =
    let at = sym c.in-Some.ensures in
    let low = c.forms.invariant.low in
    let one = c.count_of-count.ensures.low in
    record {
      together = one_more c.args.forms.now c.forms.index c.forms.count c.count_of-count.result at c.count_of-count.ensures.count c.forms.invariant.together;
      low = omega (arith, low, one);
      within = one_within c.args.forms.now c.forms.index at;
    }

pub returns : goal.returns
returns c = none_more c.args.forms.now c.forms.index c.forms.count (sym c.in_default.ensures) c.forms.invariant.together
