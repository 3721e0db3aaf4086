use Rattle.std.proofs.Common.{◌∙◌, rules, tests}
use Rattle.std.proofs.lemmas.Iterator.{YieldsList-from_slice}
use Rattle.std.proofs.lemmas.Iterator.Search.{any_from_yields_List}
use Rattle.awk_merging.specs.declared.sums.Sum.{Sum as KeptSum}
use Rattle.awk_merging.specs.support.SumsOf.{sum_of, is_array}
use Rattle.awk_merging.proofs.SumNames.{any_array}
use Rattle.awk_merging.proofs.sums.is_array_sum.Goals as goal

pub returns : goal.returns
returns c =
    any_from_yields_List (λ (x : KeptSum). is_array (sum_of x) c.args.name.now) _ _ c.any.result c.any.ensures.ran (YieldsList-from_slice c.args.sums.now cc) (λ x b q k. search (rules, tests))
    ∙ any_array c.args.sums.now c.args.name.now
