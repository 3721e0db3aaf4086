use Rattle.std.proofs.Common.{rules, tests, sym, ◌∙◌}
use Rattle.std.proofs.lemmas.Iterator.{YieldsList-from_slice}
use Rattle.std.proofs.lemmas.Iterator.Search.{all_from_yields_List}
use Rattle.awk_merging.specs.declared.sums.Sum.{Sum as KeptSum}
use Rattle.awk_merging.specs.definitions.Sums.{name_of_sum}
use Rattle.awk_merging.specs.support.Lines.{is_line}
use Rattle.awk_merging.specs.support.SumsOf.{sum_of}
use Rattle.awk_merging.proofs.SumNames.{all_lines}
use Rattle.awk_merging.proofs.mergeable.have_line_names.Goals as goal

pub returns : goal.returns
returns c all =
    all_lines c.args.sums.now (
    sym (all_from_yields_List (λ (x : KeptSum). is_line (name_of_sum (sum_of x))) _ _ c.all.result c.all.ensures.ran (YieldsList-from_slice c.args.sums.now cc) (λ x b q k. search (rules, tests)))
    ∙ all)
