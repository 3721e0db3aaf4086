use Rattle.std.proofs.Common.{rules}
use Rattle.awk_storage.proofs.Counting.{counts_on}
use Rattle.awk_storage.proofs.variables.Variables.count_records.Goals as goal

pub returns-clause-counted : goal.returns-clause-counted
returns-clause-counted c = λ yes.
    let e = c.in-Some.ensures {u = tt} in
    record {
      all = c.in-Some.all;
      in_file = c.in-Some.in_file;
      nr = e.nr;
      fnr = e.fnr;
      nr_counts = λ k within. counts_on c.in-Some.all k c.args.count e.nr_small c.ranges.count.fits within;
      fnr_counts = λ k within. counts_on c.in-Some.in_file k c.args.count e.fnr_small c.ranges.count.fits within;
      counted = λ x. let h = c.set_counts.ensures x in search rules;
    }
