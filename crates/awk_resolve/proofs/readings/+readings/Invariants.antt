use Rattle.std.proofs.Common.{◌≡◌, drop}
use Rattle.awk_grammar.specs.View.{exprs_of}
use Rattle.awk_resolve.specs.support.Readings.{all_read}
use Rattle.awk_resolve.proofs.readings.+readings.Given as goal

abbrev pub invariant-all_read-loop-e : goal.invariant-all_read-loop-e
invariant-all_read-loop-e l = all_read (exprs_of (drop l.e-index l.list)) ≡ all_read (exprs_of l.list)
