use Rattle.std.proofs.Common.{◌≡◌, max, drop}
use Rattle.awk_grammar.specs.Height.{tallest}
use Rattle.awk_grammar.specs.View.{exprs_of}
use Rattle.awk_resolve.proofs.heights.+heights.Given as goal

abbrev pub invariant-tallest-loop-e : goal.invariant-tallest-loop-e
invariant-tallest-loop-e l = max l.height (tallest (exprs_of (drop l.e-index l.list))) ≡ tallest (exprs_of l.list)
