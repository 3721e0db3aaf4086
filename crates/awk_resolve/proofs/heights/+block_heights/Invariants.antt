use Rattle.std.proofs.Common.{◌≡◌, max, drop}
use Rattle.awk_grammar.specs.Height.{tallest_of}
use Rattle.awk_grammar.specs.View.{statements_of}
use Rattle.awk_resolve.proofs.heights.+block_heights.Given as goal

abbrev pub invariant-block_height-loop-s : goal.invariant-block_height-loop-s
invariant-block_height-loop-s l = max l.height (tallest_of (statements_of (drop l.s-index l.all))) ≡ tallest_of (statements_of l.all)
