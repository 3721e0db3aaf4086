use Rattle.std.proofs.Common.{◌≡◌, drop}
use Rattle.awk_grammar.specs.View.{statements_of}
use Rattle.awk_kinds.specs.definitions.Placed.{block_fits}
use Rattle.awk_kinds.specs.support.Place.{place_of}
use Rattle.awk_kinds.proofs.placed.+statements.Given as goal

abbrev pub invariant-block_fits-loop-s : goal.invariant-block_fits-loop-s
invariant-block_fits-loop-s l = block_fits (place_of l.place) (statements_of (drop l.s-index l.all)) ≡ block_fits (place_of l.place) (statements_of l.all)
