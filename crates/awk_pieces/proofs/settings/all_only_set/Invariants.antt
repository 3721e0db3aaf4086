use Rattle.std.proofs.Common.{◌≡◌, drop}
use Rattle.awk_grammar.specs.View.{statements_of}
use Rattle.awk_pieces.specs.definitions.Pieceable.{all_only_set}
use Rattle.awk_pieces.proofs.settings.all_only_set.Given as goal

abbrev pub invariant-loop-s : goal.invariant-loop-s
invariant-loop-s l = all_only_set (statements_of (drop l.s-index l.all)) ≡ all_only_set (statements_of l.all)
