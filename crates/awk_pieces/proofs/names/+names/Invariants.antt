use Rattle.std.proofs.Common.{◌≡◌, ◌++◌, drop}
use Rattle.awk_grammar.specs.View.{statements_of}
use Rattle.awk_pieces.specs.definitions.Pieceable.{all_names_in}
use Rattle.awk_pieces.proofs.names.+names.Given as goal

abbrev pub invariant-add_all_names-loop-s : goal.invariant-add_all_names-loop-s
invariant-add_all_names-loop-s l =
    l.names.items ++ all_names_in l.by (statements_of (drop l.s-index l.all)) ≡ l.fn.names.items ++ all_names_in l.by (statements_of l.all)
