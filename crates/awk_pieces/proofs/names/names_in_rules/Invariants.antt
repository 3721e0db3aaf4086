use Rattle.std.proofs.Common.{◌≡◌, ◌++◌, drop}
use Rattle.awk_grammar.specs.View.{items_of}
use Rattle.awk_pieces.specs.definitions.Pieceable.{names_in_rules}
use Rattle.awk_pieces.proofs.names.names_in_rules.Given as goal

abbrev pub invariant-loop-item : goal.invariant-loop-item
invariant-loop-item l = l.names.items ++ names_in_rules l.by (items_of (drop l.item-index l.items)) ≡ names_in_rules l.by (items_of l.items)
