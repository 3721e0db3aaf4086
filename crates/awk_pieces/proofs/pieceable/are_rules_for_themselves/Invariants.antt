use Rattle.std.proofs.Common.{◌≡◌, drop}
use Rattle.awk_grammar.specs.View.{items_of}
use Rattle.awk_pieces.specs.definitions.Pieceable.{are_rules_for_themselves}
use Rattle.awk_pieces.specs.support.Known.{own_of, arrays_of, known_of}
use Rattle.awk_pieces.proofs.pieceable.are_rules_for_themselves.Given as goal

abbrev pub invariant-loop-item : goal.invariant-loop-item
invariant-loop-item l =
    (own_of l.known ≡ own_of l.fn.known) × (arrays_of l.known ≡ arrays_of l.fn.known) × (l.known.set.items ≡ l.fn.known.set.items)
    × (are_rules_for_themselves (own_of l.known) (arrays_of l.known) (known_of l.known) (items_of (drop l.item-index l.items)) ≡ are_rules_for_themselves (own_of l.fn.known) (arrays_of l.fn.known) (known_of l.fn.known) (items_of l.items))
