use Rattle.std.proofs.Common.{◌≡◌, drop}
use Rattle.awk_grammar.specs.View.{statements_of}
use Rattle.awk_kinds.specs.Names.{IsFront}
use Rattle.awk_pieces.specs.definitions.Pieceable.{are_for_themselves}
use Rattle.awk_pieces.specs.support.Known.{own_of, arrays_of, known_of}
use Rattle.awk_pieces.proofs.pieceable.+statements.Given as goal

abbrev pub invariant-are_for_themselves-loop-s : goal.invariant-are_for_themselves-loop-s
invariant-are_for_themselves-loop-s l =
    (own_of l.known ≡ own_of l.fn.known) × (arrays_of l.known ≡ arrays_of l.fn.known) × IsFront l.fn.known.set.items l.known.set.items
    × (are_for_themselves (own_of l.known) (arrays_of l.known) (known_of l.known) (statements_of (drop l.s-index l.all)) ≡ are_for_themselves (own_of l.fn.known) (arrays_of l.fn.known) (known_of l.fn.known) (statements_of l.all))
