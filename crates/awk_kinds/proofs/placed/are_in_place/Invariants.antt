use Rattle.std.proofs.Common.{◌≡◌, drop}
use Rattle.awk_grammar.specs.View.{items_of}
use Rattle.awk_kinds.specs.definitions.Placed.{are_in_place}
use Rattle.awk_kinds.proofs.placed.are_in_place.Given as goal

abbrev pub invariant-loop-item : goal.invariant-loop-item
invariant-loop-item l = are_in_place (items_of (drop l.item-index l.items)) ≡ are_in_place (items_of l.items)
