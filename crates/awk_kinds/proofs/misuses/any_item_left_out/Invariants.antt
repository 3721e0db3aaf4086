use Rattle.std.proofs.Common.{◌≡◌, drop}
use Rattle.std.specs.List.{list_any}
use Rattle.awk_grammar.specs.View.{items_of}
use Rattle.awk_kinds.specs.definitions.Fits.{item_names_left_out}
use Rattle.awk_kinds.proofs.misuses.any_item_left_out.Given as goal

abbrev pub invariant-loop-item : goal.invariant-loop-item
invariant-loop-item l = list_any item_names_left_out (items_of (drop l.item-index l.items)) ≡ list_any item_names_left_out (items_of l.items)
