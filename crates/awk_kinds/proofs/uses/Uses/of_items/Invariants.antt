use Rattle.std.proofs.Common.{◌≡◌, ◌++◌, drop}
use Rattle.awk_grammar.specs.View.{items_of}
use Rattle.awk_kinds.specs.definitions.Kinds.{uses_in}
use Rattle.awk_kinds.specs.definitions.NameUses.{names_in}
use Rattle.awk_kinds.proofs.uses.Uses.of_items.Given as goal

abbrev pub invariant-loop-item : goal.invariant-loop-item
invariant-loop-item l = record {
  arrays : l.uses.arrays.items ++ uses_in (items_of (drop l.item-index l.items)) ≡ uses_in (items_of l.items);
  names : l.uses.names.items ++ names_in (items_of (drop l.item-index l.items)) ≡ names_in (items_of l.items);
}
