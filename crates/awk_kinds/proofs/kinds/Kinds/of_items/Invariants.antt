use Rattle.std.proofs.Common.{◌≡◌, take}
use Rattle.awk_grammar.specs.View.{items_of}
use Rattle.awk_kinds.specs.support.Functions.{names_defined}
use Rattle.awk_kinds.specs.support.Marked.{marked_parameters}
use Rattle.awk_kinds.proofs.kinds.Kinds.of_items.Given as goal

abbrev pub invariant-loop-item : goal.invariant-loop-item
invariant-loop-item l = record {
  functions : l.functions ≡ names_defined (items_of (take l.item-index l.items));
  parameters : l.parameters.items ≡ marked_parameters l.arrays (items_of (take l.item-index l.items));
}
