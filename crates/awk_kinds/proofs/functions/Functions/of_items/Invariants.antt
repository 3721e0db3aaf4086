use Rattle.std.proofs.Common.{take}
use Rattle.awk_grammar.specs.View.{items_of}
use Rattle.awk_kinds.specs.support.Functions.{HoldsFunctions}
use Rattle.awk_kinds.proofs.functions.Functions.of_items.Given as goal

abbrev pub invariant-loop-item : goal.invariant-loop-item
invariant-loop-item l = HoldsFunctions (items_of (take l.item-index l.items)) l.functions
