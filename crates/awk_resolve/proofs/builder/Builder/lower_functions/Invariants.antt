use Rattle.std.proofs.Common.{take}
use Rattle.awk_grammar.specs.View.{items_of}
use Rattle.awk_kinds.specs.definitions.Kinds.{arrays_of, definitions_by}
use Rattle.awk_resolve.specs.support.Holding.{AddsFunctions}
use Rattle.awk_resolve.proofs.builder.Builder.lower_functions.Given as goal

abbrev pub invariant-loop-item : goal.invariant-loop-item
invariant-loop-item l = AddsFunctions l.kinds l.fn.self l.self l.made.items (definitions_by (arrays_of (items_of l.items)) (items_of (take l.item-index l.items)))
