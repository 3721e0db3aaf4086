use Rattle.std.proofs.Common.{◌≡◌, drop}
use Rattle.std.specs.List.{list_any}
use Rattle.awk_grammar.specs.View.{items_of}
use Rattle.awk_kinds.specs.support.Misuses.{refused_item}
use Rattle.awk_kinds.proofs.misuses.has_refused_parameter.Given as goal

abbrev pub invariant-loop-item : goal.invariant-loop-item
invariant-loop-item l = list_any (refused_item l.functions) (items_of (drop l.item-index l.items)) ≡ list_any (refused_item l.functions) (items_of l.items)
