use Rattle.std.proofs.Common.{◌≡◌, drop}
use Rattle.awk_grammar.specs.View.{items_of}
use Rattle.awk_pieces.specs.definitions.Pieceable.{is_own}
use Rattle.awk_merging.specs.definitions.Mergeable.{each_once, sums_in_items}
use Rattle.awk_merging.specs.support.SumsOf.{sums_of}
use Rattle.awk_merging.specs.support.WithSums.{with_sums}
use Rattle.awk_merging.proofs.sums.sums_of.Given as goal

abbrev pub invariant-loop-item : goal.invariant-loop-item
invariant-loop-item l =
    with_sums (sums_of l.sums.items) (sums_in_items (is_own l.names.items) (items_of (drop l.item-index l.tree.items.items)))
    ≡ each_once (sums_in_items (is_own l.names.items) (items_of l.tree.items.items))
