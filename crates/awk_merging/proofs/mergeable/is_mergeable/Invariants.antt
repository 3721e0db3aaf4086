use Rattle.std.proofs.Common.{◌≡◌, [], drop}
use Rattle.awk_grammar.specs.View.{items_of}
use Rattle.awk_pieces.specs.support.Known.{own_of, set_of}
use Rattle.awk_merging.specs.definitions.Mergeable.{own_in, are_mergeable}
use Rattle.awk_merging.specs.support.SumsOf.{sums_of}
use Rattle.awk_merging.proofs.mergeable.is_mergeable.Given as goal

abbrev pub invariant-loop-item : goal.invariant-loop-item
invariant-loop-item l =
    (own_of l.known ≡ own_in (items_of l.tree.items.items)) × (set_of l.known ≡ [])
    × (are_mergeable (own_of l.known) (sums_of l.sums) (items_of (drop l.item-index l.tree.items.items))
    ≡ are_mergeable (own_of l.known) (sums_of l.sums) (items_of l.tree.items.items))
