use Rattle.std.proofs.Common.{◌≡◌, List, ◌++◌, drop}
use Rattle.awk_grammar.specs.Tree.{Item}
use Rattle.awk_grammar.specs.View.{items_of}
use Rattle.awk_merging.specs.support.Kept.{kept_of}
use Rattle.awk_merging.proofs.derived.behind_kept.Given as goal

abbrev pub invariant-loop-item : goal.invariant-loop-item
invariant-loop-item l = (ys : List Item) → items_of l.rest ≡ kept_of l.kept (items_of (drop l.item-index l.items)) ++ ys
    → items_of l.derived ≡ kept_of l.kept (items_of l.items) ++ ys
