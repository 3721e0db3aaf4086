use Rattle.std.proofs.Common.{◌≡◌, drop}
use Rattle.awk_grammar.specs.View.{statements_of}
use Rattle.awk_kinds.specs.Names.{IsFront}
use Rattle.awk_pieces.specs.support.Known.{own_of, set_of}
use Rattle.awk_merging.specs.definitions.Mergeable.{all_only_print}
use Rattle.awk_merging.specs.support.Others.{shown_in}
use Rattle.awk_merging.specs.support.SumsOf.{sums_of}
use Rattle.awk_merging.proofs.end_actions.+statements.Given as goal

abbrev pub invariant-all_only_print-loop-s : goal.invariant-all_only_print-loop-s
invariant-all_only_print-loop-s l =
    (own_of l.known ≡ own_of l.fn.known) × IsFront (set_of l.fn.known) (set_of l.known)
    × (all_only_print (own_of l.known) (sums_of l.sums) (shown_in l.known) (statements_of (drop l.s-index l.all))
    ≡ all_only_print (own_of l.fn.known) (sums_of l.sums) (shown_in l.fn.known) (statements_of l.all))
