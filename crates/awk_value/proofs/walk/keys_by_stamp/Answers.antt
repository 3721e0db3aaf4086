use Rattle.std.proofs.Common.{subst}
use Rattle.std.specs.List.Sorted.{IsPermutation}
use Rattle.awk_value.proofs.Rows.{joined-3}
use Rattle.awk_value.proofs.walk.keys_by_stamp.Goals as goal

pub returns-clause-keys : goal.returns-clause-keys
returns-clause-keys c =
    let rows = joined-3 _ _ _ _ _ _ _ c.in_ok-list_longs.ensures c.in_ok-list_shorts.ensures c.in_ok-list_numbers.ensures c.in_ok-rows.ensures in
    record {
      sorted = c.sort.new.self;
      moved = subst (λ l. IsPermutation l c.sort.new.self) rows c.sort.ensures.moved;
      ordered = c.in_ok-sort.ensures.ordered;
      are = c.in_ok-into_texts.ensures;
    }
