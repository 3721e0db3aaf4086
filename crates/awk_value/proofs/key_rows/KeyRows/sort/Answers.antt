use Rattle.std.proofs.Common.{map, subst}
use Rattle.std.specs.List.Sorted.{IsPermutation}
use Rattle.std.proofs.lemmas.List.Sorted.{All-permutation, IsPermutation-map}
use Rattle.awk_value.specs.support.Rows.{row_in, IsRowIn}
use Rattle.awk_value.proofs.KeyBlocks.{in_order}
use Rattle.awk_value.proofs.Rows.{on_ok_map}
use Rattle.awk_value.proofs.key_rows.KeyRows.sort.Goals as goal

pub invariant_of-self : goal.invariant_of-self
invariant_of-self c =
    let b = c.self.inside in
    All-permutation (IsRowIn b.block.items) b.rows.items c.sort_by_stamp.new.rows.items c.sort_by_stamp.ensures.moved c.self.invariant

pub returns-clause-moved : goal.returns-clause-moved
returns-clause-moved c =
    let b = c.self.inside in
    subst (λ l. IsPermutation l (map (row_in b.block.items) c.sort_by_stamp.new.rows.items)) c.self.view_is
    (IsPermutation-map (row_in b.block.items) b.rows.items c.sort_by_stamp.new.rows.items c.sort_by_stamp.ensures.moved)

pub returns-clause-ordered : goal.returns-clause-ordered
returns-clause-ordered c =
    let b = c.self.inside in
    on_ok_map c.sort_by_stamp.result _ _ c.sort_by_stamp.ensures.ordered (in_order b.block.items c.sort_by_stamp.new.rows.items)
