use Rattle.std.proofs.Common.{◌≡◌, drop}
use Rattle.std.specs.List.{list_any}
use Rattle.awk_kinds.specs.support.Mixed.{is_marked_global}
use Rattle.awk_kinds.proofs.mixed.any_global_array.Given as goal

abbrev pub invariant-loop-row : goal.invariant-loop-row
invariant-loop-row l = list_any (λ row. is_marked_global l.arrays row.0.now) (drop l.row-index l.rows) ≡ list_any (λ row. is_marked_global l.arrays row.0.now) l.rows
