use Rattle.std.proofs.Common.{◌≡◌, [], map, take}
use Rattle.awk_kinds.specs.definitions.Kinds.{globals_among}
use Rattle.awk_kinds.specs.support.Tables.{globals}
use Rattle.awk_kinds.proofs.kinds.special_names.Given as goal

abbrev pub invariant-loop-row : goal.invariant-loop-row
invariant-loop-row l = l.names ≡ globals_among [] (globals (map (λ row. row.0.now) (take l.row-index l.rows)))
