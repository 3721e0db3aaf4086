use Rattle.std.proofs.Common.{◌≡◌, map}
use Rattle.awk_value.specs.support.Rows.{row_in}
use Rattle.awk_value.proofs.key_rows.texts_in.Given as goal

abbrev pub invariant-loop-row : goal.invariant-loop-row
invariant-loop-row l = l.texts.items ≡ map (λ row. (row_in l.fn.block row).1) l.yielded
