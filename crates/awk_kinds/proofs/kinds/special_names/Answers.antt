use Rattle.awk_kinds.proofs.KindsMade.{row_added}
use Rattle.awk_kinds.proofs.kinds.special_names.Goals as goal

pub loop-row-preserved : goal.loop-row-preserved
loop-row-preserved c = row_added c.args.rows.now c.loop-row.row-index _ c.loop-row.names c.add.new.self c.loop-row-test.true c.in_ok-add.ensures.names c.loop-row.invariant
