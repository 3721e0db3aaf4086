use Rattle.awk_kinds.proofs.Graphs.{follows_name}
use Rattle.awk_kinds.proofs.graph.Graph.of_rows.Goals as goal

pub loop-row-preserved : goal.loop-row-preserved
loop-row-preserved c = follows_name c.args.functions.now c.args.rows.now c.loop-row.row-index _ c.in_ok-from_slice.field-0 c.loop-row-test.true c.in_ok-from_slice.ensures c.loop-row.invariant c.in_ok-add_first.ensures
