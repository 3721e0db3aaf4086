use Rattle.std.proofs.Common.{refl}
use Rattle.awk_kinds.proofs.Graphs.{edge_numbered}
use Rattle.awk_kinds.proofs.graph.Graph.add_edge.Goals as goal

pub returns : goal.returns
returns c = edge_numbered c.in_ok-front.ensures c.in_ok-end.ensures refl refl c.in_ok-push.ensures.items
