use Rattle.std.proofs.Common.{refl}
use Rattle.awk_kinds.proofs.Graphs.{first_numbered}
use Rattle.awk_kinds.proofs.graph.Graph.add_first.Goals as goal

pub returns : goal.returns
returns c = first_numbered c.in_ok-number.ensures refl c.in_ok-push.ensures.items refl
