use Rattle.std.proofs.Common.{rules}
use Rattle.awk_syntax.proofs.nodes.post_increment.Goals as goal

pub returns : goal.returns
returns c = search rules
