use Rattle.std.proofs.Common.{rules}
use Rattle.awk_syntax.proofs.prints.pipe_list.Goals as goal

pub returns : goal.returns
returns c = search rules
