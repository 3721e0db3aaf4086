use Rattle.awk_runtime.proofs.ArrayWords.{array_cleared}
use Rattle.awk_runtime.proofs.runtime.Runtime.clear_at.Goals as goal

pub returns : goal.returns
returns c = array_cleared c.args.self.now c.args.array c.number_at-number.result c.number_at-number.ensures c.clear.ensures
