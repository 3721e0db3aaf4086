use Rattle.std.proofs.Common.{add-one}
use Rattle.awk_runtime.proofs.Seeks.{slice_rest}
use Rattle.awk_runtime.proofs.runtime.Runtime.assign_operand.Goals as goal

pub returns : goal.returns
returns c = rw (add-one, slice_rest _ c.args.word.now) at c.assign_text.ensures
