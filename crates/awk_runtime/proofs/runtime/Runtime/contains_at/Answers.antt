use Rattle.awk_value.specs.Values.{str_of}
use Rattle.awk_runtime.proofs.ArrayWords.{element_found}
use Rattle.awk_runtime.proofs.runtime.Runtime.contains_at.Goals as goal

pub returns : goal.returns
returns c = element_found c.args.self.now c.args.array (str_of c.args.key.now) c.number_at-number.result c.number_at-number.ensures (rw c.of.ensures at c.has.ensures)
