use Rattle.awk_value.specs.Values.{str_of}
use Rattle.awk_runtime.specs.support.Keys.{key_value}
use Rattle.awk_runtime.proofs.ArrayWords.{element_there}
use Rattle.awk_runtime.proofs.runtime.Runtime.element_in.Goals as goal

pub returns-in-Some : goal.returns-in-Some
returns-in-Some c = element_there c.args.self.now c.args.array (str_of (key_value c.args.self.now.current.text c.args.key)) c.number_at-number.result c.number_at-number.ensures (rw (c.in_ok-key.ensures) at (c.in-Some.ensures {u = tt}))
