use Rattle.awk_runtime.specs.support.Keys.{key_value}
use Rattle.awk_runtime.proofs.ElementWords.{element_assigned, put_of}
use Rattle.awk_runtime.proofs.runtime.Runtime.put_value_in.Goals as goal

pub returns-clause-changes : goal.returns-clause-changes
returns-clause-changes c = λ ok.
    element_assigned c.args.self.now c.args.array (key_value c.args.self.now.current.text c.args.key) c.number_at-number.result c.number_at-number.ensures c.args.value (rw (c.in-Some.ensures {u = tt}, c.in-Ok.ensures) at (put_of c.put.result c.is_ok.ensures.value ok c.put.ensures.put))
