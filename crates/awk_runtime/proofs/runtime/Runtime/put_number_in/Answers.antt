use Rattle.std.proofs.Common.{◌≡◌, to_z, of_z, arith}
use Rattle.std.specs.Int.{w128}
use Rattle.std.proofs.lemmas.Int.{ints}
use Rattle.awk_runtime.specs.support.Keys.{key_value}
use Rattle.awk_runtime.proofs.ElementWords.{element_assigned, put_of}
use Rattle.awk_value.specs.declared.value.Value.TheVariants.{Number}
use Rattle.awk_runtime.proofs.runtime.Runtime.put_number_in.Goals as goal

pub returns-clause-changes : goal.returns-clause-changes
returns-clause-changes c = λ ok.
    let number : to_z w128 (of_z w128 c.args.n) ≡ c.args.n = omega (arith, ints) in
    element_assigned c.args.self.now c.args.array (key_value c.args.self.now.current.text c.args.key) c.number_at-number.result c.number_at-number.ensures (Number c.args.n) (rw (number, c.in-Some.ensures {u = tt}) at (put_of c.put.result c.is_ok.ensures.value ok c.put.ensures.put))
