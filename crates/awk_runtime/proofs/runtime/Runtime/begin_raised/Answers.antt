use Rattle.std.proofs.Common.{◌≡◌, ◌∙◌, ap, to_z, of_z, arith}
use Rattle.std.specs.Int.{w128}
use Rattle.std.proofs.lemmas.Int.{ints}
use Rattle.awk_value.specs.Values.{str_of}
use Rattle.awk_value.specs.Arrays.{value_at}
use Rattle.awk_storage.specs.support.Tables.{array_of}
use Rattle.awk_runtime.specs.support.Keys.{key_value}
use Rattle.awk_runtime.proofs.ElementWords.{raise_begun, put_of}
use Rattle.awk_runtime.proofs.runtime.Runtime.begin_raised.Goals as goal

pub returns-clause-raises : goal.returns-clause-raises
returns-clause-raises c = λ ok.
    let new : to_z w128 (of_z w128 c.in-Some.new) ≡ c.in-Some.new = omega (arith, ints) in
    let found = c.in-Some.ensures {u = tt} in
    let absent = ap (λ n. value_at (array_of c.args.self.now.arrays n) (str_of (key_value c.args.self.now.current.text c.args.key))) c.number_at-number.ensures ∙ c.requires.absent in
    raise_begun c.args.self.now c.args.array (key_value c.args.self.now.current.text c.args.key) c.number_at-number.result c.number_at-number.ensures absent (put_of c.put.result c.is_ok.ensures.value ok (rw (new, c.in-Some-subscript_of.ensures {u = tt}) at c.put.ensures.put)) c.args.operator found
