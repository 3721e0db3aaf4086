use Rattle.std.proofs.Common.{◌≡◌, ap, to_z, of_z, arith, sym, ◌∙◌}
use Rattle.std.specs.Int.{w128}
use Rattle.std.proofs.lemmas.Int.{ints}
use Rattle.awk_runtime.proofs.ElementWords.{put_of}
use Rattle.awk_runtime.proofs.runtime.Runtime.put_number_in_field.Goals as goal

pub put_in_field-requires : goal.put_in_field-requires
put_in_field-requires c = λ e.
    let number : to_z w128 (of_z w128 c.args.number) ≡ c.args.number = omega (arith, ints) in
    c.if-number-eq0.false (ap (of_z w128) (sym number ∙ e))

pub returns-clause-put : goal.returns-clause-put
returns-clause-put c = λ ok.
    let number : to_z w128 (of_z w128 c.args.number) ≡ c.args.number = omega (arith, ints) in
    let made : to_z w128 (of_z w128 c.args.n) ≡ c.args.n = omega (arith, ints) in
    put_of c.put_in_field.result c.is_ok.ensures.value ok (rw (number, made) at c.put_in_field.ensures.put)
