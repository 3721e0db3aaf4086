use Rattle.std.proofs.Common.{◌≡◌, Some, refl, sym, ap, ◌∙◌, to_z, of_z, arith}
use Rattle.std.specs.Int.{w128}
use Rattle.std.proofs.lemmas.Int.{ints}
use Rattle.awk_runtime.proofs.PlaceWords.{local_numbered}
use Rattle.awk_runtime.proofs.runtime.Runtime.put_in_parameter.Goals as goal

pub returns-clause-puts : goal.returns-clause-puts
returns-clause-puts c =
    let number : to_z w128 (of_z w128 c.args.n) ≡ c.args.n = omega (arith, ints) in
    λ _. local_numbered c.args.index c.args.n (sym c.in-Some-Value.ensures ∙ ap Some c.in-Some-Value.field-0-is) (rw number at c.set_value.ensures)
    (record { names = refl; current = refl; specials = refl; globals = refl; arrays = refl; streams = refl; next = refl; input_seen = refl; inside = refl; status = refl; steps = refl })
