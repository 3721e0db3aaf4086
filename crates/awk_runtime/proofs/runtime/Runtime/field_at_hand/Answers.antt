use Rattle.std.proofs.Common.{◌≡◌, Some, refl, to_z, of_z, arith}
use Rattle.std.specs.Int.{w128}
use Rattle.std.proofs.lemmas.Int.{ints}
use Rattle.awk_value.specs.declared.value.Value.TheVariants.{Input}
use Rattle.awk_runtime.proofs.Words.{field_cut}
use Rattle.awk_runtime.proofs.runtime.Runtime.field_at_hand.Goals as goal

pub returns-in-Some-clause-some : goal.returns-in-Some-clause-some
returns-in-Some-clause-some c =
    let number : to_z w128 (of_z w128 c.args.number) ≡ c.args.number = omega (arith, ints) in
    rw c.cut_field.ensures.same (field_cut c.args.number c.args.self.now (Input c.in-Some.text) (Some (Input c.in-Some.text)) (rw number at c.in-Some.ensures.field) refl)

pub returns-clause-some : goal.returns-clause-some
returns-clause-some c =
    let number : to_z w128 (of_z w128 c.args.number) ≡ c.args.number = omega (arith, ints) in
    rw (number, c.cut_field.ensures.same) at c.any_field.ensures.some
