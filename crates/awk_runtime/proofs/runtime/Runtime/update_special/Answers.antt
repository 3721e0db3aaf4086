use Rattle.std.proofs.Common.{◌≡◌, refl, sym, ◌∙◌, to_z, of_z, arith}
use Rattle.std.specs.Int.{w128}
use Rattle.std.proofs.lemmas.Int.{ints}
use Rattle.awk_runtime.proofs.PlaceWords.{special_updated}
use Rattle.awk_runtime.proofs.runtime.Runtime.update_special.Goals as goal

pub returns-clause-updated : goal.returns-clause-updated
returns-clause-updated c =
    let old : to_z w128 (of_z w128 c.in-Number.before) ≡ c.in-Number.before = omega (arith, ints) in
    let new : to_z w128 (of_z w128 c.in_ok-after.after) ≡ c.in_ok-after.after = omega (arith, ints) in
    let other : to_z w128 (of_z w128 c.args.n) ≡ c.args.n = omega (arith, ints) in
    rw (old, new) (special_updated c.args.operator c.args.special c.args.n c.in-Number.before c.in_ok-after.after (sym c.in-Number.is ∙ c.special.ensures) (rw (old, other) at (c.in_ok-after.ensures {u = tt})) (rw new at c.in-Ok.ensures.accepted) c.law_of_slots.ensures.own (rw new at c.in-Ok.ensures.set) refl
    (record { names = refl; current = refl; arrays = refl; frames = refl; streams = refl; next = refl; input_seen = refl; inside = refl; status = refl; steps = refl }))
