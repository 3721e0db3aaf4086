use Rattle.std.proofs.Common.{◌≡◌, Some, refl, sym, ap, ◌∙◌, to_z, of_z, arith}
use Rattle.std.specs.Int.{w128}
use Rattle.std.proofs.lemmas.Int.{ints}
use Rattle.awk_semantics.specs.declared.local.Local.TheVariants as local
use Rattle.awk_runtime.proofs.PlaceWords.{local_updated}
use Rattle.awk_runtime.proofs.runtime.Runtime.update_local.Goals as goal

pub returns-clause-updated : goal.returns-clause-updated
returns-clause-updated c =
    let old : to_z w128 (of_z w128 c.in-Some-Value-Number.before) ≡ c.in-Some-Value-Number.before = omega (arith, ints) in
    let new : to_z w128 (of_z w128 c.in_ok-after.after) ≡ c.in_ok-after.after = omega (arith, ints) in
    let other : to_z w128 (of_z w128 c.args.n) ≡ c.args.n = omega (arith, ints) in
    rw (old, new) (local_updated c.args.operator c.args.index c.args.n c.in-Some-Value-Number.before c.in_ok-after.after (sym c.in-Some-Value-Number.ensures ∙ ap Some (c.in-Some-Value-Number.field-0-is ∙ ap local.Value c.in-Some-Value-Number.field-0-0-is)) (rw (old, other) at (c.in_ok-after.ensures {u = tt})) (rw new at c.set_value.ensures)
    (record { names = refl; current = refl; specials = refl; globals = refl; arrays = refl; streams = refl; next = refl; input_seen = refl; inside = refl; status = refl; steps = refl }))
