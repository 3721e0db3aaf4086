use Rattle.std.proofs.Common.{◌≡◌, refl, sym, ap, to_z, of_z, arith}
use Rattle.std.specs.Int.{w128}
use Rattle.std.proofs.lemmas.Int.{ints}
use Rattle.awk_semantics.specs.Faults.{of_record}
use Rattle.awk_runtime.proofs.Words.{field_changes}
use Rattle.awk_runtime.proofs.runtime.Runtime.any_field.Goals as goal

pub returns-in-Ok-clause-some : goal.returns-in-Ok-clause-some
returns-in-Ok-clause-some c =
    let number : to_z w128 (of_z w128 c.args.number) ≡ c.args.number = omega (arith, ints) in
    field_changes _ (record { beside = record { names = refl; current = c.in-Ok.ensures.same; specials = refl; globals = refl; arrays = refl; frames = refl; next = refl; input_seen = refl; inside = refl; status = refl; steps = refl }; streams = refl }) (sym (ap of_record ((rw number at c.in-Ok.ensures.field) (λ e. (cc)))))
