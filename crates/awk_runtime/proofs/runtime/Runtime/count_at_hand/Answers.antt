use Rattle.std.proofs.Common.{◌≡◌, refl, ap, pos, to_z, arith}
use Rattle.std.specs.Int.{w128}
use Rattle.std.proofs.lemmas.Int.{ints}
use Rattle.awk_value.specs.declared.value.Value.TheVariants.{Number}
use Rattle.awk_runtime.proofs.Words.{nf_read}
use Rattle.awk_runtime.proofs.runtime.Runtime.count_at_hand.Goals as goal

pub returns-in-Ok-clause-some : goal.returns-in-Ok-clause-some
returns-in-Ok-clause-some c =
    let number : to_z w128 c.in-Ok.count ≡ pos c.in-Ok.count = omega (arith, ints) in
    rw number (nf_read (record { beside = record { names = refl; current = c.in-Ok.ensures.same; specials = refl; globals = refl; arrays = refl; frames = refl; next = refl; input_seen = refl; inside = refl; status = refl; steps = refl }; streams = refl }) (ap (λ n. Number (pos n)) c.in-Ok.ensures.count))
