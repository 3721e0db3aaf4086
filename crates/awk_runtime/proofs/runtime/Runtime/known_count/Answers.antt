use Rattle.std.proofs.Common.{◌≡◌, ap, pos, to_z, arith}
use Rattle.std.specs.Int.{w128}
use Rattle.std.proofs.lemmas.Int.{ints}
use Rattle.awk_value.specs.declared.value.Value.TheVariants.{Number}
use Rattle.awk_runtime.proofs.Steps.{still}
use Rattle.awk_runtime.proofs.Words.{nf_read}
use Rattle.awk_runtime.proofs.runtime.Runtime.known_count.Goals as goal

pub returns-in-Some : goal.returns-in-Some
returns-in-Some c =
    let number : to_z w128 c.in-Some.count ≡ pos c.in-Some.count = omega (arith, ints) in
    rw number (nf_read (still c.args.self.now) (ap (λ n. Number (pos n)) c.in-Some.ensures))
