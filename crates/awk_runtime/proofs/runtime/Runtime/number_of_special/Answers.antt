use Rattle.std.proofs.Common.{◌≡◌, sym, ◌∙◌, to_z, of_z, arith}
use Rattle.std.specs.Int.{w128}
use Rattle.std.proofs.lemmas.Int.{ints}
use Rattle.awk_runtime.proofs.Steps.{still}
use Rattle.awk_runtime.proofs.VariableWords.{special_read}
use Rattle.awk_runtime.proofs.runtime.Runtime.number_of_special.Goals as goal

pub returns-in-Number : goal.returns-in-Number
returns-in-Number c =
    let number : to_z w128 (of_z w128 c.in-Number.n) ≡ c.in-Number.n = omega (arith, ints) in
    rw number (special_read c.args.special (still c.args.self.now) (sym c.in-Number.is ∙ c.special.ensures))
