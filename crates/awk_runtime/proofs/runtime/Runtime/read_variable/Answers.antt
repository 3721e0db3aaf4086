use Rattle.std.proofs.Common.{refl, ◌∙◌, arith}
use Rattle.std.proofs.lemmas.Result.{err_from_is_err_and}
use Rattle.awk_runtime.proofs.Composition.{memory_changes}
use Rattle.awk_runtime.proofs.Steps.{still}
use Rattle.awk_runtime.proofs.VariableWords.{special_read}
use Rattle.awk_runtime.proofs.runtime.Runtime.read_variable.Goals as goal

pub returns-in_err-clone-in-Special : goal.returns-in_err-clone-in-Special
returns-in_err-clone-in-Special c =
    let p = err_from_is_err_and c.from_residual.result c.from_residual.ensures.1 in
    rw (p.1, p.2) (memory_changes _ refl refl refl (omega arith))

pub returns-in_ok-clone-in-Special : goal.returns-in_ok-clone-in-Special
returns-in_ok-clone-in-Special c = rw c.in-Special.is (special_read c.in-Special.special (still c.args.self.now) (c.in_ok-clone-in-Special.ensures.cases ∙ c.special.ensures))
