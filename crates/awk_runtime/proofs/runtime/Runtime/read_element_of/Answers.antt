use Rattle.std.proofs.Common.{refl, arith}
use Rattle.std.proofs.lemmas.Result.{err_from_is_err_and}
use Rattle.awk_value.specs.Values.{str_of}
use Rattle.awk_runtime.proofs.Composition.{memory_changes}
use Rattle.awk_runtime.proofs.ArrayWords.{element_read}
use Rattle.awk_runtime.proofs.runtime.Runtime.read_element_of.Goals as goal

pub returns-in_err-value : goal.returns-in_err-value
returns-in_err-value c =
    let p = err_from_is_err_and c.from_residual.result c.from_residual.ensures.1 in
    rw (p.1, p.2, c.in_err-value.ensures.fault) (memory_changes _ refl refl refl (omega arith))

pub returns : goal.returns
returns c = element_read c.args.self.now c.args.array (str_of c.args.key.now) c.number_at-number.result c.number_at-number.ensures (rw c.of.ensures at c.in_ok-value.ensures.value) (rw c.of.ensures at c.in_ok-value.ensures.made)
