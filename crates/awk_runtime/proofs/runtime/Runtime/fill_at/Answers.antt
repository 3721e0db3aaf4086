use Rattle.std.proofs.Common.{refl, arith}
use Rattle.std.proofs.lemmas.Result.{err_from_is_err_and}
use Rattle.awk_text.specs.Pieces.{stretches_at}
use Rattle.awk_runtime.proofs.Composition.{memory_changes}
use Rattle.awk_runtime.proofs.ArrayWords.{array_filled}
use Rattle.awk_runtime.proofs.runtime.Runtime.fill_at.Goals as goal

pub returns-in_err-fill_stretches : goal.returns-in_err-fill_stretches
returns-in_err-fill_stretches c =
    let p = err_from_is_err_and c.from_residual.result c.from_residual.ensures.1 in
    rw (p.1, p.2, c.in_err-fill_stretches.ensures.fault) (memory_changes _ refl refl refl (omega arith))

pub returns : goal.returns
returns c = array_filled c.args.self.now c.args.array c.number_at-number.result c.number_at-number.ensures (stretches_at c.args.text.now c.args.self.now.spans.items) (rw c.as_slice.ensures.value at c.in_ok-fill_stretches.ensures.filled)
