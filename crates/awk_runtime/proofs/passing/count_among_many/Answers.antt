use Rattle.std.proofs.Common.{eqb, refl, arith}
use Rattle.std.proofs.lemmas.Simd.{zip2_splat}
use Rattle.awk_runtime.proofs.PassedLines.{one_of, counted_lanes}
use Rattle.awk_runtime.proofs.passing.count_among_many.Goals as goal

pub returns : goal.returns
returns c =
    let v = c.args.bytes in
    let byte = c.args.byte in
    let long = c.fits-bytes.0 in
    counted_lanes byte 64 v _ _ _ long (omega arith) refl (zip2_splat _ v 64 byte long) (λ x. one_of (eqb x byte))
