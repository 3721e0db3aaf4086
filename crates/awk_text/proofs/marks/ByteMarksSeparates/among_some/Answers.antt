use Rattle.std.proofs.Common.{eqb, refl, arith}
use Rattle.std.proofs.lemmas.Simd.{zip2_splat}
use Rattle.awk_text.proofs.MarkedPlaces.{of_one, marks_of_lanes}
use Rattle.awk_text.proofs.marks.ByteMarksSeparates.among_some.Goals as goal

pub returns : goal.returns
returns c =
    let v = c.args.bytes in
    let byte = c.args.self.now.0 in
    let long = c.fits-bytes.0 in
    marks_of_lanes (λ x. eqb x byte) v 16 _ _ _ long (omega arith) refl (zip2_splat _ v 16 byte long) (λ x. of_one (eqb x byte))
