use Rattle.std.proofs.Common.{◌||◌, eqb, refl, arith}
use Rattle.std.proofs.lemmas.Simd.{zip2_splat, zip2_of_maps}
use Rattle.awk_text.proofs.MarkedPlaces.{of_two, marks_of_lanes}
use Rattle.awk_text.proofs.marks.LineMarksSeparates.among_many.Goals as goal

pub returns : goal.returns
returns c =
    let v = c.args.bytes in
    let byte = c.args.self.now.0 in
    let long = c.fits-bytes.0 in
    marks_of_lanes (λ x. eqb x byte || eqb x 10) v 64 _ _ _ long (omega arith) refl
    (zip2_of_maps _ _ _ v (zip2_splat _ v 64 byte long) (zip2_splat _ v 64 10 long))
    (λ x. of_two (eqb x byte) (eqb x 10))
