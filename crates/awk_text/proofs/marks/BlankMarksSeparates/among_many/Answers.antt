use Rattle.std.proofs.Common.{eqb, refl, arith}
use Rattle.std.proofs.lemmas.Simd.{zip2_splat, zip2_of_maps}
use Rattle.awk_text.specs.definitions.Pieces.{is_blank_or_newline}
use Rattle.awk_text.proofs.MarkedPlaces.{of_three, marks_of_lanes}
use Rattle.awk_text.proofs.marks.BlankMarksSeparates.among_many.Goals as goal

pub returns : goal.returns
returns c =
    let v = c.args.bytes in
    let long = c.fits-bytes.0 in
    marks_of_lanes is_blank_or_newline v 64 _ _ _ long (omega arith) refl
    (zip2_of_maps _ _ _ v (zip2_of_maps _ _ _ v (zip2_splat _ v 64 32 long) (zip2_splat _ v 64 9 long)) (zip2_splat _ v 64 10 long))
    (λ x. of_three (eqb x 32) (eqb x 9) (eqb x 10))
