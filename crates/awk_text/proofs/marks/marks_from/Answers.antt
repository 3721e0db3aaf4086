use Rattle.awk_text.proofs.MarkedPlaces.{marks_of_chunk}
use Rattle.awk_text.proofs.marks.marks_from.Goals as goal

pub returns-then-text-at-ge-MANY-clause-marks : goal.returns-then-text-at-ge-MANY-clause-marks
returns-then-text-at-ge-MANY-clause-marks g c =
    marks_of_chunk (g.S.Separates.separates c.args.separates.now) c.args.text.now c.args.at 64 c.among_many.result c.among_many.ensures
