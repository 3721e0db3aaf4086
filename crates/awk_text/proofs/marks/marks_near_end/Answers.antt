use Rattle.std.proofs.Common.{◌-◌, length, arith}
use Rattle.awk_text.specs.support.Stretch.{is_kind_at}
use Rattle.awk_text.proofs.MarkedPlaces.{marks_of_chunk, marks_behind, marks_to_end}
use Rattle.awk_text.proofs.marks.marks_near_end.Goals as goal

pub returns-then-text-ge-MANY-clause-marks : goal.returns-then-text-ge-MANY-clause-marks
returns-then-text-ge-MANY-clause-marks g c =
    let text = c.args.text.now in
    marks_to_end (g.S.Separates.separates c.args.separates.now) text 64 c.among_many-bits.result c.args.at (length text - c.args.at) (omega arith) (omega arith) (omega arith) c.among_many-bits.ensures

pub returns-then-left-ge-SOME-clause-marks : goal.returns-then-left-ge-SOME-clause-marks
returns-then-left-ge-SOME-clause-marks g c =
    marks_of_chunk (g.S.Separates.separates c.args.separates.now) c.args.text.now c.args.at 16 c.among_some.result c.among_some.ensures

pub returns-then-text-ge-SOME-clause-marks : goal.returns-then-text-ge-SOME-clause-marks
returns-then-text-ge-SOME-clause-marks g c =
    let text = c.args.text.now in
    marks_to_end (g.S.Separates.separates c.args.separates.now) text 16 c.among_some-bits.result c.args.at (length text - c.args.at) (omega arith) (omega arith) (omega arith) c.among_some-bits.ensures

pub returns-clause-marks : goal.returns-clause-marks
returns-clause-marks g c =
    let text = c.args.text.now in
    marks_behind (is_kind_at (g.S.Separates.separates c.args.separates.now) text) 0 (length text) c.marks_in_few.result c.args.at c.args.at (omega arith) (omega arith) c.marks_in_few.ensures
