use Rattle.awk_text.specs.support.MarksLeft.{is_turn}
use Rattle.awk_text.proofs.TurnMarks.{turns_at_first}
use Rattle.awk_text.proofs.marks.Turns.behind.Goals as goal

pub returns : goal.returns
returns c = λ s le. turns_at_first s c.args.place c.behind.result le c.behind.ensures.end (c.behind.ensures.left (is_turn s c.args.place))
