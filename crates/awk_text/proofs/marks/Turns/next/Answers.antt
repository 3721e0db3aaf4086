use Rattle.std.proofs.Common.{length, arith}
use Rattle.awk_text.specs.support.MarksLeft.{AreTurnsLeft, is_turn}
use Rattle.awk_text.proofs.MarksLeft.{end_of_left, left_at_end, next_within}
use Rattle.awk_text.proofs.TurnMarks.{turns_further, turns_behind}
use Rattle.awk_text.proofs.marks.Turns.next.Goals as goal

pub returns-then-at-text-clause-next : goal.returns-then-at-text-clause-next
returns-then-at-text-clause-next c = λ first from are.
    end_of_left (is_turn c.args.text.now first) from (length c.args.text.now) c.loop-self.self.marks (c.loop-self.invariant.left first from are).marks (omega arith) (omega arith)

pub returns-then-at-text-clause-end : goal.returns-then-at-text-clause-end
returns-then-at-text-clause-end c = λ first from are is.
    let now : AreTurnsLeft c.args.text.now first from c.loop-self.self = c.loop-self.invariant.left first from are in
    record {
      high = omega (arith, now.high, now.marks.high);
      within = now.within;
      before = now.before;
      marks = left_at_end (is_turn c.args.text.now first) from (length c.args.text.now) c.loop-self.self.marks now.marks (omega arith) (omega arith);
    }

pub loop-self-preserved : goal.loop-self-preserved
loop-self-preserved c = record {
  within = c.marks_from-blanks.ensures.within;
  left = λ first from are.
      turns_further c.args.text.now first from c.marks_from-blanks.result.1 c.marks_from-blanks.result.0 c.loop-self.self (c.loop-self.invariant.left first from are) (omega arith) c.marks_from-blanks.ensures.some c.marks_from-blanks.ensures.few c.marks_from-blanks.ensures.within c.marks_from-blanks.ensures.marks;
}

pub returns-clause-next : goal.returns-clause-next
returns-clause-next c = λ first from are.
    let now : AreTurnsLeft c.args.text.now first from c.loop-self.self = c.loop-self.invariant.left first from are in
    next_within (is_turn c.args.text.now first) c.loop-self.self.marks.end (length c.args.text.now) from c.take.result
    (c.take.ensures.next (is_turn c.args.text.now first) from now.marks) c.take.ensures.within now.within

pub returns-clause-left : goal.returns-clause-left
returns-clause-left c = λ first from are lt.
    let turn = is_turn c.args.text.now first in
    let now : AreTurnsLeft c.args.text.now first from c.loop-self.self = c.loop-self.invariant.left first from are in
    turns_behind c.args.text.now first from c.take.result c.loop-self.self c.take.new.self now (c.take.ensures.next turn from now.marks).high c.take.ensures.end (c.take.ensures.left turn from now.marks)
