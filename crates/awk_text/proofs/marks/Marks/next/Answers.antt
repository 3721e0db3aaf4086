use Rattle.std.proofs.Common.{length, arith}
use Rattle.awk_text.specs.support.Stretch.{is_kind_at}
use Rattle.awk_text.proofs.MarksLeft.{end_of_left, left_further}
use Rattle.awk_text.proofs.marks.Marks.next.Goals as goal

pub returns-then-self-text-clause-next : goal.returns-then-self-text-clause-next
returns-then-self-text-clause-next g c = λ from are.
    end_of_left (is_kind_at (g.S.Separates.separates c.args.separates.now) c.args.text.now) from (length c.args.text.now) c.loop-self.self (c.loop-self.invariant.left from are) (omega arith) (omega arith)

pub loop-self-preserved : goal.loop-self-preserved
loop-self-preserved g c = record {
  within = c.marks_from-bits.ensures.within;
  left = λ from are.
      left_further (is_kind_at (g.S.Separates.separates c.args.separates.now) c.args.text.now) from c.loop-self.self c.marks_from-bits.result.1 c.marks_from-bits.result.0 (c.loop-self.invariant.left from are) (omega arith) c.marks_from-bits.ensures.marks;
}
