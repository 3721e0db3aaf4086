use Rattle.std.proofs.Common.{ℕ, ◌≤◌, ◌-◌, length}
use Rattle.awk_text.specs.support.MarksLeft.{AreTurnsLeft}
use Rattle.awk_text.proofs.marks.Turns.next.Given as goal

abbrev pub invariant-loop-self : goal.invariant-loop-self
invariant-loop-self l = record {
  within : l.self.marks.end ≤ length l.text;
  left : (first from : ℕ) → AreTurnsLeft l.text first from l.initial.self → AreTurnsLeft l.text first from l.self;
}

abbrev pub decreases-loop-self : goal.decreases-loop-self
decreases-loop-self l = length l.text - l.self.marks.end
