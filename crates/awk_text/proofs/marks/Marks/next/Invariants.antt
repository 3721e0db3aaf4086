use Rattle.std.proofs.Common.{ℕ, ◌≤◌, ◌-◌, length}
use Rattle.awk_text.specs.support.Stretch.{is_kind_at}
use Rattle.awk_text.specs.support.MarksLeft.{AreLeft}
use Rattle.awk_text.proofs.marks.Marks.next.Given as goal

abbrev pub invariant-loop-self : goal.invariant-loop-self
invariant-loop-self g l = record {
  within : l.self.end ≤ length l.text;
  left : (from : ℕ) → AreLeft (is_kind_at (g.S.Separates.separates l.separates) l.text) from l.initial.self → AreLeft (is_kind_at (g.S.Separates.separates l.separates) l.text) from l.self;
}

abbrev pub decreases-loop-self : goal.decreases-loop-self
decreases-loop-self g l = length l.text - l.self.end
