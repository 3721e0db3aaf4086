use Rattle.std.proofs.Common.{◌≡◌, ℕ, suc, ◌-◌, length}
use Rattle.awk_ere.specs.support.Failures.{is_marked}
use Rattle.awk_ere.proofs.failures.Failures.make_rows.Given as goal

abbrev pub invariant-loop-self : goal.invariant-loop-self
invariant-loop-self l = record {
  same : (k n : ℕ) → is_marked l.self k n ≡ is_marked l.initial.self k n;
  spacing : l.self.spacing ≡ l.initial.self.spacing;
}

abbrev pub decreases-loop-self : goal.decreases-loop-self
decreases-loop-self l = suc l.number - length l.self.rows.items
