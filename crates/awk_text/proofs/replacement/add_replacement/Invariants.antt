use Rattle.std.proofs.Common.{◌≡◌, ◌++◌, ◌-◌, length, drop}
use Rattle.awk_text.specs.definitions.Replacement.{replacement_for}
use Rattle.awk_text.proofs.replacement.add_replacement.Given as goal

-- what is written and the replacement of what is left are the whole
abbrev pub invariant-loop-i : goal.invariant-loop-i
invariant-loop-i l = l.out.items ++ replacement_for (drop l.i l.replacement) l.matched ≡ l.fn.out.items ++ replacement_for l.replacement l.matched

abbrev pub decreases-loop-i : goal.decreases-loop-i
decreases-loop-i l = length l.replacement - l.i
