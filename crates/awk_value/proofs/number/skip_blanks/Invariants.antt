use Rattle.std.proofs.Common.{◌≡◌, length}
use Rattle.awk_value.specs.definitions.Numbers.{after_blanks}
use Rattle.awk_value.proofs.number.skip_blanks.Given as goal

abbrev pub invariant-loop-first : goal.invariant-loop-first
invariant-loop-first l = after_blanks l.rest ≡ after_blanks l.text

abbrev pub decreases-loop-first : goal.decreases-loop-first
decreases-loop-first l = length l.rest
