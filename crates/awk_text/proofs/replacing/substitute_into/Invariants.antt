use Rattle.std.proofs.Common.{◌≤◌, ◌<◌, ◌+◌, ◌-◌, length}
use Rattle.awk_ere.specs.definitions.Means.{Means}
use Rattle.awk_ere.specs.support.Failures.{AreFailures}
use Rattle.awk_ere.specs.support.Table.{IsFor}
use Rattle.awk_ere.specs.definitions.Tree.{Tree}
use Rattle.awk_text.specs.support.Search.{IsLongest}
use Rattle.awk_text.proofs.ExchangedSoFar.{Exchanged}
use Rattle.awk_text.proofs.replacing.substitute_into.Given as goal

-- whatever matches are chosen from here, what is written and theirs are the whole
abbrev pub invariant-loop-next : goal.invariant-loop-next
invariant-loop-next l = record {
  inside : l.last.end ≤ length l.text;
  longest : (t : Tree) → Means t l.pattern → IsLongest t l.text l.last;
  some : 0 < l.count;
  few : l.count ≤ l.last.end + 1;
  same : IsFor l.scratch l.pattern;
  failures : AreFailures l.pattern l.text l.failures;
  exchanged : (t : Tree) → Means t l.pattern → Exchanged t l.replacement l.text l.out.items l.count l.last.end;
}

abbrev pub decreases-loop-next : goal.decreases-loop-next
decreases-loop-next l = length l.text - l.last.end
