use Rattle.awk_ere.specs.definitions.Tree.{Tree, NoneFrom}
use Rattle.awk_ere.specs.definitions.Means.{Means}
use Rattle.awk_ere.proofs.pattern.Pattern.next_candidate.Given as goal

abbrev pub invariant-loop-k : goal.invariant-loop-k
invariant-loop-k l = (t : Tree) → Means t l.self → NoneFrom t l.text l.from l.k
