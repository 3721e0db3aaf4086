use Rattle.awk_ere.specs.support.Run.{Stays}
use Rattle.awk_ere.proofs.run.end_of_stretch.Given as goal

abbrev pub invariant-loop-k : goal.invariant-loop-k
invariant-loop-k l = Stays l.inside l.class l.text l.from l.k
