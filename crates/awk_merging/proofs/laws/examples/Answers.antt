use Rattle.awk_merging.proofs.laws.examples.Goals as goal
use Rattle.awk_merging.proofs.ClassTried as lemma

pub returns-clause-class : goal.returns-clause-class
returns-clause-class c = lemma.examples

pub returns-clause-merging : goal.returns-clause-merging
returns-clause-merging c = lemma.merged
