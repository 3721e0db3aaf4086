use Rattle.awk_merging.proofs.laws.law_of_ways.Goals as goal
use Rattle.awk_merging.proofs.Ways as lemma

pub returns : goal.returns
returns g c = lemma.law_of_ways _
