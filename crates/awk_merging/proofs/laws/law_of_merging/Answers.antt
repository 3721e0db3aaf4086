use Rattle.awk_merging.proofs.laws.law_of_merging.Goals as goal
use Rattle.awk_merging.proofs.LawMerged as lemma

pub returns : goal.returns
returns c = lemma.law_of_merging
