use Rattle.awk_merging.proofs.laws.law_of_end.Goals as goal
use Rattle.awk_merging.proofs.EndShown as lemma

pub returns : goal.returns
returns c = lemma.law_of_end
