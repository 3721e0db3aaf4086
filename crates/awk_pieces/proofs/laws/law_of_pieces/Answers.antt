use Rattle.awk_pieces.proofs.laws.law_of_pieces.Goals as goal
use Rattle.awk_pieces.proofs.LawOfPieces as lemma

pub returns : goal.returns
returns c = lemma.law_of_pieces
