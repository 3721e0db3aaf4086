use Rattle.awk_text.proofs.PiecesFromFront.{blank_pieces-none, blank_pieces-last, blank_pieces-next}
use Rattle.awk_text.proofs.separator_laws.pieces_law.Goals as goal

pub returns : goal.returns
returns c = record {
  none = λ n. blank_pieces-none;
  last = λ n. blank_pieces-last;
  next = λ n. blank_pieces-next;
}
