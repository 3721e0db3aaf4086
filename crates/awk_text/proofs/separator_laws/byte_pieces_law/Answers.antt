use Rattle.std.proofs.Common.{refl}
use Rattle.awk_text.specs.definitions.Fields.{separates}
use Rattle.awk_text.proofs.PiecesFromFront.{kind_pieces-last, kind_pieces-next, kind_pieces-end}
use Rattle.awk_text.proofs.separator_laws.byte_pieces_law.Goals as goal

pub returns : goal.returns
returns c = record {
  none = λ b n. refl;
  last = λ b n. kind_pieces-last (separates b n);
  next = λ b n. kind_pieces-next (separates b n);
  end = λ b n. kind_pieces-end (separates b n);
}
