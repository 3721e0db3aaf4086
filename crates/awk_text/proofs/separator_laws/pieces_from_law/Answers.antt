use Rattle.awk_text.proofs.NextField.{pieces_from-front, pieces_from-past}
use Rattle.awk_text.proofs.separator_laws.pieces_from_law.Goals as goal

pub returns : goal.returns
returns c = record { front = pieces_from-front; past = pieces_from-past }
