use Rattle.awk_record.proofs.CutIsDecided.{IsDecided_law}
use Rattle.awk_record.proofs.decided_law.Goals as goal

pub returns : goal.returns
returns c = IsDecided_law
