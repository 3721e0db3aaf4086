use Rattle.awk_ere.proofs.ReadDecided.{read_as}
use Rattle.awk_ere.proofs.laws.read_law.Goals as goal

pub returns : goal.returns
returns c = read_as
