use Rattle.awk_ere.proofs.OneTree.{one_pattern}
use Rattle.awk_ere.proofs.spelling_laws.one_pattern.Goals as goal

pub returns : goal.returns
returns c = one_pattern
