use Rattle.awk_ere.proofs.RefusalsExclusive.{read_exactly}
use Rattle.awk_ere.proofs.spelling_laws.read_exactly.Goals as goal

pub returns : goal.returns
returns c = read_exactly
