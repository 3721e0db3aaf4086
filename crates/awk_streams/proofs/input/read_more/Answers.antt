use Rattle.awk_streams.proofs.GrowsLemmas.{Grows-self}
use Rattle.awk_streams.proofs.input.read_more.Goals as goal

pub returns-in_err-memory-clause-grows : goal.returns-in_err-memory-clause-grows
returns-in_err-memory-clause-grows g c = λ t. Grows-self (g.W.World.state c.args.world.now)

pub returns-in_err-prepare-clause-grows : goal.returns-in_err-prepare-clause-grows
returns-in_err-prepare-clause-grows g c = λ t. Grows-self (g.W.World.state c.args.world.now)
