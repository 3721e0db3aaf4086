use Rattle.awk_streams.proofs.GrowsLemmas.{Grows-self}
use Rattle.awk_streams.proofs.input.next_from.Goals as goal

pub returns-in-Some-clause-grows : goal.returns-in-Some-clause-grows
returns-in-Some-clause-grows g c = λ t. Grows-self (g.W.World.state c.args.world.now)
