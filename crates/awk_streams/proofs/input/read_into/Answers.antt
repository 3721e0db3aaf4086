use Rattle.awk_world.specs.declared.world.WorldFault.TheVariants.{Memory}
use Rattle.std.proofs.Common.{Ok, None}
use Rattle.awk_world.specs.definitions.Log.{Broke, Did, reading, DidNot}
use Rattle.awk_streams.proofs.GrowsLemmas.{logs_grow}
use Rattle.awk_streams.proofs.input.read_into.Goals as goal

pub returns-in_err-feed-in-Ok-clause-grows : goal.returns-in_err-feed-in-Ok-clause-grows
returns-in_err-feed-in-Ok-clause-grows g c = λ t. logs_grow (reading c.args.id (Ok c.in-Ok.n) c.read.new.into) (g.W.World.state c.args.world.now) (g.W.World.state c.read.new.self) (c.in-Ok.ensures.logs t)

pub returns-in-Ok-eq0-clause-grows : goal.returns-in-Ok-eq0-clause-grows
returns-in-Ok-eq0-clause-grows g c = λ t. logs_grow (reading c.args.id (Ok c.in-Ok-eq0.field-0) c.read.new.into) (g.W.World.state c.args.world.now) (g.W.World.state c.read.new.self) (c.in-Ok-eq0.ensures.logs t)

pub returns-in_ok-feed-in-Ok-clause-grows : goal.returns-in_ok-feed-in-Ok-clause-grows
returns-in_ok-feed-in-Ok-clause-grows g c = λ t. logs_grow (reading c.args.id (Ok c.in-Ok.n) c.read.new.into) (g.W.World.state c.args.world.now) (g.W.World.state c.read.new.self) (c.in-Ok.ensures.logs t)

pub returns-in-Err-Failed-clause-grows : goal.returns-in-Err-Failed-clause-grows
returns-in-Err-Failed-clause-grows g c = λ t. logs_grow (Did (Broke c.args.id)) (g.W.World.state c.args.world.now) (g.W.World.state c.read.new.self) (rw c.in-Err-Failed.field-0-is at (c.in-Err-Failed.ensures.logs t))

pub returns-in-Err-Memory-clause-grows : goal.returns-in-Err-Memory-clause-grows
returns-in-Err-Memory-clause-grows g c = λ t. logs_grow (DidNot None Memory) (g.W.World.state c.args.world.now) (g.W.World.state c.read.new.self) (rw c.in-Err-Memory.field-0-is at (c.in-Err-Memory.ensures.logs t))
