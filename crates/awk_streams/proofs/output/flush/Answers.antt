use Rattle.awk_streams.proofs.WritingLemmas.{flush_done, flush_failed}
use Rattle.awk_streams.proofs.output.flush.Goals as goal

pub returns-in-Ok-clause-told : goal.returns-in-Ok-clause-told
returns-in-Ok-clause-told g c = λ t. flush_done c.args.id (g.W.World.state c.args.world.now) (g.W.World.state c.flush.new.self) tt (c.in-Ok.ensures.logs t)

pub returns-in-Err-clause-told : goal.returns-in-Err-clause-told
returns-in-Err-clause-told g c = λ t. flush_failed c.args.id (g.W.World.state c.args.world.now) (g.W.World.state c.flush.new.self) _ c.in-Err.fault c.output_fault.ensures (c.in-Err.ensures.logs t)
