use Rattle.std.proofs.lemmas.Result.{err_from_is_err_and}
use Rattle.awk_streams.proofs.BufferedLemmas.{write_failed, flushes_written}
use Rattle.awk_streams.proofs.output.flush_held.Goals as goal

pub returns-in_err-write_held-clause-told : goal.returns-in_err-write_held-clause-told
returns-in_err-write_held-clause-told g c = λ t.
    let p = err_from_is_err_and c.from_residual.result c.from_residual.ensures.1 in
    rw (p.1, p.2) (write_failed c.args.id c.args.held.now.items (g.W.World.state c.args.world.now) (g.W.World.state c.write_held.new.world) _ (c.in_err-write_held.ensures.told t))

pub returns-clause-told : goal.returns-clause-told
returns-clause-told g c = λ t.
    flushes_written c.args.id c.args.held.now.items (g.W.World.state c.args.world.now) (g.W.World.state c.write_held.new.world) (g.W.World.state c.flush.new.world) _ c.flush.result (c.in_ok-write_held.ensures.told t) (c.flush.ensures.told t)
