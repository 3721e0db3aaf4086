use Rattle.awk_streams.specs.definitions.Outputs.{FailsWith}
use Rattle.awk_streams.proofs.PreparesLemmas.{ok_given, err_given}
use Rattle.awk_streams.proofs.FlushedLemmas.{all_flushed, all_is}
use Rattle.awk_streams.proofs.streams.Streams.flush_all.Goals as goal

pub returns-clause-same : goal.returns-clause-same
returns-clause-same g c = all_is c.args.self.now c.bring.new.self c.bring.result c.bring.ensures.main c.bring.ensures.same c.bring.ensures.empty

pub returns-clause-told : goal.returns-clause-told
returns-clause-told g c = λ t.
    let w = g.W.World in
    all_flushed (w.state c.args.world.now) (w.state c.bring.new.world) c.args.self.now c.bring.new.self c.bring.result c.bring.ensures.main c.bring.ensures.same (c.bring.ensures.told t) c.bring.ensures.empty (ok_given _ _ c.bring.result c.bring.ensures.flushed t) (err_given w.is_logged (λ e. FailsWith e (w.state c.args.world.now) (w.state c.bring.new.world)) c.bring.result c.bring.ensures.fails t) c.bring.ensures.fault

pub returns-clause-fails : goal.returns-clause-fails
returns-clause-fails g c = λ t. let w = g.W.World in err_given w.is_logged (λ e. FailsWith e (w.state c.args.world.now) (w.state c.bring.new.world)) c.bring.result c.bring.ensures.fails t
