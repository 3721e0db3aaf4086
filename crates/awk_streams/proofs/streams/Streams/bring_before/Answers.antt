use Rattle.awk_streams.specs.definitions.Outputs.{FailsWith}
use Rattle.awk_streams.proofs.PreparesLemmas.{prepares_command, prepares_file, ok_given, err_given}
use Rattle.awk_streams.proofs.streams.Streams.bring_before.Goals as goal

pub returns-then-is_command-clause-told : goal.returns-then-is_command-clause-told
returns-then-is_command-clause-told g c = λ t.
    let w = g.W.World in
    rw (c.if-is_command.true)
    (prepares_command (w.state c.args.world.now) (w.state c.bring.new.world) c.args.self.now c.bring.new.self c.bring.result (c.bring.ensures.told t) c.bring.ensures.empty (ok_given _ _ c.bring.result c.bring.ensures.flushed t) (err_given w.is_logged (λ e. FailsWith e (w.state c.args.world.now) (w.state c.bring.new.world)) c.bring.result c.bring.ensures.fails t)
    c.bring.ensures.fault)

pub returns-else-is_command-clause-told : goal.returns-else-is_command-clause-told
returns-else-is_command-clause-told g c = λ t.
    rw (c.if-is_command.false) (prepares_file (g.W.World.state c.args.world.now) c.args.self.now tt)
