use Rattle.std.proofs.Common.{refl}
use Rattle.std.proofs.lemmas.Result.{err_from_is_err_and}
use Rattle.awk_streams.proofs.ViewLemmas.{brings_all, keeps_open, fails_as}
use Rattle.awk_streams.proofs.RunLemmas.{run_sound, run_told, run_unbrought, run_fails}
use Rattle.awk_streams.proofs.streams.Streams.run.Goals as goal

pub returns-clause-open : goal.returns-clause-open
returns-clause-open g c = let w = g.W.World in keeps_open (w.state c.bring.new.world) (w.state c.run.new.self) c.bring.new.self c.bring.new.self c.run.ensures.open refl refl c.in_ok-bring.ensures.open

pub returns-clause-sound : goal.returns-clause-sound
returns-clause-sound g c = λ t. let w = g.W.World in run_sound c.args.command.now (w.state c.bring.new.world) (w.state c.run.new.self) c.bring.new.self c.run.result c.run.ensures.open (c.run.ensures.logs t) (c.in_ok-bring.ensures.sound t)

pub returns-clause-told : goal.returns-clause-told
returns-clause-told g c = λ t.
    let w = g.W.World in
    rw c.run_answer.ensures
    (run_told c.args.command.now (w.state c.args.world.now) (w.state c.bring.new.world) (w.state c.run.new.self) c.args.self.now c.bring.new.self c.run.result (brings_all (w.state c.args.world.now) (w.state c.bring.new.world) c.args.self.now c.bring.new.self c.in_ok-bring.field-0 c.in_ok-bring.ensures.main c.in_ok-bring.ensures.same (c.in_ok-bring.ensures.told t) c.in_ok-bring.ensures.empty (c.in_ok-bring.ensures.flushed t)) c.run.ensures.never_failed (c.run.ensures.logs t))

pub returns-in_err-bring-clause-told : goal.returns-in_err-bring-clause-told
returns-in_err-bring-clause-told g c = λ t.
    let w = g.W.World in
    let p = err_from_is_err_and c.from_residual.result c.from_residual.ensures.1 in
    rw (p.1, p.2)
    (run_unbrought c.args.command.now (w.state c.args.world.now) (w.state c.bring.new.world) c.args.self.now c.bring.new.self c.in_err-bring.field-0.0 c.in_err-bring.ensures.fault (c.in_err-bring.ensures.told t) (fails_as (w.state c.args.world.now) (w.state c.bring.new.world) c.in_err-bring.field-0.0 c.in_err-bring.ensures.fault (c.in_err-bring.ensures.fails t)))

pub returns-clause-fails : goal.returns-clause-fails
returns-clause-fails g c = λ t.
    let w = g.W.World in
    rw c.run_answer.ensures (run_fails c.args.command.now (w.state c.args.world.now) (w.state c.bring.new.world) (w.state c.run.new.self) c.run.result (c.in_ok-bring.ensures.told t).no_failure (c.run.ensures.logs t))

pub returns-in_err-bring-clause-fails : goal.returns-in_err-bring-clause-fails
returns-in_err-bring-clause-fails g c = λ t.
    let p = err_from_is_err_and c.from_residual.result c.from_residual.ensures.1 in
    rw (p.1, p.2) (c.in_err-bring.ensures.fails t)
