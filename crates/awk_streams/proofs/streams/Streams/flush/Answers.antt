use Rattle.std.proofs.Common.{Ok, Err}
use Rattle.std.proofs.lemmas.Result.{err_from_is_err_and}
use Rattle.awk_streams.proofs.FlushedLemmas.{text_some, text_view, text_flushed, text_unflushed, standard_unflushed}
use Rattle.awk_streams.proofs.streams.Streams.flush.Goals as goal

pub returns-in_err-bring_standard-clause-told : goal.returns-in_err-bring_standard-clause-told
returns-in_err-bring_standard-clause-told g c = λ t.
    let w = g.W.World in
    let p = err_from_is_err_and c.from_residual.result c.from_residual.ensures.1 in
    rw (p.1, p.2)
    (standard_unflushed c.args.text.now (w.state c.args.world.now) (w.state c.bring_standard.new.world) c.args.self.now c.bring_standard.new.self c.in_err-bring_standard.field-0.0 c.in_err-bring_standard.ensures.fault (c.in_err-bring_standard.ensures.told t))

pub returns-in_err-bring_called-clause-told : goal.returns-in_err-bring_called-clause-told
returns-in_err-bring_called-clause-told g c = λ t.
    let w = g.W.World in
    let p = err_from_is_err_and c.from_residual-in_err-bring_called.result c.from_residual-in_err-bring_called.ensures.1 in
    rw (p.1, p.2)
    (text_unflushed c.args.text.now (w.state c.args.world.now) (w.state c.bring_called.new.world) c.args.self.now c.bring_called.new.self c.in_err-bring_called.field-0.0 c.in_err-bring_called.ensures.fault
    (text_some c.args.text.now (w.state c.args.world.now) (w.state c.bring_standard.new.world) (w.state c.bring_called.new.world) c.args.self.now c.bring_standard.new.self c.bring_called.new.self c.in_ok-bring_standard.field-0 (Err c.in_err-bring_called.field-0.0) c.in_ok-bring_standard.ensures.same (c.in_ok-bring_standard.ensures.told t) (c.in_err-bring_called.ensures.told t)))

pub returns-clause-told : goal.returns-clause-told
returns-clause-told g c = λ t.
    let w = g.W.World in
    text_flushed c.args.text.now (w.state c.args.world.now) (w.state c.bring_called.new.world) c.args.self.now c.bring_called.new.self c.has_output_called-is_open.result c.in_ok-bring_called.field-0 c.requires.open
    (text_view c.args.text.now c.args.self.now c.bring_standard.new.self c.bring_called.new.self c.in_ok-bring_standard.ensures.same c.in_ok-bring_called.ensures.same) c.has_output_called-is_open.ensures
    (text_some c.args.text.now (w.state c.args.world.now) (w.state c.bring_standard.new.world) (w.state c.bring_called.new.world) c.args.self.now c.bring_standard.new.self c.bring_called.new.self c.in_ok-bring_standard.field-0 (Ok c.in_ok-bring_called.field-0) c.in_ok-bring_standard.ensures.same (c.in_ok-bring_standard.ensures.told t) (c.in_ok-bring_called.ensures.told t))

pub returns-in_err-bring_standard-clause-fails : goal.returns-in_err-bring_standard-clause-fails
returns-in_err-bring_standard-clause-fails g c = λ t.
    let p = err_from_is_err_and c.from_residual.result c.from_residual.ensures.1 in
    rw (p.1, p.2) (c.in_err-bring_standard.ensures.told t).fails

pub returns-in_err-bring_called-clause-fails : goal.returns-in_err-bring_called-clause-fails
returns-in_err-bring_called-clause-fails g c = λ t.
    let w = g.W.World in
    let p = err_from_is_err_and c.from_residual-in_err-bring_called.result c.from_residual-in_err-bring_called.ensures.1 in
    rw (p.1, p.2)
    (text_some c.args.text.now (w.state c.args.world.now) (w.state c.bring_standard.new.world) (w.state c.bring_called.new.world) c.args.self.now c.bring_standard.new.self c.bring_called.new.self c.in_ok-bring_standard.field-0 (Err c.in_err-bring_called.field-0.0) c.in_ok-bring_standard.ensures.same (c.in_ok-bring_standard.ensures.told t) (c.in_err-bring_called.ensures.told t)).fails
