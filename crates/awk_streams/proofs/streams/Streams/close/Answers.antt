use Rattle.std.proofs.Common.{◌≡◌, sym, ap, ◌∙◌, rules}
use mir.Syntax.{w128}
use mir.Val.{to_z, of_z}
use Rattle.std.specs.List.{position}
use Rattle.std.proofs.lemmas.Result.{err_from_is_err_and}
use Rattle.awk_streams.specs.definitions.Streams.{StreamsView, is_called}
use Rattle.awk_streams.proofs.ViewLemmas.{brings_all, fails_as}
use Rattle.awk_streams.proofs.ClosesLemmas.{closes_nothing, closes_brought, closes_unbrought}
use Rattle.awk_streams.proofs.FinishLemmas.{none_is, some_is}
use Rattle.awk_streams.proofs.streams.Streams.close.Goals as goal

pub returns-then-is_none-clause-told : goal.returns-then-is_none-clause-told
returns-then-is_none-clause-told g c = λ t.
    closes_nothing c.args.text.now (g.W.World.state c.args.world.now) c.args.self.now (ap (position (is_called c.args.text.now)) (sym (c.deref.ensures.value ∙ ap (λ (v : StreamsView). v.named) c.self.view_is)) ∙ sym c.find_called.ensures ∙ none_is c.find_called.result c.is_none.result c.if-is_none.true c.is_none.ensures)

pub returns-clause-told : goal.returns-clause-told
returns-clause-told g c = λ t.
    let w = g.W.World in
    let place = some_is c.find_called.result c.is_none.result c.if-is_none.false c.is_none.ensures in
    let same : to_z w128 (of_z w128 c.close_called.result) ≡ c.close_called.result = search rules in
    rw same
    (closes_brought c.args.text.now place.0 (w.state c.args.world.now) (w.state c.bring.new.world) (w.state c.close_called.new.world) c.args.self.now c.bring.new.self c.close_called.new.self c.close_called.result (ap (position (is_called c.args.text.now)) (sym (c.deref.ensures.value ∙ ap (λ (v : StreamsView). v.named) c.self.view_is)) ∙ sym c.find_called.ensures ∙ place.1) c.in_ok-bring.ensures.same (brings_all (w.state c.args.world.now) (w.state c.bring.new.world) c.args.self.now c.bring.new.self c.in_ok-bring.field-0 c.in_ok-bring.ensures.main c.in_ok-bring.ensures.same (c.in_ok-bring.ensures.told t) c.in_ok-bring.ensures.empty (c.in_ok-bring.ensures.flushed t)) (c.close_called.ensures.told t))

pub returns-in_err-bring-clause-told : goal.returns-in_err-bring-clause-told
returns-in_err-bring-clause-told g c = λ t.
    let w = g.W.World in
    let p = err_from_is_err_and c.from_residual.result c.from_residual.ensures.1 in
    rw (p.1, p.2)
    (closes_unbrought c.args.text.now (w.state c.args.world.now) (w.state c.bring.new.world) c.args.self.now c.bring.new.self c.in_err-bring.field-0.0 c.in_err-bring.ensures.fault (c.in_err-bring.ensures.told t) (fails_as (w.state c.args.world.now) (w.state c.bring.new.world) c.in_err-bring.field-0.0 c.in_err-bring.ensures.fault (c.in_err-bring.ensures.fails t)))

pub returns-in_err-bring-clause-fails : goal.returns-in_err-bring-clause-fails
returns-in_err-bring-clause-fails g c = λ t.
    let p = err_from_is_err_and c.from_residual.result c.from_residual.ensures.1 in
    rw (p.1, p.2) (c.in_err-bring.ensures.fails t)
