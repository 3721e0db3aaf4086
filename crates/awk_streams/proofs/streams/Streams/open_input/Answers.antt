use Rattle.std.proofs.Common.{◌≡◌, ◌∙◌, ◌<◌, None, ℕ, sym, ap, subst}
use Rattle.std.specs.Prelude.{is_some}
use Rattle.std.specs.List.{position}
use Rattle.std.proofs.lemmas.Result.{err_from_is_err_and}
use Rattle.awk_streams.specs.definitions.Streams.{StreamsView}
use Rattle.awk_streams.specs.support.Places.{is_named_input}
use Rattle.awk_streams.proofs.StreamsLemmas.{but_held_numbered, but_held_length}
use Rattle.awk_streams.proofs.InputCallLemmas.{input_is_found, input_full, input_asked, input_place}
use Rattle.awk_streams.proofs.OpensLemmas.{same_input_place}
use Rattle.awk_streams.proofs.streams.Streams.open_input.Goals as goal

pub returns-in-Some-clause-is_open : goal.returns-in-Some-clause-is_open
returns-in-Some-clause-is_open g c = λ _. ap is_some (input_place c.args.kind c.args.name.now c.as_slice.result.now c.args.self.now.named c.deref.result.now c.as_slice.ensures (c.deref.ensures.value ∙ ap (λ (v : StreamsView). v.named) c.self.view_is) ∙ (sym c.find_input.ensures ∙ c.in-Some.is))

pub returns-in-Some-clause-told : goal.returns-in-Some-clause-told
returns-in-Some-clause-told g c = λ t.
    input_is_found c.args.kind c.args.name.now (g.W.World.state c.args.world.now) c.args.self.now c.in-Some.field-0 (input_place c.args.kind c.args.name.now c.as_slice.result.now c.args.self.now.named c.deref.result.now c.as_slice.ensures (c.deref.ensures.value ∙ ap (λ (v : StreamsView). v.named) c.self.view_is) ∙ (sym c.find_input.ensures ∙ c.in-Some.is))

pub returns-in_err-check_count-in-None-clause-told : goal.returns-in_err-check_count-in-None-clause-told
returns-in_err-check_count-in-None-clause-told g c = λ t.
    let none : position (is_named_input c.args.kind c.args.name.now) c.args.self.now.named ≡ None = input_place c.args.kind c.args.name.now c.as_slice.result.now c.args.self.now.named c.deref.result.now c.as_slice.ensures (c.deref.ensures.value ∙ ap (λ (v : StreamsView). v.named) c.self.view_is) ∙ (sym c.find_input.ensures ∙ c.in-None.is) in
    let p = err_from_is_err_and c.from_residual.result c.from_residual.ensures.1 in
    rw (p.1, p.2)
    (input_full c.args.kind c.args.name.now (g.W.World.state c.args.world.now) c.args.self.now c.in_err-check_count-in-None.field-0.0 none c.in_err-check_count-in-None.ensures.full c.in_err-check_count-in-None.ensures.fault)

pub ask_input-requires-clause-lacks : goal.ask_input-requires-clause-lacks
ask_input-requires-clause-lacks g c =
    ap is_some (same_input_place c.args.kind c.args.name.now c.args.self.now.named c.bring_before.new.self.named (but_held_numbered c.args.self.now.named c.bring_before.new.self.named c.in_ok-bring_before-in-None.ensures.same)
    ∙ (input_place c.args.kind c.args.name.now c.as_slice.result.now c.args.self.now.named c.deref.result.now c.as_slice.ensures (c.deref.ensures.value ∙ ap (λ (v : StreamsView). v.named) c.self.view_is) ∙ (sym c.find_input.ensures ∙ c.in-None.is)))

pub ask_input-requires-clause-few : goal.ask_input-requires-clause-few
ask_input-requires-clause-few g c = subst (λ (n : ℕ). n < 200) (sym (but_held_length c.args.self.now.named c.bring_before.new.self.named c.in_ok-bring_before-in-None.ensures.same)) c.in_ok-check_count-in-None.ensures.few

pub returns-in_ok-bring_before-in-None-clause-told : goal.returns-in_ok-bring_before-in-None-clause-told
returns-in_ok-bring_before-in-None-clause-told g c = λ t.
    let none : position (is_named_input c.args.kind c.args.name.now) c.args.self.now.named ≡ None = input_place c.args.kind c.args.name.now c.as_slice.result.now c.args.self.now.named c.deref.result.now c.as_slice.ensures (c.deref.ensures.value ∙ ap (λ (v : StreamsView). v.named) c.self.view_is) ∙ (sym c.find_input.ensures ∙ c.in-None.is) in
    let w = g.W.World in
    input_asked c.args.kind c.args.name.now c.is_input_command.result (w.state c.args.world.now) (w.state c.bring_before.new.world) (w.state c.ask_input.new.world) c.args.self.now c.bring_before.new.self c.ask_input.new.self c.in_ok-bring_before-in-None.field-0 c.ask_input.result c.is_input_command.ensures none
    c.in_ok-check_count-in-None.ensures.few c.in_ok-bring_before-in-None.ensures.open c.in_ok-bring_before-in-None.ensures.main c.in_ok-bring_before-in-None.ensures.same (c.in_ok-bring_before-in-None.ensures.told t) (c.ask_input.ensures.told t)
