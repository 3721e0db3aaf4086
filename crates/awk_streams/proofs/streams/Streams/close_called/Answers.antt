use Rattle.std.proofs.Common.{◌≡◌, negsuc, Some, None, refl, sym, ap, ◌∙◌, rules}
use mir.Syntax.{w128}
use mir.Val.{to_z, of_z}
use Rattle.std.specs.List.{position}
use Rattle.awk_streams.specs.definitions.Streams.{StreamsView, is_called}
use Rattle.awk_streams.specs.definitions.Commands.{names_called}
use Rattle.awk_streams.proofs.NamesLemmas.{place_within, none_of}
use Rattle.awk_streams.proofs.ClosesLemmas.{closes_none, closes_called, closes_all, no_names, fewer}
use Rattle.awk_streams.proofs.streams.Streams.close_called.Goals as goal

pub loop-place-init : goal.loop-place-init
loop-place-init g c = record {
  main = refl;
  empty = c.requires.empty;
  open_as = c.requires.open;
  sound = c.requires.sound;
  closes = λ t. closes_none (names_called c.args.text.now c.args.self.now.named) (negsuc 0) (g.W.World.state c.args.world.now) c.args.self.now;
}

pub loop-place-preserved : goal.loop-place-preserved
loop-place-preserved g c =
    let w = g.W.World in
    let found : position (is_called c.args.text.now) c.loop-place.self.named ≡ Some c.in-Some.place = ap (position (is_called c.args.text.now)) (sym (c.deref.ensures.value ∙ ap (λ (v : StreamsView). v.named) c.self.view_is)) ∙ (sym c.find_called.ensures ∙ c.in-Some.is) in
    let same : to_z w128 (of_z w128 c.close_at-answer.result) ≡ c.close_at-answer.result = search rules in
    record {
      main = ap (λ (v : StreamsView). v.main) c.close_at-answer.ensures.same ∙ c.loop-place.invariant.main;
      empty = c.close_at-answer.ensures.empty;
      open_as = c.close_at-answer.ensures.open;
      sound = c.close_at-answer.ensures.sound;
      closes = λ t. rw same
          (closes_called c.args.text.now (names_called c.args.text.now c.args.self.now.named) c.in-Some.place (negsuc 0) (to_z w128 c.loop-place.answer-bits) c.close_at-answer.result (w.state c.args.world.now) (w.state c.loop-place.world) (w.state c.close_at-answer.new.world) c.args.self.now c.loop-place.self c.close_at-answer.new.self
          found (c.loop-place.invariant.closes t) c.close_at-answer.ensures.same (c.close_at-answer.ensures.told t));
    }

pub loop-place-smaller : goal.loop-place-smaller
loop-place-smaller g c =
    let found : position (is_called c.args.text.now) c.loop-place.self.named ≡ Some c.in-Some.place = ap (position (is_called c.args.text.now)) (sym (c.deref.ensures.value ∙ ap (λ (v : StreamsView). v.named) c.self.view_is)) ∙ (sym c.find_called.ensures ∙ c.in-Some.is) in
    fewer c.loop-place.self c.close_at-answer.new.self c.in-Some.place (place_within (is_called c.args.text.now) c.loop-place.self.named c.in-Some.place found) c.close_at-answer.ensures.same

pub returns-clause-told : goal.returns-clause-told
returns-clause-told g c = λ t.
    let none : position (is_called c.args.text.now) c.loop-place.self.named ≡ None = ap (position (is_called c.args.text.now)) (sym (c.deref.ensures.value ∙ ap (λ (v : StreamsView). v.named) c.self.view_is)) ∙ (sym c.find_called.ensures ∙ none_of c.find_called.result c.in_default.not-Some) in
    closes_all (names_called c.args.text.now c.args.self.now.named) (names_called c.args.text.now c.loop-place.self.named) (negsuc 0) (to_z w128 c.loop-place.answer-bits) (g.W.World.state c.args.world.now) (g.W.World.state c.loop-place.world) c.args.self.now c.loop-place.self (c.loop-place.invariant.closes t)
    (no_names c.args.text.now c.loop-place.self.named none)
