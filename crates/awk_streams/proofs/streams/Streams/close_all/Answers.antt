use Rattle.std.proofs.Common.{◌≡◌, ◌<◌, pos, [], length, refl, sym, ap, ◌∙◌, arith}
use Rattle.std.specs.Prelude.{vec_len}
use Rattle.awk_streams.specs.definitions.Streams.{StreamsView}
use Rattle.awk_streams.specs.definitions.Commands.{all_names}
use Rattle.awk_streams.proofs.ClosesLemmas.{closes_none, closes_first, closes_all, fewer, empty_names, empty_is, zero_of, more_of}
use Rattle.awk_streams.proofs.streams.Streams.close_all.Goals as goal

pub loop-self-init : goal.loop-self-init
loop-self-init g c = record {
  rest = refl;
  empty = c.requires.empty;
  open_as = c.requires.open;
  sound = c.requires.sound;
  closes = λ t. (pos 0, closes_none (all_names c.args.self.now.named) (pos 0) (g.W.World.state c.args.world.now) c.args.self.now);
}

pub loop-self-preserved : goal.loop-self-preserved
loop-self-preserved g c =
    let w = g.W.World in
    record {
      rest = ap (λ (v : StreamsView). record v { named = [] }) c.close_at.ensures.same ∙ c.loop-self.invariant.rest;
      empty = c.close_at.ensures.empty;
      open_as = c.close_at.ensures.open;
      sound = c.close_at.ensures.sound;
      closes = λ t.
          let some = c.loop-self.invariant.closes t in
          (c.close_at.result, closes_first (all_names c.args.self.now.named) (pos 0) some.0 c.close_at.result (w.state c.args.world.now) (w.state c.loop-self.world) (w.state c.close_at.new.world) c.args.self.now c.loop-self.self c.close_at.new.self some.1 c.close_at.ensures.same (c.close_at.ensures.told t));
    }

pub loop-self-smaller : goal.loop-self-smaller
loop-self-smaller g c =
    let long : length c.loop-self.self.named ≡ vec_len c.self.inside.named = ap (λ (v : StreamsView). length v.named) (sym c.self.view_is) ∙ sym c.self.inside.named.ok.0 in
    let some : 0 < vec_len c.self.inside.named = more_of (vec_len c.self.inside.named) c.is_empty.result c.loop-self-test.true c.is_empty.ensures in
    fewer c.loop-self.self c.close_at.new.self 0 (omega (arith, long, some)) c.close_at.ensures.same

pub returns-clause-none : goal.returns-clause-none
returns-clause-none g c =
    let long : length c.loop-self.self.named ≡ vec_len c.self.inside.named = ap (λ (v : StreamsView). length v.named) (sym c.self.view_is) ∙ sym c.self.inside.named.ok.0 in
    empty_is c.args.self.now c.loop-self.self c.loop-self.invariant.rest (long ∙ zero_of (vec_len c.self.inside.named) c.is_empty.result c.loop-self-test.false c.is_empty.ensures)

pub returns-clause-told : goal.returns-clause-told
returns-clause-told g c = λ t.
    let long : length c.loop-self.self.named ≡ vec_len c.self.inside.named = ap (λ (v : StreamsView). length v.named) (sym c.self.view_is) ∙ sym c.self.inside.named.ok.0 in
    let some = c.loop-self.invariant.closes t in (
      some.0,
      closes_all (all_names c.args.self.now.named) (all_names c.loop-self.self.named) (pos 0) some.0 (g.W.World.state c.args.world.now) (g.W.World.state c.loop-self.world) c.args.self.now c.loop-self.self some.1
          (empty_names c.loop-self.self.named (long ∙ zero_of (vec_len c.self.inside.named) c.is_empty.result c.loop-self-test.false c.is_empty.ensures)),
    )
