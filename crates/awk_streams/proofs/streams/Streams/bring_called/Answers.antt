use Rattle.std.proofs.Common.{◌≡◌, ◌+◌, ℕ, suc, List, [], take, length, Ok, Err, refl, sym, ap, ◌∙◌, subst, arith}
use Rattle.std.specs.Prelude.{vec_len}
use Rattle.std.proofs.Math.Numerals.{add-one}
use Rattle.std.proofs.lemmas.List.{take_all}
use Rattle.std.proofs.lemmas.Result.{err_from_is_err_and}
use Rattle.awk_streams.specs.declared.named.NamedStream.{NamedStream}
use Rattle.awk_streams.specs.definitions.Streams.{StreamsView}
use Rattle.awk_streams.specs.definitions.Flushes.{is_number_among}
use Rattle.awk_streams.specs.support.Flushing.{BringsSome, emptied_to}
use Rattle.awk_streams.proofs.EmptiedLemmas.{emptied_to_length, emptied_to_all}
use Rattle.awk_streams.proofs.FlushLemmas.{some_none, view_next, some_next, some_failed}
use Rattle.awk_streams.proofs.streams.Streams.bring_called.Goals as goal

pub loop-place-init : goal.loop-place-init
loop-place-init g c = record {
  view = refl;
  open_as = c.requires.open;
  sound = c.requires.sound;
  brings = λ t. some_none (is_number_among c.args.text.now []) (g.W.World.state c.args.world.now) c.args.self.now tt (λ id. refl);
}

pub bring_at-requires-clause-place : goal.bring_at-requires-clause-place
bring_at-requires-clause-place g c =
    let size : length c.args.self.now.named ≡ vec_len c.self.inside.named = ap (λ (v : StreamsView). length v.named) (sym c.self.view_is) ∙ sym c.self.inside.named.ok.0 in
    let now : length c.loop-place.self.named ≡ length c.args.self.now.named = ap (λ (v : StreamsView). length v.named) c.loop-place.invariant.view ∙ emptied_to_length c.loop-place.place c.args.text.now c.args.self.now.named in
    omega (arith, size, now)

pub loop-place-preserved : goal.loop-place-preserved
loop-place-preserved g c =
    let w = g.W.World in
    let i : ℕ = c.loop-place.place in
    let next : suc i ≡ i + 1 = sym (add-one i) in
    record {
      view = view_next c.args.text.now i c.args.self.now c.loop-place.self c.bring_at.new.self c.loop-place.invariant.view c.in_ok-bring_at.ensures.same ∙ ap (λ (n : ℕ). record c.args.self.now { named = emptied_to n c.args.text.now c.args.self.now.named }) next;
      open_as = c.in_ok-bring_at.ensures.open;
      sound = c.in_ok-bring_at.ensures.sound;
      brings = λ t. subst (λ (n : ℕ). BringsSome (is_number_among c.args.text.now (take n c.args.self.now.named)) (w.state c.args.world.now) c.args.self.now (Ok tt) (w.state c.bring_at.new.world) c.bring_at.new.self) next
          (some_next c.args.text.now i (w.state c.args.world.now) (w.state c.loop-place.world) (w.state c.bring_at.new.world) c.args.self.now c.loop-place.self c.bring_at.new.self (Ok c.in_ok-bring_at.field-0) c.loop-place.invariant.view (c.loop-place.invariant.brings t) (c.in_ok-bring_at.ensures.told t));
    }

pub returns-in_err-bring_at-clause-told : goal.returns-in_err-bring_at-clause-told
returns-in_err-bring_at-clause-told g c = λ t.
    let w = g.W.World in
    let i : ℕ = c.loop-place.place in
    let p = err_from_is_err_and c.from_residual.result c.from_residual.ensures.1 in
    rw (p.1, p.2)
    (some_failed c.args.text.now (suc i) (w.state c.args.world.now) (w.state c.bring_at.new.world) c.args.self.now c.bring_at.new.self c.in_err-bring_at.field-0.0
    (some_next c.args.text.now i (w.state c.args.world.now) (w.state c.loop-place.world) (w.state c.bring_at.new.world) c.args.self.now c.loop-place.self c.bring_at.new.self (Err c.in_err-bring_at.field-0.0) c.loop-place.invariant.view (c.loop-place.invariant.brings t) (c.in_err-bring_at.ensures.told t)))

pub returns-clause-same : goal.returns-clause-same
returns-clause-same g c =
    let size : length c.args.self.now.named ≡ vec_len c.self.inside.named = ap (λ (v : StreamsView). length v.named) (sym c.self.view_is) ∙ sym c.self.inside.named.ok.0 in
    c.loop-place.invariant.view ∙ ap (λ (xs : List NamedStream). record c.args.self.now { named = xs }) (emptied_to_all c.loop-place.place c.args.text.now c.args.self.now.named (omega (arith, size)))

pub returns-clause-told : goal.returns-clause-told
returns-clause-told g c = λ t.
    let w = g.W.World in
    let size : length c.args.self.now.named ≡ vec_len c.self.inside.named = ap (λ (v : StreamsView). length v.named) (sym c.self.view_is) ∙ sym c.self.inside.named.ok.0 in
    subst (λ (xs : List NamedStream). BringsSome (is_number_among c.args.text.now xs) (w.state c.args.world.now) c.args.self.now (Ok tt) (w.state c.loop-place.world) c.loop-place.self) (take_all c.loop-place.place c.args.self.now.named (omega (arith, size))) (c.loop-place.invariant.brings t)
