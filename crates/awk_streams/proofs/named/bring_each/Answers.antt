use Rattle.std.proofs.Common.{◌≡◌, ◌+◌, ℕ, suc, List, take, drop, set, get_or, Some, Ok, Result, refl, sym, ◌∙◌, subst, arith}
use Rattle.std.specs.Prelude.{slice_get, OnOk}
use Rattle.std.specs.Result.{result_and}
use Rattle.std.proofs.Math.Numerals.{add-one}
use Rattle.std.proofs.lemmas.List.{take_all, drop_all}
use Rattle.std.proofs.lemmas.Option.{slice_get-get_or}
use Rattle.awk_streams.specs.declared.fault.StreamFault.{StreamFault}
use Rattle.awk_streams.specs.declared.named.NamedStream.{NamedStream}
use Rattle.awk_streams.specs.definitions.Streams.{held_in}
use Rattle.awk_streams.specs.definitions.Outputs.{IsOutputFault}
use Rattle.awk_streams.specs.definitions.Commands.{BringsEach}
use Rattle.awk_streams.specs.support.Held.{AreEmpty}
use Rattle.awk_streams.specs.support.Brings.{AreFlushedBut, FlushesNamed}
use Rattle.awk_streams.proofs.StreamsLemmas.{but_held_numbered, open_named_by}
use Rattle.awk_streams.proofs.BringLemmas.{brings-self}
use Rattle.awk_streams.proofs.NamedLemmas.{open_at, unheld_set, empty_set, flush_each, flushed_each, and_then_ok, ok_under, err_and}
use Rattle.awk_streams.proofs.EachLemmas.{and_then, and_nothing, each_next}
use Rattle.awk_streams.proofs.named.bring_each.Goals as goal

pub loop-stream-init : goal.loop-stream-init
loop-stream-init g c = record {
  same_open = λ j. refl;
  same_named = refl;
  empty = tt;
  fault = tt;
  brings = λ t apart sound. brings-self (g.W.World.state c.args.world.now) (held_in c.args.named.now) tt;
  flushed = λ t flushed. flushed;
  each = λ t rest after brings. brings;
}

pub flush-flushed-requires : goal.flush-flushed-requires
flush-flushed-requires g c =
    let now : List NamedStream = c.loop-stream.named in
    let x : NamedStream = get_or now c.loop-stream.stream-index c.stream-item.result in
    let at : slice_get now c.loop-stream.stream-index ≡ Some x = slice_get-get_or now c.loop-stream.stream-index c.stream-item.result (omega arith) in
    let open' = open_named_by (g.W.World.state c.args.world.now) c.args.named.now now (but_held_numbered c.args.named.now now c.loop-stream.invariant.same_named) c.requires in
    c.loop-stream.invariant.same_open _ ∙ (open_at (g.W.World.state c.args.world.now) now c.loop-stream.stream-index x open' at).0

pub loop-stream-preserved : goal.loop-stream-preserved
loop-stream-preserved g c =
    let w = g.W.World in
    let now : List NamedStream = c.loop-stream.named in
    let i : ℕ = c.loop-stream.stream-index in
    let x : NamedStream = get_or now i c.stream-item.result in
    let y : NamedStream = c.flush-flushed.new.self in
    let at : slice_get now i ≡ Some x = slice_get-get_or now i c.stream-item.result (omega arith) in
    let next : i + 1 ≡ suc i = add-one i in
    record {
      same_open = λ j. c.flush-flushed.ensures.open j ∙ c.loop-stream.invariant.same_open j;
      same_named = unheld_set now i x y at c.flush-flushed.ensures.same ∙ c.loop-stream.invariant.same_named;
      empty = subst (λ (n : ℕ). AreEmpty (take n (set now i y))) (sym next) (empty_set now i y c.flush-flushed.ensures.empty c.loop-stream.invariant.empty);
      fault = rw c.and-brought.ensures (err_and IsOutputFault c.loop-stream.brought c.flush-flushed.result c.loop-stream.invariant.fault c.flush-flushed.ensures.fault);
      brings = λ t apart sound.
          rw c.and-brought.ensures
          (flush_each (w.state c.args.world.now) (w.state c.loop-stream.world) (w.state c.flush-flushed.new.world) c.args.named.now now i x y c.loop-stream.brought c.flush-flushed.result c.loop-stream.invariant.same_named apart sound at c.flush-flushed.ensures.same
          c.flush-flushed.ensures.empty c.flush-flushed.ensures.open (c.loop-stream.invariant.brings t apart sound) (c.flush-flushed.ensures.told t));
      flushed = λ t. rw c.and-brought.ensures
          (and_then_ok _ (AreFlushedBut (held_in (drop i now)) (w.state c.loop-stream.world).log) _ c.loop-stream.brought c.flush-flushed.result (c.loop-stream.invariant.flushed t)
          (λ u ok flushed. subst (λ (n : ℕ). AreFlushedBut (held_in (drop n (set now i y))) (w.state c.flush-flushed.new.world).log) (sym next)
          (flushed_each (w.state c.loop-stream.world) (w.state c.flush-flushed.new.world) now i x y u at
          (subst (λ (r : Result (Unit {0}) StreamFault). FlushesNamed x (w.state c.loop-stream.world) r (w.state c.flush-flushed.new.world)) ok (c.flush-flushed.ensures.told t)) flushed)));
      each = λ t rest after brings.
          let brings' : BringsEach (held_in (drop (suc i) (set now i y))) (w.state c.flush-flushed.new.world) rest after = subst (λ (n : ℕ). BringsEach (held_in (drop n (set now i y))) (w.state c.flush-flushed.new.world) rest after) next brings in
          let here = c.loop-stream.invariant.each t (result_and c.flush-flushed.result rest) after (each_next (w.state c.loop-stream.world) (w.state c.flush-flushed.new.world) after now i x y c.flush-flushed.result rest at (c.flush-flushed.ensures.told t) brings') in
          rw c.and-brought.ensures
          (subst (λ (r : Result (Unit {0}) StreamFault). BringsEach (held_in c.args.named.now) (w.state c.args.world.now) r after) (sym (and_then c.loop-stream.brought c.flush-flushed.result rest)) here);
    }

-- all were flushed

pub returns-clause-empty : goal.returns-clause-empty
returns-clause-empty g c = subst (λ l. AreEmpty l) (take_all c.loop-stream.stream-index c.loop-stream.named (omega arith)) c.loop-stream.invariant.empty

pub returns-clause-told : goal.returns-clause-told
returns-clause-told g c = λ t apart sound. c.loop-stream.invariant.brings t apart sound

pub returns-clause-flushed : goal.returns-clause-flushed
returns-clause-flushed g c =
    ok_under _ _ _ c.loop-stream.brought (λ t.
    subst (λ l. OnOk c.loop-stream.brought (AreFlushedBut (held_in c.args.named.now) (g.W.World.state c.args.world.now).log → AreFlushedBut (held_in l) (g.W.World.state c.loop-stream.world).log))
    (drop_all c.loop-stream.stream-index c.loop-stream.named (omega arith)) (c.loop-stream.invariant.flushed t))

pub returns-clause-each : goal.returns-clause-each
returns-clause-each g c = λ t.
    let now = g.W.World.state c.loop-stream.world in
    let none = drop_all c.loop-stream.stream-index c.loop-stream.named (omega arith) in
    let behind : BringsEach (held_in (drop c.loop-stream.stream-index c.loop-stream.named)) now (Ok tt) now = subst (λ l. BringsEach (held_in l) now (Ok tt) now) (sym none) (refl, refl) in
    subst (λ (r : Result (Unit {0}) StreamFault). BringsEach (held_in c.args.named.now) (g.W.World.state c.args.world.now) r now) (and_nothing c.loop-stream.brought) (c.loop-stream.invariant.each t (Ok tt) now behind)
