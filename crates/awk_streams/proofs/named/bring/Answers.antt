use Rattle.std.proofs.Common.{◌≡◌, ◌+◌, ℕ, suc, List, take, drop, set, get_or, Some, Ok, Err, refl, sym, ◌∙◌, subst, arith}
use Rattle.std.specs.Prelude.{slice_get}
use Rattle.std.proofs.Math.Numerals.{add-one}
use Rattle.std.proofs.lemmas.List.{take_all, drop_all}
use Rattle.std.proofs.lemmas.Option.{slice_get-get_or}
use Rattle.std.proofs.lemmas.Result.{err_from_is_err_and}
use Rattle.awk_streams.specs.declared.named.NamedStream.{NamedStream}
use Rattle.awk_streams.specs.definitions.Streams.{held_in}
use Rattle.awk_streams.specs.support.Held.{AreEmpty}
use Rattle.awk_streams.specs.support.Brings.{AreFlushedBut}
use Rattle.awk_streams.proofs.StreamsLemmas.{but_held_numbered, open_named_by}
use Rattle.awk_streams.proofs.BringLemmas.{brings-self}
use Rattle.awk_streams.proofs.NamedLemmas.{open_at, unheld_set, empty_set, flush_each, flushed_each, flush_fails, flush_no_failure}
use Rattle.awk_streams.proofs.named.bring.Goals as goal

pub loop-stream-init : goal.loop-stream-init
loop-stream-init g c = record {
  same_open = λ j. refl;
  same_named = refl;
  empty = tt;
  brings = λ t apart sound. brings-self (g.W.World.state c.args.world.now) (held_in c.args.named.now) tt;
  flushed = λ t flushed. flushed;
  no_failure = λ t. refl;
}

pub flush-requires : goal.flush-requires
flush-requires g c =
    let now : List NamedStream = c.loop-stream.named in
    let x : NamedStream = get_or now c.loop-stream.stream-index c.stream-item.result in
    let at : slice_get now c.loop-stream.stream-index ≡ Some x = slice_get-get_or now c.loop-stream.stream-index c.stream-item.result (omega arith) in
    let open' = open_named_by (g.W.World.state c.args.world.now) c.args.named.now now (but_held_numbered c.args.named.now now c.loop-stream.invariant.same_named) c.requires in
    c.loop-stream.invariant.same_open _ ∙ (open_at (g.W.World.state c.args.world.now) now c.loop-stream.stream-index x open' at).0

pub loop-stream-preserved : goal.loop-stream-preserved
loop-stream-preserved g c =
    let w = g.W.World in
    let now : List NamedStream = c.loop-stream.named in
    let i : ℕ = c.loop-stream.stream-index in
    let x : NamedStream = get_or now i c.stream-item.result in
    let y : NamedStream = c.flush.new.self in
    let at : slice_get now i ≡ Some x = slice_get-get_or now i c.stream-item.result (omega arith) in
    let next : i + 1 ≡ suc i = add-one i in
    record {
      same_open = λ j. c.in_ok-flush.ensures.open j ∙ c.loop-stream.invariant.same_open j;
      same_named = unheld_set now i x y at c.in_ok-flush.ensures.same ∙ c.loop-stream.invariant.same_named;
      empty = subst (λ (n : ℕ). AreEmpty (take n (set now i y))) (sym next) (empty_set now i y c.in_ok-flush.ensures.empty c.loop-stream.invariant.empty);
      brings = λ t apart sound.
          flush_each (w.state c.args.world.now) (w.state c.loop-stream.world) (w.state c.flush.new.world) c.args.named.now now i x y (Ok tt) (Ok c.in_ok-flush.field-0) c.loop-stream.invariant.same_named apart sound at c.in_ok-flush.ensures.same
          c.in_ok-flush.ensures.empty c.in_ok-flush.ensures.open (c.loop-stream.invariant.brings t apart sound) (c.in_ok-flush.ensures.told t);
      flushed = λ t flushed.
          subst (λ (n : ℕ). AreFlushedBut (held_in (drop n (set now i y))) (w.state c.flush.new.world).log) (sym next)
          (flushed_each (w.state c.loop-stream.world) (w.state c.flush.new.world) now i x y c.in_ok-flush.field-0 at (c.in_ok-flush.ensures.told t) (c.loop-stream.invariant.flushed t flushed));
      no_failure = λ t. flush_no_failure (w.state c.loop-stream.world) (w.state c.flush.new.world) x c.in_ok-flush.field-0 (c.in_ok-flush.ensures.told t) ∙ c.loop-stream.invariant.no_failure t;
    }

-- one that could not be flushed

pub returns-in_err-flush-clause-same : goal.returns-in_err-flush-clause-same
returns-in_err-flush-clause-same g c =
    let now : List NamedStream = c.loop-stream.named in
    let i : ℕ = c.loop-stream.stream-index in
    unheld_set now i (get_or now i c.stream-item.result) c.flush.new.self (slice_get-get_or now i c.stream-item.result (omega arith)) c.in_err-flush.ensures.same ∙ c.loop-stream.invariant.same_named

pub returns-in_err-flush-clause-told : goal.returns-in_err-flush-clause-told
returns-in_err-flush-clause-told g c = λ t apart sound.
    let w = g.W.World in
    let now : List NamedStream = c.loop-stream.named in
    let i : ℕ = c.loop-stream.stream-index in
    let x : NamedStream = get_or now i c.stream-item.result in
    let y : NamedStream = c.flush.new.self in
    let at : slice_get now i ≡ Some x = slice_get-get_or now i c.stream-item.result (omega arith) in
    let p = err_from_is_err_and c.from_residual.result c.from_residual.ensures.1 in
    rw (p.1, p.2)
    (flush_each (w.state c.args.world.now) (w.state c.loop-stream.world) (w.state c.flush.new.world) c.args.named.now now i x y (Ok tt) (Err c.in_err-flush.field-0.0) c.loop-stream.invariant.same_named apart sound at c.in_err-flush.ensures.same
    c.in_err-flush.ensures.empty c.in_err-flush.ensures.open (c.loop-stream.invariant.brings t apart sound) (c.in_err-flush.ensures.told t))

pub returns-in_err-flush-clause-fails : goal.returns-in_err-flush-clause-fails
returns-in_err-flush-clause-fails g c =
    let w = g.W.World in
    let p = err_from_is_err_and c.from_residual.result c.from_residual.ensures.1 in
    rw (p.1, p.2)
    (λ t. flush_fails (w.state c.args.world.now) (w.state c.loop-stream.world) (w.state c.flush.new.world) (get_or c.loop-stream.named c.loop-stream.stream-index c.stream-item.result) c.in_err-flush.field-0.0 (c.loop-stream.invariant.no_failure t)
    (c.in_err-flush.ensures.told t))

-- all were flushed

pub returns-clause-empty : goal.returns-clause-empty
returns-clause-empty g c = subst (λ l. AreEmpty l) (take_all c.loop-stream.stream-index c.loop-stream.named (omega arith)) c.loop-stream.invariant.empty

pub returns-clause-told : goal.returns-clause-told
returns-clause-told g c = λ t apart sound. c.loop-stream.invariant.brings t apart sound

pub returns-clause-flushed : goal.returns-clause-flushed
returns-clause-flushed g c = λ t flushed.
    subst (λ l. AreFlushedBut (held_in l) (g.W.World.state c.loop-stream.world).log) (drop_all c.loop-stream.stream-index c.loop-stream.named (omega arith)) (c.loop-stream.invariant.flushed t flushed)
