use Rattle.std.proofs.Common.{◌≡◌, ap, refl, ℕ, ◌+◌, length, ◌||◌, ◌-◌, nat_lt}
use Rattle.awk_world.specs.definitions.Script.{GrantedStream, stream_of}
use Rattle.awk_world.specs.definitions.ScriptAnswers.{place_after}
use Rattle.awk_world.proofs.ScriptLemmas.{open_at-set, streams_of-advanced}
use Rattle.awk_world.proofs.script_stream.advance.Goals as goal

pub returns-clause-streams : goal.returns-clause-streams
returns-clause-streams c =
    let place : c.next_place-stream.result ≡ place_after c.index_mut-stream.result.now.ending (length c.index_mut-stream.result.now.bytes.items) (c.index_mut-stream.result.now.at + c.args.count) = cc in
    streams_of-advanced c.args.streams.now.items (c.args.id - 2) c.args.count c.index_mut-stream.result.now _ c.requires.within c.index_mut-stream.ensures.value
    (ap (λ (n : ℕ). let s : GrantedStream = record (stream_of c.index_mut-stream.result.now) { at = n } in s) place)

pub returns-clause-open : goal.returns-clause-open
returns-clause-open c = λ j. ap (λ b. nat_lt j 2 || b) (open_at-set c.args.streams.now.items (c.args.id - 2) (j - 2) c.index_mut-stream.result.now _ c.index_mut-stream.ensures.value refl)
