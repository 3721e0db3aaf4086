use Rattle.std.proofs.Common.{refl}
use Rattle.awk_streams.specs.definitions.Streams.{StreamsView}
use Rattle.awk_streams.proofs.SkipLemmas.{skip_told, skip_told_none}
use Rattle.awk_streams.proofs.streams.Streams.skip_main.Goals as goal
use Rattle.awk_streams.proofs.streams.Streams.skip_main.Goals.{in-Some, in_default}

pub returns-clause-told : goal.returns-clause-told
returns-clause-told c = λ separator lines there front each world open' sound.
    let s : StreamsView = record { main = c.self.inside.main; output = c.self.inside.output; error = c.self.inside.error; named = c.self.inside.named.items } in
    elim c.match-self.branch [
      | in-Some w ↦
          rw w.self-inside-is (skip_told c.args.self.now s w.in-Some.input (record { id = w.in-Some.input.id; pending = w.skip.new.self }) c.args.count c.self.view_is w.in-Some.is (record { id = refl; bytes = w.skip.ensures.bytes; ending = w.skip.ensures.ending }) separator lines there front each world open' sound)
      | in_default w ↦ rw w.self-inside-is (skip_told_none c.args.self.now s c.args.count c.self.view_is w.in_default.is separator lines there front each world open' sound)
    ]
