use Rattle.std.proofs.Common.{ap, ◌∙◌}
use Rattle.awk_streams.specs.definitions.Streams.{StreamsView}
use Rattle.awk_streams.proofs.HoldLemmas.{output_open, output_sound, output_told}
use Rattle.awk_streams.proofs.streams.Streams.take_output_back.Goals as goal

pub returns-clause-open : goal.returns-clause-open
returns-clause-open c = λ world open'.
    let s : StreamsView = record { main = c.self.inside.main; output = c.self.inside.output; error = c.self.inside.error; named = c.self.inside.named.items } in
    output_open world c.args.self.now s c.take_back.new.self c.self.view_is open'

pub returns-clause-sound : goal.returns-clause-sound
returns-clause-sound c = λ world sound.
    let s : StreamsView = record { main = c.self.inside.main; output = c.self.inside.output; error = c.self.inside.error; named = c.self.inside.named.items } in
    output_sound world c.args.self.now s c.take_back.new.self c.self.view_is sound

pub returns-clause-told : goal.returns-clause-told
returns-clause-told c = λ front bytes is world open' sound.
    let s : StreamsView = record { main = c.self.inside.main; output = c.self.inside.output; error = c.self.inside.error; named = c.self.inside.named.items } in
    output_told world record c.args.self.now { output = front } record s { output = front } c.take_back.new.self bytes (ap (λ (v : StreamsView). record v { output = front }) c.self.view_is) (c.take_back.ensures ∙ is) open' sound
