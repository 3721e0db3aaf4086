use Rattle.std.proofs.Common.{◌++◌}
use Rattle.awk_streams.specs.definitions.Streams.{StreamsView}
use Rattle.awk_streams.proofs.HoldLemmas.{output_open, output_sound, hold_told}
use Rattle.awk_streams.proofs.streams.Streams.hold.Goals as goal

pub returns-clause-open : goal.returns-clause-open
returns-clause-open c = λ world open'.
    let s : StreamsView = record { main = c.self.inside.main; output = c.self.inside.output; error = c.self.inside.error; named = c.self.inside.named.items } in
    output_open world c.args.self.now s c.hold_both.new.self c.self.view_is open'

pub returns-clause-sound : goal.returns-clause-sound
returns-clause-sound c = λ world sound.
    let s : StreamsView = record { main = c.self.inside.main; output = c.self.inside.output; error = c.self.inside.error; named = c.self.inside.named.items } in
    output_sound world c.args.self.now s c.hold_both.new.self c.self.view_is sound

pub returns-clause-told : goal.returns-clause-told
returns-clause-told c = λ holds world open' sound.
    let s : StreamsView = record { main = c.self.inside.main; output = c.self.inside.output; error = c.self.inside.error; named = c.self.inside.named.items } in
    hold_told world c.args.self.now s c.hold_both.new.self (c.args.front.now ++ c.args.behind.now) c.hold_both.result c.self.view_is c.hold_both.ensures holds open' sound
