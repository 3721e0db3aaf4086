use Rattle.awk_streams.proofs.WritingLemmas.{writing_fails}
use Rattle.awk_streams.specs.definitions.Streams.{StreamsView}
use Rattle.awk_streams.proofs.PrintLemmas.{print_output, print_error, print_named, print_needs}
use Rattle.awk_streams.proofs.streams.Streams.print.Goals as goal

pub print-requires-in-Named-clause-open : goal.print-requires-in-Named-clause-open
print-requires-in-Named-clause-open g c =
    let s : StreamsView = record { main = c.self.inside.main; output = c.self.inside.output; error = c.self.inside.error; named = c.self.inside.named.items } in
    (print_needs (g.W.World.state c.args.world.now) c.args.self.now s c.in-Named.place c.index_mut.result.now c.self.view_is (rw c.in-Named.is at c.requires.target) c.index_mut.ensures.value c.requires.open).1

pub print-requires-in-Named-clause-output : goal.print-requires-in-Named-clause-output
print-requires-in-Named-clause-output g c =
    let s : StreamsView = record { main = c.self.inside.main; output = c.self.inside.output; error = c.self.inside.error; named = c.self.inside.named.items } in
    (print_needs (g.W.World.state c.args.world.now) c.args.self.now s c.in-Named.place c.index_mut.result.now c.self.view_is (rw c.in-Named.is at c.requires.target) c.index_mut.ensures.value c.requires.open).0

pub returns-in-StandardOutput-clause-open : goal.returns-in-StandardOutput-clause-open
returns-in-StandardOutput-clause-open g c =
    let w = g.W.World in
    let s : StreamsView = record { main = c.self.inside.main; output = c.self.inside.output; error = c.self.inside.error; named = c.self.inside.named.items } in
    (print_output w.is_logged (w.state c.args.world.now) (w.state c.print.new.world) c.args.self.now s c.print.new.self c.args.bytes.now c.print.result c.self.view_is c.requires.open c.requires.sound c.print.ensures.open c.print.ensures.fault c.print.ensures.told).open_as

pub returns-in-StandardOutput-clause-sound : goal.returns-in-StandardOutput-clause-sound
returns-in-StandardOutput-clause-sound g c =
    let w = g.W.World in
    let s : StreamsView = record { main = c.self.inside.main; output = c.self.inside.output; error = c.self.inside.error; named = c.self.inside.named.items } in
    (print_output w.is_logged (w.state c.args.world.now) (w.state c.print.new.world) c.args.self.now s c.print.new.self c.args.bytes.now c.print.result c.self.view_is c.requires.open c.requires.sound c.print.ensures.open c.print.ensures.fault c.print.ensures.told).sound

pub returns-in-StandardOutput-clause-told : goal.returns-in-StandardOutput-clause-told
returns-in-StandardOutput-clause-told g c =
    let w = g.W.World in
    let s : StreamsView = record { main = c.self.inside.main; output = c.self.inside.output; error = c.self.inside.error; named = c.self.inside.named.items } in
    rw c.in-StandardOutput.is
    (print_output w.is_logged (w.state c.args.world.now) (w.state c.print.new.world) c.args.self.now s c.print.new.self c.args.bytes.now c.print.result c.self.view_is c.requires.open c.requires.sound c.print.ensures.open c.print.ensures.fault c.print.ensures.told).told

pub returns-in-StandardError-clause-open : goal.returns-in-StandardError-clause-open
returns-in-StandardError-clause-open g c =
    let w = g.W.World in
    let s : StreamsView = record { main = c.self.inside.main; output = c.self.inside.output; error = c.self.inside.error; named = c.self.inside.named.items } in
    (print_error w.is_logged (w.state c.args.world.now) (w.state c.print-in-StandardError.new.world) c.args.self.now s c.print-in-StandardError.new.self c.args.bytes.now c.print-in-StandardError.result c.self.view_is c.requires.open c.requires.sound c.print-in-StandardError.ensures.open c.print-in-StandardError.ensures.fault c.print-in-StandardError.ensures.told).open_as

pub returns-in-StandardError-clause-sound : goal.returns-in-StandardError-clause-sound
returns-in-StandardError-clause-sound g c =
    let w = g.W.World in
    let s : StreamsView = record { main = c.self.inside.main; output = c.self.inside.output; error = c.self.inside.error; named = c.self.inside.named.items } in
    (print_error w.is_logged (w.state c.args.world.now) (w.state c.print-in-StandardError.new.world) c.args.self.now s c.print-in-StandardError.new.self c.args.bytes.now c.print-in-StandardError.result c.self.view_is c.requires.open c.requires.sound c.print-in-StandardError.ensures.open c.print-in-StandardError.ensures.fault c.print-in-StandardError.ensures.told).sound

pub returns-in-StandardError-clause-told : goal.returns-in-StandardError-clause-told
returns-in-StandardError-clause-told g c =
    let w = g.W.World in
    let s : StreamsView = record { main = c.self.inside.main; output = c.self.inside.output; error = c.self.inside.error; named = c.self.inside.named.items } in
    rw c.in-StandardError.is
    (print_error w.is_logged (w.state c.args.world.now) (w.state c.print-in-StandardError.new.world) c.args.self.now s c.print-in-StandardError.new.self c.args.bytes.now c.print-in-StandardError.result c.self.view_is c.requires.open c.requires.sound c.print-in-StandardError.ensures.open c.print-in-StandardError.ensures.fault c.print-in-StandardError.ensures.told).told

pub returns-in-Named-clause-target : goal.returns-in-Named-clause-target
returns-in-Named-clause-target g c =
    let w = g.W.World in
    let s : StreamsView = record { main = c.self.inside.main; output = c.self.inside.output; error = c.self.inside.error; named = c.self.inside.named.items } in
    rw c.in-Named.is
    (print_named w.is_logged (w.state c.args.world.now) (w.state c.print-in-Named.new.world) c.args.self.now s c.in-Named.place c.index_mut.result.now c.print-in-Named.new.self c.args.bytes.now c.print-in-Named.result c.self.view_is (rw c.in-Named.is at c.requires.target) c.index_mut.ensures.value
    c.requires.open c.requires.sound c.print-in-Named.ensures.open c.print-in-Named.ensures.same c.print-in-Named.ensures.fault c.print-in-Named.ensures.told).target

pub returns-in-Named-clause-open : goal.returns-in-Named-clause-open
returns-in-Named-clause-open g c =
    let w = g.W.World in
    let s : StreamsView = record { main = c.self.inside.main; output = c.self.inside.output; error = c.self.inside.error; named = c.self.inside.named.items } in
    (print_named w.is_logged (w.state c.args.world.now) (w.state c.print-in-Named.new.world) c.args.self.now s c.in-Named.place c.index_mut.result.now c.print-in-Named.new.self c.args.bytes.now c.print-in-Named.result c.self.view_is (rw c.in-Named.is at c.requires.target) c.index_mut.ensures.value
    c.requires.open c.requires.sound c.print-in-Named.ensures.open c.print-in-Named.ensures.same c.print-in-Named.ensures.fault c.print-in-Named.ensures.told).open_as

pub returns-in-Named-clause-sound : goal.returns-in-Named-clause-sound
returns-in-Named-clause-sound g c =
    let w = g.W.World in
    let s : StreamsView = record { main = c.self.inside.main; output = c.self.inside.output; error = c.self.inside.error; named = c.self.inside.named.items } in
    (print_named w.is_logged (w.state c.args.world.now) (w.state c.print-in-Named.new.world) c.args.self.now s c.in-Named.place c.index_mut.result.now c.print-in-Named.new.self c.args.bytes.now c.print-in-Named.result c.self.view_is (rw c.in-Named.is at c.requires.target) c.index_mut.ensures.value
    c.requires.open c.requires.sound c.print-in-Named.ensures.open c.print-in-Named.ensures.same c.print-in-Named.ensures.fault c.print-in-Named.ensures.told).sound

pub returns-in-Named-clause-told : goal.returns-in-Named-clause-told
returns-in-Named-clause-told g c =
    let w = g.W.World in
    let s : StreamsView = record { main = c.self.inside.main; output = c.self.inside.output; error = c.self.inside.error; named = c.self.inside.named.items } in
    rw c.in-Named.is
    (print_named w.is_logged (w.state c.args.world.now) (w.state c.print-in-Named.new.world) c.args.self.now s c.in-Named.place c.index_mut.result.now c.print-in-Named.new.self c.args.bytes.now c.print-in-Named.result c.self.view_is (rw c.in-Named.is at c.requires.target) c.index_mut.ensures.value
    c.requires.open c.requires.sound c.print-in-Named.ensures.open c.print-in-Named.ensures.same c.print-in-Named.ensures.fault c.print-in-Named.ensures.told).told

-- a failure is the world's

pub returns-in-StandardOutput-clause-fails : goal.returns-in-StandardOutput-clause-fails
returns-in-StandardOutput-clause-fails g c = λ t. let w = g.W.World in writing_fails _ _ (w.state c.args.world.now) (w.state c.print.new.world) c.print.result (c.print.ensures.told t).writes

pub returns-in-StandardError-clause-fails : goal.returns-in-StandardError-clause-fails
returns-in-StandardError-clause-fails g c = λ t. let w = g.W.World in writing_fails _ _ (w.state c.args.world.now) (w.state c.print-in-StandardError.new.world) c.print-in-StandardError.result (c.print-in-StandardError.ensures.told t).writes

pub returns-in-Named-clause-fails : goal.returns-in-Named-clause-fails
returns-in-Named-clause-fails g c = λ t. let w = g.W.World in writing_fails _ _ (w.state c.args.world.now) (w.state c.print-in-Named.new.world) c.print-in-Named.result (c.print-in-Named.ensures.told t).writes
