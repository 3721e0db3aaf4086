use Rattle.awk_streams.specs.definitions.Streams.{StreamsView}
use Rattle.awk_streams.proofs.MainLemmas.{next_main_open, next_main_sound, next_main_told, not_a_write}
use Rattle.awk_streams.proofs.streams.Streams.next_main.Goals as goal

pub returns-clause-open : goal.returns-clause-open
returns-clause-open g c =
    let w = g.W.World in
    let s : StreamsView = record { main = c.self.inside.main; output = c.self.inside.output; error = c.self.inside.error; named = c.self.inside.named.items } in
    next_main_open (w.state c.args.world.now) (w.state c.next_step.new.world) c.args.self.now s c.in-Some.input c.next_step.new.input c.self.view_is c.in-Some.is c.requires.open c.next_step.ensures.open c.next_step.ensures.same

pub returns-clause-sound : goal.returns-clause-sound
returns-clause-sound g c = λ t.
    let w = g.W.World in
    let s : StreamsView = record { main = c.self.inside.main; output = c.self.inside.output; error = c.self.inside.error; named = c.self.inside.named.items } in
    next_main_sound c.args.separator.now (w.state c.args.world.now) (w.state c.next_step.new.world) c.args.self.now s c.in-Some.input c.next_step.new.input c.next_step.result c.self.view_is c.in-Some.is c.requires.open (c.requires.sound t) c.next_step.ensures.open (c.next_step.ensures.told t)

pub returns-clause-told : goal.returns-clause-told
returns-clause-told g c = λ t.
    let w = g.W.World in
    let s : StreamsView = record { main = c.self.inside.main; output = c.self.inside.output; error = c.self.inside.error; named = c.self.inside.named.items } in
    next_main_told c.args.separator.now (w.state c.args.world.now) (w.state c.next_step.new.world) c.args.self.now s c.in-Some.input c.next_step.new.input c.next_step.result c.told.result c.self.view_is c.in-Some.is c.requires.open (c.requires.sound t) c.next_step.ensures.step (c.next_step.ensures.told t) c.told.ensures.told
    (not_a_write c.told.result c.told.ensures.fault)
