use Rattle.std.proofs.Common.{None, refl}
use Rattle.awk_world.specs.declared.world.WorldFault.TheVariants.{Memory}
use Rattle.awk_streams.specs.definitions.Streams.{StreamsView}
use Rattle.awk_streams.proofs.ViewLemmas.{keeps_open}
use Rattle.awk_streams.proofs.GrowsLemmas.{fails_now}
use Rattle.awk_streams.proofs.OpenLemmas.{empty_pending, left_sound, refuses_input, same_sound}
use Rattle.awk_streams.proofs.MainLemmas.{open_main_open, open_main_sound, open_main_told, open_main_refused, open_main_unasked}
use Rattle.awk_streams.proofs.streams.Streams.open_main.Goals as goal

pub returns-in-Ok-clause-open : goal.returns-in-Ok-clause-open
returns-in-Ok-clause-open g c =
    let w = g.W.World in
    let s : StreamsView = record { main = c.self.inside.main; output = c.self.inside.output; error = c.self.inside.error; named = c.self.inside.named.items } in
    open_main_open (w.state c.args.world.now) (w.state c.open_input.new.self) c.args.self.now s c.in-Ok.id c.new-pending.result c.self.view_is c.requires.open c.in-Ok.ensures.fresh c.in-Ok.ensures.opens

pub returns-in-Ok-clause-sound : goal.returns-in-Ok-clause-sound
returns-in-Ok-clause-sound g c = λ t.
    let w = g.W.World in
    let s : StreamsView = record { main = c.self.inside.main; output = c.self.inside.output; error = c.self.inside.error; named = c.self.inside.named.items } in
    open_main_sound (w.state c.args.world.now) (w.state c.open_input.new.self) c.args.self.now s c.args.kind c.args.name.now c.in-Ok.id c.new-pending.result c.self.view_is c.requires.none c.requires.plain (empty_pending c.new-pending.result c.new-pending.ensures.bytes c.new-pending.ensures.ending) c.requires.open (c.requires.sound t)
    c.in-Ok.ensures.fresh c.in-Ok.ensures.opens (c.in-Ok.ensures.logs t).0

pub returns-in-Ok-clause-told : goal.returns-in-Ok-clause-told
returns-in-Ok-clause-told g c = λ t.
    let w = g.W.World in
    let s : StreamsView = record { main = c.self.inside.main; output = c.self.inside.output; error = c.self.inside.error; named = c.self.inside.named.items } in
    open_main_told (w.state c.args.world.now) (w.state c.open_input.new.self) c.args.self.now s c.args.kind c.args.name.now c.in-Ok.id c.new-pending.result tt c.self.view_is (empty_pending c.new-pending.result c.new-pending.ensures.bytes c.new-pending.ensures.ending) c.requires.open
    c.in-Ok.ensures.fresh c.in-Ok.ensures.opens (c.in-Ok.ensures.logs t).0 (c.in-Ok.ensures.logs t).1

pub returns-in-Err-Failed-clause-open : goal.returns-in-Err-Failed-clause-open
returns-in-Err-Failed-clause-open g c = let w = g.W.World in keeps_open (w.state c.args.world.now) (w.state c.open_input.new.self) c.args.self.now c.args.self.now c.in-Err-Failed.ensures.err refl refl c.requires.open

pub returns-in-Err-Failed-clause-sound : goal.returns-in-Err-Failed-clause-sound
returns-in-Err-Failed-clause-sound g c = λ t.
    let w = g.W.World in
    left_sound (w.state c.args.world.now) (w.state c.open_input.new.self) c.args.self.now _ (c.requires.sound t) (refuses_input c.args.kind c.args.name.now (w.state c.args.world.now).log) c.in-Err-Failed.ensures.err (rw c.in-Err-Failed.field-0-is at (c.in-Err-Failed.ensures.logs t)).0

pub returns-in-Err-Failed-clause-told : goal.returns-in-Err-Failed-clause-told
returns-in-Err-Failed-clause-told g c = λ t.
    let w = g.W.World in
    let logs = rw c.in-Err-Failed.field-0-is at (c.in-Err-Failed.ensures.logs t) in
    open_main_refused c.args.kind c.args.name.now (w.state c.args.world.now) (w.state c.open_input.new.self) c.args.self.now logs.0 logs.1

pub returns-in-Err-Memory-clause-open : goal.returns-in-Err-Memory-clause-open
returns-in-Err-Memory-clause-open g c = let w = g.W.World in keeps_open (w.state c.args.world.now) (w.state c.open_input.new.self) c.args.self.now c.args.self.now c.in-Err-Memory.ensures.err refl refl c.requires.open

pub returns-in-Err-Memory-clause-sound : goal.returns-in-Err-Memory-clause-sound
returns-in-Err-Memory-clause-sound g c = λ t.
    let w = g.W.World in
    same_sound (w.state c.args.world.now) (w.state c.open_input.new.self) c.args.self.now (c.requires.sound t) c.in-Err-Memory.ensures.err (rw c.in-Err-Memory.field-0-is at (c.in-Err-Memory.ensures.logs t)).0

pub returns-in-Err-Memory-clause-told : goal.returns-in-Err-Memory-clause-told
returns-in-Err-Memory-clause-told g c = λ t.
    let w = g.W.World in
    open_main_unasked c.args.kind c.args.name.now (w.state c.args.world.now) (w.state c.open_input.new.self) c.args.self.now (rw c.in-Err-Memory.field-0-is at (c.in-Err-Memory.ensures.logs t))

-- want of memory is the world's
pub returns-in-Err-Memory-clause-memory : goal.returns-in-Err-Memory-clause-memory
returns-in-Err-Memory-clause-memory g c = λ t memory.
    let w = g.W.World in
    fails_now None Memory (w.state c.args.world.now) (w.state c.open_input.new.self) (rw c.in-Err-Memory.field-0-is at (c.in-Err-Memory.ensures.logs t))
