use Rattle.std.proofs.lemmas.Result.{err_from_is_err_and}
use Rattle.std.proofs.Common.{rules, ◌≡◌, [], ◌∷◌, ◌++◌, Some, None, refl, ap, ◌∙◌}
use Rattle.std.specs.Prelude.{is_some, length}
use Rattle.awk_world.specs.definitions.Log.{OpenedOutput}
use Rattle.awk_streams.specs.definitions.Streams.{StreamsView, number_of_some}
use Rattle.awk_streams.specs.support.Asks.{new_output}
use Rattle.awk_streams.proofs.NamesLemmas.{none_found}
use Rattle.awk_streams.proofs.OpenLemmas.{stands_last, finds_none, world_finds_none, asked_open, asked_sound, output_items, grants_output, new_output_sound, no_output, refused_open, refused_sound, refuses_output}
use Rattle.awk_streams.proofs.streams.Streams.ask_output.Goals as goal

pub returns-in-Ok-clause-open : goal.returns-in-Ok-clause-open
returns-in-Ok-clause-open g c =
    let w = g.W.World in
    let s : StreamsView = record { main = c.self.inside.main; output = c.self.inside.output; error = c.self.inside.error; named = c.self.inside.named.items } in
    let items : c.add.new.named.items ≡ c.args.self.now.named ++ new_output c.args.kind c.args.name.now c.in-Ok.id ∷ [] =
    output_items c.reserve.new.self.items c.args.self.now.named c.add.new.named.items c.args.kind c.args.name.now c.in_ok-name_copy.name_copy c.in-Ok.id c.make_room.new.self c.add.ensures (c.in_ok-reserve.ensures.items ∙ ap (λ (v : StreamsView). v.named) c.self.view_is) c.in_ok-name_copy.ensures.cases
    (c.make_room.ensures.same ∙ c.new-held.ensures) in
    asked_open (w.state c.args.world.now) (w.state c.open_output.new.self) c.args.self.now s c.add.new.named.items c.in-Ok.id (new_output c.args.kind c.args.name.now c.in-Ok.id) c.self.view_is items c.requires.open c.in-Ok.ensures.fresh c.in-Ok.ensures.opens refl

pub returns-in-Ok-clause-sound : goal.returns-in-Ok-clause-sound
returns-in-Ok-clause-sound g c = λ t.
    let w = g.W.World in
    let s : StreamsView = record { main = c.self.inside.main; output = c.self.inside.output; error = c.self.inside.error; named = c.self.inside.named.items } in
    let items : c.add.new.named.items ≡ c.args.self.now.named ++ new_output c.args.kind c.args.name.now c.in-Ok.id ∷ [] =
    output_items c.reserve.new.self.items c.args.self.now.named c.add.new.named.items c.args.kind c.args.name.now c.in_ok-name_copy.name_copy c.in-Ok.id c.make_room.new.self c.add.ensures (c.in_ok-reserve.ensures.items ∙ ap (λ (v : StreamsView). v.named) c.self.view_is) c.in_ok-name_copy.ensures.cases
    (c.make_room.ensures.same ∙ c.new-held.ensures) in
    asked_sound (w.state c.args.world.now) (w.state c.open_output.new.self) c.args.self.now s c.add.new.named.items c.in-Ok.id (OpenedOutput c.args.kind c.args.name.now c.args.mode (Some c.in-Ok.id)) (new_output c.args.kind c.args.name.now c.in-Ok.id) c.self.view_is items c.requires.open (c.requires.sound t)
    (grants_output c.in-Ok.id c.args.kind c.args.name.now c.args.mode (w.state c.args.world.now).log) c.in-Ok.ensures.fresh c.in-Ok.ensures.opens (rw c.as_slice.ensures at (c.in-Ok.ensures.logs t).0) (new_output_sound c.args.kind c.args.name.now c.args.mode c.in-Ok.id (w.state c.args.world.now).log)
    refl (no_output c.args.kind c.args.name.now c.args.self.now.named (none_found _ c.args.self.now.named c.requires.lacks)) c.requires.few

pub returns-in-Err-Failed-clause-open : goal.returns-in-Err-Failed-clause-open
returns-in-Err-Failed-clause-open g c =
    let w = g.W.World in
    let s : StreamsView = record { main = c.self.inside.main; output = c.self.inside.output; error = c.self.inside.error; named = c.self.inside.named.items } in
    refused_open (w.state c.args.world.now) (w.state c.open_output.new.self) c.args.self.now s c.reserve.new.self.items c.self.view_is c.in_ok-reserve.ensures.items c.requires.open c.in-Err-Failed.ensures.err

pub returns-in-Err-Failed-clause-sound : goal.returns-in-Err-Failed-clause-sound
returns-in-Err-Failed-clause-sound g c = λ t.
    let w = g.W.World in
    let s : StreamsView = record { main = c.self.inside.main; output = c.self.inside.output; error = c.self.inside.error; named = c.self.inside.named.items } in
    refused_sound (w.state c.args.world.now) (w.state c.open_output.new.self) c.args.self.now s c.reserve.new.self.items (OpenedOutput c.args.kind c.args.name.now c.args.mode None) c.self.view_is c.in_ok-reserve.ensures.items (c.requires.sound t)
    (refuses_output c.args.kind c.args.name.now c.args.mode (w.state c.args.world.now).log) c.in-Err-Failed.ensures.err (rw (c.in-Err-Failed.field-0-is, c.as_slice.ensures) at (c.in-Err-Failed.ensures.logs t)).0

pub returns-clause-open : goal.returns-clause-open
returns-clause-open g c =
    let w = g.W.World in
    let s : StreamsView = record { main = c.self.inside.main; output = c.self.inside.output; error = c.self.inside.error; named = c.self.inside.named.items } in
    refused_open (w.state c.args.world.now) (w.state c.open_output.new.self) c.args.self.now s c.reserve.new.self.items c.self.view_is c.in_ok-reserve.ensures.items c.requires.open c.in-Err-Memory.ensures.err

pub returns-in_err-reserve-clause-told : goal.returns-in_err-reserve-clause-told
returns-in_err-reserve-clause-told g c = λ t.
    let s : StreamsView = record { main = c.self.inside.main; output = c.self.inside.output; error = c.self.inside.error; named = c.self.inside.named.items } in
    let p = err_from_is_err_and c.from_residual.result c.from_residual.ensures.1 in
    rw (p.1, p.2) (finds_none (g.W.World.state c.args.world.now) c.args.self.now s c.reserve.new.self.items c.self.view_is c.in_err-reserve.ensures.items)

pub returns-in_err-name_copy-clause-told : goal.returns-in_err-name_copy-clause-told
returns-in_err-name_copy-clause-told g c = λ t.
    let s : StreamsView = record { main = c.self.inside.main; output = c.self.inside.output; error = c.self.inside.error; named = c.self.inside.named.items } in
    let p = err_from_is_err_and c.from_residual-in_err-name_copy.result c.from_residual-in_err-name_copy.ensures.1 in
    rw (p.1, p.2) (finds_none (g.W.World.state c.args.world.now) c.args.self.now s c.reserve.new.self.items c.self.view_is c.in_ok-reserve.ensures.items)

pub returns-in_err-make_room-clause-told : goal.returns-in_err-make_room-clause-told
returns-in_err-make_room-clause-told g c = λ t.
    let s : StreamsView = record { main = c.self.inside.main; output = c.self.inside.output; error = c.self.inside.error; named = c.self.inside.named.items } in
    let p = err_from_is_err_and c.from_residual-in_err-make_room.result c.from_residual-in_err-make_room.ensures.1 in
    rw (p.1, p.2) (finds_none (g.W.World.state c.args.world.now) c.args.self.now s c.reserve.new.self.items c.self.view_is c.in_ok-reserve.ensures.items)

pub returns-in-Ok-clause-target : goal.returns-in-Ok-clause-target
returns-in-Ok-clause-target g c =
    let at : c.len-place.result ≡ length c.reserve.new.self.items = search rules in
    ap (λ o. is_some (number_of_some o)) (stands_last c.reserve.new.self.items c.add.new.named.items _ c.len-place.result c.add.ensures at)

pub returns-clause-told : goal.returns-clause-told
returns-clause-told g c = λ t.
    let w = g.W.World in
    let s : StreamsView = record { main = c.self.inside.main; output = c.self.inside.output; error = c.self.inside.error; named = c.self.inside.named.items } in
    world_finds_none (w.state c.args.world.now) (w.state c.open_output.new.self) c.args.self.now s c.reserve.new.self.items c.self.view_is c.in_ok-reserve.ensures.items c.in-Err-Memory.ensures.err (rw c.in-Err-Memory.field-0-is at (c.in-Err-Memory.ensures.logs t))
