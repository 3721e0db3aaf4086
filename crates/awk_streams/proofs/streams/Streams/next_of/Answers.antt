use Rattle.std.proofs.Common.{sym, ap, ◌∙◌}
use Rattle.awk_streams.specs.definitions.Streams.{StreamsView}
use Rattle.awk_streams.proofs.InputCallLemmas.{input_place}
use Rattle.awk_streams.proofs.NextLemmas.{next_at, next_needs, next_open, next_call_sound, next_call_told}
use Rattle.awk_streams.proofs.streams.Streams.next_of.Goals as goal

pub next-requires-clause-input : goal.next-requires-clause-input
next-requires-clause-input g c =
    let w = g.W.World in
    let s : StreamsView = record { main = c.self.inside.main; output = c.self.inside.output; error = c.self.inside.error; named = c.self.inside.named.items } in
    let at = next_at c.args.kind c.args.name.now c.args.self.now s c.in-Some.place c.index_mut.result.now c.self.view_is (input_place c.args.kind c.args.name.now c.as_slice.result.now c.args.self.now.named c.deref.result.now c.as_slice.ensures (c.deref.ensures.value ∙ ap (λ (v : StreamsView). v.named) c.self.view_is) ∙ (sym c.find_input.ensures ∙ c.in-Some.is)) c.index_mut.ensures.value in
    (next_needs c.args.kind c.args.name.now (w.state c.args.world.now) c.args.self.now s c.in-Some.place c.index_mut.result.now c.self.view_is c.requires.open at).0

pub next-requires-clause-open : goal.next-requires-clause-open
next-requires-clause-open g c =
    let w = g.W.World in
    let s : StreamsView = record { main = c.self.inside.main; output = c.self.inside.output; error = c.self.inside.error; named = c.self.inside.named.items } in
    let at = next_at c.args.kind c.args.name.now c.args.self.now s c.in-Some.place c.index_mut.result.now c.self.view_is (input_place c.args.kind c.args.name.now c.as_slice.result.now c.args.self.now.named c.deref.result.now c.as_slice.ensures (c.deref.ensures.value ∙ ap (λ (v : StreamsView). v.named) c.self.view_is) ∙ (sym c.find_input.ensures ∙ c.in-Some.is)) c.index_mut.ensures.value in
    (next_needs c.args.kind c.args.name.now (w.state c.args.world.now) c.args.self.now s c.in-Some.place c.index_mut.result.now c.self.view_is c.requires.open at).1

pub returns-clause-open : goal.returns-clause-open
returns-clause-open g c =
    let w = g.W.World in
    let s : StreamsView = record { main = c.self.inside.main; output = c.self.inside.output; error = c.self.inside.error; named = c.self.inside.named.items } in
    let at = next_at c.args.kind c.args.name.now c.args.self.now s c.in-Some.place c.index_mut.result.now c.self.view_is (input_place c.args.kind c.args.name.now c.as_slice.result.now c.args.self.now.named c.deref.result.now c.as_slice.ensures (c.deref.ensures.value ∙ ap (λ (v : StreamsView). v.named) c.self.view_is) ∙ (sym c.find_input.ensures ∙ c.in-Some.is)) c.index_mut.ensures.value in
    next_open c.args.kind c.args.name.now (w.state c.args.world.now) (w.state c.next.new.world) c.args.self.now s c.in-Some.place c.index_mut.result.now c.next.new.self c.self.view_is c.requires.open at c.next.ensures.open c.next.ensures.same c.next.ensures.number

pub returns-clause-sound : goal.returns-clause-sound
returns-clause-sound g c = λ t.
    let w = g.W.World in
    let s : StreamsView = record { main = c.self.inside.main; output = c.self.inside.output; error = c.self.inside.error; named = c.self.inside.named.items } in
    let at = next_at c.args.kind c.args.name.now c.args.self.now s c.in-Some.place c.index_mut.result.now c.self.view_is (input_place c.args.kind c.args.name.now c.as_slice.result.now c.args.self.now.named c.deref.result.now c.as_slice.ensures (c.deref.ensures.value ∙ ap (λ (v : StreamsView). v.named) c.self.view_is) ∙ (sym c.find_input.ensures ∙ c.in-Some.is)) c.index_mut.ensures.value in
    next_call_sound c.args.kind c.args.name.now c.args.separator.now (w.state c.args.world.now) (w.state c.next.new.world) c.args.self.now s c.in-Some.place c.index_mut.result.now c.next.new.self c.next.result c.self.view_is c.requires.open (c.requires.sound t) at c.next.ensures.open (c.next.ensures.told t)

pub returns-clause-told : goal.returns-clause-told
returns-clause-told g c = λ t.
    let w = g.W.World in
    let s : StreamsView = record { main = c.self.inside.main; output = c.self.inside.output; error = c.self.inside.error; named = c.self.inside.named.items } in
    let at = next_at c.args.kind c.args.name.now c.args.self.now s c.in-Some.place c.index_mut.result.now c.self.view_is (input_place c.args.kind c.args.name.now c.as_slice.result.now c.args.self.now.named c.deref.result.now c.as_slice.ensures (c.deref.ensures.value ∙ ap (λ (v : StreamsView). v.named) c.self.view_is) ∙ (sym c.find_input.ensures ∙ c.in-Some.is)) c.index_mut.ensures.value in
    next_call_told c.args.kind c.args.name.now c.args.separator.now (w.state c.args.world.now) (w.state c.next.new.world) c.args.self.now s c.in-Some.place c.index_mut.result.now c.next.new.self c.next.result c.named_told.result c.self.view_is c.requires.open (c.requires.sound t) at c.next.ensures.step (c.next.ensures.told t)
    c.named_told.ensures
