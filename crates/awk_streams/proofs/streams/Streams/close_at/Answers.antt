use Rattle.std.proofs.Common.{◌≡◌, ◌≤◌, ℕ, ◌∷◌, Some, pos, sym, subst, ap, ◌∙◌, rules}
use mir.Syntax.{w128}
use mir.Val.{to_z, of_z}
use Rattle.std.specs.Prelude.{slice_get, if◌then◌else◌}
use Rattle.awk_world.specs.definitions.Log.{Closed}
use Rattle.awk_world.specs.definitions.WorldState.{Closes}
use Rattle.awk_streams.specs.definitions.Named.{is_command}
use Rattle.awk_streams.specs.definitions.Streams.{StreamsView, AreOpen, AreSound, name_of}
use Rattle.awk_streams.specs.support.Held.{HoldsNothing}
use Rattle.awk_streams.specs.support.Closes.{without_place, ClosesAt}
use Rattle.awk_streams.proofs.NamedLemmas.{open_at}
use Rattle.awk_streams.proofs.CloseLemmas.{closed_open, closed_sound, closed_told, closed_empty, if_command, if_file, stream_at, without_is}
use Rattle.awk_streams.proofs.streams.Streams.close_at.Goals as goal

pub close-answer-requires-clause-open : goal.close-answer-requires-clause-open
close-answer-requires-clause-open g c =
    let w = g.W.World in
    let s : StreamsView = record { main = c.self.inside.main; output = c.self.inside.output; error = c.self.inside.error; named = c.self.inside.named.items } in
    let at : slice_get c.args.self.now.named c.args.place ≡ Some c.remove-stream.result = stream_at c.args.self.now s c.args.place c.remove-stream.result c.self.view_is c.requires.place c.remove-stream.ensures.value in
    ap (w.state c.args.world.now).is_open c.id.ensures ∙ (open_at (w.state c.args.world.now) c.args.self.now.named c.args.place c.remove-stream.result c.requires.open.named at).0

pub close-answer-requires-clause-opened : goal.close-answer-requires-clause-opened
close-answer-requires-clause-opened g c =
    let w = g.W.World in
    let s : StreamsView = record { main = c.self.inside.main; output = c.self.inside.output; error = c.self.inside.error; named = c.self.inside.named.items } in
    let at : slice_get c.args.self.now.named c.args.place ≡ Some c.remove-stream.result = stream_at c.args.self.now s c.args.place c.remove-stream.result c.self.view_is c.requires.place c.remove-stream.ensures.value in
    subst (λ (id : ℕ). 2 ≤ id) (sym c.id.ensures) (open_at (w.state c.args.world.now) c.args.self.now.named c.args.place c.remove-stream.result c.requires.open.named at).1

pub returns-clause-same : goal.returns-clause-same
returns-clause-same g c =
    let s : StreamsView = record { main = c.self.inside.main; output = c.self.inside.output; error = c.self.inside.error; named = c.self.inside.named.items } in
    without_is c.args.self.now s c.args.place c.remove-stream.new.self.items c.self.view_is c.remove-stream.ensures.items

pub returns-clause-empty : goal.returns-clause-empty
returns-clause-empty g c =
    let w = g.W.World in
    let s : StreamsView = record { main = c.self.inside.main; output = c.self.inside.output; error = c.self.inside.error; named = c.self.inside.named.items } in
    let at : slice_get c.args.self.now.named c.args.place ≡ Some c.remove-stream.result = stream_at c.args.self.now s c.args.place c.remove-stream.result c.self.view_is c.requires.place c.remove-stream.ensures.value in
    let is : record s { named = c.remove-stream.new.self.items } ≡ without_place c.args.place c.args.self.now = without_is c.args.self.now s c.args.place c.remove-stream.new.self.items c.self.view_is c.remove-stream.ensures.items in
    subst (λ (v : StreamsView). HoldsNothing v) (sym is) (closed_empty c.args.self.now c.args.place c.remove-stream.result at c.requires.empty)

pub returns-clause-open : goal.returns-clause-open
returns-clause-open g c =
    let w = g.W.World in
    let s : StreamsView = record { main = c.self.inside.main; output = c.self.inside.output; error = c.self.inside.error; named = c.self.inside.named.items } in
    let at : slice_get c.args.self.now.named c.args.place ≡ Some c.remove-stream.result = stream_at c.args.self.now s c.args.place c.remove-stream.result c.self.view_is c.requires.place c.remove-stream.ensures.value in
    let is : record s { named = c.remove-stream.new.self.items } ≡ without_place c.args.place c.args.self.now = without_is c.args.self.now s c.args.place c.remove-stream.new.self.items c.self.view_is c.remove-stream.ensures.items in
    subst (λ (v : StreamsView). AreOpen (w.state c.close-answer.new.self) v) (sym is) (closed_open (w.state c.args.world.now) (w.state c.close-answer.new.self) c.args.self.now c.args.place c.remove-stream.result at c.requires.open (subst (λ (id : ℕ). Closes (w.state c.args.world.now) (w.state c.close-answer.new.self) id) c.id.ensures c.close-answer.ensures.closes))

pub returns-clause-sound : goal.returns-clause-sound
returns-clause-sound g c = λ t.
    let w = g.W.World in
    let s : StreamsView = record { main = c.self.inside.main; output = c.self.inside.output; error = c.self.inside.error; named = c.self.inside.named.items } in
    let at : slice_get c.args.self.now.named c.args.place ≡ Some c.remove-stream.result = stream_at c.args.self.now s c.args.place c.remove-stream.result c.self.view_is c.requires.place c.remove-stream.ensures.value in
    let is : record s { named = c.remove-stream.new.self.items } ≡ without_place c.args.place c.args.self.now = without_is c.args.self.now s c.args.place c.remove-stream.new.self.items c.self.view_is c.remove-stream.ensures.items in
    subst (λ (v : StreamsView). AreSound (w.state c.close-answer.new.self) v) (sym is) (closed_sound (w.state c.args.world.now) (w.state c.close-answer.new.self) c.args.self.now c.args.place c.remove-stream.result c.close-answer.result at c.requires.open (c.requires.sound t) (subst (λ (id : ℕ). Closes (w.state c.args.world.now) (w.state c.close-answer.new.self) id) c.id.ensures c.close-answer.ensures.closes) ((c.close-answer.ensures.logs t).0 ∙ ap (λ (id : ℕ). Closed id c.close-answer.result ∷ (w.state c.args.world.now).log) c.id.ensures))

pub returns-clause-told : goal.returns-clause-told
returns-clause-told g c = λ t.
    let w = g.W.World in
    let s : StreamsView = record { main = c.self.inside.main; output = c.self.inside.output; error = c.self.inside.error; named = c.self.inside.named.items } in
    let at : slice_get c.args.self.now.named c.args.place ≡ Some c.remove-stream.result = stream_at c.args.self.now s c.args.place c.remove-stream.result c.self.view_is c.requires.place c.remove-stream.ensures.value in
    let is : record s { named = c.remove-stream.new.self.items } ≡ without_place c.args.place c.args.self.now = without_is c.args.self.now s c.args.place c.remove-stream.new.self.items c.self.view_is c.remove-stream.ensures.items in
    let told : c.closing_answer.result ≡ (if c.is_command.result then c.close-answer.result else pos 0) = search (rules, c.closing_answer.ensures) in
    let same : to_z w128 (of_z w128 c.closing_answer.result) ≡ c.closing_answer.result = search rules in
    rw same
    (subst (λ (v : StreamsView). ClosesAt c.args.place (w.state c.args.world.now) c.args.self.now c.closing_answer.result (w.state c.close-answer.new.self) v) (sym is)
    (closed_told (w.state c.args.world.now) (w.state c.close-answer.new.self) c.args.self.now c.args.place c.remove-stream.result c.close-answer.result c.closing_answer.result at c.requires.open (c.requires.sound t) c.requires.empty
    (if_command c.is_command.result (is_command (name_of c.remove-stream.result)) c.close-answer.result c.closing_answer.result c.is_command.ensures told) (if_file c.is_command.result (is_command (name_of c.remove-stream.result)) c.close-answer.result c.closing_answer.result c.is_command.ensures told)
    ((c.close-answer.ensures.logs t).0 ∙ ap (λ (id : ℕ). Closed id c.close-answer.result ∷ (w.state c.args.world.now).log) c.id.ensures) (c.close-answer.ensures.logs t).1))
