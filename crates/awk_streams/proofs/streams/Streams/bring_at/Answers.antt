use Rattle.std.proofs.Common.{◌≡◌, List, true, Some, sym, ap, ◌∙◌}
use Rattle.std.specs.Prelude.{slice_get}
use Rattle.std.proofs.lemmas.Option.{same_Some}
use Rattle.awk_streams.specs.declared.named.NamedStream.{NamedStream}
use Rattle.awk_streams.specs.definitions.Streams.{StreamsView}
use Rattle.awk_streams.specs.definitions.Flushes.{is_output_called}
use Rattle.awk_streams.specs.support.Flushing.{emptied_at}
use Rattle.awk_streams.proofs.NamedLemmas.{open_at}
use Rattle.awk_streams.proofs.CloseLemmas.{stream_at}
use Rattle.awk_streams.proofs.EmptiedLemmas.{called_at, other_at}
use Rattle.awk_streams.proofs.FlushLemmas.{flush_at, not_at}
use Rattle.awk_streams.proofs.streams.Streams.bring_at.Goals as goal

pub flush-requires : goal.flush-requires
flush-requires g c =
    let s : StreamsView = record { main = c.self.inside.main; output = c.self.inside.output; error = c.self.inside.error; named = c.self.inside.named.items } in
    let at = stream_at c.args.self.now s c.args.place c.index_mut.result.now c.self.view_is c.requires.place c.index_mut.ensures.value in
    (open_at (g.W.World.state c.args.world.now) c.args.self.now.named c.args.place c.index_mut.result.now c.requires.open.named at).0

pub returns-then-is_output_called-clause-same : goal.returns-then-is_output_called-clause-same
returns-then-is_output_called-clause-same g c =
    let s : StreamsView = record { main = c.self.inside.main; output = c.self.inside.output; error = c.self.inside.error; named = c.self.inside.named.items } in
    let at = stream_at c.args.self.now s c.args.place c.index_mut.result.now c.self.view_is c.requires.place c.index_mut.ensures.value in
    let seen = stream_at c.args.self.now s c.args.place c.index.result.now c.self.view_is c.requires.place c.index.ensures in
    let same : c.index.result.now ≡ c.index_mut.result.now = same_Some c.index.result.now c.index_mut.result.now (sym seen ∙ at) in
    let called : is_output_called c.args.text.now c.index_mut.result.now ≡ true = ap (is_output_called c.args.text.now) (sym same) ∙ (sym c.is_output_called.ensures ∙ c.if-is_output_called.true) in
    let at' : slice_get s.named c.args.place ≡ Some c.index_mut.result.now = ap (λ (v : StreamsView). slice_get v.named c.args.place) c.self.view_is ∙ at in
    ap (λ (xs : List NamedStream). record s { named = xs }) (called_at c.args.place c.args.text.now s.named c.index_mut.result.now c.flush.new.self at' called c.flush.ensures.same c.flush.ensures.empty)
    ∙ ap (λ (v : StreamsView). record v { named = emptied_at c.args.place c.args.text.now v.named }) c.self.view_is

pub returns-then-is_output_called-clause-open : goal.returns-then-is_output_called-clause-open
returns-then-is_output_called-clause-open g c =
    let w = g.W.World in
    let s : StreamsView = record { main = c.self.inside.main; output = c.self.inside.output; error = c.self.inside.error; named = c.self.inside.named.items } in
    let at = stream_at c.args.self.now s c.args.place c.index_mut.result.now c.self.view_is c.requires.place c.index_mut.ensures.value in
    let seen = stream_at c.args.self.now s c.args.place c.index.result.now c.self.view_is c.requires.place c.index.ensures in
    let same : c.index.result.now ≡ c.index_mut.result.now = same_Some c.index.result.now c.index_mut.result.now (sym seen ∙ at) in
    let called : is_output_called c.args.text.now c.index_mut.result.now ≡ true = ap (is_output_called c.args.text.now) (sym same) ∙ (sym c.is_output_called.ensures ∙ c.if-is_output_called.true) in
    (flush_at w.is_logged c.args.text.now (w.state c.args.world.now) (w.state c.flush.new.world) c.args.self.now s c.args.place c.index_mut.result.now c.flush.new.self c.flush.result c.self.view_is at called c.requires.open c.requires.sound c.flush.ensures.open c.flush.ensures.same c.flush.ensures.empty c.flush.ensures.told).open_as

pub returns-then-is_output_called-clause-sound : goal.returns-then-is_output_called-clause-sound
returns-then-is_output_called-clause-sound g c =
    let w = g.W.World in
    let s : StreamsView = record { main = c.self.inside.main; output = c.self.inside.output; error = c.self.inside.error; named = c.self.inside.named.items } in
    let at = stream_at c.args.self.now s c.args.place c.index_mut.result.now c.self.view_is c.requires.place c.index_mut.ensures.value in
    let seen = stream_at c.args.self.now s c.args.place c.index.result.now c.self.view_is c.requires.place c.index.ensures in
    let same : c.index.result.now ≡ c.index_mut.result.now = same_Some c.index.result.now c.index_mut.result.now (sym seen ∙ at) in
    let called : is_output_called c.args.text.now c.index_mut.result.now ≡ true = ap (is_output_called c.args.text.now) (sym same) ∙ (sym c.is_output_called.ensures ∙ c.if-is_output_called.true) in
    (flush_at w.is_logged c.args.text.now (w.state c.args.world.now) (w.state c.flush.new.world) c.args.self.now s c.args.place c.index_mut.result.now c.flush.new.self c.flush.result c.self.view_is at called c.requires.open c.requires.sound c.flush.ensures.open c.flush.ensures.same c.flush.ensures.empty c.flush.ensures.told).sound

pub returns-then-is_output_called-clause-told : goal.returns-then-is_output_called-clause-told
returns-then-is_output_called-clause-told g c =
    let w = g.W.World in
    let s : StreamsView = record { main = c.self.inside.main; output = c.self.inside.output; error = c.self.inside.error; named = c.self.inside.named.items } in
    let at = stream_at c.args.self.now s c.args.place c.index_mut.result.now c.self.view_is c.requires.place c.index_mut.ensures.value in
    let seen = stream_at c.args.self.now s c.args.place c.index.result.now c.self.view_is c.requires.place c.index.ensures in
    let same : c.index.result.now ≡ c.index_mut.result.now = same_Some c.index.result.now c.index_mut.result.now (sym seen ∙ at) in
    let called : is_output_called c.args.text.now c.index_mut.result.now ≡ true = ap (is_output_called c.args.text.now) (sym same) ∙ (sym c.is_output_called.ensures ∙ c.if-is_output_called.true) in
    (flush_at w.is_logged c.args.text.now (w.state c.args.world.now) (w.state c.flush.new.world) c.args.self.now s c.args.place c.index_mut.result.now c.flush.new.self c.flush.result c.self.view_is at called c.requires.open c.requires.sound c.flush.ensures.open c.flush.ensures.same c.flush.ensures.empty c.flush.ensures.told).told

-- another stream

pub returns-else-is_output_called-clause-same : goal.returns-else-is_output_called-clause-same
returns-else-is_output_called-clause-same g c =
    let s : StreamsView = record { main = c.self.inside.main; output = c.self.inside.output; error = c.self.inside.error; named = c.self.inside.named.items } in
    let seen = stream_at c.args.self.now s c.args.place c.index.result.now c.self.view_is c.requires.place c.index.ensures in
    ap (λ (xs : List NamedStream). record c.args.self.now { named = xs }) (other_at c.args.place c.args.text.now c.args.self.now.named c.index.result.now seen (sym c.is_output_called.ensures ∙ c.if-is_output_called.false))

pub returns-else-is_output_called-clause-told : goal.returns-else-is_output_called-clause-told
returns-else-is_output_called-clause-told g c = λ t.
    let s : StreamsView = record { main = c.self.inside.main; output = c.self.inside.output; error = c.self.inside.error; named = c.self.inside.named.items } in
    let seen = stream_at c.args.self.now s c.args.place c.index.result.now c.self.view_is c.requires.place c.index.ensures in
    not_at c.args.text.now (g.W.World.state c.args.world.now) c.args.self.now c.args.place c.index.result.now tt seen (sym c.is_output_called.ensures ∙ c.if-is_output_called.false)
