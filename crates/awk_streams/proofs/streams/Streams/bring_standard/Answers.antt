use Rattle.std.proofs.Common.{◌∙◌, sym}
use Rattle.awk_streams.specs.definitions.Streams.{StreamsView}
use Rattle.awk_streams.proofs.FlushLemmas.{text_of_output, text_of_error, text_of_none}
use Rattle.awk_streams.proofs.streams.Streams.bring_standard.Goals as goal

pub returns-then-eq-clause-open : goal.returns-then-eq-clause-open
returns-then-eq-clause-open g c =
    let w = g.W.World in
    let s : StreamsView = record { main = c.self.inside.main; output = c.self.inside.output; error = c.self.inside.error; named = c.self.inside.named.items } in
    (text_of_output w.is_logged c.args.text.now (w.state c.args.world.now) (w.state c.flush.new.world) c.args.self.now s c.flush.new.self c.flush.result c.self.view_is (sym c.eq.ensures ∙ c.if-eq.true) c.requires.open c.requires.sound c.flush.ensures.open c.flush.ensures.empty c.flush.ensures.told).open_as

pub returns-then-eq-clause-sound : goal.returns-then-eq-clause-sound
returns-then-eq-clause-sound g c =
    let w = g.W.World in
    let s : StreamsView = record { main = c.self.inside.main; output = c.self.inside.output; error = c.self.inside.error; named = c.self.inside.named.items } in
    (text_of_output w.is_logged c.args.text.now (w.state c.args.world.now) (w.state c.flush.new.world) c.args.self.now s c.flush.new.self c.flush.result c.self.view_is (sym c.eq.ensures ∙ c.if-eq.true) c.requires.open c.requires.sound c.flush.ensures.open c.flush.ensures.empty c.flush.ensures.told).sound

pub returns-then-eq-clause-told : goal.returns-then-eq-clause-told
returns-then-eq-clause-told g c =
    let w = g.W.World in
    let s : StreamsView = record { main = c.self.inside.main; output = c.self.inside.output; error = c.self.inside.error; named = c.self.inside.named.items } in
    (text_of_output w.is_logged c.args.text.now (w.state c.args.world.now) (w.state c.flush.new.world) c.args.self.now s c.flush.new.self c.flush.result c.self.view_is (sym c.eq.ensures ∙ c.if-eq.true) c.requires.open c.requires.sound c.flush.ensures.open c.flush.ensures.empty c.flush.ensures.told).told

pub returns-then-eq-2-clause-open : goal.returns-then-eq-2-clause-open
returns-then-eq-2-clause-open g c =
    let w = g.W.World in
    let s : StreamsView = record { main = c.self.inside.main; output = c.self.inside.output; error = c.self.inside.error; named = c.self.inside.named.items } in
    (text_of_error w.is_logged c.args.text.now (w.state c.args.world.now) (w.state c.flush-then-eq-2.new.world) c.args.self.now s c.flush-then-eq-2.new.self c.flush-then-eq-2.result c.self.view_is (sym c.eq.ensures ∙ c.if-eq.false) (sym c.eq-else-eq.ensures ∙ c.if-eq-2.true) c.requires.open c.requires.sound c.flush-then-eq-2.ensures.open c.flush-then-eq-2.ensures.empty c.flush-then-eq-2.ensures.told).open_as

pub returns-then-eq-2-clause-sound : goal.returns-then-eq-2-clause-sound
returns-then-eq-2-clause-sound g c =
    let w = g.W.World in
    let s : StreamsView = record { main = c.self.inside.main; output = c.self.inside.output; error = c.self.inside.error; named = c.self.inside.named.items } in
    (text_of_error w.is_logged c.args.text.now (w.state c.args.world.now) (w.state c.flush-then-eq-2.new.world) c.args.self.now s c.flush-then-eq-2.new.self c.flush-then-eq-2.result c.self.view_is (sym c.eq.ensures ∙ c.if-eq.false) (sym c.eq-else-eq.ensures ∙ c.if-eq-2.true) c.requires.open c.requires.sound c.flush-then-eq-2.ensures.open c.flush-then-eq-2.ensures.empty c.flush-then-eq-2.ensures.told).sound

pub returns-then-eq-2-clause-told : goal.returns-then-eq-2-clause-told
returns-then-eq-2-clause-told g c =
    let w = g.W.World in
    let s : StreamsView = record { main = c.self.inside.main; output = c.self.inside.output; error = c.self.inside.error; named = c.self.inside.named.items } in
    (text_of_error w.is_logged c.args.text.now (w.state c.args.world.now) (w.state c.flush-then-eq-2.new.world) c.args.self.now s c.flush-then-eq-2.new.self c.flush-then-eq-2.result c.self.view_is (sym c.eq.ensures ∙ c.if-eq.false) (sym c.eq-else-eq.ensures ∙ c.if-eq-2.true) c.requires.open c.requires.sound c.flush-then-eq-2.ensures.open c.flush-then-eq-2.ensures.empty c.flush-then-eq-2.ensures.told).told

pub returns-else-eq-2-clause-told : goal.returns-else-eq-2-clause-told
returns-else-eq-2-clause-told g c = λ t.
    text_of_none c.args.text.now (g.W.World.state c.args.world.now) c.args.self.now tt (sym c.eq.ensures ∙ c.if-eq.false) (sym c.eq-else-eq.ensures ∙ c.if-eq-2.false)
