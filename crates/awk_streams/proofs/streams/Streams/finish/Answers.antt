use Rattle.std.proofs.Common.{[], ap, ◌∙◌}
use Rattle.awk_streams.specs.definitions.Streams.{StreamsView, is_of_main, is_of_named}
use Rattle.awk_streams.proofs.PreparesLemmas.{ok_given}
use Rattle.awk_streams.proofs.EachLemmas.{brings_and_closes}
use Rattle.awk_streams.proofs.FinishLemmas.{finishes}
use Rattle.awk_streams.proofs.streams.Streams.finish.Goals as goal

pub returns-clause-told : goal.returns-clause-told
returns-clause-told g c = λ t.
    let w = g.W.World in
    let closes = c.close_all.ensures.told t in
    let sound = c.close_all.ensures.sound t in
    let none = ap (λ (v : StreamsView). record v { named = [] }) c.close_main.ensures.none in
    let main = ap (λ (v : StreamsView). v.main) (c.close_all.ensures.none ∙ none) in
    let named = ap (λ (v : StreamsView). v.named) (c.close_all.ensures.none ∙ none) in
    finishes (w.state c.args.world.now) (w.state c.bring_each-brought.new.world) (w.state c.close_main.new.world) (w.state c.close_all.new.world) c.args.self.now c.bring_each-brought.new.self c.close_main.new.self c.close_all.new.self c.bring_each-brought.result closes.0 c.requires.open (c.requires.sound t).flushed
    (brings_and_closes (w.state c.args.world.now) (w.state c.bring_each-brought.new.world) (w.state c.close_main.new.world) (w.state c.close_all.new.world) c.args.self.now c.bring_each-brought.new.self c.close_main.new.self c.close_all.new.self c.bring_each-brought.result closes.0 (c.bring_each-brought.ensures.each t) c.bring_each-brought.ensures.main c.bring_each-brought.ensures.same
    (c.requires.sound t).once c.close_main.ensures.none (c.close_main.ensures.told t) closes.1)
    (c.bring_each-brought.ensures.told t) c.bring_each-brought.ensures.main c.bring_each-brought.ensures.same
    c.bring_each-brought.ensures.empty (ok_given _ _ c.bring_each-brought.result c.bring_each-brought.ensures.flushed t) c.close_main.ensures.none (c.close_main.ensures.told t) closes.1
    (λ id. sound.owned id (ap (is_of_main id) main) (ap (is_of_named id) named))
