use Rattle.std.proofs.Common.{◌∷◌, [], refl}
use Rattle.awk_streams.specs.definitions.Streams.{StreamsView}
use Rattle.awk_streams.proofs.AtHandLemmas.{at_hand, at_hand_told}
use Rattle.awk_streams.proofs.streams.Streams.main_record_at_hand.Goals as goal

pub returns-in-Some-clause-told : goal.returns-in-Some-clause-told
returns-in-Some-clause-told c =
    let s : StreamsView = record { main = c.self.inside.main; output = c.self.inside.output; error = c.self.inside.error; named = c.self.inside.named.items } in
    let e = c.record_at_hand.ensures in
    at_hand_told (c.args.separator ∷ []) c.args.self.now s c.in-Some.input (record { id = c.in-Some.input.id; pending = c.record_at_hand.new.self }) c.record_at_hand.result c.self.view_is c.in-Some.is refl (at_hand _ c.record_at_hand.result _ _ e.some e.none e.ending)
