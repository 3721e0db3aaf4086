use Rattle.std.proofs.Common.{◌≡◌, List, [], Result, ap, sym, ◌∙◌, subst}
use Rattle.std.specs.Prelude.{OnOk}
use Rattle.std.specs.Vec.{with_items}
use Rattle.std.specs.Result.{result_and}
use Rattle.std.proofs.lemmas.List.{with_items_is}
use Rattle.awk_streams.specs.declared.fault.StreamFault.{StreamFault}
use Rattle.awk_streams.specs.declared.named.NamedStream.{NamedStream}
use Rattle.awk_streams.specs.definitions.Streams.{StreamsView, AreOpen, AreOpenNamed, AreApart, AreSoundNamed, AreSound, held_of, held_in, all_unheld}
use Rattle.awk_streams.specs.definitions.Commands.{BringsEach}
use Rattle.awk_streams.specs.support.Brings.{BringsHeld, AreFlushedBut}
use Rattle.awk_streams.proofs.StreamsLemmas.{but_held_length}
use Rattle.awk_streams.proofs.ViewLemmas.{bring_two, bring_three, flushed_each_three}
use Rattle.awk_streams.proofs.EachLemmas.{each_of_all}
use Rattle.awk_streams.proofs.streams.Streams.bring_each.Goals as goal

-- both results are as the code joins them
joined : (r1 r2 r3 r12 r : Result (Unit {0}) StreamFault) → r12 ≡ result_and r1 r2 → r ≡ result_and r12 r3 → r ≡ result_and (result_and r1 r2) r3
joined r1 r2 r3 r12 r first all = all ∙ ap (λ (x : Result (Unit {0}) StreamFault). result_and x r3) first

pub bring_each-named-requires : goal.bring_each-named-requires
bring_each-named-requires g c =
    let w = g.W.World in
    let s : StreamsView = record { main = c.self.inside.main; output = c.self.inside.output; error = c.self.inside.error; named = c.self.inside.named.items } in
    let two = bring_two w.is_logged (w.state c.args.world.now) (w.state c.flush-output.new.world) (w.state c.flush-error.new.world) c.args.self.now s c.flush-output.new.self c.flush-error.new.self c.flush-output.result c.flush-error.result c.self.view_is c.requires.open c.requires.sound
    c.flush-output.ensures.open c.flush-output.ensures.empty c.flush-output.ensures.told c.flush-error.ensures.open c.flush-error.ensures.empty c.flush-error.ensures.told in
    subst (λ (xs : List NamedStream). AreOpenNamed (w.state c.flush-error.new.world) xs) (sym c.deref_mut.ensures.value) two.open_as.named

pub returns-clause-open : goal.returns-clause-open
returns-clause-open g c =
    let w = g.W.World in
    let s : StreamsView = record { main = c.self.inside.main; output = c.self.inside.output; error = c.self.inside.error; named = c.self.inside.named.items } in
    let kept : all_unheld c.bring_each-named.new.named ≡ all_unheld c.self.inside.named.items = c.bring_each-named.ensures.same ∙ ap all_unheld c.deref_mut.ensures.value in
    let items : (with_items c.self.inside.named c.bring_each-named.new.named).items ≡ c.bring_each-named.new.named = with_items_is c.self.inside.named c.bring_each-named.new.named (but_held_length c.deref_mut.result.now c.bring_each-named.new.named c.bring_each-named.ensures.same ∙ c.deref_mut.ensures.len) in
    subst (λ (xs : List NamedStream). AreOpen (w.state c.bring_each-named.new.world) record s { output = c.flush-output.new.self; error = c.flush-error.new.self; named = xs }) (sym items)
    (bring_three w.is_logged (w.state c.args.world.now) (w.state c.flush-output.new.world) (w.state c.flush-error.new.world) (w.state c.bring_each-named.new.world) c.args.self.now s c.flush-output.new.self c.flush-error.new.self c.bring_each-named.new.named c.flush-output.result c.flush-error.result c.bring_each-named.result
    c.self.view_is c.requires.open c.requires.sound c.flush-output.ensures.open c.flush-output.ensures.empty c.flush-output.ensures.told c.flush-error.ensures.open c.flush-error.ensures.empty c.flush-error.ensures.told c.bring_each-named.ensures.open kept
    (subst (λ (xs : List NamedStream). w.is_logged → AreApart xs → AreSoundNamed (w.state c.flush-error.new.world).log xs → BringsHeld (w.state c.flush-error.new.world) (held_in xs) c.bring_each-named.result (w.state c.bring_each-named.new.world) (held_in c.bring_each-named.new.named)) c.deref_mut.ensures.value
    c.bring_each-named.ensures.told)).open_as

pub returns-clause-sound : goal.returns-clause-sound
returns-clause-sound g c =
    let w = g.W.World in
    let s : StreamsView = record { main = c.self.inside.main; output = c.self.inside.output; error = c.self.inside.error; named = c.self.inside.named.items } in
    let kept : all_unheld c.bring_each-named.new.named ≡ all_unheld c.self.inside.named.items = c.bring_each-named.ensures.same ∙ ap all_unheld c.deref_mut.ensures.value in
    let items : (with_items c.self.inside.named c.bring_each-named.new.named).items ≡ c.bring_each-named.new.named = with_items_is c.self.inside.named c.bring_each-named.new.named (but_held_length c.deref_mut.result.now c.bring_each-named.new.named c.bring_each-named.ensures.same ∙ c.deref_mut.ensures.len) in
    subst (λ (xs : List NamedStream). w.is_logged → AreSound (w.state c.bring_each-named.new.world) record s { output = c.flush-output.new.self; error = c.flush-error.new.self; named = xs }) (sym items)
    (bring_three w.is_logged (w.state c.args.world.now) (w.state c.flush-output.new.world) (w.state c.flush-error.new.world) (w.state c.bring_each-named.new.world) c.args.self.now s c.flush-output.new.self c.flush-error.new.self c.bring_each-named.new.named c.flush-output.result c.flush-error.result c.bring_each-named.result
    c.self.view_is c.requires.open c.requires.sound c.flush-output.ensures.open c.flush-output.ensures.empty c.flush-output.ensures.told c.flush-error.ensures.open c.flush-error.ensures.empty c.flush-error.ensures.told c.bring_each-named.ensures.open kept
    (subst (λ (xs : List NamedStream). w.is_logged → AreApart xs → AreSoundNamed (w.state c.flush-error.new.world).log xs → BringsHeld (w.state c.flush-error.new.world) (held_in xs) c.bring_each-named.result (w.state c.bring_each-named.new.world) (held_in c.bring_each-named.new.named)) c.deref_mut.ensures.value
    c.bring_each-named.ensures.told)).sound

pub returns-clause-told : goal.returns-clause-told
returns-clause-told g c =
    let w = g.W.World in
    let s : StreamsView = record { main = c.self.inside.main; output = c.self.inside.output; error = c.self.inside.error; named = c.self.inside.named.items } in
    let kept : all_unheld c.bring_each-named.new.named ≡ all_unheld c.self.inside.named.items = c.bring_each-named.ensures.same ∙ ap all_unheld c.deref_mut.ensures.value in
    let items : (with_items c.self.inside.named c.bring_each-named.new.named).items ≡ c.bring_each-named.new.named = with_items_is c.self.inside.named c.bring_each-named.new.named (but_held_length c.deref_mut.result.now c.bring_each-named.new.named c.bring_each-named.ensures.same ∙ c.deref_mut.ensures.len) in
    let is = joined c.flush-output.result c.flush-error.result c.bring_each-named.result c.and.result c.and-2.result c.and.ensures c.and-2.ensures in
    subst (λ (r : Result (Unit {0}) StreamFault). w.is_logged → BringsHeld (w.state c.args.world.now) (held_of c.args.self.now) r (w.state c.bring_each-named.new.world) (held_of record s { output = c.flush-output.new.self; error = c.flush-error.new.self; named = (with_items c.self.inside.named c.bring_each-named.new.named).items })) (sym is)
    (subst (λ (xs : List NamedStream). w.is_logged → BringsHeld (w.state c.args.world.now) (held_of c.args.self.now) (result_and (result_and c.flush-output.result c.flush-error.result) c.bring_each-named.result) (w.state c.bring_each-named.new.world) (held_of record s { output = c.flush-output.new.self; error = c.flush-error.new.self; named = xs })) (sym items)
    (bring_three w.is_logged (w.state c.args.world.now) (w.state c.flush-output.new.world) (w.state c.flush-error.new.world) (w.state c.bring_each-named.new.world) c.args.self.now s c.flush-output.new.self c.flush-error.new.self c.bring_each-named.new.named c.flush-output.result c.flush-error.result c.bring_each-named.result
    c.self.view_is c.requires.open c.requires.sound c.flush-output.ensures.open c.flush-output.ensures.empty c.flush-output.ensures.told c.flush-error.ensures.open c.flush-error.ensures.empty c.flush-error.ensures.told c.bring_each-named.ensures.open kept
    (subst (λ (xs : List NamedStream). w.is_logged → AreApart xs → AreSoundNamed (w.state c.flush-error.new.world).log xs → BringsHeld (w.state c.flush-error.new.world) (held_in xs) c.bring_each-named.result (w.state c.bring_each-named.new.world) (held_in c.bring_each-named.new.named)) c.deref_mut.ensures.value
    c.bring_each-named.ensures.told)).told)

pub returns-clause-flushed : goal.returns-clause-flushed
returns-clause-flushed g c =
    let w = g.W.World in
    let s : StreamsView = record { main = c.self.inside.main; output = c.self.inside.output; error = c.self.inside.error; named = c.self.inside.named.items } in
    let is = joined c.flush-output.result c.flush-error.result c.bring_each-named.result c.and.result c.and-2.result c.and.ensures c.and-2.ensures in
    subst (λ (r : Result (Unit {0}) StreamFault). OnOk r (w.is_logged → AreFlushedBut [] (w.state c.bring_each-named.new.world).log)) (sym is)
    (flushed_each_three w.is_logged (w.state c.args.world.now) (w.state c.flush-output.new.world) (w.state c.flush-error.new.world) (w.state c.bring_each-named.new.world) c.args.self.now s c.flush-output.result c.flush-error.result c.bring_each-named.result c.self.view_is c.requires.sound
    c.flush-output.ensures.told c.flush-error.ensures.told
    (subst (λ (xs : List NamedStream). OnOk c.bring_each-named.result (w.is_logged → AreFlushedBut (held_in xs) (w.state c.flush-error.new.world).log → AreFlushedBut [] (w.state c.bring_each-named.new.world).log)) c.deref_mut.ensures.value c.bring_each-named.ensures.flushed))

pub returns-clause-each : goal.returns-clause-each
returns-clause-each g c = λ t.
    let w = g.W.World in
    let s : StreamsView = record { main = c.self.inside.main; output = c.self.inside.output; error = c.self.inside.error; named = c.self.inside.named.items } in
    let is = joined c.flush-output.result c.flush-error.result c.bring_each-named.result c.and.result c.and-2.result c.and.ensures c.and-2.ensures in
    let named : BringsEach (held_in s.named) (w.state c.flush-error.new.world) c.bring_each-named.result (w.state c.bring_each-named.new.world) =
    subst (λ (xs : List NamedStream). BringsEach (held_in xs) (w.state c.flush-error.new.world) c.bring_each-named.result (w.state c.bring_each-named.new.world)) c.deref_mut.ensures.value (c.bring_each-named.ensures.each t) in
    subst (λ (r : Result (Unit {0}) StreamFault). BringsEach (held_of c.args.self.now) (w.state c.args.world.now) r (w.state c.bring_each-named.new.world)) (sym is)
    (each_of_all (w.state c.args.world.now) (w.state c.flush-output.new.world) (w.state c.flush-error.new.world) (w.state c.bring_each-named.new.world) c.args.self.now s c.flush-output.result c.flush-error.result c.bring_each-named.result c.self.view_is
    (c.flush-output.ensures.told t) (c.flush-error.ensures.told t) named)
