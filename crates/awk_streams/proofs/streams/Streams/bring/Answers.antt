use Rattle.std.proofs.Common.{◌≡◌, List, [], Ok, Err, ap, sym, ◌∙◌, subst}
use Rattle.std.specs.Prelude.{OnOk}
use Rattle.std.specs.Vec.{with_items}
use Rattle.std.proofs.lemmas.List.{with_items_is}
use Rattle.awk_streams.specs.declared.named.NamedStream.{NamedStream}
use Rattle.awk_streams.specs.support.Held.{AreEmpty, HoldsNothing}
use Rattle.awk_streams.proofs.StreamsLemmas.{but_held_length}
use Rattle.awk_streams.proofs.WritingLemmas.{fails_with_later}
use Rattle.awk_streams.proofs.BringLemmas.{on_ok}
use Rattle.std.proofs.lemmas.Result.{err_from_is_err_and, IfErr-weaker}
use Rattle.awk_streams.specs.definitions.Streams.{StreamsView, AreOpen, AreOpenNamed, AreApart, AreSoundNamed, AreSound, held_of, held_in, all_unheld}
use Rattle.awk_streams.specs.support.Brings.{BringsHeld, AreFlushedBut}
use Rattle.awk_streams.proofs.ViewLemmas.{bring_one, bring_two, bring_three, flushed_three}
use Rattle.awk_streams.proofs.streams.Streams.bring.Goals as goal
use Rattle.awk_streams.specs.definitions.Outputs.{FailsWith}

pub returns-in_err-flush-clause-open : goal.returns-in_err-flush-clause-open
returns-in_err-flush-clause-open g c =
    let w = g.W.World in
    let s : StreamsView = record { main = c.self.inside.main; output = c.self.inside.output; error = c.self.inside.error; named = c.self.inside.named.items } in
    (bring_one w.is_logged (w.state c.args.world.now) (w.state c.flush.new.world) c.args.self.now s c.flush.new.self (Err c.in_err-flush.field-0.0) c.self.view_is c.requires.open c.requires.sound c.in_err-flush.ensures.open c.in_err-flush.ensures.empty c.in_err-flush.ensures.told).open_as

pub returns-in_err-flush-clause-sound : goal.returns-in_err-flush-clause-sound
returns-in_err-flush-clause-sound g c =
    let w = g.W.World in
    let s : StreamsView = record { main = c.self.inside.main; output = c.self.inside.output; error = c.self.inside.error; named = c.self.inside.named.items } in
    (bring_one w.is_logged (w.state c.args.world.now) (w.state c.flush.new.world) c.args.self.now s c.flush.new.self (Err c.in_err-flush.field-0.0) c.self.view_is c.requires.open c.requires.sound c.in_err-flush.ensures.open c.in_err-flush.ensures.empty c.in_err-flush.ensures.told).sound

pub returns-in_err-flush-clause-told : goal.returns-in_err-flush-clause-told
returns-in_err-flush-clause-told g c =
    let w = g.W.World in
    let s : StreamsView = record { main = c.self.inside.main; output = c.self.inside.output; error = c.self.inside.error; named = c.self.inside.named.items } in
    let p = err_from_is_err_and c.from_residual.result c.from_residual.ensures.1 in
    rw (p.1, p.2)
    (bring_one w.is_logged (w.state c.args.world.now) (w.state c.flush.new.world) c.args.self.now s c.flush.new.self (Err c.in_err-flush.field-0.0) c.self.view_is c.requires.open c.requires.sound c.in_err-flush.ensures.open c.in_err-flush.ensures.empty c.in_err-flush.ensures.told).told

pub returns-in_err-flush-2-clause-open : goal.returns-in_err-flush-2-clause-open
returns-in_err-flush-2-clause-open g c =
    let w = g.W.World in
    let s : StreamsView = record { main = c.self.inside.main; output = c.self.inside.output; error = c.self.inside.error; named = c.self.inside.named.items } in
    (bring_two w.is_logged (w.state c.args.world.now) (w.state c.flush.new.world) (w.state c.flush-2.new.world) c.args.self.now s c.flush.new.self c.flush-2.new.self (Ok c.in_ok-flush.field-0) (Err c.in_err-flush-2.field-0.0) c.self.view_is c.requires.open c.requires.sound
    c.in_ok-flush.ensures.open c.in_ok-flush.ensures.empty c.in_ok-flush.ensures.told c.in_err-flush-2.ensures.open c.in_err-flush-2.ensures.empty c.in_err-flush-2.ensures.told).open_as

pub returns-in_err-flush-2-clause-sound : goal.returns-in_err-flush-2-clause-sound
returns-in_err-flush-2-clause-sound g c =
    let w = g.W.World in
    let s : StreamsView = record { main = c.self.inside.main; output = c.self.inside.output; error = c.self.inside.error; named = c.self.inside.named.items } in
    (bring_two w.is_logged (w.state c.args.world.now) (w.state c.flush.new.world) (w.state c.flush-2.new.world) c.args.self.now s c.flush.new.self c.flush-2.new.self (Ok c.in_ok-flush.field-0) (Err c.in_err-flush-2.field-0.0) c.self.view_is c.requires.open c.requires.sound
    c.in_ok-flush.ensures.open c.in_ok-flush.ensures.empty c.in_ok-flush.ensures.told c.in_err-flush-2.ensures.open c.in_err-flush-2.ensures.empty c.in_err-flush-2.ensures.told).sound

pub returns-in_err-flush-2-clause-told : goal.returns-in_err-flush-2-clause-told
returns-in_err-flush-2-clause-told g c =
    let w = g.W.World in
    let s : StreamsView = record { main = c.self.inside.main; output = c.self.inside.output; error = c.self.inside.error; named = c.self.inside.named.items } in
    let p = err_from_is_err_and c.from_residual-in_err-flush-2.result c.from_residual-in_err-flush-2.ensures.1 in
    rw (p.1, p.2)
    (bring_two w.is_logged (w.state c.args.world.now) (w.state c.flush.new.world) (w.state c.flush-2.new.world) c.args.self.now s c.flush.new.self c.flush-2.new.self (Ok c.in_ok-flush.field-0) (Err c.in_err-flush-2.field-0.0) c.self.view_is c.requires.open c.requires.sound
    c.in_ok-flush.ensures.open c.in_ok-flush.ensures.empty c.in_ok-flush.ensures.told c.in_err-flush-2.ensures.open c.in_err-flush-2.ensures.empty c.in_err-flush-2.ensures.told).told

pub bring-requires : goal.bring-requires
bring-requires g c =
    let w = g.W.World in
    let s : StreamsView = record { main = c.self.inside.main; output = c.self.inside.output; error = c.self.inside.error; named = c.self.inside.named.items } in
    let two = bring_two w.is_logged (w.state c.args.world.now) (w.state c.flush.new.world) (w.state c.flush-2.new.world) c.args.self.now s c.flush.new.self c.flush-2.new.self (Ok c.in_ok-flush.field-0) (Ok c.in_ok-flush-2.field-0) c.self.view_is c.requires.open c.requires.sound
    c.in_ok-flush.ensures.open c.in_ok-flush.ensures.empty c.in_ok-flush.ensures.told c.in_ok-flush-2.ensures.open c.in_ok-flush-2.ensures.empty c.in_ok-flush-2.ensures.told in
    subst (λ (xs : List NamedStream). AreOpenNamed (w.state c.flush-2.new.world) xs) (sym c.deref_mut.ensures.value) two.open_as.named

pub returns-clause-open : goal.returns-clause-open
returns-clause-open g c =
    let w = g.W.World in
    let s : StreamsView = record { main = c.self.inside.main; output = c.self.inside.output; error = c.self.inside.error; named = c.self.inside.named.items } in
    let kept : all_unheld c.bring.new.named ≡ all_unheld c.self.inside.named.items = c.bring.ensures.same ∙ ap all_unheld c.deref_mut.ensures.value in
    let items : (with_items c.self.inside.named c.bring.new.named).items ≡ c.bring.new.named = with_items_is c.self.inside.named c.bring.new.named (but_held_length c.deref_mut.result.now c.bring.new.named c.bring.ensures.same ∙ c.deref_mut.ensures.len) in
    subst (λ (xs : List NamedStream). AreOpen (w.state c.bring.new.world) record s { output = c.flush.new.self; error = c.flush-2.new.self; named = xs }) (sym items)
    (bring_three w.is_logged (w.state c.args.world.now) (w.state c.flush.new.world) (w.state c.flush-2.new.world) (w.state c.bring.new.world) c.args.self.now s c.flush.new.self c.flush-2.new.self c.bring.new.named (Ok c.in_ok-flush.field-0) (Ok c.in_ok-flush-2.field-0) c.bring.result c.self.view_is c.requires.open c.requires.sound
    c.in_ok-flush.ensures.open c.in_ok-flush.ensures.empty c.in_ok-flush.ensures.told c.in_ok-flush-2.ensures.open c.in_ok-flush-2.ensures.empty c.in_ok-flush-2.ensures.told c.bring.ensures.open kept
    (subst (λ (xs : List NamedStream). w.is_logged → AreApart xs → AreSoundNamed (w.state c.flush-2.new.world).log xs → BringsHeld (w.state c.flush-2.new.world) (held_in xs) c.bring.result (w.state c.bring.new.world) (held_in c.bring.new.named)) c.deref_mut.ensures.value c.bring.ensures.told)).open_as

pub returns-clause-sound : goal.returns-clause-sound
returns-clause-sound g c =
    let w = g.W.World in
    let s : StreamsView = record { main = c.self.inside.main; output = c.self.inside.output; error = c.self.inside.error; named = c.self.inside.named.items } in
    let kept : all_unheld c.bring.new.named ≡ all_unheld c.self.inside.named.items = c.bring.ensures.same ∙ ap all_unheld c.deref_mut.ensures.value in
    let items : (with_items c.self.inside.named c.bring.new.named).items ≡ c.bring.new.named = with_items_is c.self.inside.named c.bring.new.named (but_held_length c.deref_mut.result.now c.bring.new.named c.bring.ensures.same ∙ c.deref_mut.ensures.len) in
    subst (λ (xs : List NamedStream). w.is_logged → AreSound (w.state c.bring.new.world) record s { output = c.flush.new.self; error = c.flush-2.new.self; named = xs }) (sym items)
    (bring_three w.is_logged (w.state c.args.world.now) (w.state c.flush.new.world) (w.state c.flush-2.new.world) (w.state c.bring.new.world) c.args.self.now s c.flush.new.self c.flush-2.new.self c.bring.new.named (Ok c.in_ok-flush.field-0) (Ok c.in_ok-flush-2.field-0) c.bring.result c.self.view_is c.requires.open c.requires.sound
    c.in_ok-flush.ensures.open c.in_ok-flush.ensures.empty c.in_ok-flush.ensures.told c.in_ok-flush-2.ensures.open c.in_ok-flush-2.ensures.empty c.in_ok-flush-2.ensures.told c.bring.ensures.open kept
    (subst (λ (xs : List NamedStream). w.is_logged → AreApart xs → AreSoundNamed (w.state c.flush-2.new.world).log xs → BringsHeld (w.state c.flush-2.new.world) (held_in xs) c.bring.result (w.state c.bring.new.world) (held_in c.bring.new.named)) c.deref_mut.ensures.value c.bring.ensures.told)).sound

pub returns-clause-told : goal.returns-clause-told
returns-clause-told g c =
    let w = g.W.World in
    let s : StreamsView = record { main = c.self.inside.main; output = c.self.inside.output; error = c.self.inside.error; named = c.self.inside.named.items } in
    let kept : all_unheld c.bring.new.named ≡ all_unheld c.self.inside.named.items = c.bring.ensures.same ∙ ap all_unheld c.deref_mut.ensures.value in
    let items : (with_items c.self.inside.named c.bring.new.named).items ≡ c.bring.new.named = with_items_is c.self.inside.named c.bring.new.named (but_held_length c.deref_mut.result.now c.bring.new.named c.bring.ensures.same ∙ c.deref_mut.ensures.len) in
    subst (λ (xs : List NamedStream). w.is_logged → BringsHeld (w.state c.args.world.now) (held_of c.args.self.now) c.bring.result (w.state c.bring.new.world) (held_of record s { output = c.flush.new.self; error = c.flush-2.new.self; named = xs })) (sym items)
    (bring_three w.is_logged (w.state c.args.world.now) (w.state c.flush.new.world) (w.state c.flush-2.new.world) (w.state c.bring.new.world) c.args.self.now s c.flush.new.self c.flush-2.new.self c.bring.new.named (Ok c.in_ok-flush.field-0) (Ok c.in_ok-flush-2.field-0) c.bring.result c.self.view_is c.requires.open c.requires.sound
    c.in_ok-flush.ensures.open c.in_ok-flush.ensures.empty c.in_ok-flush.ensures.told c.in_ok-flush-2.ensures.open c.in_ok-flush-2.ensures.empty c.in_ok-flush-2.ensures.told c.bring.ensures.open kept
    (subst (λ (xs : List NamedStream). w.is_logged → AreApart xs → AreSoundNamed (w.state c.flush-2.new.world).log xs → BringsHeld (w.state c.flush-2.new.world) (held_in xs) c.bring.result (w.state c.bring.new.world) (held_in c.bring.new.named)) c.deref_mut.ensures.value c.bring.ensures.told)).told

pub returns-clause-same : goal.returns-clause-same
returns-clause-same g c =
    let w = g.W.World in
    let s : StreamsView = record { main = c.self.inside.main; output = c.self.inside.output; error = c.self.inside.error; named = c.self.inside.named.items } in
    let kept : all_unheld c.bring.new.named ≡ all_unheld c.self.inside.named.items = c.bring.ensures.same ∙ ap all_unheld c.deref_mut.ensures.value in
    let items : (with_items c.self.inside.named c.bring.new.named).items ≡ c.bring.new.named = with_items_is c.self.inside.named c.bring.new.named (but_held_length c.deref_mut.result.now c.bring.new.named c.bring.ensures.same ∙ c.deref_mut.ensures.len) in
    ap all_unheld items ∙ (kept ∙ ap (λ (x : StreamsView). all_unheld x.named) c.self.view_is)

pub returns-clause-empty : goal.returns-clause-empty
returns-clause-empty g c =
    let w = g.W.World in
    let s : StreamsView = record { main = c.self.inside.main; output = c.self.inside.output; error = c.self.inside.error; named = c.self.inside.named.items } in
    let kept : all_unheld c.bring.new.named ≡ all_unheld c.self.inside.named.items = c.bring.ensures.same ∙ ap all_unheld c.deref_mut.ensures.value in
    let items : (with_items c.self.inside.named c.bring.new.named).items ≡ c.bring.new.named = with_items_is c.self.inside.named c.bring.new.named (but_held_length c.deref_mut.result.now c.bring.new.named c.bring.ensures.same ∙ c.deref_mut.ensures.len) in
    subst (λ (xs : List NamedStream). OnOk c.bring.result (HoldsNothing record s { output = c.flush.new.self; error = c.flush-2.new.self; named = xs })) (sym items)
    (on_ok c.bring.result (λ (h : AreEmpty c.bring.new.named). record { output = c.in_ok-flush.ensures.empty; error = c.in_ok-flush-2.ensures.empty; named = h }) c.bring.ensures.empty)

pub returns-clause-flushed : goal.returns-clause-flushed
returns-clause-flushed g c =
    let w = g.W.World in
    let s : StreamsView = record { main = c.self.inside.main; output = c.self.inside.output; error = c.self.inside.error; named = c.self.inside.named.items } in
    flushed_three w.is_logged (w.state c.args.world.now) (w.state c.flush.new.world) (w.state c.flush-2.new.world) (w.state c.bring.new.world) c.args.self.now s c.in_ok-flush.field-0 c.in_ok-flush-2.field-0 c.bring.result c.self.view_is c.requires.sound
    c.in_ok-flush.ensures.told c.in_ok-flush-2.ensures.told
    (subst (λ (xs : List NamedStream). OnOk c.bring.result (w.is_logged → AreFlushedBut (held_in xs) (w.state c.flush-2.new.world).log → AreFlushedBut [] (w.state c.bring.new.world).log)) c.deref_mut.ensures.value c.bring.ensures.flushed)

-- where the last step fails, so does the whole

pub returns-clause-fails : goal.returns-clause-fails
returns-clause-fails g c =
    let w = g.W.World in
    IfErr-weaker c.bring.result _ _ (λ e (fails : w.is_logged → FailsWith e (w.state c.flush-2.new.world) (w.state c.bring.new.world)) (t : w.is_logged).
    fails_with_later e (w.state c.args.world.now) (w.state c.flush-2.new.world) (w.state c.bring.new.world) ((c.in_ok-flush-2.ensures.told t).no_failure ∙ (c.in_ok-flush.ensures.told t).no_failure) (fails t)) c.bring.ensures.fails
