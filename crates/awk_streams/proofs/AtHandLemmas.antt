-- A record of the main input that is at hand: the world is as it was.
use Rattle.std.proofs.Common.{◌≡◌, inl, ℕ, true, List, Option, Some, None, Ok, Err, refl, sym, ◌∙◌, ap, subst}
use Rattle.std.specs.Prelude.{is_some, IfSome, IfNone, ◌==◌}
use Rattle.awk_record.specs.Buffer.{Pending, Steps}
use Rattle.awk_record.specs.declared.buffer.Step.TheVariants.{Record, NeedMore}
use Rattle.awk_record.specs.declared.buffer_fault.BufferFault.TheVariants.{Memory as BufferMemory}
use Rattle.awk_world.specs.definitions.Oracle.{standing}
use Rattle.awk_world.specs.definitions.Orderly.{IsReadable}
use Rattle.awk_world.specs.definitions.WorldState.{WorldState}
use Rattle.awk_streams.specs.declared.fault.StreamFault.TheVariants.{WriteFailed}
use Rattle.awk_streams.specs.declared.input.Input.{Input}
use Rattle.awk_streams.specs.definitions.Streams.{StreamsView, AreOpen, IsSoundMain, is_of_main, AreSound, IsSameMain}
use Rattle.awk_streams.specs.definitions.MainInput.{AsksMain}
use Rattle.awk_streams.specs.support.Asks.{Takes}
use Rattle.awk_streams.proofs.GrowsLemmas.{Grows-self}
use Rattle.awk_streams.proofs.MainLemmas.{next_main_open, next_main_told}

-- what an asking for a record at hand leaves, and what it answers
abbrev pub AtHand : List ℕ → Pending → Option (List ℕ) → Pending → Type 0
AtHand separator old None new = new ≡ old
AtHand separator old (Some first) new = Steps separator old (Ok (Record first)) new × (new.ending ≡ old.ending)

takes_record : (separator : List ℕ) (world : WorldState) (old new : Input) (first : List ℕ) → new.id ≡ old.id → AtHand separator old.pending (Some first) new.pending → Takes separator world old (Ok (Record first)) world new
takes_record separator world old new first id (steps, ending) = record {
  id = id;
  pulls = record { seen = old.pending; reads = inl (refl, refl); ending = λ none. sym ending ∙ none; steps = λ differs. steps };
  no_failure = λ differs. refl;
  failure = λ memory. let bad : Ok (Record first) ≡ Err BufferMemory = memory in absurd cc;
  grows = Grows-self world;
}

no_record : (s : StreamsView) (was new : Input) → s.main ≡ Some was → new.id ≡ was.id → new.pending ≡ was.pending → record s { main = Some new } ≡ s
no_record s was new main id same =
    let input : new ≡ was = ap (λ (i : ℕ). record new { id = i }) id ∙ ap (λ (p : Pending). record was { pending = p }) same in
    ap (λ (m : Option Input). record s { main = m }) (ap Some input ∙ sym main)

pub at_hand_none : (separator : List ℕ) (old s : StreamsView) (was new : Input) (result : Option (List ℕ)) → s ≡ old → s.main ≡ Some was → new.id ≡ was.id → AtHand separator was.pending result new.pending → IfNone result (record s { main = Some new } ≡ old)
at_hand_none separator old s was new None is main id hand = no_record s was new main id hand ∙ is
at_hand_none separator old s was new (Some first) is main id hand = tt

pub at_hand_open : (old s : StreamsView) (was new : Input) → s ≡ old → s.main ≡ Some was → new.id ≡ was.id → (world : WorldState) → AreOpen world old → AreOpen world record s { main = Some new }
at_hand_open old s was new is main id world open' = next_main_open world world old s was new is main open' (λ j. refl) id

pub at_hand_told : (separator : List ℕ) (old s : StreamsView) (was new : Input) (result : Option (List ℕ)) → s ≡ old → s.main ≡ Some was → new.id ≡ was.id → AtHand separator was.pending result new.pending →
    IfSome result (λ first. (world : WorldState) → AreOpen world old → AreSound world old → AsksMain separator world old (Ok (Some first)) world record s { main = Some new })
at_hand_told separator old s was new None is main id hand = tt
at_hand_told separator old s was new (Some first) is main id hand = λ world open' sound.
    next_main_told separator world world old s was new (Ok (Record first)) (Ok (Some first)) is main open' sound (λ (e : Ok (Record first) ≡ Ok NeedMore). cc) (takes_record separator world was new first id hand) refl (λ (e : Ok (Some first) ≡ Err WriteFailed). cc)

-- the clauses of an asking for a record at hand
pub at_hand : (separator : List ℕ) (result : Option (List ℕ)) (old new : Pending) → IfSome result (λ first. Steps separator old (Ok (Record first)) new) → IfNone result (new ≡ old) → new.ending ≡ old.ending → AtHand separator old result new
at_hand separator None old new steps same ending = same
at_hand separator (Some first) old new steps same ending = (steps, ending)

pub at_hand_main : (result : Option (List ℕ)) (old s : StreamsView) (was : Input) → s ≡ old → s.main ≡ Some was → IfSome result (λ first. is_some old.main ≡ true)
at_hand_main None old s was is main = tt
at_hand_main (Some first) old s was is main = ap (λ (v : StreamsView). is_some v.main) (sym is) ∙ ap is_some main

pub same_input : (old s : StreamsView) (was new : Input) → s ≡ old → s.main ≡ Some was → new.id ≡ was.id → IsSameMain old.main (Some new)
same_input old s was new is main id =
    subst (λ (m : Option Input). IsSameMain m (Some new)) (sym main ∙ ap (λ (v : StreamsView). v.main) is) id

-- where nothing but the bytes at hand is another, the streams are known as before
pub main_kept : (old s : StreamsView) (was new : Input) → s ≡ old → s.main ≡ Some was → new.id ≡ was.id → new.pending.ending ≡ was.pending.ending → (world : WorldState) → AreSound world old → AreSound world record s { main = Some new }
main_kept old s was new is main id ending world sound =
    let h = subst (λ (v : StreamsView). AreSound world v) (sym is) sound in
    let before = subst (λ (m : Option Input). IsSoundMain world.log m) main h.main in
    record {
      order = h.order;
      main = (
        before.0,
        before.1,
        record {
          stands = ap (λ (i : ℕ). standing i world.log) id ∙ before.2.stands;
          readable = λ none. subst (λ (i : ℕ). IsReadable i world.log) (sym id) (before.2.readable (sym ending ∙ none));
        },
      );
      named = h.named;
      once = h.once;
      few = h.few;
      flushed = h.flushed;
      owned = λ j no_main no_named. h.owned j (ap (is_of_main j) main ∙ (ap (λ i. i == j) (sym id) ∙ no_main)) no_named;
    }
