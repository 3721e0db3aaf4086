-- One asking of an input for a record: what it reads, what it leaves, and what it answers.
use Rattle.std.proofs.Common.{◌≡◌, ◌≢◌, ◌⊎◌, inl, inr, ℕ, List, [], ◌∷◌, ◌++◌, Option, None, Result, Ok, Err, refl, sym, ◌∙◌, ap, subst}
use Rattle.std.specs.Prelude.{is_some}
use Rattle.std.proofs.lemmas.Bool.{cond-false, ne_eqb}
use Rattle.awk_record.specs.Cut.{Ending, Cut, Found, NoMore, BrokenOff, TooLong, cut_of}
use Rattle.awk_record.specs.Buffer.{Pending}
use Rattle.awk_record.specs.declared.buffer.Step.{Step}
use Rattle.awk_record.specs.declared.buffer.Step.TheVariants.{Record, NeedMore, End, Broken}
use Rattle.awk_record.specs.declared.buffer_fault.BufferFault.{BufferFault}
use Rattle.awk_record.specs.declared.buffer_fault.BufferFault.TheVariants.{Memory as BufferMemory, RecordTooLong as BufferRecordTooLong}
use Rattle.awk_world.specs.declared.world.InputKind.{InputKind}
use Rattle.awk_world.specs.definitions.Log.{Event, Read, Ended, Broke}
use Rattle.awk_world.specs.definitions.Oracle.{Oracle, Source, IsConsistent, standing}
use Rattle.awk_world.specs.definitions.Orderly.{IsReadable, IsOrderly, IsInOrder}
use Rattle.awk_world.specs.definitions.Openings.{openings, is_flushed}
use Rattle.awk_world.specs.definitions.Writes.{with_events}
use Rattle.awk_world.specs.definitions.WorldState.{WorldState, SameOpen}
use Rattle.awk_streams.specs.declared.fault.StreamFault.{StreamFault}
use Rattle.awk_streams.specs.declared.fault.StreamFault.TheVariants.{Memory, WriteFailed}
use Rattle.awk_streams.specs.declared.input.Input.{Input}
use Rattle.awk_streams.specs.declared.input.NextNamed.{NextNamed}
use Rattle.awk_streams.specs.definitions.Inputs.{NeededReads, Reaches, Rest, NextTold}
use Rattle.awk_streams.specs.definitions.Streams.{IsSoundInput, IsRestOf}
use Rattle.awk_streams.specs.definitions.NamedInputs.{NamedTold}
use Rattle.awk_streams.specs.support.Kept.{SameStreams, SameAt}
use Rattle.awk_streams.specs.support.Pulls.{Tells, IsToldAs}
use Rattle.awk_streams.specs.support.Asks.{Takes, IsNamedAs}
use Rattle.awk_streams.proofs.KeptLemmas.{same_counts-self, quiet_streams, reads_orderly, reads_readable, reads_quiet}
use Rattle.awk_streams.proofs.LeavesLemmas.{same_at-self, same_at-then}
use Rattle.awk_streams.proofs.OpeningsLemmas.{openings-reads}
use Rattle.awk_streams.proofs.ToldLemmas.{told_next}

-- from one asking of the buffer to what the streams tell
pub next_told : (c : Cut) (step : Result Step BufferFault) (result : Result (Option (List ℕ)) StreamFault) (whole left : List ℕ) → IsToldAs step result → Tells c step whole left → NextTold c result whole left
next_told (Found first rest) step result whole left says tells = (subst (λ (r : Result Step BufferFault). IsToldAs r result) tells.0 says, tells.1)
next_told NoMore step result whole left says tells = (subst (λ (r : Result Step BufferFault). IsToldAs r result) tells.0 says, tells.1)
next_told BrokenOff step result whole left says tells = (subst (λ (r : Result Step BufferFault). IsToldAs r result) tells.0 says, tells.1)
next_told TooLong step result whole left says tells = (subst (λ (r : Result Step BufferFault). IsToldAs r result) tells.0 says, tells.1)

-- a want of memory alone is told so
pub told_memory : (step : Result Step BufferFault) (result : Result (Option (List ℕ)) StreamFault) → IsToldAs step result → result ≡ Err Memory → step ≡ Err BufferMemory
told_memory (Ok (Record first)) result says is = let bad = sym says ∙ is in absurd cc
told_memory (Ok End) result says is = let bad = sym says ∙ is in absurd cc
told_memory (Ok Broken) result says is = let bad = sym says ∙ is in absurd cc
told_memory (Ok NeedMore) result says is = absurd says
told_memory (Err BufferMemory) result says is = refl
told_memory (Err BufferRecordTooLong) result says is = let bad = sym says ∙ is in absurd cc

-- a want of memory is told as such
pub memory_told : (step : Result Step BufferFault) (result : Result (Option (List ℕ)) StreamFault) → IsToldAs step result → step ≡ Err BufferMemory → result ≡ Err Memory
memory_told step result says is = subst (λ (r : Result Step BufferFault). IsToldAs r result) is says

pub reaches_openings : (id : ℕ) (separator : List ℕ) (old seen : Pending) (log log' : List Event) → Reaches id separator old log seen log' → openings log' ≡ openings log
reaches_openings id separator old seen log log' (inl (same, still)) = ap openings still
reaches_openings id separator old seen log log' (inr (began, goes)) = ap openings goes.log ∙ openings-reads id separator old.bytes seen.bytes seen.ending goes.events log goes.each

pub reaches_streams : (id : ℕ) (separator : List ℕ) (old seen : Pending) (log log' : List Event) → Reaches id separator old log seen log' → SameStreams log log'
reaches_streams id separator old seen log log' (inl (same, still)) = subst (λ (l : List Event). SameStreams log l) (sym still) record { stands = λ j. refl; counts = same_counts-self log }
reaches_streams id separator old seen log log' (inr (began, goes)) =
    subst (λ (l : List Event). SameStreams log l) (sym goes.log) (quiet_streams goes.events log (reads_quiet id separator old.bytes seen.bytes seen.ending goes.events goes.each))

-- needed readings keep the log orderly
pub reaches_order : (id : ℕ) (separator : List ℕ) (old seen : Pending) (log log' : List Event) → Reaches id separator old log seen log' → IsOrderly log → (old.ending ≡ None → IsReadable id log) → IsOrderly log'
reaches_order id separator old seen log log' (inl (same, still)) orderly readable = subst (λ (l : List Event). IsOrderly l) (sym still) orderly
reaches_order id separator old seen log log' (inr (began, goes)) orderly readable =
    subst (λ (l : List Event). IsOrderly l) (sym goes.log) (reads_orderly id separator old.bytes seen.bytes seen.ending goes.events log goes.each (readable began) orderly)

-- and the input readable unless its ending was met
pub reaches_readable : (id : ℕ) (separator : List ℕ) (old seen : Pending) (log log' : List Event) → Reaches id separator old log seen log' → (old.ending ≡ None → IsReadable id log) → seen.ending ≡ None → IsReadable id log'
reaches_readable id separator old seen log log' (inl (same, still)) readable none =
    subst (λ (l : List Event). IsReadable id l) (sym still) (readable (ap (λ (p : Pending). p.ending) (sym same) ∙ none))
reaches_readable id separator old seen log log' (inr (began, goes)) readable none =
    subst (λ (l : List Event). IsReadable id l) (sym goes.log) (reads_readable id separator old.bytes seen.bytes seen.ending goes.events log goes.each (readable began) none)

-- and what is read was readable
pub reaches_open : (id : ℕ) (separator : List ℕ) (old seen : Pending) (log log' : List Event) → Reaches id separator old log seen log' → (old.ending ≡ None → IsReadable id log) → (log' ≡ log) ⊎ IsReadable id log
reaches_open id separator old seen log log' (inl (same, still)) readable = inl still
reaches_open id separator old seen log log' (inr (began, goes)) readable = inr (readable began)

pub named_next : (c : Cut) (step : Result Step BufferFault) (result : Result NextNamed StreamFault) (whole left : List ℕ) → IsNamedAs step result → Tells c step whole left → NamedTold c result whole left
named_next (Found first rest) step result whole left says tells = (subst (λ (r : Result Step BufferFault). IsNamedAs r result) tells.0 says, tells.1)
named_next NoMore step result whole left says tells = (subst (λ (r : Result Step BufferFault). IsNamedAs r result) tells.0 says, tells.1)
named_next BrokenOff step result whole left says tells = (subst (λ (r : Result Step BufferFault). IsNamedAs r result) tells.0 says, tells.1)
named_next TooLong step result whole left says tells = (subst (λ (r : Result Step BufferFault). IsNamedAs r result) tells.0 says, tells.1)

pub named_memory : (step : Result Step BufferFault) (result : Result NextNamed StreamFault) → IsNamedAs step result → step ≡ Err BufferMemory → result ≡ Err Memory
named_memory step result says is = subst (λ (r : Result Step BufferFault). IsNamedAs r result) is says

-- what other inputs have read is the same

read_other : (id i j : ℕ) (bs : List ℕ) (log : List Event) → i ≡ id → j ≢ id → SameAt j log (Read i bs ∷ log)
read_other id i j bs log same differs = record { stands = refl; reads = cond-false _ _ _ (ne_eqb i j (λ (e : i ≡ j). differs (sym e ∙ same))); place = refl }

end_other : (id i j : ℕ) (log : List Event) → i ≡ id → j ≢ id → SameAt j log (Ended i ∷ log)
end_other id i j log same differs = record { stands = refl; reads = cond-false _ _ _ (ne_eqb i j (λ (e : i ≡ j). differs (sym e ∙ same))); place = refl }

break_other : (id i j : ℕ) (log : List Event) → i ≡ id → j ≢ id → SameAt j log (Broke i ∷ log)
break_other id i j log same differs = record { stands = refl; reads = cond-false _ _ _ (ne_eqb i j (λ (e : i ≡ j). differs (sym e ∙ same))); place = refl }

reads_others : (id j : ℕ) (separator b b' : List ℕ) (ending : Option Ending) (es log : List Event) → NeededReads id separator b b' ending es → j ≢ id → SameAt j log (with_events es log)
reads_others id j separator b b' ending [] log h differs = same_at-self j log
reads_others id j separator b b' ending (Read i bs ∷ es) log (same, undecided, later) differs = same_at-then (read_other id i j bs log same differs) (reads_others id j separator (b ++ bs) b' ending es (Read i bs ∷ log) later differs)
reads_others id j separator b b' ending (Ended i ∷ es) log (same, undecided, last, bytes, met) differs = subst (λ (x : List Event). SameAt j log (with_events x (Ended i ∷ log))) (sym last) (end_other id i j log same differs)
reads_others id j separator b b' ending (Broke i ∷ es) log (same, undecided, last, bytes, met) differs = subst (λ (x : List Event). SameAt j log (with_events x (Broke i ∷ log))) (sym last) (break_other id i j log same differs)
reads_others id j separator b b' ending (e ∷ es) log h differs = absurd h

reads_flushed : (id j : ℕ) (separator b b' : List ℕ) (ending : Option Ending) (es log : List Event) → NeededReads id separator b b' ending es → is_flushed j (with_events es log) ≡ is_flushed j log
reads_flushed id j separator b b' ending [] log h = refl
reads_flushed id j separator b b' ending (Read i bs ∷ es) log (same, undecided, later) = reads_flushed id j separator (b ++ bs) b' ending es (Read i bs ∷ log) later
reads_flushed id j separator b b' ending (Ended i ∷ es) log (same, undecided, last, bytes, met) = ap (λ (x : List Event). is_flushed j (with_events x (Ended i ∷ log))) last
reads_flushed id j separator b b' ending (Broke i ∷ es) log (same, undecided, last, bytes, met) = ap (λ (x : List Event). is_flushed j (with_events x (Broke i ∷ log))) last
reads_flushed id j separator b b' ending (e ∷ es) log h = absurd h

pub reaches_others : (id j : ℕ) (separator : List ℕ) (old seen : Pending) (log log' : List Event) → Reaches id separator old log seen log' → j ≢ id → SameAt j log log'
reaches_others id j separator old seen log log' (inl (same, still)) differs = subst (λ (l : List Event). SameAt j log l) (sym still) (same_at-self j log)
reaches_others id j separator old seen log log' (inr (began, goes)) differs =
    subst (λ (l : List Event). SameAt j log l) (sym goes.log) (reads_others id j separator old.bytes seen.bytes seen.ending goes.events log goes.each differs)

pub reaches_flushed : (id j : ℕ) (separator : List ℕ) (old seen : Pending) (log log' : List Event) → Reaches id separator old log seen log' → is_flushed j log' ≡ is_flushed j log
reaches_flushed id j separator old seen log log' (inl (same, still)) = ap (is_flushed j) still
reaches_flushed id j separator old seen log log' (inr (began, goes)) = ap (is_flushed j) goes.log ∙ reads_flushed id j separator old.bytes seen.bytes seen.ending goes.events log goes.each

-- an input that is asked, in all

pub asked_sound : (separator : List ℕ) (before after : WorldState) (kind : InputKind) (old new : Input) (step : Result Step BufferFault) → IsSoundInput before.log kind old → Takes separator before old step after new → IsSoundInput after.log kind new
asked_sound separator before after kind old new step sound takes =
    let pulls = takes.pulls in
    let same = reaches_streams old.id separator old.pending pulls.seen before.log after.log pulls.reads in
    record {
      stands = ap (λ id. standing id after.log) takes.id ∙ (same.stands old.id ∙ sound.stands);
      readable = λ none. subst (λ (id : ℕ). IsReadable id after.log) (sym takes.id) (reaches_readable old.id separator old.pending pulls.seen before.log after.log pulls.reads sound.readable (pulls.ending none));
    }

pub asked_order : (separator : List ℕ) (before after : WorldState) (kind : InputKind) (old new : Input) (step : Result Step BufferFault) → SameOpen before after → IsSoundInput before.log kind old → Takes separator before old step after new → IsInOrder before.is_open before.log → IsInOrder after.is_open after.log
asked_order separator before after kind old new step same sound takes order =
    let pulls = takes.pulls in
    record {
      orderly = reaches_order old.id separator old.pending pulls.seen before.log after.log pulls.reads order.orderly sound.readable;
      known = λ j some. same j ∙ order.known j (ap is_some (sym ((reaches_streams old.id separator old.pending pulls.seen before.log after.log pulls.reads).stands j)) ∙ some);
    }

-- what is left of it, and what is answered
pub asked_rest : (separator : List ℕ) (before after : WorldState) (old new : Input) (step : Result Step BufferFault) → step ≢ Ok NeedMore → step ≢ Err BufferMemory → Takes separator before old step after new → (a : Oracle) (whole : Source) → IsConsistent a after.log → IsRestOf a before.log old whole →
    (left : List ℕ) × Tells (cut_of separator whole.bytes whole.ending) step whole.bytes left × IsRestOf a after.log new record { bytes = left; ending = whole.ending }
asked_rest separator before after old new step told differs takes a whole consistent rest =
    let next = told_next old.id separator old.pending new.pending before.log after.log step takes.pulls told differs a rest.0 whole.bytes consistent rest.2 in (
      next.0,
      subst (λ (e : Ending). Tells (cut_of separator whole.bytes e) step whole.bytes next.0) rest.1 next.1,
      (rest.0, rest.1, subst (λ (id : ℕ). Rest a id after.log rest.0 next.0 new.pending.bytes new.pending.ending) (sym takes.id) next.2),
    )

-- want of memory is told as such, and a failed write never

pub named_wants : (step : Result Step BufferFault) (result : Result NextNamed StreamFault) → IsNamedAs step result → result ≡ Err Memory → step ≡ Err BufferMemory
named_wants (Ok (Record first)) result says is = let bad = sym says ∙ is in absurd cc
named_wants (Ok End) result says is = let bad = sym says ∙ is in absurd cc
named_wants (Ok Broken) result says is = let bad = sym says ∙ is in absurd cc
named_wants (Ok NeedMore) result says is = absurd says
named_wants (Err BufferMemory) result says is = refl
named_wants (Err BufferRecordTooLong) result says is = let bad = sym says ∙ is in absurd cc

pub named_not_write : (step : Result Step BufferFault) (result : Result NextNamed StreamFault) → IsNamedAs step result → result ≢ Err WriteFailed
named_not_write (Ok (Record first)) result says = λ is. let bad = sym says ∙ is in absurd cc
named_not_write (Ok End) result says = λ is. let bad = sym says ∙ is in absurd cc
named_not_write (Ok Broken) result says = λ is. let bad = sym says ∙ is in absurd cc
named_not_write (Ok NeedMore) result says = absurd says
named_not_write (Err BufferMemory) result says = λ is. let bad = sym says ∙ is in absurd cc
named_not_write (Err BufferRecordTooLong) result says = λ is. let bad = sym says ∙ is in absurd cc
