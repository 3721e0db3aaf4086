-- What the end of a run leaves, after a body that ended well or by a failure.
use Rattle.std.proofs.Common.{◌≡◌, ◌≢◌, ◌⊎◌, inl, inr, ℕ, zero, suc, ◌+◌, ◌-◌, ◌≤◌, List, [], ◌∷◌, ◌++◌, length, take, drop, Some, Result, Ok, Err, true, refl, sym, ap, ◌∙◌, subst, arith}
use Rattle.std.proofs.lemmas.List.{take-append-drop, length-take-le}
use Rattle.std.proofs.lemmas.Option.{same_Some}
use Rattle.awk_world.specs.declared.failure.Failure.{Failure}
use Rattle.awk_world.specs.declared.world.WorldFault.{WorldFault}
use Rattle.awk_world.specs.declared.world.WorldFault.TheVariants.{Memory, Failed}
use Rattle.awk_streams.specs.declared.fault.StreamFault.{StreamFault}
use Rattle.awk_streams.specs.Log.{Event, Wrote, Flushed, Closed}
use Rattle.awk_streams.specs.Oracle.{Oracle, IsConsistent}
use Rattle.awk_streams.specs.Writes.{with_events}
use Rattle.awk_streams.specs.Openings.{Opening, outputs_of, AreBrought, Begins}
use Rattle.awk_streams.specs.Outputs.{output_fault_of}
use Rattle.awk_streams.specs.Grows.{Grows}
use Rattle.awk_streams.specs.WorldState.{WorldState, is_any, first_behind, first_of}
use Rattle.awk_streams.specs.Streams.{StreamsView, held_of, printed_openings, numbered, AreBringing}
use Rattle.awk_streams.specs.Commands.{Finishes, AreOfTheEnd}
use Rattle.awk_streams.proofs.GrowsLemmas.{with_events-append, first_stays, first_between}
use Rattle.awk_streams.proofs.ViewLemmas.{not_marked}
use Rattle.awk_semantics.specs.declared.halt.Halt.{Halt}
use Rattle.awk_semantics.specs.declared.halt.Halt.TheVariants as halt
use Rattle.awk_semantics.specs.declared.outcome.Outcome.{Outcome}
use Rattle.awk_semantics.specs.declared.outcome.Outcome.TheVariants.{Ended as EndedWith, Fault, Stopped}
use Rattle.awk_semantics.specs.declared.fault as declared
use Rattle.awk_semantics.specs.declared.fault.Fault.TheVariants as faults
use Rattle.awk_semantics.specs.definitions.State.{Effect, Requested, Ends, Stream, Out}
use Rattle.awk_semantics.specs.definitions.Meaning.{Asked, Meaning, closings_of, with_end, outcome_of, first_outputs, outputs_after, requests_from}
use Rattle.awk_semantics.specs.definitions.Order.{Stage, MeetsAll, first_stage, IsInTurn}
use Rattle.awk_semantics.specs.definitions.Failure.{before_end, MeetsFirst, fault_of, FailsAs, FailsAt}
use Rattle.awk_semantics.specs.support.PartFaults.{stream_fault}
use Rattle.awk_semantics.specs.support.Results.{Sort, WantOfMemory, FailedWrite, OfLanguage, sort_of}
use Rattle.awk_semantics.specs.support.Unended.{AreUnended}
use Rattle.awk_semantics.proofs.Requests.{goes_last, meets_append, requests-append}
use Rattle.awk_runtime.specs.declared.runtime.Runtime.{Runtime}
use Rattle.awk_runtime.specs.support.Simulation.{main_number, stage_of, StreamsRelation, FailureRelation, FailedLast, ResultRelation, ResultRelationBy}
use Rattle.awk_runtime.proofs.Composition.{clear_spent, cut_behind}
use Rattle.awk_runtime.proofs.Effects.{begins-then}
use Rattle.awk_run.specs.support.Verdict.{outcome_after}
use Rattle.awk_run.proofs.Closings.{end_prints, before_the_end, bringing_between, ends_met}

-- what is shown from the end of a run on
abbrev end_effects : List Stream → List Effect
end_effects streams = Requested Ends ∷ closings_of streams

-- a meaning, read off what the body of a run comes to
abbrev pub read_off : Out (Unit {0}) → Meaning
read_off o = record { outcome = outcome_of (with_end o).result (with_end o).state.status; outputs = outputs_after (with_end o).effects; requests = requests_from first_outputs (with_end o).effects }

-- the body of a run came to what the meaning has
pub record IsMeant (oracle : Oracle) (k : WorldState) (streams : StreamsView) (o : Out (Unit {0})) (result : Outcome) : Type 0 where
  pub clear : k.failures ≡ []
  pub outcome : outcome_of o.result o.state.status ≡ result
  -- the language has no failed write
  pub no_write : result ≢ Fault faults.WriteFailed
  pub stands : StreamsRelation oracle streams k o.state o.effects

-- the world met no failure, or one where its log ended
abbrev pub FailedAtMostOnce : WorldState → Type 0
FailedAtMostOnce k = (k.failures ≡ []) ⊎ ((what : WorldFault) × FailedLast what k)

-- the body was ended by want of memory or a failed write
pub record IsCut (oracle : Oracle) (k : WorldState) (streams : StreamsView) (ended : Outcome) (o : Out (Unit {0})) : Type 0 where
  pub fails : FailureRelation oracle (FailedAtMostOnce k) streams k o.effects
  pub cause : (ended ≡ Fault faults.OutOfMemory) ⊎ ((ended ≡ Fault faults.WriteFailed) × FailedLast Failed k)

abbrev pub Came : Oracle → WorldState → StreamsView → Outcome → Out (Unit {0}) → Type 0
Came oracle k streams ended o = IsMeant oracle k streams o ended ⊎ IsCut oracle k streams ended o

-- the outcome of a halt, by what the language knows of it
outcome_by : (h reason : Halt) (status : ℕ) → sort_of h ≡ OfLanguage reason → outcome_of (Err reason) status ≡ outcome_of (Err h) status
outcome_by halt.OutOfSteps reason status e = let s : halt.OutOfSteps ≡ reason = cc in ap (λ (x : Halt). outcome_of (Err x) status) (sym s)
outcome_by halt.Next reason status e = let s : halt.Next ≡ reason = cc in ap (λ (x : Halt). outcome_of (Err x) status) (sym s)
outcome_by halt.Exit reason status e = let s : halt.Exit ≡ reason = cc in ap (λ (x : Halt). outcome_of (Err x) status) (sym s)
outcome_by (halt.Fault faults.OutOfMemory) reason status e = absurd (cc)
outcome_by (halt.Fault faults.WriteFailed) reason status e = absurd (cc)
outcome_by (halt.Fault f) reason status e = let s : halt.Fault f ≡ reason = cc in ap (λ (x : Halt). outcome_of (Err x) status) (sym s)

-- such an outcome is no failed write
not_written : (h reason : Halt) (status : ℕ) → sort_of h ≡ OfLanguage reason → outcome_of (Err h) status ≢ Fault faults.WriteFailed
not_written halt.OutOfSteps reason status e = λ (is : Stopped ≡ Fault faults.WriteFailed). absurd (cc)
not_written halt.Next reason status e = λ (is : Fault faults.NextWithoutRecord ≡ Fault faults.WriteFailed). absurd (cc)
not_written halt.Exit reason status e = λ (is : EndedWith status ≡ Fault faults.WriteFailed). absurd (cc)
not_written (halt.Fault faults.OutOfMemory) reason status e = absurd (cc)
not_written (halt.Fault faults.WriteFailed) reason status e = absurd (cc)
not_written (halt.Fault f) reason status e = λ (is : Fault f ≡ Fault faults.WriteFailed). absurd (cc)

memory_sort : (h : Halt) → sort_of h ≡ WantOfMemory → h ≡ halt.Fault faults.OutOfMemory
memory_sort (halt.Fault faults.OutOfMemory) e = refl
memory_sort (halt.Fault faults.WriteFailed) e = absurd (cc)
memory_sort (halt.Fault f) e = absurd (cc)
memory_sort halt.OutOfSteps e = absurd (cc)
memory_sort halt.Next e = absurd (cc)
memory_sort halt.Exit e = absurd (cc)

write_sort : (h : Halt) → sort_of h ≡ FailedWrite → h ≡ halt.Fault faults.WriteFailed
write_sort (halt.Fault faults.OutOfMemory) e = absurd (cc)
write_sort (halt.Fault faults.WriteFailed) e = refl
write_sort (halt.Fault f) e = absurd (cc)
write_sort halt.OutOfSteps e = absurd (cc)
write_sort halt.Next e = absurd (cc)
write_sort halt.Exit e = absurd (cc)

-- the outcome that the definitions have is the one of the code's result and status
same_outcome : (o : Out (Unit {0})) (r : Result (Unit {0}) Halt) (status : ℕ) → o.result ≡ r → o.state.status ≡ status → outcome_of o.result o.state.status ≡ outcome_of r status
same_outcome o r status e same = ap (λ (x : Result (Unit {0}) Halt). outcome_of x o.state.status) e ∙ ap (λ (n : ℕ). outcome_of r n) same

-- the same of a failure, of whose place less is said
failed_as : {A B : Type 0} {oracle : Oracle} {k : WorldState} {streams : StreamsView} {effects : List Effect} → (A → B) → FailureRelation oracle A streams k effects → FailureRelation oracle B streams k effects
failed_as less h = record { done = h.done; others = h.others; parts = h.parts; last = h.last; at = h.at; turn = h.turn; keeps = h.keeps; begins = h.begins; failure = less h.failure }

memory_once : (k : WorldState) → (k.failures ≡ []) ⊎ FailedLast Memory k → FailedAtMostOnce k
memory_once k (inl none) = inl none
memory_once k (inr last) = inr (Memory, last)

write_once : (k : WorldState) → FailedLast Failed k → FailedAtMostOnce k
write_once k last = inr (Failed, last)

came_by : (oracle : Oracle) (m : Runtime) (k : WorldState) (h : Halt) (s : Sort) (o : Out (Unit {0})) → sort_of h ≡ s → ResultRelationBy oracle m k s o [] → Came oracle k m.streams (outcome_of (Err h) m.status) o
came_by oracle m k h WantOfMemory o e comes = inr record { fails = failed_as (memory_once k) comes; cause = inl (ap (λ (x : Halt). outcome_of (Err x) m.status) (memory_sort h e)) }
came_by oracle m k h FailedWrite o e comes = inr record { fails = failed_as (write_once k) comes; cause = inr (ap (λ (x : Halt). outcome_of (Err x) m.status) (write_sort h e), comes.failure) }
came_by oracle m k h (OfLanguage reason) o e comes = inl record { clear = comes.1.clear; outcome = same_outcome o (Err reason) m.status comes.0 comes.1.holds.status ∙ outcome_by h reason m.status e; no_write = not_written h reason m.status e; stands = comes.1.streams }

pub came : (oracle : Oracle) (m : Runtime) (k : WorldState) (r : Result (Unit {0}) Halt) (o : Out (Unit {0})) → ResultRelation oracle m k r o [] → Came oracle k m.streams (outcome_of r m.status) o
came oracle m k (Ok u) o comes = inl record { clear = comes.1.clear; outcome = same_outcome o (Ok u) m.status comes.0 comes.1.holds.status; no_write = λ (is : EndedWith m.status ≡ Fault faults.WriteFailed). absurd (cc); stands = comes.1.streams }
came oracle m k (Err h) o comes = came_by oracle m k h (sort_of h) o refl comes

-- an end that did all

pub brought : (oracle : Oracle) (k1 k2 : WorldState) (streams last : StreamsView) (ended : Outcome) (o : Out (Unit {0})) → Finishes k1 streams (Ok tt) k2 last → IsMeant oracle k1 streams o ended → AreBrought (outputs_after (with_end o).effects) k2.log
brought oracle k1 k2 streams last ended o told meant =
    subst (λ os. AreBrought os k2.log) (meant.stands.printed ∙ sym (end_prints o.effects o.state.streams)) told.brought

pub in_turn : (oracle : Oracle) (k1 k2 : WorldState) (streams last : StreamsView) (ended : Outcome) (o : Out (Unit {0})) → Finishes k1 streams (Ok tt) k2 last → IsMeant oracle k1 streams o ended → IsInTurn oracle (read_off o) k2.log
in_turn oracle k1 k2 streams last ended o told meant =
    let behind : MeetsAll oracle (requests_from (outputs_after o.effects) (end_effects o.state.streams)) (stage_of k1.log streams) (stage_of k2.log last) =
    subst (λ os. MeetsAll oracle (requests_from os (end_effects o.state.streams)) (stage_of k1.log streams) (stage_of k2.log last)) meant.stands.printed (ends_met oracle o.state.streams k1 k2 streams last told.ends meant.stands.are.named) in
    record {
      last = stage_of k2.log last;
      is = refl;
      meets = subst (λ (l : List Asked). MeetsAll oracle l first_stage (stage_of k2.log last)) (sym (requests-append first_outputs o.effects (end_effects o.state.streams)))
          (meets_append oracle (requests_from first_outputs o.effects) (requests_from (outputs_after o.effects) (end_effects o.state.streams)) first_stage (stage_of k1.log streams) (stage_of k2.log last) meant.stands.turn behind);
      brought = brought oracle k1 k2 streams last ended o told meant;
    }

-- failures of the world

none_first : (fs : List Failure) (g : Failure) → fs ≡ [] → first_of fs ≡ Some g → ⊥
none_first [] g none is = absurd (cc)
none_first (f ∷ fs) g none is = absurd (cc)

pub not_clear : (what : WorldFault) (k : WorldState) → FailedLast what k → k.failures ≡ [] → ⊥
not_clear what k last clear = not_marked k.failures (ap is_any last.1) clear

-- the one failure stays the first
last_stays : {k1 k2 : WorldState} (what : WorldFault) (last : FailedLast what k1) → Grows k1 k2 → first_of k2.failures ≡ Some (record { at = length k1.log; output = last.0; what = what })
last_stays {k1 = k1} what last grows =
    ap first_of grows.failures ∙ (ap (λ (fs : List Failure). first_of (grows.newer ++ fs)) last.1 ∙ first_stays (record { at = length k1.log; output = last.0; what = what }) grows.newer)

first_is : {k1 k2 : WorldState} (what : WorldFault) (g : Failure) → (last : FailedLast what k1) → Grows k1 k2 → first_of k2.failures ≡ Some g → (g.at ≡ length k1.log) × (g.what ≡ what)
first_is {k1 = k1} {k2 = k2} what g last grows first =
    let same : g ≡ record { at = length k1.log; output = last.0; what = what } = same_Some g (record { at = length k1.log; output = last.0; what = what }) (sym first ∙ last_stays {k1 = k1} {k2 = k2} what last grows) in
    (ap (λ (f : Failure). f.at) same, ap (λ (f : Failure). f.what) same)

-- an end that failed, or a body

pub no_failure_before : (f : Result (Unit {0}) StreamFault) {k k' : WorldState} {old new : StreamsView} → Finishes k old f k' new → k'.failures ≡ [] → (f ≡ Ok tt) × (k.failures ≡ [])
no_failure_before (Ok u) told clear = (refl, sym told.no_failure ∙ clear)
no_failure_before (Err e) {k' = k'} told clear = absurd (not_marked k'.failures told.failure clear)

pub halted_by : (fault : declared.Fault.Fault) (ended : Outcome) (f : Result (Unit {0}) StreamFault) → ended ≡ Fault fault → outcome_after ended f ≡ Fault fault
halted_by fault ended (Ok u) e = e
halted_by fault ended (Err x) e = ap (λ (o : Outcome). outcome_after o (Err x)) e

-- the fault of the end, by the failure that it comes from
own_fault : (what : WorldFault) → stream_fault (output_fault_of what) ≡ fault_of what
own_fault Memory = refl
own_fault Failed = refl

own_failure : (e : StreamFault) (what : WorldFault) → e ≡ output_fault_of what → Fault (stream_fault e) ≡ Fault (fault_of what)
own_failure e what is = ap (λ (x : StreamFault). Fault (stream_fault x)) is ∙ ap (λ (x : declared.Fault.Fault). Fault x) (own_fault what)

-- the log met all requests before the end when it was this
pub record Settled (oracle : Oracle) (meaning : Meaning) (l : List Event) : Type 0 where
  pub last : Stage
  pub at : last.log ≡ l
  pub meets : MeetsAll oracle (before_end meaning.requests) first_stage last

-- the end failed, after a body that is as the meaning has it
end_fails : (oracle : Oracle) (meaning : Meaning) (l : List Event) (ended : Outcome) (e : StreamFault) (what : WorldFault) → e ≡ output_fault_of what → meaning.outcome ≡ ended → Settled oracle meaning l → FailsAs oracle meaning l what (outcome_after ended (Err e))
end_fails oracle meaning l (EndedWith status) e what is outcome settled = inl (own_failure e what is)
end_fails oracle meaning l Stopped e what is outcome settled = inl (own_failure e what is)
end_fails oracle meaning l (Fault f) e what is outcome settled = inr (inr record { fault = f; is = refl; outcome = outcome; last = settled.last; at = settled.at; meets = settled.meets })

fails_by : (oracle : Oracle) (meaning : Meaning) (l : List Event) (ended : Outcome) (f : Result (Unit {0}) StreamFault) {k k' : WorldState} {old new : StreamsView} (g : Failure) → Finishes k old f k' new → k.failures ≡ [] → first_of k'.failures ≡ Some g →
    meaning.outcome ≡ ended → Settled oracle meaning l → FailsAs oracle meaning l g.what (outcome_after ended f)
fails_by oracle meaning l ended (Ok u) {k' = k'} g told clear first outcome settled = absurd (none_first k'.failures g (told.no_failure ∙ clear) first)
fails_by oracle meaning l ended (Err e) g told clear first outcome settled = end_fails oracle meaning l ended e g.what (told.blames g clear first) outcome settled

-- the failure that the end comes to as a failed write is one
written : (e : StreamFault) (what : WorldFault) → e ≡ output_fault_of what → Fault (stream_fault e) ≡ Fault faults.WriteFailed → what ≡ Failed
written e Memory is result = let bad : Fault faults.OutOfMemory ≡ Fault faults.WriteFailed = sym (own_failure e Memory is) ∙ result in absurd (cc)
written e Failed is result = refl

-- a failed write or flush came first
abbrev pub WriteFirst : List Failure → Type 0
WriteFirst fs = (g : Failure) × (first_of fs ≡ Some g) × (g.what ≡ Failed)

first_written : (e : StreamFault) (fs : List Failure) → is_any fs ≡ true → ((g : Failure) → first_of fs ≡ Some g → e ≡ output_fault_of g.what) → Fault (stream_fault e) ≡ Fault faults.WriteFailed → WriteFirst fs
first_written e [] any blames result = absurd (cc)
first_written e (f ∷ fs) any blames result = (first_behind f fs, refl, written e (first_behind f fs).what (blames (first_behind f fs) refl) result)

end_wrote : (ended : Outcome) (f : Result (Unit {0}) StreamFault) {k k' : WorldState} {old new : StreamsView} → Finishes k old f k' new → k.failures ≡ [] → ended ≢ Fault faults.WriteFailed → outcome_after ended f ≡ Fault faults.WriteFailed → WriteFirst k'.failures
end_wrote ended (Ok u) told clear no_write result = absurd (no_write result)
end_wrote (EndedWith status) (Err e) {k' = k'} told clear no_write result = first_written e k'.failures told.failure (λ g first. told.blames g clear first) result
end_wrote Stopped (Err e) {k' = k'} told clear no_write result = first_written e k'.failures told.failure (λ g first. told.blames g clear first) result
end_wrote (Fault f) (Err e) told clear no_write result = absurd (no_write result)

-- the failure stands at the end of the body or later, before anything is closed

with_events-length : (es log : List Event) → length (with_events es log) ≡ length es + length log
with_events-length [] log = omega arith
with_events-length (e ∷ es) log = let rest = with_events-length es (e ∷ log) in omega (arith, rest)

bounds : (k1 k2 : WorldState) (es : List Event) (log : List Event) (g : Failure) → Grows k1 k2 → log ≡ with_events es k1.log → (k1.failures ≡ [] → first_of k2.failures ≡ Some g → g.at ≤ length log) → FailedAtMostOnce k1 → first_of k2.failures ≡ Some g → (length k1.log ≤ g.at) × (g.at ≤ length log)
bounds k1 k2 es log g grows is early (inl none) first = ((first_between {before = k1} {after = k2} g grows none first).0, early none first)
bounds k1 k2 es log g grows is early (inr last) first =
    let at : g.at ≡ length k1.log = (first_is {k1 = k1} {k2 = k2} last.0 g last.1 grows first).0 in
    let long : length log ≡ length es + length k1.log = ap length is ∙ with_events-length es k1.log in
    (omega (arith, at), omega (arith, at, long))

-- a body that came to what the meaning has is one that did all
pub body_failed : (oracle : Oracle) (k1 : WorldState) (streams : StreamsView) (ended : Outcome) (o : Out (Unit {0})) → Came oracle k1 streams ended o → FailureRelation oracle (FailedAtMostOnce k1) streams k1 o.effects
body_failed oracle k1 streams ended o (inl meant) = cut_behind oracle streams k1 o.effects (stage_of k1.log streams) refl meant.stands.turn meant.stands.printed (clear_spent k1 (held_of streams) meant.clear) (inl meant.clear)
body_failed oracle k1 streams ended o (inr cut) = cut.fails

-- a part of what brings bytes

bringing_take : (es : List Event) (m : ℕ) → AreBringing es → AreBringing (take m es)
bringing_take es zero h = tt
bringing_take [] (suc m) h = tt
bringing_take (Wrote id bytes ∷ es) (suc m) h = bringing_take es m h
bringing_take (Flushed id ∷ es) (suc m) h = bringing_take es m h
bringing_take (e ∷ es) (suc m) h = absurd h

bringing_drop : (es : List Event) (m : ℕ) → AreBringing es → AreOfTheEnd (drop m es)
bringing_drop [] zero h = tt
bringing_drop (Wrote id bytes ∷ es) zero h = bringing_drop es zero h
bringing_drop (Flushed id ∷ es) zero h = bringing_drop es zero h
bringing_drop (e ∷ es) zero h = absurd h
bringing_drop [] (suc m) h = tt
bringing_drop (Wrote id bytes ∷ es) (suc m) h = bringing_drop es m h
bringing_drop (Flushed id ∷ es) (suc m) h = bringing_drop es m h
bringing_drop (e ∷ es) (suc m) h = absurd h

ends_append : (es fs : List Event) → AreOfTheEnd es → AreOfTheEnd fs → AreOfTheEnd (es ++ fs)
ends_append [] fs h k = k
ends_append (Wrote id bytes ∷ es) fs h k = ends_append es fs h k
ends_append (Flushed id ∷ es) fs h k = ends_append es fs h k
ends_append (Closed id answer ∷ es) fs h k = ends_append es fs h k
ends_append (e ∷ es) fs h k = absurd h

-- the requests before the end are those of the body
pub body_asks : (o : Out (Unit {0})) → AreUnended o.effects → before_end (read_off o).requests ≡ requests_from first_outputs o.effects
body_asks o unended =
    ap before_end (requests-append first_outputs o.effects (end_effects o.state.streams))
    ∙ before_the_end first_outputs o.effects (record { what = Ends; outputs = outputs_after o.effects }) (requests_from (outputs_after o.effects) (closings_of o.state.streams)) refl unended

-- the log met the first of them, and some of what brings bytes stands behind that
unfoldable pub met_first : {failure : Type 0} (oracle : Oracle) (k1 : WorldState) (streams : StreamsView) (o : Out (Unit {0})) (es : List Event) → AreBringing es → AreUnended o.effects → FailureRelation oracle failure streams k1 o.effects → MeetsFirst oracle (before_end (read_off o).requests) (with_events es k1.log)
met_first oracle k1 streams o es bringing unended fails =
    let behind : Stage = record { log = with_events es k1.log; main = fails.last.main; streams = fails.last.streams } in
    record {
      met = requests_from first_outputs fails.done;
      others = requests_from (outputs_after fails.done) fails.others;
      parts = body_asks o unended ∙ (ap (λ l. requests_from first_outputs l) fails.parts ∙ requests-append first_outputs fails.done fails.others);
      last = behind;
      at = refl;
      meets = goes_last oracle (requests_from first_outputs fails.done) first_stage fails.last behind fails.turn
          record { events = es; log = ap (λ l. with_events es l) (sym fails.at); between = bringing_between fails.last.main es bringing; streams = refl };
    }

-- the log that was met by then, with some of what brings bytes
settled : (oracle : Oracle) (k1 : WorldState) (streams : StreamsView) (ended : Outcome) (o : Out (Unit {0})) (es : List Event) → AreBringing es → AreUnended o.effects → IsMeant oracle k1 streams o ended → Settled oracle (read_off o) (with_events es k1.log)
settled oracle k1 streams ended o es bringing unended meant = record {
  last = record { log = with_events es k1.log; main = main_number streams.main; streams = numbered streams.named };
  at = refl;
  meets = subst (λ (l : List Asked). MeetsAll oracle l first_stage (record { log = with_events es k1.log; main = main_number streams.main; streams = numbered streams.named })) (sym (body_asks o unended))
      (goes_last oracle (requests_from first_outputs o.effects) first_stage (stage_of k1.log streams) (record { log = with_events es k1.log; main = main_number streams.main; streams = numbered streams.named }) meant.stands.turn
      (record { events = es; log = refl; between = bringing_between (main_number streams.main) es bringing; streams = refl }));
}

cause : (oracle : Oracle) (k1 k2 : WorldState) (streams last : StreamsView) (ended : Outcome) (f : Result (Unit {0}) StreamFault) (o : Out (Unit {0})) (g : Failure) (es : List Event) → Finishes k1 streams f k2 last → first_of k2.failures ≡ Some g →
    AreBringing es → AreUnended o.effects → Came oracle k1 streams ended o → FailsAs oracle (read_off o) (with_events es k1.log) g.what (outcome_after ended f)
cause oracle k1 k2 streams last ended f o g es told first bringing unended (inl meant) =
    fails_by oracle (read_off o) (with_events es k1.log) ended f g told meant.clear first meant.outcome (settled oracle k1 streams ended o es bringing unended meant)
cause oracle k1 k2 streams last ended f o g es told first bringing unended (inr cut) = elim cut.cause [
  | inl memory ↦ inr (inl (halted_by faults.OutOfMemory ended f memory))
  | inr write ↦ inl (halted_by faults.WriteFailed ended f write.0 ∙ ap (λ (what : WorldFault). Fault (fault_of what)) (sym (first_is {k1 = k1} {k2 = k2} Failed g write.1 told.grows first).1))
]

-- a failed write that is the outcome was the world's first failure
pub write_blamed : (oracle : Oracle) (k1 k2 : WorldState) (streams last : StreamsView) (ended : Outcome) (f : Result (Unit {0}) StreamFault) (o : Out (Unit {0})) → Finishes k1 streams f k2 last → Came oracle k1 streams ended o → outcome_after ended f ≡ Fault faults.WriteFailed → WriteFirst k2.failures
write_blamed oracle k1 k2 streams last ended f o told (inl meant) result = end_wrote ended f told meant.clear meant.no_write result
write_blamed oracle k1 k2 streams last ended f o told (inr cut) result = elim cut.cause [
  | inl memory ↦ let bad : Fault faults.OutOfMemory ≡ Fault faults.WriteFailed = sym (halted_by faults.OutOfMemory ended f memory) ∙ result in absurd (cc)
  | inr write ↦ (record { at = length k1.log; output = write.1.0; what = Failed }, last_stays {k1 = k1} {k2 = k2} Failed write.1 told.grows, refl)
]

pub fails_at : (out_by : Oracle → Out (Unit {0})) (k1 k2 : WorldState) (streams last : StreamsView) (ended : Outcome) (f : Result (Unit {0}) StreamFault) (g : Failure) → Finishes k1 streams f k2 last → ((oracle : Oracle) → AreUnended (out_by oracle).effects) →
    ((oracle : Oracle) × IsConsistent oracle k2.log) → ((oracle : Oracle) → IsConsistent oracle k2.log → Came oracle k1 streams ended (out_by oracle)) → first_of k2.failures ≡ Some g →
    FailsAt (λ oracle. read_off (out_by oracle)) g k2.log (outcome_after ended f)
fails_at out_by k1 k2 streams last ended f g told unended some_oracle body some =
    let first = told.first in
    let es : List Event = first.brings.events in
    let at = bounds k1 k2 es first.log g told.grows first.brings.log (λ none e. first.failure g none e) (body_failed some_oracle.0 k1 streams ended (out_by some_oracle.0) (body some_oracle.0 some_oracle.1)).failure some in
    let long : length first.log ≡ length es + length k1.log = ap length first.brings.log ∙ with_events-length es k1.log in
    let m : ℕ = g.at - length k1.log in
    let within : m ≤ length es = omega (arith, at.0, at.1, long) in
    record {
      earlier = with_events (take m es) k1.log;
      later = drop m es ++ first.closes.events;
      parts = first.closes.log ∙ (ap (with_events first.closes.events) (first.brings.log ∙ (ap (λ l. with_events l k1.log) (sym (take-append-drop m es)) ∙ with_events-append (take m es) (drop m es) k1.log))
          ∙ sym (with_events-append (drop m es) first.closes.events (with_events (take m es) k1.log)));
      count =
          let some_of : length (take m es) ≡ m = length-take-le m es within in
          let all = with_events-length (take m es) k1.log in
          omega (arith, all, some_of, at.0);
      turn = λ oracle consistent. met_first oracle k1 streams (out_by oracle) (take m es) (bringing_take es m first.brings.each) (unended oracle) (body_failed oracle k1 streams ended (out_by oracle) (body oracle consistent));
      ends = ends_append (drop m es) first.closes.events (bringing_drop es m first.brings.each) first.closes.each;
      fails = λ oracle consistent. cause oracle k1 k2 streams last ended f (out_by oracle) g (take m es) told some (bringing_take es m first.brings.each) (unended oracle) (body oracle consistent);
    }

pub begins_at_end : (oracle : Oracle) (k1 k2 : WorldState) (streams last : StreamsView) (ended : Outcome) (f : Result (Unit {0}) StreamFault) (o : Out (Unit {0})) → Finishes k1 streams f k2 last → Came oracle k1 streams ended o → Begins (outputs_of k2.log) (outputs_after (with_end o).effects)
begins_at_end oracle k1 k2 streams last ended f o told (inl meant) = subst (λ (os : List Opening). Begins (outputs_of k2.log) os) (meant.stands.printed ∙ sym (end_prints o.effects o.state.streams)) told.begins
begins_at_end oracle k1 k2 streams last ended f o told (inr cut) = subst (λ (os : List Opening). Begins (outputs_of k2.log) os) (sym (end_prints o.effects o.state.streams)) (begins-then (outputs_of k2.log) (printed_openings k1 streams) (outputs_after o.effects) told.begins cut.fails.begins)
