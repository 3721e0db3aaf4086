use Rattle.std.proofs.Common.{◌≡◌, ◌⊎◌, inl, inr, ℕ, List, [], ◌∷◌, ◌++◌, Option, Some, None, Result, Ok, Err, refl, sym, ◌∙◌, ap, subst}
use Rattle.awk_world.specs.definitions.Log.{Event, Read, Ended, Broke}
use Rattle.awk_record.specs.Cut.{Ending, IsDecided}
use Rattle.awk_record.specs.Buffer.{Pending}
use Rattle.awk_world.specs.definitions.Writes.{with_events}
use Rattle.awk_streams.specs.definitions.Inputs.{NeededReads, Reaches}
use Rattle.awk_streams.specs.support.Pulls.{Brings, Pulls}
use Rattle.awk_record.specs.Cut.{Cut, Found, NoMore, BrokenOff, TooLong, cut_of}
use Rattle.awk_record.specs.Buffer.{Steps, IsAnswerOf}
use Rattle.awk_record.specs.declared.buffer.Step.{Step}
use Rattle.awk_record.specs.declared.buffer_fault.BufferFault.{BufferFault}
use Rattle.awk_record.specs.declared.buffer_fault.BufferFault.TheVariants.{Memory, RecordTooLong}

with_events-push : (es : List Event) (e : Event) (log : List Event) → with_events (es ++ e ∷ []) log ≡ e ∷ with_events es log
with_events-push [] e log = refl
with_events-push (x ∷ es) e log = with_events-push es e (x ∷ log)

one_read : (id : ℕ) (separator : List ℕ) (e : Event) (mid new : Pending) → (IsDecided separator mid.bytes → ⊥) → Brings id e mid new → NeededReads id separator mid.bytes new.bytes new.ending (e ∷ [])
one_read id separator (Read i bs) mid new open' (same, bytes, ending) = (same, open', (bytes, ending))
one_read id separator (Ended i) mid new open' (same, bytes, ending) = (same, open', refl, bytes, ending)
one_read id separator (Broke i) mid new open' (same, bytes, ending) = (same, open', refl, bytes, ending)
one_read id separator e mid new open' h = absurd h

reads_more : (id : ℕ) (separator b : List ℕ) (es : List Event) (e : Event) (mid new : Pending) → NeededReads id separator b mid.bytes None es → (IsDecided separator mid.bytes → ⊥) → Brings id e mid new →
    NeededReads id separator b new.bytes new.ending (es ++ e ∷ [])
reads_more id separator b [] e mid new (same, none) open' brings = subst (λ (x : List ℕ). NeededReads id separator x new.bytes new.ending (e ∷ [])) same (one_read id separator e mid new open' brings)
reads_more id separator b (Read i bs ∷ es) e mid new (same, needed, later) open' brings = (same, needed, reads_more id separator (b ++ bs) es e mid new later open' brings)
reads_more id separator b (Ended i ∷ es) e mid new (same, needed, last, bytes, ending) open' brings = cc
reads_more id separator b (Broke i ∷ es) e mid new (same, needed, last, bytes, ending) open' brings = cc
reads_more id separator b (x ∷ es) e mid new h open' brings = absurd h

pub Reaches-more : (id : ℕ) (separator : List ℕ) (old mid new : Pending) (log log1 log2 : List Event) (e : Event) → Reaches id separator old log mid log1 → mid.ending ≡ None →
    (IsDecided separator mid.bytes → ⊥) → log2 ≡ e ∷ log1 → Brings id e mid new → Reaches id separator old log new log2
Reaches-more id separator old mid new log log1 log2 e (inl (same, same_log)) none open' is brings =
    inr (
      ap (λ (p : Pending). p.ending) (sym same) ∙ none,
      record { events = e ∷ []; log = is ∙ ap (λ l. e ∷ l) same_log; each = subst (λ (x : List ℕ). NeededReads id separator x new.bytes new.ending (e ∷ [])) (ap (λ (p : Pending). p.bytes) same) (one_read id separator e mid new open' brings) },
    )
Reaches-more id separator old mid new log log1 log2 e (inr (began, goes)) none open' is brings =
    inr (
      began,
      record {
        events = goes.events ++ e ∷ [];
        log = is ∙ (ap (λ l. e ∷ l) goes.log ∙ sym (with_events-push goes.events e log));
        each = reads_more id separator old.bytes goes.events e mid new (subst (λ (x : Option Ending). NeededReads id separator old.bytes mid.bytes x goes.events) none goes.each) open' brings;
      },
    )

pub ok_err : {T E : Type 0} (x : T) (e : E) → Ok x ≡ Err e → ⊥
ok_err x e is = cc

kept_ending : (c : Cut) (e : Ending) (result : Result Step BufferFault) (old new : Pending) → old.ending ≡ Some e → IsAnswerOf c (Some e) result old new → new.ending ≡ Some e
kept_ending (Found first rest) e result old new is h = h.2
kept_ending NoMore e result old new is h = h.2
kept_ending BrokenOff e result old new is h = h.2
kept_ending TooLong e result old new is h = ap (λ (p : Pending). p.ending) h.1 ∙ is

some_none : {T : Type 0} {P : Type 0} (x : T) → Some x ≡ None → P
some_none x e = cc

steps_at : (o : Option Ending) (separator : List ℕ) (result : Result Step BufferFault) (old new : Pending) → old.ending ≡ o → Steps separator old result new → new.ending ≡ None → old.ending ≡ None
steps_at None separator result old new is steps none = is
steps_at (Some e) separator result old new is steps none = some_none e (sym (kept_ending (cut_of separator old.bytes e) e result old new is (steps.ended e is)) ∙ none)

-- an ending that was met stays
pub steps_ending : (separator : List ℕ) (result : Result Step BufferFault) (old new : Pending) → Steps separator old result new → new.ending ≡ None → old.ending ≡ None
steps_ending separator result old new steps none = steps_at old.ending separator result old new refl steps none

-- whatever the buffer answers, an ending that was met stays
pub step_ending : (separator : List ℕ) (result : Result Step BufferFault) (old new : Pending) → ((result ≡ Err Memory → ⊥) → Steps separator old result new) → (result ≡ Err Memory → new ≡ old) → new.ending ≡ None → old.ending ≡ None
step_ending separator (Err Memory) old new steps memory none = ap (λ (p : Pending). p.ending) (sym (memory refl)) ∙ none
step_ending separator (Ok s) old new steps memory none = steps_ending separator (Ok s) old new (steps (λ (e : Ok s ≡ Err Memory). cc)) none
step_ending separator (Err RecordTooLong) old new steps memory none = steps_ending separator (Err RecordTooLong) old new (steps (λ (e : Err RecordTooLong ≡ Err Memory). cc)) none

-- a reading that found no memory: nothing was done, or its bytes are lost
pub Reaches-lost : (id : ℕ) (separator : List ℕ) (old mid : Pending) (log log1 log2 : List Event) → Reaches id separator old log mid log1 → mid.ending ≡ None → (IsDecided separator mid.bytes → ⊥) →
    (log2 ≡ log1) ⊎ ((bytes : List ℕ) × (log2 ≡ Read id bytes ∷ log1)) → (seen : Pending) × Reaches id separator old log seen log2 × (seen.ending ≡ None)
Reaches-lost id separator old mid log log1 log2 reaches none undecided (inl same) = (mid, subst (λ (l : List Event). Reaches id separator old log mid l) (sym same) reaches, none)
Reaches-lost id separator old mid log log1 log2 reaches none undecided (inr (bytes, is)) =
    let seen : Pending = record { bytes = mid.bytes ++ bytes; ending = None } in
    (seen, Reaches-more id separator old mid seen log log1 log2 (Read id bytes) reaches none undecided is (refl, refl, refl), refl)

pub pulls_lost : (id : ℕ) (separator : List ℕ) (old mid new : Pending) (log log1 log2 : List Event) (result : Result Step BufferFault) → Reaches id separator old log mid log1 → mid.ending ≡ None → (IsDecided separator mid.bytes → ⊥) →
    (log2 ≡ log1) ⊎ ((bytes : List ℕ) × (log2 ≡ Read id bytes ∷ log1)) → result ≡ Err Memory → Pulls id separator old log result new log2
pulls_lost id separator old mid new log log1 log2 result reaches none undecided lost is =
    let found = Reaches-lost id separator old mid log log1 log2 reaches none undecided lost in
    record { seen = found.0; reads = found.1; ending = λ e. found.2; steps = λ differs. absurd (differs is) }
