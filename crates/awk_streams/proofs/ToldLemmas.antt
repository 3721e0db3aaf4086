-- The record that an asking answers is what the cut of the whole rest gives.
use Rattle.std.proofs.Common.{◌≡◌, ◌≢◌, ◌⊎◌, inl, inr, ◌↔◌, ℕ, List, [], ◌++◌, Option, Some, None, Result, Ok, Err, refl, sym, ◌∙◌, ap, subst, append-nil}
use Rattle.std.proofs.lemmas.Option.{none-some, same_Some}
use Rattle.awk_world.specs.definitions.Log.{Event}
use Rattle.awk_record.specs.Cut.{Ending, AtBreak, Cut, Found, NoMore, BrokenOff, TooLong, cut_of, IsDecided}
use Rattle.awk_record.specs.Buffer.{Pending, Steps, IsAnswerOf}
use Rattle.awk_record.specs.declared.buffer.Step.{Step}
use Rattle.awk_record.specs.declared.buffer.Step.TheVariants.{NeedMore}
use Rattle.awk_record.specs.declared.buffer_fault.BufferFault.{BufferFault}
use Rattle.awk_record.specs.declared.buffer_fault.BufferFault.TheVariants.{Memory}
use Rattle.awk_record.proofs.CutIsDecided.{IsDecided_law}
use Rattle.awk_world.specs.definitions.Oracle.{Oracle, Source, IsConsistent}
use Rattle.awk_streams.specs.definitions.Inputs.{Reaches}
use Rattle.awk_streams.specs.support.Pulls.{Pulls}
use Rattle.awk_streams.specs.definitions.Inputs.{Rest}
use Rattle.awk_streams.specs.support.Pulls.{Tells, TellsNext}
use Rattle.awk_streams.proofs.RestLemmas.{reads_rest}

-- the rest with other bytes in hand and the same bytes unread
rest_with : {a : Oracle} {id : ℕ} {log : List Event} {s : Source} {whole b : List ℕ} {ending : Option Ending} (r : Rest a id log s whole b ending) (left b' : List ℕ) (ending' : Option Ending) →
    left ≡ b' ++ r.more → ((e : Ending) → ending' ≡ Some e → (r.more ≡ []) × (s.ending ≡ e)) → Rest a id log s left b' ending'
rest_with r left b' ending' same over = record {
  reading = r.reading;
  stands = r.stands;
  answer = r.answer;
  more = r.more;
  begins = r.begins;
  same = same;
  over = over;
}

told_ended : (c : Cut) (a : Oracle) (id : ℕ) (log : List Event) (s : Source) (whole : List ℕ) (e : Ending) (seen new : Pending) (result : Result Step BufferFault) (r : Rest a id log s whole seen.bytes seen.ending) →
    r.more ≡ [] → s.ending ≡ e → IsAnswerOf c (Some e) result seen new → (left : List ℕ) × Tells c result whole left × Rest a id log s left new.bytes new.ending
told_ended (Found first rest) a id log s whole e seen new result r none ends h =
    (rest, (h.0, refl), rest_with r rest new.bytes new.ending (sym h.1 ∙ (sym (append-nil new.bytes) ∙ ap (λ m. new.bytes ++ m) (sym none))) (λ e' is. (none, ends ∙ same_Some e e' (sym h.2 ∙ is))))
told_ended NoMore a id log s whole e seen new result r none ends h =
    ([], (h.0, refl), rest_with r [] new.bytes new.ending (sym (ap (λ b. b ++ r.more) h.1 ∙ none)) (λ e' is. (none, ends ∙ same_Some e e' (sym h.2 ∙ is))))
told_ended BrokenOff a id log s whole e seen new result r none ends h =
    ([], (h.0, refl), rest_with r [] new.bytes new.ending (sym (ap (λ b. b ++ r.more) h.1 ∙ none)) (λ e' is. (none, ends ∙ same_Some e e' (sym h.2 ∙ is))))
told_ended TooLong a id log s whole e seen new result r none ends h = (whole, (h.0, refl), subst (λ (p : Pending). Rest a id log s whole p.bytes p.ending) (sym h.1) r)

-- what the bytes in hand decide is the same of them alone
alone : (separator b : List ℕ) (c : Cut) (e : Ending) → cut_of separator (b ++ []) e ≡ c → cut_of separator b e ≡ c
alone separator b c e is = ap (λ x. cut_of separator x e) (sym (append-nil b)) ∙ is

told_decided : (separator : List ℕ) (a : Oracle) (id : ℕ) (log : List Event) (s : Source) (whole : List ℕ) (seen new : Pending) (result : Result Step BufferFault) (r : Rest a id log s whole seen.bytes seen.ending) →
    IsDecided separator seen.bytes → IsAnswerOf (cut_of separator seen.bytes s.ending) None result seen new →
    (left : List ℕ) × Tells (cut_of separator whole s.ending) result whole left × Rest a id log s left new.bytes new.ending
told_decided separator a id log s whole seen new result r (inl (first, rest, decides)) h =
    let here : cut_of separator seen.bytes s.ending ≡ Found first rest = alone separator seen.bytes (Found first (rest ++ [])) s.ending (decides [] s.ending) ∙ ap (Found first) (append-nil rest) in
    let all : Found first (rest ++ r.more) ≡ cut_of separator whole s.ending = sym (ap (λ b. cut_of separator b s.ending) r.same ∙ decides r.more s.ending) in
    let answer = subst (λ (c : Cut). IsAnswerOf c None result seen new) here h in (
      rest ++ r.more,
      subst (λ (c : Cut). Tells c result whole (rest ++ r.more)) all (answer.0, refl),
      rest_with r (rest ++ r.more) new.bytes new.ending (ap (λ b. b ++ r.more) (sym answer.1)) (λ e is. absurd (none-some e (sym answer.2 ∙ is))),
    )
told_decided separator a id log s whole seen new result r (inr decides) h =
    let here : cut_of separator seen.bytes s.ending ≡ TooLong = alone separator seen.bytes TooLong s.ending (decides [] s.ending) in
    let all : TooLong ≡ cut_of separator whole s.ending = sym (ap (λ b. cut_of separator b s.ending) r.same ∙ decides r.more s.ending) in
    let answer = subst (λ (c : Cut). IsAnswerOf c None result seen new) here h in
    (whole, subst (λ (c : Cut). Tells c result whole whole) all (answer.0, refl), subst (λ (p : Pending). Rest a id log s whole p.bytes p.ending) (sym answer.1) r)

is_broken_off : (c : Cut) → (c ≡ BrokenOff) ⊎ (c ≢ BrokenOff)
is_broken_off (Found first rest) = inr (λ (e : Found first rest ≡ BrokenOff). cc)
is_broken_off NoMore = inr (λ (e : NoMore ≡ BrokenOff). cc)
is_broken_off BrokenOff = inl refl
is_broken_off TooLong = inr (λ (e : TooLong ≡ BrokenOff). cc)

ending_is : (o : Option Ending) → (o ≡ None) ⊎ ((e : Ending) × (o ≡ Some e))
ending_is None = inl refl
ending_is (Some e) = inr (e, refl)

abbrev pub DecidedLaw : Type 0
DecidedLaw = (separator bytes : List ℕ) → IsDecided separator bytes ↔ (cut_of separator bytes AtBreak ≢ BrokenOff)

told_steps : DecidedLaw → (separator : List ℕ) (a : Oracle) (id : ℕ) (log : List Event) (s : Source) (whole : List ℕ) (seen new : Pending) (result : Result Step BufferFault) →
    Rest a id log s whole seen.bytes seen.ending → Steps separator seen result new → result ≢ Ok NeedMore →
    (left : List ℕ) × Tells (cut_of separator whole s.ending) result whole left × Rest a id log s left new.bytes new.ending
told_steps law separator a id log s whole seen new result r steps told = elim (ending_is seen.ending) [
  | inl none ↦ elim (is_broken_off (cut_of separator seen.bytes AtBreak)) [
    | inl broken ↦ absurd (told (steps.needs_more none (λ decided. (law separator seen.bytes).0 decided broken)).0)
    | inr other ↦
        let decided = (law separator seen.bytes).1 other in
        told_decided separator a id log s whole seen new result r decided (steps.decided none decided s.ending)
  ]
  | inr (e, met) ↦
      let all = r.over e met in
      let bytes : seen.bytes ≡ whole = sym (append-nil seen.bytes) ∙ (ap (λ m. seen.bytes ++ m) (sym all.0) ∙ sym r.same) in
      let same : cut_of separator seen.bytes e ≡ cut_of separator whole s.ending = ap (λ b. cut_of separator b e) bytes ∙ ap (cut_of separator whole) (sym all.1) in
      told_ended (cut_of separator whole s.ending) a id log s whole e seen new result r all.0 all.1 (subst (λ (c : Cut). IsAnswerOf c (Some e) result seen new) same (steps.ended e met))
]

rest_reaches : (id : ℕ) (separator : List ℕ) (old seen : Pending) (log log' : List Event) (a : Oracle) (s : Source) (whole : List ℕ) →
    Reaches id separator old log seen log' → IsConsistent a log' → Rest a id log s whole old.bytes old.ending → Rest a id log' s whole seen.bytes seen.ending
rest_reaches id separator old seen log log' a s whole (inl (same, still)) consistent r =
    subst (λ (l : List Event). Rest a id l s whole seen.bytes seen.ending) (sym still) (subst (λ (p : Pending). Rest a id log s whole p.bytes p.ending) (sym same) r)
rest_reaches id separator old seen log log' a s whole (inr (began, goes)) consistent r =
    subst (λ (l : List Event). Rest a id l s whole seen.bytes seen.ending) (sym goes.log)
    (reads_rest id separator old.bytes seen.bytes seen.ending goes.events a log r.reading s r.more whole goes.each (subst (λ (l : List Event). IsConsistent a l) goes.log consistent) r.stands r.answer r.begins r.same)

told_pulls : DecidedLaw → (id : ℕ) (separator : List ℕ) (old new : Pending) (log log' : List Event) (result : Result Step BufferFault) →
    Pulls id separator old log result new log' → result ≢ Ok NeedMore → result ≢ Err Memory → TellsNext id separator old log result new log'
told_pulls law id separator old new log log' result pulls told differs a s whole consistent r =
    told_steps law separator a id log' s whole pulls.seen new result (rest_reaches id separator old pulls.seen log log' a s whole pulls.reads consistent r) (pulls.steps differs) told

pub told_next : (id : ℕ) (separator : List ℕ) (old new : Pending) (log log' : List Event) (result : Result Step BufferFault) →
    Pulls id separator old log result new log' → result ≢ Ok NeedMore → result ≢ Err Memory → TellsNext id separator old log result new log'
told_next = told_pulls IsDecided_law
