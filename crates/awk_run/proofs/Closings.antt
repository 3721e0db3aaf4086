-- The end of a run: what was printed is brought, and the streams that are open are closed in turn.
use Rattle.std.proofs.Common.{◌≡◌, ℕ, ℤ, pos, Bool, true, false, if◌then◌else◌, List, [], ◌∷◌, ◌++◌, map, Option, Some, None, refl, sym, ap, ◌∙◌, subst}
use Rattle.awk_streams.specs.declared.input.Input.{Input}
use Rattle.awk_streams.specs.declared.named.NamedStream.{NamedStream}
use Rattle.awk_streams.specs.declared.named.NamedStream.TheVariants as named
use Rattle.awk_streams.specs.Log.{Event, Wrote, Flushed, Closed}
use Rattle.awk_streams.specs.WorldState.{WorldState}
use Rattle.awk_streams.specs.Oracle.{Oracle}
use Rattle.awk_streams.specs.Writes.{with_events}
use Rattle.awk_streams.specs.Openings.{Opening, openings, is_flushed, AreFlushed, AreBrought}
use Rattle.awk_streams.specs.Named.{Named, Stream, AnInput, AnOutput, named_of, number_among, without_number}
use Rattle.awk_streams.specs.Streams.{StreamsView, name_of, numbered, printed_openings, StandFor, AreBringing}
use Rattle.awk_streams.specs.MainInput.{EndsMain, closed_main}
use Rattle.awk_streams.specs.Commands.{ClosesStream, ClosesEach, all_names, EndsAll}
use Rattle.awk_semantics.specs.definitions.State.{Request, Effect, Requested, OpensMain, OpensInput, OpensOutput, RecordOfMain, RecordOf, Closes, Flushes, Runs, Ends, Printed}
use Rattle.awk_semantics.specs.definitions.Meaning.{Asked, closings_of, first_outputs, outputs_asked, outputs_from, outputs_after, requests_from, with_bytes}
use Rattle.awk_semantics.specs.definitions.Order.{Stage, AreBetween, GoesBetween, ClosesAs, MeetsAll}
use Rattle.awk_semantics.specs.definitions.Failure.{front_of, before_end}
use Rattle.awk_semantics.specs.support.Unended.{AreUnended}
use Rattle.awk_semantics.proofs.Requests.{goes-self, goes_first}
use Rattle.awk_runtime.specs.support.Simulation.{main_number, stage_of}
use Rattle.awk_runtime.proofs.Effects.{outputs-append}

-- the end prints nothing

closings_open : (os : List Opening) (xs : List Stream) → outputs_from os (closings_of xs) ≡ os
closings_open os [] = refl
closings_open os (x ∷ xs) = closings_open os xs

pub end_prints : (effects : List Effect) (xs : List Stream) → outputs_after (effects ++ Requested Ends ∷ closings_of xs) ≡ outputs_after effects
end_prints effects xs = outputs-append first_outputs effects (Requested Ends ∷ closings_of xs) ∙ closings_open (outputs_after effects) xs

-- the requests before the end are those of the run
pub before_the_end : (os : List Opening) (effects : List Effect) (end' : Asked) (more : List Asked) → end'.what ≡ Ends → AreUnended effects → before_end (requests_from os effects ++ end' ∷ more) ≡ requests_from os effects
before_the_end os [] end' more is h = ap (λ (what : Request). front_of what end' (before_end more)) is
before_the_end os (Printed n bytes ∷ effects) end' more is h = before_the_end (with_bytes n bytes os) effects end' more is h
before_the_end os (Requested (OpensMain kind name) ∷ effects) end' more is h = ap (λ l. record { what = OpensMain kind name; outputs = os } ∷ l) (before_the_end os effects end' more is h)
before_the_end os (Requested (OpensInput kind name) ∷ effects) end' more is h = ap (λ l. record { what = OpensInput kind name; outputs = os } ∷ l) (before_the_end os effects end' more is h)
before_the_end os (Requested (OpensOutput kind name mode granted) ∷ effects) end' more is h = ap (λ l. record { what = OpensOutput kind name mode granted; outputs = os } ∷ l) (before_the_end (outputs_asked (OpensOutput kind name mode granted) os) effects end' more is h)
before_the_end os (Requested (RecordOfMain separator left) ∷ effects) end' more is h = ap (λ l. record { what = RecordOfMain separator left; outputs = os } ∷ l) (before_the_end os effects end' more is h)
before_the_end os (Requested (RecordOf kind name separator left) ∷ effects) end' more is h = ap (λ l. record { what = RecordOf kind name separator left; outputs = os } ∷ l) (before_the_end os effects end' more is h)
before_the_end os (Requested (Closes x) ∷ effects) end' more is h = ap (λ l. record { what = Closes x; outputs = os } ∷ l) (before_the_end os effects end' more is h)
before_the_end os (Requested (Flushes name) ∷ effects) end' more is h = ap (λ l. record { what = Flushes name; outputs = os } ∷ l) (before_the_end os effects end' more is h)
before_the_end os (Requested (Runs command) ∷ effects) end' more is h = ap (λ l. record { what = Runs command; outputs = os } ∷ l) (before_the_end os effects end' more is h)
before_the_end os (Requested Ends ∷ effects) end' more is h = absurd h

-- what is brought stays so where an input is closed

either : (b x : Bool) → x ≡ true → (if b then true else x) ≡ true
either true x e = refl
either false x e = e

flushed_closed : (os : List (ℕ × Opening)) (id : ℕ) (answer : ℤ) (log : List Event) → AreFlushed os log → AreFlushed os (Closed id answer ∷ log)
flushed_closed [] id answer log h = tt
flushed_closed (o ∷ os) id answer log h = (either _ (is_flushed o.0 log) h.0, flushed_closed os id answer log h.1)

main_brought : (main : Option Input) (answer : ℤ) (os : List Opening) (log : List Event) → AreBrought os log → AreBrought os (closed_main main answer log)
main_brought None answer os log b = b
main_brought (Some input) answer os log b = record { received = b.received; flushed = flushed_closed (openings log) input.id answer log b.flushed }

-- events that bring bytes to outputs meet no request
pub bringing_between : (main : Option ℕ) (es : List Event) → AreBringing es → AreBetween main es main
bringing_between main [] h = refl
bringing_between main (Wrote id bytes ∷ es) h = bringing_between main es h
bringing_between main (Flushed id ∷ es) h = bringing_between main es h
bringing_between main (e ∷ es) h = absurd h

abbrev stage : List Event → Option ℕ → List (Named × ℕ) → Stage
stage log main streams = record { log = log; main = main; streams = streams }

same_stage : (l l' : List Event) (m m' : Option ℕ) (ss ss' : List (Named × ℕ)) → l ≡ l' → m ≡ m' → ss ≡ ss' → stage l m ss ≡ stage l' m' ss'
same_stage l l' m m' ss ss' p q r = ap (λ x. stage x m ss) p ∙ (ap (λ x. stage l' x ss) q ∙ ap (λ x. stage l' m' x) r)

-- the streams that are open are closed in turn

closed_as : (x : Named) (before after : WorldState) (old new : StreamsView) (told : ℤ) (this : ClosesStream x before old told after new) → ClosesAs x (number_among (numbered old.named) x) (stage_of before.log old) (stage_of after.log new)
closed_as x before after old new told this =
    subst (λ (o : Option ℕ). ClosesAs x o (stage_of before.log old) (stage_of after.log new)) (sym this.number)
    (this.told, same_stage after.log (Closed this.id this.told ∷ before.log) (main_number new.main) (main_number old.main) (numbered new.named) (without_number x (numbered old.named)) this.adds (ap main_number this.main) this.numbers)

closings_met : (oracle : Oracle) (ys : List Stream) (names : List Named) (first answer : ℤ) (before after : WorldState) (old new : StreamsView) → names ≡ map named_of ys → ClosesEach names first before old answer after new → AreBrought (printed_openings before old) before.log
    → MeetsAll oracle (requests_from (printed_openings before old) (closings_of ys)) (stage_of before.log old) (stage_of after.log new)
closings_met oracle [] [] first answer before after old new e (is, world, view) b =
    subst (λ (w : WorldState). MeetsAll oracle [] (stage_of before.log old) (stage_of w.log new)) (sym world) (subst (λ (v : StreamsView). MeetsAll oracle [] (stage_of before.log old) (stage_of before.log v)) (sym view) (goes-self (stage_of before.log old)))
closings_met oracle [] (x ∷ names) first answer before after old new e h b = absurd (cc)
closings_met oracle (y ∷ ys) [] first answer before after old new e h b = absurd (cc)
closings_met oracle (y ∷ ys) (x ∷ names) first answer before after old new e (told, world, view, this, later) b =
    let same : x ≡ named_of y = cc in
    let rest : names ≡ map named_of ys = cc in (
      stage_of before.log old,
      stage_of world.log view,
      goes-self (stage_of before.log old),
      (b, subst (λ (n : Named). ClosesAs n (number_among (numbered old.named) n) (stage_of before.log old) (stage_of world.log view)) same (closed_as x before world old view told this)),
      subst (λ os. MeetsAll oracle (requests_from os (closings_of ys)) (stage_of world.log view) (stage_of after.log new)) this.printed (closings_met oracle ys names told answer world after view new rest later (this.brought b)),
    )

stand_names : (a : Oracle) (log : List Event) (xs : List NamedStream) (ys : List Stream) → StandFor a log xs ys → all_names xs ≡ map named_of ys
stand_names a log [] [] h = refl
stand_names a log [] (y ∷ ys) h = absurd h
stand_names a log (x ∷ xs) [] h = absurd h
stand_names a log (named.Input kind name input ∷ xs) (AnInput k n rest ∷ ys) h = rw (h.0.0, h.0.1) (ap (λ l. name_of (named.Input kind name input) ∷ l) (stand_names a log xs ys h.1))
stand_names a log (named.Output kind name output ∷ xs) (AnOutput k n opening ∷ ys) h = rw (h.0.0, h.0.1) (ap (λ l. name_of (named.Output kind name output) ∷ l) (stand_names a log xs ys h.1))
stand_names a log (named.Input kind name input ∷ xs) (AnOutput k n opening ∷ ys) h = absurd h.0
stand_names a log (named.Output kind name output ∷ xs) (AnInput k n rest ∷ ys) h = absurd h.0

-- the main input is closed between

abbrev main_closing : Option Input → ℤ → List Event
main_closing None answer = []
main_closing (Some input) answer = Closed input.id answer ∷ []

main_closed : (main : Option Input) (answer : ℤ) (log : List Event) → closed_main main answer log ≡ with_events (main_closing main answer) log
main_closed None answer log = refl
main_closed (Some input) answer log = refl

main_between : (main : Option Input) (answer : ℤ) → AreBetween (main_number main) (main_closing main answer) None
main_between None answer = refl
main_between (Some input) answer = (refl, refl)

main_goes : (mid later : WorldState) (s v : StreamsView) → EndsMain mid s later v → GoesBetween (stage_of mid.log s) (stage_of later.log v)
main_goes mid later s v ends = record {
  events = main_closing s.main ends.adds.0;
  log = ends.adds.1 ∙ main_closed s.main ends.adds.0 mid.log;
  between = subst (λ (w : StreamsView). AreBetween (main_number s.main) (main_closing s.main ends.adds.0) (main_number w.main)) (sym ends.same) (main_between s.main ends.adds.0);
  streams = ap (λ (w : StreamsView). numbered w.named) ends.same;
}

-- all that is requested from the end of the run on
pub ends_met : (oracle : Oracle) (ys : List Stream) (before after : WorldState) (old new : StreamsView) → EndsAll before old after new → StandFor oracle before.log old.named ys
    → MeetsAll oracle (requests_from (printed_openings before old) (Requested Ends ∷ closings_of ys)) (stage_of before.log old) (stage_of after.log new)
ends_met oracle ys before after old new all stand =
    let brings = all.brings in
    let ends = all.main in
    let a : Stage = stage_of all.world.log all.streams in
    let at_main : AreBrought (printed_openings before old) all.world'.log = subst (λ (l : List Event). AreBrought (printed_openings before old) l) (sym ends.adds.1) (main_brought all.streams.main ends.adds.0 (printed_openings before old) all.world.log brings.brings.brought) in
    let printed : printed_openings all.world' all.streams' ≡ printed_openings before old = ends.printed ∙ brings.printed in (
      a,
      a,
      record {
        events = brings.brings.only.events;
        log = brings.brings.only.log;
        between = subst (λ (m : Option ℕ). AreBetween (main_number old.main) brings.brings.only.events m) (ap main_number (sym brings.main)) (bringing_between (main_number old.main) brings.brings.only.events brings.brings.only.each);
        streams = brings.numbers;
      },
      (brings.brings.brought, refl),
      goes_first oracle (requests_from (printed_openings before old) (closings_of ys)) a (stage_of all.world'.log all.streams') (stage_of after.log new) (main_goes all.world all.world' all.streams all.streams' ends)
          (subst (λ os. MeetsAll oracle (requests_from os (closings_of ys)) (stage_of all.world'.log all.streams') (stage_of after.log new)) printed
          (closings_met oracle ys (all_names old.named) (pos 0) all.answer all.world' after all.streams' new (stand_names oracle before.log old.named ys stand) all.closes (subst (λ os. AreBrought os all.world'.log) (sym printed) at_main))),
    )
