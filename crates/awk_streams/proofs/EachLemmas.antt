-- Each output brought at the end of a run, and all that is open closed.
use Rattle.std.proofs.Common.{◌≡◌, ℕ, suc, ℤ, pos, List, [], ◌∷◌, ◌++◌, map, drop, set, Option, Some, None, Result, Ok, Err, refl, sym, ◌∙◌, ap, subst}
use Rattle.std.specs.Prelude.{slice_get}
use Rattle.std.specs.Result.{result_and}
use Rattle.std.proofs.lemmas.Option.{same_Some}
use Rattle.awk_world.specs.definitions.Log.{Event, Closed}
use Rattle.awk_world.specs.definitions.WorldState.{WorldState}
use Rattle.awk_world.specs.definitions.Writes.{with_events, GoesOn}
use Rattle.awk_streams.specs.declared.fault.StreamFault.{StreamFault}
use Rattle.awk_streams.specs.declared.input.Input.{Input}
use Rattle.awk_streams.specs.declared.named.NamedStream.{NamedStream}
use Rattle.awk_streams.specs.declared.named.NamedStream.TheVariants as named
use Rattle.awk_streams.specs.definitions.Outputs.{WritesAndFlushes}
use Rattle.awk_streams.specs.definitions.Named.{number_among, without_number}
use Rattle.awk_streams.specs.definitions.Streams.{StreamsView, number_of, name_of, numbered, held_in, held_of, AreOnce, all_unheld}
use Rattle.awk_streams.specs.definitions.MainInput.{EndsMain, closed_main}
use Rattle.awk_streams.specs.definitions.Commands.{ClosesEach, all_names, BringsEach, AreClosings, main_number, numbers_open, BringsAndCloses}
use Rattle.awk_streams.specs.support.Brings.{FlushesNamed}
use Rattle.awk_streams.proofs.GrowsLemmas.{with_events-append}
use Rattle.awk_streams.proofs.StreamsLemmas.{but_held_numbered}
use Rattle.awk_streams.proofs.NamedLemmas.{drop_here, drop_behind}
use Rattle.awk_streams.proofs.CloseLemmas.{number_here, numbers_without}
use Rattle.awk_streams.proofs.ClosesLemmas.{each_no_failure, but_held_all_names}

-- of several results the first failure

pub and_then : (first second third : Result (Unit {0}) StreamFault) → result_and (result_and first second) third ≡ result_and first (result_and second third)
and_then (Ok u) second third = refl
and_then (Err e) second third = refl

pub and_nothing : (r : Result (Unit {0}) StreamFault) → result_and r (Ok tt) ≡ r
and_nothing (Ok u) = refl
and_nothing (Err e) = refl

-- a stream in a place, and then those behind it
pub each_next : (mid next after : WorldState) (now : List NamedStream) (i : ℕ) (x y : NamedStream) (flushed rest : Result (Unit {0}) StreamFault) → slice_get now i ≡ Some x → FlushesNamed x mid flushed next → BringsEach (held_in (drop (suc i) (set now i y))) next rest after →
    BringsEach (held_in (drop i now)) mid (result_and flushed rest) after
each_next mid next after now i (named.Input k n input) y flushed rest at flushes brings =
    let behind : BringsEach (held_in (drop (suc i) now)) next rest after = subst (λ l. BringsEach (held_in l) next rest after) (drop_behind now i y) brings in
    let here : BringsEach (held_in (drop (suc i) now)) mid rest after = subst (λ (w : WorldState). BringsEach (held_in (drop (suc i) now)) w rest after) flushes.1 behind in
    let all : BringsEach (held_in (drop (suc i) now)) mid (result_and flushed rest) after = subst (λ (r : Result (Unit {0}) StreamFault). BringsEach (held_in (drop (suc i) now)) mid (result_and r rest) after) (sym flushes.0) here in
    subst (λ l. BringsEach (held_in l) mid (result_and flushed rest) after) (sym (drop_here now i (named.Input k n input) at)) all
each_next mid next after now i (named.Output k n output) y flushed rest at flushes brings =
    let behind : BringsEach (held_in (drop (suc i) now)) next rest after = subst (λ l. BringsEach (held_in l) next rest after) (drop_behind now i y) brings in
    subst (λ l. BringsEach (held_in l) mid (result_and flushed rest) after) (sym (drop_here now i (named.Output k n output) at)) (flushed, rest, next, refl, flushes, behind)

-- the standard outputs, and then the named ones
pub each_of_all : (before mid1 mid2 after : WorldState) (old s : StreamsView) (r1 r2 r3 : Result (Unit {0}) StreamFault) → s ≡ old → WritesAndFlushes 0 s.output before r1 mid1 → WritesAndFlushes 1 s.error mid1 r2 mid2 → BringsEach (held_in s.named) mid2 r3 after →
    BringsEach (held_of old) before (result_and (result_and r1 r2) r3) after
each_of_all before mid1 mid2 after old s r1 r2 r3 is output error brings =
    subst (λ (v : StreamsView). BringsEach (held_of v) before (result_and (result_and r1 r2) r3) after) is (r1, result_and r2 r3, mid1, and_then r1 r2 r3, output, (r2, r3, mid2, refl, error, brings))

-- closings

closings-append : (ids more : List ℕ) (es fs : List Event) → AreClosings ids es → AreClosings more fs → AreClosings (ids ++ more) (es ++ fs)
closings-append [] more [] fs h k = k
closings-append [] more (e ∷ es) fs h k = absurd h
closings-append (id ∷ ids) more [] fs h k = absurd h
closings-append (id ∷ ids) more (Closed i n ∷ es) fs h k = (h.0, closings-append ids more es fs h.1 k)
closings-append (id ∷ ids) more (e ∷ es) fs h k = absurd h

main_closed : (main : Option Input) (n : ℤ) (log log' : List Event) → log' ≡ closed_main main n log → GoesOn (AreClosings (main_number main)) log log'
main_closed None n log log' is = record { events = []; log = is; each = tt }
main_closed (Some input) n log log' is = record { events = Closed input.id n ∷ []; log = is; each = (refl, tt) }

named_closed : (xs : List NamedStream) (first answer : ℤ) (before after : WorldState) (old new : StreamsView) → numbered old.named ≡ numbered xs → AreOnce xs → ClosesEach (all_names xs) first before old answer after new → GoesOn (AreClosings (map number_of xs)) before.log after.log
named_closed [] first answer before after old new same once (is, world, view) = record { events = []; log = ap (λ (w : WorldState). w.log) world; each = tt }
named_closed (x ∷ xs) first answer before after old new same once (told, world, view, this, later) =
    let number : this.id ≡ number_of x = same_Some this.id (number_of x) (sym this.number ∙ (ap (λ ns. number_among ns (name_of x)) same ∙ number_here [] xs x tt)) in
    let left : numbered view.named ≡ numbered xs = this.numbers ∙ (ap (without_number (name_of x)) same ∙ sym (numbers_without [] xs x tt once.0)) in
    let rest = named_closed xs told answer world after view new left once.1 later in
    record {
      events = Closed this.id this.told ∷ rest.events;
      log = rest.log ∙ ap (with_events rest.events) this.adds;
      each = (number, rest.each);
    }

all_closed : (mid later after : WorldState) (old s v new : StreamsView) (answer : ℤ) → s.main ≡ old.main → numbered v.named ≡ numbered old.named → AreOnce old.named → EndsMain mid s later v → ClosesEach (all_names old.named) (pos 0) later v answer after new →
    GoesOn (AreClosings (numbers_open old)) mid.log after.log
all_closed mid later after old s v new answer main numbers once ends closes =
    let first : GoesOn (AreClosings (main_number old.main)) mid.log later.log = subst (λ (m : Option Input). GoesOn (AreClosings (main_number m)) mid.log later.log) main (main_closed s.main ends.adds.0 mid.log later.log ends.adds.1) in
    let then : GoesOn (AreClosings (map number_of old.named)) later.log after.log = named_closed old.named (pos 0) answer later after v new numbers once closes in
    record {
      events = first.events ++ then.events;
      log = then.log ∙ (ap (with_events then.events) first.log ∙ sym (with_events-append first.events then.events mid.log));
      each = closings-append (main_number old.main) (map number_of old.named) first.events then.events first.each then.each;
    }

-- the whole end, on every result
pub brings_and_closes : (before mid later after : WorldState) (old s v new : StreamsView) (result : Result (Unit {0}) StreamFault) (answer : ℤ) → BringsEach (held_of old) before result mid → s.main ≡ old.main → all_unheld s.named ≡ all_unheld old.named → AreOnce old.named → v ≡ record s { main = None } →
    EndsMain mid s later v → ClosesEach (all_names v.named) (pos 0) later v answer after new → BringsAndCloses before old result after
brings_and_closes before mid later after old s v new result answer brings main same once is ends closes =
    let names : all_names v.named ≡ all_names old.named = ap (λ (x : StreamsView). all_names x.named) is ∙ but_held_all_names old.named s.named same in
    let numbers : numbered v.named ≡ numbered old.named = ap (λ (x : StreamsView). numbered x.named) is ∙ but_held_numbered old.named s.named same in
    record {
      world = mid;
      brings = brings;
      closes = all_closed mid later after old s v new answer main numbers once ends (subst (λ l. ClosesEach l (pos 0) later v answer after new) names closes);
      no_failure = each_no_failure (all_names v.named) (pos 0) answer later after v new closes ∙ ends.no_failure;
    }
