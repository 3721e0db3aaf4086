-- What the end of a run tells.
use Rattle.std.proofs.Common.{◌≡◌, ℕ, ℤ, pos, Bool, true, false, List, [], ◌∷◌, ◌++◌, length, Option, Some, None, Result, Ok, Err, refl, sym, ◌∙◌, ap, subst}
use Rattle.std.specs.Prelude.{is_some, not, OnOk, OnErr, IfErr}
use Rattle.awk_world.specs.definitions.Log.{Event, Wrote, Flushed, Closed}
use Rattle.awk_world.specs.definitions.Oracle.{standing}
use Rattle.awk_world.specs.definitions.WorldState.{WorldState, is_any, first_of}
use Rattle.awk_world.specs.definitions.Writes.{with_events, GoesOn}
use Rattle.awk_world.specs.definitions.Grows.{Grows}
use Rattle.awk_world.specs.definitions.Openings.{Opening, openings, in_order, outputs_of, is_flushed, AreFlushed, AreBrought, Begins}
use Rattle.awk_streams.specs.declared.fault.StreamFault.{StreamFault}
use Rattle.awk_streams.specs.declared.input.Input.{Input}
use Rattle.awk_streams.specs.definitions.Named.{Named}
use Rattle.awk_streams.specs.definitions.Streams.{StreamsView, AreOpen, is_output_among, held_of, with_held, printed_openings, AreBringing, all_unheld}
use Rattle.awk_streams.specs.definitions.MainInput.{EndsMain, closed_main}
use Rattle.awk_streams.specs.definitions.Commands.{ClosesEach, BringsAll, all_names, AreOfTheEnd, EndsAll, BringsAndCloses, Finishes, BringsEach}
use Rattle.awk_streams.specs.support.Held.{HoldsNothing}
use Rattle.awk_streams.specs.support.Brings.{BringsHeld, AreFlushedBut}
use Rattle.awk_streams.proofs.GrowsLemmas.{Grows-self, Grows-then, with_events-append, first_between, first_stays}
use Rattle.awk_streams.proofs.ViewLemmas.{brings_all, nothing_held}
use Rattle.awk_streams.proofs.EndLosses.{others_brought, silent_end}
use Rattle.awk_streams.proofs.CloseLemmas.{flushed_after}
use Rattle.awk_streams.proofs.ClosesLemmas.{each_grows, each_no_failure, but_held_all_names}
use Rattle.awk_world.specs.declared.failure.Failure.{Failure}
use Rattle.awk_streams.specs.definitions.Outputs.{output_fault_of, WritesAndFlushes}
use Rattle.std.specs.Result.{result_and}
use Rattle.std.proofs.lemmas.Option.{same_Some}

-- the log of the end

bringing_ends : (es : List Event) → AreBringing es → AreOfTheEnd es
bringing_ends [] h = tt
bringing_ends (Wrote id bytes ∷ es) h = bringing_ends es h
bringing_ends (Flushed id ∷ es) h = bringing_ends es h
bringing_ends (e ∷ es) h = absurd h

ends-append : (es fs : List Event) → AreOfTheEnd es → AreOfTheEnd fs → AreOfTheEnd (es ++ fs)
ends-append [] fs h k = k
ends-append (Wrote id bytes ∷ es) fs h k = ends-append es fs h k
ends-append (Flushed id ∷ es) fs h k = ends-append es fs h k
ends-append (Closed id n ∷ es) fs h k = ends-append es fs h k
ends-append (e ∷ es) fs h k = absurd h

ends-then : {x y z : List Event} → GoesOn AreOfTheEnd x y → GoesOn AreOfTheEnd y z → GoesOn AreOfTheEnd x z
ends-then {x = x} p q = record {
  events = p.events ++ q.events;
  log = q.log ∙ (ap (with_events q.events) p.log ∙ sym (with_events-append p.events q.events x));
  each = ends-append p.events q.events p.each q.each;
}

bringing_only : (x y : List Event) → GoesOn AreBringing x y → GoesOn AreOfTheEnd x y
bringing_only x y p = record { events = p.events; log = p.log; each = bringing_ends p.events p.each }

main_only : (main : Option Input) (n : ℤ) (log log' : List Event) → log' ≡ closed_main main n log → GoesOn AreOfTheEnd log log'
main_only None n log log' is = record { events = []; log = is; each = tt }
main_only (Some input) n log log' is = record { events = Closed input.id n ∷ []; log = is; each = tt }

each_only : (xs : List Named) (first answer : ℤ) (before after : WorldState) (old new : StreamsView) → ClosesEach xs first before old answer after new → GoesOn AreOfTheEnd before.log after.log
each_only [] first answer before after old new (is, world, view) = record { events = []; log = ap (λ (w : WorldState). w.log) world; each = tt }
each_only (x ∷ xs) first answer before after old new (told, world, view, this, later) =
    ends-then (record { events = Closed this.id this.told ∷ []; log = this.adds; each = tt }) (each_only xs told answer world after view new later)

-- what the outputs have received

main_openings : (main : Option Input) (n : ℤ) (log : List Event) → openings (closed_main main n log) ≡ openings log
main_openings None n log = refl
main_openings (Some input) n log = refl

main_flushed : (main : Option Input) (n : ℤ) (os : List (ℕ × Opening)) (log : List Event) → AreFlushed os log → AreFlushed os (closed_main main n log)
main_flushed None n os log h = h
main_flushed (Some input) n os log h = flushed_after os input.id n log h

main_brought : (main : Option Input) (n : ℤ) (outputs : List Opening) (log log' : List Event) → log' ≡ closed_main main n log → AreBrought outputs log → AreBrought outputs log'
main_brought main n outputs log log' is b =
    subst (λ (l : List Event). AreBrought outputs l) (sym is) record {
      received = ap in_order (main_openings main n log) ∙ b.received;
      flushed = subst (λ os. AreFlushed os (closed_main main n log)) (sym (main_openings main n log)) (main_flushed main n (openings log) log b.flushed);
    }

each_openings : (xs : List Named) (first answer : ℤ) (before after : WorldState) (old new : StreamsView) → ClosesEach xs first before old answer after new → openings after.log ≡ openings before.log
each_openings [] first answer before after old new (is, world, view) = ap (λ (w : WorldState). openings w.log) world
each_openings (x ∷ xs) first answer before after old new (told, world, view, this, later) = each_openings xs told answer world after view new later ∙ ap openings this.adds

each_printed : (xs : List Named) (first answer : ℤ) (before after : WorldState) (old new : StreamsView) → ClosesEach xs first before old answer after new → printed_openings after new ≡ printed_openings before old
each_printed [] first answer before after old new (is, world, view) = ap (λ (w : WorldState). printed_openings w new) world ∙ ap (printed_openings before) view
each_printed (x ∷ xs) first answer before after old new (told, world, view, this, later) = each_printed xs told answer world after view new later ∙ this.printed

each_brought : (xs : List Named) (first answer : ℤ) (before after : WorldState) (old new : StreamsView) → ClosesEach xs first before old answer after new → AreBrought (printed_openings before old) before.log → AreBrought (printed_openings after new) after.log
each_brought [] first answer before after old new (is, world, view) b =
    subst (λ (w : WorldState). AreBrought (printed_openings w new) w.log) (sym world) (subst (λ (v : StreamsView). AreBrought (printed_openings before v) before.log) (sym view) b)
each_brought (x ∷ xs) first answer before after old new (told, world, view, this, later) b = each_brought xs told answer world after view new later (this.brought b)

-- the whole end

false_true : {P : Type 0} → false ≡ true → P
false_true e = cc

finishes_ok : (before mid later after : WorldState) (old s v new : StreamsView) (u : Unit {0}) (answer : ℤ) → BringsHeld before (held_of old) (Ok u) mid (held_of s) → s.main ≡ old.main → all_unheld s.named ≡ all_unheld old.named → HoldsNothing s → AreFlushedBut [] mid.log → v ≡ record s { main = None } → EndsMain mid s later v →
    ClosesEach (all_names v.named) (pos 0) later v answer after new → EndsAll before old after new × AreBrought (printed_openings before old) after.log
finishes_ok before mid later after old s v new u answer b main same empty flushed is ends closes =
    let all : BringsAll before old mid s = brings_all before mid old s u main same b empty flushed in
    let names : all_names v.named ≡ all_names old.named = ap (λ (x : StreamsView). all_names x.named) is ∙ but_held_all_names old.named s.named same in
    let at_main : AreBrought (printed_openings before old) later.log = main_brought s.main ends.adds.0 (printed_openings before old) mid.log later.log ends.adds.1 all.brings.brought in
    let printed : printed_openings later v ≡ printed_openings before old = ends.printed ∙ all.printed in
    let at_end : AreBrought (printed_openings after new) after.log = each_brought (all_names v.named) (pos 0) answer later after v new closes (subst (λ l. AreBrought l later.log) (sym printed) at_main) in (
      record {
        world = mid;
        streams = s;
        brings = all;
        world' = later;
        streams' = v;
        main = ends;
        answer = answer;
        closes = subst (λ (l : List Named). ClosesEach l (pos 0) later v answer after new) names closes;
      },
      subst (λ l. AreBrought l after.log) (each_printed (all_names v.named) (pos 0) answer later after v new closes ∙ printed) at_end,
    )

finishes_ends : (before mid later after : WorldState) (old s v new : StreamsView) (result : Result (Unit {0}) StreamFault) (answer : ℤ) → BringsHeld before (held_of old) result mid (held_of s) → s.main ≡ old.main → all_unheld s.named ≡ all_unheld old.named → HoldsNothing s → OnOk result (AreFlushedBut [] mid.log) →
    v ≡ record s { main = None } → EndsMain mid s later v → ClosesEach (all_names v.named) (pos 0) later v answer after new → OnOk result (EndsAll before old after new) × OnOk result (AreBrought (printed_openings before old) after.log)
finishes_ends before mid later after old s v new (Ok u) answer b main same empty flushed is ends closes = finishes_ok before mid later after old s v new u answer b main same empty flushed is ends closes
finishes_ends before mid later after old s v new (Err e) answer b main same empty flushed is ends closes = (tt, tt)

ok_same : (result : Result (Unit {0}) StreamFault) (x y z : List Failure) → OnOk result (y ≡ x) → z ≡ y → OnOk result (z ≡ x)
ok_same (Ok u) x y z p q = q ∙ p
ok_same (Err e) x y z p q = tt

err_same : (result : Result (Unit {0}) StreamFault) (y z : List Failure) → OnErr result (is_any y ≡ true) → z ≡ y → OnErr result (is_any z ≡ true)
err_same (Ok u) y z p q = tt
err_same (Err e) y z p q = ap is_any q ∙ p

-- each output is brought, and the first failure is the one that the result tells

each_goes_on : (hs : List (ℕ × List ℕ)) (result : Result (Unit {0}) StreamFault) (before after : WorldState) → BringsEach hs before result after → Grows before after
each_goes_on [] result before after (is, same) = subst (λ (w : WorldState). Grows before w) (sym same) (Grows-self before)
each_goes_on (h ∷ hs) result before after (first, rest, world, is, here, later) = Grows-then here.grows (each_goes_on hs rest world after later)

abbrev Blames : Result (Unit {0}) StreamFault → Failure → Type 0
Blames result f = IfErr result (λ fault. fault ≡ output_fault_of f.what)

-- behind a first failure it stays the first
blamed_behind : (e : StreamFault) (g : Failure) (world after : WorldState) → e ≡ output_fault_of g.what → world.failures ≡ g ∷ [] → Grows world after → (f : Failure) → first_of after.failures ≡ Some f → e ≡ output_fault_of f.what
blamed_behind e g world after is one grows f some =
    let first : Some g ≡ Some f = sym (ap first_of (grows.failures ∙ ap (λ (fs : List Failure). grows.newer ++ fs) one) ∙ first_stays g grows.newer) ∙ some in
    is ∙ ap (λ (x : Failure). output_fault_of x.what) (same_Some g f first)

-- of the first output, where those behind it are told
first_blames : (id : ℕ) (held : List ℕ) (first rest : Result (Unit {0}) StreamFault) (before world after : WorldState) → WritesAndFlushes id held before first world → Grows world after → before.failures ≡ [] → (f : Failure) → first_of after.failures ≡ Some f
    → (world.failures ≡ [] → Blames rest f) → Blames (result_and first rest) f
first_blames id held (Ok u) rest before world after here grows none f some later = later (here.no_failure ∙ none)
first_blames id held (Err e) rest before world after here grows none f some later =
    let fails = here.fails in
    let g : Failure = record { at = length world.log; output = Some id; what = fails.0 } in
    blamed_behind e g world after fails.1 (fails.2 ∙ ap (λ (fs : List Failure). g ∷ fs) none) grows f some

each_blames : (hs : List (ℕ × List ℕ)) (result : Result (Unit {0}) StreamFault) (before after : WorldState) → BringsEach hs before result after → before.failures ≡ [] → (f : Failure) → first_of after.failures ≡ Some f → Blames result f
each_blames [] result before after (is, same) none f some = subst (λ r. Blames r f) (sym is) tt
each_blames (h ∷ hs) result before after (first, rest, world, is, here, later) none f some =
    subst (λ r. Blames r f) (sym is) (first_blames h.0 h.1 first rest before world after here (each_goes_on hs rest world after later) none f some (λ clear. each_blames hs rest world after later clear f some))

pub finishes : (before mid later after : WorldState) (old s v new : StreamsView) (result : Result (Unit {0}) StreamFault) (answer : ℤ) → AreOpen before old → ((id : ℕ) → is_output_among id (held_of old) ≡ false → is_flushed id before.log ≡ true) → BringsAndCloses before old result after → BringsHeld before (held_of old) result mid (held_of s) → s.main ≡ old.main → all_unheld s.named ≡ all_unheld old.named → HoldsNothing s → OnOk result (AreFlushedBut [] mid.log) →
    v ≡ record s { main = None } → EndsMain mid s later v → ClosesEach (all_names v.named) (pos 0) later v answer after new → ((id : ℕ) → standing id after.log ≡ None) → Finishes before old result after new
finishes before mid later after old s v new result answer open' flushed_before each b main same empty flushed is ends closes none =
    let both = finishes_ends before mid later after old s v new result answer b main same empty flushed is ends closes in
    let later_failure : later.failures ≡ mid.failures = ends.no_failure in
    let last_failure : after.failures ≡ mid.failures = each_no_failure (all_names v.named) (pos 0) answer later after v new closes ∙ later_failure in
    let same_openings : openings after.log ≡ openings mid.log = each_openings (all_names v.named) (pos 0) answer later after v new closes ∙ (ap openings ends.adds.1 ∙ main_openings s.main ends.adds.0 mid.log) in
    let received : outputs_of after.log ≡ in_order (with_held (held_of s) (openings mid.log)) = ap in_order (same_openings ∙ sym (nothing_held s (openings mid.log) empty)) in
    let closed : GoesOn AreOfTheEnd mid.log after.log = ends-then (main_only s.main ends.adds.0 mid.log later.log ends.adds.1) (each_only (all_names v.named) (pos 0) answer later after v new closes) in
    record {
      grows = Grows-then b.touches.grows (Grows-then ends.grows (each_grows (all_names v.named) (pos 0) answer later after v new closes));
      only = ends-then (bringing_only before.log mid.log b.touches.only) closed;
      first = record {
        log = mid.log;
        brings = b.touches.only;
        closes = closed;
        failure = λ f none some. (first_between f b.touches.grows none (sym (ap first_of last_failure) ∙ some)).1;
      };
      each = each;
      closed = none;
      ends = both.0;
      brought = both.1;
      begins = subst (λ l. Begins l (printed_openings before old)) (sym received) b.begins;
      others = others_brought before mid after old s result each b.spares flushed_before last_failure same_openings received;
      silent = silent_end before after old result open' each;
      no_failure = ok_same result before.failures mid.failures after.failures b.no_failure last_failure;
      failure = err_same result mid.failures after.failures b.failure last_failure;
      blames = λ f none some. each_blames (held_of old) result before each.world each.brings none f (sym (ap first_of each.no_failure) ∙ some);
    }

-- by the test of the code

true_false : {P : Type 0} → true ≡ false → P
true_false e = cc

pub none_is : (o : Option ℕ) (b : Bool) → b ≡ true → is_some o ≡ not b → o ≡ None
none_is None b e is = refl
none_is (Some k) b e is = true_false (is ∙ ap not e)

pub some_is : (o : Option ℕ) (b : Bool) → b ≡ false → is_some o ≡ not b → (k : ℕ) × (o ≡ Some k)
some_is None b e is = false_true (is ∙ ap not e)
some_is (Some k) b e is = (k, refl)
