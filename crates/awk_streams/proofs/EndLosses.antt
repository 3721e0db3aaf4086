-- What the end of a run leaves of the outputs, also where bringing some of them failed.
use Rattle.std.proofs.Common.{◌≡◌, inl, inr, ℕ, Bool, true, false, List, [], ◌∷◌, ◌++◌, take, length, Option, Some, Result, Ok, Err, refl, sym, ◌∙◌, ap, subst, arith}
use Rattle.std.specs.Prelude.{slice_get, ◌||◌}
use Rattle.std.specs.Result.{is_ok}
use Rattle.std.proofs.lemmas.Bool.{cond-true, cond-false, ne_eqb, eq-eqb, cases_eq}
use Rattle.std.proofs.Math.Seq.{take-nil}
use Rattle.awk_world.specs.declared.failure.Failure.{Failure}
use Rattle.awk_world.specs.definitions.Log.{Event, Wrote, Closed}
use Rattle.awk_world.specs.definitions.Writes.{with_events, Writes}
use Rattle.awk_world.specs.definitions.WorldState.{WorldState}
use Rattle.awk_world.specs.definitions.Openings.{Opening, openings, in_order, is_flushed}
use Rattle.awk_streams.specs.declared.fault.StreamFault.{StreamFault}
use Rattle.awk_streams.specs.declared.named.NamedStream.{NamedStream}
use Rattle.awk_streams.specs.declared.named.NamedStream.TheVariants as named
use Rattle.awk_streams.specs.definitions.Outputs.{WritesAndFlushes}
use Rattle.awk_streams.specs.definitions.Streams.{StreamsView, AreOpen, AreApart, place_of, held_in, held_of, with_held, is_output_among}
use Rattle.awk_streams.specs.definitions.Lost.{is_number, has_failed, is_lost, AreSpent, Spares, WriteNothingTo, IsSilentBehind, AreSilentBehind, AreBroughtBut}
use Rattle.awk_streams.specs.definitions.Commands.{BringsEach, AreClosings, numbers_open, BringsAndCloses}
use Rattle.awk_streams.specs.support.Held.{AreOtherOutputs}
use Rattle.awk_streams.proofs.GrowsLemmas.{with_events-append}
use Rattle.awk_streams.proofs.LeavesLemmas.{of_output_flushed, flushed_here, flushed_if_events}
use Rattle.awk_streams.proofs.BringLemmas.{flush_events, flush_log, flush_of}
use Rattle.awk_streams.proofs.NamedLemmas.{other_outputs}
use Rattle.awk_streams.proofs.ViewLemmas.{small_others}
use Rattle.awk_streams.proofs.LostLemmas.{failed_before, lost_same, spent_others}

true_false : {P : Type 0} → true ≡ false → P
true_false e = cc

-- what failed is told

failed_here : (id : ℕ) (f : Failure) (failures : List Failure) → f.output ≡ Some id → has_failed id (f ∷ failures) ≡ true
failed_here id f failures is = ap (λ (o : Option ℕ). is_number id o || has_failed id failures) is ∙ ap (λ b. b || has_failed id failures) (eq-eqb id id refl)

-- what isn't yet flushed, and didn't fail
abbrev AreFlushedOr : WorldState → List (ℕ × List ℕ) → Type 0
AreFlushedOr world hs = (id : ℕ) → is_output_among id hs ≡ false → has_failed id world.failures ≡ false → is_flushed id world.log ≡ true

flushed_or_failed : (id : ℕ) (held : List ℕ) (before world : WorldState) (first : Result (Unit {0}) StreamFault) → WritesAndFlushes id held before first world → has_failed id world.failures ≡ false → is_flushed id world.log ≡ true
flushed_or_failed id held before world (Ok u) w none = ap (is_flushed id) w.adds ∙ flushed_here id w.written
flushed_or_failed id held before world (Err fault) w none =
    true_false (sym (failed_here id (record { at = length world.log; output = Some id; what = w.fails.0 }) before.failures refl) ∙ (sym (ap (has_failed id) w.fails.2) ∙ none))

flushed_step : (id : ℕ) (held : List ℕ) (hs : List (ℕ × List ℕ)) (before world : WorldState) (first : Result (Unit {0}) StreamFault) → WritesAndFlushes id held before first world → AreFlushedOr before ((id, held) ∷ hs) → AreFlushedOr world hs
flushed_step id held hs before world first w h j other none = elim (cases_eq id j) [
  | inl same ↦ subst (λ (i : ℕ). has_failed i world.failures ≡ false → is_flushed i world.log ≡ true) same (flushed_or_failed id held before world first w) none
  | inr differs ↦
      let before_none : has_failed j before.failures ≡ false = failed_before j w.grows.newer before.failures (sym (ap (has_failed j) w.grows.failures) ∙ none) in
      ap (is_flushed j) (flush_log w) ∙ (of_output_flushed id j (flush_events w) before.log (flush_of w) differs ∙ h j (ap (λ b. b || is_output_among j hs) (ne_eqb id j differs) ∙ other) before_none)
]

each_flushed : (hs : List (ℕ × List ℕ)) (result : Result (Unit {0}) StreamFault) (before after : WorldState) → BringsEach hs before result after → AreFlushedOr before hs → AreFlushedOr after []
each_flushed [] result before after (is, same) h = subst (λ (w : WorldState). AreFlushedOr w []) (sym same) h
each_flushed (x ∷ hs) result before after (first, rest, world, is, here, later) h = each_flushed hs rest world after later (flushed_step x.0 x.1 hs before world first here h)

closings_flushed : (ids : List ℕ) (es log : List Event) (id : ℕ) → AreClosings ids es → is_flushed id log ≡ true → is_flushed id (with_events es log) ≡ true
closings_flushed [] [] log id h flushed = flushed
closings_flushed [] (e ∷ es) log id h flushed = absurd h
closings_flushed (i ∷ ids) [] log id h flushed = absurd h
closings_flushed (i ∷ ids) (Closed j n ∷ es) log id h flushed = elim (cases_eq j id) [
  | inl same ↦ closings_flushed ids es (Closed j n ∷ log) id h.1 (cond-true _ _ _ (eq-eqb j id same))
  | inr differs ↦ closings_flushed ids es (Closed j n ∷ log) id h.1 (cond-false _ _ _ (ne_eqb j id differs) ∙ flushed)
]
closings_flushed (i ∷ ids) (e ∷ es) log id h flushed = absurd h

-- no bytes behind a failure

empty_front : (xs ys : List ℕ) → xs ++ ys ≡ [] → xs ≡ []
empty_front [] ys e = refl
empty_front (x ∷ xs) ys e = absurd cc

empty_back : (xs ys : List ℕ) → xs ++ ys ≡ [] → ys ≡ []
empty_back [] ys e = e
empty_back (x ∷ xs) ys e = absurd cc

nothing_written : (output : Option ℕ) (id : ℕ) (bytes : List ℕ) (es : List Event) → Writes id bytes es → (is_number id output ≡ true → bytes ≡ []) → WriteNothingTo output es
nothing_written output id bytes [] w none = tt
nothing_written output id bytes (Wrote i bs ∷ es) (same, (rest, is, later)) none = (
  (λ number. empty_front bs rest (sym is ∙ none (ap (λ (j : ℕ). is_number j output) (sym same) ∙ number))),
  nothing_written output id rest es later (λ number. empty_back bs rest (sym is ∙ none number)),
)
nothing_written output id bytes (e ∷ es) w none = absurd w

nothing-append : (output : Option ℕ) (es fs : List Event) → WriteNothingTo output es → WriteNothingTo output fs → WriteNothingTo output (es ++ fs)
nothing-append output [] fs h k = k
nothing-append output (Wrote id bytes ∷ es) fs h k = (h.0, nothing-append output es fs h.1 k)
nothing-append output (e ∷ es) fs h k = nothing-append output es fs h k

nothing_flushed : (output : Option ℕ) (done : Bool) (id : ℕ) → WriteNothingTo output (flushed_if_events done id)
unfolding flushed_if_events
nothing_flushed output true id = tt
nothing_flushed output false id = tt

nothing_closed : (output : Option ℕ) (ids : List ℕ) (es : List Event) → AreClosings ids es → WriteNothingTo output es
nothing_closed output [] [] h = tt
nothing_closed output [] (e ∷ es) h = absurd h
nothing_closed output (id ∷ ids) [] h = absurd h
nothing_closed output (id ∷ ids) (Closed i n ∷ es) h = nothing_closed output ids es h.1
nothing_closed output (id ∷ ids) (e ∷ es) h = absurd h

-- these events write nothing to the outputs of these failures
abbrev WriteNothingToEach : List Failure → List Event → Type 0
WriteNothingToEach [] es = Unit {0}
WriteNothingToEach (f ∷ failures) es = WriteNothingTo f.output es × WriteNothingToEach failures es

silent_longer : (failures : List Failure) (es old new : List Event) → new ≡ with_events es old → WriteNothingToEach failures es → AreSilentBehind old failures → AreSilentBehind new failures
silent_longer [] es old new is nothing silent = tt
silent_longer (f ∷ failures) es old new is (here, more) (silent, others) = (
  record {
    earlier = silent.earlier;
    later = silent.later ++ es;
    parts = is ∙ (ap (with_events es) silent.parts ∙ sym (with_events-append silent.later es silent.earlier));
    count = silent.count;
    nothing = nothing-append f.output silent.later es silent.nothing here;
  },
  silent_longer failures es old new is more others,
)

each_closed : (failures : List Failure) (ids : List ℕ) (es : List Event) → AreClosings ids es → WriteNothingToEach failures es
each_closed [] ids es h = tt
each_closed (f ∷ failures) ids es h = (nothing_closed f.output ids es h, each_closed failures ids es h)

either_true : (x y : Bool) → x ≡ true → (x || y) ≡ true
either_true x y e = ap (λ b. b || y) e

or_true : (x y : Bool) → y ≡ true → (x || y) ≡ true
or_true true y e = refl
or_true false y e = e

flush_nothing : (output : Option ℕ) (id : ℕ) (held : List ℕ) (before world : WorldState) (first : Result (Unit {0}) StreamFault) (w : WritesAndFlushes id held before first world) → (is_number id output ≡ true → held ≡ []) → WriteNothingTo output (flush_events w)
unfolding flush_events
flush_nothing output id held before world first w none =
    nothing-append output w.writes.events (flushed_if_events (is_ok first) id) (nothing_written output id (take w.count held) w.writes.events w.writes.each (λ number. ap (take w.count) (none number) ∙ take-nil w.count)) (nothing_flushed output (is_ok first) id)

flush_nothing_each : (failures : List Failure) (id : ℕ) (held : List ℕ) (before world : WorldState) (first : Result (Unit {0}) StreamFault) (w : WritesAndFlushes id held before first world) → (has_failed id failures ≡ true → held ≡ []) → WriteNothingToEach failures (flush_events w)
flush_nothing_each [] id held before world first w none = tt
flush_nothing_each (f ∷ failures) id held before world first w none = (
  flush_nothing f.output id held before world first w (λ number. none (either_true (is_number id f.output) (has_failed id failures) number)),
  flush_nothing_each failures id held before world first w (λ failed. none (or_true (is_number id f.output) (has_failed id failures) failed)),
)

-- no two of these have one number
abbrev AreDistinct : List (ℕ × List ℕ) → Type 0
AreDistinct [] = Unit {0}
AreDistinct (h ∷ hs) = AreOtherOutputs h.0 hs × AreDistinct hs

-- outputs that are brought yet hold nothing back, where they failed, and those that failed are silent
record IsSilentSoFar (world : WorldState) (hs : List (ℕ × List ℕ)) : Type 0 where
  spent : AreSpent world.failures hs
  silent : AreSilentBehind world.log world.failures

silent_step : (id : ℕ) (held : List ℕ) (hs : List (ℕ × List ℕ)) (before world : WorldState) (first : Result (Unit {0}) StreamFault) → AreOtherOutputs id hs → WritesAndFlushes id held before first world → IsSilentSoFar before ((id, held) ∷ hs) → IsSilentSoFar world hs
silent_step id held hs before world (Ok u) others w h =
    let still = silent_longer before.failures (flush_events w) before.log world.log (flush_log w) (flush_nothing_each before.failures id held before world (Ok u) w h.spent.0) h.silent in
    record {
      spent = subst (λ (fs : List Failure). AreSpent fs hs) (sym w.no_failure) h.spent.1;
      silent = subst (λ (fs : List Failure). AreSilentBehind world.log fs) (sym w.no_failure) still;
    }
silent_step id held hs before world (Err fault) others w h =
    let still = silent_longer before.failures (flush_events w) before.log world.log (flush_log w) (flush_nothing_each before.failures id held before world (Err fault) w h.spent.0) h.silent in
    let f : Failure = record { at = length world.log; output = Some id; what = w.fails.0 } in
    let here : IsSilentBehind world.log f = record { earlier = world.log; later = []; parts = refl; count = refl; nothing = tt } in
    record {
      spent = subst (λ (fs : List Failure). AreSpent fs hs) (sym w.fails.2) (spent_others f id before.failures hs refl others h.spent.1);
      silent = subst (λ (fs : List Failure). AreSilentBehind world.log fs) (sym w.fails.2) (here, still);
    }

each_silent : (hs : List (ℕ × List ℕ)) (result : Result (Unit {0}) StreamFault) (before after : WorldState) → AreDistinct hs → BringsEach hs before result after → IsSilentSoFar before hs → AreSilentBehind after.log after.failures
each_silent [] result before after distinct (is, same) h = subst (λ (w : WorldState). AreSilentBehind w.log w.failures) (sym same) h.silent
each_silent (x ∷ hs) result before after distinct (first, rest, world, is, here, later) h = each_silent hs rest world after distinct.1 later (silent_step x.0 x.1 hs before world first distinct.0 here h)

distinct_named : (xs : List NamedStream) → AreApart xs → AreDistinct (held_in xs)
distinct_named [] apart = tt
distinct_named (named.Input k n input ∷ xs) apart = distinct_named xs apart.1
distinct_named (named.Output k n output ∷ xs) apart = (other_outputs output.id xs apart.0, distinct_named xs apart.1)

distinct_held : (world : WorldState) (s : StreamsView) → AreOpen world s → AreDistinct (held_of s)
distinct_held world s open' = (
  ((λ (e : 1 ≡ 0). absurd (omega (arith, e))), other_outputs 0 s.named (small_others world 0 s.named (omega arith) open'.named)),
  (other_outputs 1 s.named (small_others world 1 s.named (omega arith) open'.named), distinct_named s.named open'.apart),
)

-- the whole end

pub others_brought : (before mid after : WorldState) (old s : StreamsView) (result : Result (Unit {0}) StreamFault) → BringsAndCloses before old result after → Spares before (held_of old) mid (held_of s) → ((id : ℕ) → is_output_among id (held_of old) ≡ false → is_flushed id before.log ≡ true)
    → after.failures ≡ mid.failures → openings after.log ≡ openings mid.log → in_order (openings after.log) ≡ in_order (with_held (held_of s) (openings mid.log)) → AreBroughtBut after.failures (in_order (with_held (held_of old) (openings before.log))) after.log
others_brought before mid after old s result each spares flushed failures same received = record {
  received = λ n kept.
      let places = λ (id : ℕ). ap (λ (os : List (ℕ × Opening)). place_of id os) same in
      ap (λ (os : List Opening). slice_get os n) received ∙ spares.same n (sym (lost_same mid.log after.log places mid.failures n) ∙ (sym (ap (λ (fs : List Failure). is_lost after.log fs n) failures) ∙ kept));
  flushed = λ id none.
      let at_world = each_flushed (held_of old) result before each.world each.brings (λ j other not_failed. flushed j other) id refl (sym (ap (has_failed id) each.no_failure) ∙ none) in
      ap (is_flushed id) each.closes.log ∙ closings_flushed (numbers_open old) each.closes.events each.world.log id each.closes.each at_world;
}

pub silent_end : (before after : WorldState) (old : StreamsView) (result : Result (Unit {0}) StreamFault) → AreOpen before old → BringsAndCloses before old result after → AreSpent before.failures (held_of old) → AreSilentBehind before.log before.failures → AreSilentBehind after.log after.failures
silent_end before after old result open' each spent silent =
    let at_world = each_silent (held_of old) result before each.world (distinct_held before old open') each.brings record { spent = spent; silent = silent } in
    subst (λ (fs : List Failure). AreSilentBehind after.log fs) (sym each.no_failure)
    (silent_longer each.world.failures each.closes.events each.world.log after.log each.closes.log (each_closed each.world.failures (numbers_open old) each.closes.events each.closes.each) at_world)
