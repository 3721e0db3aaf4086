-- What bringing outputs does to the state of a run: nothing that the definitions know. So flushes meet the requests for them.
use Rattle.std.proofs.Common.{◌≡◌, ℕ, ℤ, pos, negsuc, Bool, List, [], ◌∷◌, ◌++◌, length, Option, Some, None, Result, Ok, Err, if◌then◌else◌, refl, sym, ap, ◌∙◌, subst, arith, append-nil}
use Rattle.std.specs.Prelude.{◌&&◌, ◌||◌, ◌==◌, slice_get, bytes_eq}
use Rattle.awk_streams.specs.declared.fault.StreamFault.{StreamFault}
use Rattle.awk_streams.specs.declared.fault.StreamFault.TheVariants.{Memory, WriteFailed, InputNotReadable, OutputNotOpened, TooManyStreams, RecordTooLong}
use Rattle.awk_streams.specs.declared.input.Input.{Input}
use Rattle.awk_streams.specs.declared.named.NamedStream.{NamedStream}
use Rattle.awk_streams.specs.declared.named.NamedStream.TheVariants as named
use Rattle.awk_streams.specs.Log.{Event, Wrote, Flushed}
use Rattle.awk_streams.specs.WorldState.{WorldState}
use Rattle.awk_streams.specs.Oracle.{Oracle, Source, SameCounts}
use Rattle.awk_streams.specs.Writes.{with_events, GoesOn}
use Rattle.awk_streams.specs.Openings.{Opening, openings}
use Rattle.awk_streams.specs.Named as words
use Rattle.awk_streams.specs.Streams.{StreamsView, AreAs, AreBringing, numbered, place_of, printed_openings}
use Rattle.awk_streams.specs.Commands.{BringsAll}
use Rattle.awk_streams.specs.Flushes.{AreBringingTo, FlushesAll, FlushesCalled, FlushesText, is_standard_number, is_number_among, is_number_of}
use Rattle.awk_streams.proofs.FlushLemmas.{to_some_bringing}
use Rattle.awk_streams.proofs.HeldLemmas.{place-receives}
use Rattle.awk_semantics.specs.declared.halt.Halt.TheVariants as halt
use Rattle.awk_semantics.specs.PartFaults.{stream_fault}
use Rattle.awk_semantics.specs.State.{Flushes, Effect, Requested, State}
use Rattle.awk_semantics.specs.Streams.{flush_all, flush_named}
use Rattle.awk_semantics.specs.Meaning.{outputs_after}
use Rattle.awk_semantics.specs.Order.{AreBetween, GoesBetween, is_number_in, stands_under, AreBroughtOf, Meets, first_stage}
use Rattle.awk_runtime.specs.declared.runtime.Runtime.{Runtime}
use Rattle.awk_runtime.specs.support.Simulation.{main_number, stage_of, StreamsRelation, SimulatesLogged, Follows, Beside, halted}
use Rattle.awk_runtime.proofs.Effects.{turn_between}
use Rattle.awk_runtime.proofs.Steps.{beside_holds}
use Rattle.awk_runtime.proofs.Composition.{callers_stay}
use Rattle.awk_runtime.proofs.Turns.{outputs_requested, goes_bringing, turn_brought, brought_as, memory_loses, write_loses}

-- outputs are brought, and the streams stand for the same
pub record BringsOutputs (before : WorldState) (old : StreamsView) (after : WorldState) (new : StreamsView) : Type 0 where
  pub only : GoesOn AreBringing before.log after.log
  pub main : new.main ≡ old.main
  pub numbers : numbered new.named ≡ numbered old.named
  pub printed : printed_openings after new ≡ printed_openings before old
  pub counts : SameCounts before.log after.log
  pub same : (a : Oracle) (main : Option Source) (open_streams : List words.Stream) → AreAs a before old main open_streams → AreAs a after new main open_streams

pub all_brought : {before after : WorldState} {old new : StreamsView} → BringsAll before old after new → BringsOutputs before old after new
all_brought told = record { only = told.brings.only; main = told.main; numbers = told.numbers; printed = told.printed; counts = told.counts; same = told.same }

brought_goes : (before after : WorldState) (old new : StreamsView) → BringsOutputs before old after new → GoesBetween (stage_of before.log old) (stage_of after.log new)
brought_goes before after old new told =
    let goes = goes_bringing before.log after.log old told.only in
    record {
      events = goes.events;
      log = goes.log;
      between = subst (λ (m : Option Input). AreBetween (main_number old.main) goes.events (main_number m)) (sym told.main) goes.between;
      streams = told.numbers;
    }

pub brought_stands : (oracle : Oracle) (old new : StreamsView) (before after : WorldState) (s : State) (past : List Effect) → BringsOutputs before old after new → StreamsRelation oracle old before s past → StreamsRelation oracle new after s (past ++ [])
brought_stands oracle old new before after s past told stands = record {
  outside = stands.outside;
  openings = λ k n. stands.openings k n ∙ sym (told.counts.inputs k n);
  output_openings = λ k n. stands.output_openings k n ∙ sym (told.counts.outputs k n);
  closings = stands.closings ∙ sym told.counts.closings;
  runs = stands.runs ∙ sym told.counts.runs;
  outputs = stands.outputs ∙ ap (λ (l : List Effect). length (outputs_after l)) (sym (append-nil past));
  are = told.same oracle s.main s.streams stands.are;
  printed = told.printed ∙ (stands.printed ∙ ap (λ (l : List Effect). outputs_after l) (sym (append-nil past)));
  turn = turn_between oracle past [] first_stage (stage_of before.log old) (stage_of after.log new) refl stands.turn (brought_goes before after old new told);
}

-- they meet the request for a flush
flushed_stands : (oracle : Oracle) (name : Option (List ℕ)) (old new : StreamsView) (before after : WorldState) (s : State) (past : List Effect) → BringsOutputs before old after new → Meets oracle (Flushes name) (outputs_after past) (stage_of after.log new) (stage_of after.log new)
    → StreamsRelation oracle old before s past → StreamsRelation oracle new after s (past ++ Requested (Flushes name) ∷ [])
flushed_stands oracle name old new before after s past told meets stands = record {
  outside = stands.outside;
  openings = λ k n. stands.openings k n ∙ sym (told.counts.inputs k n);
  output_openings = λ k n. stands.output_openings k n ∙ sym (told.counts.outputs k n);
  closings = stands.closings ∙ sym told.counts.closings;
  runs = stands.runs ∙ sym told.counts.runs;
  outputs = stands.outputs ∙ sym (ap (λ (os : List Opening). length os) (outputs_requested past (Flushes name)));
  are = told.same oracle s.main s.streams stands.are;
  printed = told.printed ∙ (stands.printed ∙ sym (outputs_requested past (Flushes name)));
  turn = turn_brought oracle past (Flushes name) first_stage (stage_of before.log old) (stage_of after.log new) (stage_of after.log new) stands.turn (brought_goes before after old new told) meets;
}

-- all outputs are flushed

all_flushed : (r : Result (Unit {0}) StreamFault) {old new : Runtime} {before after : WorldState} → Beside old new → FlushesAll before old.streams r after new.streams → SimulatesLogged old before new after (halted r) flush_all
unfolding flush_all
all_flushed (Ok tt) {old = old} {new = new} {before = before} {after = after} beside told = record {
  grows = told.grows;
  means = λ oracle s past consistent stands. (
    refl,
    record {
      clear = told.failure ∙ stands.clear;
      streams = flushed_stands oracle None old.streams new.streams before after s past (all_brought told.flushed) (brought_as oracle old.streams before s past after.log stands.streams told.flushed.brings.brought, refl) stands.streams;
      holds = beside_holds beside stands.holds;
    },
  );
}
all_flushed (Err Memory) beside told = memory_loses flush_all told.grows told.flushed told.failure
all_flushed (Err WriteFailed) beside told = write_loses flush_all told.grows told.flushed told.failure
all_flushed (Err InputNotReadable) beside told = absurd told.flushed
all_flushed (Err OutputNotOpened) beside told = absurd told.flushed
all_flushed (Err TooManyStreams) beside told = absurd told.flushed
all_flushed (Err RecordTooLong) beside told = absurd told.flushed

pub all_follows : {is_logged : Type 0} (r : Result (Unit {0}) StreamFault) {old new : Runtime} {before after : WorldState} → Beside old new → (is_logged → FlushesAll before old.streams r after new.streams) → Follows is_logged flush_all old before new after (halted r)
all_follows r beside told = record { simulates = record { steps = omega (arith, beside.steps); names = beside.names; told = λ t. all_flushed r beside (told t) }; callers = callers_stay beside.frames }

-- the outputs of a name are flushed

called_brought : {text : List ℕ} {is_open : Bool} {before after : WorldState} {old new : StreamsView} → GoesOn (AreBringingTo (is_number_of text old)) before.log after.log → FlushesCalled text before old is_open after new → BringsOutputs before old after new
called_brought {text = text} {old = old} only told = record {
  only = record { events = only.events; log = only.log; each = to_some_bringing (is_number_of text old) only.events only.each };
  main = told.main;
  numbers = told.numbers;
  printed = told.printed;
  counts = told.counts;
  same = told.same;
}

-- where bytes are brought, each opening keeps its place
place_brought : (id : ℕ) (es log : List Event) → AreBringing es → place_of id (openings (with_events es log)) ≡ place_of id (openings log)
place_brought id [] log h = refl
place_brought id (Wrote i bytes ∷ es) log h = place_brought id es (Wrote i bytes ∷ log) h ∙ place-receives id i bytes (openings log)
place_brought id (Flushed i ∷ es) log h = place_brought id es (Flushed i ∷ log) h
place_brought id (e ∷ es) log h = absurd h

-- the numbers under which outputs of the name stand open are those that are flushed
numbers_in : (text : List ℕ) (xs : List NamedStream) (id : ℕ) → is_number_in text (numbered xs) id ≡ is_number_among text xs id
numbers_in text [] id = refl
numbers_in text (named.Input kind name input ∷ xs) id = numbers_in text xs id
numbers_in text (named.Output kind name output ∷ xs) id = ap (λ (b : Bool). (bytes_eq name text && output.id == id) || b) (numbers_in text xs id)

numbers_under : (text : List ℕ) (log : List Event) (old new : StreamsView) (id : ℕ) → numbered new.named ≡ numbered old.named → stands_under text (stage_of log new) id ≡ is_number_of text old id
numbers_under text log old new id same = ap (λ (b : Bool). is_standard_number text id || b) (ap (λ (xs : List (words.Named × ℕ)). is_number_in text xs id) same ∙ numbers_in text old.named id)

-- each of them has received what the definitions print to it
brought_of : (oracle : Oracle) (text : List ℕ) (is_open : Bool) (old new : StreamsView) (before after : WorldState) (s : State) (past : List Effect) → GoesOn (AreBringingTo (is_number_of text old)) before.log after.log → FlushesCalled text before old is_open after new
    → StreamsRelation oracle old before s past → AreBroughtOf text (outputs_after past) (stage_of after.log new)
brought_of oracle text is_open old new before after s past only told stands =
    let under : (id : ℕ) → stands_under text (stage_of after.log new) id ≡ is_number_of text old id = λ id. numbers_under text after.log old new id told.numbers in
    let place : (id : ℕ) → place_of id (openings after.log) ≡ place_of id (openings before.log) = λ id.
    ap (λ (log : List Event). place_of id (openings log)) only.log ∙ place_brought id only.events before.log (to_some_bringing (is_number_of text old) only.events only.each) in
    record {
      received = λ id opening is at. told.received id opening (sym (under id) ∙ is) (sym (place id) ∙ at) ∙ ap (λ (os : List Opening). slice_get os opening) stands.printed;
      flushed = λ id is. told.flushed id (sym (under id) ∙ is);
    }

-- 0 where an output of the name is open, and else -1
abbrev pub flush_answer : Bool → ℤ
flush_answer is_open = if is_open then pos 0 else negsuc 0

text_flushed : (text : List ℕ) (is_open : Bool) {old new : Runtime} {before after : WorldState} → Beside old new → FlushesText text before old.streams (Ok is_open) after new.streams → SimulatesLogged old before new after (Ok (flush_answer is_open)) (flush_named text)
unfolding flush_named
text_flushed text is_open {old = old} {new = new} {before = before} {after = after} beside told = record {
  grows = told.grows;
  means = λ oracle s past consistent stands. (
    ap (λ (b : Bool). Ok (flush_answer b)) (told.flushed.found oracle s.streams stands.streams.are.named),
    record {
      clear = told.failure ∙ stands.clear;
      streams = flushed_stands oracle (Some text) old.streams new.streams before after s past (called_brought told.only told.flushed) (brought_of oracle text is_open old.streams new.streams before after s past told.only told.flushed stands.streams, refl) stands.streams;
      holds = beside_holds beside stands.holds;
    },
  );
}

text_unflushed : (text : List ℕ) (fault : StreamFault) {old new : Runtime} {before after : WorldState} → FlushesText text before old.streams (Err fault) after new.streams → SimulatesLogged old before new after (Err (halt.Fault (stream_fault fault))) (flush_named text)
text_unflushed text Memory told = memory_loses (flush_named text) told.grows told.flushed told.failure
text_unflushed text WriteFailed told = write_loses (flush_named text) told.grows told.flushed told.failure
text_unflushed text InputNotReadable told = absurd told.flushed
text_unflushed text OutputNotOpened told = absurd told.flushed
text_unflushed text TooManyStreams told = absurd told.flushed
text_unflushed text RecordTooLong told = absurd told.flushed

pub flush_follows : {is_logged : Type 0} (name text : List ℕ) (is_open open_so : Bool) {old new : Runtime} {before after : WorldState} → is_open ≡ open_so → text ≡ name → Beside old new → (is_logged → FlushesText text before old.streams (Ok is_open) after new.streams)
    → Follows is_logged (flush_named name) old before new after (Ok (flush_answer open_so))
flush_follows {is_logged = is_logged} name text is_open open_so {old = old} {new = new} {before = before} {after = after} is named beside told =
    subst (λ (b : Bool). Follows is_logged (flush_named name) old before new after (Ok (flush_answer b))) is
    (subst (λ (l : List ℕ). Follows is_logged (flush_named l) old before new after (Ok (flush_answer is_open))) named (record {
      simulates = record { steps = omega (arith, beside.steps); names = beside.names; told = λ t. text_flushed text is_open beside (told t) };
      callers = callers_stay beside.frames;
    }))

pub flush_fails : {is_logged : Type 0} (name text : List ℕ) (fault : StreamFault) {old new : Runtime} {before after : WorldState} → text ≡ name → Beside old new → (is_logged → FlushesText text before old.streams (Err fault) after new.streams) → Follows is_logged (flush_named name) old before new after (Err (halt.Fault (stream_fault fault)))
flush_fails {is_logged = is_logged} name text fault {old = old} {new = new} {before = before} {after = after} named beside told =
    subst (λ (l : List ℕ). Follows is_logged (flush_named l) old before new after (Err (halt.Fault (stream_fault fault)))) named (record {
      simulates = record { steps = omega (arith, beside.steps); names = beside.names; told = λ t. text_unflushed text fault (told t) };
      callers = callers_stay beside.frames;
    })
