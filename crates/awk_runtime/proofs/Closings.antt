-- What closings and runs of commands do to the state of a run.
use Rattle.std.proofs.Common.{◌≡◌, ◌+◌, ℕ, suc, ℤ, negsuc, Bool, true, false, List, [], ◌∷◌, ◌++◌, length, map, cond, Option, Result, Ok, Err, if◌then◌else◌, refl, sym, ap, ◌∙◌, subst, arith, append-nil}
use Rattle.std.specs.Prelude.{filter, bytes_eq}
use Rattle.awk_world.specs.declared.world.InputKind.{InputKind}
use Rattle.awk_world.specs.declared.world.OutputKind.{OutputKind}
use Rattle.awk_streams.specs.declared.fault.StreamFault.{StreamFault}
use Rattle.awk_streams.specs.declared.fault.StreamFault.TheVariants.{Memory, WriteFailed, InputNotReadable, OutputNotOpened, TooManyStreams, RecordTooLong}
use Rattle.awk_streams.specs.declared.named.NamedStream.{NamedStream}
use Rattle.awk_streams.specs.declared.named.NamedStream.TheVariants as named
use Rattle.awk_streams.specs.WorldState.{WorldState}
use Rattle.awk_streams.specs.Log.{Event, Closed, Ran}
use Rattle.awk_streams.specs.Oracle.{Oracle, IsConsistent, one_if, how_many, closes_command}
use Rattle.awk_streams.specs.Openings.{Opening, AreBrought, openings}
use Rattle.awk_streams.specs.Grows.{Grows}
use Rattle.awk_streams.specs.Named as words
use Rattle.awk_streams.specs.Streams.{StreamsView, StandFor, numbered, printed_openings}
use Rattle.awk_streams.specs.Commands.{closing_answer, ClosesStream, ClosesEach, names_called, ClosesNames, ClosesText, RanCommand, RunsCommand}
use Rattle.awk_semantics.specs.State.{Closes, Runs, Effect, Requested, State, Out, ◌>>=◌, go_on, ret}
use Rattle.awk_semantics.specs.Streams.{has_the_name, without_stream, closed_by, close_stream, streams_named, close_each, close_named, run_command}
use Rattle.awk_semantics.specs.Order.{ClosesAs, first_stage}
use Rattle.awk_runtime.specs.declared.runtime.Runtime.{Runtime}
use Rattle.awk_runtime.specs.support.Simulation.{main_number, stage_of, StreamsRelation, StateRelation, ResultRelation, SimulatesLogged, Follows, Beside, halted}
use Rattle.awk_runtime.proofs.Composition.{then_logged, callers_stay}
use Rattle.awk_runtime.proofs.Effects.{turn_requested}
use Rattle.awk_runtime.proofs.Flushes.{all_brought, brought_stands}
use Rattle.awk_runtime.proofs.Steps.{beside_holds}
use Rattle.awk_runtime.proofs.Turns.{own_at, outputs_requested, goes_bringing, turn_brought, brought_as, memory_loses, write_loses, stage_same}
use Rattle.awk_runtime.proofs.NamedInputs.{between, beside_between, between_beside, ret_still}

-- a run of a command

ran_stands : (oracle : Oracle) (command : List ℕ) (answer : ℤ) (old new : StreamsView) (before after : WorldState) (s : State) (past : List Effect) → RanCommand command before old answer after new → StreamsRelation oracle old before s past
    → StreamsRelation oracle new after (record s { runs = suc s.runs }) (past ++ Requested (Runs command) ∷ [])
ran_stands oracle command answer old new before after s past told stands = record {
  outside = stands.outside;
  openings = λ k n. stands.openings k n ∙ sym (told.counts.inputs k n);
  output_openings = λ k n. stands.output_openings k n ∙ sym (told.counts.outputs k n);
  closings = stands.closings ∙ sym told.counts.closings;
  runs = let one = told.counts.runs in let same = stands.runs in omega arith;
  outputs = stands.outputs ∙ sym (ap (λ (os : List Opening). length os) (outputs_requested past (Runs command)));
  are = told.same oracle s.main s.streams stands.are;
  printed = told.printed ∙ (stands.printed ∙ sym (outputs_requested past (Runs command)));
  turn = turn_brought oracle past (Runs command) first_stage (stage_of before.log old) (stage_of told.log old) (stage_of after.log new) stands.turn (goes_bringing before.log told.log old told.brings.only)
      (brought_as oracle old before s past told.log stands told.brings.brought, (answer, stage_same after.log (Ran command answer ∷ told.log) (main_number new.main) (main_number old.main) (numbered new.named) (numbered old.named) told.adds (ap main_number told.main) told.numbers));
}

ran_comes : (oracle : Oracle) (command : List ℕ) (answer : ℤ) (new : Runtime) (after : WorldState) (s : State) (past : List Effect) → s.outside.running s.runs ≡ answer → StateRelation oracle new after (record s { runs = suc s.runs }) (past ++ Requested (Runs command) ∷ [])
    → ResultRelation oracle new after (Ok answer) (run_command command s) past
unfolding run_command
ran_comes oracle command answer new after s past is stands = (ap (λ (x : ℤ). Ok x) is, stands)

ran_logged : (command : List ℕ) (r : Result ℤ StreamFault) {old new : Runtime} {before after : WorldState} → Beside old new → RunsCommand command before old.streams r after new.streams → SimulatesLogged old before new after (halted r) (run_command command)
ran_logged command (Ok answer) {old = old} {new = new} {before = before} {after = after} beside told = record {
  grows = told.grows;
  means = λ oracle s past consistent stands.
      ran_comes oracle command answer new after s past (ap (λ (a : Oracle). a.running s.runs) stands.streams.outside ∙ (ap (λ (i : ℕ). oracle.running i) stands.streams.runs ∙ told.ran.answered oracle consistent)) (record {
        clear = told.failure ∙ stands.clear;
        streams = ran_stands oracle command answer old.streams new.streams before after s past told.ran stands.streams;
        holds = own_at new s s.openings s.output_openings s.outputs s.closings (suc s.runs) s.main s.streams (beside_holds beside stands.holds);
      });
}
ran_logged command (Err Memory) beside told = memory_loses (run_command command) told.grows told.ran told.failure
ran_logged command (Err WriteFailed) beside told = write_loses (run_command command) told.grows told.ran told.failure
ran_logged command (Err InputNotReadable) beside told = absurd told.ran
ran_logged command (Err OutputNotOpened) beside told = absurd told.ran
ran_logged command (Err TooManyStreams) beside told = absurd told.ran
ran_logged command (Err RecordTooLong) beside told = absurd told.ran

pub run_follows : {is_logged : Type 0} (command text : List ℕ) (r : Result ℤ StreamFault) {old new : Runtime} {before after : WorldState} → text ≡ command → Beside old new → (is_logged → RunsCommand text before old.streams r after new.streams) → Follows is_logged (run_command command) old before new after (halted r)
run_follows {is_logged = is_logged} command text r {old = old} {new = new} {before = before} {after = after} named beside told =
    subst (λ (l : List ℕ). Follows is_logged (run_command l) old before new after (halted r)) named (record {
      simulates = record { steps = omega (arith, beside.steps); names = beside.names; told = λ t. ran_logged text r beside (told t) };
      callers = callers_stay beside.frames;
    })

-- a stream is closed

closed_stands : (oracle : Oracle) (b : Bool) (x : words.Named) (answer : ℤ) (old new : StreamsView) (before after : WorldState) (s : State) (past : List Effect) → (told : ClosesStream x before old answer after new) → words.is_command x ≡ b → AreBrought (printed_openings before old) before.log
    → StreamsRelation oracle old before s past → StreamsRelation oracle new after (record (without_stream x s) { closings = one_if b + s.closings }) (past ++ Requested (Closes x) ∷ [])
closed_stands oracle b x answer old new before after s past told kind brought stands = record {
  outside = stands.outside;
  openings = λ k n. stands.openings k n ∙ sym (told.counts.inputs k n);
  output_openings = λ k n. stands.output_openings k n ∙ sym (told.counts.outputs k n);
  closings = ap (λ (i : ℕ). one_if b + i) stands.closings ∙ (ap (λ (c : Bool). one_if c + how_many closes_command before.log) (sym kind) ∙ sym told.counts.closings);
  runs = stands.runs ∙ sym told.counts.runs;
  outputs = stands.outputs ∙ sym (ap (λ (os : List Opening). length os) (outputs_requested past (Closes x)));
  are = told.streams oracle s.main s.streams stands.are;
  printed = told.printed ∙ (stands.printed ∙ sym (outputs_requested past (Closes x)));
  turn = turn_requested oracle past (Closes x) first_stage (stage_of before.log old) (stage_of after.log new) stands.turn (
    brought_as oracle old before s past before.log stands brought,
    subst (λ (id : Option ℕ). ClosesAs x id (stage_of before.log old) (stage_of after.log new)) (sym told.number)
        (told.told, stage_same after.log (Closed told.id told.told ∷ before.log) (main_number new.main) (main_number old.main) (numbered new.named) (words.without_number x (numbered old.named)) told.adds (ap main_number told.main) told.numbers),
  );
}

closed_comes : (oracle : Oracle) (b : Bool) (x : words.Named) (answer : ℤ) (new : Runtime) (k : WorldState) (after : WorldState) (s : State) (past : List Effect) → closing_answer b oracle k.log ≡ answer → s.outside.closing s.closings ≡ oracle.closing (how_many closes_command k.log)
    → StateRelation oracle new after (record (without_stream x s) { closings = one_if b + s.closings }) (past ++ Requested (Closes x) ∷ []) → ResultRelation oracle new after (Ok answer) (closed_by b x s) past
closed_comes oracle true x answer new k after s past is outside stands = (ap (λ (i : ℤ). Ok i) (outside ∙ is), subst (λ (i : ℕ). StateRelation oracle new after (record (without_stream x s) { closings = i }) (past ++ Requested (Closes x) ∷ [])) (one_more s.closings) stands)
  where
    one_more : (n : ℕ) → 1 + n ≡ suc n
    one_more n = omega arith
closed_comes oracle false x answer new k after s past is outside stands = (ap (λ (i : ℤ). Ok i) is, subst (λ (i : ℕ). StateRelation oracle new after (record (without_stream x s) { closings = i }) (past ++ Requested (Closes x) ∷ [])) (no_more s.closings) stands)
  where
    no_more : (n : ℕ) → 0 + n ≡ n
    no_more n = omega arith

closed_logged : (x : words.Named) (answer : ℤ) {old new : Runtime} {before after : WorldState} → Beside old new → AreBrought (printed_openings before old.streams) before.log → ClosesStream x before old.streams answer after new.streams → SimulatesLogged old before new after (Ok answer) (close_stream x)
unfolding close_stream
closed_logged x answer {old = old} {new = new} {before = before} {after = after} beside brought told = record {
  grows = told.grows;
  means = λ oracle s past consistent stands.
      closed_comes oracle (words.is_command x) x answer new before after s past (told.answered oracle consistent) (ap (λ (a : Oracle). a.closing s.closings) stands.streams.outside ∙ ap (λ (i : ℕ). oracle.closing i) stands.streams.closings) (record {
        clear = told.no_failure ∙ stands.clear;
        streams = closed_stands oracle (words.is_command x) x answer old.streams new.streams before after s past told refl brought stands.streams;
        holds = own_at new s s.openings s.output_openings s.outputs (one_if (words.is_command x) + s.closings) s.runs s.main _ (beside_holds beside stands.holds);
      });
}

-- streams are closed in turn

each_logged : (zs : List words.Stream) (first answer : ℤ) {old new : Runtime} {before after : WorldState} → Beside old new → AreBrought (printed_openings before old.streams) before.log → ClosesEach (map words.named_of zs) first before old.streams answer after new.streams → SimulatesLogged old before new after (Ok answer) (close_each first zs)
each_logged [] first answer {old = old} {new = new} {before = before} {after = after} beside brought told =
    subst (λ (i : ℤ). SimulatesLogged old before new after (Ok answer) (ret i)) told.0 (ret_still answer beside told.2 told.1)
each_logged (z ∷ zs) first answer {old = old} {new = new} {before = before} {after = after} beside brought told =
    then_logged {mid = between old told.2} {between = told.1} (λ n. close_each n zs) (closed_logged (words.named_of z) told.0 (beside_between old told.2) brought told.3)
    (each_logged zs told.0 answer (between_beside old told.2 new beside) (told.3.brought brought) told.4)

-- the streams of a text

called_by : (b : Bool) (y : words.Stream) (ys : List words.Stream) (x : words.Named) (xs : List words.Named) → words.named_of y ≡ x → map words.named_of ys ≡ xs → map words.named_of (cond b (y ∷ ys) ys) ≡ (if b then x ∷ xs else xs)
called_by true y ys x xs e f = ap (λ (n : words.Named). n ∷ map words.named_of ys) e ∙ ap (λ (l : List words.Named). x ∷ l) f
called_by false y ys x xs e f = f

called_as : (a : Oracle) (log : List Event) (text : List ℕ) (xs : List NamedStream) (ys : List words.Stream) → StandFor a log xs ys → map words.named_of (filter (has_the_name text) ys) ≡ names_called text xs
called_as a log text [] [] h = refl
called_as a log text [] (y ∷ ys) h = absurd h
called_as a log text (x ∷ xs) [] h = absurd h
called_as a log text (named.Input k n i ∷ xs) (words.AnInput k' n' r ∷ ys) h =
    ap (λ (m : List ℕ). map words.named_of (cond (bytes_eq m text) (words.AnInput k' n' r ∷ filter (has_the_name text) ys) (filter (has_the_name text) ys))) h.0.1
    ∙ called_by (bytes_eq n text) (words.AnInput k' n' r) (filter (has_the_name text) ys) (words.Input k n) (names_called text xs) (ap (λ (j : InputKind). words.Input j n') h.0.0 ∙ ap (λ (m : List ℕ). words.Input k m) h.0.1) (called_as a log text xs ys h.1)
called_as a log text (named.Output k n o ∷ xs) (words.AnOutput k' n' opening ∷ ys) h =
    ap (λ (m : List ℕ). map words.named_of (cond (bytes_eq m text) (words.AnOutput k' n' opening ∷ filter (has_the_name text) ys) (filter (has_the_name text) ys))) h.0.1
    ∙ called_by (bytes_eq n text) (words.AnOutput k' n' opening) (filter (has_the_name text) ys) (words.Output k n) (names_called text xs) (ap (λ (j : OutputKind). words.Output j n') h.0.0 ∙ ap (λ (m : List ℕ). words.Output k m) h.0.1) (called_as a log text xs ys h.1)
called_as a log text (named.Input k n i ∷ xs) (words.AnOutput k' n' opening ∷ ys) h = absurd h.0
called_as a log text (named.Output k n o ∷ xs) (words.AnInput k' n' r ∷ ys) h = absurd h.0

close_named_as : (text : List ℕ) (s : State) → close_named text s ≡ close_each (negsuc 0) (filter (has_the_name text) s.streams) s
unfolding close_named streams_named ◌>>=◌ go_on
close_named_as text s = refl

-- they are none, or they are closed
names_logged : (text : List ℕ) (names : List words.Named) (answer : ℤ) {old new : Runtime} {before after : WorldState} → names_called text old.streams.named ≡ names → Beside old new → Grows before after → ClosesNames names before old.streams answer after new.streams
    → (oracle : Oracle) (s : State) (past : List Effect) → IsConsistent oracle after.log → StateRelation oracle old before s past → ResultRelation oracle new after (Ok answer) (close_each (negsuc 0) (filter (has_the_name text) s.streams) s) past
names_logged text [] answer {old = old} {new = new} {before = before} {after = after} none beside grows told oracle s past consistent stands =
    let zs : List words.Stream = filter (has_the_name text) s.streams in
    let empty : map words.named_of zs ≡ [] = called_as oracle before.log text old.streams.named s.streams stands.streams.are.named ∙ none in
    none_closed zs empty told.0 (ret_still answer beside told.2 told.1)
  where
    none_closed : (zs : List words.Stream) → map words.named_of zs ≡ [] → answer ≡ negsuc 0 → SimulatesLogged old before new after (Ok answer) (ret answer) → ResultRelation oracle new after (Ok answer) (close_each (negsuc 0) zs s) past
    none_closed [] e is h = subst (λ (i : ℤ). ResultRelation oracle new after (Ok answer) (ret i s) past) is (h.means oracle s past consistent stands)
    none_closed (z ∷ zs) e is h = absurd (cc)
names_logged text (x ∷ xs) answer {old = old} {new = new} {before = before} {after = after} is beside grows told oracle s past consistent stands =
    let zs : List words.Stream = filter (has_the_name text) s.streams in
    let names : map words.named_of zs ≡ x ∷ xs = called_as oracle before.log text old.streams.named s.streams stands.streams.are.named ∙ is in
    let brought : AreBrought (printed_openings told.world told.streams) told.world.log = subst (λ (os : List Opening). AreBrought os told.world.log) (sym told.brings.printed) told.brings.brings.brought in
    let closes = each_logged zs (negsuc 0) answer {old = between old told.streams} {new = new} (between_beside old told.streams new beside) brought (subst (λ (l : List words.Named). ClosesEach l (negsuc 0) told.world told.streams answer after new.streams) (sym names) told.closes) in
    let before_them : StateRelation oracle (between old told.streams) told.world s past = record {
      clear = told.brings.no_failure ∙ stands.clear;
      streams = subst (λ (l : List Effect). StreamsRelation oracle told.streams told.world s l) (append-nil past) (brought_stands oracle old.streams told.streams before told.world s past (all_brought told.brings) stands.streams);
      holds = beside_holds (beside_between old told.streams) stands.holds;
    } in
    closes.means oracle s past consistent before_them

text_closed : (text : List ℕ) (r : Result ℤ StreamFault) {old new : Runtime} {before after : WorldState} → Beside old new → ClosesText text before old.streams r after new.streams → SimulatesLogged old before new after (halted r) (close_named text)
text_closed text (Ok answer) {old = old} {new = new} {before = before} {after = after} beside told = record {
  grows = told.grows;
  means = λ oracle s past consistent stands. subst (λ (o : Out ℤ). ResultRelation oracle new after (Ok answer) o past) (sym (close_named_as text s))
      (names_logged text (names_called text old.streams.named) answer refl beside told.grows told.closed oracle s past consistent stands);
}
text_closed text (Err Memory) beside told = memory_loses (close_named text) told.grows told.closed told.failure
text_closed text (Err WriteFailed) beside told = write_loses (close_named text) told.grows told.closed told.failure
text_closed text (Err InputNotReadable) beside told = absurd told.closed
text_closed text (Err OutputNotOpened) beside told = absurd told.closed
text_closed text (Err TooManyStreams) beside told = absurd told.closed
text_closed text (Err RecordTooLong) beside told = absurd told.closed

pub close_follows : {is_logged : Type 0} (name text : List ℕ) (r : Result ℤ StreamFault) {old new : Runtime} {before after : WorldState} → text ≡ name → Beside old new → (is_logged → ClosesText text before old.streams r after new.streams) → Follows is_logged (close_named name) old before new after (halted r)
close_follows {is_logged = is_logged} name text r {old = old} {new = new} {before = before} {after = after} named beside told =
    subst (λ (l : List ℕ). Follows is_logged (close_named l) old before new after (halted r)) named (record {
      simulates = record { steps = omega (arith, beside.steps); names = beside.names; told = λ t. text_closed text r beside (told t) };
      callers = callers_stay beside.frames;
    })
