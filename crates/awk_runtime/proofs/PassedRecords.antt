-- Records that are passed over: what is read and done behind them is what is read and done with them.
use Rattle.std.proofs.Common.{◌≡◌, ℕ, zero, suc, ◌+◌, ◌-◌, ◌<◌, ◌≤◌, true, false, List, [], ◌∷◌, ◌++◌, length, take, drop, map, Option, Some, None, is_some, Result, Ok, Err, refl, sym, ap, ◌∙◌, subst, append_assoc, length-append, length-take, arith}
use Rattle.std.specs.List.{All}
use Rattle.std.proofs.lemmas.List.{take-append-drop, take_at}
use Rattle.std.proofs.lemmas.List.Elements.{All-nil, All-cons, All-head, All-tail}
use Rattle.awk_value.specs.declared.value.Value.{Value}
use Rattle.awk_value.specs.Values.{str_of}
use Rattle.awk_record.specs.Record.{RecordPair, split_by}
use Rattle.awk_record.specs.Cut.{cut_of}
use Rattle.awk_streams.specs.declared.fault.StreamFault.{StreamFault}
use Rattle.awk_streams.specs.declared.fault.StreamFault.TheVariants.{Memory, WriteFailed}
use Rattle.awk_streams.specs.declared.input.Input.{Input}
use Rattle.awk_streams.specs.WorldState.{WorldState}
use Rattle.awk_streams.specs.Oracle.{Oracle, Source}
use Rattle.awk_streams.specs.Streams.{StreamsView, AreOpen, AreSound, IsMainRest}
use Rattle.awk_streams.specs.MainInput.{IsLineOf, lines_of, TakesMain, TakesEach, main_bytes, skipped_main}
use Rattle.awk_streams.proofs.SkipLemmas.{skip_told}
use Rattle.awk_kinds.specs.declared.special.Special.TheVariants.{Rs}
use Rattle.awk_kinds.specs.Variables.{Pairs, value_of, name_of, CountsRecords}
use Rattle.awk_semantics.specs.declared.halt.Halt.{Halt}
use Rattle.awk_semantics.specs.State.{Effect, Frame, State, Out, Run}
use Rattle.awk_semantics.specs.Primitives.{spend}
use Rattle.awk_semantics.specs.Streams.{take_record}
use Rattle.awk_semantics.specs.Inputs.{next_record}
use Rattle.awk_semantics.specs.Items.{begin_record, each_record}
use Rattle.awk_storage.specs.support.Frames.{FramesView}
use Rattle.awk_runtime.specs.declared.passing.Passed.{Passed}
use Rattle.awk_runtime.specs.declared.passing.Unwanted.{Unwanted}
use Rattle.awk_runtime.specs.declared.runtime.Runtime.{Runtime}
use Rattle.awk_runtime.specs.support.Naming.{AreOwn}
use Rattle.awk_runtime.specs.support.Passing.{IsUnwanted, Ignores, IsPassed, MayPass, PassesOver}
use Rattle.awk_runtime.specs.support.Simulation.{frame_view, OwnRelation, StreamsRelation, ResultRelation, IsReady, SimulatesLogged, Changes, Follows}
use Rattle.awk_runtime.proofs.Composition.{own_changes, same_part, then_logged}
use Rattle.awk_runtime.proofs.Steps.{step_taken}
use Rattle.awk_runtime.proofs.Turns.{written}
use Rattle.awk_runtime.proofs.Words.{rule_in, record_changes, record_counted}
use Rattle.awk_runtime.proofs.CountWords.{counted_both}
use Rattle.awk_runtime.proofs.CountSteps.{counted_first, first_counted, others_counted, none_counted}
use Rattle.awk_runtime.proofs.MainInput.{some_rest, asks_simulates}
use Rattle.awk_runtime.proofs.Seeks.{main_gives, next_gives}
use Rattle.awk_runtime.proofs.FirstRecord.{cut_found, each_same}

-- Where the records stand.

-- those that are passed over are unwanted
lines_unwanted : (is_unwanted : List ℕ → Type 0) (c : ℕ) (lines : List (List ℕ)) (bytes before rest : List ℕ) (place : ℕ) → ((b part a : List ℕ) → bytes ≡ b ++ (part ++ a) → length b + length part ≤ place → is_unwanted part)
    → bytes ≡ before ++ (lines_of c lines ++ rest) → length before + length (lines_of c lines) ≤ suc place → All is_unwanted lines
lines_unwanted is_unwanted c [] bytes before rest place none is within = All-nil is_unwanted
lines_unwanted is_unwanted c (line ∷ lines) bytes before rest place none is within =
    let behind : List ℕ = lines_of c lines in
    let one : bytes ≡ before ++ (line ++ (c ∷ (behind ++ rest))) = is ∙ ap (λ l. before ++ l) (append_assoc line (c ∷ behind) rest) in
    let others : bytes ≡ (before ++ line ++ c ∷ []) ++ (behind ++ rest) =
    one ∙ (sym (append_assoc before line (c ∷ (behind ++ rest))) ∙ sym (append_assoc (before ++ line) (c ∷ []) (behind ++ rest))) in
    let so_far : length (before ++ line ++ c ∷ []) ≡ length before + length line + 1 = length-append (before ++ line) (c ∷ []) ∙ ap (λ n. n + 1) (length-append before line) in
    let all : length (line ++ c ∷ behind) ≡ length line + suc (length behind) = length-append line (c ∷ behind) in
    All-cons is_unwanted line lines (none before line (c ∷ (behind ++ rest)) one (omega arith))
    (lines_unwanted is_unwanted c lines bytes (before ++ line ++ c ∷ []) rest place none others (omega arith))

passed_unwanted : (is_unwanted : List ℕ → Type 0) (c place : ℕ) (bytes : List ℕ) (passed : Passed) (p : IsPassed c bytes place passed) → ((b part a : List ℕ) → bytes ≡ b ++ (part ++ a) → length b + length part ≤ place → is_unwanted part) → All is_unwanted p.lines
passed_unwanted is_unwanted c place bytes passed p none =
    let size : length (lines_of c p.lines) ≡ passed.bytes = ap (λ (l : List ℕ). length l) (sym p.taken) ∙ (length-take passed.bytes bytes ∙ omega (arith, p.within)) in
    lines_unwanted is_unwanted c p.lines bytes [] (drop passed.bytes bytes) place none (sym (take-append-drop passed.bytes bytes) ∙ ap (λ l. l ++ drop passed.bytes bytes) p.taken) (omega (arith, p.before))

drop-nil : (n : ℕ) → drop {A = ℕ} n [] ≡ []
drop-nil zero = refl
drop-nil (suc n) = refl

bytes_skipped : (count : ℕ) (main : Option Input) → main_bytes (skipped_main count main) ≡ drop count (main_bytes main)
bytes_skipped count None = sym (drop-nil count)
bytes_skipped count (Some input) = refl

there_still : (count : ℕ) (main : Option Input) → is_some (skipped_main count main) ≡ is_some main
there_still count None = refl
there_still count (Some input) = refl

-- the record behind them is at hand
record NextAtHand (c : ℕ) (next : List ℕ) (world : WorldState) (streams : StreamsView) : Type 0 where
  mid : StreamsView
  takes : TakesMain (c ∷ []) next world streams mid

next_at_hand : (c : ℕ) (next rest : List ℕ) (world : WorldState) (s : StreamsView) → is_some s.main ≡ true → main_bytes s.main ≡ next ++ c ∷ rest → IsLineOf c next → AreOpen world s → AreSound world s → NextAtHand c next world s
next_at_hand c next rest world s there bytes line opened sound = by s.main refl
  where
    by : (o : Option Input) → s.main ≡ o → NextAtHand c next world s
    by None is = let bad : false ≡ true = ap is_some (sym is) ∙ there in absurd (cc)
    by (Some was) is =
        let count : ℕ = length next + 1 in
        let size : length (next ++ c ∷ []) ≡ count = length-append next (c ∷ []) in
        let front : take count (main_bytes s.main) ≡ next ++ c ∷ [] = ap (take count) (bytes ∙ sym (append_assoc next (c ∷ []) rest)) ∙ take_at (next ++ c ∷ []) rest count size in
        let told = skip_told s s was (record { id = was.id; pending = record { bytes = drop count was.pending.bytes; ending = was.pending.ending } }) count refl is (record { id = refl; bytes = refl; ending = refl })
        c (next ∷ []) there front (All-cons (IsLineOf c) next [] line (All-nil (IsLineOf c))) world opened sound in
        record { mid = told.0; takes = told.1 }

-- What a record that is passed over does.

no_frames : (frames : List Frame) → map frame_view frames ≡ [] → frames ≡ []
no_frames [] e = refl
no_frames (frame ∷ frames) e = absurd (cc)

-- nothing is done on it
ignored_logged : (unwanted : List ℕ → Type 0) (action : Run (Unit {0})) (m : Runtime) (k : WorldState) → Ignores action unwanted → m.frames.frames ≡ [] → unwanted m.current.text → SimulatesLogged m k m k (Ok tt) action
ignored_logged unwanted action m k ignores outside none =
    let still : Changes action m m (Ok tt) = own_changes action refl refl refl (omega arith) (λ s h. record {
      result = Ok tt;
      state = s;
      is = ignores s (no_frames s.frames (sym h.frames ∙ outside)) (subst (λ (r : RecordPair). unwanted r.text) (sym h.current) none);
      part = same_part s;
      matches = refl;
      holds = h;
    }) in
    still.means k

abbrev found : List ℕ → Result (Option (List ℕ)) StreamFault
found line = Ok (Some line)

-- the code's state behind it
abbrev behind_line : Runtime → StreamsView → (line : List ℕ) (steps : ℕ) → Pairs → Runtime
behind_line m streams line steps specials = record m { streams = streams; steps = steps; current = split_by (rule_in m.specials) line; specials = specials }

one_passed : (unwanted : List ℕ → Type 0) (action : Run (Unit {0})) {last : Runtime} {after : WorldState} {r : Result (Unit {0}) Halt} (c : ℕ) (line : List ℕ) (m : Runtime) (k : WorldState) (streams : StreamsView) (specials : Pairs) (j n : ℕ) → Ignores action unwanted → unwanted line → m.frames.frames ≡ [] → AreOwn m.names.scalars → str_of (value_of m.specials (name_of Rs)) ≡ c ∷ []
    → CountsRecords 1 (value_of m.specials) (value_of specials) → m.steps ≡ suc j → TakesMain (c ∷ []) line k m.streams streams
    → SimulatesLogged (behind_line m streams line j specials) k last after r (each_record n action) → SimulatesLogged m k last after r (each_record (suc n) action)
unfolding each_record
one_passed unwanted action {last = last} {after = after} {r = r} c line m k streams specials j n ignores none outside own rs counts steps takes more =
    let m1 : Runtime = record m { streams = streams } in
    let m2 : Runtime = record m { streams = streams; steps = j } in
    let m3 : Runtime = record m { streams = streams; steps = j; current = split_by (rule_in m.specials) line } in
    let m4 : Runtime = behind_line m streams line j specials in
    let taken : Follows (Unit {0}) take_record m k m1 k (Ok (Some line)) = record {
      simulates = asks_simulates (c ∷ []) (Ok (Some line)) (sym rs) (written m streams m.line m.formats) takes.there takes.same (λ t. takes.asks) (λ (e : found line ≡ Err WriteFailed). absurd (cc));
      callers = refl;
    } in
    let read : SimulatesLogged m k m1 k (Ok (Some line)) next_record = (next_gives (main_gives taken)).simulates.told tt in
    let spends : SimulatesLogged m1 k m2 k (Ok tt) spend = (step_taken m1 j steps).changes.means k in
    let recorded = record_changes line (rule_in m2.specials) {old = m2} {new = m3} refl refl (record { names = refl; specials = refl; globals = refl; arrays = refl; frames = refl; streams = refl; next = refl; input_seen = refl; inside = refl; status = refl; steps = refl }) in
    let counted = counted_both {old = m3} {new = m4} own counts refl (record { names = refl; current = refl; arrays = refl; frames = refl; streams = refl; next = refl; input_seen = refl; inside = refl; status = refl; steps = refl }) in
    let begins : SimulatesLogged m2 k m4 k (Ok tt) (begin_record line) = (record_counted line recorded counted).means k in
    let acts : SimulatesLogged m4 k m4 k (Ok tt) action = ignored_logged unwanted action m4 k ignores outside none in
    then_logged _ read (then_logged _ spends (then_logged _ begins (then_logged _ acts more)))

-- Many of them, one after the other.

module _ (unwanted : List ℕ → Type 0) (action : Run (Unit {0})) (last : Runtime) (after : WorldState) (r : Result (Unit {0}) Halt) (c : ℕ) (k : WorldState) (ignores : Ignores action unwanted) (streams : StreamsView) (values : List ℕ → Value) (fewer : ℕ) where
  -- what goes on behind them, whatever record was the last, and however NR and FNR are kept
  abbrev GoesOnFrom : Runtime → Type 0
  GoesOnFrom m = (current : RecordPair) (specials : Pairs) → ((x : List ℕ) → values x ≡ value_of specials x) → (n : ℕ) → fewer ≤ n → SimulatesLogged (record m { streams = streams; specials = specials; steps = fewer; current = current }) k last after r (each_record (suc n) action)

  none_left : (m : Runtime) → CountsRecords 0 (value_of m.specials) values → m.steps ≡ fewer → streams ≡ m.streams → GoesOnFrom m → (n : ℕ) → m.steps ≤ n → SimulatesLogged m k last after r (each_record (suc n) action)
  none_left m counts steps same goes n low =
      let d = goes m.current m.specials (none_counted (value_of m.specials) values counts) n (omega (arith, steps)) in
      subst (λ (s : StreamsView). SimulatesLogged (record m { streams = s }) k last after r (each_record (suc n) action)) same
      (subst (λ (i : ℕ). SimulatesLogged (record m { streams = streams; steps = i }) k last after r (each_record (suc n) action)) (sym steps) d)

  each_passed : (lines : List (List ℕ)) (m : Runtime) → All unwanted lines → m.frames.frames ≡ [] → AreOwn m.names.scalars → str_of (value_of m.specials (name_of Rs)) ≡ c ∷ [] → CountsRecords (length lines) (value_of m.specials) values → m.steps ≡ length lines + fewer → TakesEach (c ∷ []) lines k m.streams streams
      → GoesOnFrom m → (n : ℕ) → m.steps ≤ n → SimulatesLogged m k last after r (each_record (suc n) action)
  each_passed [] m none outside own rs counts steps takes goes n low = none_left m counts (omega (arith, steps)) takes goes n low
  each_passed (line ∷ lines) m none outside own rs counts steps takes goes zero low = absurd (omega (arith, steps))
  each_passed (line ∷ lines) m none outside own rs counts steps takes goes (suc n) low =
      let specials : Pairs = counted_first (length lines) m.specials values counts in
      let j : ℕ = length lines + fewer in
      one_passed unwanted action c line m k takes.0 specials j (suc n) ignores (All-head unwanted line lines none) outside own rs (first_counted (length lines) m.specials values counts) (omega (arith, steps)) takes.1
      (each_passed lines (behind_line m takes.0 line j specials) (All-tail unwanted line lines none) outside own rs (others_counted (length lines) m.specials values counts) refl takes.2 goes n (omega (arith, steps)))

-- The record that is at hand before reading is of no account, where the next one is at hand.

own_behind : (new : Runtime) (current : RecordPair) (specials : Pairs) (s : State) → ((x : List ℕ) → value_of new.specials x ≡ value_of specials x) → OwnRelation (record new { current = current; specials = specials }) s → OwnRelation new (record s { current = new.current })
own_behind new current specials s same h = record {
  current = refl;
  specials = λ x. h.specials x ∙ sym (same (name_of x));
  globals = h.globals;
  slots = h.slots;
  array_names = h.array_names;
  function_names = h.function_names;
  arrays = h.arrays;
  frames = h.frames;
  staged = h.staged;
  next = h.next;
  input_seen = h.input_seen;
  inside = h.inside;
  status = h.status;
  steps = h.steps;
}

streams_behind : (oracle : Oracle) (k : WorldState) (v : StreamsView) (s : State) (current : RecordPair) (past : List Effect) → StreamsRelation oracle v k s past → StreamsRelation oracle v k (record s { current = current }) past
streams_behind oracle k v s current past h = record {
  outside = h.outside;
  openings = h.openings;
  output_openings = h.output_openings;
  closings = h.closings;
  runs = h.runs;
  outputs = h.outputs;
  are = h.are;
  printed = h.printed;
  turn = h.turn;
}

any_before : (action : Run (Unit {0})) {last : Runtime} {after : WorldState} {r : Result (Unit {0}) Halt} (c j n : ℕ) (next : List ℕ) (new : Runtime) (k : WorldState) (current : RecordPair) (specials : Pairs) → str_of (value_of new.specials (name_of Rs)) ≡ c ∷ [] → new.steps ≡ suc j → NextAtHand c next k new.streams → ((x : List ℕ) → value_of new.specials x ≡ value_of specials x)
    → SimulatesLogged new k last after r (each_record (suc n) action) → SimulatesLogged (record new { current = current; specials = specials }) k last after r (each_record (suc n) action)
any_before action {last = last} {after = after} {r = r} c j n next new k current specials rs steps hand same d = record {
  grows = d.grows;
  means = λ oracle s past consistent stands.
      let now : State = record s { current = new.current } in
      let main = some_rest oracle k.log new.streams.main s.main hand.takes.there stands.streams.are.main in
      let whole : Source = main.0 in
      let rest = subst (λ (o : Option Source). IsMainRest oracle k.log new.streams.main o) main.1 stands.streams.are.main in
      let gives = hand.takes.asks.answered (λ (e : found next ≡ Err Memory). absurd (cc)) oracle whole (d.grows.consistent oracle consistent) rest in
      let cut = cut_found (cut_of (c ∷ []) whole.bytes whole.ending) next whole.bytes gives.0 gives.1 in
      let separated : str_of (s.variables (name_of Rs)) ≡ c ∷ [] = ap str_of (stands.holds.specials Rs ∙ sym (same (name_of Rs))) ∙ rs in
      let equal : each_record (suc n) action now ≡ each_record (suc n) action s = each_same (c ∷ []) next gives.0 n j action whole cut s new.current main.1 separated (stands.holds.steps ∙ steps) in
      subst (λ (o : Out (Unit {0})). ResultRelation oracle last after r o past) equal
      (d.means oracle now past consistent (record { clear = stands.clear; streams = streams_behind oracle k new.streams s new.current past stands.streams; holds = own_behind new current specials s same stands.holds }));
}

-- All of it.

-- what passing over leaves of the code's state
abbrev pub left_behind : Runtime → Pairs → (steps : ℕ) → StreamsView → Runtime
left_behind m specials steps streams = record m { specials = specials; steps = steps; streams = streams }

abbrev pub TakesAny : (count : ℕ) (old new : StreamsView) → Type 0
TakesAny count old new = (separator : ℕ) (lines : List (List ℕ)) → is_some old.main ≡ true → take count (main_bytes old.main) ≡ lines_of separator lines → All (IsLineOf separator) lines → (world : WorldState) → AreOpen world old → AreSound world old → TakesEach (separator ∷ []) lines world old new

passed_logged : (unwanted : List ℕ → Type 0) (action : Run (Unit {0})) (last : Runtime) (after : WorldState) (r : Result (Unit {0}) Halt) (c place : ℕ) (passed : Passed) (old : Runtime) (specials : Pairs) (steps : ℕ) (streams : StreamsView) (k : WorldState) (p : IsPassed c (main_bytes old.streams.main) place passed)
    → Ignores action unwanted → All unwanted p.lines → old.frames.frames ≡ [] → AreOwn old.names.scalars → str_of (value_of old.specials (name_of Rs)) ≡ c ∷ [] → CountsRecords passed.records (value_of old.specials) (value_of specials) → passed.records < old.steps → steps ≡ old.steps - passed.records
    → TakesEach (c ∷ []) p.lines k old.streams streams → NextAtHand c p.next k streams → ((i : ℕ) → steps ≤ i → SimulatesLogged (left_behind old specials steps streams) k last after r (each_record (suc i) action))
    → (n : ℕ) → old.steps ≤ n → SimulatesLogged old k last after r (each_record (suc n) action)
passed_logged unwanted action last after r c place passed old specials zero streams k p ignores none outside own rs counts few left takes hand goes n low = absurd (omega (arith, left, few))
passed_logged unwanted action last after r c place passed old specials (suc j) streams k p ignores none outside own rs counts few left takes hand goes n low =
    let rs_behind : str_of (value_of specials (name_of Rs)) ≡ c ∷ [] = ap str_of (counts.counted (name_of Rs)) ∙ rs in
    each_passed unwanted action last after r c k ignores streams (value_of specials) (suc j) p.lines old none outside own rs (subst (λ (i : ℕ). CountsRecords i (value_of old.specials) (value_of specials)) p.count counts) (omega (arith, p.count)) takes
    (λ current others same i within. any_before action c j i p.next (left_behind old specials (suc j) streams) k current others rs_behind refl hand same (goes i within)) n low

pub passes_over : {is_logged : Type 0} (unwanted : Unwanted) (passed : Passed) (old : Runtime) (specials : Pairs) (steps : ℕ) (streams : StreamsView) (k : WorldState) → AreOwn old.names.scalars → MayPass unwanted old passed → CountsRecords passed.records (value_of old.specials) (value_of specials) → steps ≡ old.steps - passed.records
    → streams ≡ record old.streams { main = skipped_main passed.bytes old.streams.main } → TakesAny passed.bytes old.streams streams → IsReady is_logged k old.streams → IsReady is_logged k streams
    → PassesOver is_logged (IsUnwanted old.names unwanted) old k (left_behind old specials steps streams)
passes_over unwanted passed old specials steps streams k own may counts left skipped takes ready ready_behind =
    let p = may.passed_in in
    let c : ℕ = may.separator in
    let bytes : List ℕ = main_bytes old.streams.main in
    let none : All (IsUnwanted old.names unwanted) p.lines = passed_unwanted (IsUnwanted old.names unwanted) c may.place bytes passed p may.none_wanted in
    let there : is_some streams.main ≡ true = ap (λ (v : StreamsView). is_some v.main) skipped ∙ (there_still passed.bytes old.streams.main ∙ may.main) in
    let left_bytes : main_bytes streams.main ≡ p.next ++ c ∷ p.rest = ap (λ (v : StreamsView). main_bytes v.main) skipped ∙ (bytes_skipped passed.bytes old.streams.main ∙ p.left) in
    record {
      steps = omega (arith, left);
      names = refl;
      goes_on = λ action ignores last after r goes n low. record {
        steps = let less = (goes steps (omega arith)).steps in omega (arith, left);
        names = (goes steps (omega arith)).names;
        told = λ t. passed_logged (IsUnwanted old.names unwanted) action last after r c may.place passed old specials steps streams k p ignores none may.outside own may.by counts may.steps left
            (takes c p.lines may.main p.taken p.are k ready.are_open (ready.are_sound t))
            (next_at_hand c p.next p.rest k streams there left_bytes p.is_next ready_behind.are_open (ready_behind.are_sound t))
            (λ i within. (goes i within).told t) n low;
      };
    }

-- nothing is passed over
pub passes_none : {is_logged : Type 0} {unwanted : List ℕ → Type 0} (m : Runtime) (k : WorldState) → PassesOver is_logged unwanted m k m
passes_none m k = record { steps = omega arith; names = refl; goes_on = λ action ignores last after r goes n low. goes n low }
