-- What asking a named input for a record does to the state of a run.
use Rattle.std.proofs.Common.{◌≡◌, ◌≢◌, ◌<◌, ◌≤◌, ◌+◌, ◌&&◌, ℕ, Bool, true, false, List, [], ◌∷◌, ◌++◌, length, Option, Some, None, Result, Ok, Err, if◌then◌else◌, inl, inr, refl, sym, ap, ◌∙◌, subst, arith}
use Rattle.std.specs.Prelude.{nat_le, bytes_eq}
use Rattle.std.proofs.lemmas.Bool.{le-leb, lt-leb}
use Rattle.awk_value.specs.Values.{str_of}
use Rattle.awk_record.specs.Cut.{Cut, Found, NoMore, BrokenOff, TooLong, cut_of}
use Rattle.awk_record.specs.Buffer.{Pending}
use Rattle.awk_world.specs.declared.world.InputKind.{InputKind}
use Rattle.awk_world.specs.declared.world.InputKind.TheVariants as input
use Rattle.awk_streams.specs.declared.fault.StreamFault.{StreamFault}
use Rattle.awk_streams.specs.declared.fault.StreamFault.TheVariants.{Memory, WriteFailed, InputNotReadable, OutputNotOpened, TooManyStreams, RecordTooLong}
use Rattle.awk_streams.specs.declared.input.NextNamed.{NextNamed}
use Rattle.awk_streams.specs.declared.input.NextNamed.TheVariants as next
use Rattle.awk_streams.specs.declared.named.NamedStream.{NamedStream}
use Rattle.awk_streams.specs.declared.named.NamedStream.TheVariants as named
use Rattle.awk_streams.specs.WorldState.{WorldState}
use Rattle.awk_streams.specs.Log.{Event, OpenedInput}
use Rattle.awk_streams.specs.Oracle.{Oracle, Source, one_if, same_input_kind}
use Rattle.awk_streams.specs.Openings.{Opening}
use Rattle.awk_streams.specs.Grows.{Grows}
use Rattle.awk_streams.specs.Named as words
use Rattle.awk_streams.specs.MainInput.{input_answer}
use Rattle.awk_streams.specs.Streams.{StreamsView, StandFor, HaveOtherNames, AreOnce, IsMainRest, most_streams, numbered, held_of, BringsIf}
use Rattle.awk_streams.specs.Lost.{AreSpent}
use Rattle.awk_streams.specs.NamedInputs.{FindsInput, IsFullOfInputs, GrantsInput, RefusesInput, OpensInput, NamedTold, IsNamedRest, IsNamedAnswer, AsksNamed, AsksIfOpen, AsksInput}
use Rattle.awk_streams.proofs.GrowsLemmas.{Grows-self}
use Rattle.awk_streams.proofs.NamesLemmas.{input_swap}
use Rattle.awk_streams.proofs.InputCallLemmas.{same_input}
use Rattle.awk_semantics.specs.declared.halt.Halt.TheVariants as halt
use Rattle.awk_semantics.specs.declared.fault.Fault.TheVariants as faults
use Rattle.awk_semantics.specs.State.{Request, OpensInput as AsksForInput, RecordOf, Effect, Requested, State, Out, ◌>>=◌, go_on, lift, ret, ends}
use Rattle.awk_semantics.specs.Primitives.{fault_if}
use Rattle.awk_semantics.specs.Streams.{rest_in, with_rest_of, check_streams, counted, input_granted, ask_input, open_input_unless, open_input, Answer, with_left, named_taken, named_taken_of, take_named, take_if, next_of}
use Rattle.awk_semantics.specs.Meaning.{outputs_after}
use Rattle.awk_semantics.specs.Order.{InputBrought, ReadsFrom, Meets, first_stage}
use Rattle.awk_kinds.specs.declared.special.Special.TheVariants.{Rs}
use Rattle.awk_kinds.specs.Variables.{value_of, name_of}
use Rattle.awk_runtime.specs.declared.runtime.Runtime.{Runtime}
use Rattle.awk_runtime.specs.support.Simulation.{OwnRelation, main_number, stage_of, StreamsRelation, StateRelation, FailureRelation, ResultRelation, SimulatesLogged, Follows, IsReady, Beside, halted}
use Rattle.awk_runtime.specs.support.NamedInputs.{answers_of}
use Rattle.awk_runtime.proofs.Composition.{inside_last, inside_spent, cut_behind, then_logged, ends_logged, callers_stay}
use Rattle.awk_runtime.proofs.Effects.{turn_requested}
use Rattle.awk_runtime.proofs.Steps.{beside_holds}
use Rattle.awk_runtime.proofs.Turns.{own_at, outputs_requested, goes_bringing_if, turn_brought, brought_as, memory_loses, write_loses, as_many, stage_same, stands_same}
use Rattle.awk_runtime.proofs.MainInput.{reads_as_requested}

-- what the definitions do

input_as_found : (kind : InputKind) (name : List ℕ) (s : State) (rest : Source) → rest_in s.streams kind name ≡ Some rest → open_input kind name s ≡ ret true s
unfolding open_input
input_as_found kind name s rest is = ap (λ (o : Option Source). open_input_unless o kind name s) is

input_as_asked : (kind : InputKind) (name : List ℕ) (s : State) (given : Option Source) → rest_in s.streams kind name ≡ None → nat_le most_streams (length s.streams) ≡ false → s.outside.input kind name (s.openings kind name) ≡ given → open_input kind name s ≡ input_granted kind name given s
unfolding open_input check_streams ask_input ◌>>=◌ go_on
input_as_asked kind name s given lacks few is =
    ap (λ (o : Option Source). open_input_unless o kind name s) lacks
    ∙ (ap (λ (full : Bool). go_on (fault_if full faults.TooManyStreams s).result (fault_if full faults.TooManyStreams s).state (fault_if full faults.TooManyStreams s).effects (λ _. ask_input kind name)) few
    ∙ ap (λ (o : Option Source). input_granted kind name o s) is)

input_as_full : (kind : InputKind) (name : List ℕ) (s : State) → rest_in s.streams kind name ≡ None → nat_le most_streams (length s.streams) ≡ true → open_input kind name s ≡ ends (halt.Fault faults.TooManyStreams) s
unfolding open_input check_streams ask_input ◌>>=◌ go_on
input_as_full kind name s lacks full =
    ap (λ (o : Option Source). open_input_unless o kind name s) lacks
    ∙ ap (λ (b : Bool). go_on (fault_if b faults.TooManyStreams s).result (fault_if b faults.TooManyStreams s).state (fault_if b faults.TooManyStreams s).effects (λ _. ask_input kind name)) full

-- a result that is had where nothing is another

ret_comes : {A : Type 0} (oracle : Oracle) (new : Runtime) (after : WorldState) (s : State) (past : List Effect) (a : A) → StateRelation oracle new after s (past ++ []) → ResultRelation oracle new after (Ok a) (ret a s) past
unfolding lift
ret_comes oracle new after s past a stands = (refl, stands)

pub ret_still : {A : Type 0} (a : A) {old new : Runtime} {before after : WorldState} → Beside old new → new.streams ≡ old.streams → after ≡ before → SimulatesLogged old before new after (Ok a) (ret a)
ret_still a {old = old} {new = new} {before = before} {after = after} beside same world = record {
  grows = subst (λ (w : WorldState). Grows before w) (sym world) (Grows-self before);
  means = λ oracle s past consistent stands. ret_comes oracle new after s past a (stands_same oracle s past beside same world stands);
}

-- the input stands open already

input_found : (kind : InputKind) (name : List ℕ) {old new : Runtime} {before after : WorldState} → Beside old new → Grows before after → FindsInput kind name before old.streams after new.streams → SimulatesLogged old before new after (Ok true) (open_input kind name)
input_found kind name {old = old} {new = new} {before = before} {after = after} beside grows f = record {
  grows = grows;
  means = λ oracle s past consistent stands.
      let found = f.found oracle s.streams stands.streams.are.named in
      subst (λ (o : Out Bool). ResultRelation oracle new after (Ok true) o past) (sym (input_as_found kind name s found.0 found.1))
      (ret_comes oracle new after s past true (stands_same oracle s past beside f.same f.world stands));
}

-- it is asked for

input_brought : (kind : InputKind) (oracle : Oracle) (streams : StreamsView) (before : WorldState) (s : State) (past : List Effect) (log : List Event) → StreamsRelation oracle streams before s past → BringsIf (words.is_input_command kind) before streams log → InputBrought kind (outputs_after past) log
input_brought input.Standard oracle streams before s past log stands h = tt
input_brought input.File oracle streams before s past log stands h = tt
input_brought input.Command oracle streams before s past log stands h = brought_as oracle streams before s past log stands h.brought

granted_stands : (oracle : Oracle) (kind : InputKind) (name : List ℕ) (old new : StreamsView) (before after : WorldState) (s : State) (past : List Effect) (source : Source) → new.main ≡ old.main → IsMainRest oracle after.log new.main s.main
    → (g : GrantsInput kind name before old after new) → StandFor oracle after.log new.named (s.streams ++ words.AnInput kind name source ∷ []) → StreamsRelation oracle old before s past
    → StreamsRelation oracle new after (record (counted kind name s) { streams = s.streams ++ words.AnInput kind name source ∷ [] }) (past ++ Requested (AsksForInput kind name) ∷ [])
granted_stands oracle kind name old new before after s past source main rest g named stands = record {
  outside = stands.outside;
  openings = λ k n. ap (λ (i : ℕ). one_if (same_input_kind k kind && bytes_eq n name) + i) (stands.openings k n) ∙ sym (g.asks.counts.inputs k n);
  output_openings = λ k n. stands.output_openings k n ∙ sym (g.asks.counts.outputs k n);
  closings = stands.closings ∙ sym g.asks.counts.closings;
  runs = stands.runs ∙ sym g.asks.counts.runs;
  outputs = stands.outputs ∙ sym (ap (λ (os : List Opening). length os) (outputs_requested past (AsksForInput kind name)));
  are = record { main = rest; named = named };
  printed = g.asks.printed ∙ (stands.printed ∙ sym (outputs_requested past (AsksForInput kind name)));
  turn = turn_brought oracle past (AsksForInput kind name) first_stage (stage_of before.log old) (stage_of g.asks.log old) (stage_of after.log new) stands.turn (goes_bringing_if (words.is_input_command kind) before old g.asks.log g.asks.brings)
      (input_brought kind oracle old before s past g.asks.log stands g.asks.brings, (Some g.id, stage_same after.log (OpenedInput kind name (Some g.id) ∷ g.asks.log) (main_number new.main) (main_number old.main) (numbered new.named) (numbered old.named ++ (words.Input kind name, g.id) ∷ []) g.asks.adds (ap main_number main) g.numbers));
}

refused_stands : (oracle : Oracle) (kind : InputKind) (name : List ℕ) (old new : StreamsView) (before after : WorldState) (s : State) (past : List Effect) → new.main ≡ old.main → IsMainRest oracle after.log new.main s.main
    → (g : RefusesInput kind name before old after new) → StreamsRelation oracle old before s past
    → StreamsRelation oracle new after (counted kind name s) (past ++ Requested (AsksForInput kind name) ∷ [])
refused_stands oracle kind name old new before after s past main rest g stands = record {
  outside = stands.outside;
  openings = λ k n. ap (λ (i : ℕ). one_if (same_input_kind k kind && bytes_eq n name) + i) (stands.openings k n) ∙ sym (g.asks.counts.inputs k n);
  output_openings = λ k n. stands.output_openings k n ∙ sym (g.asks.counts.outputs k n);
  closings = stands.closings ∙ sym g.asks.counts.closings;
  runs = stands.runs ∙ sym g.asks.counts.runs;
  outputs = stands.outputs ∙ sym (ap (λ (os : List Opening). length os) (outputs_requested past (AsksForInput kind name)));
  are = record { main = rest; named = g.named oracle s.streams stands.are.named };
  printed = g.asks.printed ∙ (stands.printed ∙ sym (outputs_requested past (AsksForInput kind name)));
  turn = turn_brought oracle past (AsksForInput kind name) first_stage (stage_of before.log old) (stage_of g.asks.log old) (stage_of after.log new) stands.turn (goes_bringing_if (words.is_input_command kind) before old g.asks.log g.asks.brings)
      (input_brought kind oracle old before s past g.asks.log stands g.asks.brings, (None, stage_same after.log (OpenedInput kind name None ∷ g.asks.log) (main_number new.main) (main_number old.main) (numbered new.named) (numbered old.named) g.asks.adds (ap main_number main) g.numbers));
}

-- what the outside answers the definitions
as_answered : (oracle : Oracle) (kind : InputKind) (name : List ℕ) (streams : StreamsView) (k : WorldState) (s : State) (past : List Effect) (given : Option Source) → StreamsRelation oracle streams k s past → input_answer oracle kind name k.log ≡ given → s.outside.input kind name (s.openings kind name) ≡ given
as_answered oracle kind name streams k s past given stands is = ap (λ (a : Oracle). a.input kind name (s.openings kind name)) stands.outside ∙ (ap (λ (i : ℕ). oracle.input kind name i) (stands.openings kind name) ∙ is)

few_stand : (oracle : Oracle) (log : List Event) (xs : List NamedStream) (ys : List words.Stream) → StandFor oracle log xs ys → length xs < most_streams → nat_le most_streams (length ys) ≡ false
few_stand oracle log xs ys h few = lt-leb most_streams (length ys) (let same : length xs ≡ length ys = as_many oracle log xs ys h in omega arith)

many_stand : (oracle : Oracle) (log : List Event) (xs : List NamedStream) (ys : List words.Stream) → StandFor oracle log xs ys → most_streams ≤ length xs → nat_le most_streams (length ys) ≡ true
many_stand oracle log xs ys h many = le-leb most_streams (length ys) (let same : length xs ≡ length ys = as_many oracle log xs ys h in omega arith)

input_made : (kind : InputKind) (name : List ℕ) {old new : Runtime} {before after : WorldState} → Beside old new → (told : OpensInput kind name before old.streams (Ok true) after new.streams) → GrantsInput kind name before old.streams after new.streams → SimulatesLogged old before new after (Ok true) (open_input kind name)
input_made kind name {old = old} {new = new} {before = before} {after = after} beside told g = record {
  grows = told.grows;
  means = λ oracle s past consistent stands.
      let given = g.named oracle s.streams consistent stands.streams.are.named in
      subst (λ (o : Out Bool). ResultRelation oracle new after (Ok true) o past)
      (sym (input_as_asked kind name s (Some given.0) (g.asks.lacks oracle s.streams stands.streams.are.named) (few_stand oracle before.log old.streams.named s.streams stands.streams.are.named g.asks.few) (as_answered oracle kind name old.streams before s past (Some given.0) stands.streams given.1))) (
        refl,
        record {
          clear = told.failure ∙ stands.clear;
          streams = granted_stands oracle kind name old.streams new.streams before after s past given.0 told.main (told.main_rest oracle s.main stands.streams.are.main) g given.2 stands.streams;
          holds = own_at new s _ s.output_openings s.outputs s.closings s.runs s.main _ (beside_holds beside stands.holds);
        },
      );
}

input_refused : (kind : InputKind) (name : List ℕ) {old new : Runtime} {before after : WorldState} → Beside old new → (told : OpensInput kind name before old.streams (Ok false) after new.streams) → RefusesInput kind name before old.streams after new.streams → SimulatesLogged old before new after (Ok false) (open_input kind name)
input_refused kind name {old = old} {new = new} {before = before} {after = after} beside told g = record {
  grows = told.grows;
  means = λ oracle s past consistent stands.
      subst (λ (o : Out Bool). ResultRelation oracle new after (Ok false) o past)
      (sym (input_as_asked kind name s None (g.asks.lacks oracle s.streams stands.streams.are.named) (few_stand oracle before.log old.streams.named s.streams stands.streams.are.named g.asks.few) (as_answered oracle kind name old.streams before s past None stands.streams (g.refused oracle consistent)))) (
        refl,
        record {
          clear = told.failure ∙ stands.clear;
          streams = refused_stands oracle kind name old.streams new.streams before after s past told.main (told.main_rest oracle s.main stands.streams.are.main) g stands.streams;
          holds = own_at new s _ s.output_openings s.outputs s.closings s.runs s.main s.streams (beside_holds beside stands.holds);
        },
      );
}

input_full : (kind : InputKind) (name : List ℕ) {old new : Runtime} {before after : WorldState} → Beside old new → Grows before after → IsFullOfInputs kind name before old.streams after new.streams → SimulatesLogged old before new after (Err (halt.Fault faults.TooManyStreams)) (open_input kind name)
input_full kind name {old = old} {new = new} {before = before} {after = after} beside grows g = record {
  grows = grows;
  means = λ oracle s past consistent stands.
      subst (λ (o : Out Bool). ResultRelation oracle new after (Err (halt.Fault faults.TooManyStreams)) o past)
      (sym (input_as_full kind name s (g.lacks oracle s.streams stands.streams.are.named) (many_stand oracle before.log old.streams.named s.streams stands.streams.are.named g.full)))
      (refl, stands_same oracle s past beside g.same g.world stands);
}

input_told : (kind : InputKind) (name : List ℕ) (r : Result Bool StreamFault) {old new : Runtime} {before after : WorldState} → Beside old new → OpensInput kind name before old.streams r after new.streams → SimulatesLogged old before new after (halted r) (open_input kind name)
input_told kind name (Ok true) beside told = elim told.opened [ inl f ↦ input_found kind name beside told.grows f | inr g ↦ input_made kind name beside told g ]
input_told kind name (Ok false) beside told = input_refused kind name beside told told.opened
input_told kind name (Err TooManyStreams) beside told = input_full kind name beside told.grows told.opened
input_told kind name (Err Memory) beside told = memory_loses (open_input kind name) told.grows told.opened told.failure
input_told kind name (Err WriteFailed) beside told = write_loses (open_input kind name) told.grows told.opened told.failure
input_told kind name (Err InputNotReadable) beside told = absurd told.opened
input_told kind name (Err OutputNotOpened) beside told = absurd told.opened
input_told kind name (Err RecordTooLong) beside told = absurd told.opened

-- streams of which none is this input, or one alone whose rest is this already, are the same with this rest

unmatched : (a : Oracle) (log : List Event) (kind : InputKind) (name : List ℕ) (whole : Source) (xs : List NamedStream) (ys : List words.Stream) → HaveOtherNames (words.Input kind name) xs → StandFor a log xs (with_rest_of kind name whole ys) → with_rest_of kind name whole ys ≡ ys
unmatched a log kind name whole [] [] others h = refl
unmatched a log kind name whole [] (words.AnInput k n rest ∷ ys) others h = absurd h
unmatched a log kind name whole [] (words.AnOutput k n opening ∷ ys) others h = absurd h
unmatched a log kind name whole (x ∷ xs) [] others h = absurd h
unmatched a log kind name whole (named.Input k' n' i ∷ xs) (words.AnInput k n rest ∷ ys) others h =
    let other : (same_input_kind k kind && bytes_eq n name) ≡ false = ap (λ j. same_input_kind j kind && bytes_eq n name) h.0.0 ∙ (ap (λ m. same_input_kind k' kind && bytes_eq m name) h.0.1 ∙ (input_swap k' kind n' name ∙ others.0)) in
    ap (λ (b : Bool). words.AnInput k n (if b then whole else rest) ∷ with_rest_of kind name whole ys) other ∙ ap (λ (l : List words.Stream). words.AnInput k n rest ∷ l) (unmatched a log kind name whole xs ys others.1 h.1)
unmatched a log kind name whole (named.Output k' n' o ∷ xs) (words.AnInput k n rest ∷ ys) others h = absurd h.0
unmatched a log kind name whole (named.Input k' n' i ∷ xs) (words.AnOutput k n opening ∷ ys) others h = absurd h.0
unmatched a log kind name whole (named.Output k' n' o ∷ xs) (words.AnOutput k n opening ∷ ys) others h = ap (λ (l : List words.Stream). words.AnOutput k n opening ∷ l) (unmatched a log kind name whole xs ys others.1 h.1)

-- which of the two the first is
kept_by : (b : Bool) (kind : InputKind) (name : List ℕ) (whole rest : Source) (k : InputKind) (n : List ℕ) (ys : List words.Stream) → (same_input_kind k kind && bytes_eq n name) ≡ b → (if b then Some rest else rest_in ys kind name) ≡ Some whole
    → ((same_input_kind k kind && bytes_eq n name) ≡ true → with_rest_of kind name whole ys ≡ ys) → (rest_in ys kind name ≡ Some whole → with_rest_of kind name whole ys ≡ ys)
    → words.AnInput k n (if b then whole else rest) ∷ with_rest_of kind name whole ys ≡ words.AnInput k n rest ∷ ys
kept_by true kind name whole rest k n ys is found here there =
    let same : whole ≡ rest = cc in
    ap (λ (x : Source). words.AnInput k n x ∷ with_rest_of kind name whole ys) same ∙ ap (λ (l : List words.Stream). words.AnInput k n rest ∷ l) (here is)
kept_by false kind name whole rest k n ys is found here there = ap (λ (l : List words.Stream). words.AnInput k n rest ∷ l) (there found)

others_named : (kind : InputKind) (name : List ℕ) (k k' : InputKind) (n n' : List ℕ) (xs : List NamedStream) → (same_input_kind k kind && bytes_eq n name) ≡ true → k ≡ k' → n ≡ n' → HaveOtherNames (words.Input k' n') xs → HaveOtherNames (words.Input kind name) xs
others_named kind name k k' n n' xs same e f others =
    let is = same_input k kind n name same in
    subst (λ (m : List ℕ). HaveOtherNames (words.Input kind m) xs) (sym f ∙ is.1) (subst (λ (j : InputKind). HaveOtherNames (words.Input j n') xs) (sym e ∙ is.0) others)

kept_rest : (a : Oracle) (log : List Event) (kind : InputKind) (name : List ℕ) (whole : Source) (xs : List NamedStream) (ys : List words.Stream) → AreOnce xs → StandFor a log xs (with_rest_of kind name whole ys) → rest_in ys kind name ≡ Some whole → with_rest_of kind name whole ys ≡ ys
kept_rest a log kind name whole xs [] once h found = refl
kept_rest a log kind name whole [] (words.AnInput k n rest ∷ ys) once h found = absurd h
kept_rest a log kind name whole [] (words.AnOutput k n opening ∷ ys) once h found = absurd h
kept_rest a log kind name whole (named.Input k' n' i ∷ xs) (words.AnInput k n rest ∷ ys) once h found =
    kept_by (same_input_kind k kind && bytes_eq n name) kind name whole rest k n ys refl found
    (λ same. unmatched a log kind name whole xs ys (others_named kind name k k' n n' xs same h.0.0 h.0.1 once.0) h.1)
    (λ more. kept_rest a log kind name whole xs ys once.1 h.1 more)
kept_rest a log kind name whole (named.Output k' n' o ∷ xs) (words.AnInput k n rest ∷ ys) once h found = absurd h.0
kept_rest a log kind name whole (named.Input k' n' i ∷ xs) (words.AnOutput k n opening ∷ ys) once h found = absurd h.0
kept_rest a log kind name whole (named.Output k' n' o ∷ xs) (words.AnOutput k n opening ∷ ys) once h found = ap (λ (l : List words.Stream). words.AnOutput k n opening ∷ l) (kept_rest a log kind name whole xs ys once.1 h.1 found)

-- the input is asked for a record

named_meets : (oracle : Oracle) (kind : InputKind) (name separator : List ℕ) (r : Result NextNamed StreamFault) (os : List Opening) (streams : List words.Stream) (before after : WorldState) (old new : StreamsView) → (told : AsksNamed kind name separator before old r after new)
    → (x : IsNamedRest kind name told.id told.pending oracle streams before.log) → Meets oracle (RecordOf kind name separator x.whole.bytes) os (stage_of before.log old) (stage_of after.log new)
named_meets oracle kind name separator r os streams before after old new told x = (
  subst (λ (id : Option ℕ). ReadsFrom oracle separator x.whole.bytes id before.log after.log) (sym told.number) (reads_as_requested oracle separator x.whole.bytes told.id x.source told.pending told.reads.0 before.log after.log x.rest told.reads.1 told.readable),
  stage_same after.log after.log (main_number new.main) (main_number old.main) (numbered new.named) (numbered old.named) refl (ap main_number told.main) told.numbers,
)

abbrev rest_of_answer : {kind : InputKind} {name separator : List ℕ} {id : ℕ} {pending : Pending} {oracle : Oracle} {main : Option Source} {streams : List words.Stream} {before after : WorldState} {r : Result NextNamed StreamFault} {new : StreamsView} → IsNamedAnswer kind name separator id pending oracle main streams before r after new
    → IsNamedRest kind name id pending oracle streams before.log
rest_of_answer x = record { whole = x.whole; is = x.is; source = x.source; ending = x.ending; rest = x.rest }

named_stands : (oracle : Oracle) (kind : InputKind) (name separator : List ℕ) (r : Result NextNamed StreamFault) (old new : StreamsView) (before after : WorldState) (s : State) (past : List Effect) → (told : AsksNamed kind name separator before old r after new)
    → (x : IsNamedAnswer kind name separator told.id told.pending oracle s.main s.streams before r after new) → StreamsRelation oracle old before s past
    → StreamsRelation oracle new after (with_left kind name x.left x.whole.ending s) (past ++ Requested (RecordOf kind name separator x.whole.bytes) ∷ [])
named_stands oracle kind name separator r old new before after s past told x stands = record {
  outside = stands.outside;
  openings = λ k n. stands.openings k n ∙ sym (told.counts.inputs k n);
  output_openings = λ k n. stands.output_openings k n ∙ sym (told.counts.outputs k n);
  closings = stands.closings ∙ sym told.counts.closings;
  runs = stands.runs ∙ sym told.counts.runs;
  outputs = stands.outputs ∙ sym (ap (λ (os : List Opening). length os) (outputs_requested past (RecordOf kind name separator x.whole.bytes)));
  are = x.leaves;
  printed = told.printed ∙ (stands.printed ∙ sym (outputs_requested past (RecordOf kind name separator x.whole.bytes)));
  turn = turn_requested oracle past (RecordOf kind name separator x.whole.bytes) first_stage (stage_of before.log old) (stage_of after.log new) stands.turn (named_meets oracle kind name separator r (outputs_after past) s.streams before after old new told (rest_of_answer x));
}

-- what is taken of a rest, by its cut and what the streams told of it
named_comes : (c : Cut) (oracle : Oracle) (new : Runtime) (after : WorldState) (r : Result NextNamed StreamFault) (kind : InputKind) (name separator : List ℕ) (whole : Source) (left : List ℕ) (s : State) (past : List Effect)
    → NamedTold c r whole.bytes left → StateRelation oracle new after (with_left kind name left whole.ending s) (past ++ Requested (RecordOf kind name separator whole.bytes) ∷ [])
    → (left ≡ whole.bytes → with_rest_of kind name whole s.streams ≡ s.streams)
    → ResultRelation oracle new after (answers_of (halted r)) (named_taken c kind name separator whole s) past
named_comes (Found first rest) oracle new after r kind name separator whole left s past told stands keeps =
    subst (λ x. ResultRelation oracle new after (answers_of (halted x)) (named_taken (Found first rest) kind name separator whole s) past) (sym told.0)
    (refl, subst (λ l. StateRelation oracle new after (with_left kind name l whole.ending s) (past ++ Requested (RecordOf kind name separator whole.bytes) ∷ [])) told.1 stands)
named_comes NoMore oracle new after r kind name separator whole left s past told stands keeps =
    subst (λ x. ResultRelation oracle new after (answers_of (halted x)) (named_taken NoMore kind name separator whole s) past) (sym told.0)
    (refl, subst (λ l. StateRelation oracle new after (with_left kind name l whole.ending s) (past ++ Requested (RecordOf kind name separator whole.bytes) ∷ [])) told.1 stands)
named_comes BrokenOff oracle new after r kind name separator whole left s past told stands keeps =
    subst (λ x. ResultRelation oracle new after (answers_of (halted x)) (named_taken BrokenOff kind name separator whole s) past) (sym told.0)
    (refl, subst (λ l. StateRelation oracle new after (with_left kind name l whole.ending s) (past ++ Requested (RecordOf kind name separator whole.bytes) ∷ [])) told.1 stands)
named_comes TooLong oracle new after r kind name separator whole left s past told stands keeps =
    subst (λ x. ResultRelation oracle new after (answers_of (halted x)) (named_taken TooLong kind name separator whole s) past) (sym told.0) (
      refl,
      subst (λ (xs : List words.Stream). StateRelation oracle new after (record s { streams = xs }) (past ++ Requested (RecordOf kind name separator whole.bytes) ∷ [])) (keeps told.1)
          (subst (λ l. StateRelation oracle new after (with_left kind name l whole.ending s) (past ++ Requested (RecordOf kind name separator whole.bytes) ∷ [])) told.1 stands),
    )

-- what the definitions take, by the code's RS
named_as : (kind : InputKind) (name : List ℕ) (m : Runtime) (s : State) (whole : Source) → OwnRelation m s → rest_in s.streams kind name ≡ Some whole → take_named kind name s ≡ named_taken_of (Some whole) kind name (str_of (value_of m.specials (name_of Rs))) s
unfolding take_named
named_as kind name m s whole h is = ap (λ (o : Option Source). named_taken_of o kind name (str_of (s.variables (name_of Rs))) s) is ∙ ap (λ v. named_taken_of (Some whole) kind name (str_of v) s) (h.specials Rs)

named_logged : (kind : InputKind) (name separator : List ℕ) (r : Result NextNamed StreamFault) {old new : Runtime} {before after : WorldState} → separator ≡ str_of (value_of old.specials (name_of Rs)) → Beside old new → AreOnce new.streams.named → r ≢ Err Memory → (after.failures ≡ before.failures)
    → AsksNamed kind name separator before old.streams r after new.streams → SimulatesLogged old before new after (answers_of (halted r)) (take_named kind name)
named_logged kind name separator r {old = old} {new = new} {before = before} {after = after} rs beside once kept no_failure told = record {
  grows = told.grows;
  means = λ oracle s past consistent stands.
      let x = told.answered kept oracle s.main s.streams consistent stands.streams.are in
      subst (λ (o : Out Answer). ResultRelation oracle new after (answers_of (halted r)) o past) (ap (λ l. named_taken_of (Some x.whole) kind name l s) rs ∙ sym (named_as kind name old s x.whole stands.holds x.is))
      (named_comes (cut_of separator x.whole.bytes x.whole.ending) oracle new after r kind name separator x.whole x.left s past x.told (record {
        clear = no_failure ∙ stands.clear;
        streams = named_stands oracle kind name separator r old.streams new.streams before after s past told x stands.streams;
        holds = own_at new s s.openings s.output_openings s.outputs s.closings s.runs s.main _ (beside_holds beside stands.holds);
      }) (λ same. kept_rest oracle after.log kind name x.whole new.streams.named s.streams once (subst (λ (l : List ℕ). StandFor oracle after.log new.streams.named (with_rest_of kind name (record { bytes = l; ending = x.whole.ending }) s.streams)) same x.leaves.named) x.is));
}

-- what is asked for where some is left
named_taken_asks : (c : Cut) (kind : InputKind) (name separator : List ℕ) (whole : Source) (s : State) → (named_taken c kind name separator whole s).effects ≡ Requested (RecordOf kind name separator whole.bytes) ∷ []
named_taken_asks (Found first rest) kind name separator whole s = refl
named_taken_asks NoMore kind name separator whole s = refl
named_taken_asks BrokenOff kind name separator whole s = refl
named_taken_asks TooLong kind name separator whole s = refl

named_asks : (kind : InputKind) (name separator : List ℕ) (m : Runtime) (s : State) (whole : Source) → separator ≡ str_of (value_of m.specials (name_of Rs)) → OwnRelation m s → rest_in s.streams kind name ≡ Some whole → (take_named kind name s).effects ≡ Requested (RecordOf kind name separator whole.bytes) ∷ []
named_asks kind name separator m s whole rs h is =
    ap (λ (o : Out Answer). o.effects) (named_as kind name m s whole h is)
    ∙ (ap (λ (l : List ℕ). (named_taken_of (Some whole) kind name l s).effects) (sym rs) ∙ named_taken_asks (cut_of separator whole.bytes whole.ending) kind name separator whole s)

-- a failure behind what was read for it
named_cut : {failure : Type 0} (kind : InputKind) (name separator : List ℕ) (r : Result NextNamed StreamFault) (oracle : Oracle) (old new : Runtime) {before after : WorldState} (s : State) (past : List Effect) → separator ≡ str_of (value_of old.specials (name_of Rs))
    → AsksNamed kind name separator before old.streams r after new.streams → StateRelation oracle old before s past → AreSpent after.failures (held_of new.streams) → failure → FailureRelation oracle failure new.streams after (past ++ (take_named kind name s).effects)
named_cut {failure = failure} kind name separator r oracle old new {before = before} {after = after} s past rs told stands spent failed =
    let x = told.asked oracle s.streams stands.streams.are.named in
    let what : Request = RecordOf kind name separator x.whole.bytes in
    subst (λ (l : List Effect). FailureRelation oracle failure new.streams after (past ++ l)) (sym (named_asks kind name separator old s x.whole rs stands.holds x.is))
    (cut_behind oracle new.streams after (past ++ Requested what ∷ []) (stage_of after.log new.streams) refl
    (turn_requested oracle past what first_stage (stage_of before.log old.streams) (stage_of after.log new.streams) stands.streams.turn (named_meets oracle kind name separator r (outputs_after past) s.streams before after old.streams new.streams told x))
    (told.printed ∙ (stands.streams.printed ∙ sym (outputs_requested past what))) spent failed)

-- asking writes nothing
never_written : (c : Cut) (whole left : List ℕ) → NamedTold c (Err WriteFailed) whole left → ⊥
never_written (Found first rest) whole left told = let e : Err WriteFailed ≡ Ok (next.Record first) = told.0 in absurd (cc)
never_written NoMore whole left told = let e : Err WriteFailed ≡ Ok next.End = told.0 in absurd (cc)
never_written BrokenOff whole left told = let e : Err WriteFailed ≡ Ok next.NotReadable = told.0 in absurd (cc)
never_written TooLong whole left told = let e : Err WriteFailed ≡ Err RecordTooLong = told.0 in absurd (cc)

named_by : (kind : InputKind) (name separator : List ℕ) (r : Result NextNamed StreamFault) {old new : Runtime} {before after : WorldState} → separator ≡ str_of (value_of old.specials (name_of Rs)) → Beside old new → AreOnce new.streams.named
    → AsksNamed kind name separator before old.streams r after new.streams → SimulatesLogged old before new after (answers_of (halted r)) (take_named kind name)
named_by kind name separator (Ok x) rs beside once told = named_logged kind name separator (Ok x) rs beside once (λ (e : Ok x ≡ Err Memory). absurd (cc)) told.failure told
named_by kind name separator (Err Memory) {old = old} {new = new} {before = before} {after = after} rs beside once told = record {
  grows = told.grows;
  means = λ oracle s past consistent stands. named_cut kind name separator (Err Memory) oracle old new s past rs told stands (inside_spent before after (held_of new.streams) stands.clear told.failure) (inside_last before after stands.clear told.failure);
}
named_by kind name separator (Err WriteFailed) rs beside once told = record {
  grows = told.grows;
  means = λ oracle s past consistent stands. let x = told.answered (λ (e : Err WriteFailed ≡ Err Memory). absurd (cc)) oracle s.main s.streams consistent stands.streams.are in absurd (never_written (cut_of separator x.whole.bytes x.whole.ending) x.whole.bytes x.left x.told);
}
named_by kind name separator (Err InputNotReadable) rs beside once told = named_logged kind name separator (Err InputNotReadable) rs beside once (λ (e : Err InputNotReadable ≡ Err Memory). absurd (cc)) told.failure told
named_by kind name separator (Err OutputNotOpened) rs beside once told = named_logged kind name separator (Err OutputNotOpened) rs beside once (λ (e : Err OutputNotOpened ≡ Err Memory). absurd (cc)) told.failure told
named_by kind name separator (Err TooManyStreams) rs beside once told = named_logged kind name separator (Err TooManyStreams) rs beside once (λ (e : Err TooManyStreams ≡ Err Memory). absurd (cc)) told.failure told
named_by kind name separator (Err RecordTooLong) rs beside once told = named_logged kind name separator (Err RecordTooLong) rs beside once (λ (e : Err RecordTooLong ≡ Err Memory). absurd (cc)) told.failure told

-- the one behind the other

-- the state where the input was opened and not yet asked
abbrev pub between : Runtime → StreamsView → Runtime
between m streams = record m { streams = streams }

pub beside_between : (m : Runtime) (streams : StreamsView) → Beside m (between m streams)
beside_between m streams = record { names = refl; current = refl; specials = refl; globals = refl; arrays = refl; frames = refl; next = refl; input_seen = refl; inside = refl; status = refl; steps = refl }

pub between_beside : (m : Runtime) (streams : StreamsView) (new : Runtime) → Beside m new → Beside (between m streams) new
between_beside m streams new h = record { names = h.names; current = h.current; specials = h.specials; globals = h.globals; arrays = h.arrays; frames = h.frames; next = h.next; input_seen = h.input_seen; inside = h.inside; status = h.status; steps = h.steps }

next_by : (kind : InputKind) (name separator : List ℕ) (r : Result NextNamed StreamFault) (is_open : Result Bool StreamFault) (world : WorldState) (streams : StreamsView) {old new : Runtime} {before after : WorldState} → separator ≡ str_of (value_of old.specials (name_of Rs)) → Beside old new → AreOnce new.streams.named
    → OpensInput kind name before old.streams is_open world streams → AsksIfOpen is_open kind name separator world streams r after new.streams
    → SimulatesLogged old before new after (answers_of (halted r)) (next_of kind name)
unfolding next_of
next_by kind name separator r (Ok true) world streams {old = old} {new = new} rs beside once opens asks =
    then_logged {mid = between old streams} (λ is_open. take_if is_open kind name) (input_told kind name (Ok true) (beside_between old streams) opens) (named_by kind name separator r rs (between_beside old streams new beside) once asks)
next_by kind name separator r (Ok false) world streams {old = old} {new = new} {before = before} {after = after} rs beside once opens asks =
    subst (λ (x : Result NextNamed StreamFault). SimulatesLogged old before new after (answers_of (halted x)) (open_input kind name >>= λ is_open. take_if is_open kind name)) (sym asks.0)
    (then_logged {mid = between old streams} (λ is_open. take_if is_open kind name) (input_told kind name (Ok false) (beside_between old streams) opens) (ret_still _ (between_beside old streams new beside) asks.2 asks.1))
next_by kind name separator r (Err fault) world streams {old = old} {new = new} {before = before} {after = after} rs beside once opens asks =
    subst (λ (x : Result NextNamed StreamFault). SimulatesLogged old before new after (answers_of (halted x)) (open_input kind name >>= λ is_open. take_if is_open kind name)) (sym asks.0)
    (ends_logged (λ is_open. take_if is_open kind name) (input_told kind name (Err fault) beside
    (subst (λ (w : WorldState). OpensInput kind name before old.streams (Err fault) w new.streams) (sym asks.1) (subst (λ (v : StreamsView). OpensInput kind name before old.streams (Err fault) world v) (sym asks.2) opens))))

pub next_follows : {is_logged : Type 0} (kind : InputKind) (name text separator : List ℕ) (r : Result NextNamed StreamFault) {old new : Runtime} {before after : WorldState} → text ≡ name → separator ≡ str_of (value_of old.specials (name_of Rs)) → Beside old new → IsReady is_logged after new.streams
    → (is_logged → AsksInput kind text separator before old.streams r after new.streams) → Follows is_logged (next_of kind name) old before new after (answers_of (halted r))
next_follows {is_logged = is_logged} kind name text separator r {old = old} {new = new} {before = before} {after = after} named rs beside ready told =
    subst (λ (l : List ℕ). Follows is_logged (next_of kind l) old before new after (answers_of (halted r))) named (record {
      simulates = record {
        steps = omega (arith, beside.steps);
        names = beside.names;
        told = λ t. next_by kind text separator r (told t).is_open (told t).world (told t).streams rs beside (ready.are_sound t).once (told t).opens (told t).asks;
      };
      callers = callers_stay beside.frames;
    })
