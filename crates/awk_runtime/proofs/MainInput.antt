-- What the calls of the streams for the main input do to the state of a run.
use Rattle.std.proofs.Common.{◌≡◌, ◌≢◌, ℕ, ℤ, ◌+◌, true, false, ◌&&◌, List, [], ◌∷◌, ◌++◌, length, Option, Some, None, is_some, Result, Ok, Err, IfErr, ◌⊎◌, inl, inr, refl, sym, ap, ◌∙◌, subst, append-nil, arith}
use Rattle.std.specs.Prelude.{bytes_eq, IsTrue, IfSome, IfNone}
use Rattle.awk_value.specs.Values.{str_of}
use Rattle.awk_record.specs.Cut.{Cut, Found, NoMore, BrokenOff, TooLong, cut_of}
use Rattle.awk_record.specs.Buffer.{Pending}
use Rattle.awk_world.specs.declared.world.InputKind.{InputKind}
use Rattle.awk_streams.specs.declared.fault.StreamFault.{StreamFault}
use Rattle.awk_streams.specs.declared.fault.StreamFault.TheVariants.{Memory, WriteFailed, InputNotReadable, OutputNotOpened, TooManyStreams, RecordTooLong}
use Rattle.awk_streams.specs.declared.input.Input.{Input}
use Rattle.awk_streams.specs.Log.{Event, OpenedInput, Closed, logged}
use Rattle.awk_streams.specs.WorldState.{WorldState}
use Rattle.awk_streams.specs.Oracle.{Oracle, Source, IsConsistent, one_if, same_input_kind, how_many, opens_input}
use Rattle.awk_streams.specs.Orderly.{IsReadable}
use Rattle.awk_streams.specs.Openings.{Opening}
use Rattle.awk_streams.specs.Inputs.{Reaches, Rest, NextTold, IsInputFault}
use Rattle.awk_streams.specs.Streams.{StreamsView, AreOpen, AreSound, IsMainRest, IsSameMain, IsFreshMain, numbered, held_of}
use Rattle.awk_streams.specs.Lost.{AreSpent}
use Rattle.awk_streams.specs.MainInput.{main_opening, OpensMain, ReadsMain, AsksMain, closed_main, EndsMain}
use Rattle.awk_streams.proofs.GrowsLemmas.{Grows-self}
use Rattle.awk_semantics.specs.declared.halt.Halt.TheVariants as halt
use Rattle.awk_semantics.specs.declared.fault.Fault.TheVariants as faults
use Rattle.awk_semantics.specs.State.{Request, OpensMain as AsksForMain, RecordOfMain, Effect, Requested, State, Out, lift}
use Rattle.awk_semantics.specs.Streams.{counted, opened, open_main, with_rest, taken, taken_of, take_record, close_main}
use Rattle.awk_semantics.specs.Meaning.{outputs_after}
use Rattle.awk_semantics.specs.Order.{GoesBetween, ReadsAsRequested, ReadsFrom, Meets, first_stage}
use Rattle.awk_kinds.specs.declared.special.Special.TheVariants.{Rs}
use Rattle.awk_kinds.specs.Variables.{value_of, name_of}
use Rattle.awk_runtime.specs.declared.runtime.Runtime.{Runtime}
use Rattle.awk_runtime.specs.support.Simulation.{OwnRelation, main_number, stage_of, StreamsRelation, StateRelation, FailureRelation, ResultRelation, SimulatesLogged, Simulates, IsReady, Follows, Beside, halted}
use Rattle.awk_runtime.proofs.Composition.{inside_last, inside_spent, cut_off, cut_behind, callers_stay}
use Rattle.awk_runtime.proofs.Effects.{turn_between, turn_requested}
use Rattle.awk_runtime.proofs.Steps.{beside_holds}
use Rattle.awk_runtime.proofs.Turns.{own_at, outputs_requested, stage_same}

-- a state whose main input alone is another stands for the same
at_main : (m : Runtime) (s : State) (openings : InputKind → List ℕ → ℕ) (main : Option Source) → OwnRelation m s → OwnRelation m (record s { openings = openings; main = main })
at_main m s openings main h = own_at m s openings s.output_openings s.outputs s.closings s.runs main s.streams h

same_numbers : (old new : StreamsView) (main : Option Input) → new ≡ record old { main = main } → numbered new.named ≡ numbered old.named
same_numbers old new main same = ap (λ (v : StreamsView). numbered v.named) same

-- opening the main input

abbrev pub IsOpeningFault : StreamFault → Type 0
IsOpeningFault e = (e ≡ Memory) ⊎ (e ≡ InputNotReadable)

pub fresh_some : (o : Option Input) → IsFreshMain o → is_some o ≡ true
fresh_some o fresh = ap is_some fresh.1

no_rest : (a : Oracle) (l : List Event) (rest : Option Source) → IsMainRest a l None rest → rest ≡ None
no_rest a l None stands = refl
no_rest a l (Some source) stands = absurd stands

-- an opening that the streams tell is the one that is requested
opening_meets : (oracle : Oracle) (kind : InputKind) (path : List ℕ) (os : List Opening) (before after : WorldState) (old new : StreamsView) (id : Option ℕ) → old.main ≡ None → main_number new.main ≡ id
    → after.log ≡ OpenedInput kind path id ∷ before.log → new ≡ record old { main = new.main } → Meets oracle (AsksForMain kind path) os (stage_of before.log old) (stage_of after.log new)
opening_meets oracle kind path os before after old new id none number is same =
    (ap main_number none, (id, stage_same after.log (OpenedInput kind path id ∷ before.log) (main_number new.main) id (numbered new.named) (numbered old.named) is number (same_numbers old new new.main same)))

opens_stands : (oracle : Oracle) (r : Result (Unit {0}) StreamFault) (kind : InputKind) (path : List ℕ) (old new : StreamsView) (before after : WorldState) (s : State) (rest : Option Source) (past : List Effect) → OpensMain kind path before old r after new → r ≢ Err Memory
    → IsMainRest oracle after.log new.main rest
    → Meets oracle (AsksForMain kind path) (outputs_after past) (stage_of before.log old) (stage_of after.log new)
    → StreamsRelation oracle old before s past → StreamsRelation oracle new after (record (counted kind path s) { main = rest }) (past ++ Requested (AsksForMain kind path) ∷ [])
opens_stands oracle r kind path old new before after s rest past told granted main meets stands = record {
  outside = stands.outside;
  openings = λ k name. ap (λ (n : ℕ). one_if (same_input_kind k kind && bytes_eq name path) + n) (stands.openings k name) ∙ sym ((told.counts granted).inputs k name);
  output_openings = λ k name. stands.output_openings k name ∙ sym ((told.counts granted).outputs k name);
  closings = stands.closings ∙ sym (told.counts granted).closings;
  runs = stands.runs ∙ sym (told.counts granted).runs;
  outputs = stands.outputs ∙ sym (ap (λ (os : List Opening). length os) (outputs_requested past (AsksForMain kind path)));
  are = record { main = main; named = told.named oracle s.streams stands.are.named };
  printed = told.printed ∙ (stands.printed ∙ sym (outputs_requested past (AsksForMain kind path)));
  turn = turn_requested oracle past (AsksForMain kind path) first_stage (stage_of before.log old) (stage_of after.log new) stands.turn meets;
}

-- a granted opening tells its number
granted_number : (kind : InputKind) (path : List ℕ) (a : Oracle) (l l' : List Event) (main : Option Input) (source : Source) → IsMainRest a l' main (Some source) → l' ≡ logged (main_opening kind path (Ok tt) main) l
    → (id : Option ℕ) × (main_number main ≡ id) × (l' ≡ OpenedInput kind path id ∷ l)
granted_number kind path a l l' None source rest is = absurd rest
granted_number kind path a l l' (Some v) source rest is = (Some v.id, refl, is)

-- what the definitions open, by what the outside answers
opens_as : (kind : InputKind) (path : List ℕ) (s : State) (oracle : Oracle) (l : List Event) (given : Option Source) → s.outside ≡ oracle → s.openings kind path ≡ how_many (opens_input kind path) l
    → oracle.input kind path (how_many (opens_input kind path) l) ≡ given → open_main kind path s ≡ opened kind path given s
unfolding open_main
opens_as kind path s oracle l given outside count is =
    ap (λ (o : Option Source). opened kind path o s) (ap (λ (a : Oracle). a.input kind path (s.openings kind path)) outside ∙ ap (λ (n : ℕ). oracle.input kind path n) count ∙ is)

opens_logged : (kind : InputKind) (path : List ℕ) (r : Result (Unit {0}) StreamFault) {old new : Runtime} {before after : WorldState} → Beside old new → old.streams.main ≡ None
    → (r ≡ Err InputNotReadable → new.streams ≡ old.streams)
    → OpensMain kind path before old.streams r after new.streams
    → IfErr r IsOpeningFault → SimulatesLogged old before new after (halted r) (open_main kind path)
opens_logged kind path (Ok tt) {old = old} {new = new} {before = before} {after = after} beside none same told fault = record {
  grows = told.grows;
  means = λ oracle s past consistent stands.
      let given = told.granted oracle consistent in
      let number = granted_number kind path oracle before.log after.log new.streams.main given.0 given.2 told.adds in
      let meets = opening_meets oracle kind path (outputs_after past) before after old.streams new.streams number.0 none number.1 number.2 told.same in
      subst (λ (o : Out (Unit {0})). ResultRelation oracle new after (Ok tt) o past) (sym (opens_as kind path s oracle before.log (Some given.0) stands.streams.outside (stands.streams.openings kind path) given.1)) (
        refl,
        record {
          clear = told.failure ∙ stands.clear;
          streams = opens_stands oracle (Ok tt) kind path old.streams new.streams before after s (Some given.0) past told (λ (e : Ok tt ≡ Err Memory). absurd (cc)) given.2 meets stands.streams;
          holds = at_main new s _ (Some given.0) (beside_holds beside stands.holds);
        },
      );
}
opens_logged kind path (Err InputNotReadable) {old = old} {new = new} {before = before} {after = after} beside none same told fault = record {
  grows = told.grows;
  means = λ oracle s past consistent stands.
      let no_main = no_rest oracle before.log s.main (subst (λ m. IsMainRest oracle before.log m s.main) none stands.streams.are.main) in
      let still : new.streams.main ≡ None = ap (λ (v : StreamsView). v.main) (same refl) ∙ none in
      let closed : IsMainRest oracle after.log new.streams.main None = subst (λ m. IsMainRest oracle after.log m None) (sym still) tt in
      let meets = opening_meets oracle kind path (outputs_after past) before after old.streams new.streams None none (ap main_number still) told.adds told.same in
      let unopened : StateRelation oracle new after (record (counted kind path s) { main = None }) (past ++ Requested (AsksForMain kind path) ∷ []) = record {
        clear = told.failure ∙ stands.clear;
        streams = opens_stands oracle (Err InputNotReadable) kind path old.streams new.streams before after s None past told (λ (e : Err InputNotReadable ≡ Err Memory). absurd (cc)) closed meets stands.streams;
        holds = at_main new s _ None (beside_holds beside stands.holds);
      } in
      subst (λ (o : Out (Unit {0})). ResultRelation oracle new after (Err (halt.Fault faults.InputNotReadable)) o past) (sym (opens_as kind path s oracle before.log None stands.streams.outside (stands.streams.openings kind path) (told.refused refl oracle consistent)))
      (refl, subst (λ rest. StateRelation oracle new after (record (counted kind path s) { main = rest }) (past ++ Requested (AsksForMain kind path) ∷ [])) (sym no_main) unopened);
}
opens_logged kind path (Err Memory) {old = old} {new = new} {before = before} {after = after} beside none same told fault = record {
  grows = told.grows;
  means = λ oracle s past consistent stands.
      cut_off oracle new.streams after past (open_main kind path s).effects (stage_of before.log old.streams) (sym told.adds) stands.streams.turn (told.printed ∙ stands.streams.printed) (inside_spent before after (held_of new.streams) stands.clear told.failure) (inside_last before after stands.clear told.failure);
}
opens_logged kind path (Err WriteFailed) beside none same told fault = absurd (elim fault [ inl e ↦ (cc) | inr e ↦ (cc) ])
opens_logged kind path (Err OutputNotOpened) beside none same told fault = absurd (elim fault [ inl e ↦ (cc) | inr e ↦ (cc) ])
opens_logged kind path (Err TooManyStreams) beside none same told fault = absurd (elim fault [ inl e ↦ (cc) | inr e ↦ (cc) ])
opens_logged kind path (Err RecordTooLong) beside none same told fault = absurd (elim fault [ inl e ↦ (cc) | inr e ↦ (cc) ])

pub opens_simulates : {is_logged : Type 0} (kind : InputKind) (path : List ℕ) (r : Result (Unit {0}) StreamFault) {old new : Runtime} {before after : WorldState} → Beside old new → old.streams.main ≡ None
    → (r ≡ Err InputNotReadable → new.streams ≡ old.streams)
    → (is_logged → OpensMain kind path before old.streams r after new.streams)
    → IfErr r IsOpeningFault → Simulates is_logged old before new after (halted r) (open_main kind path)
opens_simulates kind path r beside none same told fault = record {
  steps = omega (arith, beside.steps);
  names = beside.names;
  told = λ t. opens_logged kind path r beside none same (told t) fault;
}

-- asking for a record

-- the main input keeps its number
number_kept : (old new : Option Input) → IsSameMain old new → main_number new ≡ main_number old
number_kept None None same = refl
number_kept (Some v) (Some w) same = ap (λ (id : ℕ). Some id) same
number_kept None (Some w) same = absurd same
number_kept (Some v) None same = absurd same

rest_unended : {oracle : Oracle} {id : ℕ} {log : List Event} {s : Source} {whole b : List ℕ} {ending : Option _} → Rest oracle id log s whole b ending → Rest oracle id log s whole b None
rest_unended r = record {
  reading = r.reading;
  stands = r.stands;
  answer = r.answer;
  more = r.more;
  begins = r.begins;
  same = r.same;
  over = λ e (is : None ≡ Some e). absurd cc;
}

pub reads_as_requested : (oracle : Oracle) (separator whole : List ℕ) (id : ℕ) (s : Source) (old new : Pending) (log log' : List Event) → Rest oracle id log s whole old.bytes old.ending → Reaches id separator old log new log' → (log' ≡ log) ⊎ IsReadable id log
    → ReadsAsRequested oracle separator whole id log log'
reads_as_requested oracle separator whole id s old new log log' rest (inl same) readable = record {
  source = s;
  at_hand = old.bytes;
  rest = rest_unended rest;
  reached = old.bytes;
  ending = None;
  needed = record { events = []; log = same.1; each = (refl, refl) };
  readable = readable;
}
reads_as_requested oracle separator whole id s old new log log' rest (inr read) readable = record {
  source = s;
  at_hand = old.bytes;
  rest = rest_unended rest;
  reached = new.bytes;
  ending = new.ending;
  needed = read.1;
  readable = readable;
}

main_reads : (oracle : Oracle) (separator : List ℕ) (log log' : List Event) (main : Option Input) (whole : Source) → IsMainRest oracle log main (Some whole) → ReadsMain separator main log log' → ReadsFrom oracle separator whole.bytes (main_number main) log log'
main_reads oracle separator log log' None whole rest reads = absurd rest
main_reads oracle separator log log' (Some v) whole rest reads = reads_as_requested oracle separator whole.bytes v.id rest.0 v.pending reads.0.0 log log' rest.2 reads.0.1 reads.1

asking_meets : (oracle : Oracle) (separator : List ℕ) (os : List Opening) (before after : WorldState) (old new : StreamsView) (whole : Source) → IsSameMain old.main new.main → new ≡ record old { main = new.main } → IsMainRest oracle before.log old.main (Some whole)
    → ReadsMain separator old.main before.log after.log → Meets oracle (RecordOfMain separator whole.bytes) os (stage_of before.log old) (stage_of after.log new)
asking_meets oracle separator os before after old new whole same_main same rest reads = (
  main_reads oracle separator before.log after.log old.main whole rest reads,
  stage_same after.log after.log (main_number new.main) (main_number old.main) (numbered new.named) (numbered old.named) refl (number_kept old.main new.main same_main) (same_numbers old new new.main same),
)

asked_stands : (oracle : Oracle) (r : Result (Option (List ℕ)) StreamFault) (old new : StreamsView) (before after : WorldState) (s : State) (separator : List ℕ) (whole : Source) (left : List ℕ) (past : List Effect) → AsksMain separator before old r after new
    → IsMainRest oracle after.log new.main (Some (record { bytes = left; ending = whole.ending }))
    → Meets oracle (RecordOfMain separator whole.bytes) (outputs_after past) (stage_of before.log old) (stage_of after.log new)
    → StreamsRelation oracle old before s past → StreamsRelation oracle new after (with_rest s left whole.ending) (past ++ Requested (RecordOfMain separator whole.bytes) ∷ [])
asked_stands oracle r old new before after s separator whole left past told main meets stands = record {
  outside = stands.outside;
  openings = λ k name. stands.openings k name ∙ sym (told.counts.inputs k name);
  output_openings = λ k name. stands.output_openings k name ∙ sym (told.counts.outputs k name);
  closings = stands.closings ∙ sym told.counts.closings;
  runs = stands.runs ∙ sym told.counts.runs;
  outputs = stands.outputs ∙ sym (ap (λ (os : List Opening). length os) (outputs_requested past (RecordOfMain separator whole.bytes)));
  are = record { main = main; named = told.named oracle s.streams stands.are.named };
  printed = told.printed ∙ (stands.printed ∙ sym (outputs_requested past (RecordOfMain separator whole.bytes)));
  turn = turn_requested oracle past (RecordOfMain separator whole.bytes) first_stage (stage_of before.log old) (stage_of after.log new) stands.turn meets;
}

-- what is taken of a rest, by its cut and what the streams told of it
asked_comes : (c : Cut) (oracle : Oracle) (new : Runtime) (after : WorldState) (r : Result (Option (List ℕ)) StreamFault) (separator : List ℕ) (whole : Source) (left : List ℕ) (s : State) (past : List Effect)
    → NextTold c r whole.bytes left → StateRelation oracle new after (with_rest s left whole.ending) (past ++ Requested (RecordOfMain separator whole.bytes) ∷ [])
    → ResultRelation oracle new after (halted r) (taken c separator whole s) past
asked_comes (Found first rest) oracle new after r separator whole left s past told stands =
    subst (λ x. ResultRelation oracle new after (halted x) (taken (Found first rest) separator whole s) past) (sym told.0)
    (refl, subst (λ l. StateRelation oracle new after (with_rest s l whole.ending) (past ++ Requested (RecordOfMain separator whole.bytes) ∷ [])) told.1 stands)
asked_comes NoMore oracle new after r separator whole left s past told stands =
    subst (λ x. ResultRelation oracle new after (halted x) (taken NoMore separator whole s) past) (sym told.0)
    (refl, subst (λ l. StateRelation oracle new after (with_rest s l whole.ending) (past ++ Requested (RecordOfMain separator whole.bytes) ∷ [])) told.1 stands)
asked_comes BrokenOff oracle new after r separator whole left s past told stands =
    subst (λ x. ResultRelation oracle new after (halted x) (taken BrokenOff separator whole s) past) (sym told.0)
    (refl, subst (λ l. StateRelation oracle new after (with_rest s l whole.ending) (past ++ Requested (RecordOfMain separator whole.bytes) ∷ [])) told.1 stands)
asked_comes TooLong oracle new after r separator whole left s past told stands =
    subst (λ x. ResultRelation oracle new after (halted x) (taken TooLong separator whole s) past) (sym told.0)
    (refl, subst (λ l. StateRelation oracle new after (with_rest s l whole.ending) (past ++ Requested (RecordOfMain separator whole.bytes) ∷ [])) told.1 stands)

pub some_rest : (oracle : Oracle) (log : List Event) (main : Option Input) (rest : Option Source) → is_some main ≡ true → IsMainRest oracle log main rest → (whole : Source) × (rest ≡ Some whole)
some_rest oracle log None rest there stands = absurd (cc)
some_rest oracle log (Some v) None there stands = absurd stands
some_rest oracle log (Some v) (Some whole) there stands = (whole, refl)

-- what the definitions take, by the code's RS
takes_as : (m : Runtime) (s : State) → OwnRelation m s → take_record s ≡ taken_of s.main (str_of (value_of m.specials (name_of Rs))) s
unfolding take_record
takes_as m s h = ap (λ v. taken_of s.main (str_of v) s) (h.specials Rs)

asks_comes : (separator : List ℕ) (r : Result (Option (List ℕ)) StreamFault) (oracle : Oracle) {old new : Runtime} {before after : WorldState} (s : State) (past : List Effect) (whole : Source) → Beside old new → IsSameMain old.streams.main new.streams.main → r ≢ Err Memory
    → (after.failures ≡ before.failures) → AsksMain separator before old.streams r after new.streams → IsConsistent oracle after.log → StateRelation oracle old before s past → s.main ≡ Some whole
    → ResultRelation oracle new after (halted r) (taken_of s.main separator s) past
asks_comes separator r oracle {old = old} {new = new} {before = before} {after = after} s past whole beside same_main kept no_failure told consistent stands is =
    let rest = subst (λ o. IsMainRest oracle before.log old.streams.main o) is stands.streams.are.main in
    let gives = told.answered kept oracle whole consistent rest in
    let meets = asking_meets oracle separator (outputs_after past) before after old.streams new.streams whole same_main told.same rest told.request in
    subst (λ (o : Option Source). ResultRelation oracle new after (halted r) (taken_of o separator s) past) (sym is)
    (asked_comes (cut_of separator whole.bytes whole.ending) oracle new after r separator whole gives.0 s past gives.1 (record {
      clear = no_failure ∙ stands.clear;
      streams = asked_stands oracle r old.streams new.streams before after s separator whole gives.0 past told gives.2 meets stands.streams;
      holds = at_main new s s.openings _ (beside_holds beside stands.holds);
    }))

asks_logged : (separator : List ℕ) (r : Result (Option (List ℕ)) StreamFault) {old new : Runtime} {before after : WorldState} → separator ≡ str_of (value_of old.specials (name_of Rs)) → Beside old new → is_some old.streams.main ≡ true → IsSameMain old.streams.main new.streams.main → r ≢ Err Memory
    → (after.failures ≡ before.failures) → AsksMain separator before old.streams r after new.streams
    → SimulatesLogged old before new after (halted r) take_record
asks_logged separator r {old = old} {new = new} {before = before} {after = after} rs beside there same_main kept no_failure told = record {
  grows = told.grows;
  means = λ oracle s past consistent stands.
      let whole = some_rest oracle before.log old.streams.main s.main there stands.streams.are.main in
      subst (λ (o : Out (Option (List ℕ))). ResultRelation oracle new after (halted r) o past) (ap (λ l. taken_of s.main l s) rs ∙ sym (takes_as old s stands.holds))
      (asks_comes separator r oracle s past whole.0 beside same_main kept no_failure told consistent stands whole.1);
}

-- what is asked for where some is left
taken_asks : (c : Cut) (separator : List ℕ) (whole : Source) (s : State) → (taken c separator whole s).effects ≡ Requested (RecordOfMain separator whole.bytes) ∷ []
taken_asks (Found first rest) separator whole s = refl
taken_asks NoMore separator whole s = refl
taken_asks BrokenOff separator whole s = refl
taken_asks TooLong separator whole s = refl

take_asks : (separator : List ℕ) (m : Runtime) (s : State) (whole : Source) → separator ≡ str_of (value_of m.specials (name_of Rs)) → OwnRelation m s → s.main ≡ Some whole → (take_record s).effects ≡ Requested (RecordOfMain separator whole.bytes) ∷ []
take_asks separator m s whole rs h is =
    ap (λ (o : Out (Option (List ℕ))). o.effects) (takes_as m s h)
    ∙ (ap (λ (l : List ℕ). (taken_of s.main l s).effects) (sym rs) ∙ (ap (λ (o : Option Source). (taken_of o separator s).effects) is ∙ taken_asks (cut_of separator whole.bytes whole.ending) separator whole s))

-- a failure behind what was read for it
asks_cut : {failure : Type 0} (separator : List ℕ) (r : Result (Option (List ℕ)) StreamFault) (oracle : Oracle) (old new : Runtime) {before after : WorldState} (s : State) (past : List Effect) (whole : Source) → separator ≡ str_of (value_of old.specials (name_of Rs)) → IsSameMain old.streams.main new.streams.main
    → AsksMain separator before old.streams r after new.streams → StateRelation oracle old before s past → s.main ≡ Some whole → AreSpent after.failures (held_of new.streams) → failure → FailureRelation oracle failure new.streams after (past ++ (take_record s).effects)
asks_cut {failure = failure} separator r oracle old new {before = before} {after = after} s past whole rs same_main told stands is spent failed =
    let what : Request = RecordOfMain separator whole.bytes in
    let rest = subst (λ (o : Option Source). IsMainRest oracle before.log old.streams.main o) is stands.streams.are.main in
    let meets = asking_meets oracle separator (outputs_after past) before after old.streams new.streams whole same_main told.same rest told.request in
    subst (λ (l : List Effect). FailureRelation oracle failure new.streams after (past ++ l)) (sym (take_asks separator old s whole rs stands.holds is))
    (cut_behind oracle new.streams after (past ++ Requested what ∷ []) (stage_of after.log new.streams) refl
    (turn_requested oracle past what first_stage (stage_of before.log old.streams) (stage_of after.log new.streams) stands.streams.turn meets)
    (told.printed ∙ (stands.streams.printed ∙ sym (outputs_requested past what))) spent failed)

asks_by : (separator : List ℕ) (r : Result (Option (List ℕ)) StreamFault) {old new : Runtime} {before after : WorldState} → separator ≡ str_of (value_of old.specials (name_of Rs)) → Beside old new → is_some old.streams.main ≡ true → IsSameMain old.streams.main new.streams.main
    → AsksMain separator before old.streams r after new.streams → (r ≡ Err WriteFailed → ⊥)
    → SimulatesLogged old before new after (halted r) take_record
asks_by separator (Ok found) rs beside there same_main told unwritten = asks_logged separator (Ok found) rs beside there same_main (λ (e : Ok found ≡ Err Memory). absurd (cc)) told.failure told
asks_by separator (Err Memory) {old = old} {new = new} {before = before} {after = after} rs beside there same_main told unwritten = record {
  grows = told.grows;
  means = λ oracle s past consistent stands.
      let whole = some_rest oracle before.log old.streams.main s.main there stands.streams.are.main in
      asks_cut separator (Err Memory) oracle old new s past whole.0 rs same_main told stands whole.1 (inside_spent before after (held_of new.streams) stands.clear told.failure) (inside_last before after stands.clear told.failure);
}
asks_by separator (Err WriteFailed) rs beside there same_main told unwritten = absurd (unwritten refl)
asks_by separator (Err InputNotReadable) rs beside there same_main told unwritten = asks_logged separator (Err InputNotReadable) rs beside there same_main (λ (e : Err InputNotReadable ≡ Err Memory). absurd (cc)) told.failure told
asks_by separator (Err OutputNotOpened) rs beside there same_main told unwritten = asks_logged separator (Err OutputNotOpened) rs beside there same_main (λ (e : Err OutputNotOpened ≡ Err Memory). absurd (cc)) told.failure told
asks_by separator (Err TooManyStreams) rs beside there same_main told unwritten = asks_logged separator (Err TooManyStreams) rs beside there same_main (λ (e : Err TooManyStreams ≡ Err Memory). absurd (cc)) told.failure told
asks_by separator (Err RecordTooLong) rs beside there same_main told unwritten = asks_logged separator (Err RecordTooLong) rs beside there same_main (λ (e : Err RecordTooLong ≡ Err Memory). absurd (cc)) told.failure told

pub asks_simulates : {is_logged : Type 0} (separator : List ℕ) (r : Result (Option (List ℕ)) StreamFault) {old new : Runtime} {before after : WorldState} → separator ≡ str_of (value_of old.specials (name_of Rs)) → Beside old new → is_some old.streams.main ≡ true → IsSameMain old.streams.main new.streams.main
    → (is_logged → AsksMain separator before old.streams r after new.streams) → (r ≡ Err WriteFailed → ⊥)
    → Simulates is_logged old before new after (halted r) take_record
asks_simulates separator r rs beside there same_main told unwritten = record {
  steps = omega (arith, beside.steps);
  names = beside.names;
  told = λ t. asks_by separator r rs beside there same_main (told t) unwritten;
}

-- where none is at hand all is as it was
pub kept_at_hand : {X : Type 0} (found : Option X) (old : Runtime) (streams : StreamsView) → IfNone found (streams ≡ old.streams) → IfNone found (record old { streams = streams } ≡ old)
kept_at_hand None old streams same = ap (λ (s : StreamsView). record old { streams = s }) same
kept_at_hand (Some x) old streams same = tt

-- a record that is at hand is taken, in every world
pub at_hand_taken : (is_logged : Type 0) (byte : ℕ) (found : Option (List ℕ)) {old new : Runtime} → str_of (value_of old.specials (name_of Rs)) ≡ byte ∷ [] → Beside old new → IfSome found (λ first. IsTrue (is_some old.streams.main)) → IsSameMain old.streams.main new.streams.main
    → IfSome found (λ first. (world : WorldState) → AreOpen world old.streams → AreSound world old.streams → AsksMain (byte ∷ []) world old.streams (Ok (Some first)) world new.streams)
    → IfSome found (λ text. (k : WorldState) → IsReady is_logged k old.streams → Follows is_logged take_record old k new k (Ok (Some text)))
at_hand_taken is_logged byte None rs beside there same_main told = tt
at_hand_taken is_logged byte (Some first) rs beside there same_main told = λ k ready. record {
  simulates = asks_simulates (byte ∷ []) (Ok (Some first)) (sym rs) beside there same_main (λ t. told k ready.are_open (ready.are_sound t)) (λ (e : Ok (Some first) ≡ Err WriteFailed). absurd (cc));
  callers = callers_stay beside.frames;
}

-- where no main input is open, none is taken
none_comes : (oracle : Oracle) (m : Runtime) (k : WorldState) (s : State) (past : List Effect) (rest : Option Source) (separator : List ℕ) → rest ≡ None → StateRelation oracle m k s past → ResultRelation oracle m k (Ok None) (taken_of rest separator s) past
unfolding lift
none_comes oracle m k s past None separator e stands = (refl, subst (λ (l : List Effect). StateRelation oracle m k s l) (sym (append-nil past)) stands)
none_comes oracle m k s past (Some source) separator e stands = absurd (cc)

takes_none_logged : {m : Runtime} {k : WorldState} → m.streams.main ≡ None → SimulatesLogged m k m k (Ok None) take_record
takes_none_logged {m = m} {k = k} none = record {
  grows = Grows-self k;
  means = λ oracle s past consistent stands.
      subst (λ (o : Out (Option (List ℕ))). ResultRelation oracle m k (Ok None) o past) (sym (takes_as m s stands.holds))
      (none_comes oracle m k s past s.main _ (no_rest oracle k.log s.main (subst (λ v. IsMainRest oracle k.log v s.main) none stands.streams.are.main)) stands);
}

pub takes_none : {is_logged : Type 0} {m : Runtime} {k : WorldState} → m.streams.main ≡ None → Simulates is_logged m k m k (Ok None) take_record
takes_none none = record { steps = omega arith; names = refl; told = λ t. takes_none_logged none }

-- closing the main input

-- the closing of the main input meets no request
closing_goes : (before after : List Event) (old new : StreamsView) (main : Option Input) (answer : ℤ) → old.main ≡ main → new ≡ record old { main = None } → after ≡ closed_main main answer before → GoesBetween (stage_of before old) (stage_of after new)
closing_goes before after old new None answer was same is = record { events = []; log = is; between = ap (λ (v : StreamsView). main_number v.main) same ∙ sym (ap main_number was); streams = same_numbers old new None same }
closing_goes before after old new (Some v) answer was same is = record {
  events = Closed v.id answer ∷ [];
  log = is;
  between = rw was (refl, ap (λ (x : StreamsView). main_number x.main) same);
  streams = same_numbers old new None same;
}

pub closes_stands : (oracle : Oracle) (old new : StreamsView) (before after : WorldState) (s : State) (past : List Effect) → EndsMain before old after new → StreamsRelation oracle old before s past → StreamsRelation oracle new after (record s { main = None }) (past ++ [])
closes_stands oracle old new before after s past told stands = record {
  outside = stands.outside;
  openings = λ k name. stands.openings k name ∙ sym (told.counts.inputs k name);
  output_openings = λ k name. stands.output_openings k name ∙ sym (told.counts.outputs k name);
  closings = stands.closings ∙ sym told.counts.closings;
  runs = stands.runs ∙ sym told.counts.runs;
  outputs = stands.outputs ∙ ap (λ (l : List Effect). length (outputs_after l)) (sym (append-nil past));
  are = record { main = subst (λ (v : StreamsView). IsMainRest oracle after.log v.main None) (sym told.same) tt; named = told.named oracle s.streams stands.are.named };
  printed = told.printed ∙ (stands.printed ∙ ap (λ (l : List Effect). outputs_after l) (sym (append-nil past)));
  turn = turn_between oracle past [] first_stage (stage_of before.log old) (stage_of after.log new) refl stands.turn (closing_goes before.log after.log old new old.main told.adds.0 refl told.same told.adds.1);
}

closes_logged : {old new : Runtime} {before after : WorldState} → Beside old new → EndsMain before old.streams after new.streams → SimulatesLogged old before new after (Ok tt) close_main
unfolding close_main
closes_logged {old = old} {new = new} {before = before} {after = after} beside told = record {
  grows = told.grows;
  means = λ oracle s past consistent stands. (
    refl,
    record {
      clear = told.no_failure ∙ stands.clear;
      streams = closes_stands oracle old.streams new.streams before after s past told stands.streams;
      holds = at_main new s s.openings None (beside_holds beside stands.holds);
    },
  );
}

pub closes_follows : {is_logged : Type 0} {old new : Runtime} {before after : WorldState} → Beside old new → (is_logged → EndsMain before old.streams after new.streams) → Follows is_logged close_main old before new after (Ok tt)
closes_follows beside told = record { simulates = record { steps = omega (arith, beside.steps); names = beside.names; told = λ t. closes_logged beside (told t) }; callers = callers_stay beside.frames }

pub none_of : (o : Option Input) → is_some o ≡ false → o ≡ None
none_of None e = refl
none_of (Some v) e = absurd (cc)

-- an input gives no fault of writing
pub writes_nothing : (r : Result (Option (List ℕ)) StreamFault) → IfErr r IsInputFault → r ≡ Err WriteFailed → ⊥
writes_nothing r fault e = subst (λ (x : Result (Option (List ℕ)) StreamFault). IfErr x IsInputFault) e fault
