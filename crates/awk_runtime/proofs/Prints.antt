-- What printing does to the state of a run.
use Rattle.std.proofs.Common.{rules, map, ◌≡◌, ◌==◌, Bool, true, false, ℕ, pos, List, [], ◌∷◌, ◌++◌, length, Option, Some, Result, Ok, Err, IfErr, inl, inr, refl, sym, ap, ◌∙◌, subst, arith}
use Rattle.std.specs.Prelude.{if◌then◌else◌}
use Rattle.awk_value.specs.declared.value.Value.{Value}
use Rattle.awk_value.specs.Values.{str_of}
use Rattle.awk_streams.specs.declared.fault.StreamFault.{StreamFault}
use Rattle.awk_streams.specs.declared.fault.StreamFault.TheVariants.{Memory, WriteFailed, InputNotReadable, OutputNotOpened, TooManyStreams, RecordTooLong}
use Rattle.awk_streams.specs.declared.input.Input.{Input}
use Rattle.awk_streams.specs.declared.streams.Target.{Target}
use Rattle.awk_streams.specs.declared.streams.Target.TheVariants as target
use Rattle.awk_streams.specs.WorldState.{WorldState}
use Rattle.awk_streams.specs.Log.{Event, Wrote}
use Rattle.awk_streams.specs.Oracle.{Oracle}
use Rattle.awk_streams.specs.Writes.{Writes}
use Rattle.awk_streams.specs.Openings.{Opening, Begins}
use Rattle.awk_streams.specs.Outputs.{IsOutputFault}
use Rattle.awk_streams.specs.Streams.{StreamsView, AreOpen, AreSound, printed_openings, opening_at}
use Rattle.awk_streams.specs.NamedOutputs.{Prints}
use Rattle.awk_semantics.specs.declared.halt.Halt.{Halt}
use Rattle.awk_semantics.specs.declared.halt.Halt.TheVariants as halt
use Rattle.awk_semantics.specs.declared.fault.Fault.TheVariants as faults
use Rattle.awk_semantics.specs.State.{Effect, Printed, State, Run, ◌>>=◌, go_on, lift, ret}
use Rattle.awk_semantics.specs.Results.{sort_of, YieldsBy}
use Rattle.awk_record.specs.Record.{joined, joined_behind}
use Rattle.awk_semantics.specs.Operators.{line_of, join, join_rest}
use Rattle.awk_semantics.specs.Primitives.{print_bytes, print_line, format_values, record_text, read_field}
use Rattle.awk_semantics.specs.Semantics.{Functions, print_by}
use Rattle.awk_grammar.specs.declared.tree.PrintForm.TheVariants as form
use Rattle.awk_semantics.specs.Meaning.{with_bytes, first_outputs, outputs_after, requests_from}
use Rattle.awk_semantics.specs.Order.{AreBetween, GoesBetween, first_stage}
use Rattle.awk_semantics.proofs.Requests.{goes_last}
use Rattle.awk_kinds.specs.declared.special.Special.TheVariants.{Ofs, Ors}
use Rattle.awk_kinds.specs.Variables.{value_of, name_of}
use Rattle.awk_runtime.specs.declared.runtime.Runtime.{Runtime}
use Rattle.awk_runtime.specs.support.Simulation.{OwnRelation, main_number, stage_of, StreamsRelation, StateRelation, FailureRelation, ResultRelation, SimulatesLogged, Changes, Follows, Beside, SameState, halted}
use Rattle.awk_runtime.specs.support.Printing.{PrintsTo, OpensTarget, print_at, print_field_at}
use Rattle.awk_runtime.proofs.Composition.{fails_last, may_fail_last, then_logged, ends_logged, lift_logged, memory_changes, callers_stay}
use Rattle.awk_runtime.proofs.Effects.{turn_between}
use Rattle.awk_runtime.proofs.Steps.{beside_holds, reads_changes}
use Rattle.awk_runtime.proofs.Turns.{same_logged, length-with_bytes, outputs_printed, spared}

-- what is written to an output meets no request

writes_between : (id : ℕ) (main : Option ℕ) (bytes : List ℕ) (es : List Event) → Writes id bytes es → AreBetween main es main
writes_between id main bytes [] h = refl
writes_between id main bytes (Wrote i bs ∷ es) h = writes_between id main h.1.0 es h.1.2
writes_between id main bytes (e ∷ es) h = absurd h

writes_go : (to : Target) (bytes : List ℕ) (before after : WorldState) (old new : StreamsView) (r : Result (Unit {0}) StreamFault) → Prints to bytes before old r after new → GoesBetween (stage_of before.log old) (stage_of after.log new)
writes_go to bytes before after old new r told = record {
  events = told.only.1.events;
  log = told.only.1.log;
  between = subst (λ (m : Option Input). AreBetween (main_number old.main) told.only.1.events (main_number m)) (sym told.main) (writes_between told.id (main_number old.main) told.only.0 told.only.1.events told.only.1.each);
  streams = told.numbers;
}

-- the outputs that the definitions have then
as_printed : (oracle : Oracle) (old : StreamsView) (before : WorldState) (s : State) (past : List Effect) (n : ℕ) (bytes : List ℕ) → StreamsRelation oracle old before s past → with_bytes n bytes (printed_openings before old) ≡ outputs_after (past ++ Printed n bytes ∷ [])
as_printed oracle old before s past n bytes stands = ap (λ (os : List Opening). with_bytes n bytes os) stands.printed ∙ sym (outputs_printed past n bytes)

shown : (oracle : Oracle) (to : Target) (bytes : List ℕ) (old new : StreamsView) (before after : WorldState) (s : State) (past : List Effect) → (told : Prints to bytes before old (Ok tt) after new)
    → StreamsRelation oracle old before s past → StreamsRelation oracle new after s (past ++ Printed told.opening bytes ∷ [])
shown oracle to bytes old new before after s past told stands = record {
  outside = stands.outside;
  openings = λ kind name. stands.openings kind name ∙ sym (told.counts.inputs kind name);
  output_openings = λ kind name. stands.output_openings kind name ∙ sym (told.counts.outputs kind name);
  closings = stands.closings ∙ sym told.counts.closings;
  runs = stands.runs ∙ sym told.counts.runs;
  outputs = stands.outputs ∙ sym (ap (λ (os : List Opening). length os) (outputs_printed past told.opening bytes) ∙ length-with_bytes told.opening bytes (outputs_after past));
  are = told.same oracle s.main s.streams stands.are;
  printed = told.printed ∙ as_printed oracle old before s past told.opening bytes stands;
  turn = turn_between oracle past (Printed told.opening bytes ∷ []) first_stage (stage_of before.log old) (stage_of after.log new) refl stands.turn (writes_go to bytes before after old new (Ok tt) told);
}

print_comes : (to : Target) (bytes : List ℕ) {old new : Runtime} {before after : WorldState} → Beside old new → (told : Prints to bytes before old.streams (Ok tt) after new.streams)
    → (oracle : Oracle) (s : State) (past : List Effect) → StateRelation oracle old before s past → ResultRelation oracle new after (Ok tt) (print_bytes told.opening bytes s) past
unfolding print_bytes
print_comes to bytes {old = old} {new = new} {before = before} {after = after} beside told oracle s past stands = (
  refl,
  record {
    clear = told.failure ∙ stands.clear;
    streams = shown oracle to bytes old.streams new.streams before after s past told stands.streams;
    holds = beside_holds beside stands.holds;
  },
)

-- a print that a failure broke off
print_fails : {failure : Type 0} (to : Target) (bytes : List ℕ) (fault : StreamFault) (old new : Runtime) {before after : WorldState} → (told : Prints to bytes before old.streams (Err fault) after new.streams) → failure
    → (oracle : Oracle) (s : State) (past : List Effect) → StateRelation oracle old before s past → FailureRelation oracle failure new.streams after (past ++ (print_bytes told.opening bytes s).effects)
unfolding print_bytes
print_fails to bytes fault old new {before = before} {after = after} told failed oracle s past stands = record {
  done = past;
  others = Printed told.opening bytes ∷ [];
  parts = refl;
  last = stage_of after.log new.streams;
  at = refl;
  turn = goes_last oracle (requests_from first_outputs past) first_stage (stage_of before.log old.streams) (stage_of after.log new.streams) stands.streams.turn (writes_go to bytes before after old.streams new.streams (Err fault) told);
  keeps = spared oracle old new before after s past stands told.spares;
  begins = subst (λ (os : List Opening). Begins (printed_openings after new.streams) os) (as_printed oracle old.streams before s past told.opening bytes stands.streams) told.partly;
  failure = failed;
}

print_told : (r : Result (Unit {0}) StreamFault) (to : Target) (bytes : List ℕ) {old new : Runtime} {before after : WorldState} → Beside old new → (told : Prints to bytes before old.streams r after new.streams)
    → IfErr r IsOutputFault → SimulatesLogged old before new after (halted r) (print_bytes told.opening bytes)
print_told (Ok tt) to bytes beside told fault = record { grows = told.grows; means = λ oracle s past consistent stands. print_comes to bytes beside told oracle s past stands }
print_told (Err Memory) to bytes {old = old} {new = new} {before = before} {after = after} beside told fault = record { grows = told.grows; means = λ oracle s past consistent stands. print_fails to bytes Memory old new told (may_fail_last before after stands.clear told.failure) oracle s past stands }
print_told (Err WriteFailed) to bytes {old = old} {new = new} {before = before} {after = after} beside told fault = record { grows = told.grows; means = λ oracle s past consistent stands. print_fails to bytes WriteFailed old new told (fails_last before after stands.clear told.failure) oracle s past stands }
print_told (Err InputNotReadable) to bytes beside told fault = absurd (elim fault [ inl e ↦ (cc) | inr e ↦ (cc) ])
print_told (Err OutputNotOpened) to bytes beside told fault = absurd (elim fault [ inl e ↦ (cc) | inr e ↦ (cc) ])
print_told (Err TooManyStreams) to bytes beside told fault = absurd (elim fault [ inl e ↦ (cc) | inr e ↦ (cc) ])
print_told (Err RecordTooLong) to bytes beside told fault = absurd (elim fault [ inl e ↦ (cc) | inr e ↦ (cc) ])

same_opening : (o : Option ℕ) (m n : ℕ) → o ≡ Some m → o ≡ Some n → m ≡ n
same_opening o m n e f = let g : Some m ≡ Some n = sym e ∙ f in cc

print_logged : (r : Result (Unit {0}) StreamFault) (to : Target) (bytes : List ℕ) (n : ℕ) {old new : Runtime} {before after : WorldState} → Beside old new → opening_at to old.streams before.log ≡ Some n
    → Prints to bytes before old.streams r after new.streams → IfErr r IsOutputFault → SimulatesLogged old before new after (halted r) (print_bytes n bytes)
print_logged r to bytes n {old = old} {new = new} {before = before} {after = after} beside place told fault =
    subst (λ (i : ℕ). SimulatesLogged old before new after (halted r) (print_bytes i bytes)) (same_opening (opening_at to old.streams before.log) told.opening n told.place place) (print_told r to bytes beside told fault)

-- a line of values

-- the line that the code prints of values
abbrev pub line_in : Runtime → List Value → List ℕ
line_in m vs = line_of (str_of (value_of m.specials (name_of Ofs))) (str_of (value_of m.specials (name_of Ors))) vs

-- the line of values that are equal
pub line_same : (between between' behind behind' : Value) (vs : List Value) → between ≡ between' → behind ≡ behind' → line_of (str_of between) (str_of behind) vs ≡ line_of (str_of between') (str_of behind') vs
line_same between between' behind behind' vs e f = ap (λ v. line_of (str_of v) (str_of behind) vs) e ∙ ap (λ v. line_of (str_of between') (str_of v) vs) f

line_as : (n : ℕ) (vs : List Value) (m : Runtime) (s : State) → OwnRelation m s → print_line n vs s ≡ print_bytes n (line_in m vs) s
unfolding print_line
line_as n vs m s h = ap (λ l. print_bytes n l s) (line_same _ _ _ _ vs (h.specials Ofs) (h.specials Ors))

pub values_printed : {is_logged : Type 0} (r : Result (Unit {0}) StreamFault) (to : Target) (vs : List Value) (bytes : List ℕ) {old new : Runtime} {before after : WorldState} → bytes ≡ line_in old vs → Beside old new
    → (is_logged → Prints to bytes before old.streams r after new.streams) → IfErr r IsOutputFault → PrintsTo is_logged to (λ n. print_line n vs) old before new after (halted r)
values_printed r to vs bytes {old = old} {new = new} {before = before} {after = after} line beside told fault = record {
  steps = omega (arith, beside.steps);
  names = beside.names;
  callers = callers_stay beside.frames;
  told = λ t n place. same_logged (print_line n vs) (print_bytes n (line_in old vs)) (λ s h. line_as n vs old s h)
      (print_logged r to (line_in old vs) n beside place (subst (λ (l : List ℕ). Prints to l before old.streams r after new.streams) line (told t)) fault);
}

-- the text that a record's fields make
rest_joined : (between : List ℕ) (vs : List Value) → join_rest between (map str_of vs) ≡ joined_behind between vs
rest_joined between [] = refl
rest_joined between (v ∷ vs) = ap (λ l. (between ++ str_of v) ++ l) (rest_joined between vs)

pub fields_joined : (between : List ℕ) (vs : List Value) → join between (map str_of vs) ≡ joined between vs
fields_joined between [] = refl
fields_joined between (v ∷ vs) = ap (λ l. str_of v ++ l) (rest_joined between vs)

-- the line of one text
pub line_of_text : (between behind text end : List ℕ) (vs : List Value) → join between (map str_of vs) ≡ text → behind ≡ end → text ++ end ≡ line_of between behind vs
line_of_text between behind text end vs is ends = rw (is, ends) refl

pub line_between : (between between' behind behind' : List ℕ) (vs : List Value) → between ≡ between' → behind ≡ behind' → line_of between behind vs ≡ line_of between' behind' vs
line_between between between' behind behind' vs e f = ap (λ l. line_of l behind vs) e ∙ ap (λ l. line_of between' l vs) f

-- what was put behind what was held back
pub held_behind : (b : Bool) (held line front new : List ℕ) → b ≡ true → held ≡ front → new ≡ (if b then held ++ line else held) → new ≡ front ++ line
held_behind true held line front new holds lent is = is ∙ ap (λ l. l ++ line) lent
held_behind false held line front new holds lent is = absurd (cc)

-- a print behind what was held back, which was lent
pub lent_printed : (k : WorldState) (s lent new : StreamsView) (bytes : List ℕ) → lent ≡ record s { output = [] }
    → (AreOpen k record lent { output = s.output } → AreSound k record lent { output = s.output } → Prints target.StandardOutput bytes k record lent { output = s.output } (Ok tt) k new)
    → AreOpen k s → AreSound k s → Prints target.StandardOutput bytes k s (Ok tt) k new
lent_printed k s lent new bytes rest told open' sound =
    let back : record lent { output = s.output } ≡ s = ap (λ (v : StreamsView). record v { output = s.output }) rest in
    subst (λ (v : StreamsView). Prints target.StandardOutput bytes k v (Ok tt) k new) back
    (told (subst (λ (v : StreamsView). AreOpen k v) (sym back) open') (subst (λ (v : StreamsView). AreSound k v) (sym back) sound))

-- want of memory before a print
pub unprinted : {is_logged : Type 0} (to : Target) (run : ℕ → Run (Unit {0})) {old new : Runtime} {k : WorldState} → SameState old new → PrintsTo is_logged to run old k new k (Err (halt.Fault faults.OutOfMemory))
unprinted to run {old = old} {new = new} {k = k} same = record {
  steps = omega (arith, same.beside.steps);
  names = same.beside.names;
  callers = callers_stay same.beside.frames;
  told = λ t n place. (memory_changes (run n) {old = old} {new = new} same.streams same.beside.names (callers_stay same.beside.frames) (omega (arith, same.beside.steps))).means k;
}

-- the text of a format

pub format_printed : {is_logged : Type 0} (r : Result (Unit {0}) StreamFault) (to : Target) (vs : List Value) (bytes text : List ℕ) {old new : Runtime} {before after : WorldState} → format_values vs ≡ Ok text → bytes ≡ text → Beside old new
    → (is_logged → Prints to bytes before old.streams r after new.streams) → IfErr r IsOutputFault → PrintsTo is_logged to (λ n. lift (format_values vs) >>= λ text. print_bytes n text) old before new after (halted r)
format_printed r to vs bytes text {old = old} {new = new} {before = before} {after = after} formats same beside told fault = record {
  steps = omega (arith, beside.steps);
  names = beside.names;
  callers = callers_stay beside.frames;
  told = λ t n place. then_logged (λ text. print_bytes n text) (lift_logged (format_values vs) old before formats)
      (print_logged r to text n beside place (subst (λ (l : List ℕ). Prints to l before old.streams r after new.streams) same (told t)) fault);
}

unformatted : (vs : List Value) (h : Halt) {old new : Runtime} → YieldsBy (sort_of h) (format_values vs) → SameState old new → Changes (lift (format_values vs)) old new (Err h)
unfolding lift
unformatted vs h yields same = reads_changes (lift (format_values vs)) (λ s. format_values vs) (λ s. refl) same (λ s holds. yields)

pub format_fails : {is_logged : Type 0} (to : Target) (vs : List Value) (h : Halt) {old new : Runtime} {k : WorldState} → YieldsBy (sort_of h) (format_values vs) → SameState old new
    → PrintsTo is_logged to (λ n. lift (format_values vs) >>= λ text. print_bytes n text) old k new k (Err h)
format_fails to vs h {k = k} yields same = record {
  steps = omega (arith, same.beside.steps);
  names = same.beside.names;
  callers = callers_stay same.beside.frames;
  told = λ t n place. ends_logged (λ text. print_bytes n text) ((unformatted vs h yields same).means k);
}

-- a print behind a change, and to an opening that was found

pub changed_and_printed : {is_logged : Type 0} {A : Type 0} (to : Target) {first : Run A} (run : A → ℕ → Run (Unit {0})) {a : A} {old mid new : Runtime} {k after : WorldState} {r : Result (Unit {0}) Halt} → Changes first old mid (Ok a)
    → PrintsTo is_logged to (run a) mid k new after r → PrintsTo is_logged to (λ n. first >>= λ x. run x n) old k new after r
changed_and_printed to {first = first} run {a = a} {old = old} {mid = mid} {k = k} p q = record {
  steps = omega (arith, p.steps, q.steps);
  names = q.names ∙ p.names;
  callers = q.callers ∙ p.callers;
  told = λ t n place. then_logged (λ x. run x n) (p.means k) (q.told t n (subst (λ (v : StreamsView). opening_at to v k.log ≡ Some n) (sym p.streams) place));
}

pub changed_and_ended : {is_logged : Type 0} {A : Type 0} (to : Target) {first : Run A} (run : A → ℕ → Run (Unit {0})) {old mid : Runtime} {k : WorldState} {h : Halt} → Changes first old mid (Err h) → PrintsTo is_logged to (λ n. first >>= λ x. run x n) old k mid k (Err h)
changed_and_ended to run {k = k} p = record {
  steps = p.steps;
  names = p.names;
  callers = p.callers;
  told = λ t n place. ends_logged (λ x. run x n) (p.means k);
}

pub printed_to_output : {is_logged : Type 0} (run : ℕ → Run (Unit {0})) {old new : Runtime} {before after : WorldState} {r : Result (Unit {0}) Halt} → PrintsTo is_logged target.StandardOutput run old before new after r → Follows is_logged (ret 0 >>= run) old before new after r
printed_to_output run {old = old} {before = before} p = record {
  simulates = record { steps = p.steps; names = p.names; told = λ t. then_logged run (lift_logged (Ok 0) old before refl) (p.told t 0 refl) };
  callers = p.callers;
}

-- field 0 is the record
whole_record : (functions : Functions) → print_at functions (ret 0) form.Print [] ≡ print_field_at functions (pos 0)
unfolding ◌>>=◌ go_on lift record_text read_field
whole_record functions = refl

pub whole_printed : {is_logged : Type 0} (functions : Functions) {old new : Runtime} {before after : WorldState} {r : Result (Unit {0}) Halt} → Follows is_logged (print_at functions (ret 0) form.Print []) old before new after r → Follows is_logged (print_field_at functions (pos 0)) old before new after r
whole_printed {is_logged = is_logged} functions {old = old} {new = new} {before = before} {after = after} {r = r} p = subst (λ (run : Run (Unit {0})). Follows is_logged run old before new after r) (whole_record functions) p

pub opened_and_printed : {is_logged : Type 0} {opens : Run ℕ} (run : ℕ → Run (Unit {0})) {to : Target} {old mid new : Runtime} {before between after : WorldState} {r : Result (Unit {0}) Halt} → OpensTarget is_logged opens old before mid between (Ok to)
    → PrintsTo is_logged to run mid between new after r → Follows is_logged (opens >>= run) old before new after r
opened_and_printed run p q = record {
  simulates = record { steps = omega (arith, p.steps, q.steps); names = q.names ∙ p.names; told = λ t. then_logged run (p.told t).simulates (q.told t (p.told t).opening (p.told t).place) };
  callers = q.callers ∙ p.callers;
}

pub not_opened : {is_logged : Type 0} {opens : Run ℕ} (run : ℕ → Run (Unit {0})) {old mid : Runtime} {before between : WorldState} {h : Halt} → OpensTarget is_logged opens old before mid between (Err h) → Follows is_logged (opens >>= run) old before mid between (Err h)
not_opened run p = record { simulates = record { steps = p.steps; names = p.names; told = λ t. ends_logged run (p.told t) }; callers = p.callers }

-- no values are printed where there are none
pub no_values : (vs : List Value) → (length vs == 0) ≡ true → vs ≡ []
no_values [] e = refl
no_values (v ∷ vs) e = absurd (search (rules, e))

-- and else they are the line
pub some_values : {is_logged : Type 0} (to : Target) (functions : Functions) (vs : List Value) {old new : Runtime} {before after : WorldState} {r : Result (Unit {0}) Halt} → (length vs == 0) ≡ false
    → PrintsTo is_logged to (λ n. print_line n vs) old before new after r → PrintsTo is_logged to (λ n. print_by functions form.Print n vs) old before new after r
some_values to functions [] e p = absurd (search (rules, e))
some_values to functions (v ∷ vs) e p = p
