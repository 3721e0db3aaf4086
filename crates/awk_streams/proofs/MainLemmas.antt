-- What the calls for the main input tell.
use Rattle.std.proofs.Common.{◌≡◌, ◌≢◌, ◌+◌, inl, inr, ℕ, ℤ, Bool, true, false, List, [], ◌∷◌, ◌++◌, Option, Some, None, Result, Ok, Err, refl, sym, ◌∙◌, ap, subst, arith}
use Rattle.std.specs.Prelude.{is_some, IfErr, ◌==◌}
use Rattle.std.proofs.lemmas.Bool.{cond-true, cond-false, ne_eqb, eq-eqb, cases_eq}
use Rattle.awk_record.specs.Cut.{cut_of}
use Rattle.awk_record.specs.Buffer.{Pending}
use Rattle.awk_record.specs.declared.buffer.Step.{Step}
use Rattle.awk_record.specs.declared.buffer.Step.TheVariants.{NeedMore}
use Rattle.awk_record.specs.declared.buffer_fault.BufferFault.{BufferFault}
use Rattle.awk_record.specs.declared.buffer_fault.BufferFault.TheVariants.{Memory as BufferMemory}
use Rattle.awk_world.specs.declared.world.InputKind.{InputKind}
use Rattle.awk_world.specs.declared.world.InputKind.TheVariants.{Standard, File, Command}
use Rattle.awk_world.specs.definitions.Log.{Event, DidNot, OpenedInput, Closed}
use Rattle.awk_world.specs.declared.world.WorldFault.TheVariants.{Memory as WorldMemory}
use Rattle.awk_world.specs.definitions.Oracle.{Oracle, Source, IsConsistent, SameCounts, AnInput, one_if, how_many, opens_input, closes_command, is_command, standing, new_reading}
use Rattle.awk_world.specs.definitions.Orderly.{IsInOrder}
use Rattle.awk_world.specs.definitions.WorldState.{WorldState, Logs, SameOpen, IsFresh, Opens, Closes, MayFailInside}
use Rattle.awk_world.specs.definitions.Writes.{with_events}
use Rattle.awk_world.specs.definitions.Openings.{openings, in_order, is_flushed}
use Rattle.awk_streams.specs.declared.fault.StreamFault.{StreamFault}
use Rattle.awk_streams.specs.declared.fault.StreamFault.TheVariants.{Memory, WriteFailed, InputNotReadable, OutputNotOpened, TooManyStreams, RecordTooLong}
use Rattle.awk_streams.specs.declared.input.Input.{Input}
use Rattle.awk_streams.specs.declared.named.NamedStream.{NamedStream}
use Rattle.awk_streams.specs.definitions.Inputs.{IsInputFault}
use Rattle.awk_streams.specs.definitions.Streams.{StreamsView, number_of, IsOpenMain, AreOpenNamed, AreOthers, IsApartFrom, AreOpen, ClosesMain, held_of, with_held, IsSoundInput, IsSoundMain, is_of_main, AreSound, IsRestOf, StandFor, FailsInside}
use Rattle.awk_streams.specs.definitions.MainInput.{OpensMain, AsksMain, EndsMain, closed_main}
use Rattle.awk_streams.specs.support.Kept.{SameAt, SameFor}
use Rattle.awk_streams.specs.support.Pulls.{IsToldAs}
use Rattle.awk_streams.specs.support.Asks.{Takes}
use Rattle.awk_streams.proofs.GrowsLemmas.{grows_on, logs_grow, failed_there}
use Rattle.awk_streams.proofs.KeptLemmas.{same_counts-self}
use Rattle.awk_streams.proofs.StreamsLemmas.{sound_same, stand_same, same_for_all, same_for_others}
use Rattle.awk_streams.proofs.OwnedLemmas.{is_other, closed_main_none}
use Rattle.awk_streams.proofs.ViewLemmas.{open_named_on}
use Rattle.awk_streams.proofs.OpenLemmas.{grants_input, granted_order, opens_keep, opens_here, fresh_others, refuses_input, new_input_sound}
use Rattle.awk_streams.proofs.OpensLemmas.{counts_input, left_stand}
use Rattle.awk_streams.proofs.AskLemmas.{next_told, told_memory, memory_told, reaches_openings, reaches_streams, reaches_others, reaches_flushed, reaches_open, asked_sound, asked_order, asked_rest}

same_error : {T : Type 0} (r : Result T StreamFault) (x y : StreamFault) → r ≡ Err x → r ≡ Err y → x ≡ y
same_error r x y p q = cc

no_ending : {P T : Type 0} (e : T) → None ≡ Some e → P
no_ending e is = cc

-- a granted opening

open_named_more : (before after : WorldState) (id : ℕ) (xs : List NamedStream) → Opens before after id → AreOpenNamed before xs → AreOpenNamed after xs
open_named_more before after id [] opens h = tt
open_named_more before after id (x ∷ xs) opens h = (opens_keep before after id (number_of x) opens h.0, h.1, open_named_more before after id xs opens h.2)

main_opened_open : (before after : WorldState) (s : StreamsView) (id : ℕ) (p : Pending) → AreOpen before s → IsFresh before id → Opens before after id → AreOpen after record s { main = Some record { id = id; pending = p } }
main_opened_open before after s id p h fresh opens = record {
  main = (opens_here before after id opens, fresh.named);
  named = open_named_more before after id s.named opens h.named;
  apart = h.apart;
  apart_from_main = fresh_others before id s.named fresh h.named;
}

fresh_sound : (kind : InputKind) (name : List ℕ) (id : ℕ) (log : List Event) (p : Pending) → p ≡ record { bytes = []; ending = None } → IsSoundInput (OpenedInput kind name (Some id) ∷ log) kind record { id = id; pending = p }
fresh_sound kind name id log p is = subst (λ (q : Pending). IsSoundInput (OpenedInput kind name (Some id) ∷ log) kind record { id = id; pending = q }) (sym is) (new_input_sound kind name id log)

main_opened_sound : (before after : WorldState) (s : StreamsView) (kind : InputKind) (name : List ℕ) (id : ℕ) (p : Pending) → s.main ≡ None → kind ≢ Command → p ≡ record { bytes = []; ending = None } → AreOpen before s → AreSound before s → IsFresh before id → Opens before after id →
    after.log ≡ OpenedInput kind name (Some id) ∷ before.log → AreSound after record s { main = Some record { id = id; pending = p } }
main_opened_sound before after s kind name id p none plain empty open' h fresh opens is =
    let event : Event = OpenedInput kind name (Some id) in
    let log : List Event = event ∷ before.log in
    let grants = grants_input id kind name before.log in
    let new : StreamsView = record s { main = Some record { id = id; pending = p } } in
    subst (λ (l : List Event). AreSound record after { log = l } new) (sym is) record {
      order = granted_order before after id event grants fresh opens h.order;
      main = (kind, plain, fresh_sound kind name id before.log p empty);
      named = sound_same s.named before.log log (same_for_others id s.named before.log log grants.others (fresh_others before id s.named fresh open'.named)) h.named;
      once = h.once;
      few = h.few;
      flushed = λ j other. grants.flushed j ∙ h.flushed j other;
      owned = λ j no_main no_named. (grants.others j (is_other id j no_main)).stands ∙ h.owned j (ap (is_of_main j) none) no_named;
    }

pub new_rest : (a : Oracle) (kind : InputKind) (name : List ℕ) (id : ℕ) (log : List Event) (p : Pending) (s : Source) → p ≡ record { bytes = []; ending = None } → a.input kind name (how_many (opens_input kind name) log) ≡ Some s → IsRestOf a (OpenedInput kind name (Some id) ∷ log) record { id = id; pending = p } s
new_rest a kind name id log p s is answer = (
  s,
  refl,
  record {
    reading = new_reading kind name log;
    stands = cond-true _ _ _ (eq-eqb id id refl);
    answer = answer;
    more = s.bytes;
    begins = refl;
    same = ap (λ (q : Pending). q.bytes ++ s.bytes) (sym is);
    over = λ e some. no_ending e (sym (ap (λ (q : Pending). q.ending) is) ∙ some);
  },
)

main_opened_told : (before after : WorldState) (s : StreamsView) (kind : InputKind) (name : List ℕ) (id : ℕ) (p : Pending) (u : Unit {0}) → p ≡ record { bytes = []; ending = None } → AreOpen before s → IsFresh before id → Opens before after id →
    after.log ≡ OpenedInput kind name (Some id) ∷ before.log → after.failures ≡ before.failures → OpensMain kind name before s (Ok u) after record s { main = Some record { id = id; pending = p } }
main_opened_told before after s kind name id p u empty open' fresh opens is same_failure =
    let event : Event = OpenedInput kind name (Some id) in
    let log : List Event = event ∷ before.log in
    let grants = grants_input id kind name before.log in
    let new : StreamsView = record s { main = Some record { id = id; pending = p } } in
    subst (λ (l : List Event). OpensMain kind name before s (Ok u) record after { log = l } new) (sym is) record {
      grows = grows_on (event ∷ []) before record after { log = log } refl same_failure;
      adds = refl;
      same = refl;
      printed = refl;
      counts = λ differs. counts_input kind name (Some id) before.log before.log (same_counts-self before.log);
      granted = λ a consistent. (consistent.0.0, consistent.0.1, new_rest a kind name id before.log p consistent.0.0 empty consistent.0.1);
      refused = λ e. let bad : Ok u ≡ Err InputNotReadable = e in absurd cc;
      named = λ a zs h. stand_same a s.named zs before.log log (same_for_others id s.named before.log log grants.others (fresh_others before id s.named fresh open'.named)) h;
      failure = same_failure;
    }

-- the same of the streams as the code has them

pub open_main_open : (before after : WorldState) (old s : StreamsView) (id : ℕ) (p : Pending) → s ≡ old → AreOpen before old → IsFresh before id → Opens before after id → AreOpen after record s { main = Some record { id = id; pending = p } }
open_main_open before after old s id p is h fresh opens = main_opened_open before after s id p (subst (λ (v : StreamsView). AreOpen before v) (sym is) h) fresh opens

pub open_main_sound : (before after : WorldState) (old s : StreamsView) (kind : InputKind) (name : List ℕ) (id : ℕ) (p : Pending) → s ≡ old → old.main ≡ None → kind ≢ Command → p ≡ record { bytes = []; ending = None } → AreOpen before old → AreSound before old → IsFresh before id → Opens before after id →
    after.log ≡ OpenedInput kind name (Some id) ∷ before.log → AreSound after record s { main = Some record { id = id; pending = p } }
open_main_sound before after old s kind name id p is none plain empty open' h fresh opens log =
    main_opened_sound before after s kind name id p (ap (λ (v : StreamsView). v.main) is ∙ none) plain empty (subst (λ (v : StreamsView). AreOpen before v) (sym is) open') (subst (λ (v : StreamsView). AreSound before v) (sym is) h) fresh opens log

pub open_main_told : (before after : WorldState) (old s : StreamsView) (kind : InputKind) (name : List ℕ) (id : ℕ) (p : Pending) (u : Unit {0}) → s ≡ old → p ≡ record { bytes = []; ending = None } → AreOpen before old → IsFresh before id → Opens before after id →
    after.log ≡ OpenedInput kind name (Some id) ∷ before.log → after.failures ≡ before.failures → OpensMain kind name before old (Ok u) after record s { main = Some record { id = id; pending = p } }
open_main_told before after old s kind name id p u is empty open' fresh opens log same_failure =
    subst (λ (v : StreamsView). OpensMain kind name before v (Ok u) after record s { main = Some record { id = id; pending = p } }) is
    (main_opened_told before after s kind name id p u empty (subst (λ (v : StreamsView). AreOpen before v) (sym is) open') fresh opens log same_failure)

-- a refused opening, and one for which there is no memory

pub open_main_refused : (kind : InputKind) (name : List ℕ) (before after : WorldState) (s : StreamsView) → after.log ≡ OpenedInput kind name None ∷ before.log → after.failures ≡ before.failures → OpensMain kind name before s (Err InputNotReadable) after s
open_main_refused kind name before after s is same_failure =
    let event : Event = OpenedInput kind name None in
    let leaves = refuses_input kind name before.log in
    subst (λ (l : List Event). OpensMain kind name before s (Err InputNotReadable) record after { log = l } s) (sym is) record {
      grows = grows_on (event ∷ []) before record after { log = event ∷ before.log } refl same_failure;
      adds = refl;
      same = refl;
      printed = refl;
      counts = λ differs. counts_input kind name None before.log before.log (same_counts-self before.log);
      granted = tt;
      refused = λ e a consistent. consistent.0;
      named = λ a zs h. left_stand a before record after { log = event ∷ before.log } event s.named zs leaves refl h;
      failure = same_failure;
    }

pub open_main_unasked : (kind : InputKind) (name : List ℕ) (before after : WorldState) (s : StreamsView) → Logs (DidNot None WorldMemory) before after → OpensMain kind name before s (Err Memory) after s
open_main_unasked kind name before after s (is, fails) = record {
  grows = logs_grow (DidNot None WorldMemory) before after (is, fails);
  adds = is;
  same = refl;
  printed = ap (λ (l : List Event). in_order (with_held (held_of s) (openings l))) is;
  counts = λ differs. absurd (differs refl);
  granted = tt;
  refused = λ e. let bad : Err Memory ≡ Err InputNotReadable = e in absurd cc;
  named = λ a zs h. subst (λ (l : List Event). StandFor a l s.named zs) (sym is) h;
  failure = inr (failed_there None WorldMemory before after (is, fails));
}

-- the next record

main_id : (before : WorldState) (s : StreamsView) (old : Input) → s.main ≡ Some old → AreOpen before s → IsOpenMain before (Some old)
main_id before s old is h = subst (λ (m : Option Input). IsOpenMain before m) is h.main

input_others : (before : WorldState) (s : StreamsView) (old : Input) → s.main ≡ Some old → AreOpen before s → AreOthers old.id s.named
input_others before s old is h = subst (λ (m : Option Input). IsApartFrom m s.named) is h.apart_from_main

asked_main_open : (before after : WorldState) (s : StreamsView) (old new : Input) → s.main ≡ Some old → AreOpen before s → SameOpen before after → new.id ≡ old.id → AreOpen after record s { main = Some new }
asked_main_open before after s old new is h same id =
    let main = main_id before s old is h in
    record {
      main = (ap after.is_open id ∙ (same old.id ∙ main.0), omega (arith, id, main.1));
      named = open_named_on before after s.named same h.named;
      apart = h.apart;
      apart_from_main = subst (λ (i : ℕ). AreOthers i s.named) (sym id) (input_others before s old is h);
    }

sound_main : (before : WorldState) (s : StreamsView) (old : Input) → s.main ≡ Some old → AreSound before s → IsSoundMain before.log (Some old)
sound_main before s old is h = subst (λ (m : Option Input). IsSoundMain before.log m) is h.main

asked_main_sound : (separator : List ℕ) (before after : WorldState) (s : StreamsView) (old new : Input) (step : Result Step BufferFault) → s.main ≡ Some old → AreOpen before s → AreSound before s → SameOpen before after → Takes separator before old step after new → AreSound after record s { main = Some new }
asked_main_sound separator before after s old new step is open' h same takes =
    let main = sound_main before s old is h in
    let others : SameFor s.named before.log after.log = same_for_others old.id s.named before.log after.log (λ j differs. reaches_others old.id j separator old.pending takes.pulls.seen before.log after.log takes.pulls.reads differs) (input_others before s old is open') in
    record {
      order = asked_order separator before after main.0 old new step same main.2 takes h.order;
      main = (main.0, main.1, asked_sound separator before after main.0 old new step main.2 takes);
      named = sound_same s.named before.log after.log others h.named;
      once = h.once;
      few = h.few;
      flushed = λ j other. reaches_flushed old.id j separator old.pending takes.pulls.seen before.log after.log takes.pulls.reads ∙ h.flushed j other;
      owned = λ j no_main no_named.
          (reaches_streams old.id separator old.pending takes.pulls.seen before.log after.log takes.pulls.reads).stands j ∙
          h.owned j (ap (is_of_main j) is ∙ (ap (λ i. i == j) (sym takes.id) ∙ no_main)) no_named;
    }

pub step_failure : {T : Type 0} (before after : WorldState) (step : Result Step BufferFault) (result : Result T StreamFault) → (result ≢ Err Memory → step ≢ Err BufferMemory) → (result ≡ Err Memory → step ≡ Err BufferMemory) → result ≢ Err WriteFailed →
    (step ≢ Err BufferMemory → after.failures ≡ before.failures) → (step ≡ Err BufferMemory → MayFailInside before after) → FailsInside result before after
step_failure before after step (Ok x) differs is ok same fails = same (differs (λ (e : Ok x ≡ Err Memory). cc))
step_failure before after step (Err Memory) differs is ok same fails = fails (is refl)
step_failure before after step (Err WriteFailed) differs is ok same fails = absurd (ok refl)
step_failure before after step (Err InputNotReadable) differs is ok same fails = same (differs (λ (e : Err InputNotReadable ≡ Err Memory). cc))
step_failure before after step (Err OutputNotOpened) differs is ok same fails = same (differs (λ (e : Err OutputNotOpened ≡ Err Memory). cc))
step_failure before after step (Err TooManyStreams) differs is ok same fails = same (differs (λ (e : Err TooManyStreams ≡ Err Memory). cc))
step_failure before after step (Err RecordTooLong) differs is ok same fails = same (differs (λ (e : Err RecordTooLong ≡ Err Memory). cc))

asked_main_told : (separator : List ℕ) (before after : WorldState) (s : StreamsView) (old new : Input) (step : Result Step BufferFault) (result : Result (Option (List ℕ)) StreamFault) → s.main ≡ Some old → AreOpen before s → AreSound before s → step ≢ Ok NeedMore → Takes separator before old step after new → IsToldAs step result →
    result ≢ Err WriteFailed → AsksMain separator before s result after record s { main = Some new }
asked_main_told separator before after s old new step result is open' h needs takes says ok =
    let main = sound_main before s old is h in
    let pulls = takes.pulls in
    let new_view : StreamsView = record s { main = Some new } in
    let from_old : AsksMain separator before record s { main = Some old } result after new_view = record {
      grows = takes.grows;
      same = refl;
      request = ((pulls.seen, pulls.reads), reaches_open old.id separator old.pending pulls.seen before.log after.log pulls.reads main.2.readable);
      printed = ap (λ os. in_order (with_held (held_of s) os)) (reaches_openings old.id separator old.pending pulls.seen before.log after.log pulls.reads);
      counts = (reaches_streams old.id separator old.pending pulls.seen before.log after.log pulls.reads).counts;
      answered = λ differs a whole consistent rest.
          let next = asked_rest separator before after old new step needs (λ memory. differs (memory_told step result says memory)) takes a whole consistent rest in
          (next.0, next_told (cut_of separator whole.bytes whole.ending) step result whole.bytes next.0 says next.1, next.2);
      named = λ a zs k. stand_same a s.named zs before.log after.log (same_for_others old.id s.named before.log after.log (λ j differs. reaches_others old.id j separator old.pending pulls.seen before.log after.log pulls.reads differs) (input_others before s old is open')) k;
      failure = step_failure before after step result (λ differs memory. differs (memory_told step result says memory)) (λ memory. told_memory step result says memory) ok takes.no_failure takes.failure;
    } in
    subst (λ (m : Option Input). AsksMain separator before record s { main = m } result after new_view) (sym is) from_old

pub next_main_open : (before after : WorldState) (old s : StreamsView) (was new : Input) → s ≡ old → s.main ≡ Some was → AreOpen before old → SameOpen before after → new.id ≡ was.id → AreOpen after record s { main = Some new }
next_main_open before after old s was new is main h same id = asked_main_open before after s was new main (subst (λ (v : StreamsView). AreOpen before v) (sym is) h) same id

pub next_main_sound : (separator : List ℕ) (before after : WorldState) (old s : StreamsView) (was new : Input) (step : Result Step BufferFault) → s ≡ old → s.main ≡ Some was → AreOpen before old → AreSound before old → SameOpen before after → Takes separator before was step after new → AreSound after record s { main = Some new }
next_main_sound separator before after old s was new step is main open' h same takes =
    asked_main_sound separator before after s was new step main (subst (λ (v : StreamsView). AreOpen before v) (sym is) open') (subst (λ (v : StreamsView). AreSound before v) (sym is) h) same takes

pub next_main_told : (separator : List ℕ) (before after : WorldState) (old s : StreamsView) (was new : Input) (step : Result Step BufferFault) (result : Result (Option (List ℕ)) StreamFault) → s ≡ old → s.main ≡ Some was → AreOpen before old → AreSound before old → step ≢ Ok NeedMore → Takes separator before was step after new →
    IsToldAs step result → result ≢ Err WriteFailed → AsksMain separator before old result after record s { main = Some new }
next_main_told separator before after old s was new step result is main open' h needs takes says ok =
    subst (λ (v : StreamsView). AsksMain separator before v result after record s { main = Some new }) is
    (asked_main_told separator before after s was new step result main (subst (λ (v : StreamsView). AreOpen before v) (sym is) open') (subst (λ (v : StreamsView). AreSound before v) (sym is) h) needs takes says ok)

pub not_a_write : {T : Type 0} (result : Result T StreamFault) → IfErr result IsInputFault → result ≢ Err WriteFailed
not_a_write (Ok x) h = λ (e : Ok x ≡ Err WriteFailed). cc
not_a_write (Err fault) h = λ e. subst (λ (f : StreamFault). IsInputFault f) (same_error (Err fault) fault WriteFailed refl e) h

-- the end of the main input

false_true : {P : Type 0} → false ≡ true → P
false_true e = cc

close_named : (before after : WorldState) (id : ℕ) (xs : List NamedStream) → Closes before after id → AreOthers id xs → AreOpenNamed before xs → AreOpenNamed after xs
close_named before after id [] closes others h = tt
close_named before after id (x ∷ xs) closes others h = (closes (number_of x) ∙ (cond-false _ _ _ (ne_eqb (number_of x) id others.0) ∙ h.0), h.1, close_named before after id xs closes others.1 h.2)

close_main_named : (before after : WorldState) (main : Option Input) (xs : List NamedStream) → ClosesMain before after main → IsApartFrom main xs → AreOpenNamed before xs → AreOpenNamed after xs
close_main_named before after None xs closes apart h = open_named_on before after xs closes h
close_main_named before after (Some input) xs closes apart h = close_named before after input.id xs closes apart h

pub closed_at : (id j : ℕ) (n : ℤ) (log : List Event) → j ≢ id → SameAt j log (Closed id n ∷ log)
closed_at id j n log differs = record {
  stands = cond-false _ _ _ (ne_eqb id j (λ (e : id ≡ j). differs (sym e)));
  reads = cond-false _ _ _ (ne_eqb id j (λ (e : id ≡ j). differs (sym e)));
  place = refl;
}

closed_for : (main : Option Input) (xs : List NamedStream) (n : ℤ) (log : List Event) → IsApartFrom main xs → SameFor xs log (closed_main main n log)
closed_for None xs n log apart = same_for_all xs log log (λ j. record { stands = refl; reads = refl; place = refl })
closed_for (Some input) xs n log apart = same_for_others input.id xs log (Closed input.id n ∷ log) (λ j differs. closed_at input.id j n log differs) apart

pub closed_known : (before after : WorldState) (id : ℕ) (n : ℤ) (log : List Event) → Closes before after id → is_some (standing id log) ≡ true → IsInOrder before.is_open log → IsInOrder after.is_open (Closed id n ∷ log)
closed_known before after id n log closes stands order = record {
  orderly = (stands, order.orderly);
  known = λ j some. elim (cases_eq id j) [
    | inl same ↦
        let none : standing j (Closed id n ∷ log) ≡ None = cond-true _ _ _ (eq-eqb id j same) in
        false_true (sym (ap is_some none) ∙ some)
    | inr differs ↦
        let still : standing j (Closed id n ∷ log) ≡ standing j log = cond-false _ _ _ (ne_eqb id j differs) in
        closes j ∙ (cond-false _ _ _ (ne_eqb j id (λ (e : j ≡ id). differs (sym e))) ∙ order.known j (sym (ap is_some still) ∙ some))
  ];
}

closed_order : (main : Option Input) (n : ℤ) (before after : WorldState) (log : List Event) → ClosesMain before after main → IsInOrder before.is_open log → IsSoundMain log main → IsInOrder after.is_open (closed_main main n log)
closed_order None n before after log closes order h = record { orderly = order.orderly; known = λ j some. closes j ∙ order.known j some }
closed_order (Some input) n before after log closes order h = closed_known before after input.id n log closes (ap is_some h.2.stands) order

pub closed_flushed : (id j : ℕ) (n : ℤ) (log : List Event) → is_flushed j log ≡ true → is_flushed j (Closed id n ∷ log) ≡ true
closed_flushed id j n log h = elim (cases_eq id j) [
  | inl same ↦ cond-true _ _ _ (eq-eqb id j same)
  | inr differs ↦ cond-false _ _ _ (ne_eqb id j differs) ∙ h
]

main_flushed : (main : Option Input) (j : ℕ) (n : ℤ) (log : List Event) → is_flushed j log ≡ true → is_flushed j (closed_main main n log) ≡ true
main_flushed None j n log h = h
main_flushed (Some input) j n log h = closed_flushed input.id j n log h

plain_input : (kind : InputKind) → kind ≢ Command → is_command (Some (AnInput kind)) ≡ false
plain_input Standard plain = refl
plain_input File plain = refl
plain_input Command plain = absurd (plain refl)

none_more : (n : ℕ) → 0 + n ≡ n
none_more n = omega arith

no_command : (log : List Event) (input : Input) → IsSoundMain log (Some input) → is_command (standing input.id log) ≡ false
no_command log input h = ap is_command h.2.stands ∙ plain_input h.0 h.1

main_counts : (main : Option Input) (n : ℤ) (log : List Event) → IsSoundMain log main → SameCounts log (closed_main main n log)
main_counts None n log h = same_counts-self log
main_counts (Some input) n log h = record {
  inputs = λ kind name. none_more _;
  outputs = λ kind name. none_more _;
  closings = ap (λ (b : Bool). one_if b + how_many closes_command log) (no_command log input h) ∙ none_more _;
  runs = none_more _;
}

main_consistent : (main : Option Input) (n : ℤ) (log : List Event) (a : Oracle) → IsSoundMain log main → IsConsistent a log → IsConsistent a (closed_main main n log)
main_consistent None n log a h consistent = consistent
main_consistent (Some input) n log a h consistent = (λ command. false_true (sym (no_command log input h) ∙ command), consistent)

closing_events : Option Input → ℤ → List Event
closing_events None n = []
closing_events (Some input) n = Closed input.id n ∷ []

closing_is : (main : Option Input) (n : ℤ) (log : List Event) → closed_main main n log ≡ with_events (closing_events main n) log
unfolding closing_events
closing_is None n log = refl
closing_is (Some input) n log = refl

main_openings : (main : Option Input) (n : ℤ) (log : List Event) → openings (closed_main main n log) ≡ openings log
main_openings None n log = refl
main_openings (Some input) n log = refl

pub close_main_open : (before after : WorldState) (old s : StreamsView) → s ≡ old → AreOpen before old → ClosesMain before after old.main → AreOpen after record s { main = None }
close_main_open before after old s is h closes =
    subst (λ (v : StreamsView). AreOpen after record v { main = None }) (sym is) record { main = tt; named = close_main_named before after old.main old.named closes h.apart_from_main h.named; apart = h.apart; apart_from_main = tt }

pub close_main_sound : (before after : WorldState) (old s : StreamsView) (n : ℤ) → s ≡ old → AreOpen before old → AreSound before old → ClosesMain before after old.main → after.log ≡ closed_main old.main n before.log → AreSound after record s { main = None }
close_main_sound before after old s n is open' h closes log =
    subst (λ (v : StreamsView). AreSound after record v { main = None }) (sym is) (subst (λ (l : List Event). AreSound record after { log = l } record old { main = None }) (sym log) record {
      order = closed_order old.main n before after before.log closes h.order h.main;
      main = tt;
      named = sound_same old.named before.log (closed_main old.main n before.log) (closed_for old.main old.named n before.log open'.apart_from_main) h.named;
      once = h.once;
      few = h.few;
      flushed = λ j other. main_flushed old.main j n before.log (h.flushed j other);
      owned = λ j no_main no_named. closed_main_none old.main j n before.log (λ other. h.owned j other no_named);
    })

pub close_main_told : (before after : WorldState) (old s : StreamsView) (n : ℤ) → s ≡ old → AreOpen before old → AreSound before old → after.log ≡ closed_main old.main n before.log → after.failures ≡ before.failures → EndsMain before old after record s { main = None }
close_main_told before after old s n is open' h log same_failure =
    let closed : List Event = closed_main old.main n before.log in
    subst (λ (v : StreamsView). EndsMain before old after record v { main = None }) (sym is) (subst (λ (l : List Event). EndsMain before old record after { log = l } record old { main = None }) (sym log) record {
      grows = grows_on (closing_events old.main n) before record after { log = closed } (closing_is old.main n before.log) same_failure;
      consistent = λ a. main_consistent old.main n before.log a h.main;
      adds = (n, refl);
      same = refl;
      printed = ap (λ os. in_order (with_held (held_of old) os)) (main_openings old.main n before.log);
      counts = main_counts old.main n before.log h.main;
      named = λ a zs k. stand_same a old.named zs before.log closed (closed_for old.main old.named n before.log open'.apart_from_main) k;
      no_failure = same_failure;
    })
