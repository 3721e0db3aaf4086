-- A named stream that is opened, from what goes before to what is told.
use Rattle.std.proofs.Common.{◌≡◌, ◌+◌, ℕ, Bool, false, List, [], ◌∷◌, ◌++◌, length, Option, Some, None, Ok, Err, refl, sym, ◌∙◌, ap, subst, arith}
use Rattle.std.specs.Prelude.{◌&&◌, bytes_eq, slice_get, if◌then◌else◌}
use Rattle.std.specs.List.{position, position_from}
use Rattle.std.proofs.lemmas.Bool.{cond-false, ne_eqb}
use Rattle.std.proofs.lemmas.Iterator.Adapters.{position_from-zero}
use Rattle.awk_world.specs.declared.world.InputKind.{InputKind}
use Rattle.awk_world.specs.declared.world.OutputKind.{OutputKind}
use Rattle.awk_world.specs.declared.world.Mode.{Mode}
use Rattle.awk_world.specs.definitions.Log.{Event, OpenedInput, OpenedOutput}
use Rattle.awk_world.specs.definitions.Oracle.{Oracle, Source, SameCounts, same_input_kind, same_output_kind}
use Rattle.awk_world.specs.definitions.Writes.{GoesOn}
use Rattle.awk_world.specs.definitions.WorldState.{WorldState, IsFresh}
use Rattle.awk_world.specs.definitions.Openings.{Opening, Named, openings, in_order, receives, Begins}
use Rattle.awk_streams.specs.declared.fault.StreamFault.{StreamFault}
use Rattle.awk_streams.specs.declared.input.Input.{Input}
use Rattle.awk_streams.specs.declared.named.NamedStream.{NamedStream}
use Rattle.awk_streams.specs.declared.named.NamedStream.TheVariants as named
use Rattle.awk_streams.specs.definitions.Named as words
use Rattle.awk_streams.specs.definitions.Streams.{StreamsView, number_of, name_of, numbered, AreOthers, AreOpen, held_in, held_of, with_held, printed_openings, IsMainRest, StandsFor, StandFor, AreBringing}
use Rattle.awk_streams.specs.definitions.MainInput.{CountsInput}
use Rattle.awk_streams.specs.definitions.Lost.{AreSpent}
use Rattle.awk_streams.specs.definitions.NamedOutputs.{CountsOutput, LosesBytes}
use Rattle.awk_streams.specs.support.Held.{AreOtherOutputs}
use Rattle.awk_streams.specs.support.Places.{is_named_input, is_named_output}
use Rattle.awk_streams.specs.support.Asks.{Prepares, FindsNoMemory, new_output, new_input}
use Rattle.awk_streams.proofs.LostLemmas.{spares_all, spent_inside}
use Rattle.awk_streams.proofs.OpeningsLemmas.{receives-none}
use Rattle.awk_streams.proofs.HeldLemmas.{with_held-append}
use Rattle.awk_streams.proofs.PlaceLemmas.{length-in_order, length-held}
use Rattle.awk_streams.proofs.StreamsLemmas.{main_rest_same, stand_same, same_for_all, same_for_others, same_for_main}
use Rattle.awk_streams.proofs.NamedLemmas.{other_outputs}
use Rattle.awk_streams.proofs.BringLemmas.{begins-self}
use Rattle.awk_streams.proofs.OpenLemmas.{Grants, LeavesAll, fresh_others, main_other}

-- the place of a stream goes by its name

abbrev place_among : (words.Named → Bool) → ℕ → List (words.Named × ℕ) → Option ℕ
place_among q i [] = None
place_among q i (x ∷ xs) = if q x.0 then Some i else place_among q (i + 1) xs

abbrev is_output_as : OutputKind → List ℕ → words.Named → Bool
is_output_as kind name (words.Input k n) = false
is_output_as kind name (words.Output k n) = same_output_kind k kind && bytes_eq n name

abbrev is_input_as : InputKind → List ℕ → words.Named → Bool
is_input_as kind name (words.Input k n) = same_input_kind k kind && bytes_eq n name
is_input_as kind name (words.Output k n) = false

outputs_by_name : (kind : OutputKind) (name : List ℕ) (i : ℕ) (xs : List NamedStream) → position_from (is_named_output kind name) i xs ≡ place_among (is_output_as kind name) i (numbered xs)
outputs_by_name kind name i [] = refl
outputs_by_name kind name i (named.Input k n input ∷ xs) = outputs_by_name kind name (i + 1) xs
outputs_by_name kind name i (named.Output k n output ∷ xs) = ap (λ o. if same_output_kind k kind && bytes_eq n name then Some i else o) (outputs_by_name kind name (i + 1) xs)

inputs_by_name : (kind : InputKind) (name : List ℕ) (i : ℕ) (xs : List NamedStream) → position_from (is_named_input kind name) i xs ≡ place_among (is_input_as kind name) i (numbered xs)
inputs_by_name kind name i [] = refl
inputs_by_name kind name i (named.Input k n input ∷ xs) = ap (λ o. if same_input_kind k kind && bytes_eq n name then Some i else o) (inputs_by_name kind name (i + 1) xs)
inputs_by_name kind name i (named.Output k n output ∷ xs) = inputs_by_name kind name (i + 1) xs

pub same_output_place : (kind : OutputKind) (name : List ℕ) (xs ys : List NamedStream) → numbered ys ≡ numbered xs → position (is_named_output kind name) ys ≡ position (is_named_output kind name) xs
same_output_place kind name xs ys same =
    position_from-zero (is_named_output kind name) ys ∙ (outputs_by_name kind name 0 ys ∙ (ap (place_among (is_output_as kind name) 0) same ∙ (sym (outputs_by_name kind name 0 xs) ∙ sym (position_from-zero (is_named_output kind name) xs))))

pub same_input_place : (kind : InputKind) (name : List ℕ) (xs ys : List NamedStream) → numbered ys ≡ numbered xs → position (is_named_input kind name) ys ≡ position (is_named_input kind name) xs
same_input_place kind name xs ys same =
    position_from-zero (is_named_input kind name) ys ∙ (inputs_by_name kind name 0 ys ∙ (ap (place_among (is_input_as kind name) 0) same ∙ (sym (inputs_by_name kind name 0 xs) ∙ sym (position_from-zero (is_named_input kind name) xs))))

-- counts

none_more : (n : ℕ) → 0 + n ≡ n
none_more n = omega arith

pub counts_output : (kind : OutputKind) (name : List ℕ) (mode : Mode) (id : Option ℕ) (old mid : List Event) → SameCounts old mid → CountsOutput kind name old (OpenedOutput kind name mode id ∷ mid)
counts_output kind name mode id old mid same = record {
  inputs = λ k n. none_more _ ∙ same.inputs k n;
  outputs = λ k n. ap (λ m. (if same_output_kind k kind && bytes_eq n name then 1 else 0) + m) (same.outputs k n);
  closings = none_more _ ∙ same.closings;
  runs = none_more _ ∙ same.runs;
}

pub counts_input : (kind : InputKind) (name : List ℕ) (id : Option ℕ) (old mid : List Event) → SameCounts old mid → CountsInput kind name old (OpenedInput kind name id ∷ mid)
counts_input kind name id old mid same = record {
  inputs = λ k n. ap (λ m. (if same_input_kind k kind && bytes_eq n name then 1 else 0) + m) (same.inputs k n);
  outputs = λ k n. none_more _ ∙ same.outputs k n;
  closings = none_more _ ∙ same.closings;
  runs = none_more _ ∙ same.runs;
}

-- one stream more

pub numbered-append : (xs : List NamedStream) (x : NamedStream) → numbered (xs ++ x ∷ []) ≡ numbered xs ++ (name_of x, number_of x) ∷ []
numbered-append [] x = refl
numbered-append (y ∷ ys) x = ap (λ l. (name_of y, number_of y) ∷ l) (numbered-append ys x)

pub get_last : (xs : List NamedStream) (x : NamedStream) → slice_get (xs ++ x ∷ []) (length xs) ≡ Some x
get_last [] x = refl
get_last (y ∷ ys) x = get_last ys x

stand_append : (a : Oracle) (log : List Event) (xs : List NamedStream) (zs : List words.Stream) (x : NamedStream) (z : words.Stream) → StandFor a log xs zs → StandsFor a log x z → StandFor a log (xs ++ x ∷ []) (zs ++ z ∷ [])
stand_append a log [] [] x z h here = (here, tt)
stand_append a log [] (w ∷ ws) x z h here = absurd h
stand_append a log (y ∷ ys) [] x z h here = absurd h
stand_append a log (y ∷ ys) (w ∷ ws) x z h here = (h.0, stand_append a log ys ws x z h.1 here)

pub added_stand : (a : Oracle) (mid after : WorldState) (id : ℕ) (e : Event) (xs : List NamedStream) (zs : List words.Stream) (x : NamedStream) (z : words.Stream) → Grants id e mid.log → AreOthers id xs → after.log ≡ e ∷ mid.log → StandFor a mid.log xs zs → StandsFor a (e ∷ mid.log) x z →
    StandFor a after.log (xs ++ x ∷ []) (zs ++ z ∷ [])
added_stand a mid after id e xs zs x z grants others is h here =
    subst (λ (l : List Event). StandFor a l (xs ++ x ∷ []) (zs ++ z ∷ [])) (sym is)
    (stand_append a (e ∷ mid.log) xs zs x z (stand_same a xs zs mid.log (e ∷ mid.log) (same_for_others id xs mid.log (e ∷ mid.log) grants.others others) h) here)

pub added_main : (a : Oracle) (mid after : WorldState) (id : ℕ) (e : Event) (s : StreamsView) (rest : Option Source) → Grants id e mid.log → IsFresh mid id → AreOpen mid s → after.log ≡ e ∷ mid.log → IsMainRest a mid.log s.main rest → IsMainRest a after.log s.main rest
added_main a mid after id e s rest grants fresh open' is h =
    subst (λ (l : List Event). IsMainRest a l s.main rest) (sym is) (main_rest_same a s.main rest mid.log (e ∷ mid.log) (main_other mid id s.main fresh open'.main mid.log (e ∷ mid.log) grants.others) h)

-- an opening that is refused changes nothing that stands

pub left_stand : (a : Oracle) (mid after : WorldState) (e : Event) (xs : List NamedStream) (zs : List words.Stream) → LeavesAll e mid.log → after.log ≡ e ∷ mid.log → StandFor a mid.log xs zs → StandFor a after.log xs zs
left_stand a mid after e xs zs leaves is h = subst (λ (l : List Event). StandFor a l xs zs) (sym is) (stand_same a xs zs mid.log (e ∷ mid.log) (same_for_all xs mid.log (e ∷ mid.log) leaves.same) h)

pub left_main : (a : Oracle) (mid after : WorldState) (e : Event) (main : Option Input) (rest : Option Source) → LeavesAll e mid.log → after.log ≡ e ∷ mid.log → IsMainRest a mid.log main rest → IsMainRest a after.log main rest
left_main a mid after e main rest leaves is h = subst (λ (l : List Event). IsMainRest a l main rest) (sym is) (main_rest_same a main rest mid.log (e ∷ mid.log) (same_for_main main mid.log (e ∷ mid.log) leaves.same) h)

-- the openings of outputs, one more

held_append : (xs : List NamedStream) (kind : OutputKind) (name : List ℕ) (id : ℕ) → held_in (xs ++ new_output kind name id ∷ []) ≡ held_in xs ++ (id, []) ∷ []
held_append [] kind name id = refl
held_append (named.Input k n input ∷ xs) kind name id = held_append xs kind name id
held_append (named.Output k n output ∷ xs) kind name id = ap (λ l. (output.id, output.held) ∷ l) (held_append xs kind name id)

pub held_input : (xs : List NamedStream) (kind : InputKind) (name : List ℕ) (id : ℕ) → held_in (xs ++ new_input kind name id ∷ []) ≡ held_in xs
held_input [] kind name id = refl
held_input (named.Input k n input ∷ xs) kind name id = held_input xs kind name id
held_input (named.Output k n output ∷ xs) kind name id = ap (λ l. (output.id, output.held) ∷ l) (held_input xs kind name id)

newest_first : (id : ℕ) (o : Opening) (hs : List (ℕ × List ℕ)) (os : List (ℕ × Opening)) → AreOtherOutputs id hs → with_held hs ((id, o) ∷ os) ≡ (id, o) ∷ with_held hs os
newest_first id o [] os others = refl
newest_first id o (h ∷ hs) os others =
    ap (with_held hs) (cond-false _ _ _ (ne_eqb id h.0 (λ (e : id ≡ h.0). others.0 (sym e)))) ∙ newest_first id o hs (receives h.0 h.1 os) others.1

pub other_held : (world : WorldState) (s : StreamsView) (id : ℕ) → IsFresh world id → AreOpen world s → AreOtherOutputs id (held_of s)
other_held world s id fresh open' = (
  λ (e : 0 ≡ id). absurd (omega (arith, e, fresh.named)),
  (λ (e : 1 ≡ id). absurd (omega (arith, e, fresh.named)), other_outputs id s.named (fresh_others world id s.named fresh open'.named)),
)

pub printed_more : (kind : OutputKind) (name : List ℕ) (mode : Mode) (id : ℕ) (mid after : WorldState) (s : StreamsView) → IsFresh mid id → AreOpen mid s → after.log ≡ OpenedOutput kind name mode (Some id) ∷ mid.log →
    printed_openings after record s { named = s.named ++ new_output kind name id ∷ [] } ≡ printed_openings mid s ++ record { output = Named kind name; bytes = [] } ∷ []
printed_more kind name mode id mid after s fresh open' is =
    let o : Opening = record { output = Named kind name; bytes = [] } in
    let os : List (ℕ × Opening) = openings mid.log in
    let new : StreamsView = record s { named = s.named ++ new_output kind name id ∷ [] } in
    let held : held_of new ≡ held_of s ++ (id, []) ∷ [] = ap (λ hs. (0, s.output) ∷ (1, s.error) ∷ hs) (held_append s.named kind name id) in
    let all : with_held (held_of new) (openings after.log) ≡ (id, o) ∷ with_held (held_of s) os =
    ap (λ l. with_held (held_of new) (openings l)) is ∙ (ap (λ hs. with_held hs ((id, o) ∷ os)) held ∙ (with_held-append (held_of s) ((id, []) ∷ []) ((id, o) ∷ os)
    ∙ (receives-none id (with_held (held_of s) ((id, o) ∷ os)) ∙ newest_first id o (held_of s) os (other_held mid s id fresh open')))) in
    ap in_order all

pub printed_count : (world : WorldState) (s : StreamsView) → length (printed_openings world s) ≡ length (openings world.log)
printed_count world s = length-in_order (with_held (held_of s) (openings world.log)) ∙ length-held (held_of s) (openings world.log)

-- no memory after what went before

nothing_lost : (b : Bool) (before mid after : WorldState) (old s new : StreamsView) (u : Unit {0}) → Prepares b before old (Ok u) mid s → FindsNoMemory mid s after new → printed_openings after new ≡ printed_openings before old
nothing_lost b before mid after old s new u prepares none = ap (λ (v : StreamsView). printed_openings after v) none.same ∙ (ap (λ l. in_order (with_held (held_of s) (openings l))) none.log ∙ ap in_order prepares.printed)

pub finds_nothing : (b : Bool) (before mid after : WorldState) (old s new : StreamsView) (u : Unit {0}) → Prepares b before old (Ok u) mid s → FindsNoMemory mid s after new → LosesBytes before old after new
finds_nothing b before mid after old s new u prepares none = record {
  only = subst (λ (l : List Event). GoesOn AreBringing before.log l) (sym none.log) prepares.touches.only;
  begins = subst (λ l. Begins l (printed_openings before old)) (sym (nothing_lost b before mid after old s new u prepares none)) (begins-self (printed_openings before old));
  spares = spares_all before after (held_of old) (held_of new) (nothing_lost b before mid after old s new u prepares none)
      (λ spent. subst (λ (v : StreamsView). AreSpent after.failures (held_of v)) (sym none.same) (spent_inside mid after (held_of s) none.failure (prepares.spares.spent spent)));
}

pub loses_before : (b : Bool) (before mid : WorldState) (old s : StreamsView) (e : StreamFault) → Prepares b before old (Err e) mid s → LosesBytes before old mid s
loses_before b before mid old s e prepares = record { only = prepares.touches.only; begins = prepares.begins; spares = prepares.spares }
