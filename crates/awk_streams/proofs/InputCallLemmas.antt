-- What asking a named input for a record tells.
use Rattle.std.proofs.Common.{◌≡◌, ◌≤◌, ◌<◌, inl, inr, ℕ, Bool, true, false, List, [], ◌∷◌, ◌++◌, length, Some, None, Result, Ok, Err, refl, sym, ◌∙◌, ap, subst}
use Rattle.std.specs.Prelude.{is_some, ◌&&◌, bytes_eq}
use Rattle.std.specs.List.{position}
use Rattle.std.proofs.lemmas.Bool.{cond-true, cond-false}
use Rattle.std.proofs.lemmas.Slice.Eq.{bytes_eq-Decides}
use Rattle.awk_world.specs.declared.world.InputKind.{InputKind}
use Rattle.awk_world.specs.declared.world.InputKind.TheVariants.{Standard, File, Command}
use Rattle.awk_world.specs.definitions.Log.{Event, OpenedInput}
use Rattle.awk_world.specs.definitions.Oracle.{Oracle, Source, IsConsistent, same_input_kind}
use Rattle.awk_world.specs.definitions.WorldState.{WorldState}
use Rattle.awk_world.specs.definitions.Openings.{openings, in_order}
use Rattle.awk_streams.specs.declared.fault.StreamFault.{StreamFault}
use Rattle.awk_streams.specs.declared.fault.StreamFault.TheVariants as fault
use Rattle.awk_streams.specs.declared.input.Input.{Input}
use Rattle.awk_streams.specs.declared.named.NamedStream.{NamedStream}
use Rattle.awk_streams.specs.declared.named.NamedStream.TheVariants as named
use Rattle.awk_streams.specs.definitions.Outputs.{IsOutputFault}
use Rattle.awk_streams.specs.definitions.Named as words
use Rattle.awk_streams.specs.definitions.Streams.{StreamsView, numbered, AreOpen, HaveOtherNames, AreOnce, held_of, with_held, IsRestOf, IsMainRest, StandsFor, StandFor, FailsBy, BringsIf, all_unheld}
use Rattle.awk_streams.specs.definitions.MainInput.{CountsInput}
use Rattle.awk_streams.specs.definitions.NamedInputs.{FindsInput, LacksInput, OpensInput}
use Rattle.awk_streams.specs.support.Kept.{SameFor}
use Rattle.awk_streams.specs.support.Places.{is_named_input}
use Rattle.awk_streams.specs.support.Asks.{Prepares, AsksForNamed, FindsNoMemory, IsAdded, IsRefused, new_input}
use Rattle.awk_streams.proofs.GrowsLemmas.{grows_on, Grows-self, Grows-then, may_fail_later, may_fail_now}
use Rattle.awk_streams.proofs.StreamsLemmas.{stand_same, but_held_numbered}
use Rattle.awk_streams.proofs.NamesLemmas.{AllFail, first_found, not_found, input_swap}
use Rattle.awk_streams.proofs.ViewLemmas.{keeps_stand, keeps_main_rest}
use Rattle.awk_streams.proofs.OpenLemmas.{grants_input, refuses_input, fresh_others}
use Rattle.awk_streams.proofs.OpensLemmas.{counts_input, numbered-append, added_stand, added_main, left_stand, left_main, held_input, finds_nothing, loses_before}
use Rattle.awk_streams.proofs.MainLemmas.{new_rest}

-- what stands open, in the words of the language

rest_skip : (a : Oracle) (log : List Event) (kind : InputKind) (name : List ℕ) (xs : List NamedStream) (zs : List words.Stream) → AllFail (is_named_input kind name) xs → StandFor a log xs zs → words.rest_in zs kind name ≡ None
rest_skip a log kind name [] [] fails h = refl
rest_skip a log kind name [] (z ∷ zs) fails h = absurd h
rest_skip a log kind name (x ∷ xs) [] fails h = absurd h
rest_skip a log kind name (named.Output k n output ∷ xs) (words.AnOutput k' n' opening ∷ zs) fails h = rest_skip a log kind name xs zs fails.1 h.1
rest_skip a log kind name (named.Output k n output ∷ xs) (words.AnInput k' n' rest ∷ zs) fails h = absurd h.0
rest_skip a log kind name (named.Input k n input ∷ xs) (words.AnOutput k' n' opening ∷ zs) fails h = absurd h.0
rest_skip a log kind name (named.Input k n input ∷ xs) (words.AnInput k' n' rest ∷ zs) fails h =
    let same : (same_input_kind k' kind && bytes_eq n' name) ≡ false = ap (λ j. same_input_kind j kind && bytes_eq n' name) h.0.0 ∙ (ap (λ m. same_input_kind k kind && bytes_eq m name) h.0.1 ∙ fails.0) in
    cond-false _ _ _ same ∙ rest_skip a log kind name xs zs fails.1 h.1

-- the input's rest, and the streams where another is left of it

pub record FindsRest (a : Oracle) (log : List Event) (kind : InputKind) (name : List ℕ) (input : Input) (zs : List words.Stream) : Type 0 where
  pub rest : Source
  pub is : words.rest_in zs kind name ≡ Some rest
  pub stands : IsRestOf a log input rest

pub rest_found : (a : Oracle) (log : List Event) (kind : InputKind) (name : List ℕ) (front back : List NamedStream) (k : InputKind) (n : List ℕ) (input : Input) (zs : List words.Stream) → AllFail (is_named_input kind name) front → is_named_input kind name (named.Input k n input) ≡ true →
    StandFor a log (front ++ named.Input k n input ∷ back) zs → FindsRest a log kind name input zs
rest_found a log kind name [] back k n input [] fails passes h = absurd h
rest_found a log kind name [] back k n input (words.AnOutput k' n' opening ∷ zs) fails passes h = absurd h.0
rest_found a log kind name [] back k n input (words.AnInput k' n' rest ∷ zs) fails passes h =
    let same : (same_input_kind k' kind && bytes_eq n' name) ≡ true = ap (λ j. same_input_kind j kind && bytes_eq n' name) h.0.0 ∙ (ap (λ m. same_input_kind k kind && bytes_eq m name) h.0.1 ∙ passes) in
    record { rest = rest; is = cond-true _ _ _ same; stands = h.0.2 }
rest_found a log kind name (x ∷ front) back k n input [] fails passes h = absurd h
rest_found a log kind name (named.Output j m o ∷ front) back k n input (words.AnOutput k' n' opening ∷ zs) fails passes h =
    let there = rest_found a log kind name front back k n input zs fails.1 passes h.1 in
    record { rest = there.rest; is = there.is; stands = there.stands }
rest_found a log kind name (named.Output j m o ∷ front) back k n input (words.AnInput k' n' rest ∷ zs) fails passes h = absurd h.0
rest_found a log kind name (named.Input j m i ∷ front) back k n input (words.AnOutput k' n' opening ∷ zs) fails passes h = absurd h.0
rest_found a log kind name (named.Input j m i ∷ front) back k n input (words.AnInput k' n' rest ∷ zs) fails passes h =
    let same : (same_input_kind k' kind && bytes_eq n' name) ≡ false = ap (λ x. same_input_kind x kind && bytes_eq n' name) h.0.0 ∙ (ap (λ l. same_input_kind j kind && bytes_eq l name) h.0.1 ∙ fails.0) in
    let there = rest_found a log kind name front back k n input zs fails.1 passes h.1 in
    record { rest = there.rest; is = cond-false _ _ _ same ∙ there.is; stands = there.stands }

leaves_others : (a : Oracle) (log log' : List Event) (kind : InputKind) (name : List ℕ) (left : Source) (xs : List NamedStream) (zs : List words.Stream) → AllFail (is_named_input kind name) xs → SameFor xs log log' → StandFor a log xs zs → StandFor a log' xs (words.with_rest_of kind name left zs)
leaves_others a log log' kind name left [] [] fails same h = tt
leaves_others a log log' kind name left [] (z ∷ zs) fails same h = absurd h
leaves_others a log log' kind name left (x ∷ xs) [] fails same h = absurd h
leaves_others a log log' kind name left (named.Output k n output ∷ xs) (words.AnInput k' n' rest ∷ zs) fails same h = absurd h.0
leaves_others a log log' kind name left (named.Input k n input ∷ xs) (words.AnOutput k' n' opening ∷ zs) fails same h = absurd h.0
leaves_others a log log' kind name left (named.Output k n output ∷ xs) (words.AnOutput k' n' opening ∷ zs) fails same h =
    ((stand_same a (named.Output k n output ∷ []) (words.AnOutput k' n' opening ∷ []) log log' (same.0, tt) (h.0, tt)).0, leaves_others a log log' kind name left xs zs fails.1 same.1 h.1)
leaves_others a log log' kind name left (named.Input k n input ∷ xs) (words.AnInput k' n' rest ∷ zs) fails same h =
    let other : (same_input_kind k' kind && bytes_eq n' name) ≡ false = ap (λ j. same_input_kind j kind && bytes_eq n' name) h.0.0 ∙ (ap (λ m. same_input_kind k kind && bytes_eq m name) h.0.1 ∙ fails.0) in
    let here = (stand_same a (named.Input k n input ∷ []) (words.AnInput k' n' rest ∷ []) log log' (same.0, tt) (h.0, tt)).0 in
    (subst (λ (r : Source). StandsFor a log' (named.Input k n input) (words.AnInput k' n' r)) (sym (cond-false _ left rest other)) here, leaves_others a log log' kind name left xs zs fails.1 same.1 h.1)

pub leaves_rest : (a : Oracle) (log log' : List Event) (kind : InputKind) (name : List ℕ) (left : Source) (front back : List NamedStream) (k : InputKind) (n : List ℕ) (input input' : Input) (zs : List words.Stream) → AllFail (is_named_input kind name) front → is_named_input kind name (named.Input k n input) ≡ true →
    AllFail (is_named_input kind name) back → SameFor front log log' → SameFor back log log' → IsRestOf a log' input' left → StandFor a log (front ++ named.Input k n input ∷ back) zs → StandFor a log' (front ++ named.Input k n input' ∷ back) (words.with_rest_of kind name left zs)
leaves_rest a log log' kind name left [] back k n input input' [] fails passes rest same same' stands h = absurd h
leaves_rest a log log' kind name left [] back k n input input' (words.AnOutput k' n' opening ∷ zs) fails passes rest same same' stands h = absurd h.0
leaves_rest a log log' kind name left [] back k n input input' (words.AnInput k' n' r ∷ zs) fails passes rest same same' stands h =
    let here : (same_input_kind k' kind && bytes_eq n' name) ≡ true = ap (λ j. same_input_kind j kind && bytes_eq n' name) h.0.0 ∙ (ap (λ m. same_input_kind k kind && bytes_eq m name) h.0.1 ∙ passes) in
    (subst (λ (x : Source). StandsFor a log' (named.Input k n input') (words.AnInput k' n' x)) (sym (cond-true _ left r here)) (h.0.0, h.0.1, stands), leaves_others a log log' kind name left back zs rest same' h.1)
leaves_rest a log log' kind name left (x ∷ front) back k n input input' [] fails passes rest same same' stands h = absurd h
leaves_rest a log log' kind name left (named.Output j m o ∷ front) back k n input input' (words.AnInput k' n' r ∷ zs) fails passes rest same same' stands h = absurd h.0
leaves_rest a log log' kind name left (named.Input j m i ∷ front) back k n input input' (words.AnOutput k' n' opening ∷ zs) fails passes rest same same' stands h = absurd h.0
leaves_rest a log log' kind name left (named.Output j m o ∷ front) back k n input input' (words.AnOutput k' n' opening ∷ zs) fails passes rest same same' stands h =
    ((stand_same a (named.Output j m o ∷ []) (words.AnOutput k' n' opening ∷ []) log log' (same.0, tt) (h.0, tt)).0, leaves_rest a log log' kind name left front back k n input input' zs fails.1 passes rest same.1 same' stands h.1)
leaves_rest a log log' kind name left (named.Input j m i ∷ front) back k n input input' (words.AnInput k' n' r ∷ zs) fails passes rest same same' stands h =
    let other : (same_input_kind k' kind && bytes_eq n' name) ≡ false = ap (λ x. same_input_kind x kind && bytes_eq n' name) h.0.0 ∙ (ap (λ l. same_input_kind j kind && bytes_eq l name) h.0.1 ∙ fails.0) in
    let here = (stand_same a (named.Input j m i ∷ []) (words.AnInput k' n' r ∷ []) log log' (same.0, tt) (h.0, tt)).0 in
    (subst (λ (x : Source). StandsFor a log' (named.Input j m i) (words.AnInput k' n' x)) (sym (cond-false _ left r other)) here, leaves_rest a log log' kind name left front back k n input input' zs fails.1 passes rest same.1 same' stands h.1)

-- of a kind and name there is one input

true_false : {P : Type 0} → true ≡ false → P
true_false e = cc

false_true : {P : Type 0} → false ≡ true → P
false_true e = cc

same_kind : (j k : InputKind) → same_input_kind j k ≡ true → j ≡ k
same_kind Standard Standard e = refl
same_kind Standard File e = false_true e
same_kind Standard Command e = false_true e
same_kind File Standard e = false_true e
same_kind File File e = refl
same_kind File Command e = false_true e
same_kind Command Standard e = false_true e
same_kind Command File e = false_true e
same_kind Command Command e = refl

both_true : (x y : Bool) → (x && y) ≡ true → (x ≡ true) × (y ≡ true)
both_true true true e = (refl, refl)
both_true true false e = false_true e
both_true false y e = false_true e

pub same_input : (k kind : InputKind) (n name : List ℕ) → (same_input_kind k kind && bytes_eq n name) ≡ true → (k ≡ kind) × (n ≡ name)
same_input k kind n name e =
    let both = both_true (same_input_kind k kind) (bytes_eq n name) e in
    (same_kind k kind both.0, (bytes_eq-Decides n name).0 both.1)

others_fail : (kind : InputKind) (name : List ℕ) (xs : List NamedStream) → HaveOtherNames (words.Input kind name) xs → AllFail (is_named_input kind name) xs
others_fail kind name [] h = tt
others_fail kind name (named.Input k n input ∷ xs) h = (input_swap k kind n name ∙ h.0, others_fail kind name xs h.1)
others_fail kind name (named.Output k n output ∷ xs) h = (refl, others_fail kind name xs h.1)

pub back_fails : (kind : InputKind) (name : List ℕ) (front back : List NamedStream) (k : InputKind) (n : List ℕ) (input : Input) → (k ≡ kind) × (n ≡ name) → AreOnce (front ++ named.Input k n input ∷ back) → AllFail (is_named_input kind name) back
back_fails kind name [] back k n input is h =
    others_fail kind name back (subst (λ (m : List ℕ). HaveOtherNames (words.Input kind m) back) is.1 (subst (λ (j : InputKind). HaveOtherNames (words.Input j n) back) is.0 h.0))
back_fails kind name (x ∷ front) back k n input is h = back_fails kind name front back k n input is h.1

-- the number of the input among all

pub number_skip : (kind : InputKind) (name : List ℕ) (front back : List NamedStream) (k : InputKind) (n : List ℕ) (input : Input) → AllFail (is_named_input kind name) front → is_named_input kind name (named.Input k n input) ≡ true →
    words.number_among (numbered (front ++ named.Input k n input ∷ back)) (words.Input kind name) ≡ Some input.id
number_skip kind name [] back k n input fails passes = cond-true _ _ _ (input_swap kind k name n ∙ passes)
number_skip kind name (named.Input j m i ∷ front) back k n input fails passes = cond-false _ _ _ (input_swap kind j name m ∙ fails.0) ∙ number_skip kind name front back k n input fails.1 passes
number_skip kind name (named.Output j m o ∷ front) back k n input fails passes = number_skip kind name front back k n input fails.1 passes

-- opening

pub lacks_input : (kind : InputKind) (name : List ℕ) (world : WorldState) (s : StreamsView) → is_some (position (is_named_input kind name) s.named) ≡ false → LacksInput kind name world s
lacks_input kind name world s none a zs h = rest_skip a world.log kind name s.named zs (not_found (is_named_input kind name) s.named none) h

finds_input : (kind : InputKind) (name : List ℕ) (world : WorldState) (s : StreamsView) (x : NamedStream) (front back : List NamedStream) → s.named ≡ front ++ x ∷ back → AllFail (is_named_input kind name) front → is_named_input kind name x ≡ true → FindsInput kind name world s world s
finds_input kind name world s (named.Output k n output) front back is fails passes = false_true passes
finds_input kind name world s (named.Input k n input) front back is fails passes = record {
  world = refl;
  same = refl;
  found = λ a zs h.
      let there = rest_found a world.log kind name front back k n input zs fails passes (subst (λ (l : List NamedStream). StandFor a world.log l zs) is h) in
      (there.rest, there.is);
}

pub input_is_found : (kind : InputKind) (name : List ℕ) (world : WorldState) (s : StreamsView) (place : ℕ) → position (is_named_input kind name) s.named ≡ Some place → OpensInput kind name world s (Ok true) world s
input_is_found kind name world s place is =
    let f = first_found (is_named_input kind name) s.named place is in
    record {
      grows = Grows-self world;
      main = refl;
      main_rest = λ a rest h. h;
      opened = inl (finds_input kind name world s f.at f.front f.back f.is f.fails f.passes);
      failure = refl;
    }

pub input_full : (kind : InputKind) (name : List ℕ) (world : WorldState) (s : StreamsView) (e : StreamFault) → position (is_named_input kind name) s.named ≡ None → 200 ≤ length s.named → e ≡ fault.TooManyStreams → OpensInput kind name world s (Err e) world s
input_full kind name world s e none full is =
    subst (λ (f : StreamFault). OpensInput kind name world s (Err f) world s) (sym is) record {
      grows = Grows-self world;
      main = refl;
      main_rest = λ a rest h. h;
      opened = record { lacks = lacks_input kind name world s (ap is_some none); full = full; world = refl; same = refl };
      failure = refl;
    }

input_granted : (kind : InputKind) (name : List ℕ) (b : Bool) (before mid after : WorldState) (old s new : StreamsView) (u : Unit {0}) (id : ℕ) → b ≡ words.is_input_command kind → position (is_named_input kind name) old.named ≡ None → length old.named < 200 → AreOpen mid s →
    s.main ≡ old.main → all_unheld s.named ≡ all_unheld old.named → Prepares b before old (Ok u) mid s → IsAdded id (OpenedInput kind name (Some id)) (new_input kind name id) mid s after new → OpensInput kind name before old (Ok true) after new
input_granted kind name b before mid after old s new u id command none few open' main same prepares added =
    let event : Event = OpenedInput kind name (Some id) in
    let x : NamedStream = new_input kind name id in
    let grown : StreamsView = record s { named = s.named ++ x ∷ [] } in
    let grants = grants_input id kind name mid.log in
    let others = fresh_others mid id s.named added.fresh open'.named in
    let counts = subst (λ (l : List Event). CountsInput kind name before.log l) (sym added.log) (counts_input kind name (Some id) before.log mid.log prepares.touches.counts) in
    subst (λ (v : StreamsView). OpensInput kind name before old (Ok true) after v) (sym added.same) record {
      grows = Grows-then prepares.touches.grows (grows_on (event ∷ []) mid after added.log added.no_failure);
      main = main;
      main_rest = λ a rest h. added_main a mid after id event s rest grants added.fresh open' added.log (keeps_main_rest a before mid old.main s.main rest prepares.touches.same main h);
      opened = inr record {
        id = id;
        asks = record {
          lacks = lacks_input kind name before old (ap is_some none);
          few = few;
          log = mid.log;
          brings = subst (λ (c : Bool). BringsIf c before old mid.log) command prepares.brings;
          adds = added.log;
          counts = counts;
          printed = ap (λ hs. in_order (with_held ((0, s.output) ∷ (1, s.error) ∷ hs) (openings after.log))) (held_input s.named kind name id) ∙ (ap (λ l. in_order (with_held (held_of s) (openings l))) added.log ∙ ap in_order prepares.printed);
        };
        numbers = numbered-append s.named x ∙ ap (λ l. l ++ (words.Input kind name, id) ∷ []) (but_held_numbered old.named s.named same);
        named = λ a zs consistent h.
            let answer = (subst (λ (l : List Event). IsConsistent a l) added.log consistent).0 in (
              answer.0,
              ap (a.input kind name) (sym (prepares.touches.counts.inputs kind name)) ∙ answer.1,
              added_stand a mid after id event s.named zs x (words.AnInput kind name answer.0) grants others added.log (keeps_stand a before mid old.named s.named zs prepares.touches.same same h)
                  (refl, refl, new_rest a kind name id mid.log record { bytes = []; ending = None } answer.0 refl answer.1),
            );
      };
      failure = added.no_failure ∙ prepares.failure;
    }

input_refused : (kind : InputKind) (name : List ℕ) (b : Bool) (before mid after : WorldState) (old s new : StreamsView) (u : Unit {0}) → b ≡ words.is_input_command kind → position (is_named_input kind name) old.named ≡ None → length old.named < 200 → s.main ≡ old.main →
    all_unheld s.named ≡ all_unheld old.named → Prepares b before old (Ok u) mid s → IsRefused (OpenedInput kind name None) mid s after new → OpensInput kind name before old (Ok false) after new
input_refused kind name b before mid after old s new u command none few main same prepares refused =
    let event : Event = OpenedInput kind name None in
    let leaves = refuses_input kind name mid.log in
    subst (λ (v : StreamsView). OpensInput kind name before old (Ok false) after v) (sym refused.same) record {
      grows = Grows-then prepares.touches.grows (grows_on (event ∷ []) mid after refused.log refused.no_failure);
      main = main;
      main_rest = λ a rest h. left_main a mid after event s.main rest leaves refused.log (keeps_main_rest a before mid old.main s.main rest prepares.touches.same main h);
      opened = record {
        asks = record {
          lacks = lacks_input kind name before old (ap is_some none);
          few = few;
          log = mid.log;
          brings = subst (λ (c : Bool). BringsIf c before old mid.log) command prepares.brings;
          adds = refused.log;
          counts = subst (λ (l : List Event). CountsInput kind name before.log l) (sym refused.log) (counts_input kind name None before.log mid.log prepares.touches.counts);
          printed = ap (λ l. in_order (with_held (held_of s) (openings l))) refused.log ∙ ap in_order prepares.printed;
        };
        refused = λ a consistent. ap (a.input kind name) (sym (prepares.touches.counts.inputs kind name)) ∙ (subst (λ (l : List Event). IsConsistent a l) refused.log consistent).0;
        numbers = but_held_numbered old.named s.named same;
        named = λ a zs h. left_stand a mid after event s.named zs leaves refused.log (keeps_stand a before mid old.named s.named zs prepares.touches.same same h);
      };
      failure = refused.no_failure ∙ prepares.failure;
    }

input_unasked : (kind : InputKind) (name : List ℕ) (b : Bool) (before mid after : WorldState) (old s new : StreamsView) (u : Unit {0}) → s.main ≡ old.main → Prepares b before old (Ok u) mid s → FindsNoMemory mid s after new → OpensInput kind name before old (Err fault.Memory) after new
input_unasked kind name b before mid after old s new u main prepares nothing = record {
  grows = Grows-then prepares.touches.grows nothing.grows;
  main = ap (λ (v : StreamsView). v.main) nothing.same ∙ main;
  main_rest = λ a rest h.
      subst (λ (v : StreamsView). IsMainRest a after.log v.main rest) (sym nothing.same) (subst (λ (l : List Event). IsMainRest a l s.main rest) (sym nothing.log) (keeps_main_rest a before mid old.main s.main rest prepares.touches.same main h));
  opened = finds_nothing b before mid after old s new u prepares nothing;
  failure = may_fail_now before after (may_fail_later before mid after prepares.failure nothing.failure);
}

pub input_asked : (kind : InputKind) (name : List ℕ) (b : Bool) (before mid after : WorldState) (old s new : StreamsView) (u : Unit {0}) (result : Result Bool StreamFault) → b ≡ words.is_input_command kind → position (is_named_input kind name) old.named ≡ None → length old.named < 200 →
    AreOpen mid s → s.main ≡ old.main → all_unheld s.named ≡ all_unheld old.named → Prepares b before old (Ok u) mid s → AsksForNamed kind name mid s result after new → OpensInput kind name before old result after new
input_asked kind name b before mid after old s new u (Ok true) command none few open' main same prepares (id, added) = input_granted kind name b before mid after old s new u id command none few open' main same prepares added
input_asked kind name b before mid after old s new u (Ok false) command none few open' main same prepares asks = input_refused kind name b before mid after old s new u command none few main same prepares asks
input_asked kind name b before mid after old s new u (Err fault.Memory) command none few open' main same prepares asks = input_unasked kind name b before mid after old s new u main prepares asks
input_asked kind name b before mid after old s new u (Err e) command none few open' main same prepares asks = absurd asks

pub input_unprepared : (kind : InputKind) (name : List ℕ) (b : Bool) (before mid : WorldState) (old s : StreamsView) (e : StreamFault) → IsOutputFault e → s.main ≡ old.main → Prepares b before old (Err e) mid s → OpensInput kind name before old (Err e) mid s
input_unprepared kind name b before mid old s e (inl memory) main prepares =
    subst (λ (f : StreamFault). OpensInput kind name before old (Err f) mid s) (sym memory) record {
      grows = prepares.touches.grows;
      main = main;
      main_rest = λ a rest h. keeps_main_rest a before mid old.main s.main rest prepares.touches.same main h;
      opened = loses_before b before mid old s e prepares;
      failure = subst (λ (f : StreamFault). FailsBy f before mid) memory prepares.failure;
    }
input_unprepared kind name b before mid old s e (inr failed) main prepares =
    subst (λ (f : StreamFault). OpensInput kind name before old (Err f) mid s) (sym failed) record {
      grows = prepares.touches.grows;
      main = main;
      main_rest = λ a rest h. keeps_main_rest a before mid old.main s.main rest prepares.touches.same main h;
      opened = loses_before b before mid old s e prepares;
      failure = subst (λ (f : StreamFault). FailsBy f before mid) failed prepares.failure;
    }

-- the place that the code looks for
pub input_place : (kind : InputKind) (n n' : List ℕ) (xs ys : List NamedStream) → n' ≡ n → ys ≡ xs → position (is_named_input kind n) xs ≡ position (is_named_input kind n') ys
input_place kind n n' xs ys same_name same = ap (λ m. position (is_named_input kind m) xs) (sym same_name) ∙ ap (position (is_named_input kind n')) (sym same)
