-- What opening a named output tells.
use Rattle.std.proofs.Common.{◌≡◌, ◌≤◌, ◌<◌, inl, inr, ℕ, Bool, true, false, List, [], ◌∷◌, ◌++◌, length, Option, Some, None, Result, Ok, Err, refl, sym, ◌∙◌, ap, subst}
use Rattle.std.specs.Prelude.{is_some, ◌&&◌, bytes_eq, slice_get}
use Rattle.std.specs.List.{position}
use Rattle.std.proofs.lemmas.Bool.{cond-true, cond-false, eq-eqb}
use Rattle.awk_world.specs.declared.world.OutputKind.{OutputKind}
use Rattle.awk_world.specs.declared.world.Mode.{Mode}
use Rattle.awk_world.specs.definitions.Log.{Event, OpenedOutput}
use Rattle.awk_world.specs.definitions.Oracle.{Oracle, IsConsistent, same_output_kind}
use Rattle.awk_world.specs.definitions.WorldState.{WorldState}
use Rattle.awk_world.specs.definitions.Openings.{Named, openings, in_order}
use Rattle.awk_streams.specs.declared.fault.StreamFault.{StreamFault}
use Rattle.awk_streams.specs.declared.fault.StreamFault.TheVariants as fault
use Rattle.awk_streams.specs.declared.output.Output.{Output}
use Rattle.awk_streams.specs.declared.named.NamedStream.{NamedStream}
use Rattle.awk_streams.specs.declared.named.NamedStream.TheVariants as named
use Rattle.awk_streams.specs.declared.streams.Target.{Target}
use Rattle.awk_streams.specs.declared.streams.Target.TheVariants as target
use Rattle.awk_streams.specs.definitions.Named as words
use Rattle.awk_streams.specs.definitions.Streams.{StreamsView, AreOpen, AreSound, AreSoundNamed, held_of, with_held, printed_openings, IsMainRest, StandFor, place_of, number_of_some, place_of_some, IsTarget, FailsBy, BringsIf, all_unheld}
use Rattle.awk_streams.specs.definitions.Outputs.{IsOutputFault}
use Rattle.awk_streams.specs.definitions.NamedOutputs.{CountsOutput, FindsOutput, LacksOutput, OpensOutput}
use Rattle.awk_streams.specs.support.Places.{is_named_output}
use Rattle.awk_streams.specs.support.Asks.{Prepares, AsksOutput, FindsNoMemory, IsAdded, IsRefused, new_output}
use Rattle.awk_streams.proofs.GrowsLemmas.{grows_on, Grows-self, Grows-then, may_fail_later, may_fail_now}
use Rattle.awk_streams.proofs.PlaceLemmas.{stands_opened}
use Rattle.awk_streams.proofs.StreamsLemmas.{but_held_numbered}
use Rattle.awk_streams.proofs.NamesLemmas.{AllFail, first_found, none_found, first_at}
use Rattle.awk_streams.proofs.NamedLemmas.{sound_at}
use Rattle.awk_streams.proofs.ViewLemmas.{keeps_stand, keeps_main_rest}
use Rattle.awk_streams.proofs.OpenLemmas.{grants_output, refuses_output, fresh_others}
use Rattle.awk_streams.proofs.OpensLemmas.{counts_output, numbered-append, get_last, added_stand, added_main, left_stand, left_main, printed_more, printed_count, finds_nothing, loses_before}

-- what stands open, in the words of the language

opening_skip : (a : Oracle) (log : List Event) (kind : OutputKind) (name : List ℕ) (xs : List NamedStream) (zs : List words.Stream) → AllFail (is_named_output kind name) xs → StandFor a log xs zs → words.opening_in zs kind name ≡ None
opening_skip a log kind name [] [] fails h = refl
opening_skip a log kind name [] (z ∷ zs) fails h = absurd h
opening_skip a log kind name (x ∷ xs) [] fails h = absurd h
opening_skip a log kind name (named.Input k n input ∷ xs) (words.AnInput k' n' rest ∷ zs) fails h = opening_skip a log kind name xs zs fails.1 h.1
opening_skip a log kind name (named.Input k n input ∷ xs) (words.AnOutput k' n' opening ∷ zs) fails h = absurd h.0
opening_skip a log kind name (named.Output k n output ∷ xs) (words.AnInput k' n' rest ∷ zs) fails h = absurd h.0
opening_skip a log kind name (named.Output k n output ∷ xs) (words.AnOutput k' n' opening ∷ zs) fails h =
    let same : (same_output_kind k' kind && bytes_eq n' name) ≡ false = ap (λ j. same_output_kind j kind && bytes_eq n' name) h.0.0 ∙ (ap (λ m. same_output_kind k kind && bytes_eq m name) h.0.1 ∙ fails.0) in
    cond-false _ _ _ same ∙ opening_skip a log kind name xs zs fails.1 h.1

opening_found : (a : Oracle) (log : List Event) (kind : OutputKind) (name : List ℕ) (front back : List NamedStream) (k : OutputKind) (n : List ℕ) (output : Output) (zs : List words.Stream) (place : ℕ) → AllFail (is_named_output kind name) front → is_named_output kind name (named.Output k n output) ≡ true →
    place_of output.id (openings log) ≡ Some place → StandFor a log (front ++ named.Output k n output ∷ back) zs → words.opening_in zs kind name ≡ Some place
opening_found a log kind name [] back k n output [] place fails passes opens h = absurd h
opening_found a log kind name [] back k n output (words.AnInput k' n' rest ∷ zs) place fails passes opens h = absurd h.0
opening_found a log kind name [] back k n output (words.AnOutput k' n' opening ∷ zs) place fails passes opens h =
    let same : (same_output_kind k' kind && bytes_eq n' name) ≡ true = ap (λ j. same_output_kind j kind && bytes_eq n' name) h.0.0 ∙ (ap (λ m. same_output_kind k kind && bytes_eq m name) h.0.1 ∙ passes) in
    cond-true _ _ _ same ∙ (sym h.0.2 ∙ opens)
opening_found a log kind name (x ∷ front) back k n output [] place fails passes opens h = absurd h
opening_found a log kind name (named.Input j m input ∷ front) back k n output (words.AnInput k' n' rest ∷ zs) place fails passes opens h = opening_found a log kind name front back k n output zs place fails.1 passes opens h.1
opening_found a log kind name (named.Input j m input ∷ front) back k n output (words.AnOutput k' n' opening ∷ zs) place fails passes opens h = absurd h.0
opening_found a log kind name (named.Output j m o ∷ front) back k n output (words.AnInput k' n' rest ∷ zs) place fails passes opens h = absurd h.0
opening_found a log kind name (named.Output j m o ∷ front) back k n output (words.AnOutput k' n' opening ∷ zs) place fails passes opens h =
    let same : (same_output_kind k' kind && bytes_eq n' name) ≡ false = ap (λ i. same_output_kind i kind && bytes_eq n' name) h.0.0 ∙ (ap (λ l. same_output_kind j kind && bytes_eq l name) h.0.1 ∙ fails.0) in
    cond-false _ _ _ same ∙ opening_found a log kind name front back k n output zs place fails.1 passes opens h.1

pub lacks_output : (kind : OutputKind) (name : List ℕ) (world : WorldState) (s : StreamsView) → position (is_named_output kind name) s.named ≡ None → LacksOutput kind name world s
lacks_output kind name world s none a zs h = opening_skip a world.log kind name s.named zs (none_found (is_named_output kind name) s.named none) h

false_true : {P : Type 0} → false ≡ true → P
false_true e = cc

finds : (kind : OutputKind) (name : List ℕ) (world : WorldState) (s : StreamsView) (place : ℕ) (x : NamedStream) (front back : List NamedStream) → AreSoundNamed world.log s.named → s.named ≡ front ++ x ∷ back → AllFail (is_named_output kind name) front → is_named_output kind name x ≡ true →
    slice_get s.named place ≡ Some x → FindsOutput kind name world s (target.Named place) world s
finds kind name world s place (named.Input k n input) front back sound is fails passes at = false_true passes
finds kind name world s place (named.Output k n output) front back sound is fails passes at =
    let opens = stands_opened output.id k world.log (sound_at world.log s.named place (named.Output k n output) sound at) in
    record {
      world = refl;
      same = refl;
      opening = opens.0;
      place = ap (λ (o : Option NamedStream). place_of_some (number_of_some o) (openings world.log)) at ∙ opens.1;
      found = λ a zs h. opening_found a world.log kind name front back k n output zs opens.0 fails passes opens.1 (subst (λ (l : List NamedStream). StandFor a world.log l zs) is h);
    }

-- the calls

pub output_found : (kind : OutputKind) (name : List ℕ) (mode : Mode) (world : WorldState) (s : StreamsView) (place : ℕ) → AreSound world s → position (is_named_output kind name) s.named ≡ Some place → OpensOutput kind name mode world s (Ok (target.Named place)) world s
output_found kind name mode world s place sound is =
    let f = first_found (is_named_output kind name) s.named place is in
    record {
      grows = Grows-self world;
      main = refl;
      main_rest = λ a rest h. h;
      opened = inl (finds kind name world s place f.at f.front f.back sound.named f.is f.fails f.passes (first_at (is_named_output kind name) s.named place f));
      failure = refl;
    }

output_passes : (kind : OutputKind) (name : List ℕ) (x : NamedStream) → is_named_output kind name x ≡ true → is_some (number_of_some (Some x)) ≡ true
output_passes kind name (named.Input k n input) e = false_true e
output_passes kind name (named.Output k n output) e = refl

pub output_target : (kind : OutputKind) (name : List ℕ) (s : StreamsView) (place : ℕ) → position (is_named_output kind name) s.named ≡ Some place → IsTarget (target.Named place) s
output_target kind name s place is =
    let f = first_found (is_named_output kind name) s.named place is in
    ap (λ (o : Option NamedStream). is_some (number_of_some o)) (first_at (is_named_output kind name) s.named place f) ∙ output_passes kind name f.at f.passes

pub output_full : (kind : OutputKind) (name : List ℕ) (mode : Mode) (world : WorldState) (s : StreamsView) (e : StreamFault) → position (is_named_output kind name) s.named ≡ None → 200 ≤ length s.named → e ≡ fault.TooManyStreams → OpensOutput kind name mode world s (Err e) world s
output_full kind name mode world s e none full is =
    subst (λ (f : StreamFault). OpensOutput kind name mode world s (Err f) world s) (sym is) record {
      grows = Grows-self world;
      main = refl;
      main_rest = λ a rest h. h;
      opened = record { lacks = lacks_output kind name world s none; full = full; world = refl; same = refl };
      failure = refl;
    }

output_granted : (kind : OutputKind) (name : List ℕ) (mode : Mode) (b : Bool) (before mid after : WorldState) (old s new : StreamsView) (u : Unit {0}) (id : ℕ) → b ≡ words.is_output_command kind → position (is_named_output kind name) old.named ≡ None → length old.named < 200 → AreOpen mid s →
    s.main ≡ old.main → all_unheld s.named ≡ all_unheld old.named → Prepares b before old (Ok u) mid s → IsAdded id (OpenedOutput kind name mode (Some id)) (new_output kind name id) mid s after new → OpensOutput kind name mode before old (Ok (target.Named (length s.named))) after new
output_granted kind name mode b before mid after old s new u id command none few open' main same prepares added =
    let event : Event = OpenedOutput kind name mode (Some id) in
    let x : NamedStream = new_output kind name id in
    let grown : StreamsView = record s { named = s.named ++ x ∷ [] } in
    let grants = grants_output id kind name mode mid.log in
    let others = fresh_others mid id s.named added.fresh open'.named in
    let count : length (openings mid.log) ≡ length (printed_openings before old) = sym (printed_count mid s) ∙ ap length (ap in_order prepares.printed) in
    let opening : place_of id (openings (event ∷ mid.log)) ≡ Some (length (printed_openings before old)) = cond-true _ _ _ (eq-eqb id id refl) ∙ ap Some count in
    subst (λ (v : StreamsView). OpensOutput kind name mode before old (Ok (target.Named (length s.named))) after v) (sym added.same) record {
      grows = Grows-then prepares.touches.grows (grows_on (event ∷ []) mid after added.log added.no_failure);
      main = main;
      main_rest = λ a rest h. added_main a mid after id event s rest grants added.fresh open' added.log (keeps_main_rest a before mid old.main s.main rest prepares.touches.same main h);
      opened = inr record {
        id = id;
        asks = record {
          lacks = lacks_output kind name before old none;
          few = few;
          log = mid.log;
          brings = subst (λ (c : Bool). BringsIf c before old mid.log) command prepares.brings;
          adds = added.log;
          counts = subst (λ (l : List Event). CountsOutput kind name before.log l) (sym added.log) (counts_output kind name mode (Some id) before.log mid.log prepares.touches.counts);
        };
        granted = λ a consistent. ap (a.output kind name) (sym (prepares.touches.counts.outputs kind name)) ∙ (subst (λ (l : List Event). IsConsistent a l) added.log consistent).0;
        numbers = numbered-append s.named x ∙ ap (λ l. l ++ (words.Output kind name, id) ∷ []) (but_held_numbered old.named s.named same);
        printed = printed_more kind name mode id mid after s added.fresh open' added.log ∙ ap (λ l. l ++ record { output = Named kind name; bytes = [] } ∷ []) (ap in_order prepares.printed);
        place = ap (λ (o : Option NamedStream). place_of_some (number_of_some o) (openings after.log)) (get_last s.named x) ∙ (ap (λ l. place_of id (openings l)) added.log ∙ opening);
        named = λ a zs h. added_stand a mid after id event s.named zs x (words.AnOutput kind name (length (printed_openings before old))) grants others added.log (keeps_stand a before mid old.named s.named zs prepares.touches.same same h) (refl, refl, opening);
      };
      failure = added.no_failure ∙ prepares.failure;
    }

output_refused : (kind : OutputKind) (name : List ℕ) (mode : Mode) (b : Bool) (before mid after : WorldState) (old s new : StreamsView) (u : Unit {0}) → b ≡ words.is_output_command kind → position (is_named_output kind name) old.named ≡ None → length old.named < 200 → s.main ≡ old.main →
    all_unheld s.named ≡ all_unheld old.named → Prepares b before old (Ok u) mid s → IsRefused (OpenedOutput kind name mode None) mid s after new → OpensOutput kind name mode before old (Err fault.OutputNotOpened) after new
output_refused kind name mode b before mid after old s new u command none few main same prepares refused =
    let event : Event = OpenedOutput kind name mode None in
    let leaves = refuses_output kind name mode mid.log in
    subst (λ (v : StreamsView). OpensOutput kind name mode before old (Err fault.OutputNotOpened) after v) (sym refused.same) record {
      grows = Grows-then prepares.touches.grows (grows_on (event ∷ []) mid after refused.log refused.no_failure);
      main = main;
      main_rest = λ a rest h. left_main a mid after event s.main rest leaves refused.log (keeps_main_rest a before mid old.main s.main rest prepares.touches.same main h);
      opened = record {
        asks = record {
          lacks = lacks_output kind name before old none;
          few = few;
          log = mid.log;
          brings = subst (λ (c : Bool). BringsIf c before old mid.log) command prepares.brings;
          adds = refused.log;
          counts = subst (λ (l : List Event). CountsOutput kind name before.log l) (sym refused.log) (counts_output kind name mode None before.log mid.log prepares.touches.counts);
        };
        refused = λ a consistent. ap (a.output kind name) (sym (prepares.touches.counts.outputs kind name)) ∙ (subst (λ (l : List Event). IsConsistent a l) refused.log consistent).0;
        numbers = but_held_numbered old.named s.named same;
        printed = ap (λ l. in_order (with_held (held_of s) (openings l))) refused.log ∙ ap in_order prepares.printed;
        named = λ a zs h. left_stand a mid after event s.named zs leaves refused.log (keeps_stand a before mid old.named s.named zs prepares.touches.same same h);
      };
      failure = refused.no_failure ∙ prepares.failure;
    }

output_unasked : (kind : OutputKind) (name : List ℕ) (mode : Mode) (b : Bool) (before mid after : WorldState) (old s new : StreamsView) (u : Unit {0}) → s.main ≡ old.main → Prepares b before old (Ok u) mid s → FindsNoMemory mid s after new → OpensOutput kind name mode before old (Err fault.Memory) after new
output_unasked kind name mode b before mid after old s new u main prepares nothing = record {
  grows = Grows-then prepares.touches.grows nothing.grows;
  main = ap (λ (v : StreamsView). v.main) nothing.same ∙ main;
  main_rest = λ a rest h.
      subst (λ (v : StreamsView). IsMainRest a after.log v.main rest) (sym nothing.same) (subst (λ (l : List Event). IsMainRest a l s.main rest) (sym nothing.log) (keeps_main_rest a before mid old.main s.main rest prepares.touches.same main h));
  opened = finds_nothing b before mid after old s new u prepares nothing;
  failure = may_fail_now before after (may_fail_later before mid after prepares.failure nothing.failure);
}

pub output_asked : (kind : OutputKind) (name : List ℕ) (mode : Mode) (b : Bool) (before mid after : WorldState) (old s new : StreamsView) (u : Unit {0}) (result : Result Target StreamFault) → b ≡ words.is_output_command kind → position (is_named_output kind name) old.named ≡ None → length old.named < 200 →
    AreOpen mid s → s.main ≡ old.main → all_unheld s.named ≡ all_unheld old.named → Prepares b before old (Ok u) mid s → AsksOutput kind name mode mid s result after new → OpensOutput kind name mode before old result after new
output_asked kind name mode b before mid after old s new u (Ok t) command none few open' main same prepares (id, is, added) =
    subst (λ (x : Target). OpensOutput kind name mode before old (Ok x) after new) (sym is) (output_granted kind name mode b before mid after old s new u id command none few open' main same prepares added)
output_asked kind name mode b before mid after old s new u (Err fault.OutputNotOpened) command none few open' main same prepares asks = output_refused kind name mode b before mid after old s new u command none few main same prepares asks
output_asked kind name mode b before mid after old s new u (Err fault.Memory) command none few open' main same prepares asks = output_unasked kind name mode b before mid after old s new u main prepares asks
output_asked kind name mode b before mid after old s new u (Err e) command none few open' main same prepares asks = absurd asks

-- what went before failed
pub output_unprepared : (kind : OutputKind) (name : List ℕ) (mode : Mode) (b : Bool) (before mid : WorldState) (old s : StreamsView) (e : StreamFault) → IsOutputFault e → s.main ≡ old.main → Prepares b before old (Err e) mid s → OpensOutput kind name mode before old (Err e) mid s
output_unprepared kind name mode b before mid old s e (inl memory) main prepares =
    subst (λ (f : StreamFault). OpensOutput kind name mode before old (Err f) mid s) (sym memory) record {
      grows = prepares.touches.grows;
      main = main;
      main_rest = λ a rest h. keeps_main_rest a before mid old.main s.main rest prepares.touches.same main h;
      opened = loses_before b before mid old s e prepares;
      failure = subst (λ (f : StreamFault). FailsBy f before mid) memory prepares.failure;
    }
output_unprepared kind name mode b before mid old s e (inr failed) main prepares =
    subst (λ (f : StreamFault). OpensOutput kind name mode before old (Err f) mid s) (sym failed) record {
      grows = prepares.touches.grows;
      main = main;
      main_rest = λ a rest h. keeps_main_rest a before mid old.main s.main rest prepares.touches.same main h;
      opened = loses_before b before mid old s e prepares;
      failure = subst (λ (f : StreamFault). FailsBy f before mid) failed prepares.failure;
    }

-- the place that the code looks for
pub output_place : (kind : OutputKind) (n n' : List ℕ) (xs ys : List NamedStream) → n' ≡ n → ys ≡ xs → position (is_named_output kind n) xs ≡ position (is_named_output kind n') ys
output_place kind n n' xs ys same_name same = ap (λ m. position (is_named_output kind m) xs) (sym same_name) ∙ ap (position (is_named_output kind n')) (sym same)
