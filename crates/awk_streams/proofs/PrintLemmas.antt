-- Printing to an output: what is received and what is held back.
use Rattle.std.proofs.Common.{◌≡◌, ◌≤◌, inl, inr, ℕ, zero, suc, Bool, true, false, List, [], ◌∷◌, ◌++◌, take, length, set, get_or, Option, Some, None, Result, Ok, Err, refl, sym, ◌∙◌, ap, subst, arith}
use Rattle.std.specs.Prelude.{OnOk, OnErr, IfErr, slice_get, is_some, ◌==◌, ◌||◌}
use Rattle.std.proofs.lemmas.Option.{get_or_from_slice_get}
use Rattle.awk_world.specs.declared.world.InputKind.{InputKind}
use Rattle.awk_world.specs.declared.world.OutputKind.{OutputKind}
use Rattle.awk_world.specs.definitions.Oracle.{AnOutput, standing}
use Rattle.awk_streams.specs.declared.input.Input.{Input}
use Rattle.awk_streams.specs.declared.output.Output.{Output}
use Rattle.std.proofs.Math.Seq.{take-length}
use Rattle.std.proofs.lemmas.List.{take-append-le}
use Rattle.awk_world.specs.definitions.Orderly.{IsWritable}
use Rattle.awk_world.specs.definitions.WorldState.{WorldState, SameOpen}
use Rattle.awk_world.specs.definitions.Openings.{Opening, openings, in_order, receives, Begins}
use Rattle.awk_streams.specs.declared.fault.StreamFault.{StreamFault}
use Rattle.awk_streams.specs.declared.named.NamedStream.{NamedStream}
use Rattle.awk_streams.specs.declared.named.NamedStream.TheVariants as named
use Rattle.awk_streams.specs.declared.streams.Target.{Target}
use Rattle.awk_streams.specs.declared.streams.Target.TheVariants as target
use Rattle.awk_streams.specs.definitions.Named.{with_bytes}
use Rattle.awk_streams.specs.definitions.Outputs.{IsOutputFault, WritesAll, FailsAtOutput}
use Rattle.awk_streams.specs.definitions.Streams.{StreamsView, AreOpen, AreSound, held_of, with_held, is_output_among, place_of, number_of, number_of_some, place_of_some, number_at, opening_at, IsTarget, FailsAs, unheld, all_unheld}
use Rattle.awk_streams.specs.definitions.Lost.{Spares}
use Rattle.awk_streams.specs.definitions.NamedOutputs.{Prints}
use Rattle.awk_streams.specs.support.Buffered.{PrintsOrHolds}
use Rattle.awk_streams.specs.support.Held.{ChangesHeld, held_by, is_an_output}
use Rattle.awk_streams.specs.support.Printing.{PrintsAt}
use Rattle.awk_streams.specs.support.Brings.{Touches}
use Rattle.awk_streams.proofs.OpeningsLemmas.{openings-writes}
use Rattle.awk_streams.proofs.HeldLemmas.{change_prints, change_part}
use Rattle.awk_streams.proofs.LostLemmas.{spares_failing}
use Rattle.awk_streams.proofs.LeavesLemmas.{writes_of}
use Rattle.awk_streams.proofs.BringLemmas.{events_touch}
use Rattle.awk_streams.proofs.StreamsLemmas.{but_held_numbered}
use Rattle.awk_streams.proofs.ViewLemmas.{keeps_as, keeps_sound, keeps_open, fails_as, change_output, change_error}
use Rattle.awk_streams.proofs.PlaceLemmas.{in_order-receives, place-held, stands_opened, standard_opened}
use Rattle.awk_streams.proofs.NamedLemmas.{change_named, open_at, sound_at, among_at, unheld_set}
use Rattle.awk_streams.proofs.WritingLemmas.{fails_with}

all_of_it : (result : Result (Unit {0}) StreamFault) (id : ℕ) (held bytes held' written more : List ℕ) (count : ℕ) (hs hs' : List (ℕ × List ℕ)) (os os' : List (ℕ × Opening)) (n : ℕ) → ChangesHeld id held held' hs hs' → place_of id os ≡ Some n →
    held ++ bytes ≡ written ++ more → OnOk result (held' ≡ more) → OnOk result (count ≡ length written) → os' ≡ receives id (take count written) os →
    OnOk result (in_order (with_held hs' os') ≡ with_bytes n bytes (in_order (with_held hs os)))
all_of_it (Ok u) id held bytes held' written more count hs hs' os os' n change place parts holds all gains =
    let whole : take count written ≡ written = ap (λ k. take k written) all ∙ take-length written in
    let now : os' ≡ receives id written os = gains ∙ ap (λ b. receives id b os) whole in
    let printed = change_prints change written bytes os (parts ∙ ap (λ b. written ++ b) (sym holds)) in
    ap (λ x. in_order (with_held hs' x)) now ∙ (ap in_order printed ∙ in_order-receives id n bytes (with_held hs os) (place-held id hs os ∙ place))
all_of_it (Err e) id held bytes held' written more count hs hs' os os' n change place parts holds all gains = tt

part_of_it : (result : Result (Unit {0}) StreamFault) (id : ℕ) (held bytes held' written more : List ℕ) (count : ℕ) (hs hs' : List (ℕ × List ℕ)) (os os' : List (ℕ × Opening)) (n : ℕ) → ChangesHeld id held held' hs hs' → place_of id os ≡ Some n →
    held ++ bytes ≡ written ++ more → OnErr result (held' ≡ []) → count ≤ length written → os' ≡ receives id (take count written) os →
    OnErr result (Begins (in_order (with_held hs' os')) (with_bytes n bytes (in_order (with_held hs os))))
part_of_it (Ok u) id held bytes held' written more count hs hs' os os' n change place parts empty within gains = tt
part_of_it (Err e) id held bytes held' written more count hs hs' os os' n change place parts empty within gains =
    let part : take count written ≡ take count (held ++ bytes) = sym (take-append-le count written more within) ∙ ap (take count) (sym parts) in
    let now : receives id (take count (held ++ bytes)) os ≡ os' = ap (λ b. receives id b os) (sym part) ∙ sym gains in
    let change' : ChangesHeld id held [] hs hs' = subst (λ (h : List ℕ). ChangesHeld id held h hs hs') empty change in
    let begins = change_part change' count bytes os in
    subst (λ l. Begins (in_order (with_held hs' os')) l) (in_order-receives id n bytes (with_held hs os) (place-held id hs os ∙ place))
    (subst (λ l. Begins (in_order (with_held hs' l)) (in_order (receives id bytes (with_held hs os)))) now begins)

printed_or_failed : (id : ℕ) (before after : WorldState) (result : Result (Unit {0}) StreamFault) → IfErr result IsOutputFault → OnOk result (after.failures ≡ before.failures) → IfErr result (λ fault. FailsAtOutput id fault before after) → FailsAs result before after
printed_or_failed id before after (Ok u) fault same fails = same
printed_or_failed id before after (Err e) fault same fails = fails_as before after e fault (fails_with id e before after fails)

pub print_touches : (id : ℕ) (written : List ℕ) (before after : WorldState) (hs : List (ℕ × List ℕ)) (result : Result (Unit {0}) StreamFault) → is_output_among id hs ≡ true → IsWritable id before.log → SameOpen before after → WritesAll id written before result after →
    Touches (λ j. is_output_among j hs) before after
print_touches id written before after hs result is writable open' w =
    events_touch (λ j. is_output_among j hs) id w.writes.events before after is writable open' (writes_of id (take w.count written) w.writes.events w.writes.each) w.writes.log w.grows

prints_spares : {id : ℕ} {held held' : List ℕ} {hs hs' : List (ℕ × List ℕ)} (before after : WorldState) (result : Result (Unit {0}) StreamFault) → ChangesHeld id held held' hs hs' → (part : List ℕ) → openings after.log ≡ receives id part (openings before.log) → ((j : ℕ) → place_of j (openings after.log) ≡ place_of j (openings before.log))
    → OnErr result (held' ≡ []) → IfErr result (λ fault. FailsAtOutput id fault before after) → OnErr result (Spares before hs after hs')
prints_spares before after (Ok u) c part gains places empty fails = tt
prints_spares before after (Err fault) c part gains places empty fails = spares_failing c part fault empty gains places fails

pub prints : (t : Target) (id n : ℕ) (held held' bytes : List ℕ) (before after : WorldState) (old new : StreamsView) (result : Result (Unit {0}) StreamFault) → number_at t old ≡ Some id → opening_at t old before.log ≡ Some n → opening_at t new after.log ≡ Some n →
    place_of id (openings before.log) ≡ Some n → is_output_among id (held_of old) ≡ true → IsWritable id before.log → SameOpen before after → new.main ≡ old.main → all_unheld new.named ≡ all_unheld old.named → ChangesHeld id held held' (held_of old) (held_of new) →
    IfErr result IsOutputFault → PrintsOrHolds id held bytes before result held' after → Prints t bytes before old result after new
prints t id n held held' bytes before after old new result number opens still place among writable open' main same change fault did =
    let w : WritesAll id did.written before result after = did.writes in
    let touches = print_touches id did.written before after (held_of old) result among writable open' w in
    let gains : openings after.log ≡ receives id (take w.count did.written) (openings before.log) = openings-writes id (take w.count did.written) before.log after.log w.writes in
    record {
      grows = w.grows;
      main = main;
      numbers = but_held_numbered old.named new.named same;
      id = id;
      number = number;
      only = (take w.count did.written, w.writes);
      opening = n;
      place = opens;
      still = still;
      printed = all_of_it result id held bytes held' did.written did.more w.count (held_of old) (held_of new) (openings before.log) (openings after.log) n change place did.parts did.holds w.all gains;
      partly = part_of_it result id held bytes held' did.written did.more w.count (held_of old) (held_of new) (openings before.log) (openings after.log) n change place did.parts did.empty w.within gains;
      spares = prints_spares before after result change (take w.count did.written) gains (λ j. (touches.same j).place) did.empty w.fails;
      marked = w.failure;
      counts = touches.counts;
      same = keeps_as before after old new touches.same main same;
      failure = printed_or_failed id before after result fault w.no_failure w.fails;
    }

-- printing, step by step

print_to_output : (L : Type 0) (before after : WorldState) (s : StreamsView) (held bytes : List ℕ) (result : Result (Unit {0}) StreamFault) → AreOpen before s → (L → AreSound before s) → SameOpen before after → IfErr result IsOutputFault → (L → PrintsOrHolds 0 s.output bytes before result held after) →
    PrintsAt L target.StandardOutput bytes before s result after record s { output = held }
print_to_output L before after s held bytes result open' sound same fault did =
    let new : StreamsView = record s { output = held } in
    let writable : IsWritable 0 before.log = inl (omega arith) in
    record {
      target = refl;
      open_as = keeps_open before after s new same refl refl open';
      sound = λ t. keeps_sound before after s new (print_touches 0 (did t).written before after (held_of s) result refl writable same (did t).writes) refl refl (sound t);
      told = λ t. prints target.StandardOutput 0 0 s.output held bytes before after s new result refl refl refl (standard_opened 0 before.log (omega arith) (sound t).order.orderly) refl writable same refl refl (change_output before s s.output held open') fault (did t);
    }

print_to_error : (L : Type 0) (before after : WorldState) (s : StreamsView) (held bytes : List ℕ) (result : Result (Unit {0}) StreamFault) → AreOpen before s → (L → AreSound before s) → SameOpen before after → IfErr result IsOutputFault → (L → PrintsOrHolds 1 s.error bytes before result held after) →
    PrintsAt L target.StandardError bytes before s result after record s { error = held }
print_to_error L before after s held bytes result open' sound same fault did =
    let new : StreamsView = record s { error = held } in
    let writable : IsWritable 1 before.log = inl (omega arith) in
    record {
      target = refl;
      open_as = keeps_open before after s new same refl refl open';
      sound = λ t. keeps_sound before after s new (print_touches 1 (did t).written before after (held_of s) result refl writable same (did t).writes) refl refl (sound t);
      told = λ t. prints target.StandardError 1 1 s.error held bytes before after s new result refl refl refl (standard_opened 1 before.log (omega arith) (sound t).order.orderly) refl writable same refl refl (change_error before s s.error held open') fault (did t);
    }

pub two_true : (a b : Bool) → (a || (b || true)) ≡ true
two_true true b = refl
two_true false true = refl
two_true false false = refl

input_output : {P : Type 0} (k : InputKind) (n : List ℕ) (input : Input) (k' : OutputKind) (n' : List ℕ) (output : Output) → named.Input k n input ≡ named.Output k' n' output → P
input_output k n input k' n' output e = cc

no_element : {T : Type 0} {P : Type 0} (x : T) → None ≡ Some x → P
no_element x e = cc

false_true : {P : Type 0} → false ≡ true → P
false_true e = cc

output_at : (o : Option NamedStream) → is_some (number_of_some o) ≡ true → (x : NamedStream) × (o ≡ Some x) × (is_an_output x ≡ true)
output_at None is = false_true is
output_at (Some (named.Input k n input)) is = false_true is
output_at (Some (named.Output k n output)) is = (named.Output k n output, refl, refl)

target_at : (xs : List NamedStream) (i : ℕ) (x : NamedStream) → IsTarget (target.Named i) record { main = None; output = []; error = []; named = xs } → x ≡ get_or xs i x → (slice_get xs i ≡ Some x) × (is_an_output x ≡ true)
target_at xs i x is at =
    let found = output_at (slice_get xs i) is in
    let same : x ≡ found.0 = at ∙ get_or_from_slice_get xs i found.0 x found.1 in
    (found.1 ∙ ap Some (sym same), ap is_an_output same ∙ found.2)

set_at : (xs : List NamedStream) (i : ℕ) (x y : NamedStream) → slice_get xs i ≡ Some x → slice_get (set xs i y) i ≡ Some y
set_at [] i x y at = no_element x at
set_at (z ∷ zs) zero x y at = refl
set_at (z ∷ zs) (suc i) x y at = set_at zs i x y at

pub change_at : (world : WorldState) (s : StreamsView) (i : ℕ) (k k' : OutputKind) (n n' : List ℕ) (o o' : Output) → AreOpen world s → slice_get s.named i ≡ Some (named.Output k n o) → o'.id ≡ o.id →
    ChangesHeld o.id o.held o'.held (held_of s) (held_of record s { named = set s.named i (named.Output k' n' o') })
change_at world s i k k' n n' o o' open' at same =
    let c = change_named s.named i k k' n n' o o' open'.apart at same in
    let low : 2 ≤ o.id = (open_at world s.named i (named.Output k n o) open'.named at).1 in
    record {
      front = (0, s.output) ∷ (1, s.error) ∷ c.front;
      back = c.back;
      old_is = ap (λ hs. (0, s.output) ∷ (1, s.error) ∷ hs) c.old_is;
      new_is = ap (λ hs. (0, s.output) ∷ (1, s.error) ∷ hs) c.new_is;
      others_front = (λ (e : 0 ≡ o.id). absurd (omega (arith, e, low)), (λ (e : 1 ≡ o.id). absurd (omega (arith, e, low)), c.others_front));
      others_back = c.others_back;
    }

print_to_named : (L : Type 0) (before after : WorldState) (s : StreamsView) (i : ℕ) (x y : NamedStream) (bytes : List ℕ) (result : Result (Unit {0}) StreamFault) → slice_get s.named i ≡ Some x → is_an_output x ≡ true → AreOpen before s → (L → AreSound before s) → SameOpen before after → unheld y ≡ unheld x →
    IfErr result IsOutputFault → (L → PrintsOrHolds (number_of x) (held_by x) bytes before result (held_by y) after) → PrintsAt L (target.Named i) bytes before s result after record s { named = set s.named i y }
print_to_named L before after s i (named.Input k n input) y bytes result at output open' sound same kept fault did = false_true output
print_to_named L before after s i (named.Output k n o) (named.Input k' n' input) bytes result at output open' sound same kept fault did = input_output k' n' input k n record { id = o.id; held = [] } kept
print_to_named L before after s i (named.Output k n o) (named.Output k' n' o') bytes result at output open' sound same kept fault did =
    let y : NamedStream = named.Output k' n' o' in
    let new : StreamsView = record s { named = set s.named i y } in
    let id : o'.id ≡ o.id = ap number_of kept in
    let unheld' : all_unheld new.named ≡ all_unheld s.named = unheld_set s.named i (named.Output k n o) y at kept in
    let there : slice_get new.named i ≡ Some y = set_at s.named i (named.Output k n o) y at in
    let number : number_at (target.Named i) new ≡ Some o.id = ap number_of_some there ∙ ap Some id in
    let among : is_output_among o.id (held_of s) ≡ true = ap (λ b. 0 == o.id || (1 == o.id || b)) (among_at s.named i k n o at) ∙ two_true (0 == o.id) (1 == o.id) in
    let stands : (t : L) → standing o.id before.log ≡ Some (AnOutput k) = λ t. sound_at before.log s.named i (named.Output k n o) (sound t).named at in
    let touches : (t : L) → Touches (λ j. is_output_among j (held_of s)) before after = λ t. print_touches o.id (did t).written before after (held_of s) result among (inr (k, stands t)) same (did t).writes in
    record {
      target = ap is_some number;
      open_as = keeps_open before after s new same refl (but_held_numbered s.named new.named unheld') open';
      sound = λ t. keeps_sound before after s new (touches t) refl unheld' (sound t);
      told = λ t.
          let place = stands_opened o.id k before.log (stands t) in
          prints (target.Named i) o.id place.0 o.held o'.held bytes before after s new result (ap number_of_some at) (ap (λ (m : Option ℕ). place_of_some m (openings before.log)) (ap number_of_some at) ∙ place.1)
          (ap (λ (m : Option ℕ). place_of_some m (openings after.log)) number ∙ (((touches t).same o.id).place ∙ place.1)) place.1 among (inr (k, stands t)) same refl unheld' (change_at before s i k k' n n' o o' open' at id) fault (did t);
    }

-- printing to the standard outputs

pub print_output : (L : Type 0) (before after : WorldState) (old s : StreamsView) (held bytes : List ℕ) (result : Result (Unit {0}) StreamFault) → s ≡ old → AreOpen before old → (L → AreSound before old) → SameOpen before after → IfErr result IsOutputFault →
    (L → PrintsOrHolds 0 s.output bytes before result held after) → PrintsAt L target.StandardOutput bytes before old result after record s { output = held }
print_output L before after old s held bytes result is open' sound same fault did =
    let new : StreamsView = record s { output = held } in
    subst (λ (x : StreamsView). PrintsAt L target.StandardOutput bytes before x result after new) is
    (print_to_output L before after s held bytes result (subst (λ (x : StreamsView). AreOpen before x) (sym is) open') (λ t. subst (λ (x : StreamsView). AreSound before x) (sym is) (sound t)) same fault did)

pub print_error : (L : Type 0) (before after : WorldState) (old s : StreamsView) (held bytes : List ℕ) (result : Result (Unit {0}) StreamFault) → s ≡ old → AreOpen before old → (L → AreSound before old) → SameOpen before after → IfErr result IsOutputFault →
    (L → PrintsOrHolds 1 s.error bytes before result held after) → PrintsAt L target.StandardError bytes before old result after record s { error = held }
print_error L before after old s held bytes result is open' sound same fault did =
    let new : StreamsView = record s { error = held } in
    subst (λ (x : StreamsView). PrintsAt L target.StandardError bytes before x result after new) is
    (print_to_error L before after s held bytes result (subst (λ (x : StreamsView). AreOpen before x) (sym is) open') (λ t. subst (λ (x : StreamsView). AreSound before x) (sym is) (sound t)) same fault did)

-- printing to a named output

pub print_named : (L : Type 0) (before after : WorldState) (old s : StreamsView) (i : ℕ) (x y : NamedStream) (bytes : List ℕ) (result : Result (Unit {0}) StreamFault) → s ≡ old → IsTarget (target.Named i) old → x ≡ get_or s.named i x → AreOpen before old → (L → AreSound before old) → SameOpen before after →
    unheld y ≡ unheld x → IfErr result IsOutputFault → (L → PrintsOrHolds (number_of x) (held_by x) bytes before result (held_by y) after) → PrintsAt L (target.Named i) bytes before old result after record s { named = set s.named i y }
print_named L before after old s i x y bytes result is aims at open' sound same kept fault did =
    let new : StreamsView = record s { named = set s.named i y } in
    let found = target_at s.named i x (subst (λ (z : StreamsView). IsTarget (target.Named i) z) (sym is) aims) at in
    subst (λ (z : StreamsView). PrintsAt L (target.Named i) bytes before z result after new) is
    (print_to_named L before after s i x y bytes result found.0 found.1 (subst (λ (z : StreamsView). AreOpen before z) (sym is) open') (λ t. subst (λ (z : StreamsView). AreSound before z) (sym is) (sound t)) same kept fault did)

pub print_needs : (world : WorldState) (old s : StreamsView) (i : ℕ) (x : NamedStream) → s ≡ old → IsTarget (target.Named i) old → x ≡ get_or s.named i x → AreOpen world old → (is_an_output x ≡ true) × (world.is_open (number_of x) ≡ true)
print_needs world old s i x is aims at open' =
    let found = target_at s.named i x (subst (λ (z : StreamsView). IsTarget (target.Named i) z) (sym is) aims) at in
    (found.1, (open_at world s.named i x (subst (λ (z : StreamsView). AreOpen world z) (sym is) open').named found.0).0)
