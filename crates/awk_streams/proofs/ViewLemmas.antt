-- The streams as one value, where bytes were brought to outputs.
use Rattle.std.proofs.Common.{◌≡◌, ◌≤◌, ◌<◌, inl, inr, ℕ, Bool, true, false, List, [], ◌∷◌, Option, Some, None, Result, Ok, Err, refl, sym, ◌∙◌, ap, subst, arith}
use Rattle.std.specs.Prelude.{OnOk, slice_get, ◌==◌, ◌||◌}
use Rattle.std.specs.Result.{result_and}
use Rattle.awk_world.specs.definitions.Log.{Event}
use Rattle.awk_world.specs.definitions.Oracle.{Oracle, Source}
use Rattle.awk_world.specs.definitions.WorldState.{WorldState, SameOpen, is_any}
use Rattle.awk_world.specs.definitions.Openings.{Opening, openings, in_order, receives, AreFlushed, Begins}
use Rattle.awk_streams.specs.declared.fault.StreamFault.{StreamFault}
use Rattle.awk_streams.specs.declared.input.Input.{Input}
use Rattle.awk_streams.specs.declared.named.NamedStream.{NamedStream}
use Rattle.awk_streams.specs.declared.named.NamedStream.TheVariants as named
use Rattle.awk_streams.specs.definitions.Outputs.{IsOutputFault, FailsWith}
use Rattle.awk_streams.specs.definitions.Named as words
use Rattle.awk_streams.specs.definitions.Streams.{StreamsView, numbered, IsOpenMain, AreOpenNamed, AreOthers, IsApartFrom, AreApart, AreOpen, number_of, held_in, held_of, with_held, is_output_among, IsSoundMain, AreSoundNamed, AreSound, IsMainRest, StandFor, AreAs, FailsBy, Brings, all_unheld}
use Rattle.awk_streams.specs.definitions.NamedOutputs.{LosesBytes}
use Rattle.awk_streams.specs.definitions.Commands.{BringsAll}
use Rattle.awk_streams.specs.definitions.Outputs.{WritesAndFlushes}
use Rattle.awk_streams.specs.definitions.Lost.{AreSpent, Spares}
use Rattle.awk_streams.specs.support.Kept.{SameAt}
use Rattle.awk_streams.specs.support.Held.{ChangesHeld, AreEmpty, HoldsNothing}
use Rattle.awk_streams.specs.support.Brings.{Touches, BringsHeld, BringsTo, AreFlushedBut}
use Rattle.awk_streams.proofs.OpeningsLemmas.{receives-none}
use Rattle.awk_streams.proofs.StreamsLemmas.{main_same, main_rest_same, sound_same, stand_same, same_for_all, same_for_main, but_held_numbered, but_held_length, open_named_by, apart_by, apart_from_main_by, once_by, but_held_sound, but_held_stand, but_held_among}
use Rattle.awk_streams.proofs.OwnedLemmas.{of_main_by, of_named_by}
use Rattle.awk_streams.proofs.NamedLemmas.{other_outputs}
use Rattle.awk_streams.proofs.BringLemmas.{on_ok, touches_as, flush_brings, flush_flushed, brings-then}
use Rattle.awk_world.specs.declared.failure.Failure.{Failure}
use Rattle.awk_world.specs.declared.world.WorldFault.TheVariants.{Failed, Memory as WorldMemory}

-- which streams stand is the same

pub open_main_by : (before after : WorldState) (main : Option Input) → SameOpen before after → IsOpenMain before main → IsOpenMain after main
open_main_by before after None same h = tt
open_main_by before after (Some input) same h = (same input.id ∙ h.0, h.1)

pub open_named_on : (before after : WorldState) (xs : List NamedStream) → SameOpen before after → AreOpenNamed before xs → AreOpenNamed after xs
open_named_on before after [] same h = tt
open_named_on before after (x ∷ xs) same h = (same _ ∙ h.0, h.1, open_named_on before after xs same h.2)

pub keeps_open : (before after : WorldState) (old new : StreamsView) → SameOpen before after → new.main ≡ old.main → numbered new.named ≡ numbered old.named → AreOpen before old → AreOpen after new
keeps_open before after old new same main numbers h = record {
  main = subst (λ (m : Option Input). IsOpenMain after m) (sym main) (open_main_by before after old.main same h.main);
  named = open_named_by after old.named new.named numbers (open_named_on before after old.named same h.named);
  apart = apart_by old.named new.named numbers h.apart;
  apart_from_main = subst (λ (m : Option Input). IsApartFrom m new.named) (sym main) (apart_from_main_by old.main old.named new.named numbers h.apart_from_main);
}

pub same_among : (j : ℕ) (old new : StreamsView) → all_unheld new.named ≡ all_unheld old.named → is_output_among j (held_of new) ≡ is_output_among j (held_of old)
same_among j old new same = ap (λ b. 0 == j || (1 == j || b)) (but_held_among j old.named new.named same)

pub keeps_sound : (before after : WorldState) (old new : StreamsView) → Touches (λ j. is_output_among j (held_of old)) before after → new.main ≡ old.main → all_unheld new.named ≡ all_unheld old.named → AreSound before old → AreSound after new
keeps_sound before after old new touches main same h = record {
  order = touches.order h.order;
  main = subst (λ (m : Option Input). IsSoundMain after.log m) (sym main) (main_same old.main before.log after.log (same_for_main old.main before.log after.log touches.same) h.main);
  named = but_held_sound after.log old.named new.named same (sound_same old.named before.log after.log (same_for_all old.named before.log after.log touches.same) h.named);
  once = once_by old.named new.named (but_held_numbered old.named new.named same) h.once;
  few = subst (λ (n : ℕ). n ≤ 200) (sym (but_held_length old.named new.named same)) h.few;
  flushed = λ id other.
      let other' = sym (same_among id old new same) ∙ other in
      touches.others id other' ∙ h.flushed id other';
  owned = λ id no_main no_named.
      (touches.same id).stands ∙ h.owned id (of_main_by id old.main new.main main no_main) (of_named_by id old.named new.named (but_held_numbered old.named new.named same) no_named);
}

pub keeps_main_rest : (a : Oracle) (before after : WorldState) (main main' : Option Input) (rest : Option Source) → ((j : ℕ) → SameAt j before.log after.log) → main' ≡ main → IsMainRest a before.log main rest → IsMainRest a after.log main' rest
keeps_main_rest a before after main main' rest same is h =
    subst (λ (m : Option Input). IsMainRest a after.log m rest) (sym is) (main_rest_same a main rest before.log after.log (same_for_main main before.log after.log same) h)

pub keeps_stand : (a : Oracle) (before after : WorldState) (xs ys : List NamedStream) (zs : List words.Stream) → ((j : ℕ) → SameAt j before.log after.log) → all_unheld ys ≡ all_unheld xs → StandFor a before.log xs zs → StandFor a after.log ys zs
keeps_stand a before after xs ys zs same is h = but_held_stand a after.log xs ys zs is (stand_same a xs zs before.log after.log (same_for_all xs before.log after.log same) h)

pub keeps_as : (before after : WorldState) (old new : StreamsView) → ((j : ℕ) → SameAt j before.log after.log) → new.main ≡ old.main → all_unheld new.named ≡ all_unheld old.named →
    (a : Oracle) (main : Option Source) (zs : List words.Stream) → AreAs a before old main zs → AreAs a after new main zs
keeps_as before after old new same main is a rest zs h = record {
  main = keeps_main_rest a before after old.main new.main rest same main h.main;
  named = keeps_stand a before after old.named new.named zs same is h.named;
}

-- flushing the standard outputs

pub small_others : (world : WorldState) (id : ℕ) (xs : List NamedStream) → id < 2 → AreOpenNamed world xs → AreOthers id xs
small_others world id [] low h = tt
small_others world id (x ∷ xs) low h = (λ (e : number_of x ≡ id). absurd (omega (arith, e, low, h.1)), small_others world id xs low h.2)

pub change_output : (world : WorldState) (s : StreamsView) (held held' : List ℕ) → AreOpen world s → ChangesHeld 0 held held' (held_of record s { output = held }) (held_of record s { output = held' })
change_output world s held held' open' = record {
  front = [];
  back = (1, s.error) ∷ held_in s.named;
  old_is = refl;
  new_is = refl;
  others_front = tt;
  others_back = (λ (e : 1 ≡ 0). absurd (omega (arith, e)), other_outputs 0 s.named (small_others world 0 s.named (omega arith) open'.named));
}

pub change_error : (world : WorldState) (s : StreamsView) (held held' : List ℕ) → AreOpen world s → ChangesHeld 1 held held' (held_of record s { error = held }) (held_of record s { error = held' })
change_error world s held held' open' = record {
  front = (0, s.output) ∷ [];
  back = held_in s.named;
  old_is = refl;
  new_is = refl;
  others_front = (λ (e : 0 ≡ 1). absurd (omega (arith, e)), tt);
  others_back = other_outputs 1 s.named (small_others world 1 s.named (omega arith) open'.named);
}

pub flush_output : (before after : WorldState) (s : StreamsView) (held : List ℕ) (result : Result (Unit {0}) StreamFault) → AreOpen before s → SameOpen before after → s.output ≡ held → WritesAndFlushes 0 held before result after →
    BringsHeld before (held_of s) result after (held_of record s { output = [] })
flush_output before after s held result open' same is w =
    let here : BringsHeld before (held_of record s { output = held }) result after (held_of record s { output = [] }) = flush_brings (change_output before s held [] open') w refl (inl (omega arith)) same in
    subst (λ (h : List ℕ). BringsHeld before (held_of record s { output = h }) result after (held_of record s { output = [] })) (sym is) here

pub flush_error : (before after : WorldState) (s : StreamsView) (held : List ℕ) (result : Result (Unit {0}) StreamFault) → AreOpen before s → SameOpen before after → s.error ≡ held → WritesAndFlushes 1 held before result after →
    BringsHeld before (held_of s) result after (held_of record s { error = [] })
flush_error before after s held result open' same is w =
    let here : BringsHeld before (held_of record s { error = held }) result after (held_of record s { error = [] }) = flush_brings (change_error before s held [] open') w refl (inl (omega arith)) same in
    subst (λ (h : List ℕ). BringsHeld before (held_of record s { error = h }) result after (held_of record s { error = [] })) (sym is) here

-- the named ones among all, once the standard outputs hold nothing

none_before : (hs : List (ℕ × List ℕ)) (os : List (ℕ × Opening)) → with_held ((0, []) ∷ (1, []) ∷ hs) os ≡ with_held hs os
none_before hs os = ap (λ x. with_held hs (receives 1 [] x)) (receives-none 0 os) ∙ ap (with_held hs) (receives-none 1 os)

either_false : (x y : Bool) → (x || y) ≡ false → y ≡ false
either_false true y e = absurd cc
either_false false y e = e

spares_named : (before after : WorldState) (hs hs' all all' : List (ℕ × List ℕ)) → all ≡ (0, []) ∷ (1, []) ∷ hs → all' ≡ (0, []) ∷ (1, []) ∷ hs' → with_held all (openings before.log) ≡ with_held hs (openings before.log) → with_held all' (openings after.log) ≡ with_held hs' (openings after.log)
    → Spares before hs after hs' → Spares before all after all'
spares_named before after hs hs' all all' old_is new_is old_held new_held p = record {
  same = λ n kept. ap (λ l. slice_get (in_order l) n) new_held ∙ (p.same n kept ∙ ap (λ l. slice_get (in_order l) n) (sym old_held));
  spent = λ spent.
      let old : AreSpent before.failures ((0, []) ∷ (1, []) ∷ hs) = subst (λ l. AreSpent before.failures l) old_is spent in
      subst (λ l. AreSpent after.failures l) (sym new_is) ((λ failed. refl), ((λ failed. refl), p.spent old.1.1));
}

pub brings_named : (before after : WorldState) (s : StreamsView) (ys : List NamedStream) (result : Result (Unit {0}) StreamFault) → s.output ≡ [] → s.error ≡ [] → BringsHeld before (held_in s.named) result after (held_in ys) →
    BringsHeld before (held_of s) result after (held_of record s { named = ys })
brings_named before after s ys result none_out none_err b =
    let old_is : held_of s ≡ (0, []) ∷ (1, []) ∷ held_in s.named = ap (λ (h : List ℕ). (0, h) ∷ (1, s.error) ∷ held_in s.named) none_out ∙ ap (λ (h : List ℕ). (0, []) ∷ (1, h) ∷ held_in s.named) none_err in
    let new_is : held_of record s { named = ys } ≡ (0, []) ∷ (1, []) ∷ held_in ys = ap (λ (h : List ℕ). (0, h) ∷ (1, s.error) ∷ held_in ys) none_out ∙ ap (λ (h : List ℕ). (0, []) ∷ (1, h) ∷ held_in ys) none_err in
    let old_held = ap (λ hs. with_held hs (openings before.log)) old_is ∙ none_before (held_in s.named) (openings before.log) in
    let new_held = ap (λ hs. with_held hs (openings after.log)) new_is ∙ none_before (held_in ys) (openings after.log) in
    record {
      touches = touches_as (λ j other. either_false (1 == j) (is_output_among j (held_in s.named)) (either_false (0 == j) (1 == j || is_output_among j (held_in s.named)) other)) b.touches;
      printed = on_ok result (λ (e : with_held (held_in ys) (openings after.log) ≡ with_held (held_in s.named) (openings before.log)). new_held ∙ (e ∙ sym old_held)) b.printed;
      begins = subst (λ l. Begins (in_order l) (in_order (with_held (held_of s) (openings before.log)))) (sym new_held) (subst (λ l. Begins (in_order (with_held (held_in ys) (openings after.log))) (in_order l)) (sym old_held) b.begins);
      spares = spares_named before after (held_in s.named) (held_in ys) (held_of s) (held_of record s { named = ys }) old_is new_is old_held new_held b.spares;
      no_failure = b.no_failure;
      failure = b.failure;
    }

-- what was brought, in the words of the calls

empty_held : (xs : List NamedStream) (os : List (ℕ × Opening)) → AreEmpty xs → with_held (held_in xs) os ≡ os
empty_held [] os h = refl
empty_held (named.Input k n input ∷ xs) os h = empty_held xs os h
empty_held (named.Output k n output ∷ xs) os h = ap (λ (b : List ℕ). with_held (held_in xs) (receives output.id b os)) h.0 ∙ (ap (with_held (held_in xs)) (receives-none output.id os) ∙ empty_held xs os h.1)

pub nothing_held : (s : StreamsView) (os : List (ℕ × Opening)) → HoldsNothing s → with_held (held_of s) os ≡ os
nothing_held s os h =
    ap (λ (b : List ℕ). with_held ((0, b) ∷ (1, s.error) ∷ held_in s.named) os) h.output ∙ (ap (λ (b : List ℕ). with_held ((0, []) ∷ (1, b) ∷ held_in s.named) os) h.error ∙ (none_before (held_in s.named) os ∙ empty_held s.named os h.named))

all_flushed : (os : List (ℕ × Opening)) (log : List Event) → AreFlushedBut [] log → AreFlushed os log
all_flushed [] log h = tt
all_flushed (o ∷ os) log h = (h o.0 refl, all_flushed os log h)

pub brings_of : (before after : WorldState) (old new : StreamsView) (u : Unit {0}) → BringsHeld before (held_of old) (Ok u) after (held_of new) → HoldsNothing new → AreFlushedBut [] after.log → Brings before old after.log
brings_of before after old new u b empty flushed = record {
  only = b.touches.only;
  brought = record {
    received = ap in_order (sym (nothing_held new (openings after.log) empty) ∙ b.printed);
    flushed = all_flushed (openings after.log) after.log flushed;
  };
}

pub brings_all : (before after : WorldState) (old new : StreamsView) (u : Unit {0}) → new.main ≡ old.main → all_unheld new.named ≡ all_unheld old.named → BringsHeld before (held_of old) (Ok u) after (held_of new) → HoldsNothing new → AreFlushedBut [] after.log → BringsAll before old after new
brings_all before after old new u main same b empty flushed = record {
  grows = b.touches.grows;
  brings = brings_of before after old new u b empty flushed;
  main = main;
  numbers = but_held_numbered old.named new.named same;
  printed = ap in_order b.printed;
  spares = b.spares;
  counts = b.touches.counts;
  same = keeps_as before after old new b.touches.same main same;
  no_failure = b.no_failure;
}

-- no failure is met where one is marked
pub not_marked : (failures : List Failure) → is_any failures ≡ true → failures ≡ [] → ⊥
not_marked [] marked none = absurd cc
not_marked (f ∷ failures) marked none = absurd cc

pub loses_bytes : (before after : WorldState) (old new : StreamsView) (result : Result (Unit {0}) StreamFault) → BringsHeld before (held_of old) result after (held_of new) → LosesBytes before old after new
loses_bytes before after old new result b = record { only = b.touches.only; begins = b.begins; spares = b.spares }

pub fails_as : (before after : WorldState) (e : StreamFault) → IsOutputFault e → FailsWith e before after → FailsBy e before after
fails_as before after e fault (WorldMemory, is, fails) = subst (λ (f : StreamFault). FailsBy f before after) (sym is) (inr fails)
fails_as before after e fault (Failed, is, fails) = subst (λ (f : StreamFault). FailsBy f before after) (sym is) fails

-- the steps of bringing all

pub step_output : (L : Type 0) (before after : WorldState) (s : StreamsView) (held : List ℕ) (result : Result (Unit {0}) StreamFault) → AreOpen before s → (L → AreSound before s) → SameOpen before after → held ≡ [] → (L → WritesAndFlushes 0 s.output before result after) →
    BringsTo L before s result after record s { output = held }
step_output L before after s held result open' sound same none w =
    let told : L → BringsHeld before (held_of s) result after (held_of record s { output = held }) = λ t. subst (λ (h : List ℕ). BringsHeld before (held_of s) result after (held_of record s { output = h })) (sym none) (flush_output before after s s.output result open' same refl (w t)) in
    record {
      open_as = keeps_open before after s record s { output = held } same refl refl open';
      sound = λ t. keeps_sound before after s record s { output = held } (told t).touches refl refl (sound t);
      told = told;
    }

pub step_error : (L : Type 0) (before after : WorldState) (s : StreamsView) (held : List ℕ) (result : Result (Unit {0}) StreamFault) → AreOpen before s → (L → AreSound before s) → SameOpen before after → held ≡ [] → (L → WritesAndFlushes 1 s.error before result after) →
    BringsTo L before s result after record s { error = held }
step_error L before after s held result open' sound same none w =
    let told : L → BringsHeld before (held_of s) result after (held_of record s { error = held }) = λ t. subst (λ (h : List ℕ). BringsHeld before (held_of s) result after (held_of record s { error = h })) (sym none) (flush_error before after s s.error result open' same refl (w t)) in
    record {
      open_as = keeps_open before after s record s { error = held } same refl refl open';
      sound = λ t. keeps_sound before after s record s { error = held } (told t).touches refl refl (sound t);
      told = told;
    }

pub step_named : (L : Type 0) (before after : WorldState) (s : StreamsView) (ys : List NamedStream) (result : Result (Unit {0}) StreamFault) → AreOpen before s → (L → AreSound before s) → SameOpen before after → s.output ≡ [] → s.error ≡ [] → all_unheld ys ≡ all_unheld s.named →
    (L → BringsHeld before (held_in s.named) result after (held_in ys)) → BringsTo L before s result after record s { named = ys }
step_named L before after s ys result open' sound same none_out none_err kept b =
    let told : L → BringsHeld before (held_of s) result after (held_of record s { named = ys }) = λ t. brings_named before after s ys result none_out none_err (b t) in
    record {
      open_as = keeps_open before after s record s { named = ys } same refl (but_held_numbered s.named ys kept) open';
      sound = λ t. keeps_sound before after s record s { named = ys } (told t).touches refl kept (sound t);
      told = told;
    }

pub steps_then : {L : Type 0} {before mid after : WorldState} {s s1 s2 : StreamsView} (first second : Result (Unit {0}) StreamFault) → all_unheld s1.named ≡ all_unheld s.named → BringsTo L before s first mid s1 → BringsTo L mid s1 second after s2 →
    BringsTo L before s (result_and first second) after s2
steps_then {s = s} {s1 = s1} first second kept p q = record {
  open_as = q.open_as;
  sound = q.sound;
  told = λ t. brings-then first second (λ j. same_among j s s1 kept) (p.told t) (q.told t);
}

-- as far as the first, the second and all of the steps

pub bring_one : (L : Type 0) (before mid : WorldState) (old s : StreamsView) (out : List ℕ) (r1 : Result (Unit {0}) StreamFault) → s ≡ old → AreOpen before old → (L → AreSound before old) → SameOpen before mid → out ≡ [] → (L → WritesAndFlushes 0 s.output before r1 mid) →
    BringsTo L before old r1 mid record s { output = out }
bring_one L before mid old s out r1 is open' sound same none w =
    subst (λ (x : StreamsView). BringsTo L before x r1 mid record s { output = out }) is
    (step_output L before mid s out r1 (subst (λ (x : StreamsView). AreOpen before x) (sym is) open') (λ t. subst (λ (x : StreamsView). AreSound before x) (sym is) (sound t)) same none w)

pub bring_two : (L : Type 0) (before mid later : WorldState) (old s : StreamsView) (out err : List ℕ) (r1 r2 : Result (Unit {0}) StreamFault) → s ≡ old → AreOpen before old → (L → AreSound before old) → SameOpen before mid → out ≡ [] →
    (L → WritesAndFlushes 0 s.output before r1 mid) → SameOpen mid later → err ≡ [] → (L → WritesAndFlushes 1 s.error mid r2 later) → BringsTo L before old (result_and r1 r2) later record s { output = out; error = err }
bring_two L before mid later old s out err r1 r2 is open' sound same none w same2 none2 w2 =
    let first = bring_one L before mid old s out r1 is open' sound same none w in
    let second = step_error L mid later record s { output = out } err r2 first.open_as first.sound same2 none2 w2 in
    steps_then r1 r2 (ap (λ (x : StreamsView). all_unheld x.named) is) first second

pub bring_three : (L : Type 0) (before mid later after : WorldState) (old s : StreamsView) (out err : List ℕ) (ys : List NamedStream) (r1 r2 r3 : Result (Unit {0}) StreamFault) → s ≡ old → AreOpen before old → (L → AreSound before old) → SameOpen before mid → out ≡ [] →
    (L → WritesAndFlushes 0 s.output before r1 mid) → SameOpen mid later → err ≡ [] → (L → WritesAndFlushes 1 s.error mid r2 later) → SameOpen later after → all_unheld ys ≡ all_unheld s.named →
    (L → AreApart s.named → AreSoundNamed later.log s.named → BringsHeld later (held_in s.named) r3 after (held_in ys)) → BringsTo L before old (result_and (result_and r1 r2) r3) after record s { output = out; error = err; named = ys }
bring_three L before mid later after old s out err ys r1 r2 r3 is open' sound same none w same2 none2 w2 same3 kept b =
    let two = bring_two L before mid later old s out err r1 r2 is open' sound same none w same2 none2 w2 in
    let third = step_named L later after record s { output = out; error = err } ys r3 two.open_as two.sound same3 none none2 kept (λ t. b t two.open_as.apart (two.sound t).named) in
    steps_then (result_and r1 r2) r3 (ap (λ (x : StreamsView). all_unheld x.named) is) two third

-- what is not yet flushed, as far as these steps
pub flushed_three : (L : Type 0) (before mid later after : WorldState) (old s : StreamsView) (u v : Unit {0}) (r3 : Result (Unit {0}) StreamFault) → s ≡ old → (L → AreSound before old) → (L → WritesAndFlushes 0 s.output before (Ok u) mid) → (L → WritesAndFlushes 1 s.error mid (Ok v) later) →
    OnOk r3 (L → AreFlushedBut (held_in s.named) later.log → AreFlushedBut [] after.log) → OnOk r3 (L → AreFlushedBut [] after.log)
flushed_three L before mid later after old s u v r3 is sound w w2 left =
    on_ok r3 (λ (f : L → AreFlushedBut (held_in s.named) later.log → AreFlushedBut [] after.log) (t : L).
    f t (flush_flushed v (held_in s.named) (w2 t) (flush_flushed u ((1, s.error) ∷ held_in s.named) (w t) (subst (λ (x : StreamsView). AreFlushedBut (held_of x) before.log) (sym is) (sound t).flushed)))) left

pub flushed_each_three : (L : Type 0) (before mid later after : WorldState) (old s : StreamsView) (r1 r2 r3 : Result (Unit {0}) StreamFault) → s ≡ old → (L → AreSound before old) → (L → WritesAndFlushes 0 s.output before r1 mid) → (L → WritesAndFlushes 1 s.error mid r2 later) →
    OnOk r3 (L → AreFlushedBut (held_in s.named) later.log → AreFlushedBut [] after.log) → OnOk (result_and (result_and r1 r2) r3) (L → AreFlushedBut [] after.log)
flushed_each_three L before mid later after old s (Ok u) (Ok v) r3 is sound w w2 left = flushed_three L before mid later after old s u v r3 is sound w w2 left
flushed_each_three L before mid later after old s (Ok u) (Err e) r3 is sound w w2 left = tt
flushed_each_three L before mid later after old s (Err e) r2 r3 is sound w w2 left = tt
