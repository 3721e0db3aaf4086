-- A stream in a place among the named streams.
use Rattle.std.proofs.Common.{◌≡◌, ◌≢◌, ◌≤◌, inr, ℕ, zero, suc, Bool, true, false, List, [], ◌∷◌, take, drop, set, Some, None, Result, Ok, Err, refl, sym, ◌∙◌, ap, subst}
use Rattle.std.specs.Prelude.{◌==◌, ◌||◌, slice_get, OnOk, IfErr}
use Rattle.std.specs.Result.{result_and}
use Rattle.std.proofs.lemmas.Bool.{eq-eqb}
use Rattle.std.proofs.lemmas.Option.{same_Some}
use Rattle.awk_world.specs.declared.world.InputKind.{InputKind}
use Rattle.awk_world.specs.declared.world.OutputKind.{OutputKind}
use Rattle.awk_world.specs.definitions.Log.{Event}
use Rattle.awk_world.specs.definitions.Orderly.{IsWritable}
use Rattle.awk_world.specs.definitions.WorldState.{WorldState, SameOpen}
use Rattle.awk_streams.specs.declared.fault.StreamFault.{StreamFault}
use Rattle.awk_streams.specs.declared.input.Input.{Input}
use Rattle.awk_streams.specs.declared.output.Output.{Output}
use Rattle.awk_streams.specs.declared.named.NamedStream.{NamedStream}
use Rattle.awk_streams.specs.declared.named.NamedStream.TheVariants as named
use Rattle.awk_streams.specs.definitions.Streams.{number_of, AreOpenNamed, AreOthers, AreApart, held_in, is_output_among, IsSound, AreSoundNamed, unheld, all_unheld}
use Rattle.awk_streams.specs.support.Held.{AreOtherOutputs, ChangesHeld, AreEmpty, held_by}
use Rattle.awk_streams.specs.support.Brings.{FlushesNamed, BringsHeld, AreFlushedBut}
use Rattle.awk_streams.proofs.StreamsLemmas.{but_held_among, but_held_numbered, but_held_sound, apart_by, sound_same, same_for_all}
use Rattle.awk_streams.proofs.WritingLemmas.{fails_with, fails_with_later}
use Rattle.awk_streams.proofs.BringLemmas.{brings-self, brings-then, flush_brings, flush_flushed}
use Rattle.awk_streams.specs.definitions.Outputs.{FailsWith}

no_element : {T : Type 0} {P : Type 0} (x : T) → None ≡ Some x → P
no_element x e = cc

pub others_at : (id : ℕ) (xs : List NamedStream) (i : ℕ) (x : NamedStream) → AreOthers id xs → slice_get xs i ≡ Some x → number_of x ≢ id
others_at id [] i x others at = no_element x at
others_at id (y ∷ ys) zero x others at = subst (λ (z : NamedStream). number_of z ≢ id) (same_Some y x at) others.0
others_at id (y ∷ ys) (suc i) x others at = others_at id ys i x others.1 at

pub other_outputs : (id : ℕ) (xs : List NamedStream) → AreOthers id xs → AreOtherOutputs id (held_in xs)
other_outputs id [] others = tt
other_outputs id (named.Input kind name input ∷ xs) others = other_outputs id xs others.1
other_outputs id (named.Output kind name output ∷ xs) others = (others.0, other_outputs id xs others.1)

pub open_at : (world : WorldState) (xs : List NamedStream) (i : ℕ) (x : NamedStream) → AreOpenNamed world xs → slice_get xs i ≡ Some x → (world.is_open (number_of x) ≡ true) × (2 ≤ number_of x)
open_at world [] i x h at = no_element x at
open_at world (y ∷ ys) zero x h at = subst (λ (z : NamedStream). (world.is_open (number_of z) ≡ true) × (2 ≤ number_of z)) (same_Some y x at) (h.0, h.1)
open_at world (y ∷ ys) (suc i) x h at = open_at world ys i x h.2 at

pub sound_at : (log : List Event) (xs : List NamedStream) (i : ℕ) (x : NamedStream) → AreSoundNamed log xs → slice_get xs i ≡ Some x → IsSound log x
sound_at log [] i x h at = no_element x at
sound_at log (y ∷ ys) zero x h at = subst (λ (z : NamedStream). IsSound log z) (same_Some y x at) h.0
sound_at log (y ∷ ys) (suc i) x h at = sound_at log ys i x h.1 at

-- an output that holds back other bytes

pub change_named : (xs : List NamedStream) (i : ℕ) (kind kind' : OutputKind) (name name' : List ℕ) (output output' : Output) → AreApart xs → slice_get xs i ≡ Some (named.Output kind name output) → output'.id ≡ output.id →
    ChangesHeld output.id output.held output'.held (held_in xs) (held_in (set xs i (named.Output kind' name' output')))
change_named [] i kind kind' name name' output output' apart at same = no_element (named.Output kind name output) at
change_named (y ∷ ys) zero kind kind' name name' output output' apart at same =
    let is : y ≡ named.Output kind name output = same_Some y (named.Output kind name output) at in
    record {
      front = [];
      back = held_in ys;
      old_is = ap (λ (z : NamedStream). held_in (z ∷ ys)) is;
      new_is = ap (λ (id : ℕ). (id, output'.held) ∷ held_in ys) same;
      others_front = tt;
      others_back = other_outputs output.id ys (subst (λ (z : NamedStream). AreOthers (number_of z) ys) is apart.0);
    }
change_named (named.Input k n input ∷ ys) (suc i) kind kind' name name' output output' apart at same = change_named ys i kind kind' name name' output output' apart.1 at same
change_named (named.Output k n o ∷ ys) (suc i) kind kind' name name' output output' apart at same =
    let c = change_named ys i kind kind' name name' output output' apart.1 at same in
    let differs : output.id ≢ o.id = others_at o.id ys i (named.Output kind name output) apart.0 at in
    record {
      front = (o.id, o.held) ∷ c.front;
      back = c.back;
      old_is = ap (λ hs. (o.id, o.held) ∷ hs) c.old_is;
      new_is = ap (λ hs. (o.id, o.held) ∷ hs) c.new_is;
      others_front = (λ (e : o.id ≡ output.id). differs (sym e), c.others_front);
      others_back = c.others_back;
    }

or_true : (b : Bool) → (b || true) ≡ true
or_true true = refl
or_true false = refl

pub among_at : (xs : List NamedStream) (i : ℕ) (kind : OutputKind) (name : List ℕ) (output : Output) → slice_get xs i ≡ Some (named.Output kind name output) → is_output_among output.id (held_in xs) ≡ true
among_at [] i kind name output at = no_element (named.Output kind name output) at
among_at (y ∷ ys) zero kind name output at =
    let is : y ≡ named.Output kind name output = same_Some y (named.Output kind name output) at in
    ap (λ (z : NamedStream). is_output_among output.id (held_in (z ∷ ys))) is ∙ ap (λ b. b || is_output_among output.id (held_in ys)) (eq-eqb output.id output.id refl)
among_at (named.Input k n input ∷ ys) (suc i) kind name output at = among_at ys i kind name output at
among_at (named.Output k n o ∷ ys) (suc i) kind name output at = ap (λ b. o.id == output.id || b) (among_at ys i kind name output at) ∙ or_true (o.id == output.id)

pub unheld_set : (xs : List NamedStream) (i : ℕ) (x y : NamedStream) → slice_get xs i ≡ Some x → unheld y ≡ unheld x → all_unheld (set xs i y) ≡ all_unheld xs
unheld_set [] i x y at same = no_element x at
unheld_set (z ∷ zs) zero x y at same = ap (λ (u : NamedStream). u ∷ all_unheld zs) (same ∙ ap unheld (sym (same_Some z x at)))
unheld_set (z ∷ zs) (suc i) x y at same = ap (λ us. unheld z ∷ us) (unheld_set zs i x y at same)

pub input_set : (xs : List NamedStream) (i : ℕ) (kind kind' : InputKind) (name name' : List ℕ) (input input' : Input) → slice_get xs i ≡ Some (named.Input kind name input) → held_in (set xs i (named.Input kind' name' input')) ≡ held_in xs
input_set [] i kind kind' name name' input input' at = no_element (named.Input kind name input) at
input_set (y ∷ ys) zero kind kind' name name' input input' at = sym (ap (λ (z : NamedStream). held_in (z ∷ ys)) (same_Some y (named.Input kind name input) at))
input_set (named.Input k n o ∷ ys) (suc i) kind kind' name name' input input' at = input_set ys i kind kind' name name' input input' at
input_set (named.Output k n o ∷ ys) (suc i) kind kind' name name' input input' at = ap (λ hs. (o.id, o.held) ∷ hs) (input_set ys i kind kind' name name' input input' at)

-- the places before and behind it

pub drop_here : (xs : List NamedStream) (i : ℕ) (x : NamedStream) → slice_get xs i ≡ Some x → drop i xs ≡ x ∷ drop (suc i) xs
drop_here [] i x at = no_element x at
drop_here (y ∷ ys) zero x at = ap (λ (z : NamedStream). z ∷ ys) (same_Some y x at)
drop_here (y ∷ ys) (suc i) x at = drop_here ys i x at

pub drop_behind : (xs : List NamedStream) (i : ℕ) (y : NamedStream) → drop (suc i) (set xs i y) ≡ drop (suc i) xs
drop_behind [] i y = refl
drop_behind (x ∷ xs) zero y = refl
drop_behind (x ∷ xs) (suc i) y = drop_behind xs i y

pub empty_set : (xs : List NamedStream) (i : ℕ) (y : NamedStream) → held_by y ≡ [] → AreEmpty (take i xs) → AreEmpty (take (suc i) (set xs i y))
empty_set [] zero y none h = h
empty_set [] (suc i) y none h = h
empty_set (x ∷ xs) zero (named.Input k n input) none h = tt
empty_set (x ∷ xs) zero (named.Output k n output) none h = (none, tt)
empty_set (named.Input k n input ∷ xs) (suc i) y none h = empty_set xs i y none h
empty_set (named.Output k n output ∷ xs) (suc i) y none h = (h.0, empty_set xs i y none h.1)

-- one stream more is flushed

output_input : {P : Type 0} (k : InputKind) (n : List ℕ) (input : Input) (k' : OutputKind) (n' : List ℕ) (output : Output) → named.Output k' n' output ≡ named.Input k n input → P
output_input k n input k' n' output e = cc

pub flush_step : (mid after : WorldState) (now : List NamedStream) (i : ℕ) (x y : NamedStream) (result : Result (Unit {0}) StreamFault) → AreApart now → AreSoundNamed mid.log now → slice_get now i ≡ Some x → unheld y ≡ unheld x → held_by y ≡ [] → SameOpen mid after →
    FlushesNamed x mid result after → BringsHeld mid (held_in now) result after (held_in (set now i y))
flush_step mid after now i (named.Input k n input) (named.Input k' n' input') result apart sound at same none open' flushes =
    let here : BringsHeld mid (held_in now) (Ok tt) mid (held_in now) = brings-self mid (held_in now) tt in
    let there : BringsHeld mid (held_in now) (Ok tt) mid (held_in (set now i (named.Input k' n' input'))) = subst (λ hs. BringsHeld mid (held_in now) (Ok tt) mid hs) (sym (input_set now i k k' n n' input input' at)) here in
    subst (λ (r : Result (Unit {0}) StreamFault). BringsHeld mid (held_in now) r after (held_in (set now i (named.Input k' n' input')))) (sym flushes.0)
    (subst (λ (w : WorldState). BringsHeld mid (held_in now) (Ok tt) w (held_in (set now i (named.Input k' n' input')))) (sym flushes.1) there)
flush_step mid after now i (named.Input k n input) (named.Output k' n' output') result apart sound at same none open' flushes = output_input k n input k' n' record { id = output'.id; held = [] } same
flush_step mid after now i (named.Output k n output) (named.Input k' n' input') result apart sound at same none open' flushes = output_input k' n' input' k n record { id = output.id; held = [] } (sym same)
flush_step mid after now i (named.Output k n output) (named.Output k' n' output') result apart sound at same none open' flushes =
    let id : output'.id ≡ output.id = ap number_of same in
    let change = change_named now i k k' n n' output output' apart at id in
    let change' : ChangesHeld output.id output.held [] (held_in now) (held_in (set now i (named.Output k' n' output'))) = subst (λ (h : List ℕ). ChangesHeld output.id output.held h (held_in now) (held_in (set now i (named.Output k' n' output')))) none change in
    let writable : IsWritable output.id mid.log = inr (k, sound_at mid.log now i (named.Output k n output) sound at) in
    flush_brings change' flushes (among_at now i k n output at) writable open'

pub flush_each : (before mid after : WorldState) (init now : List NamedStream) (i : ℕ) (x y : NamedStream) (first result : Result (Unit {0}) StreamFault) → all_unheld now ≡ all_unheld init → AreApart init → AreSoundNamed before.log init →
    slice_get now i ≡ Some x → unheld y ≡ unheld x → held_by y ≡ [] → SameOpen mid after → BringsHeld before (held_in init) first mid (held_in now) → FlushesNamed x mid result after →
    BringsHeld before (held_in init) (result_and first result) after (held_in (set now i y))
flush_each before mid after init now i x y first result kept apart sound at same none open' brings flushes =
    let apart' = apart_by init now (but_held_numbered init now kept) apart in
    let sound' = but_held_sound mid.log init now kept (sound_same init before.log mid.log (same_for_all init before.log mid.log brings.touches.same) sound) in
    brings-then first result (λ j. but_held_among j init now kept) brings (flush_step mid after now i x y result apart' sound' at same none open' flushes)

-- and what is not yet flushed is behind it
pub flushed_each : (mid after : WorldState) (now : List NamedStream) (i : ℕ) (x y : NamedStream) (u : Unit {0}) → slice_get now i ≡ Some x → FlushesNamed x mid (Ok u) after → AreFlushedBut (held_in (drop i now)) mid.log →
    AreFlushedBut (held_in (drop (suc i) (set now i y))) after.log
flushed_each mid after now i (named.Input k n input) y u at flushes flushed =
    let here : AreFlushedBut (held_in (drop (suc i) now)) mid.log = subst (λ l. AreFlushedBut (held_in l) mid.log) (drop_here now i (named.Input k n input) at) flushed in
    subst (λ l. AreFlushedBut (held_in l) after.log) (sym (drop_behind now i y)) (subst (λ (w : WorldState). AreFlushedBut (held_in (drop (suc i) now)) w.log) (sym flushes.1) here)
flushed_each mid after now i (named.Output k n output) y u at flushes flushed =
    let here : AreFlushedBut ((output.id, output.held) ∷ held_in (drop (suc i) now)) mid.log = subst (λ l. AreFlushedBut (held_in l) mid.log) (drop_here now i (named.Output k n output) at) flushed in
    subst (λ l. AreFlushedBut (held_in l) after.log) (sym (drop_behind now i y)) (flush_flushed u (held_in (drop (suc i) now)) flushes here)

err_ok : (r : Result (Unit {0}) StreamFault) (e : StreamFault) → r ≡ Err e → r ≡ Ok tt → ⊥
err_ok r e is ok = cc

-- a flush that fails
pub flush_fails : (before mid after : WorldState) (x : NamedStream) (e : StreamFault) → mid.failures ≡ before.failures → FlushesNamed x mid (Err e) after → FailsWith e before after
flush_fails before mid after (named.Input k n input) e same flushes = absurd (err_ok (Err e) e refl flushes.0)
flush_fails before mid after (named.Output k n output) e same flushes = fails_with_later e before mid after same (fails_with output.id e mid after flushes.fails)

pub flush_no_failure : (before after : WorldState) (x : NamedStream) (u : Unit {0}) → FlushesNamed x before (Ok u) after → after.failures ≡ before.failures
flush_no_failure before after (named.Input k n input) u flushes = ap (λ (w : WorldState). w.failures) flushes.1
flush_no_failure before after (named.Output k n output) u flushes = flushes.no_failure

-- of two results the first failure

pub and_then_ok : (A B C : Type 0) (first second : Result (Unit {0}) StreamFault) → OnOk first (A → B) → ((u : Unit {0}) → second ≡ Ok u → B → C) → OnOk (result_and first second) (A → C)
and_then_ok A B C (Ok u) (Ok v) f g = λ a. g v refl (f a)
and_then_ok A B C (Ok u) (Err e) f g = tt
and_then_ok A B C (Err e) second f g = tt

pub ok_under : (A B C : Type 0) (r : Result (Unit {0}) StreamFault) → (A → OnOk r (B → C)) → OnOk r (A → B → C)
ok_under A B C (Ok u) f = f
ok_under A B C (Err e) f = tt

pub err_and : (P : StreamFault → Type 0) (first second : Result (Unit {0}) StreamFault) → IfErr first P → IfErr second P → IfErr (result_and first second) P
err_and P (Ok u) (Ok v) p q = tt
err_and P (Ok u) (Err e) p q = q
err_and P (Err e) second p q = p
