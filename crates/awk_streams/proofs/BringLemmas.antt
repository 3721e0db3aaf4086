-- Bringing what outputs hold back to them, step by step.
use Rattle.std.proofs.Common.{◌≡◌, ◌≢◌, inl, inr, ℕ, Bool, true, false, List, [], ◌∷◌, ◌++◌, take, length, Result, Ok, Err, refl, sym, ◌∙◌, ap, subst, append-nil, append_assoc}
use Rattle.std.specs.Prelude.{OnOk, OnErr, ◌||◌}
use Rattle.std.specs.Result.{is_ok, result_and}
use Rattle.std.proofs.lemmas.Bool.{ne_eqb, cases_eq}
use Rattle.std.proofs.Math.Seq.{take-length}
use Rattle.awk_world.specs.definitions.Log.{Event, Wrote, Flushed}
use Rattle.awk_world.specs.definitions.Oracle.{SameCounts}
use Rattle.awk_world.specs.definitions.Orderly.{IsWritable, IsInOrder}
use Rattle.awk_world.specs.definitions.Writes.{with_events, GoesOn}
use Rattle.awk_world.specs.definitions.WorldState.{WorldState, SameOpen, is_any}
use Rattle.awk_world.specs.declared.failure.Failure.{Failure}
use Rattle.awk_world.specs.definitions.Openings.{Opening, openings, in_order, receives, is_flushed, IsBeginning, Begins}
use Rattle.awk_world.specs.definitions.Grows.{Grows}
use Rattle.awk_streams.specs.declared.fault.StreamFault.{StreamFault}
use Rattle.awk_streams.specs.definitions.Streams.{with_held, is_output_among, AreBringing}
use Rattle.awk_streams.specs.definitions.Outputs.{WritesAndFlushes}
use Rattle.awk_streams.specs.support.Kept.{SameAt, AreOfOutput}
use Rattle.awk_streams.specs.support.Held.{ChangesHeld}
use Rattle.awk_streams.specs.support.Brings.{Touches, BringsHeld, AreFlushedBut}
use Rattle.awk_streams.proofs.GrowsLemmas.{Grows-self, Grows-then, still_any, with_events-append}
use Rattle.awk_streams.proofs.KeptLemmas.{quiet_streams, same_counts-self, same_counts-then}
use Rattle.awk_streams.proofs.OpeningsLemmas.{receives-none, openings-writes, openings-flush}
use Rattle.awk_streams.proofs.HeldLemmas.{change_brings, change_part}
use Rattle.awk_streams.proofs.LostLemmas.{spares-self, spares-then, spares_by}
use Rattle.awk_streams.proofs.LeavesLemmas.{same_at-self, same_at-then, writes_of, of_output_quiet, of_output_bringing, of_output_append, of_output_same, of_output_order, of_output_flushed, flushed_here, flushed_if_events, flushed_if_is, flushed_if_of}

-- beginnings of beginnings

beginning_then : {x y z : List ℕ} → IsBeginning x y → IsBeginning y z → IsBeginning x z
beginning_then {x = x} p q = record { more = p.more ++ q.more; is = q.is ∙ (ap (λ b. b ++ q.more) p.is ∙ append_assoc x p.more q.more) }

pub begins-self : (xs : List Opening) → Begins xs xs
begins-self [] = tt
begins-self (x ∷ xs) = (refl, record { more = []; is = sym (append-nil x.bytes) }, begins-self xs)

pub begins-then : (xs ys zs : List Opening) → Begins xs ys → Begins ys zs → Begins xs zs
begins-then [] ys zs p q = tt
begins-then (x ∷ xs) [] zs p q = absurd p
begins-then (x ∷ xs) (y ∷ ys) [] p q = absurd q
begins-then (x ∷ xs) (y ∷ ys) (z ∷ zs) p q = (p.0 ∙ q.0, beginning_then p.1 q.1, begins-then xs ys zs p.2 q.2)

-- one stretch after another

bringing-append : (es fs : List Event) → AreBringing es → AreBringing fs → AreBringing (es ++ fs)
bringing-append [] fs h k = k
bringing-append (Wrote id bytes ∷ es) fs h k = bringing-append es fs h k
bringing-append (Flushed id ∷ es) fs h k = bringing-append es fs h k
bringing-append (e ∷ es) fs h k = absurd h

pub touches-self : (among : ℕ → Bool) (world : WorldState) → Touches among world world
touches-self among world = record {
  only = record { events = []; log = refl; each = tt };
  same = λ j. same_at-self j world.log;
  counts = same_counts-self world.log;
  order = λ h. h;
  others = λ j other. refl;
  grows = Grows-self world;
}

pub bringing-then : {x y z : List Event} → GoesOn AreBringing x y → GoesOn AreBringing y z → GoesOn AreBringing x z
bringing-then {x = x} p q = record {
  events = p.events ++ q.events;
  log = q.log ∙ (ap (with_events q.events) p.log ∙ sym (with_events-append p.events q.events x));
  each = bringing-append p.events q.events p.each q.each;
}

pub touches-then : {among : ℕ → Bool} {x y z : WorldState} → Touches among x y → Touches among y z → Touches among x z
touches-then p q = record {
  only = bringing-then p.only q.only;
  same = λ j. same_at-then (p.same j) (q.same j);
  counts = same_counts-then p.counts q.counts;
  order = λ h. q.order (p.order h);
  others = λ j other. q.others j other ∙ p.others j other;
  grows = Grows-then p.grows q.grows;
}

pub touches_as : {among among' : ℕ → Bool} {x y : WorldState} → ((j : ℕ) → among' j ≡ false → among j ≡ false) → Touches among x y → Touches among' x y
touches_as same p = record {
  only = p.only;
  same = p.same;
  counts = p.counts;
  order = p.order;
  others = λ j other. p.others j (same j other);
  grows = p.grows;
}

-- events of one output

true_false : {P : Type 0} → true ≡ false → P
true_false e = cc

not_among : (among : ℕ → Bool) (id j : ℕ) → among id ≡ true → among j ≡ false → id ≢ j
not_among among id j is other = λ (e : id ≡ j). true_false (sym is ∙ (ap among e ∙ other))

pub events_touch : (among : ℕ → Bool) (id : ℕ) (es : List Event) (before after : WorldState) → among id ≡ true → IsWritable id before.log → SameOpen before after → AreOfOutput id es → after.log ≡ with_events es before.log → Grows before after →
    Touches among before after
events_touch among id es before after is writable open' of_output log grows = record {
  only = record { events = es; log = log; each = of_output_bringing id es of_output };
  same = λ j. subst (λ (l : List Event). SameAt j before.log l) (sym log) (of_output_same id j es before.log of_output);
  counts = subst (λ (l : List Event). SameCounts before.log l) (sym log) (quiet_streams es before.log (of_output_quiet id es of_output)).counts;
  order = λ order. subst (λ (l : List Event). IsInOrder after.is_open l) (sym log) (of_output_order before.is_open after.is_open id es before.log open' of_output writable order);
  others = λ j other. ap (is_flushed j) log ∙ of_output_flushed id j es before.log of_output (not_among among id j is other);
  grows = grows;
}

-- a flush of what is held back

unfoldable pub flush_events : {id : ℕ} {held : List ℕ} {before : WorldState} {result : Result (Unit {0}) StreamFault} {after : WorldState} → WritesAndFlushes id held before result after → List Event
flush_events {id = id} {result = result} w = w.writes.events ++ flushed_if_events (is_ok result) id

pub flush_log : {id : ℕ} {held : List ℕ} {before : WorldState} {result : Result (Unit {0}) StreamFault} {after : WorldState} (w : WritesAndFlushes id held before result after) → after.log ≡ with_events (flush_events w) before.log
unfolding flush_events
flush_log {id = id} {before = before} {result = result} w =
    w.adds ∙ (flushed_if_is (is_ok result) id w.written ∙ (ap (with_events (flushed_if_events (is_ok result) id)) w.writes.log ∙ sym (with_events-append w.writes.events (flushed_if_events (is_ok result) id) before.log)))

pub flush_of : {id : ℕ} {held : List ℕ} {before : WorldState} {result : Result (Unit {0}) StreamFault} {after : WorldState} (w : WritesAndFlushes id held before result after) → AreOfOutput id (flush_events w)
unfolding flush_events
flush_of {id = id} {held = held} {result = result} w = of_output_append id w.writes.events (flushed_if_events (is_ok result) id) (writes_of id (take w.count held) w.writes.events w.writes.each) (flushed_if_of (is_ok result) id)

pub flush_touches : (among : ℕ → Bool) {id : ℕ} {held : List ℕ} {before : WorldState} {result : Result (Unit {0}) StreamFault} {after : WorldState} (w : WritesAndFlushes id held before result after) → among id ≡ true → IsWritable id before.log → SameOpen before after →
    Touches among before after
flush_touches among {id = id} {before = before} {after = after} w is writable open' = events_touch among id (flush_events w) before after is writable open' (flush_of w) (flush_log w) w.grows

flush_gains : {id : ℕ} {held : List ℕ} {before : WorldState} {result : Result (Unit {0}) StreamFault} {after : WorldState} (w : WritesAndFlushes id held before result after) → openings after.log ≡ receives id (take w.count held) (openings before.log)
flush_gains {id = id} {held = held} {before = before} {result = result} w = ap openings w.adds ∙ (openings-flush (is_ok result) id w.written ∙ openings-writes id (take w.count held) before.log w.written w.writes)

pub on_ok : {P Q : Type 0} (r : Result (Unit {0}) StreamFault) → (P → Q) → OnOk r P → OnOk r Q
on_ok (Ok u) f p = f p
on_ok (Err e) f p = tt

flush_printed : {id : ℕ} {held : List ℕ} {hs hs' : List (ℕ × List ℕ)} {before : WorldState} {result : Result (Unit {0}) StreamFault} {after : WorldState} → ChangesHeld id held [] hs hs' → WritesAndFlushes id held before result after →
    OnOk result (with_held hs' (openings after.log) ≡ with_held hs (openings before.log))
flush_printed {held = held} {hs' = hs'} {before = before} {result = result} c w =
    on_ok result (λ (all : w.count ≡ length held).
    let whole : held ≡ take w.count held ++ [] = sym (append-nil (take w.count held) ∙ (ap (λ n. take n held) all ∙ take-length held)) in
    ap (with_held hs') (flush_gains w) ∙ change_brings c (take w.count held) (openings before.log) whole) w.all

pub flush_brings : {id : ℕ} {held : List ℕ} {hs hs' : List (ℕ × List ℕ)} {before : WorldState} {result : Result (Unit {0}) StreamFault} {after : WorldState} → ChangesHeld id held [] hs hs' → WritesAndFlushes id held before result after →
    is_output_among id hs ≡ true → IsWritable id before.log → SameOpen before after → BringsHeld before hs result after hs'
flush_brings {id = id} {held = held} {hs = hs} {hs' = hs'} {before = before} {result = result} {after = after} c w is writable open' =
    let gains = flush_gains w in
    let os = openings before.log in
    record {
      touches = flush_touches (λ j. is_output_among j hs) w is writable open';
      printed = flush_printed c w;
      begins =
          let part = change_part c w.count [] os in
          let bytes : take w.count (held ++ []) ≡ take w.count held = ap (take w.count) (append-nil held) in
          let now : with_held hs' (receives id (take w.count (held ++ [])) os) ≡ with_held hs' (openings after.log) = ap (λ b. with_held hs' (receives id b os)) bytes ∙ ap (with_held hs') (sym gains) in
          subst (λ l. Begins (in_order (with_held hs' (openings after.log))) (in_order l)) (receives-none id (with_held hs os)) (subst (λ l. Begins (in_order l) (in_order (receives id [] (with_held hs os)))) now part);
      spares = spares_by c result (take w.count held) gains (λ j. ((flush_touches (λ j. is_output_among j hs) w is writable open').same j).place) (flush_printed c w) w.no_failure w.fails;
      no_failure = w.no_failure;
      failure = w.failure;
    }

-- one after another; the first failure is the answer

pub brings-self : (world : WorldState) (hs : List (ℕ × List ℕ)) (u : Unit {0}) → BringsHeld world hs (Ok u) world hs
brings-self world hs u = record {
  touches = touches-self (λ j. is_output_among j hs) world;
  printed = refl;
  begins = begins-self (in_order (with_held hs (openings world.log)));
  spares = spares-self world hs;
  no_failure = refl;
  failure = tt;
}

then_ok : (x y z : List (ℕ × Opening)) (first second : Result (Unit {0}) StreamFault) → OnOk first (y ≡ x) → OnOk second (z ≡ y) → OnOk (result_and first second) (z ≡ x)
then_ok x y z (Ok u) (Ok v) p q = q ∙ p
then_ok x y z (Ok u) (Err e) p q = tt
then_ok x y z (Err e) second p q = tt

then_no_failure : (first second : Result (Unit {0}) StreamFault) (failure failure1 failure2 : List Failure) → OnOk first (failure1 ≡ failure) → OnOk second (failure2 ≡ failure1) → OnOk (result_and first second) (failure2 ≡ failure)
then_no_failure (Ok u) (Ok v) failure failure1 failure2 p q = q ∙ p
then_no_failure (Ok u) (Err e) failure failure1 failure2 p q = tt
then_no_failure (Err e) second failure failure1 failure2 p q = tt

false_true : {P : Type 0} → false ≡ true → P
false_true e = cc

then_failure : (first second : Result (Unit {0}) StreamFault) (failures1 failures2 : List Failure) → OnErr first (is_any failures1 ≡ true) → OnErr second (is_any failures2 ≡ true) → (is_any failures1 ≡ true → is_any failures2 ≡ true) → OnErr (result_and first second) (is_any failures2 ≡ true)
then_failure (Ok u) (Ok v) failures1 failures2 p q still = tt
then_failure (Ok u) (Err e) failures1 failures2 p q still = q
then_failure (Err e) second failures1 failures2 p q still = still p

pub brings-then : {before mid after : WorldState} {hs hs1 hs2 : List (ℕ × List ℕ)} (first second : Result (Unit {0}) StreamFault) → ((j : ℕ) → is_output_among j hs1 ≡ is_output_among j hs) → BringsHeld before hs first mid hs1 → BringsHeld mid hs1 second after hs2 →
    BringsHeld before hs (result_and first second) after hs2
brings-then {before = before} {mid = mid} {after = after} {hs = hs} {hs1 = hs1} {hs2 = hs2} first second same p q = record {
  touches = touches-then p.touches (touches_as (λ j other. same j ∙ other) q.touches);
  printed = then_ok (with_held hs (openings before.log)) (with_held hs1 (openings mid.log)) (with_held hs2 (openings after.log)) first second p.printed q.printed;
  begins = begins-then (in_order (with_held hs2 (openings after.log))) (in_order (with_held hs1 (openings mid.log))) (in_order (with_held hs (openings before.log))) q.begins p.begins;
  spares = spares-then q.touches.grows (λ j. (q.touches.same j).place) p.spares q.spares;
  no_failure = then_no_failure first second before.failures mid.failures after.failures p.no_failure q.no_failure;
  failure = then_failure first second mid.failures after.failures p.failure q.failure (still_any q.touches.grows);
}

-- a flush leaves one output fewer that isn't flushed
pub flush_flushed : {id : ℕ} {held : List ℕ} {before : WorldState} {after : WorldState} (u : Unit {0}) (hs : List (ℕ × List ℕ)) → WritesAndFlushes id held before (Ok u) after → AreFlushedBut ((id, held) ∷ hs) before.log → AreFlushedBut hs after.log
flush_flushed {id = id} {held = held} {before = before} {after = after} u hs w flushed j other = elim (cases_eq id j) [
  | inl same ↦ subst (λ (i : ℕ). is_flushed i after.log ≡ true) same (ap (is_flushed id) w.adds ∙ flushed_here id w.written)
  | inr differs ↦
      ap (is_flushed j) (flush_log w) ∙ (of_output_flushed id j (flush_events w) before.log (flush_of w) differs ∙ flushed j (ap (λ b. b || is_output_among j hs) (ne_eqb id j differs) ∙ other))
]
