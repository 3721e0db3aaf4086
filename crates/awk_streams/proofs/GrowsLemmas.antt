-- Logs that go on, one call after another.
use Rattle.std.proofs.Common.{◌≡◌, ◌≤◌, ℕ, true, inl, inr, List, [], ◌∷◌, ◌++◌, length, Option, Some, None, refl, sym, ◌∙◌, ap, subst, arith, append_assoc, append-nil}
use Rattle.awk_world.specs.declared.failure.Failure.{Failure}
use Rattle.awk_world.specs.declared.world.WorldFault.{WorldFault}
use Rattle.awk_world.specs.declared.world.WorldFault.TheVariants.{Memory}
use Rattle.awk_world.specs.definitions.Log.{Event, Noted, Did, DidNot}
use Rattle.awk_world.specs.definitions.Oracle.{IsConsistent}
use Rattle.awk_world.specs.definitions.Writes.{with_events}
use Rattle.awk_world.specs.definitions.WorldState.{WorldState, Logs, FailsNow, MayFailNow, MayFailInside, is_any, first_behind, first_of}
use Rattle.awk_world.specs.definitions.Grows.{Grows, AreBetween}
use Rattle.awk_world.proofs.ConsistencyLemmas.{consistent-before}

pub with_events-append : (xs ys log : List Event) → with_events (xs ++ ys) log ≡ with_events ys (with_events xs log)
with_events-append [] ys log = refl
with_events-append (x ∷ xs) ys log = with_events-append xs ys (x ∷ log)

pub with_events-longer : (es log : List Event) → length log ≤ length (with_events es log)
with_events-longer [] log = omega arith
with_events-longer (e ∷ es) log = omega (arith, with_events-longer es (e ∷ log))

-- what meets no failure
pub grows_on : (es : List Event) (before after : WorldState) → after.log ≡ with_events es before.log → after.failures ≡ before.failures → Grows before after
grows_on es before after is same = record {
  events = es;
  log = is;
  consistent = λ a h. consistent-before a es before.log (subst (λ (l : List Event). IsConsistent a l) is h);
  newer = [];
  failures = same;
  met = tt;
}

pub Grows-self : (world : WorldState) → Grows world world
Grows-self world = grows_on [] world world refl refl

-- a call that is a failure

pub grows_failing : (output : Option ℕ) (what : WorldFault) (before after : WorldState) → Logs (DidNot output what) before after → Grows before after
grows_failing output what before after (same, fails) =
    let long : length after.log ≡ length before.log = ap length same in
    record {
      events = [];
      log = same;
      consistent = λ a h. subst (λ (l : List Event). IsConsistent a l) same h;
      newer = record { at = length before.log; output = output; what = what } ∷ [];
      failures = fails;
      met = ((omega arith, omega (arith, long)), tt);
    }

-- the failure of a call stands where the log ends
pub failed_there : (output : Option ℕ) (what : WorldFault) (before after : WorldState) → Logs (DidNot output what) before after → after.failures ≡ record { at = length after.log; output = output; what = what } ∷ before.failures
failed_there output what before after (same, fails) = fails ∙ ap (λ (l : List Event). record { at = length l; output = output; what = what } ∷ before.failures) (sym same)

pub fails_now : (output : Option ℕ) (what : WorldFault) (before after : WorldState) → Logs (DidNot output what) before after → FailsNow what before after
fails_now output what before after logs = (output, failed_there output what before after logs)

pub logs_grow : (noted : Noted) (before after : WorldState) → Logs noted before after → Grows before after
logs_grow (Did e) before after (is, same) = grows_on (e ∷ []) before after is same
logs_grow (DidNot output what) before after logs = grows_failing output what before after logs

-- one after another

met_between : (fs : List Failure) (l0 l1 l2 l3 : ℕ) → l0 ≤ l1 → l2 ≤ l3 → AreBetween l1 l2 fs → AreBetween l0 l3 fs
met_between [] l0 l1 l2 l3 below above h = tt
met_between (f ∷ fs) l0 l1 l2 l3 below above (h, hs) = ((omega (arith, below, h.0), omega (arith, above, h.1)), met_between fs l0 l1 l2 l3 below above hs)

met_both : (least most : ℕ) (fs gs : List Failure) → AreBetween least most fs → AreBetween least most gs → AreBetween least most (fs ++ gs)
met_both least most [] gs h k = k
met_both least most (f ∷ fs) gs (h, hs) k = (h, met_both least most fs gs hs k)

pub Grows-then : {w0 w1 w2 : WorldState} → Grows w0 w1 → Grows w1 w2 → Grows w0 w2
Grows-then {w0 = w0} {w1 = w1} {w2 = w2} first then =
    let lower : length w0.log ≤ length w1.log = (let e : length w1.log ≡ length (with_events first.events w0.log) = ap length first.log in omega (arith, e, with_events-longer first.events w0.log)) in
    let upper : length w1.log ≤ length w2.log = (let e : length w2.log ≡ length (with_events then.events w1.log) = ap length then.log in omega (arith, e, with_events-longer then.events w1.log)) in
    record {
      events = first.events ++ then.events;
      log = then.log ∙ (ap (with_events then.events) first.log ∙ sym (with_events-append first.events then.events w0.log));
      consistent = λ a h. first.consistent a (then.consistent a h);
      newer = then.newer ++ first.newer;
      failures = then.failures ∙ (ap (λ (fs : List Failure). then.newer ++ fs) first.failures ∙ sym (append_assoc then.newer first.newer w0.failures));
      met = met_both (length w0.log) (length w2.log) then.newer first.newer
          (met_between then.newer (length w0.log) (length w1.log) (length w2.log) (length w2.log) lower (omega arith) then.met)
          (met_between first.newer (length w0.log) (length w0.log) (length w1.log) (length w2.log) (omega arith) upper first.met);
    }

pub fails_later : (what : WorldFault) (before mid after : WorldState) → mid.failures ≡ before.failures → FailsNow what mid after → FailsNow what before after
fails_later what before mid after same (output, fails) = (output, fails ∙ ap (λ (fs : List Failure). record { at = length after.log; output = output; what = what } ∷ fs) same)

pub may_fail_later : (before mid after : WorldState) → mid.failures ≡ before.failures → MayFailInside mid after → MayFailInside before after
may_fail_later before mid after same (inl none) = inl (none ∙ same)
may_fail_later before mid after same (inr fails) = inr (fails ∙ ap (λ (fs : List Failure). record { at = length after.log; output = None; what = Memory } ∷ fs) same)

pub not_failing : (before after : WorldState) → after.failures ≡ before.failures → MayFailInside before after
not_failing before after same = inl same

-- which output it was is left unsaid
pub may_fail_now : (before after : WorldState) → MayFailInside before after → MayFailNow before after
may_fail_now before after (inl same) = inl same
may_fail_now before after (inr fails) = inr (None, fails)

-- a failure stays one, and the first one stays the first

any_behind : (newer older failures : List Failure) → failures ≡ newer ++ older → is_any older ≡ true → is_any failures ≡ true
any_behind [] older failures is some = ap is_any is ∙ some
any_behind (f ∷ newer) older failures is some = ap is_any is

pub still_any : {before after : WorldState} → Grows before after → is_any before.failures ≡ true → is_any after.failures ≡ true
still_any {before = before} {after = after} grows some = any_behind grows.newer before.failures after.failures grows.failures some

first_is : (f g : Failure) (newer : List Failure) → first_behind f (newer ++ g ∷ []) ≡ g
first_is f g [] = refl
first_is f g (h ∷ newer) = first_is h g newer

-- what stands behind the only failure is newer
pub first_stays : (g : Failure) (newer : List Failure) → first_of (newer ++ g ∷ []) ≡ Some g
first_stays g [] = refl
first_stays g (f ∷ newer) = ap Some (first_is f g newer)

first_met : (least most : ℕ) (f : Failure) (newer : List Failure) → (least ≤ f.at) × (f.at ≤ most) → AreBetween least most newer → (least ≤ (first_behind f newer).at) × ((first_behind f newer).at ≤ most)
first_met least most f [] h hs = h
first_met least most f (g ∷ newer) h (k, ks) = first_met least most g newer k ks

same_failure : (f g : Failure) → Some f ≡ Some g → f ≡ g
same_failure f g e = cc

no_failure : {P : Type 0} (f : Failure) → None ≡ Some f → P
no_failure f e = cc

of_first : (least most : ℕ) (newer : List Failure) (f : Failure) → first_of newer ≡ Some f → AreBetween least most newer → (least ≤ f.at) × (f.at ≤ most)
of_first least most [] f some hs = no_failure f some
of_first least most (g ∷ newer) f some (h, hs) =
    subst (λ (x : Failure). (least ≤ x.at) × (x.at ≤ most)) (same_failure (first_behind g newer) f some) (first_met least most g newer h hs)

-- the first failure, where there was none before, stands where the log was meanwhile
pub first_between : {before after : WorldState} (f : Failure) → Grows before after → before.failures ≡ [] → first_of after.failures ≡ Some f → (length before.log ≤ f.at) × (f.at ≤ length after.log)
first_between {before = before} {after = after} f grows none some =
    of_first (length before.log) (length after.log) grows.newer f (sym (ap first_of (grows.failures ∙ (ap (λ (fs : List Failure). grows.newer ++ fs) none ∙ append-nil grows.newer))) ∙ some) grows.met
