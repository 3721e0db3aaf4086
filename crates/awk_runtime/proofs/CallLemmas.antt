-- What those who call a program's functions put together.
use Rattle.std.proofs.Common.{◌≡◌, ◌+◌, ℕ, zero, suc, Bool, true, false, List, [], ◌∷◌, ◌++◌, Result, Ok, Err, refl, sym, ap, subst, append-nil}
use Rattle.std.specs.Prelude.{nat_lt}
use Rattle.awk_streams.specs.WorldState.{WorldState}
use Rattle.awk_streams.specs.Streams.{StreamsView}
use Rattle.awk_streams.specs.Oracle.{Oracle}
use Rattle.awk_semantics.specs.declared.fault.Fault.TheVariants.{CallsTooDeep}
use Rattle.awk_semantics.specs.declared.halt.Halt.{Halt}
use Rattle.awk_semantics.specs.declared.local.Local.{Local}
use Rattle.awk_semantics.specs.State.{Effect, Frame, State, Out, Run, go_on, ◌>>=◌, gives}
use Rattle.awk_semantics.specs.Results.{Sort, WantOfMemory, FailedWrite, OfLanguage, sort_of}
use Rattle.awk_semantics.specs.Primitives.{most_height, height_in, fault_if, check_height, spend_of, spend, without_call, without_calls, outside_calls}
use Rattle.awk_runtime.specs.declared.runtime.Runtime.{Runtime}
use Rattle.awk_runtime.specs.support.Simulation.{OwnRelation, StateRelation, FailureRelation, ResultRelationBy, ResultRelation, ChangesCalls}
use Rattle.awk_runtime.specs.support.Calling.{without_given, EndsCalls}
use Rattle.awk_runtime.proofs.Composition.{OwnPart, streams_own}
use Rattle.awk_runtime.proofs.CallWords.{given_nothing}

-- what a call is given

-- what is read of the state, and nothing else
abbrev pub reads : {A : Type 0} → (State → A) → Run A
reads f s = gives (f s) s

-- what is given may be found before the checks or behind them
module _ {A : Type 0} (f : State → List Local) (h : ℕ) (k : List Local → Run A) (still : (s : State) (n : ℕ) → f (record s { steps = n }) ≡ f s) where
  behind_spend : (n : ℕ) (s : State) → (spend_of n >>= λ _. k (f s)) s ≡ (spend_of n >>= λ _. reads f >>= k) s
  unfolding ◌>>=◌ go_on
  behind_spend zero s = refl
  behind_spend (suc n) s = ap (λ given. k given (record s { steps = n })) (sym (still s n))

  behind_check : (b : Bool) (s : State) → (fault_if b CallsTooDeep >>= λ _. spend >>= λ _. k (f s)) s ≡ (fault_if b CallsTooDeep >>= λ _. spend >>= λ _. reads f >>= k) s
  unfolding ◌>>=◌ go_on spend
  behind_check true s = refl
  behind_check false s = behind_spend s.steps s

  pub given_later : (s : State) → (reads f >>= λ given. check_height h >>= λ _. spend >>= λ _. k given) s ≡ (check_height h >>= λ _. spend >>= λ _. reads f >>= k) s
  unfolding ◌>>=◌ go_on check_height
  given_later s = behind_check (nat_lt most_height (height_in s.frames + h)) s

same_calls : {A : Type 0} {old new : Runtime} {r : Result A Halt} (x y : Run A) → ((s : State) → OwnRelation old s → x s ≡ y s) → ChangesCalls y old new r → ChangesCalls x old new r
same_calls {old = old} {new = new} {r = r} x y e d = record {
  steps = d.steps;
  names = d.names;
  streams = d.streams;
  means = λ k. record {
    grows = (d.means k).grows;
    means = λ oracle s past consistent stands. subst (λ (o : Out _). ResultRelation oracle new k r o past) (sym (e s stands.holds)) ((d.means k).means oracle s past consistent stands);
  };
}

-- what was given, and what is done with it
pub given_changes : {A : Type 0} {m new : Runtime} {r : Result A Halt} (f : State → List Local) (locals : List Local) (k : List Local → Run A) → ((s : State) → OwnRelation m s → f s ≡ locals)
    → ChangesCalls (k locals) (without_given m) new r → ChangesCalls (reads f >>= k) m new r
unfolding ◌>>=◌ go_on
given_changes f locals k are d = same_calls (reads f >>= k) (k locals) (λ s h. ap (λ given. k given s) (are s h)) (given_nothing (k locals) d)

-- no call is active any more

own_outside : (frames : List Frame) (s : State) → OwnPart s (without_calls frames s)
own_outside [] s = record { outside = refl; openings = refl; output_openings = refl; closings = refl; runs = refl; outputs = refl; main = refl; streams = refl }
own_outside (frame ∷ frames) s =
    let o = own_outside frames (without_call (frame ∷ frames) s) in
    record { outside = o.outside; openings = o.openings; output_openings = o.output_openings; closings = o.closings; runs = o.runs; outputs = o.outputs; main = o.main; streams = o.streams }

stands_outside : {oracle : Oracle} {m new : Runtime} {k : WorldState} {s : State} (past : List Effect) → EndsCalls m new → StateRelation oracle m k s past → StateRelation oracle new k (outside_calls s) past
stands_outside {oracle = oracle} {m = m} {new = new} {k = k} {s = s} past ends stands = subst (λ (l : List Effect). StateRelation oracle new k (outside_calls s) l) (append-nil past)
    record { clear = stands.clear; streams = streams_own ends.streams (own_outside s.frames s) stands.streams; holds = ends.holds s stands.holds }

pub failed_outside : {oracle : Oracle} {failure : Type 0} {m new : Runtime} {k : WorldState} {effects : List Effect} → EndsCalls m new → FailureRelation oracle failure m.streams k effects → FailureRelation oracle failure new.streams k effects
failed_outside {oracle = oracle} {failure = failure} {k = k} {effects = effects} ends failed = subst (λ (v : StreamsView). FailureRelation oracle failure v k effects) (sym ends.streams) failed

ended_by : {A : Type 0} (oracle : Oracle) (m new : Runtime) (k : WorldState) (h : Sort) (o : Out A) (past : List Effect) → EndsCalls m new → ResultRelationBy oracle m k h o past → ResultRelationBy oracle new k h (record { result = o.result; state = outside_calls o.state; effects = o.effects }) past
ended_by oracle m new k WantOfMemory o past ends c = failed_outside ends c
ended_by oracle m new k FailedWrite o past ends c = failed_outside ends c
ended_by oracle m new k (OfLanguage reason) o past ends c = (c.0, stands_outside (past ++ o.effects) ends c.1)

pub ended_result : {A : Type 0} (oracle : Oracle) (m new : Runtime) (k : WorldState) (r : Result A Halt) (o : Out A) (past : List Effect) → EndsCalls m new → ResultRelation oracle m k r o past → ResultRelation oracle new k r (record { result = o.result; state = outside_calls o.state; effects = o.effects }) past
ended_result oracle m new k (Ok a) o past ends c = (c.0, stands_outside (past ++ o.effects) ends c.1)
ended_result oracle m new k (Err h) o past ends c = ended_by oracle m new k (sort_of h) o past ends c
