-- What ends early ends the calls that are active.
use Rattle.std.proofs.Common.{◌≡◌, ◌≤◌, List, [], ◌∷◌, append-nil, Result, Ok, Err, sym, ap, ◌∙◌, subst}
use Rattle.awk_streams.specs.WorldState.{WorldState}
use Rattle.awk_streams.specs.Oracle.{Oracle}
use Rattle.awk_resolve.specs.declared.plan.Plan.{Plan}
use Rattle.awk_semantics.specs.declared.halt.Halt.{Halt}
use Rattle.awk_semantics.specs.declared.halt.Halt.TheVariants as halt
use Rattle.awk_semantics.specs.declared.fault.Fault.TheVariants.{OutOfMemory, WriteFailed}
use Rattle.awk_semantics.specs.definitions.State.{Effect, Frame, State, Out, Run}
use Rattle.awk_semantics.specs.definitions.Primitives.{without_call, without_calls, outside_calls}
use Rattle.awk_semantics.specs.definitions.Items.{unless_next, until_next, unless_exit, until_exit}
use Rattle.awk_runtime.specs.declared.runtime.Runtime.{Runtime}
use Rattle.awk_runtime.specs.support.Naming.{Naming}
use Rattle.awk_runtime.specs.support.Simulation.{StateRelation, StreamsRelation, ResultRelation, SimulatesLogged}
use Rattle.awk_runtime.proofs.CallLemmas.{failed_outside}
use Rattle.awk_runtime.proofs.Composition.{OwnPart, same_part, streams_own, ready_same}
use Rattle.awk_run.specs.support.Planned.{IsPlanFor, part_at, run_before_end_at, run_items_at}
use Rattle.awk_run.specs.support.Follows.{FollowsPlan, IsSet}
use Rattle.awk_runtime.specs.Calling.{EndsCalls}
use Rattle.awk_run.proofs.PlanParts.{then_follows, ends_follows}

-- calls that are over leave what lies outside the code's own part
outside_part : (frames : List Frame) (s : State) → OwnPart s (without_calls frames s)
outside_part [] s = same_part s
outside_part (frame ∷ frames) s =
    let rest : OwnPart (without_call (frame ∷ frames) s) (without_calls frames (without_call (frame ∷ frames) s)) = outside_part frames (without_call (frame ∷ frames) s) in
    record { outside = rest.outside; openings = rest.openings; output_openings = rest.output_openings; closings = rest.closings; runs = rest.runs; outputs = rest.outputs; main = rest.main; streams = rest.streams }

ended_stands : {oracle : Oracle} {old new : Runtime} {k : WorldState} {s : State} {past : List Effect} → EndsCalls old new → StateRelation oracle old k s past → StateRelation oracle new k (outside_calls s) past
ended_stands {oracle = oracle} {new = new} {k = k} {s = s} {past = past} ends stands = record {
  clear = stands.clear;
  streams = subst (λ (l : List Effect). StreamsRelation oracle new.streams k (outside_calls s) l) (append-nil past) (streams_own ends.streams (outside_part s.frames s) stands.streams);
  holds = ends.holds s stands.holds;
}

abbrev past_end : (Result (Unit {0}) Halt → Result (Unit {0}) Halt) → Out (Unit {0}) → Out (Unit {0})
past_end f o = record { result = f o.result; state = outside_calls o.state; effects = o.effects }

next_result : (oracle : Oracle) (old new : Runtime) (k : WorldState) (r : Result (Unit {0}) Halt) (o : Out (Unit {0})) (past : List Effect) → EndsCalls old new → ResultRelation oracle old k r o past → ResultRelation oracle new k (unless_next r) (past_end unless_next o) past
next_result oracle old new k (Ok u) o past ends c = (ap unless_next c.0, ended_stands ends c.1)
next_result oracle old new k (Err halt.Next) o past ends c = (ap unless_next c.0, ended_stands ends c.1)
next_result oracle old new k (Err halt.Exit) o past ends c = (ap unless_next c.0, ended_stands ends c.1)
next_result oracle old new k (Err halt.OutOfSteps) o past ends c = (ap unless_next c.0, ended_stands ends c.1)
next_result oracle old new k (Err (halt.Fault OutOfMemory)) o past ends c = failed_outside ends c
next_result oracle old new k (Err (halt.Fault WriteFailed)) o past ends c = failed_outside ends c
next_result oracle old new k (Err (halt.Fault f)) o past ends c = (ap unless_next c.0, ended_stands ends c.1)

exit_result : (oracle : Oracle) (old new : Runtime) (k : WorldState) (r : Result (Unit {0}) Halt) (o : Out (Unit {0})) (past : List Effect) → EndsCalls old new → ResultRelation oracle old k r o past → ResultRelation oracle new k (unless_exit r) (past_end unless_exit o) past
exit_result oracle old new k (Ok u) o past ends c = (ap unless_exit c.0, ended_stands ends c.1)
exit_result oracle old new k (Err halt.Next) o past ends c = (ap unless_exit c.0, ended_stands ends c.1)
exit_result oracle old new k (Err halt.Exit) o past ends c = (ap unless_exit c.0, ended_stands ends c.1)
exit_result oracle old new k (Err halt.OutOfSteps) o past ends c = (ap unless_exit c.0, ended_stands ends c.1)
exit_result oracle old new k (Err (halt.Fault OutOfMemory)) o past ends c = failed_outside ends c
exit_result oracle old new k (Err (halt.Fault WriteFailed)) o past ends c = failed_outside ends c
exit_result oracle old new k (Err (halt.Fault f)) o past ends c = (ap unless_exit c.0, ended_stands ends c.1)

next_logged : {old mid new : Runtime} {before after : WorldState} {r : Result (Unit {0}) Halt} {run : Run (Unit {0})} → EndsCalls mid new → SimulatesLogged old before mid after r run → SimulatesLogged old before new after (unless_next r) (until_next run)
unfolding until_next
next_logged {mid = mid} {new = new} {after = after} {r = r} {run = run} ends p = record {
  grows = p.grows;
  means = λ oracle s past consistent stands. next_result oracle mid new after r (run s) past ends (p.means oracle s past consistent stands);
}

exit_logged : {old mid new : Runtime} {before after : WorldState} {r : Result (Unit {0}) Halt} {run : Run (Unit {0})} → EndsCalls mid new → SimulatesLogged old before mid after r run → SimulatesLogged old before new after (unless_exit r) (until_exit run)
unfolding until_exit
exit_logged {mid = mid} {new = new} {after = after} {r = r} {run = run} ends p = record {
  grows = p.grows;
  means = λ oracle s past consistent stands. exit_result oracle mid new after r (run s) past ends (p.means oracle s past consistent stands);
}

pub ended_set : {is_logged : Type 0} {plan : Plan} {m m1 : Runtime} {k : WorldState} → EndsCalls m m1 → IsSet is_logged plan m k → IsSet is_logged plan m1 k
ended_set {plan = plan} ends set = record { ready = ready_same ends.streams set.ready; items = set.items; planned = subst (λ (names : Naming). IsPlanFor set.items plan names) (sym ends.names) set.planned }

-- `next` ends the items on a record
pub until_next_follows : {is_logged : Type 0} {plan : Plan} {m m1 m2 : Runtime} {k k1 : WorldState} {r r' : Result (Unit {0}) Halt} → r' ≡ unless_next r → EndsCalls m1 m2 → FollowsPlan is_logged plan (λ at. part_at at plan.rules) m k m1 k1 r → FollowsPlan is_logged plan (λ at. until_next (part_at at plan.rules)) m k m2 k1 r'
until_next_follows {m = m} e ends p = rw e (record {
  steps = subst (λ n. n ≤ m.steps) (sym ends.steps) p.steps;
  names = ends.names ∙ p.names;
  told = λ items is n low. record {
    steps = subst (λ i. i ≤ m.steps) (sym ends.steps) p.steps;
    names = ends.names ∙ p.names;
    told = λ t. next_logged ends ((p.told items is n low).told t);
  };
})

-- `exit` ends what comes before the END actions
pub until_exit_follows : {is_logged : Type 0} {plan : Plan} {m m1 m2 : Runtime} {k k1 : WorldState} {r r' : Result (Unit {0}) Halt} → r' ≡ unless_exit r → EndsCalls m1 m2 → FollowsPlan is_logged plan (λ at. run_before_end_at at plan) m k m1 k1 r → FollowsPlan is_logged plan (λ at. until_exit (run_before_end_at at plan)) m k m2 k1 r'
until_exit_follows {m = m} e ends p = rw e (record {
  steps = subst (λ n. n ≤ m.steps) (sym ends.steps) p.steps;
  names = ends.names ∙ p.names;
  told = λ items is n low. record {
    steps = subst (λ i. i ≤ m.steps) (sym ends.steps) p.steps;
    names = ends.names ∙ p.names;
    told = λ t. exit_logged ends ((p.told items is n low).told t);
  };
})

-- the whole of the items

pub run_halts : {is_logged : Type 0} {plan : Plan} {m m1 : Runtime} {k k1 : WorldState} {h : Halt} → FollowsPlan is_logged plan (λ at. until_exit (run_before_end_at at plan)) m k m1 k1 (Err h) → FollowsPlan is_logged plan (λ at. run_items_at at plan) m k m1 k1 (Err h)
unfolding run_items_at
run_halts {plan = plan} p = ends_follows (λ at _. part_at at plan.end) p

pub run_goes : {is_logged : Type 0} {plan : Plan} {m m1 m2 : Runtime} {k k1 k2 : WorldState} {r : Result (Unit {0}) Halt} → FollowsPlan is_logged plan (λ at. until_exit (run_before_end_at at plan)) m k m1 k1 (Ok tt) → FollowsPlan is_logged plan (λ at. part_at at plan.end) m1 k1 m2 k2 r → FollowsPlan is_logged plan (λ at. run_items_at at plan) m k m2 k2 r
unfolding run_items_at
run_goes {plan = plan} p q = then_follows (λ at _. part_at at plan.end) p q
