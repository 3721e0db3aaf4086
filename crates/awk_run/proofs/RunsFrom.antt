-- From the parts of a run to the whole.
use Rattle.std.proofs.Common.{◌≡◌, ℕ, ◌≤◌, Bool, List, [], inl, inr, Result, Ok, refl, sym, ap, ◌∙◌, subst, arith}
use Rattle.awk_world.specs.declared.world.WorldFault.TheVariants.{Failed}
use Rattle.awk_streams.specs.declared.fault.StreamFault.{StreamFault}
use Rattle.awk_streams.specs.Log as log
use Rattle.awk_streams.specs.Oracle.{Oracle, IsConsistent, standing}
use Rattle.awk_streams.specs.Orderly.{IsOrderly, IsInOrder}
use Rattle.awk_streams.specs.Openings.{outputs_of, is_flushed}
use Rattle.awk_streams.specs.Streams.{StreamsView, AreSound, held_of, printed_openings}
use Rattle.awk_streams.specs.Commands.{Finishes}
use Rattle.awk_streams.specs.WorldState.{WorldState}
use Rattle.awk_grammar.specs.Tree.{Item}
use Rattle.awk_resolve.specs.declared.plan.Plan.{Plan}
use Rattle.awk_resolve.specs.support.States.{AreFor}
use Rattle.awk_resolve.specs.support.Plans.{tables_of}
use Rattle.awk_semantics.specs.declared.halt.Halt.{Halt}
use Rattle.awk_semantics.specs.declared.outcome.Outcome.{Outcome}
use Rattle.awk_semantics.specs.declared.outcome.Outcome.TheVariants.{Fault}
use Rattle.awk_semantics.specs.declared.fault.Fault.TheVariants as faults
use Rattle.awk_semantics.specs.definitions.State.{State, Out}
use Rattle.awk_semantics.specs.definitions.Meaning.{StartValues, start_state, assign_and_run, with_end, run_program, outcome_of, outputs_after, first_outputs}
use Rattle.awk_semantics.specs.definitions.Order.{first_stage, IsInTurn}
use Rattle.awk_semantics.specs.definitions.Failure.{FailsAt}
use Rattle.awk_semantics.specs.support.Unended.{LawOfEnds}
use Rattle.awk_semantics.proofs.Requests.{goes-self}
use Rattle.awk_runtime.specs.declared.runtime.Runtime.{Runtime}
use Rattle.awk_runtime.specs.support.Simulation.{FailureRelation, ResultRelation}
use Rattle.awk_runtime.proofs.Composition.{clear_spent, cut_off}
use Rattle.awk_run.specs.definitions.Runs.{IsUntouched, IsUndisturbed, Runs, RunsFrom}
use Rattle.awk_run.specs.support.Assigned.{Begins}
use Rattle.awk_run.specs.support.Follows.{FollowsPlan}
use Rattle.awk_run.specs.support.Planned.{IsPlanFor, assign_and_run_at}
use Rattle.awk_run.specs.support.Verdict.{outcome_after, no_streams, EndsWithoutStreams}
use Rattle.awk_run.proofs.PlanMeans.{functions_of, whole_same}
use Rattle.awk_run.proofs.RunEnds.{read_off, IsMeant, FailedAtMostOnce, Came, came, brought, in_turn, not_clear, no_failure_before, halted_by, body_failed, write_blamed, fails_at, begins_at_end}
use Rattle.awk_run.proofs.ShortRuns.{short_at, cut_at, silent_at}

-- the law that some oracle is consistent with an orderly log, as the streams give it
abbrev pub SomeIsConsistent : Type 0
SomeIsConsistent = (l : List log.Event) → IsOrderly l → (a : Oracle) × IsConsistent a l

-- an undisturbed run came to what the meaning has
calm_meant : (oracle : Oracle) (k1 k2 : WorldState) (streams : StreamsView) (ended : Outcome) (f : Result (Unit {0}) StreamFault) (o : Out (Unit {0})) {result : Outcome} → result ≡ outcome_after ended f → k1.failures ≡ [] → IsUndisturbed k2 result → Came oracle k1 streams ended o →
    IsMeant oracle k1 streams o ended
calm_meant oracle k1 k2 streams ended f o is clear calm (inl meant) = meant
calm_meant oracle k1 k2 streams ended f o is clear calm (inr cut) = elim cut.cause [
  | inl memory ↦ absurd (calm.memory (is ∙ halted_by faults.OutOfMemory ended f memory))
  | inr write ↦ absurd (not_clear Failed k1 write.1 clear)
]

-- a run that was undisturbed
pub record IsWhole (oracle : Oracle) (k2 : WorldState) (o : Out (Unit {0})) (result : Outcome) : Type 0 where
  pub outcome : outcome_of o.result o.state.status ≡ result
  pub outputs : outputs_of k2.log ≡ outputs_after (with_end o).effects
  pub turn : IsInTurn oracle (read_off o) k2.log

calm_whole : (oracle : Oracle) (k1 k2 : WorldState) (streams last : StreamsView) (ended : Outcome) (f : Result (Unit {0}) StreamFault) (o : Out (Unit {0})) {result : Outcome} → Finishes k1 streams f k2 last → result ≡ outcome_after ended f → IsUndisturbed k2 result → Came oracle k1 streams ended o → IsWhole oracle k2 o result
calm_whole oracle k1 k2 streams last ended f o told is calm body =
    let before = no_failure_before f told calm.failures in
    let meant = calm_meant oracle k1 k2 streams ended f o is before.1 calm body in
    let ends : Finishes k1 streams (Ok tt) k2 last = subst (λ x. Finishes k1 streams x k2 last) before.0 told in
    record {
      outcome = meant.outcome ∙ (ap (λ x. outcome_after ended x) (sym before.0) ∙ sym is);
      outputs = (brought oracle k1 k2 streams last ended o ends meant).received;
      turn = in_turn oracle k1 k2 streams last ended o ends meant;
    }

-- a body that came to this, and its end, are a run
runs_by : (items : List Item) (start : StartValues) (limit : ℕ) (k1 k2 : WorldState) (streams last : StreamsView) (ended : Outcome) (f : Result (Unit {0}) StreamFault) {result : Outcome} → SomeIsConsistent → LawOfEnds → IsOrderly k2.log → Finishes k1 streams f k2 last → result ≡ outcome_after ended f
    → ((oracle : Oracle) → IsConsistent oracle k2.log → Came oracle k1 streams ended (assign_and_run items limit start.pre (start_state items start oracle limit))) → Runs items start limit k2 result
unfolding run_program
runs_by items start limit k1 k2 streams last ended f law unended orderly told is body =
    let out_by = λ (oracle : Oracle). assign_and_run items limit start.pre (start_state items start oracle limit) in
    record {
      some = law k2.log orderly;
      orderly = orderly;
      closed = told.closed;
      silent = let some = law k2.log orderly in silent_at some.0 k1 k2 streams last f (out_by some.0) told (body_failed some.0 k1 streams ended (out_by some.0) (body some.0 some.1));
      outcome = λ calm oracle consistent. (calm_whole oracle k1 k2 streams last ended f (out_by oracle) told is calm (body oracle consistent)).outcome;
      outputs = λ calm oracle consistent. (calm_whole oracle k1 k2 streams last ended f (out_by oracle) told is calm (body oracle consistent)).outputs;
      turn = λ calm oracle consistent. (calm_whole oracle k1 k2 streams last ended f (out_by oracle) told is calm (body oracle consistent)).turn;
      failure = record {
        begins = λ cause oracle consistent. begins_at_end oracle k1 k2 streams last ended f (out_by oracle) told (body oracle consistent);
        short = λ caused oracle consistent. short_at oracle k1 k2 streams last f (out_by oracle) told (unended items limit start.pre (start_state items start oracle limit)) (body_failed oracle k1 streams ended (out_by oracle) (body oracle consistent));
        at = λ g some. subst (λ x. FailsAt (λ oracle. read_off (out_by oracle)) g k2.log x) (sym is) (fails_at out_by k1 k2 streams last ended f g told (λ oracle. unended items limit start.pre (start_state items start oracle limit)) (law k2.log orderly) body some);
        blamed = λ write. let some = law k2.log orderly in write_blamed some.0 k1 k2 streams last ended f (out_by some.0) told (body some.0 some.1) (sym is ∙ write);
      };
      cut = λ caused oracle consistent. cut_at oracle k1 k2 streams last f (out_by oracle) told (body_failed oracle k1 streams ended (out_by oracle) (body oracle consistent));
    }

-- the body of a run, for each oracle
body_came : (items : List Item) (plan : Plan) (start : StartValues) (limit : ℕ) {is_logged : Type 0} {m m1 : Runtime} {k k1 : WorldState} {r : Result (Unit {0}) Halt} → IsPlanFor items plan m.names → AreFor (tables_of items plan) (functions_of items limit) → Begins items start limit m → IsUntouched k → is_logged
    → FollowsPlan is_logged plan (λ at. assign_and_run_at at plan start.pre) m k m1 k1 r → (oracle : Oracle) → IsConsistent oracle k1.log → Came oracle k1 m1.streams (outcome_of r m1.status) (assign_and_run items limit start.pre (start_state items start oracle limit))
body_came items plan start limit {m = m} {m1 = m1} {k = k} {k1 = k1} {r = r} is for began fresh t ran oracle consistent =
    let s : State = start_state items start oracle limit in
    let low : m.steps ≤ limit = (let e = began.steps in omega (arith, e)) in
    let same = whole_same items plan limit for start.pre s is.is (record { low = omega arith; frames = refl; arrays = refl }) in
    came oracle m1 k1 r (assign_and_run items limit start.pre s)
    (subst (λ (o : Out (Unit {0})). ResultRelation oracle m1 k1 r o []) same (((ran.told items is limit low).told t).means oracle s [] consistent (began.stands oracle k fresh)))

-- the log is empty, and in order
pub untouched_sound : (k : WorldState) → ((is_open : ℕ → Bool) → IsInOrder is_open []) → IsUntouched k → AreSound k no_streams
untouched_sound k order fresh = record {
  order = subst (λ (x : List log.Event). IsInOrder k.is_open x) (sym fresh.log) (order k.is_open);
  main = tt;
  named = tt;
  once = tt;
  few = omega arith;
  flushed = λ id none. ap (λ (x : List log.Event). is_flushed id x) fresh.log;
  owned = λ id no_main no_named. ap (λ (x : List log.Event). standing id x) fresh.log;
}

pub runs_from : (items : List Item) (plan : Plan) (start : StartValues) (limit : ℕ) {is_logged : Type 0} {m m1 : Runtime} {k k1 k2 : WorldState} {r : Result (Unit {0}) Halt} {f : Result (Unit {0}) StreamFault} {last : StreamsView} {result : Outcome} → SomeIsConsistent → LawOfEnds → IsPlanFor items plan m.names → AreFor (tables_of items plan) (functions_of items limit) → Begins items start limit m
    → FollowsPlan is_logged plan (λ at. assign_and_run_at at plan start.pre) m k m1 k1 r → (is_logged → AreSound k2 last) → (is_logged → Finishes k1 m1.streams f k2 last) → result ≡ outcome_after (outcome_of r m1.status) f
    → RunsFrom is_logged items start limit k k2 result
runs_from items plan start limit {m1 = m1} {k = k} {k1 = k1} {k2 = k2} {r = r} {f = f} {last = last} law unended is for began ran sound told result = record {
  runs = λ t fresh.
      runs_by items start limit k1 k2 m1.streams last (outcome_of r m1.status) f law unended (sound t).order.orderly (told t) result
      (λ oracle consistent. body_came items plan start limit is for began fresh t ran oracle ((told t).grows.consistent oracle consistent));
}

-- before a run nothing is printed
none_printed : (k : WorldState) → k.log ≡ [] → printed_openings k no_streams ≡ first_outputs
none_printed k empty = subst (λ (x : List log.Event). printed_openings (record k { log = x }) no_streams ≡ first_outputs) (sym empty) refl

-- and nothing is done
none_done : (oracle : Oracle) (k : WorldState) (o : Out (Unit {0})) → IsUntouched k → FailureRelation oracle (FailedAtMostOnce k) no_streams k o.effects
none_done oracle k o fresh = cut_off oracle no_streams k [] o.effects first_stage (sym fresh.log) (goes-self first_stage) (none_printed k fresh.log) (clear_spent k (held_of no_streams) fresh.failures) (inl fresh.failures)

-- a run that found no memory before it began, and its end
pub runs_not : (items : List Item) (start : StartValues) (limit : ℕ) {is_logged : Type 0} {k k2 : WorldState} {f : Result (Unit {0}) StreamFault} → SomeIsConsistent → LawOfEnds → (is_logged → EndsWithoutStreams k f k2) → (is_logged → IsOrderly k2.log) →
    RunsFrom is_logged items start limit k k2 (Fault faults.OutOfMemory)
runs_not items start limit {k = k} {k2 = k2} {f = f} law unended told orderly = record {
  runs = λ t fresh.
      runs_by items start limit k k2 no_streams (told t).last (Fault faults.OutOfMemory) f law unended (orderly t) (told t).finishes (sym (halted_by faults.OutOfMemory (Fault faults.OutOfMemory) f refl))
      (λ oracle consistent. inr record { fails = none_done oracle k (assign_and_run items limit start.pre (start_state items start oracle limit)) fresh; cause = inl refl });
}
