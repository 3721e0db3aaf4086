-- Parts of a run over a plan, one after the other.
use Rattle.std.proofs.Common.{ℕ, Result, Ok, Err, arith, refl, sym, subst, ◌∙◌}
use Rattle.awk_streams.specs.WorldState.{WorldState}
use Rattle.awk_resolve.specs.declared.plan.Plan.{Plan}
use Rattle.awk_semantics.specs.declared.halt.Halt.{Halt}
use Rattle.awk_semantics.specs.definitions.State.{Run, ◌>>=◌, lift}
use Rattle.awk_semantics.specs.support.Results.{Yields}
use Rattle.awk_runtime.specs.declared.runtime.Runtime.{Runtime}
use Rattle.awk_runtime.specs.support.Naming.{Naming}
use Rattle.awk_runtime.specs.support.Simulation.{IsReady, Changes, Follows}
use Rattle.awk_runtime.proofs.Composition.{then_simulates, ends_simulates, lift_simulates, change_simulates, ready_behind}
use Rattle.awk_run.specs.support.Planned.{IsPlanFor, place_in}
use Rattle.awk_run.specs.support.Follows.{Part, FollowsPlan, IsSet}

pub then_follows : {A B : Type 0} {is_logged : Type 0} {plan : Plan} {m m1 m2 : Runtime} {k k1 k2 : WorldState} {a : A} {r : Result B Halt} {part : Part A} (f : (ℕ → Run _) → A → Run B)
    → FollowsPlan is_logged plan part m k m1 k1 (Ok a) → FollowsPlan is_logged plan (λ at. f at a) m1 k1 m2 k2 r → FollowsPlan is_logged plan (λ at. part at >>= f at) m k m2 k2 r
then_follows {plan = plan} f p q = record {
  steps = omega (arith, p.steps, q.steps);
  names = q.names ∙ p.names;
  told = λ items is n low. then_simulates (f (place_in items plan n)) (p.told items is n low) (q.told items (subst (λ (names : Naming). IsPlanFor items plan names) (sym p.names) is) n (omega (arith, p.steps, low)));
}

pub ends_follows : {A B : Type 0} {is_logged : Type 0} {plan : Plan} {m m1 : Runtime} {k k1 : WorldState} {h : Halt} {part : Part A} (f : (ℕ → Run _) → A → Run B)
    → FollowsPlan is_logged plan part m k m1 k1 (Err h) → FollowsPlan is_logged plan (λ at. part at >>= f at) m k m1 k1 (Err h)
ends_follows {plan = plan} f p = record {
  steps = p.steps;
  names = p.names;
  told = λ items is n low. ends_simulates (f (place_in items plan n)) (p.told items is n low);
}

pub lift_follows : {A : Type 0} {is_logged : Type 0} {plan : Plan} {c : Result A Halt} (r : Result A Halt) (m : Runtime) (k : WorldState) → Yields c r → FollowsPlan is_logged plan (λ at. lift r) m k m k c
lift_follows r m k e = record {
  steps = omega arith;
  names = refl;
  told = λ items is n low. lift_simulates r m k e;
}

pub change_follows : {A : Type 0} {is_logged : Type 0} {plan : Plan} {m m1 : Runtime} {k : WorldState} {r : Result A Halt} {run : Run A} → Changes run m m1 r → FollowsPlan is_logged plan (λ at. run) m k m1 k r
change_follows p = record {
  steps = p.steps;
  names = p.names;
  told = λ items is n low. change_simulates p;
}

pub world_follows : {A : Type 0} {is_logged : Type 0} {plan : Plan} {m m1 : Runtime} {k k1 : WorldState} {r : Result A Halt} {run : Run A} → Follows is_logged run m k m1 k1 r → FollowsPlan is_logged plan (λ at. run) m k m1 k1 r
world_follows p = record {
  steps = p.simulates.steps;
  names = p.simulates.names;
  told = λ items is n low. p.simulates;
}

-- what is known of the state stays

pub set_behind : {A : Type 0} {is_logged : Type 0} {plan : Plan} {m m1 : Runtime} {k : WorldState} {r : Result A Halt} {run : Run A} → Changes run m m1 r → IsSet is_logged plan m k → IsSet is_logged plan m1 k
set_behind {plan = plan} p set = record { ready = ready_behind p set.ready; items = set.items; planned = subst (λ (names : Naming). IsPlanFor set.items plan names) (sym p.names) set.planned }

pub set_follows : {A : Type 0} {is_logged : Type 0} {plan : Plan} {m m1 : Runtime} {k k1 : WorldState} {r : Result A Halt} {run : Run A} → Follows is_logged run m k m1 k1 r → IsReady is_logged k1 m1.streams → IsSet is_logged plan m k → IsSet is_logged plan m1 k1
set_follows {plan = plan} p ready set = record { ready = ready; items = set.items; planned = subst (λ (names : Naming). IsPlanFor set.items plan names) (sym p.simulates.names) set.planned }
