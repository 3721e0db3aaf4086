-- Parts of a program, by what their places do.
use Rattle.std.proofs.Common.{◌≡◌, ℕ, Bool, true, false, Result, Ok, Err, refl, sym, subst}
use Rattle.awk_value.specs.declared.value.Value.{Value}
use Rattle.awk_streams.specs.WorldState.{WorldState}
use Rattle.awk_resolve.specs.declared.plan.Plan.{Plan}
use Rattle.awk_semantics.specs.declared.halt.Halt.{Halt}
use Rattle.awk_semantics.specs.definitions.State.{ret}
use Rattle.awk_semantics.specs.definitions.Semantics.{choose}
use Rattle.awk_semantics.specs.definitions.Items.{until_next, run_records}
use Rattle.awk_runtime.specs.declared.runtime.Runtime.{Runtime}
use Rattle.awk_run.specs.support.Planned.{part_at, run_before_end_at}
use Rattle.awk_run.specs.support.Follows.{FollowsPlan}
use Rattle.awk_run.proofs.PlanParts.{then_follows, ends_follows, lift_follows}

module _ {is_logged : Type 0} {plan : Plan} where
  pub part_runs : {place : ℕ} {m m1 : Runtime} {k k1 : WorldState} {v : Value} → FollowsPlan is_logged plan (λ at. at place) m k m1 k1 (Ok v) → FollowsPlan is_logged plan (λ at. part_at at place) m k m1 k1 (Ok tt)
  unfolding part_at
  part_runs {m1 = m1} {k1 = k1} p = then_follows (λ at v. ret tt) p (lift_follows (Ok tt) m1 k1 refl)

  pub part_halts : {place : ℕ} {m m1 : Runtime} {k k1 : WorldState} {h : Halt} → FollowsPlan is_logged plan (λ at. at place) m k m1 k1 (Err h) → FollowsPlan is_logged plan (λ at. part_at at place) m k m1 k1 (Err h)
  unfolding part_at
  part_halts p = ends_follows (λ at v. ret tt) p

  -- what comes before the END actions

  pub runs_halts : {m m1 : Runtime} {k k1 : WorldState} {h : Halt} → FollowsPlan is_logged plan (λ at. part_at at plan.begin) m k m1 k1 (Err h) → FollowsPlan is_logged plan (λ at. run_before_end_at at plan) m k m1 k1 (Err h)
  unfolding run_before_end_at
  runs_halts p = ends_follows (λ at _. choose plan.reads_records (run_records (until_next (part_at at plan.rules))) (ret tt)) p

  pub runs_none : {m m1 : Runtime} {k k1 : WorldState} → plan.reads_records ≡ false → FollowsPlan is_logged plan (λ at. part_at at plan.begin) m k m1 k1 (Ok tt) → FollowsPlan is_logged plan (λ at. run_before_end_at at plan) m k m1 k1 (Ok tt)
  unfolding run_before_end_at
  runs_none {m1 = m1} {k1 = k1} e p =
      then_follows (λ at _. choose plan.reads_records (run_records (until_next (part_at at plan.rules))) (ret tt)) p
      (subst (λ (b : Bool). FollowsPlan is_logged plan (λ at. choose b (run_records (until_next (part_at at plan.rules))) (ret tt)) m1 k1 m1 k1 (Ok tt)) (sym e) (lift_follows (Ok tt) m1 k1 refl))

  pub runs_some : {m m1 m2 : Runtime} {k k1 k2 : WorldState} {r : Result (Unit {0}) Halt} → plan.reads_records ≡ true → FollowsPlan is_logged plan (λ at. part_at at plan.begin) m k m1 k1 (Ok tt) → FollowsPlan is_logged plan (λ at. run_records (until_next (part_at at plan.rules))) m1 k1 m2 k2 r → FollowsPlan is_logged plan (λ at. run_before_end_at at plan) m k m2 k2 r
  unfolding run_before_end_at
  runs_some {m1 = m1} {m2 = m2} {k1 = k1} {k2 = k2} {r = r} e p q =
      then_follows (λ at _. choose plan.reads_records (run_records (until_next (part_at at plan.rules))) (ret tt)) p
      (subst (λ (b : Bool). FollowsPlan is_logged plan (λ at. choose b (run_records (until_next (part_at at plan.rules))) (ret tt)) m1 k1 m2 k2 r) (sym e) q)
