-- The assignments before a run, and the run behind them.
use Rattle.std.proofs.Common.{◌≡◌, ℕ, ◌≤◌, ◌<◌, ◌+◌, suc, List, [], ◌∷◌, Result, Ok, Err, length, map, drop, get_or, add-one, drop-cons, refl, ap}
use Rattle.std.proofs.lemmas.List.{drop_all}
use Rattle.awk_streams.specs.WorldState.{WorldState}
use Rattle.awk_resolve.specs.declared.plan.Plan.{Plan}
use Rattle.awk_semantics.specs.declared.halt.Halt.{Halt}
use Rattle.awk_semantics.specs.definitions.Inputs.{assign_text}
use Rattle.awk_semantics.specs.definitions.Meaning.{assign_all}
use Rattle.awk_runtime.specs.declared.runtime.Runtime.{Runtime}
use Rattle.awk_runtime.specs.declared.start.Assignment.{Assignment}
use Rattle.awk_runtime.specs.support.Beginning.{pair_of}
use Rattle.awk_runtime.specs.support.Simulation.{Changes}
use Rattle.awk_runtime.proofs.Composition.{then_changes, ends_changes, lift_changes}
use Rattle.awk_run.specs.support.Assigned.{Assigns}
use Rattle.awk_run.specs.support.Planned.{run_items_at, assign_and_run_at}
use Rattle.awk_run.specs.support.Follows.{FollowsPlan}
use Rattle.awk_run.proofs.PlanParts.{then_follows, ends_follows, change_follows}

pub assigns_end : {m : Runtime} → Assigns [] m m (Ok tt)
unfolding assign_all
assigns_end {m = m} = record { changes = lift_changes (Ok tt) m refl }

pub assigns_halt : {a : List ℕ × List ℕ} {all : List (List ℕ × List ℕ)} {old new : Runtime} {h : Halt} → Changes (assign_text a.0 a.1) old new (Err h) → Assigns (a ∷ all) old new (Err h)
unfolding assign_all
assigns_halt {all = all} p = record { changes = ends_changes (λ _. assign_all all) p }

pub assigns_step : {a : List ℕ × List ℕ} {all : List (List ℕ × List ℕ)} {old mid new : Runtime} {r : Result (Unit {0}) Halt} → Changes (assign_text a.0 a.1) old mid (Ok tt) → Assigns all mid new r → Assigns (a ∷ all) old new r
unfolding assign_all
assigns_step {all = all} p q = record { changes = then_changes (λ _. assign_all all) p q.changes }

pub assigned_halts : (pre : List (List ℕ × List ℕ)) {is_logged : Type 0} {plan : Plan} {m m1 : Runtime} {k : WorldState} {h : Halt} → Assigns pre m m1 (Err h) → FollowsPlan is_logged plan (λ at. assign_and_run_at at plan pre) m k m1 k (Err h)
unfolding assign_and_run_at
assigned_halts pre {plan = plan} p = ends_follows (λ at _. run_items_at at plan) (change_follows p.changes)

pub assigned_runs : (pre : List (List ℕ × List ℕ)) {is_logged : Type 0} {plan : Plan} {m m1 m2 : Runtime} {k k2 : WorldState} {r : Result (Unit {0}) Halt} → Assigns pre m m1 (Ok tt) → FollowsPlan is_logged plan (λ at. run_items_at at plan) m1 k m2 k2 r → FollowsPlan is_logged plan (λ at. assign_and_run_at at plan pre) m k m2 k2 r
unfolding assign_and_run_at
assigned_runs pre {plan = plan} p q = then_follows (λ at _. run_items_at at plan) (change_follows p.changes) q

-- assignments, from a place on

pub pair_at : (all : List Assignment) (i : ℕ) (a : Assignment) → i < length all → get_or all i a ≡ a → map pair_of (drop i all) ≡ pair_of a ∷ map pair_of (drop (i + 1) all)
pair_at all i a low is = rw (add-one, drop-cons all i a) (ap (λ x. pair_of x ∷ map pair_of (drop (suc i) all)) is)

pub pairs_over : (all : List Assignment) (i : ℕ) → length all ≤ i → map pair_of (drop i all) ≡ []
pairs_over all i low = ap (λ l. map pair_of l) (drop_all i all low)
