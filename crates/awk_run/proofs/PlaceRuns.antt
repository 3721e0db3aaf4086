-- What a run from a place does, by what the evaluator says of it.
use Rattle.std.proofs.Common.{◌≡◌, ℕ, ◌≤◌, List, [], Result, Ok, Err, sym, ap, ◌∙◌, subst, arith}
use Rattle.awk_value.specs.declared.value.Value.{Value}
use Rattle.awk_streams.specs.WorldState.{WorldState}
use Rattle.awk_grammar.specs.Tree.{Item}
use Rattle.awk_kinds.specs.definitions.Kinds.{definitions_of}
use Rattle.awk_resolve.specs.declared.plan.Plan.{Plan}
use Rattle.awk_resolve.specs.support.Nodes.{Tables, cont_at}
use Rattle.awk_resolve.specs.support.Plans.{tables_of}
use Rattle.awk_semantics.specs.declared.halt.Halt.{Halt}
use Rattle.awk_semantics.specs.definitions.Calls.{functions_within}
use Rattle.awk_runtime.specs.support.Naming.{Naming}
use Rattle.awk_runtime.specs.support.Simulation.{IsReady, Simulates}
use Rattle.awk_evaluator.specs.declared.machine.Machine.{Machine}
use Rattle.awk_evaluator.specs.Rest.{PlanStands, tables_in}
use Rattle.awk_evaluator.specs.Moves.{Done, Executes}
use Rattle.awk_run.specs.support.Follows.{FollowsPlan, IsSet}
use Rattle.awk_run.specs.support.Planned.{IsPlanFor, place_in, part_at}
use Rattle.awk_run.proofs.ItemLemmas.{part_runs, part_halts}
use Rattle.awk_run.proofs.PlansStand.{plans_stand}

-- the tables by the names of a run are the plan's
same_tables : {items : List Item} {plan : Plan} {names : Naming} → IsPlanFor items plan names → tables_in names (tables_of items plan) ≡ tables_of items plan
same_tables {items = items} {plan = plan} {names = names} h =
    let t : Tables = tables_of items plan in
    let with_arrays : tables_in names t ≡ record { names = names.scalars; eres = names.eres; arrays = t.arrays; functions = t.functions } = ap (λ l. record { names = names.scalars; eres = names.eres; arrays = l; functions = t.functions }) h.arrays in
    let with_eres : record { names = names.scalars; eres = names.eres; arrays = t.arrays; functions = t.functions } ≡ record { names = names.scalars; eres = t.eres; arrays = t.arrays; functions = t.functions } = ap (λ l. record { names = names.scalars; eres = l; arrays = t.arrays; functions = t.functions }) h.eres in
    with_arrays ∙ (with_eres ∙ ap (λ l. record { names = l; eres = t.eres; arrays = t.arrays; functions = t.functions }) h.scalars)

place_told : {is_logged : Type 0} {plan : Plan} {place : ℕ} {m m1 : Machine} {k k1 : WorldState} {r : Result Value Halt} → Executes is_logged plan place m k r m1 k1 → (items : List Item) → IsPlanFor items plan m.runtime.names → (n : ℕ) → m.runtime.steps ≤ n
    → Simulates is_logged m.runtime k m1.runtime k1 r (place_in items plan n place)
place_told {is_logged = is_logged} {plan = plan} {place = place} {m = m} {m1 = m1} {k = k} {k1 = k1} {r = r} e items is n low =
    subst (λ (t : Tables). Simulates is_logged m.runtime k m1.runtime k1 r (cont_at t (functions_within (definitions_of items) n) plan.heads.items plan.nodes.items n place [])) (same_tables is)
    (e.executes (tables_of items plan) (definitions_of items) (subst (λ (t : Tables). PlanStands t (definitions_of items) plan) (sym (same_tables is)) (plans_stand is)) n low)

pub place_follows : {is_logged : Type 0} {plan : Plan} {place : ℕ} {m m1 : Machine} {k k1 : WorldState} {r : Result Value Halt} → IsSet is_logged plan m.runtime k → Executes is_logged plan place m k r m1 k1 → FollowsPlan is_logged plan (λ at. at place) m.runtime k m1.runtime k1 r
place_follows {m = m} set e =
    let told = place_told e set.items set.planned m.runtime.steps (omega arith) in
    record { steps = told.steps; names = told.names; told = place_told e }

pub place_set : {is_logged : Type 0} {plan : Plan} {place : ℕ} {m m1 : Machine} {k k1 : WorldState} {r : Result Value Halt} → IsSet is_logged plan m.runtime k → Executes is_logged plan place m k r m1 k1 → IsReady is_logged k1 m1.runtime.streams → IsSet is_logged plan m1.runtime k1
place_set {plan = plan} {m = m} set e ready = record {
  ready = ready;
  items = set.items;
  planned = subst (λ (names : Naming). IsPlanFor set.items plan names) (sym (place_told e set.items set.planned m.runtime.steps (omega arith)).names) set.planned;
}

-- the same where the value is of no use

pub set_done : {is_logged : Type 0} {plan : Plan} {place : ℕ} {m m1 : Machine} {k k1 : WorldState} (r : Result (Unit {0}) Halt) → IsSet is_logged plan m.runtime k → Done (λ q. Executes is_logged plan place m k q m1 k1) r → IsReady is_logged k1 m1.runtime.streams → IsSet is_logged plan m1.runtime k1
set_done (Ok u) set d ready = place_set set d.done.1 ready
set_done (Err h) set d ready = place_set set d.done ready

pub part_follows : {is_logged : Type 0} {plan : Plan} {place : ℕ} {m m1 : Machine} {k k1 : WorldState} (r : Result (Unit {0}) Halt) → IsSet is_logged plan m.runtime k → Done (λ q. Executes is_logged plan place m k q m1 k1) r → FollowsPlan is_logged plan (λ at. part_at at place) m.runtime k m1.runtime k1 r
part_follows (Ok u) set d = part_runs (place_follows set d.done.1)
part_follows (Err h) set d = part_halts (place_follows set d.done)
