-- The main records, by what their parts do.
use Rattle.std.proofs.Common.{◌≡◌, ℕ, ◌≤◌, zero, suc, Bool, true, false, List, Some, None, Result, Ok, Err, refl, ap, ◌∙◌, arith}
use Rattle.awk_value.specs.declared.value.Value.{Value}
use Rattle.awk_streams.specs.WorldState.{WorldState}
use Rattle.awk_resolve.specs.declared.plan.Plan.{Plan}
use Rattle.awk_semantics.specs.declared.halt.Halt.{Halt}
use Rattle.awk_semantics.specs.definitions.State.{Run, ◌>>=◌}
use Rattle.awk_semantics.specs.definitions.Primitives.{spend}
use Rattle.awk_semantics.specs.definitions.Inputs.{next_record}
use Rattle.awk_semantics.specs.definitions.Items.{until_next, begin_record, on_record, each_record, run_records}
use Rattle.awk_runtime.specs.declared.runtime.Runtime.{Runtime}
use Rattle.awk_runtime.specs.support.Simulation.{Changes, Spends, Follows}
use Rattle.awk_runtime.specs.support.Inputs.{Begins, BeginsWhere}
use Rattle.awk_run.specs.support.Planned.{part_at}
use Rattle.awk_run.specs.support.Follows.{FollowsPlan, ReadsOn, FindsNext, ReadsNext, IsSet}
use Rattle.awk_run.proofs.PlanParts.{then_follows, ends_follows, lift_follows, change_follows, world_follows, set_behind, set_follows}

-- what is done with a record, and then with the others
abbrev rest_of : Plan → ℕ → (ℕ → Run Value) → List ℕ → Run (Unit {0})
rest_of plan n at text = spend >>= λ _. begin_record text >>= λ _. until_next (part_at at plan.rules) >>= λ _. each_record n (until_next (part_at at plan.rules))

module _ {is_logged : Type 0} {plan : Plan} where
  pub reading_ends : {m m1 : Runtime} {k k1 : WorldState} {h : Halt} → Follows is_logged next_record m k m1 k1 (Err h) → ReadsOn is_logged plan m k m1 k1 (Err h)
  unfolding each_record
  reading_ends p = record { bounded = λ n low. ends_follows (λ at found. on_record found (rest_of plan n at)) (world_follows p) }

  pub reading_over : {m m1 : Runtime} {k k1 : WorldState} → Follows is_logged next_record m k m1 k1 (Ok None) → ReadsOn is_logged plan m k m1 k1 (Ok tt)
  unfolding each_record
  reading_over {m1 = m1} {k1 = k1} p = record { bounded = λ n low. then_follows (λ at found. on_record found (rest_of plan n at)) (world_follows p) (lift_follows (Ok tt) m1 k1 refl) }

  pub reading_stops : {text : List ℕ} {m m1 m2 : Runtime} {k k1 : WorldState} {h : Halt} → Follows is_logged next_record m k m1 k1 (Ok (Some text)) → Spends m1 m2 (Err h) → ReadsOn is_logged plan m k m2 k1 (Err h)
  unfolding each_record
  reading_stops {text = text} p q = record {
    bounded = λ n low. then_follows (λ at found. on_record found (rest_of plan n at)) (world_follows p)
        (ends_follows (λ at _. begin_record text >>= λ _. until_next (part_at at plan.rules) >>= λ _. each_record n (until_next (part_at at plan.rules))) (change_follows q.changes));
  }

  pub reading_unset : {text : List ℕ} {m m1 m2 m3 : Runtime} {k k1 : WorldState} {h : Halt} → Follows is_logged next_record m k m1 k1 (Ok (Some text)) → Spends m1 m2 (Ok tt) → Changes (begin_record text) m2 m3 (Err h) → ReadsOn is_logged plan m k m3 k1 (Err h)
  unfolding each_record
  reading_unset {text = text} p q r = record {
    bounded = λ n low. then_follows (λ at found. on_record found (rest_of plan n at)) (world_follows p)
        (then_follows (λ at _. begin_record text >>= λ _. until_next (part_at at plan.rules) >>= λ _. each_record n (until_next (part_at at plan.rules))) (change_follows q.changes)
        (ends_follows (λ at _. until_next (part_at at plan.rules) >>= λ _. each_record n (until_next (part_at at plan.rules))) (change_follows r)));
  }

  pub reading_halts : {text : List ℕ} {m m1 m2 m3 m4 : Runtime} {k k1 k4 : WorldState} {h : Halt} → Follows is_logged next_record m k m1 k1 (Ok (Some text)) → Spends m1 m2 (Ok tt) → Changes (begin_record text) m2 m3 (Ok tt) → FollowsPlan is_logged plan (λ at. until_next (part_at at plan.rules)) m3 k1 m4 k4 (Err h) → ReadsOn is_logged plan m k m4 k4 (Err h)
  unfolding each_record
  reading_halts {text = text} p q r s = record {
    bounded = λ n low. then_follows (λ at found. on_record found (rest_of plan n at)) (world_follows p)
        (then_follows (λ at _. begin_record text >>= λ _. until_next (part_at at plan.rules) >>= λ _. each_record n (until_next (part_at at plan.rules))) (change_follows q.changes)
        (then_follows (λ at _. until_next (part_at at plan.rules) >>= λ _. each_record n (until_next (part_at at plan.rules))) (change_follows r)
        (ends_follows (λ at _. each_record n (until_next (part_at at plan.rules))) s)));
  }

  goes_at : (n : ℕ) {text : List ℕ} {m m1 m2 m3 m4 new : Runtime} {k k1 k4 after : WorldState} {x : Result (Unit {0}) Halt} → Follows is_logged next_record m k m1 k1 (Ok (Some text)) → Spends m1 m2 (Ok tt) → Changes (begin_record text) m2 m3 (Ok tt) → FollowsPlan is_logged plan (λ at. until_next (part_at at plan.rules)) m3 k1 m4 k4 (Ok tt) → ReadsOn is_logged plan m4 k4 new after x → m.steps ≤ n
      → FollowsPlan is_logged plan (λ at. each_record (suc n) (until_next (part_at at plan.rules))) m k new after x
  unfolding each_record
  goes_at zero p q r s t low = absurd (omega (arith, p.simulates.steps, q.falls))
  goes_at (suc n) {text = text} p q r s t low = then_follows (λ at found. on_record found (rest_of plan (suc n) at)) (world_follows p)
      (then_follows (λ at _. begin_record text >>= λ _. until_next (part_at at plan.rules) >>= λ _. each_record (suc n) (until_next (part_at at plan.rules))) (change_follows q.changes)
      (then_follows (λ at _. until_next (part_at at plan.rules) >>= λ _. each_record (suc n) (until_next (part_at at plan.rules))) (change_follows r)
      (then_follows (λ at _. each_record (suc n) (until_next (part_at at plan.rules))) s (t.bounded n (omega (arith, p.simulates.steps, q.falls, r.steps, s.steps, low))))))

  pub reading_goes : {text : List ℕ} {m m1 m2 m3 m4 new : Runtime} {k k1 k4 after : WorldState} {x : Result (Unit {0}) Halt} → Follows is_logged next_record m k m1 k1 (Ok (Some text)) → Spends m1 m2 (Ok tt) → Changes (begin_record text) m2 m3 (Ok tt) → FollowsPlan is_logged plan (λ at. until_next (part_at at plan.rules)) m3 k1 m4 k4 (Ok tt) → ReadsOn is_logged plan m4 k4 new after x → ReadsOn is_logged plan m k new after x
  reading_goes p q r s t = record { bounded = λ n low. goes_at n p q r s t low }

  -- all records, no more than there are steps
  pub reads_all : {m new : Runtime} {k after : WorldState} {r : Result (Unit {0}) Halt} → ReadsOn is_logged plan m k new after r → FollowsPlan is_logged plan (λ at. run_records (until_next (part_at at plan.rules))) m k new after r
  unfolding run_records
  reads_all {m = m} p = record {
    steps = (p.bounded m.steps (omega arith)).steps;
    names = (p.bounded m.steps (omega arith)).names;
    told = λ items is n low. record {
      steps = (p.bounded m.steps (omega arith)).steps;
      names = (p.bounded m.steps (omega arith)).names;
      told = λ t. record {
        grows = (((p.bounded m.steps (omega arith)).told items is n low).told t).grows;
        means = λ oracle s past consistent stands. (((p.bounded s.steps (omega (arith, stands.holds.steps))).told items is n low).told t).means oracle s past consistent stands;
      };
    };
  }

-- what is known of the state behind a record's beginning
pub begun_set : (text : List ℕ) {is_logged : Type 0} {plan : Plan} {m m1 m2 : Runtime} {k : WorldState} {r : Result (Unit {0}) Halt} → Spends m m1 (Ok tt) → Changes (begin_record text) m1 m2 r → IsSet is_logged plan m k → IsSet is_logged plan m2 k
begun_set text q r set = set_behind r (set_behind q.changes set)

-- a record that is found begins, or that fails
pub unset_at_hand : {is_logged : Type 0} {m new : Runtime} {k k1 : WorldState} {h : Halt} → Begins is_logged m k new k1 (Err h) → ReadsNext is_logged m k new k1 (Err h)
unset_at_hand b = record { finds = λ plan. reading_unset b.reads b.spends b.begins; set = λ plan set. begun_set b.text b.spends b.begins (set_follows b.reads b.ready set) }

pub found_at_hand : {is_logged : Type 0} {m new : Runtime} {k k1 : WorldState} {found : Bool} → BeginsWhere is_logged m k new k1 (Ok found) → found ≡ true → ReadsNext is_logged m k new k1 (Ok true)
found_at_hand {found = true} b is = record { finds = b; set = λ plan set. begun_set b.text b.spends b.begins (set_follows b.reads b.ready set) }
found_at_hand {found = false} b is = absurd (cc)

-- where none is at hand, nothing changes
pub none_at_hand : (is_logged : Type 0) (k k1 : WorldState) {m new : Runtime} {found : Bool} → BeginsWhere is_logged m k new k1 (Ok found) → found ≡ false → new ≡ m
none_at_hand is_logged k k1 {found = true} b is = absurd (cc)
none_at_hand is_logged k k1 {found = false} b is = b

-- the next record has begun, or there is none
pub begun_in : {is_logged : Type 0} {m new : Runtime} {k k1 : WorldState} {found : Bool} → FindsNext is_logged m k new k1 (Ok found) → found ≡ true → Begins is_logged m k new k1 (Ok tt)
begun_in {found = true} b is = b
begun_in {found = false} b is = absurd (cc)

pub over_in : {is_logged : Type 0} {m new : Runtime} {k k1 : WorldState} {found : Bool} → FindsNext is_logged m k new k1 (Ok found) → found ≡ false → Follows is_logged next_record m k new k1 (Ok None)
over_in {found = true} p is = absurd (cc)
over_in {found = false} p is = p

-- the callers of the active calls stay as they were

begins_keeps : {is_logged : Type 0} {m new : Runtime} {k k1 : WorldState} {r : Result (Unit {0}) Halt} → Begins is_logged m k new k1 r → new.frames.callers ≡ m.frames.callers
begins_keeps b = b.begins.callers ∙ (b.spends.changes.callers ∙ b.reads.callers)

pub keeps_callers : (is_logged : Type 0) (m new : Runtime) (k k1 : WorldState) (r : Result Bool Halt) → BeginsWhere is_logged m k new k1 r → new.frames.callers ≡ m.frames.callers
keeps_callers is_logged m new k k1 (Ok true) b = begins_keeps b
keeps_callers is_logged m new k k1 (Ok false) same = ap (λ (m : Runtime). m.frames.callers) same
keeps_callers is_logged m new k k1 (Err h) b = begins_keeps b
