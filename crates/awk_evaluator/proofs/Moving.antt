-- The moves.
use Rattle.std.specs.Prelude.{◌==◌, ◌<◌, if◌then◌else◌, OnOk}
use Rattle.std.proofs.lemmas.Bool.{eqb-true}
use Rattle.std.proofs.Common.{◌≡◌, ◌≢◌, ℕ, zero, suc, ◌-◌, ◌≤◌, Bool, true, false, List, [], ◌∷◌, ◌++◌, length, drop, slice_get, Some, None, Result, Ok, Err, refl, sym, ap, ◌∙◌, subst, arith, get_or, inl, pos}
use Rattle.awk_value.specs.declared.value.Value.{Value}
use Rattle.awk_value.specs.declared.value.Value.TheVariants as value
use Rattle.awk_streams.specs.WorldState.{WorldState}
use Rattle.awk_kinds.specs.Kinds.{Definition}
use Rattle.awk_semantics.specs.declared.halt.Halt.{Halt}
use Rattle.awk_semantics.specs.declared.halt.Halt.TheVariants as halt
use Rattle.awk_semantics.specs.declared.fault.Fault.TheVariants.{OutOfMemory}
use Rattle.awk_semantics.specs.State.{Run, ◌>>=◌, lift, ret}
use Rattle.awk_semantics.specs.Results.{Yields}
use Rattle.awk_semantics.specs.Semantics.{Functions, choose}
use Rattle.awk_semantics.specs.Calls.{functions_within}
use Rattle.awk_semantics.specs.Primitives.{leave}
use Rattle.awk_storage.specs.declared.position.Array.{Array}
use Rattle.awk_storage.specs.declared.position.Variable.{Variable}
use Rattle.awk_storage.specs.Positions.{put_variable}
use Rattle.awk_storage.specs.Forms.{keys_of_array}
use Rattle.awk_resolve.specs.declared.node.Ending.{Ending}
use Rattle.awk_resolve.specs.declared.node.Ending.TheVariants as ending
use Rattle.awk_resolve.specs.declared.node.Node.{Node}
use Rattle.awk_resolve.specs.declared.node.Node.TheVariants as n
use Rattle.awk_resolve.specs.declared.node.ValueNode.{ValueNode}
use Rattle.awk_resolve.specs.declared.node.EffectNode.{EffectNode}
use Rattle.awk_resolve.specs.declared.plan.Plan.{Plan}
use Rattle.awk_resolve.specs.Nodes.{Tables, Cont, first, second, value_of, popped, effect_of, dropped, walk_values, keys_left, next_key_by, halt_by}
use Rattle.awk_resolve.proofs.Listed.{node_at, no_node_at}
use Rattle.awk_runtime.specs.declared.runtime.Runtime.{Runtime}
use Rattle.awk_runtime.specs.Simulation.{IsReady, SimulatesLogged, Simulates, Changes, Spends, ChangesCalls}
use Rattle.awk_runtime.proofs.Composition.{wanted_behind, ready_same, ends_simulates, change_simulates, lift_simulates, calls_simulate}
use Rattle.awk_evaluator.specs.declared.machine.Machine.{Machine}
use Rattle.awk_evaluator.specs.declared.machine.Move.{Move}
use Rattle.awk_evaluator.specs.declared.machine.Move.TheVariants as move
use Rattle.awk_evaluator.specs.Operands.{OperandsView}
use Rattle.awk_runtime.specs.Naming.{Naming}
use Rattle.awk_evaluator.specs.Rest.{IsSound, PlanStands, tables_in, Entry, Bound, Start, AtPlace, AtNode, cont, turn, begun, resume, Rest}
use Rattle.awk_evaluator.specs.Moves.{seen_of, stack_of, IsIdle, RestOf, Leads, Ends, Finishes, MovesBy, Moves, Evaluates, Computes, Performs, GivesBackBy, GivesBack, Done, Executes}
use Rattle.awk_evaluator.specs.Walks.{PutsKeys, TakesKey}
use Rattle.awk_evaluator.proofs.Resting.{then_rest, ends_rest, same_rest, return_rest, return_stuck, over_rest, whole, turn_rest, turn_stuck}

-- memory may be refused behind what went well
memory_logged : {A : Type 0} {old new : Runtime} {before after : WorldState} {a : A} {run : Run A} → SimulatesLogged old before new after (Ok a) run → SimulatesLogged old before new after (Err (halt.Fault OutOfMemory)) run
memory_logged {new = new} {after = after} {run = run} x = record {
  grows = x.grows;
  means = λ oracle s past consistent stands.
      let c = x.means oracle s past consistent stands in
      wanted_behind oracle new after (run s).state (past ++ (run s).effects) c.1 (inl c.1.clear);
}

pub memory_behind : {A : Type 0} {is_logged : Type 0} {old new : Runtime} {before after : WorldState} {a : A} {run : Run A} → Simulates is_logged old before new after (Ok a) run → Simulates is_logged old before new after (Err (halt.Fault OutOfMemory)) run
memory_behind x = record { steps = x.steps; names = x.names; told = λ t. memory_logged (x.told t) }

pub memory_behind_changes : {A : Type 0} {old new : Runtime} {a : A} {run : Run A} → Changes run old new (Ok a) → Changes run old new (Err (halt.Fault OutOfMemory))
memory_behind_changes x = record { steps = x.steps; names = x.names; streams = x.streams; callers = x.callers; means = λ k. memory_logged (x.means k) }

pub no_tables : Tables
no_tables = record { names = []; eres = []; arrays = []; functions = [] }

pub no_functions : Functions
no_functions = functions_within [] 0

-- what a test of a number says

pub zero_test : (n : ℕ) → (n == 0) ≡ true → n ≡ 0
zero_test n e = eqb-true n 0 e

pub no_zero_test : (n : ℕ) → (n == 0) ≡ false → n ≢ 0
no_zero_test n e h = let t : (n == 0) ≡ true = ap (λ k. k == 0) h in cc

-- from a node to its place

module _ {is_logged : Type 0} {plan : Plan} (sound : IsSound plan) {at : ℕ} {node : Node} (is : slice_get plan.nodes.items at ≡ Some node) where
  place_rest : {tables : Tables} {ds : List Definition} {vs : List Value} {stack : List Entry} {old new : Runtime} {before after : WorldState} {r : Result Value Halt} → Rest tables ds plan is_logged (AtNode node) vs stack old before new after r → Rest tables ds plan is_logged (AtPlace at) vs stack old before new after r
  place_rest {tables = tables} {ds = ds} {vs = vs} {stack = stack} {old = old} {new = new} {before = before} {after = after} {r = r} d = record {
    does = λ b bs p q.
        subst (λ (c : Cont). Simulates is_logged old before new after r (c vs >>= λ w. resume tables ds plan bs stack w)) (sym (node_at tables (functions_within ds b.calls) plan.heads.items plan.nodes.items b.turns at node sound.ordered is)) (d.does b bs p q);
  }

  place_leads : {m m' : Machine} {k k' : WorldState} {i : ℕ} → Leads is_logged plan (AtNode node) m k i m' k' → Leads is_logged plan (AtPlace at) m k i m' k'
  place_leads x = record { names = x.names; steps = x.steps; leads = λ tables ds stands new after r d. place_rest (x.leads tables ds stands new after r d) }

  place_ends : {m m' : Machine} {k k' : WorldState} {r : Result Value Halt} → Ends is_logged plan (AtNode node) m k r m' k' → Ends is_logged plan (AtPlace at) m k r m' k'
  place_ends x = record { idle = x.idle; ends = λ tables ds stands. place_rest (x.ends tables ds stands) }

  -- by what a move comes to
  pub by_place : {m m' : Machine} {k k' : WorldState} {to : Move} → Moves is_logged plan (AtNode node) m k to m' k' → Moves is_logged plan (AtPlace at) m k to m' k'
  by_place {m = m} {m' = m'} {k = k} {k' = k'} {to = to} x = record { moves = by to x.moves }
    where
      by : (q : Move) → MovesBy is_logged plan (AtNode node) m k q m' k' → MovesBy is_logged plan (AtPlace at) m k q m' k'
      by (move.On i) x = record { leads = place_leads x.leads; less = x.less at (sound.ordered at node is); calls = x.calls }
      by (move.Up i) x = record { leads = place_leads x.leads; less = x.less }
      by (move.Back i) x = record { leads = place_leads x.leads; less = x.less }
      by move.Over x = record { calls = x.calls; ends = λ tables ds stands. place_rest (x.ends tables ds stands) }
      by move.Halted x = place_ends x

module _ {is_logged : Type 0} {plan : Plan} {from : Start} where
  -- a part is done, and then a place is next
  module _ {A : Type 0} (run : Tables → Functions → Run A) (f : Tables → List Definition → Bound → A → Run Value) {m : Machine}
      (is : (tables : Tables) (ds : List Definition) (b : Bound) → begun tables ds plan from b m.operands.values ≡ (run tables (functions_within ds b.calls) >>= f tables ds b)) where
    pub leads_on : {m' : Machine} {k k' : WorldState} {a : A} {i : ℕ} → ((tables : Tables) (functions : Functions) → Simulates is_logged m.runtime k m'.runtime k' (Ok a) (run (tables_in m.runtime.names tables) functions))
        → ((tables : Tables) (ds : List Definition) (b : Bound) → f tables ds b a ≡ cont tables ds plan b i m'.operands.values)
        → stack_of m' ≡ stack_of m → Leads is_logged plan from m k i m' k'
    leads_on {m' = m'} {k' = k'} {i = i} done next stack = record {
      names = (done no_tables no_functions).names;
      steps = (done no_tables no_functions).steps;
      leads = λ tables ds stands new after r d.
          let t = tables_in m.runtime.names tables in
          then_rest t ds plan is_logged (λ b. run t (functions_within ds b.calls)) (λ b. f t ds b) (λ b. is t ds b) (λ b. done tables (functions_within ds b.calls)) (done no_tables no_functions).steps
          (λ b bs p q. subst (λ (c : Run Value). Simulates is_logged m'.runtime k' new after r (c >>= λ w. resume t ds plan bs (stack_of m) w)) (sym (next t ds b))
          (subst (λ (es : List Entry). Simulates is_logged m'.runtime k' new after r (cont t ds plan b i m'.operands.values >>= λ w. resume t ds plan bs es w)) stack (d.does b bs p q)));
    }

    pub ends_on : {m' : Machine} {k k' : WorldState} {h : Halt} → ((tables : Tables) (functions : Functions) → Simulates is_logged m.runtime k m'.runtime k' (Err h) (run (tables_in m.runtime.names tables) functions)) → Ends is_logged plan from m k (Err h) m' k'
    ends_on done = record {
      idle = tt;
      ends = λ tables ds stands.
          let t = tables_in m.runtime.names tables in
          ends_rest t ds plan is_logged (λ b. run t (functions_within ds b.calls)) (λ b. f t ds b) (λ b. is t ds b) (λ b. done tables (functions_within ds b.calls));
    }

  -- a place is next at once
  pub leads_at_once : {m m' : Machine} {k : WorldState} {i : ℕ} → ((tables : Tables) (ds : List Definition) (b : Bound) → begun tables ds plan from b m.operands.values ≡ cont tables ds plan b i m'.operands.values)
      → m'.runtime ≡ m.runtime → stack_of m' ≡ stack_of m → Leads is_logged plan from m k i m' k
  leads_at_once {m = m} {m' = m'} {k = k} {i = i} is same stack = record {
    names = ap (λ (x : Runtime). x.names) same;
    steps = (let e = ap (λ (x : Runtime). x.steps) same in omega (arith, e));
    leads = λ tables ds stands new after r d.
        let t = tables_in m.runtime.names tables in
        same_rest t ds plan is_logged (λ b. is t ds b)
        (subst (λ (x : Runtime). Rest t ds plan is_logged (AtPlace i) m'.operands.values (stack_of m) x k new after r) same
        (subst (λ (es : List Entry). Rest t ds plan is_logged (AtPlace i) m'.operands.values es m'.runtime k new after r) stack d));
  }

  -- a turn of a loop
  module _ {m m' : Machine} {k : WorldState} (i : ℕ) (is : (tables : Tables) (ds : List Definition) (b : Bound) → begun tables ds plan from b m.operands.values ≡ turn tables ds plan b i m.operands.values) where
    pub turns_on : {j : ℕ} → j ≡ get_or plan.heads.items i 0 → m'.operands ≡ m.operands → m'.runtime.frames.callers ≡ m.runtime.frames.callers → Spends m.runtime m'.runtime (Ok tt) → Moves is_logged plan from m k (move.Up j) m' k
    turns_on {j = j} at operands calls s = record {
      moves = record {
        less = s.falls;
        leads = record {
          names = s.changes.names;
          steps = s.changes.steps;
          leads = λ tables ds stands new after r d.
              let t = tables_in m.runtime.names tables in
              turn_rest t ds plan is_logged i (λ b. is t ds b) (change_simulates s.changes) s.falls
              (subst (λ (x : ℕ). Rest t ds plan is_logged (AtPlace x) m.operands.values (stack_of m) m'.runtime k new after r) at
              (subst (λ (es : List _). Rest t ds plan is_logged (AtPlace j) m.operands.values (seen_of m.operands es) m'.runtime k new after r) calls
              (subst (λ (o : OperandsView). Rest t ds plan is_logged (AtPlace j) o.values (seen_of o m'.runtime.frames.callers) m'.runtime k new after r) operands d)));
        };
      };
    }

    pub turns_stuck : {h : Halt} → Spends m.runtime m'.runtime (Err h) → Ends is_logged plan from m k (Err h) m' k
    turns_stuck s = record {
      idle = tt;
      ends = λ tables ds stands. turn_stuck (tables_in m.runtime.names tables) ds plan is_logged i (λ b. is (tables_in m.runtime.names tables) ds b) (change_simulates s.changes);
    }

  -- a value is returned
  module _ {m m1 : Machine} {k : WorldState} {w : Value} (stack : stack_of m1 ≡ stack_of m) (calls : m1.runtime.frames.callers ≡ m.runtime.frames.callers) (same : m1.runtime ≡ m.runtime)
      (is : (tables : Tables) (ds : List Definition) (b : Bound) → begun tables ds plan from b m.operands.values ≡ ret w) where
    pub gives_back : {m' : Machine} {to : Move} → GivesBack w m1 to m' → Moves is_logged plan from m k to m' k
    gives_back {m' = m'} {to = to} g = record { moves = by to g.gives }
      where
        to_left : ChangesCalls leave m1.runtime m'.runtime (Ok tt) → ChangesCalls leave m.runtime m'.runtime (Ok tt)
        to_left x = subst (λ (y : Runtime). ChangesCalls leave y m'.runtime (Ok tt)) same x

        by : (q : Move) → GivesBackBy w m1 q m' → MovesBy is_logged plan from m k q m' k
        by (move.On i) g = absurd g
        by (move.Up i) g = absurd g
        by (move.Back i) g = record {
          less = (let e = g.4 in let f = ap length calls in omega (arith, e, f));
          leads = record {
            names = (to_left g.3).names;
            steps = (to_left g.3).steps;
            leads = λ tables ds stands new after r d.
                let t = tables_in m.runtime.names tables in
                let e : Entry = record { next = i; values = g.0 } in
                subst (λ (es : List Entry). Rest t ds plan is_logged from m.operands.values es m.runtime k new after r) (sym g.1 ∙ stack)
                (return_rest t ds plan is_logged {e = e} w (λ b. is t ds b) (calls_simulate (to_left g.3)) (to_left g.3).steps
                (subst (λ (vs : List Value). Rest t ds plan is_logged (AtPlace i) vs (stack_of m') m'.runtime k new after r) g.2 d));
          };
        }
        by move.Over g = record {
          calls = g.2;
          ends = λ tables ds stands.
              let t = tables_in m.runtime.names tables in
              let v = first m'.operands.values in
              let none : stack_of m ≡ [] = sym stack ∙ ap (λ es. seen_of m1.operands es) g.1 in
              subst (λ (x : Runtime). Rest t ds plan is_logged from m.operands.values (stack_of m) m.runtime k x k (Ok v)) (sym same ∙ sym g.3)
              (subst (λ (es : List Entry). Rest t ds plan is_logged from m.operands.values es m.runtime k m.runtime k (Ok v)) (sym none)
              (over_rest t ds plan is_logged w (λ b. is t ds b) (lift_simulates {c = Ok v} (Ok w) m.runtime k (ap (λ x. Ok x) (sym g.0)))));
        }
        by move.Halted g = record {
          idle = tt;
          ends = λ tables ds stands.
              let t = tables_in m.runtime.names tables in
              subst (λ (x : Halt). Rest t ds plan is_logged from m.operands.values (stack_of m) m.runtime k m'.runtime k (Err x)) (sym g.4)
              (subst (λ (es : List Entry). Rest t ds plan is_logged from m.operands.values es m.runtime k m'.runtime k (Err (halt.Fault OutOfMemory))) (sym g.2 ∙ stack)
              (return_stuck t ds plan is_logged {e = g.0} w (λ b. is t ds b) (memory_behind (calls_simulate (to_left g.3)))));
        }

-- a part that ended halts the machine, which keeps why
pub halts : {is_logged : Type 0} {plan : Plan} {from : Start} {m m1 m' : Machine} {k k' : WorldState} {h : Halt} → Ends is_logged plan from m k (Err h) m1 k' → m'.runtime ≡ m1.runtime → m'.halt ≡ h → Moves is_logged plan from m k move.Halted m' k'
halts {is_logged = is_logged} {plan = plan} {from = from} {m = m} {m1 = m1} {m' = m'} {k = k} {k' = k'} {h = h} e same why = record {
  moves = record {
    idle = tt;
    ends = λ tables ds stands.
        let t = tables_in m.runtime.names tables in
        subst (λ (x : Runtime). RestOf t ds plan is_logged from m k x k' (Err m'.halt)) (sym same)
        (subst (λ (x : Halt). RestOf t ds plan is_logged from m k m1.runtime k' (Err x)) (sym why) (e.ends tables ds stands));
  };
}

-- a value that needs no world
pub evaluated : {is_logged : Type 0} {x : ValueNode} {m m' : Machine} {k : WorldState} {r : Result Value Halt} → Computes x m r m' → Evaluates is_logged x m k r m' k
evaluated c = record { operands = c.operands; calls = c.calls; simulates = λ tables functions. change_simulates (c.changes tables functions) }

pub ready_computed : {is_logged : Type 0} {x : ValueNode} {m m' : Machine} {k : WorldState} {r : Result Value Halt} → Computes x m r m' → IsReady is_logged k m.runtime.streams → IsReady is_logged k m'.runtime.streams
ready_computed c ready = ready_same (c.changes no_tables no_functions).streams ready

next_turn : (c : ℕ) (t e : Run Value) → c ≢ 0 → next_key_by c t e ≡ t
next_turn zero t e h = absurd (h refl)
next_turn (suc c) t e h = refl

-- what a test chooses

pub chosen_below : {here other : ℕ} (t : Bool) {at : ℕ} → (here < at) × (other < at) → (if t then here else other) < at
chosen_below true low = low.0
chosen_below false low = low.1

pub chosen_cont : (here other : ℕ) (tables : Tables) (ds : List Definition) (plan : Plan) (b : Bound) (t : Bool) (vs : List Value) → choose t (cont tables ds plan b here vs) (cont tables ds plan b other vs) ≡ cont tables ds plan b (if t then here else other) vs
chosen_cont here other tables ds plan b true vs = refl
chosen_cont here other tables ds plan b false vs = refl

-- the nodes

module _ {is_logged : Type 0} {plan : Plan} where
  -- a node that gives a value

  module _ {x : ValueNode} {i : ℕ} where
    pub value_on : {m m1 m2 : Machine} {k k' : WorldState} {w : Value} → Evaluates is_logged x m k (Ok w) m1 k' → m2.operands ≡ record m1.operands { values = w ∷ m1.operands.values } → m2.runtime.frames.callers ≡ m1.runtime.frames.callers → m2.runtime ≡ m1.runtime → Moves is_logged plan (AtNode (n.Value x i)) m k (move.On i) m2 k'
    value_on {m = m} {m1 = m1} {m2 = m2} {k = k} {k' = k'} {w = w} e operands calls same = record {
      moves = record {
        less = λ at low. low;
        calls = calls ∙ e.calls;
        leads = leads_on (λ tables functions. value_of tables functions x m.operands.values) (λ tables ds b u. cont tables ds plan b i (u ∷ drop (popped x) m.operands.values)) (λ tables ds b. refl)
            (λ tables functions. subst (λ (y : Runtime). Simulates is_logged m.runtime k y k' (Ok w) (value_of (tables_in m.runtime.names tables) functions x m.operands.values)) (sym same) (e.simulates tables functions))
            (λ tables ds b. ap (λ vs. cont tables ds plan b i vs) (ap (λ (o : OperandsView). w ∷ o.values) (sym e.operands) ∙ ap (λ (o : OperandsView). o.values) (sym operands)))
            (ap (λ es. seen_of m2.operands es) (calls ∙ e.calls) ∙ ap (λ (o : OperandsView). seen_of o m.runtime.frames.callers) operands ∙ ap (λ (o : OperandsView). seen_of o m.runtime.frames.callers) e.operands);
      };
    }

    pub value_ends : {m m' : Machine} {k k' : WorldState} {h : Halt} → Evaluates is_logged x m k (Err h) m' k' → Ends is_logged plan (AtNode (n.Value x i)) m k (Err h) m' k'
    value_ends {m = m} e = ends_on (λ tables functions. value_of tables functions x m.operands.values) (λ tables ds b u. cont tables ds plan b i (u ∷ drop (popped x) m.operands.values)) (λ tables ds b. refl) e.simulates

    pub value_memory : {m m1 m2 : Machine} {k k' : WorldState} {w : Value} → Evaluates is_logged x m k (Ok w) m1 k' → m2.runtime ≡ m1.runtime → Ends is_logged plan (AtNode (n.Value x i)) m k (Err (halt.Fault OutOfMemory)) m2 k'
    value_memory {m = m} {k = k} {k' = k'} e same = ends_on (λ tables functions. value_of tables functions x m.operands.values) (λ tables ds b u. cont tables ds plan b i (u ∷ drop (popped x) m.operands.values)) (λ tables ds b. refl)
        (λ tables functions. subst (λ (y : Runtime). Simulates is_logged m.runtime k y k' (Err (halt.Fault OutOfMemory)) (value_of (tables_in m.runtime.names tables) functions x m.operands.values)) (sym same) (memory_behind (e.simulates tables functions)))

  -- a node that gives none

  module _ {x : EffectNode} {i : ℕ} where
    pub effect_on : {m m' : Machine} {k k' : WorldState} → Performs is_logged x m k (Ok tt) m' k' → Moves is_logged plan (AtNode (n.Effect x i)) m k (move.On i) m' k'
    effect_on {m = m} {m' = m'} e = record {
      moves = record {
        less = λ at low. low;
        calls = e.calls;
        leads = leads_on (λ tables functions. effect_of tables functions x m.operands.values) (λ tables ds b u. cont tables ds plan b i (drop (dropped x) m.operands.values)) (λ tables ds b. refl)
            e.simulates
            (λ tables ds b. ap (λ vs. cont tables ds plan b i vs) (ap (λ (o : OperandsView). o.values) (sym e.operands)))
            (ap (λ es. seen_of m'.operands es) e.calls ∙ ap (λ (o : OperandsView). seen_of o m.runtime.frames.callers) e.operands);
      };
    }

    pub effect_ends : {m m' : Machine} {k k' : WorldState} {h : Halt} → Performs is_logged x m k (Err h) m' k' → Ends is_logged plan (AtNode (n.Effect x i)) m k (Err h) m' k'
    effect_ends {m = m} e = ends_on (λ tables functions. effect_of tables functions x m.operands.values) (λ tables ds b u. cont tables ds plan b i (drop (dropped x) m.operands.values)) (λ tables ds b. refl) e.simulates

  -- turns

  pub again_on : {i j : ℕ} {m m' : Machine} {k : WorldState} → j ≡ get_or plan.heads.items i 0 → m'.operands ≡ m.operands → m'.runtime.frames.callers ≡ m.runtime.frames.callers → Spends m.runtime m'.runtime (Ok tt) → Moves is_logged plan (AtNode (n.Again i)) m k (move.Up j) m' k
  again_on {i = i} = turns_on i (λ tables ds b. refl)

  pub again_stuck : {i : ℕ} {m m' : Machine} {k : WorldState} {h : Halt} → Spends m.runtime m'.runtime (Err h) → Ends is_logged plan (AtNode (n.Again i)) m k (Err h) m' k
  again_stuck {i = i} = turns_stuck i (λ tables ds b. refl)

  -- walks

  pub key_on : {i exit j : ℕ} {m m' : Machine} {k : WorldState} → keys_left (first m.operands.values) ≢ 0 → j ≡ get_or plan.heads.items i 0 → m'.operands ≡ m.operands → m'.runtime.frames.callers ≡ m.runtime.frames.callers → Spends m.runtime m'.runtime (Ok tt) → Moves is_logged plan (AtNode (n.NextKey i exit)) m k (move.Up j) m' k
  key_on {i = i} {exit = exit} {m = m} h = turns_on i (λ tables ds b. next_turn (keys_left (first m.operands.values)) _ _ h)

  pub key_stuck : {i exit : ℕ} {m m' : Machine} {k : WorldState} {h : Halt} → keys_left (first m.operands.values) ≢ 0 → Spends m.runtime m'.runtime (Err h) → Ends is_logged plan (AtNode (n.NextKey i exit)) m k (Err h) m' k
  key_stuck {i = i} {exit = exit} {m = m} h = turns_stuck i (λ tables ds b. next_turn (keys_left (first m.operands.values)) _ _ h)

  pub key_exit : {i exit : ℕ} {m m' : Machine} {k : WorldState} → keys_left (first m.operands.values) ≡ 0 → m'.operands ≡ record m.operands { values = drop 1 m.operands.values } → m'.runtime.frames.callers ≡ m.runtime.frames.callers → m'.runtime ≡ m.runtime → Moves is_logged plan (AtNode (n.NextKey i exit)) m k (move.On exit) m' k
  key_exit {i = i} {exit = exit} {m = m} {m' = m'} e operands calls same = record {
    moves = record {
      less = λ at low. low;
      calls = calls;
      leads = leads_at_once (λ tables ds b. ap (λ c. next_key_by c (turn tables ds plan b i m.operands.values) (cont tables ds plan b exit (drop 1 m.operands.values))) e ∙ ap (λ (o : OperandsView). cont tables ds plan b exit o.values) (sym operands))
          same (ap (λ es. seen_of m'.operands es) calls ∙ ap (λ (o : OperandsView). seen_of o m.runtime.frames.callers) operands);
    };
  }

  pub walk_on : {a : Array} {i : ℕ} {m m' : Machine} {k : WorldState} → PutsKeys a m (Ok tt) m' → Moves is_logged plan (AtNode (n.Walk a i)) m k (move.On i) m' k
  walk_on {a = a} {i = i} {m = m} {m' = m'} p = record {
    moves = record {
      less = λ at low. low;
      calls = p.puts.1.callers;
      leads = leads_on (λ tables functions. keys_of_array a) (λ tables ds b keys. cont tables ds plan b i (walk_values keys ++ m.operands.values)) (λ tables ds b. refl)
          (λ tables functions. change_simulates p.puts.1)
          (λ tables ds b. ap (λ (o : OperandsView). cont tables ds plan b i o.values) (sym p.puts.2))
          (ap (λ es. seen_of m'.operands es) p.puts.1.callers ∙ ap (λ (o : OperandsView). seen_of o m.runtime.frames.callers) p.puts.2);
    };
  }

  pub walk_ends : {a : Array} {i : ℕ} {m m' : Machine} {k : WorldState} {h : Halt} → PutsKeys a m (Err h) m' → Ends is_logged plan (AtNode (n.Walk a i)) m k (Err h) m' k
  walk_ends {a = a} {i = i} {m = m} p = ends_on (λ tables functions. keys_of_array a) (λ tables ds b keys. cont tables ds plan b i (walk_values keys ++ m.operands.values)) (λ tables ds b. refl) (λ tables functions. change_simulates p.puts)

  pub key_taken : {x : Variable} {i : ℕ} {m m' : Machine} {k : WorldState} → TakesKey x m (Ok tt) m' → Moves is_logged plan (AtNode (n.TakeKey x i)) m k (move.On i) m' k
  key_taken {x = x} {i = i} {m = m} {m' = m'} p = record {
    moves = record {
      less = λ at low. low;
      calls = p.calls;
      leads = leads_on (λ tables functions. put_variable tables.names x (second m.operands.values)) (λ tables ds b u. cont tables ds plan b i (value.Number (pos (keys_left (first m.operands.values) - 1)) ∷ drop 2 m.operands.values)) (λ tables ds b. refl)
          (λ tables functions. change_simulates p.changes)
          (λ tables ds b. ap (λ (o : OperandsView). cont tables ds plan b i o.values) (sym p.operands))
          (ap (λ es. seen_of m'.operands es) p.calls ∙ ap (λ (o : OperandsView). seen_of o m.runtime.frames.callers) p.operands);
    };
  }

  pub key_ends : {x : Variable} {i : ℕ} {m m' : Machine} {k : WorldState} {h : Halt} → TakesKey x m (Err h) m' → Ends is_logged plan (AtNode (n.TakeKey x i)) m k (Err h) m' k
  key_ends {x = x} {i = i} {m = m} p = ends_on (λ tables functions. put_variable tables.names x (second m.operands.values)) (λ tables ds b u. cont tables ds plan b i (value.Number (pos (keys_left (first m.operands.values) - 1)) ∷ drop 2 m.operands.values)) (λ tables ds b. refl) (λ tables functions. change_simulates p.changes)

  pub walk_left : {i : ℕ} {m m' : Machine} {k : WorldState} → m'.operands ≡ record m.operands { values = drop (suc (keys_left (first m.operands.values))) m.operands.values } → m'.runtime.frames.callers ≡ m.runtime.frames.callers → m'.runtime ≡ m.runtime → Moves is_logged plan (AtNode (n.LeaveWalk i)) m k (move.On i) m' k
  walk_left {i = i} {m = m} {m' = m'} operands calls same = record {
    moves = record {
      less = λ at low. low;
      calls = calls;
      leads = leads_at_once (λ tables ds b. ap (λ (o : OperandsView). cont tables ds plan b i o.values) (sym operands)) same (ap (λ es. seen_of m'.operands es) calls ∙ ap (λ (o : OperandsView). seen_of o m.runtime.frames.callers) operands);
    };
  }

  -- ends

  stops : {m m' : Machine} {k : WorldState} (h : Halt) (node : Node) → ((tables : Tables) (ds : List Definition) (b : Bound) (vs : List Value) → begun tables ds plan (AtNode node) b vs ≡ lift (Err h)) → Yields {A = Value} (Err h) (Err h) → m'.runtime ≡ m.runtime → m'.halt ≡ h → Moves is_logged plan (AtNode node) m k move.Halted m' k
  stops {m = m} {k = k} h node is e same why = halts {m1 = m} (record {
    idle = tt;
    ends = λ tables ds stands. record {
      does = λ b bs p q.
          let t = tables_in m.runtime.names tables in
          let later : Value → Run Value = λ w. resume t ds plan bs (stack_of m) w in
          subst (λ (run : Run Value). Simulates is_logged m.runtime k m.runtime k (Err h) (run >>= later)) (sym (is t ds b m.operands.values)) (ends_simulates later (lift_simulates (Err h) m.runtime k e));
    };
  }) same why

  pub ending_stops : {m m' : Machine} {k : WorldState} (way : Ending) → m'.runtime ≡ m.runtime → m'.halt ≡ halt_by way → Moves is_logged plan (AtNode (n.Stop way)) m k move.Halted m' k
  ending_stops ending.Next same why = stops halt.Next (n.Stop ending.Next) (λ tables ds b vs. refl) refl same why
  ending_stops ending.Exit same why = stops halt.Exit (n.Stop ending.Exit) (λ tables ds b vs. refl) refl same why

  pub returns_value : {m m' : Machine} {k : WorldState} {to : Move} → GivesBack (first m.operands.values) m to m' → Moves is_logged plan (AtNode n.Return) m k to m' k
  returns_value g = gives_back refl refl refl (λ tables ds b. refl) g

  pub returns_nothing : {m m' : Machine} {k : WorldState} {to : Move} → GivesBack value.Nothing m to m' → Moves is_logged plan (AtNode n.End) m k to m' k
  returns_nothing g = gives_back refl refl refl (λ tables ds b. refl) g

  pub past_end : {at : ℕ} {m m' : Machine} {k : WorldState} {to : Move} → None ≡ slice_get plan.nodes.items at → GivesBack value.Nothing m to m' → Moves is_logged plan (AtPlace at) m k to m' k
  past_end {at = at} {m = m} none g = gives_back refl refl refl (λ tables ds b. ap (λ (c : Cont). c m.operands.values) (no_node_at tables (functions_within ds b.calls) plan.heads.items plan.nodes.items b.turns at (beyond plan.nodes.items at none))) g
    where
      beyond : (xs : List Node) (i : ℕ) → None ≡ slice_get xs i → length xs ≤ i
      beyond [] i e = omega arith
      beyond (x ∷ xs) zero e = cc
      beyond (x ∷ xs) (suc i) e = let h = beyond xs i e in omega (arith, h)

  -- what is led to leads on
  pub led_on : {from : Start} {at i : ℕ} {m m1 m' : Machine} {k k1 k' : WorldState} → Leads is_logged plan from m k at m1 k1 → Leads is_logged plan (AtPlace at) m1 k1 i m' k' → Leads is_logged plan from m k i m' k'
  led_on {at = at} {i = i} {m1 = m1} {m' = m'} {k1 = k1} {k' = k'} x y = record {
    names = y.names ∙ x.names;
    steps = omega (arith, x.steps, y.steps);
    leads = λ tables ds stands new after r d. x.leads tables ds stands new after r
        (subst (λ (names : Naming). PlanStands (tables_in names tables) ds plan → RestOf (tables_in names tables) ds plan is_logged (AtPlace i) m' k' new after r → RestOf (tables_in names tables) ds plan is_logged (AtPlace at) m1 k1 new after r)
        x.names (λ st rest. y.leads tables ds st new after r rest) stands d);
  }

  -- what follows a place that is led to ends
  pub led_ends : {from : Start} {at : ℕ} {m m1 m' : Machine} {k k1 k' : WorldState} {r : Result Value Halt} → Leads is_logged plan from m k at m1 k1 → Ends is_logged plan (AtPlace at) m1 k1 r m' k' → Ends is_logged plan from m k r m' k'
  led_ends {at = at} {m1 = m1} {m' = m'} {k1 = k1} {k' = k'} {r = r} x e = record {
    idle = e.idle;
    ends = λ tables ds stands. x.leads tables ds stands m'.runtime k' r
        (subst (λ (names : Naming). PlanStands (tables_in names tables) ds plan → RestOf (tables_in names tables) ds plan is_logged (AtPlace at) m1 k1 m'.runtime k' r) x.names (λ st. e.ends tables ds st) stands);
  }

  -- the last value is taken off
  pub finished : {from : Start} {m m1 m' : Machine} {k k' : WorldState} {v : Value} → Finishes is_logged plan from m k m1 k' → v ≡ first m1.operands.values → m'.operands ≡ record { values = []; below = [] } → m'.runtime.frames.callers ≡ m1.runtime.frames.callers → m'.runtime ≡ m1.runtime
      → Ends is_logged plan from m k (Ok v) m' k'
  finished {from = from} {m = m} {m1 = m1} {k = k} {k' = k'} {v = v} f top operands calls same = record {
    idle = record { operands = operands; calls = calls ∙ f.calls };
    ends = λ tables ds stands.
        let t = tables_in m.runtime.names tables in
        subst (λ (x : Runtime). RestOf t ds plan is_logged from m k x k' (Ok v)) (sym same)
        (subst (λ (w : Value). RestOf t ds plan is_logged from m k m1.runtime k' (Ok w)) (sym top) (f.ends tables ds stands));
  }

  -- a whole run
  pub executes : {at : ℕ} {m m' : Machine} {k k' : WorldState} {r : Result Value Halt} → IsIdle m → Ends is_logged plan (AtPlace at) m k r m' k' → Executes is_logged plan at m k r m' k'
  executes {at = at} {m = m} {m' = m'} {k = k} {k' = k'} {r = r} idle e = record {
    executes = λ tables ds stands steps low.
        let t = tables_in m.runtime.names tables in
        let none : stack_of m ≡ [] = ap (λ es. seen_of m.operands es) idle.calls in
        whole t ds plan is_logged
        (subst (λ (o : OperandsView). Rest t ds plan is_logged (AtPlace at) o.values [] m.runtime k m'.runtime k' r) idle.operands
        (subst (λ (es : List Entry). Rest t ds plan is_logged (AtPlace at) m.operands.values es m.runtime k m'.runtime k' r) none (e.ends tables ds stands))) steps low;
  }

  -- the same of a run whose last value is of no use

  pub executes_done : {at : ℕ} {m m' : Machine} {k k' : WorldState} (r : Result (Unit {0}) Halt) → IsIdle m → Done (λ q. Ends is_logged plan (AtPlace at) m k q m' k') r → Done (λ q. Executes is_logged plan at m k q m' k') r
  executes_done (Ok u) idle d = record { done = (d.done.0, executes idle d.done.1) }
  executes_done (Err h) idle d = record { done = executes idle d.done }

  pub idle_done : {from : Start} {m m' : Machine} {k k' : WorldState} (r : Result (Unit {0}) Halt) → Done (λ q. Ends is_logged plan from m k q m' k') r → OnOk r (IsIdle m')
  idle_done (Ok u) d = d.done.1.idle
  idle_done (Err h) d = tt
