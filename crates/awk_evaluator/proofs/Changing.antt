-- The moves of nodes whose operands are read where they stand.
use Rattle.std.specs.Prelude.{◌<◌, if◌then◌else◌}
use Rattle.std.specs.Global.{Vec}
use Rattle.std.proofs.Common.{◌≡◌, ℕ, Bool, List, drop, Option, Some, None, Result, Ok, Err, refl, sym, ap, ◌∙◌, subst}
use Rattle.awk_value.specs.declared.value.Value.{Value}
use Rattle.awk_value.specs.Values.{truth_of}
use Rattle.awk_lex.specs.declared.token.AssignmentOperator.{AssignmentOperator}
use Rattle.awk_lex.specs.declared.token.IncrementOperator.{IncrementOperator}
use Rattle.awk_lex.specs.declared.token.Operator.{Operator}
use Rattle.awk_grammar.specs.declared.tree.BinaryOperator.{BinaryOperator}
use Rattle.awk_streams.specs.WorldState.{WorldState}
use Rattle.awk_kinds.specs.Kinds.{Definition}
use Rattle.awk_semantics.specs.declared.halt.Halt.{Halt}
use Rattle.awk_semantics.specs.State.{Run, ◌>>=◌}
use Rattle.awk_semantics.specs.Primitives.{spend}
use Rattle.awk_semantics.specs.Semantics.{choose}
use Rattle.awk_semantics.specs.Calls.{functions_within}
use Rattle.awk_storage.specs.declared.position.Variable.{Variable}
use Rattle.awk_storage.specs.declared.position.Place.{Place}
use Rattle.awk_storage.specs.declared.position.Place.TheVariants as place
use Rattle.awk_storage.specs.Positions.{assign_at, assign_by_at}
use Rattle.awk_resolve.specs.declared.node.Operand.{Operand}
use Rattle.awk_resolve.specs.declared.node.Node.{Node}
use Rattle.awk_resolve.specs.declared.node.Node.TheVariants as n
use Rattle.awk_resolve.specs.declared.node.Target.{Target}
use Rattle.awk_resolve.specs.declared.node.Tested.{Tested}
use Rattle.awk_resolve.specs.declared.node.ValueNode.{ValueNode}
use Rattle.awk_resolve.specs.declared.node.ValueNode.TheVariants as v
use Rattle.awk_resolve.specs.declared.plan.Plan.{Plan}
use Rattle.awk_resolve.specs.Nodes.{Tables, taken, value_of, popped, append_to, append_by_step, print_by_step, update, increment, asked, asked_operands, AreBelow}
use Rattle.awk_runtime.specs.Simulation.{IsReady, Changes, Spends}
use Rattle.awk_runtime.proofs.Composition.{change_simulates, ready_behind}
use Rattle.awk_evaluator.specs.declared.machine.Machine.{Machine}
use Rattle.awk_evaluator.specs.declared.machine.Move.TheVariants as move
use Rattle.awk_evaluator.specs.Operands.{OperandsView}
use Rattle.awk_evaluator.specs.Rest.{tables_in, Bound, AtNode, cont, begun}
use Rattle.awk_evaluator.specs.Appending.{SpendsAndAppends}
use Rattle.awk_evaluator.specs.Moves.{seen_of, Ends, Moves, Computes}
use Rattle.awk_evaluator.specs.Reading.{ComparesBy, Compares, Asks, Updates, Increments, Appends, SpendsAndPrints}
use Rattle.awk_evaluator.proofs.Moving.{no_tables, leads_on, ends_on, chosen_below, chosen_cont, ready_computed}

-- a variable has no operand
pub variable_alike : (names : List (List ℕ)) (o : Option Operator) (x : Variable) (operand operand' w : Value) → assign_by_at names o (place.Variable x) operand w ≡ assign_by_at names o (place.Variable x) operand' w
unfolding assign_by_at assign_at
variable_alike names None x operand operand' w = refl
variable_alike names (Some o) x operand operand' w = refl

-- what is ready stays so behind a comparison
pub ready_compared : {is_logged : Type 0} {x : ValueNode} {m m' : Machine} {k : WorldState} {r : Result Bool Halt} → Compares x m r m' → IsReady is_logged k m.runtime.streams → IsReady is_logged k m'.runtime.streams
ready_compared {is_logged = is_logged} {x = x} {m = m} {m' = m'} {k = k} {r = r} c ready = by r c.compares
  where
    by : (q : Result Bool Halt) → ComparesBy x m q m' → IsReady is_logged k m'.runtime.streams
    by (Ok holds) d = ready_computed d.2 ready
    by (Err h) d = ready_computed d ready

pub ready_asked : {is_logged : Type 0} {x : Tested} {m m' : Machine} {k : WorldState} {r : Result Bool Halt} → Asks x m r m' → IsReady is_logged k m.runtime.streams → IsReady is_logged k m'.runtime.streams
ready_asked c ready = ready_behind (c.changes no_tables) ready

module _ {is_logged : Type 0} {plan : Plan} where
  -- a node whose value is tested at once

  module _ {x : ValueNode} {node : Node} {here other : ℕ} (below : (at : ℕ) → AreBelow at node → (here < at) × (other < at))
      (is : (tables : Tables) (ds : List Definition) (b : Bound) (vs : List Value) → begun tables ds plan (AtNode node) b vs ≡ (value_of tables (functions_within ds b.calls) x vs >>= λ w. choose (truth_of w) (cont tables ds plan b here (drop (popped x) vs)) (cont tables ds plan b other (drop (popped x) vs)))) where
    tested_on : {m m' : Machine} {k : WorldState} {t : Bool} {i : ℕ} {w : Value} → i ≡ (if t then here else other) → truth_of w ≡ t → Computes x m (Ok w) m' → Moves is_logged plan (AtNode node) m k (move.On i) m' k
    tested_on {m = m} {m' = m'} {k = k} {t = t} {w = w} at e c =
        let left = drop (popped x) m.operands.values in
        subst (λ (j : ℕ). Moves is_logged plan (AtNode node) m k (move.On j) m' k) (sym at) (record {
          moves = record {
            less = λ p low. chosen_below t (below p low);
            calls = c.calls;
            leads = leads_on (λ tables functions. value_of tables functions x m.operands.values) (λ tables ds b u. choose (truth_of u) (cont tables ds plan b here left) (cont tables ds plan b other left)) (λ tables ds b. is tables ds b m.operands.values)
                (λ tables functions. change_simulates (c.changes tables functions))
                (λ tables ds b.
                ap (λ s. choose s (cont tables ds plan b here left) (cont tables ds plan b other left)) e
                ∙ chosen_cont here other tables ds plan b t left
                ∙ ap (λ (o : OperandsView). cont tables ds plan b (if t then here else other) o.values) (sym c.operands))
                (ap (λ es. seen_of m'.operands es) c.calls ∙ ap (λ (o : OperandsView). seen_of o m.runtime.frames.callers) c.operands);
          };
        })

    tested_ends : {m m' : Machine} {k : WorldState} {h : Halt} → Computes x m (Err h) m' → Ends is_logged plan (AtNode node) m k (Err h) m' k
    tested_ends {m = m} c =
        let left = drop (popped x) m.operands.values in
        ends_on (λ tables functions. value_of tables functions x m.operands.values) (λ tables ds b u. choose (truth_of u) (cont tables ds plan b here left) (cont tables ds plan b other left)) (λ tables ds b. is tables ds b m.operands.values)
        (λ tables functions. change_simulates (c.changes tables functions))

  module _ {o : BinaryOperator} {right : Operand} {here other : ℕ} {m m' : Machine} {k : WorldState} where
    pub with_on : {t : Bool} {i : ℕ} {w : Value} → i ≡ (if t then here else other) → truth_of w ≡ t → Computes (v.OperateWith o right) m (Ok w) m' → Moves is_logged plan (AtNode (n.CompareWith o right here other)) m k (move.On i) m' k
    with_on at e c = tested_on {node = n.CompareWith o right here other} (λ p low. low) (λ tables ds b vs. refl) at e c

    pub with_ends : {h : Halt} → Computes (v.OperateWith o right) m (Err h) m' → Ends is_logged plan (AtNode (n.CompareWith o right here other)) m k (Err h) m' k
    with_ends c = tested_ends {node = n.CompareWith o right here other} (λ p low. low) (λ tables ds b vs. refl) c

    pub compared_on : {left : Operand} {t : Bool} {i : ℕ} {w : Value} → i ≡ (if t then here else other) → truth_of w ≡ t → Computes (v.OperateOn o left right) m (Ok w) m' → Moves is_logged plan (AtNode (n.Compare o left right here other)) m k (move.On i) m' k
    compared_on {left = left} at e c = tested_on {node = n.Compare o left right here other} (λ p low. low) (λ tables ds b vs. refl) at e c

    pub compared_ends : {left : Operand} {h : Halt} → Computes (v.OperateOn o left right) m (Err h) m' → Ends is_logged plan (AtNode (n.Compare o left right here other)) m k (Err h) m' k
    compared_ends {left = left} c = tested_ends {node = n.Compare o left right here other} (λ p low. low) (λ tables ds b vs. refl) c

  module _ {a : Operand} {ere here other : ℕ} {m m' : Machine} {k : WorldState} where
    pub matched_on : {t : Bool} {i : ℕ} {w : Value} → i ≡ (if t then here else other) → truth_of w ≡ t → Computes (v.Matches a ere) m (Ok w) m' → Moves is_logged plan (AtNode (n.Match a ere here other)) m k (move.On i) m' k
    matched_on at e c = tested_on {node = n.Match a ere here other} (λ p low. low) (λ tables ds b vs. refl) at e c

    pub matched_ends : {h : Halt} → Computes (v.Matches a ere) m (Err h) m' → Ends is_logged plan (AtNode (n.Match a ere here other)) m k (Err h) m' k
    matched_ends c = tested_ends {node = n.Match a ere here other} (λ p low. low) (λ tables ds b vs. refl) c

  -- what a test asks

  module _ {x : Tested} {here other : ℕ} {m m' : Machine} {k : WorldState} where
    pub asked_on : {t : Bool} → Asks x m (Ok t) m' → Moves is_logged plan (AtNode (n.Test x here other)) m k (move.On (if t then here else other)) m' k
    asked_on {t = t} c =
        let left = drop (asked_operands x) m.operands.values in
        record {
          moves = record {
            less = λ p low. chosen_below t low;
            calls = c.calls;
            leads = leads_on (λ tables functions. asked tables x m.operands.values) (λ tables ds b holds. choose holds (cont tables ds plan b here left) (cont tables ds plan b other left)) (λ tables ds b. refl)
                (λ tables functions. change_simulates (c.changes tables))
                (λ tables ds b. chosen_cont here other tables ds plan b t left ∙ ap (λ (o : OperandsView). cont tables ds plan b (if t then here else other) o.values) (sym c.operands))
                (ap (λ es. seen_of m'.operands es) c.calls ∙ ap (λ (o : OperandsView). seen_of o m.runtime.frames.callers) c.operands);
          };
        }

    pub asked_ends : {h : Halt} → Asks x m (Err h) m' → Ends is_logged plan (AtNode (n.Test x here other)) m k (Err h) m' k
    asked_ends c =
        let left = drop (asked_operands x) m.operands.values in
        ends_on (λ tables functions. asked tables x m.operands.values) (λ tables ds b holds. choose holds (cont tables ds plan b here left) (cont tables ds plan b other left)) (λ tables ds b. refl) (λ tables functions. change_simulates (c.changes tables))

  -- a node that takes no value off the stack, and puts none on it

  module _ {A : Type 0} {node : Node} {i : ℕ} (run : Tables → Run A) (below : (at : ℕ) → AreBelow at node → i < at)
      (is : (tables : Tables) (ds : List Definition) (b : Bound) (vs : List Value) → begun tables ds plan (AtNode node) b vs ≡ (run tables >>= λ _. cont tables ds plan b i vs)) where
    ran_on : {m m' : Machine} {k : WorldState} {w : A} → m'.operands ≡ m.operands → m'.runtime.frames.callers ≡ m.runtime.frames.callers → ((tables : Tables) → Changes (run (tables_in m.runtime.names tables)) m.runtime m'.runtime (Ok w)) → Moves is_logged plan (AtNode node) m k (move.On i) m' k
    ran_on {m = m} {m' = m'} operands calls changes = record {
      moves = record {
        less = below;
        calls = calls;
        leads = leads_on (λ tables functions. run tables) (λ tables ds b _. cont tables ds plan b i m.operands.values) (λ tables ds b. is tables ds b m.operands.values)
            (λ tables functions. change_simulates (changes tables))
            (λ tables ds b. ap (λ (o : OperandsView). cont tables ds plan b i o.values) (sym operands))
            (ap (λ es. seen_of m'.operands es) calls ∙ ap (λ (o : OperandsView). seen_of o m.runtime.frames.callers) operands);
      };
    }

    ran_ends : {m m' : Machine} {k : WorldState} {h : Halt} → ((tables : Tables) → Changes (run (tables_in m.runtime.names tables)) m.runtime m'.runtime (Err h)) → Ends is_logged plan (AtNode node) m k (Err h) m' k
    ran_ends {m = m} changes = ends_on (λ tables functions. run tables) (λ tables ds b _. cont tables ds plan b i m.operands.values) (λ tables ds b. is tables ds b m.operands.values) (λ tables functions. change_simulates (changes tables))

  module _ {i : ℕ} {m m' : Machine} {k : WorldState} where
    pub spent_on : m'.operands ≡ m.operands → Spends m.runtime m'.runtime (Ok tt) → Moves is_logged plan (AtNode (n.Spend i)) m k (move.On i) m' k
    spent_on operands s = ran_on (λ tables. spend) (λ at low. low) (λ tables ds b vs. refl) operands s.changes.callers (λ tables. s.changes)

    pub spent_ends : {h : Halt} → Spends m.runtime m'.runtime (Err h) → Ends is_logged plan (AtNode (n.Spend i)) m k (Err h) m' k
    spent_ends s = ran_ends {node = n.Spend i} (λ tables. spend) (λ at low. low) (λ tables ds b vs. refl) (λ tables. s.changes)

  module _ {t : Target} {i : ℕ} {m m' : Machine} {k : WorldState} where
    pub update_on : {o : AssignmentOperator} {a : Operand} {w : Value} → Updates o t a m (Ok w) m' → Moves is_logged plan (AtNode (n.Update o t a i)) m k (move.On i) m' k
    update_on {o = o} {a = a} u = ran_on (λ tables. update tables.names o t a) (λ at low. low) (λ tables ds b vs. refl) u.operands u.calls (λ tables. u.changes)

    pub update_ends : {o : AssignmentOperator} {a : Operand} {h : Halt} → Updates o t a m (Err h) m' → Ends is_logged plan (AtNode (n.Update o t a i)) m k (Err h) m' k
    update_ends {o = o} {a = a} u = ran_ends {node = n.Update o t a i} (λ tables. update tables.names o t a) (λ at low. low) (λ tables ds b vs. refl) (λ tables. u.changes)

    pub increment_on : {o : IncrementOperator} {w : Value} → Increments o t m (Ok w) m' → Moves is_logged plan (AtNode (n.Increment o t i)) m k (move.On i) m' k
    increment_on {o = o} u = ran_on (λ tables. increment tables.names o t) (λ at low. low) (λ tables ds b vs. refl) u.operands u.calls (λ tables. u.changes)

    pub increment_ends : {o : IncrementOperator} {h : Halt} → Increments o t m (Err h) m' → Ends is_logged plan (AtNode (n.Increment o t i)) m k (Err h) m' k
    increment_ends {o = o} u = ran_ends {node = n.Increment o t i} (λ tables. increment tables.names o t) (λ at low. low) (λ tables ds b vs. refl) (λ tables. u.changes)

  module _ {i : ℕ} {m m' : Machine} {k : WorldState} where
    pub append_operands_on : {t : Target} {list : Vec Operand} {w : Value} → SpendsAndAppends t list.items m (Ok w) m' → Moves is_logged plan (AtNode (n.AppendOperands t list i)) m k (move.On i) m' k
    append_operands_on {t = t} {list = list} u = ran_on (λ tables. append_by_step tables.names t list.items) (λ at low. low) (λ tables ds b vs. refl) u.operands u.calls (λ tables. u.changes)

    pub append_operands_ends : {t : Target} {list : Vec Operand} {h : Halt} → SpendsAndAppends t list.items m (Err h) m' → Ends is_logged plan (AtNode (n.AppendOperands t list i)) m k (Err h) m' k
    append_operands_ends {t = t} {list = list} u = ran_ends {node = n.AppendOperands t list i} (λ tables. append_by_step tables.names t list.items) (λ at low. low) (λ tables ds b vs. refl) (λ tables. u.changes)

  -- a node whose value is of no use

  module _ {x : ValueNode} {node : Node} {i : ℕ} (below : (at : ℕ) → AreBelow at node → i < at)
      (is : (tables : Tables) (ds : List Definition) (b : Bound) (vs : List Value) → begun tables ds plan (AtNode node) b vs ≡ (value_of tables (functions_within ds b.calls) x vs >>= λ _. cont tables ds plan b i (drop (popped x) vs))) where
    computed_on : {m m' : Machine} {k : WorldState} {w : Value} → Computes x m (Ok w) m' → Moves is_logged plan (AtNode node) m k (move.On i) m' k
    computed_on {m = m} {m' = m'} c = record {
      moves = record {
        less = below;
        calls = c.calls;
        leads = leads_on (λ tables functions. value_of tables functions x m.operands.values) (λ tables ds b _. cont tables ds plan b i (drop (popped x) m.operands.values)) (λ tables ds b. is tables ds b m.operands.values)
            (λ tables functions. change_simulates (c.changes tables functions))
            (λ tables ds b. ap (λ (s : OperandsView). cont tables ds plan b i s.values) (sym c.operands))
            (ap (λ es. seen_of m'.operands es) c.calls ∙ ap (λ (s : OperandsView). seen_of s m.runtime.frames.callers) c.operands);
      };
    }

    computed_ends : {m m' : Machine} {k : WorldState} {h : Halt} → Computes x m (Err h) m' → Ends is_logged plan (AtNode node) m k (Err h) m' k
    computed_ends {m = m} c = ends_on (λ tables functions. value_of tables functions x m.operands.values) (λ tables ds b _. cont tables ds plan b i (drop (popped x) m.operands.values)) (λ tables ds b. is tables ds b m.operands.values)
        (λ tables functions. change_simulates (c.changes tables functions))

  module _ {p : Place} {i : ℕ} {m m' : Machine} {k : WorldState} where
    pub assign_on : {o : AssignmentOperator} {w : Value} → Computes (v.Assign o p) m (Ok w) m' → Moves is_logged plan (AtNode (n.Assign o p i)) m k (move.On i) m' k
    assign_on {o = o} c = computed_on {node = n.Assign o p i} (λ at low. low) (λ tables ds b vs. refl) c

    pub assign_ends : {o : AssignmentOperator} {h : Halt} → Computes (v.Assign o p) m (Err h) m' → Ends is_logged plan (AtNode (n.Assign o p i)) m k (Err h) m' k
    assign_ends {o = o} c = computed_ends {node = n.Assign o p i} (λ at low. low) (λ tables ds b vs. refl) c

    pub raise_on : {o : IncrementOperator} {w : Value} → Computes (v.PostIncrement o p) m (Ok w) m' → Moves is_logged plan (AtNode (n.Raise o p i)) m k (move.On i) m' k
    raise_on {o = o} c = computed_on {node = n.Raise o p i} (λ at low. low) (λ tables ds b vs. refl) c

    pub raise_ends : {o : IncrementOperator} {h : Halt} → Computes (v.PostIncrement o p) m (Err h) m' → Ends is_logged plan (AtNode (n.Raise o p i)) m k (Err h) m' k
    raise_ends {o = o} c = computed_ends {node = n.Raise o p i} (λ at low. low) (λ tables ds b vs. refl) c

  -- texts that are appended

  module _ {x : Variable} {count i : ℕ} {m m' : Machine} {k : WorldState} where
    pub append_on : {w : Value} → Appends x count m (Ok w) m' → Moves is_logged plan (AtNode (n.AppendTo x count i)) m k (move.On i) m' k
    append_on c = record {
      moves = record {
        less = λ at low. low;
        calls = c.calls;
        leads = leads_on (λ tables functions. append_to tables.names x (taken count m.operands.values)) (λ tables ds b _. cont tables ds plan b i (drop count m.operands.values)) (λ tables ds b. refl)
            (λ tables functions. change_simulates c.changes)
            (λ tables ds b. ap (λ (s : OperandsView). cont tables ds plan b i s.values) (sym c.operands))
            (ap (λ es. seen_of m'.operands es) c.calls ∙ ap (λ (s : OperandsView). seen_of s m.runtime.frames.callers) c.operands);
      };
    }

    pub append_ends : {h : Halt} → Appends x count m (Err h) m' → Ends is_logged plan (AtNode (n.AppendTo x count i)) m k (Err h) m' k
    append_ends c = ends_on (λ tables functions. append_to tables.names x (taken count m.operands.values)) (λ tables ds b _. cont tables ds plan b i (drop count m.operands.values)) (λ tables ds b. refl) (λ tables functions. change_simulates c.changes)

  -- operands that are printed

  module _ {list : Vec Operand} {i : ℕ} {m m' : Machine} {k k' : WorldState} where
    pub print_on : SpendsAndPrints is_logged list.items m k (Ok tt) m' k' → Moves is_logged plan (AtNode (n.Print list i)) m k (move.On i) m' k'
    print_on c = record {
      moves = record {
        less = λ at low. low;
        calls = c.calls;
        leads = leads_on (λ tables functions. print_by_step tables.names list.items) (λ tables ds b _. cont tables ds plan b i m.operands.values) (λ tables ds b. refl)
            (λ tables functions. c.simulates)
            (λ tables ds b. ap (λ (s : OperandsView). cont tables ds plan b i s.values) (sym c.operands))
            (ap (λ es. seen_of m'.operands es) c.calls ∙ ap (λ (s : OperandsView). seen_of s m.runtime.frames.callers) c.operands);
      };
    }

    pub print_ends : {h : Halt} → SpendsAndPrints is_logged list.items m k (Err h) m' k' → Ends is_logged plan (AtNode (n.Print list i)) m k (Err h) m' k'
    print_ends c = ends_on (λ tables functions. print_by_step tables.names list.items) (λ tables ds b _. cont tables ds plan b i m.operands.values) (λ tables ds b. refl) (λ tables functions. c.simulates)
