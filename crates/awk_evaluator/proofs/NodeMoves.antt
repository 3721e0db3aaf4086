-- What the move of a node comes to, by what its part came to.
use Rattle.std.proofs.Common.{◌≡◌, ◌≢◌, ◌<◌, ℕ, length, sym, ap, arith, Bool, true, false, Option, Some, None, Result, Ok, Err, get_or, slice_get, refl, subst}
use Rattle.std.specs.Global.{Vec}
use Rattle.std.proofs.lemmas.Option.{slice_get_within}
use Rattle.awk_value.specs.declared.value.Value.{Value}
use Rattle.awk_value.specs.declared.value.Value.TheVariants as value
use Rattle.awk_lex.specs.declared.token.AssignmentOperator.{AssignmentOperator}
use Rattle.awk_lex.specs.declared.token.IncrementOperator.{IncrementOperator}
use Rattle.awk_grammar.specs.declared.tree.BinaryOperator.{BinaryOperator}
use Rattle.awk_streams.specs.WorldState.{WorldState}
use Rattle.awk_semantics.specs.declared.halt.Halt.{Halt}
use Rattle.awk_semantics.specs.State.{Run}
use Rattle.awk_storage.specs.declared.position.Array.{Array}
use Rattle.awk_storage.specs.declared.position.Variable.{Variable}
use Rattle.awk_storage.specs.declared.position.Place.{Place}
use Rattle.awk_resolve.specs.declared.node.Operand.{Operand}
use Rattle.awk_resolve.specs.declared.node.Node.{Node}
use Rattle.awk_resolve.specs.declared.node.Node.TheVariants as n
use Rattle.awk_resolve.specs.declared.node.Target.{Target}
use Rattle.awk_resolve.specs.declared.node.Tested.{Tested}
use Rattle.awk_resolve.specs.declared.node.ValueNode.{ValueNode}
use Rattle.awk_resolve.specs.declared.node.ValueNode.TheVariants as v
use Rattle.awk_resolve.specs.declared.node.EffectNode.{EffectNode}
use Rattle.awk_resolve.specs.declared.plan.Plan.{Plan}
use Rattle.awk_resolve.specs.Nodes.{first, keys_left}
use Rattle.awk_runtime.specs.Naming.{Naming}
use Rattle.awk_runtime.specs.Simulation.{IsReady, Spends}
use Rattle.awk_runtime.specs.declared.runtime.Runtime.{Runtime}
use Rattle.awk_runtime.proofs.Composition.{ready_same, ready_behind}
use Rattle.awk_evaluator.specs.declared.machine.Machine.{Machine}
use Rattle.awk_evaluator.specs.declared.machine.Move.{Move}
use Rattle.awk_evaluator.specs.declared.machine.Move.TheVariants as move
use Rattle.awk_evaluator.specs.Rest.{IsSound, PlanStands, tables_in, Start, AtPlace, AtNode}
use Rattle.awk_evaluator.specs.Moves.{RestOf, Leads, Ends, Upward, Finishes, Moves, Turns, Steps, Computes, Evaluates, Performs, GivesBack, PutsFoundBy, PutsFound, Done, came, told, onward, upward, toward}
use Rattle.awk_evaluator.specs.Reading.{Leaves, Runs, Compares, Asks, Updates, Increments, Appends, SpendsAndPrints}
use Rattle.awk_evaluator.specs.Appending.{SpendsAndAppends}
use Rattle.awk_evaluator.specs.Walks.{PutsKeys, TakesKey}
use Rattle.awk_evaluator.proofs.Moving.{by_place, past_end, halts, ready_computed, led_on, led_ends, value_on, value_memory, effect_on, effect_ends, again_on, again_stuck, key_on, key_stuck, walk_on, walk_ends, key_taken, key_ends}
use Rattle.awk_evaluator.proofs.Changing.{with_on, with_ends, compared_on, compared_ends, matched_on, matched_ends, asked_on, asked_ends, spent_on, spent_ends, assign_on, assign_ends, raise_on, raise_ends, append_on, append_ends, append_operands_on, append_operands_ends, print_on, print_ends, update_on, update_ends, increment_on, increment_ends}

module _ {is_logged : Type 0} {plan : Plan} {m m' : Machine} {k k' : WorldState} {i : ℕ} where
  -- a part that gives a value of no use
  behind : {from : Start} (done : Bool) {P : Result Value Halt → Type 0} → Done P (came done m') → ((w : Value) → P (Ok w) → Moves is_logged plan from m k (move.On i) m' k') → ((h : Halt) → P (Err h) → Ends is_logged plan from m k (Err h) m' k') → Moves is_logged plan from m k (onward done i) m' k'
  behind true d on ends = on d.done.0 d.done.1
  behind false d on ends = record { moves = ends m'.halt d.done }

  pub effect_moves : {x : EffectNode} (done : Bool) → Performs is_logged x m k (came done m') m' k' → Moves is_logged plan (AtNode (n.Effect x i)) m k (onward done i) m' k'
  effect_moves true e = effect_on e
  effect_moves false e = record { moves = effect_ends e }

  pub print_moves : {list : Vec Operand} (done : Bool) → SpendsAndPrints is_logged list.items m k (came done m') m' k' → Moves is_logged plan (AtNode (n.Print list i)) m k (onward done i) m' k'
  print_moves true e = print_on e
  print_moves false e = record { moves = print_ends e }

  -- a value that was found is put on the stack
  pub found_moves : {x : ValueNode} {m1 : Machine} {w : Value} {to : Move} → Evaluates is_logged x m k (Ok w) m1 k' → PutsFound w i m1 to m' → Moves is_logged plan (AtNode (n.Value x i)) m k to m' k'
  found_moves {x = x} {m1 = m1} {w = w} {to = to} e p = by to p.puts
    where
      by : (q : Move) → PutsFoundBy w i m1 q m' → Moves is_logged plan (AtNode (n.Value x i)) m k q m' k'
      by (move.On j) g = subst (λ (j : ℕ). Moves is_logged plan (AtNode (n.Value x i)) m k (move.On j) m' k') (sym g.0) (value_on e g.1 p.calls p.runtime)
      by (move.Up j) g = absurd g
      by (move.Back j) g = absurd g
      by move.Over g = absurd g
      by move.Halted g = halts {m1 = m'} (value_memory e p.runtime) refl g

module _ {is_logged : Type 0} {plan : Plan} {m m' : Machine} {k : WorldState} {i : ℕ} where
  pub update_moves : {o : AssignmentOperator} {t : Target} {a : Operand} (done : Bool) → Done (λ r. Updates o t a m r m') (came done m') → Moves is_logged plan (AtNode (n.Update o t a i)) m k (onward done i) m' k
  update_moves done d = behind done d (λ w u. update_on u) (λ h u. update_ends u)

  pub increment_moves : {o : IncrementOperator} {t : Target} (done : Bool) → Done (λ r. Increments o t m r m') (came done m') → Moves is_logged plan (AtNode (n.Increment o t i)) m k (onward done i) m' k
  increment_moves done d = behind done d (λ w u. increment_on u) (λ h u. increment_ends u)

  pub assign_moves : {o : AssignmentOperator} {p : Place} (done : Bool) → Done (λ r. Computes (v.Assign o p) m r m') (came done m') → Moves is_logged plan (AtNode (n.Assign o p i)) m k (onward done i) m' k
  assign_moves done d = behind done d (λ w u. assign_on u) (λ h u. assign_ends u)

  pub raise_moves : {o : IncrementOperator} {p : Place} (done : Bool) → Done (λ r. Computes (v.PostIncrement o p) m r m') (came done m') → Moves is_logged plan (AtNode (n.Raise o p i)) m k (onward done i) m' k
  raise_moves done d = behind done d (λ w u. raise_on u) (λ h u. raise_ends u)

  pub append_moves : {x : Variable} {count : ℕ} (done : Bool) → Done (λ r. Appends x count m r m') (came done m') → Moves is_logged plan (AtNode (n.AppendTo x count i)) m k (onward done i) m' k
  append_moves done d = behind done d (λ w u. append_on u) (λ h u. append_ends u)

  pub append_operands_moves : {t : Target} {list : Vec Operand} (done : Bool) → Done (λ r. SpendsAndAppends t list.items m r m') (came done m') → Moves is_logged plan (AtNode (n.AppendOperands t list i)) m k (onward done i) m' k
  append_operands_moves done d = behind done d (λ w u. append_operands_on u) (λ h u. append_operands_ends u)

  pub walk_moves : {a : Array} (done : Bool) → PutsKeys a m (came done m') m' → Moves is_logged plan (AtNode (n.Walk a i)) m k (onward done i) m' k
  walk_moves true p = walk_on p
  walk_moves false p = record { moves = walk_ends p }

  pub key_moves : {x : Variable} (done : Bool) → TakesKey x m (came done m') m' → Moves is_logged plan (AtNode (n.TakeKey x i)) m k (onward done i) m' k
  key_moves true p = key_taken p
  key_moves false p = record { moves = key_ends p }

  pub spend_moves : (spent : Bool) → m'.operands ≡ m.operands → Spends m.runtime m'.runtime (came spent m') → Moves is_logged plan (AtNode (n.Spend i)) m k (onward spent i) m' k
  spend_moves true operands s = spent_on operands s
  spend_moves false operands s = record { moves = spent_ends s }

  -- turns

  pub again_moves : {j : ℕ} (spent : Bool) → i ≡ get_or plan.heads.items j 0 → m'.operands ≡ m.operands → m'.runtime.frames.callers ≡ m.runtime.frames.callers → Spends m.runtime m'.runtime (came spent m') → Moves is_logged plan (AtNode (n.Again j)) m k (upward spent i) m' k
  again_moves true at operands calls s = again_on at operands calls s
  again_moves false at operands calls s = record { moves = again_stuck s }

  pub turn_moves : {j exit : ℕ} (spent : Bool) → keys_left (first m.operands.values) ≢ 0 → i ≡ get_or plan.heads.items j 0 → m'.operands ≡ m.operands → m'.runtime.frames.callers ≡ m.runtime.frames.callers → Spends m.runtime m'.runtime (came spent m') → Moves is_logged plan (AtNode (n.NextKey j exit)) m k (upward spent i) m' k
  turn_moves true h at operands calls s = key_on h at operands calls s
  turn_moves false h at operands calls s = record { moves = key_stuck h s }

-- tests

module _ {is_logged : Type 0} {plan : Plan} {m m' : Machine} {k : WorldState} {here other : ℕ} {o : BinaryOperator} {right : Operand} where
  pub compare_moves : {left : Operand} (holds : Option Bool) → Compares (v.OperateOn o left right) m (told holds m') m' → Moves is_logged plan (AtNode (n.Compare o left right here other)) m k (toward holds here other) m' k
  compare_moves (Some t) c = compared_on refl c.compares.1 c.compares.2
  compare_moves None c = record { moves = compared_ends c.compares }

  pub compare_with_moves : (holds : Option Bool) → Compares (v.OperateWith o right) m (told holds m') m' → Moves is_logged plan (AtNode (n.CompareWith o right here other)) m k (toward holds here other) m' k
  compare_with_moves (Some t) c = with_on refl c.compares.1 c.compares.2
  compare_with_moves None c = record { moves = with_ends c.compares }

pub match_moves : {is_logged : Type 0} {plan : Plan} {m m' : Machine} {k : WorldState} {a : Operand} {ere here other : ℕ} (holds : Option Bool) → Compares (v.Matches a ere) m (told holds m') m' → Moves is_logged plan (AtNode (n.Match a ere here other)) m k (toward holds here other) m' k
match_moves (Some t) c = matched_on refl c.compares.1 c.compares.2
match_moves None c = record { moves = matched_ends c.compares }

pub ask_moves : {is_logged : Type 0} {plan : Plan} {m m' : Machine} {k : WorldState} {x : Tested} {here other : ℕ} (holds : Option Bool) → Asks x m (told holds m') m' → Moves is_logged plan (AtNode (n.Test x here other)) m k (toward holds here other) m' k
ask_moves (Some t) c = asked_on c
ask_moves None c = record { moves = asked_ends c }

-- what is ready stays so

module _ {is_logged : Type 0} {m m' : Machine} {k : WorldState} where
  pub ready_done : {x : ValueNode} (done : Bool) → Done (λ r. Computes x m r m') (came done m') → IsReady is_logged k m.runtime.streams → IsReady is_logged k m'.runtime.streams
  ready_done true d ready = ready_computed d.done.1 ready
  ready_done false d ready = ready_computed d.done ready

  pub ready_run : {run : Run Value} (done : Bool) → Done (λ r. Runs run m r m') (came done m') → IsReady is_logged k m.runtime.streams → IsReady is_logged k m'.runtime.streams
  ready_run true d ready = ready_behind d.done.1.changes ready
  ready_run false d ready = ready_behind d.done.changes ready

  pub ready_appended : {x : Variable} {count : ℕ} (done : Bool) → Done (λ r. Appends x count m r m') (came done m') → IsReady is_logged k m.runtime.streams → IsReady is_logged k m'.runtime.streams
  ready_appended true d ready = ready_behind d.done.1.changes ready
  ready_appended false d ready = ready_behind d.done.changes ready

  pub ready_left : {run : Run Value} (done : Bool) → Done (λ r. Leaves run m r m') (came done m') → IsReady is_logged k m.runtime.streams → IsReady is_logged k m'.runtime.streams
  ready_left true d ready = ready_behind d.done.1.changes ready
  ready_left false d ready = ready_behind d.done.changes ready

  pub ready_put : {a : Array} (done : Bool) → PutsKeys a m (came done m') m' → IsReady is_logged k m.runtime.streams → IsReady is_logged k m'.runtime.streams
  ready_put true p ready = ready_behind p.puts.1 ready
  ready_put false p ready = ready_behind p.puts ready

  pub ready_given : {w : Value} (to : Move) → GivesBack w m to m' → IsReady is_logged k m.runtime.streams → IsReady is_logged k m'.runtime.streams
  ready_given (move.On i) g ready = absurd g.gives
  ready_given (move.Up i) g ready = absurd g.gives
  ready_given (move.Back i) g ready = ready_same g.gives.3.streams ready
  ready_given move.Over g ready = ready_same (ap (λ (x : Runtime). x.streams) g.gives.3) ready
  ready_given move.Halted g ready = ready_same g.gives.3.streams ready

-- a move that ends a row of moves

module _ {is_logged : Type 0} {plan : Plan} {from : Start} {at : ℕ} {m m1 m' : Machine} {k k1 k' : WorldState} (before : Leads is_logged plan from m k at m1 k1) where
  on_up : {i : ℕ} → m'.runtime.steps < m1.runtime.steps → Leads is_logged plan (AtPlace at) m1 k1 i m' k' → Upward is_logged plan from m k i m' k'
  on_up less leads = record { leads = led_on before leads; less = omega (arith, less, before.steps) }

  over : Finishes is_logged plan (AtPlace at) m1 k1 m' k' → Finishes is_logged plan from m k m' k'
  over f = record {
    calls = f.calls;
    ends = λ tables ds stands. before.leads tables ds stands m'.runtime k' (Ok (first m'.operands.values))
        (subst (λ (names : Naming). PlanStands (tables_in names tables) ds plan → RestOf (tables_in names tables) ds plan is_logged (AtPlace at) m1 k1 m'.runtime k' (Ok (first m'.operands.values))) before.names (λ st. f.ends tables ds st) stands);
  }

  pub turned : (to : Move) → ((i : ℕ) → to ≢ move.On i) → m1.runtime.frames.callers ≡ m.runtime.frames.callers → Moves is_logged plan (AtPlace at) m1 k1 to m' k' → Turns is_logged plan from m k to m' k'
  turned (move.On i) other calls x = absurd (other i refl)
  turned (move.Up i) other calls x = record { turns = on_up x.moves.less x.moves.leads }
  turned (move.Back i) other calls x = record { turns = record { leads = led_on before x.moves.leads; less = (let e = ap length calls in let f = x.moves.less in omega (arith, e, f)) } }
  turned move.Over other calls x = record { turns = over x.moves }
  turned move.Halted other calls x = record { turns = led_ends before x.moves }

  pub stepped : (to : Move) → ((i : ℕ) → to ≢ move.Back i) → Turns is_logged plan (AtPlace at) m1 k1 to m' k' → Steps is_logged plan from m k to m' k'
  stepped (move.On i) other x = absurd x.turns
  stepped (move.Up i) other x = record { steps = on_up x.turns.less x.turns.leads }
  stepped (move.Back i) other x = absurd (other i refl)
  stepped move.Over other x = record { steps = over x.turns }
  stepped move.Halted other x = record { steps = led_ends before x.turns }

-- from node to node

no_move : {w : Value} {m m' : Machine} (to : Move) → GivesBack w m to m' → (i : ℕ) → to ≢ move.On i
no_move (move.On j) g i e = absurd g.gives
no_move (move.Up j) g i e = cc
no_move (move.Back j) g i e = cc
no_move move.Over g i e = cc
no_move move.Halted g i e = cc

pub led_here : {is_logged : Type 0} {plan : Plan} {at : ℕ} {m : Machine} {k : WorldState} → Leads is_logged plan (AtPlace at) m k at m k
led_here = record { names = refl; steps = omega arith; leads = λ tables ds stands new after r d. d }

module _ {is_logged : Type 0} {plan : Plan} {from : Start} {at : ℕ} {m m1 : Machine} {k k1 : WorldState} (before : Leads is_logged plan from m k at m1 k1) where
  -- where a node is next
  module _ {node : Node} (sound : IsSound plan) (is : Some node ≡ slice_get plan.nodes.items at) where
    placed : {to : Move} {m' : Machine} {k' : WorldState} → Moves is_logged plan (AtNode node) m1 k1 to m' k' → Moves is_logged plan (AtPlace at) m1 k1 to m' k'
    placed x = by_place sound (sym is) x

    pub node_turned : {m' : Machine} {k' : WorldState} (to : Move) → ((i : ℕ) → to ≢ move.On i) → m1.runtime.frames.callers ≡ m.runtime.frames.callers → Moves is_logged plan (AtNode node) m1 k1 to m' k' → Turns is_logged plan from m k to m' k'
    node_turned to other calls x = turned before to other calls (placed x)

    pub node_led : {i : ℕ} {m' : Machine} {k' : WorldState} → Moves is_logged plan (AtNode node) m1 k1 (move.On i) m' k' → Leads is_logged plan from m k i m' k'
    node_led x = led_on before (placed x).moves.leads

    pub node_before : {i : ℕ} {m' : Machine} {k' : WorldState} → Moves is_logged plan (AtNode node) m1 k1 (move.On i) m' k' → i < at
    node_before x = (placed x).moves.less

    -- which is a place of the plan too
    pub node_below : {i : ℕ} {m' : Machine} {k' : WorldState} → Moves is_logged plan (AtNode node) m1 k1 (move.On i) m' k' → i < length plan.nodes.items
    node_below x = let less = node_before x in let low = slice_get_within plan.nodes.items at node (sym is) in omega (arith, less, low)

  -- where none is
  pub end_turned : {m' : Machine} (to : Move) → m1.runtime.frames.callers ≡ m.runtime.frames.callers → None ≡ slice_get plan.nodes.items at → GivesBack value.Nothing m1 to m' → Turns is_logged plan from m k to m' k1
  end_turned to calls none g = turned before to (no_move to g) calls (past_end none g)
