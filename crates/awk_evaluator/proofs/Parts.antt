-- Parts of moves whose value is of no use, and which may halt the machine.
use Rattle.std.specs.Prelude.{OnOk}
use Rattle.awk_semantics.specs.Primitives.{spend}
use Rattle.std.proofs.Common.{◌≡◌, ℕ, ℤ, Bool, None, List, drop, Result, Ok, Err, refl, sym, ap, ◌∙◌, subst}
use Rattle.awk_value.specs.declared.value.Value.{Value}
use Rattle.awk_value.specs.declared.value.Value.TheVariants as value
use Rattle.awk_lex.specs.declared.token.AssignmentOperator.{AssignmentOperator}
use Rattle.awk_lex.specs.declared.token.AssignmentOperator.TheVariants as assignment
use Rattle.awk_lex.specs.declared.token.IncrementOperator.{IncrementOperator}
use Rattle.awk_grammar.specs.declared.tree.BinaryOperator.{BinaryOperator}
use Rattle.awk_streams.specs.WorldState.{WorldState}
use Rattle.awk_semantics.specs.declared.halt.Halt.{Halt}
use Rattle.awk_semantics.specs.Operators.{operator_of, truth_value}
use Rattle.awk_semantics.specs.State.{Run, ◌>>=◌}
use Rattle.awk_semantics.specs.Semantics.{Functions}
use Rattle.awk_storage.specs.declared.position.Array.{Array}
use Rattle.awk_storage.specs.declared.position.Variable.{Variable}
use Rattle.awk_storage.specs.declared.position.Place.TheVariants as place
use Rattle.awk_storage.specs.Positions.{put_variable, assign_by_at, post_increment_at}
use Rattle.awk_storage.specs.Forms.{keys_of_array}
use Rattle.awk_resolve.specs.declared.node.Operand.{Operand}
use Rattle.awk_resolve.specs.declared.node.Target.{Target}
use Rattle.awk_resolve.specs.declared.node.Target.TheVariants as target
use Rattle.awk_resolve.specs.declared.node.ValueNode.{ValueNode}
use Rattle.awk_resolve.specs.declared.node.ValueNode.TheVariants as v
use Rattle.awk_resolve.specs.declared.node.EffectNode.{EffectNode}
use Rattle.awk_resolve.specs.declared.node.EffectNode.TheVariants as e
use Rattle.awk_resolve.specs.declared.node.Exchange.{Exchange}
use Rattle.awk_resolve.specs.Nodes.{Tables, popped, first, second, taken, value_of, effect_of, operated_with, assign_variable, assign_target, raise_target, append_to, print_operands, print_by_step}
use Rattle.awk_runtime.specs.declared.runtime.Runtime.{Runtime}
use Rattle.awk_runtime.specs.Naming.{Naming}
use Rattle.awk_runtime.specs.Simulation.{Simulates, Changes, Spends}
use Rattle.awk_runtime.proofs.Composition.{then_changes, ends_changes, lift_changes, change_simulates, then_simulates, ends_simulates}
use Rattle.awk_runtime.specs.support.Updates.{GivesNumber, Gives}
use Rattle.awk_evaluator.specs.declared.machine.Machine.{Machine}
use Rattle.awk_evaluator.specs.Rest.{tables_in}
use Rattle.awk_evaluator.specs.Moves.{Computes, Performs, Acts, Keeps, DoneBy, Done, without_value, truth_in}
use Rattle.awk_evaluator.specs.Reading.{Runs, Leaves, AssignsOperand, AssignsTarget, Raises, ComparesBy, Compares, Updates, Increments, Appends, PrintsOperands, SpendsAndPrints}
use Rattle.awk_evaluator.specs.Walks.{PutsKeysBy, PutsKeys, TakesKey}
use Rattle.awk_evaluator.specs.Quick.{IsAtHand, Popped, Relates, RelatesWith, AssignsAlike}
use Rattle.awk_evaluator.proofs.Changing.{variable_alike}
use Rattle.awk_evaluator.proofs.Quickly.{truth_is}

-- a part whose value is let go

done_by : (P : Result Value Halt → Type 0) (r : Result Value Halt) → P r → DoneBy P (without_value r)
done_by P (Ok w) p = (w, p)
done_by P (Err h) p = p

pub part_done : {P : Result Value Halt → Type 0} (r : Result Value Halt) {s : Result (Unit {0}) Halt} → s ≡ without_value r → P r → Done P s
part_done {P = P} r is p = subst (λ (q : Result (Unit {0}) Halt). Done P q) (sym is) (record { done = done_by P r p })

truth_by : {x : ValueNode} {m m' : Machine} (r : Result Value Halt) → Computes x m r m' → ComparesBy x m (truth_in r) m'
truth_by (Ok w) c = (w, refl, c)
truth_by (Err h) c = c

pub part_told : {x : ValueNode} {m m' : Machine} {r : Result Value Halt} {s : Result Bool Halt} → s ≡ truth_in r → Computes x m r m' → Compares x m s m'
part_told {x = x} {m = m} {m' = m'} {r = r} is c = subst (λ (q : Result Bool Halt). Compares x m q m') (sym is) (record { compares = truth_by r c })

-- a step, where the machine keeps why it was halted
pub spent_kept : {m m' : Machine} → Keeps m m' → {n : Runtime} {r s : Result (Unit {0}) Halt} → s ≡ without_value r → Spends n m.runtime r → Spends n m'.runtime s
spent_kept {m = m} {m' = m'} kept {n = n} {r = r} is p = subst (λ (q : Result (Unit {0}) Halt). Spends n m'.runtime q) (sym is) (subst (λ (y : Runtime). Spends n y (without_value r)) (sym kept.runtime) (by r p))
  where
    by : (q : Result (Unit {0}) Halt) → Spends n m.runtime q → Spends n m.runtime (without_value q)
    by (Ok u) p = p
    by (Err h) p = p

-- where the machine keeps why it was halted

module _ {m m1 m' : Machine} (kept : Keeps m1 m') where
  pub runs_kept : {run : Run Value} {r : Result Value Halt} → Runs run m r m1 → Runs run m r m'
  runs_kept {run = run} {r = r} u = record {
    operands = kept.operands ∙ u.operands;
    calls = kept.calls ∙ u.calls;
    changes = subst (λ (x : Runtime). Changes run m.runtime x r) (sym kept.runtime) u.changes;
  }

  pub computes_kept : {x : ValueNode} {r : Result Value Halt} → Computes x m r m1 → Computes x m r m'
  computes_kept {x = x} {r = r} u = by r u
    where
      by : (q : Result Value Halt) → Computes x m q m1 → Computes x m q m'
      by (Ok w) u = record { operands = kept.operands ∙ u.operands; calls = kept.calls ∙ u.calls; changes = λ tables functions. subst (λ (y : Runtime). Changes (value_of (tables_in m.runtime.names tables) functions x m.operands.values) m.runtime y (Ok w)) (sym kept.runtime) (u.changes tables functions) }
      by (Err h) u = record { operands = tt; calls = tt; changes = λ tables functions. subst (λ (y : Runtime). Changes (value_of (tables_in m.runtime.names tables) functions x m.operands.values) m.runtime y (Err h)) (sym kept.runtime) (u.changes tables functions) }

  performs_by : {is_logged : Type 0} {x : EffectNode} {k k' : WorldState} (r : Result (Unit {0}) Halt) → Performs is_logged x m k r m1 k' → Performs is_logged x m k (without_value r) m' k'
  performs_by {is_logged = is_logged} {x = x} {k = k} {k' = k'} (Ok u) p = record { operands = kept.operands ∙ p.operands; calls = kept.calls ∙ p.calls; simulates = λ tables functions. subst (λ (y : Runtime). Simulates is_logged m.runtime k y k' (Ok tt) (effect_of (tables_in m.runtime.names tables) functions x m.operands.values)) (sym kept.runtime) (p.simulates tables functions) }
  performs_by {is_logged = is_logged} {x = x} {k = k} {k' = k'} (Err h) p = record { operands = tt; calls = tt; simulates = λ tables functions. subst (λ (y : Runtime). Simulates is_logged m.runtime k y k' (Err h) (effect_of (tables_in m.runtime.names tables) functions x m.operands.values)) (sym kept.runtime) (p.simulates tables functions) }

  pub performs_kept : {is_logged : Type 0} {x : EffectNode} {k k' : WorldState} {r s : Result (Unit {0}) Halt} → s ≡ without_value r → Performs is_logged x m k r m1 k' → Performs is_logged x m k s m' k'
  performs_kept {is_logged = is_logged} {x = x} {k = k} {k' = k'} {r = r} is p = subst (λ (q : Result (Unit {0}) Halt). Performs is_logged x m k q m' k') (sym is) (performs_by r p)

  pub puts_kept : {a : Array} {r s : Result (Unit {0}) Halt} → s ≡ without_value r → PutsKeys a m r m1 → PutsKeys a m s m'
  puts_kept {a = a} {r = r} is p = subst (λ (q : Result (Unit {0}) Halt). PutsKeys a m q m') (sym is) (record { puts = by r p.puts })
    where
      by : (q : Result (Unit {0}) Halt) → PutsKeysBy a m q m1 → PutsKeysBy a m (without_value q) m'
      by (Ok u) p = (p.0, subst (λ (y : Runtime). Changes (keys_of_array a) m.runtime y (Ok p.0)) (sym kept.runtime) p.1, kept.operands ∙ p.2)
      by (Err h) p = subst (λ (y : Runtime). Changes (keys_of_array a) m.runtime y (Err h)) (sym kept.runtime) p

  takes_by : {x : Variable} (r : Result (Unit {0}) Halt) → TakesKey x m r m1 → TakesKey x m (without_value r) m'
  takes_by {x = x} (Ok u) p = record { changes = subst (λ (y : Runtime). Changes (put_variable m.runtime.names.scalars x (second m.operands.values)) m.runtime y (Ok tt)) (sym kept.runtime) p.changes; operands = kept.operands ∙ p.operands; calls = kept.calls ∙ p.calls }
  takes_by {x = x} (Err h) p = record { changes = subst (λ (y : Runtime). Changes (put_variable m.runtime.names.scalars x (second m.operands.values)) m.runtime y (Err h)) (sym kept.runtime) p.changes; operands = tt; calls = tt }

  pub takes_kept : {x : Variable} {r s : Result (Unit {0}) Halt} → s ≡ without_value r → TakesKey x m r m1 → TakesKey x m s m'
  takes_kept {x = x} {r = r} is p = subst (λ (q : Result (Unit {0}) Halt). TakesKey x m q m') (sym is) (takes_by r p)

  appends_by : {x : Variable} {count : ℕ} (r : Result Value Halt) → Appends x count m r m1 → Appends x count m r m'
  appends_by {x = x} {count = count} (Ok w) p = record { operands = kept.operands ∙ p.operands; calls = kept.calls ∙ p.calls; changes = subst (λ (y : Runtime). Changes (append_to m.runtime.names.scalars x (taken count m.operands.values)) m.runtime y (Ok w)) (sym kept.runtime) p.changes }
  appends_by {x = x} {count = count} (Err h) p = record { operands = tt; calls = tt; changes = subst (λ (y : Runtime). Changes (append_to m.runtime.names.scalars x (taken count m.operands.values)) m.runtime y (Err h)) (sym kept.runtime) p.changes }

  pub appends_kept : {x : Variable} {count : ℕ} {r : Result Value Halt} → Appends x count m r m1 → Appends x count m r m'
  appends_kept {r = r} p = appends_by r p

  prints_by : {is_logged : Type 0} {list : List Operand} {k k' : WorldState} (r : Result (Unit {0}) Halt) → PrintsOperands is_logged list m k r m1 k' → PrintsOperands is_logged list m k (without_value r) m' k'
  prints_by {is_logged = is_logged} {list = list} {k = k} {k' = k'} (Ok u) p = record { operands = kept.operands ∙ p.operands; calls = kept.calls ∙ p.calls; simulates = subst (λ (y : Runtime). Simulates is_logged m.runtime k y k' (Ok tt) (print_operands m.runtime.names.scalars list)) (sym kept.runtime) p.simulates }
  prints_by {is_logged = is_logged} {list = list} {k = k} {k' = k'} (Err h) p = record { operands = tt; calls = tt; simulates = subst (λ (y : Runtime). Simulates is_logged m.runtime k y k' (Err h) (print_operands m.runtime.names.scalars list)) (sym kept.runtime) p.simulates }

  pub prints_kept : {is_logged : Type 0} {list : List Operand} {k k' : WorldState} {r s : Result (Unit {0}) Halt} → s ≡ without_value r → PrintsOperands is_logged list m k r m1 k' → PrintsOperands is_logged list m k s m' k'
  prints_kept {is_logged = is_logged} {list = list} {k = k} {k' = k'} {r = r} is p = subst (λ (q : Result (Unit {0}) Halt). PrintsOperands is_logged list m k q m' k') (sym is) (prints_by r p)

  -- a part whose value is let go already
  pub done_kept : {run : Run Value} (r : Result (Unit {0}) Halt) {s : Result (Unit {0}) Halt} → s ≡ without_value r → Done (λ q. Runs run m q m1) r → Done (λ q. Runs run m q m') s
  done_kept {run = run} r is d = subst (λ (s : Result (Unit {0}) Halt). Done (λ q. Runs run m q m') s) (sym is) (by r d)
    where
      by : (q : Result (Unit {0}) Halt) → Done (λ q. Runs run m q m1) q → Done (λ q. Runs run m q m') (without_value q)
      by (Ok u) d = record { done = (d.done.0, runs_kept d.done.1) }
      by (Err h) d = record { done = runs_kept d.done }

-- tests of what is at hand

pub related_compares : {o : BinaryOperator} {a b : Operand} {holds : Bool} {m : Machine} → Relates o a b holds m → Compares (v.OperateOn o a b) m (Ok holds) m
related_compares {holds = holds} r = record { compares = (truth_value holds, truth_is holds, record { operands = refl; calls = refl; changes = λ tables functions. r.changes }) }

pub related_with_compares : {o : BinaryOperator} {b : Operand} {holds : Bool} {m m' : Machine} → RelatesWith o b holds m → Popped m m' → Compares (v.OperateWith o b) m (Ok holds) m'
related_with_compares {o = o} {b = b} {holds = holds} {m = m} {m' = m'} r p = record {
  compares = (
    truth_value holds,
    truth_is holds,
    record {
      operands = p.operands;
      calls = p.calls;
      changes = λ tables functions. subst (λ (y : Runtime). Changes (operated_with m.runtime.names.scalars o (first m.operands.values) b) m.runtime y (Ok (truth_value holds))) (sym p.runtime) r.changes;
    },
  );
}

-- assignments

-- a number is assigned in the place of the topmost value
pub number_assigned : (n : ℤ) {o : AssignmentOperator} {x : Variable} {m m' : Machine} → AssignsAlike o (first m.operands.values) (value.Number n) → GivesNumber (assign_variable m.runtime.names.scalars o x (value.Number n)) m.runtime m'.runtime → m'.operands ≡ record m.operands { values = drop 1 m.operands.values } → m'.runtime.frames.callers ≡ m.runtime.frames.callers → Done (λ r. Computes (v.Assign o (place.Variable x)) m r m') (Ok tt)
number_assigned n {o = o} {x = x} {m = m} {m' = m'} alike g operands calls = record {
  done = (
    value.Number g.number,
    record {
      operands = operands;
      calls = calls;
      changes = λ tables functions. subst (λ (run : Run Value). Changes run m.runtime m'.runtime (Ok (value.Number g.number)))
          (sym (alike m.runtime.names.scalars (place.Variable x) value.Nothing) ∙ variable_alike m.runtime.names.scalars (operator_of o) x value.Nothing (second m.operands.values) (first m.operands.values)) g.changes;
    },
  );
}

-- itself
pub alike_itself : (o : AssignmentOperator) {v w : Value} → v ≡ w → AssignsAlike o v w
alike_itself o e = λ names p operand. ap (λ u. assign_by_at names (operator_of o) p operand u) e

-- a value is assigned to an element in the place of the topmost one
pub element_assigned : (w : Value) {o : AssignmentOperator} {a : Array} {m m' : Machine} → AssignsAlike o (first m.operands.values) w → Gives (assign_by_at m.runtime.names.scalars (operator_of o) (place.Element a) (second m.operands.values) w) m.runtime (Ok tt) m'.runtime → m'.operands ≡ record m.operands { values = drop 2 m.operands.values } → m'.runtime.frames.callers ≡ m.runtime.frames.callers → Done (λ r. Computes (v.Assign o (place.Element a)) m r m') (Ok tt)
element_assigned w {a = a} {m = m} {m' = m'} alike g operands calls = record {
  done = (
    g.gives.0,
    record {
      operands = operands;
      calls = calls;
      changes = λ tables functions. subst (λ (run : Run Value). Changes run m.runtime m'.runtime (Ok g.gives.0)) (sym (alike m.runtime.names.scalars (place.Element a) (second m.operands.values))) g.gives.1;
    },
  );
}

-- an element's number is raised
pub element_raised : {o : IncrementOperator} {a : Array} {m m' : Machine} {w : Value} → Changes (post_increment_at m.runtime.names.scalars o (place.Element a) (first m.operands.values)) m.runtime m'.runtime (Ok w) → m'.operands ≡ record m.operands { values = drop 1 m.operands.values } → m'.runtime.frames.callers ≡ m.runtime.frames.callers → Done (λ r. Computes (v.PostIncrement o (place.Element a)) m r m') (Ok tt)
element_raised {w = w} h operands calls = record { done = (w, record { operands = operands; calls = calls; changes = λ tables functions. h }) }

-- what became of a place that is given the topmost value
given_by : (x : ValueNode) {run : Run Value} {m mid m' : Machine} (r : Result (Unit {0}) Halt) → Keeps mid m' → mid.operands ≡ record m.operands { values = drop (popped x) m.operands.values } → mid.runtime.frames.callers ≡ m.runtime.frames.callers → ((tables : Tables) (functions : Functions) (q : Result Value Halt) → Changes run m.runtime mid.runtime q → Changes (value_of (tables_in m.runtime.names tables) functions x m.operands.values) m.runtime mid.runtime q) → Gives run m.runtime r mid.runtime → Done (λ q. Computes x m q m') (without_value r)
given_by x {m = m} {mid = mid} {m' = m'} (Ok u) kept operands calls means g = record {
  done = (
    g.gives.0,
    computes_kept {m = m} {m1 = mid} {m' = m'} kept {x = x} {r = Ok g.gives.0} (record { operands = operands; calls = calls; changes = λ tables functions. means tables functions (Ok g.gives.0) g.gives.1 }),
  );
}
given_by x {m = m} {mid = mid} {m' = m'} (Err h) kept operands calls means g = record {
  done = computes_kept {m = m} {m1 = mid} {m' = m'} kept {x = x} {r = Err h} (record { operands = tt; calls = tt; changes = λ tables functions. means tables functions (Err h) g.gives });
}

pub element_given : {a : Array} {m mid m' : Machine} (r : Result (Unit {0}) Halt) {s : Result (Unit {0}) Halt} → s ≡ without_value r → Keeps mid m' → Gives (assign_by_at m.runtime.names.scalars None (place.Element a) (second m.operands.values) (first m.operands.values)) m.runtime r mid.runtime → mid.operands ≡ record m.operands { values = drop 2 m.operands.values } → mid.runtime.frames.callers ≡ m.runtime.frames.callers → Done (λ q. Computes (v.Assign assignment.Plain (place.Element a)) m q m') s
element_given {a = a} {m = m} {mid = mid} {m' = m'} r is kept g operands calls = subst (λ (s : Result (Unit {0}) Halt). Done (λ q. Computes (v.Assign assignment.Plain (place.Element a)) m q m') s) (sym is) (given_by (v.Assign assignment.Plain (place.Element a)) {m = m} {mid = mid} {m' = m'} r kept operands calls (λ tables functions q c. c) g)

pub field_given : {m mid m' : Machine} (r : Result (Unit {0}) Halt) {s : Result (Unit {0}) Halt} → s ≡ without_value r → Keeps mid m' → Gives (assign_by_at m.runtime.names.scalars None place.Field (second m.operands.values) (first m.operands.values)) m.runtime r mid.runtime → mid.operands ≡ record m.operands { values = drop 2 m.operands.values } → mid.runtime.frames.callers ≡ m.runtime.frames.callers → Done (λ q. Computes (v.Assign assignment.Plain place.Field) m q m') s
field_given {m = m} {mid = mid} {m' = m'} r is kept g operands calls = subst (λ (s : Result (Unit {0}) Halt). Done (λ q. Computes (v.Assign assignment.Plain place.Field) m q m') s) (sym is) (given_by (v.Assign assignment.Plain place.Field) {m = m} {mid = mid} {m' = m'} r kept operands calls (λ tables functions q c. c) g)

-- the same of a variable

variable_by : {x : Variable} {m mid m' : Machine} (r : Result (Unit {0}) Halt) → Keeps mid m' → Gives (assign_by_at m.runtime.names.scalars None (place.Variable x) value.Nothing (first m.operands.values)) m.runtime r mid.runtime → mid.operands ≡ record m.operands { values = drop 1 m.operands.values } → mid.runtime.frames.callers ≡ m.runtime.frames.callers → Done (λ q. Computes (v.Assign assignment.Plain (place.Variable x)) m q m') (without_value r)
variable_by {x = x} {m = m} {mid = mid} {m' = m'} (Ok u) kept g operands calls = record {
  done = (
    g.gives.0,
    computes_kept {m = m} {m1 = mid} {m' = m'} kept {x = v.Assign assignment.Plain (place.Variable x)} {r = Ok g.gives.0} (record {
      operands = operands;
      calls = calls;
      changes = λ tables functions. subst (λ (run : Run Value). Changes run m.runtime mid.runtime (Ok g.gives.0)) (variable_alike m.runtime.names.scalars None x value.Nothing (second m.operands.values) (first m.operands.values)) g.gives.1;
    }),
  );
}
variable_by {x = x} {m = m} {mid = mid} {m' = m'} (Err h) kept g operands calls = record {
  done = computes_kept {m = m} {m1 = mid} {m' = m'} kept {x = v.Assign assignment.Plain (place.Variable x)} {r = Err h} (record {
    operands = tt;
    calls = tt;
    changes = λ tables functions. subst (λ (run : Run Value). Changes run m.runtime mid.runtime (Err h)) (variable_alike m.runtime.names.scalars None x value.Nothing (second m.operands.values) (first m.operands.values)) g.gives;
  });
}

pub variable_given : {x : Variable} {m mid m' : Machine} (r : Result (Unit {0}) Halt) {s : Result (Unit {0}) Halt} → s ≡ without_value r → Keeps mid m' → Gives (assign_by_at m.runtime.names.scalars None (place.Variable x) value.Nothing (first m.operands.values)) m.runtime r mid.runtime → mid.operands ≡ record m.operands { values = drop 1 m.operands.values } → mid.runtime.frames.callers ≡ m.runtime.frames.callers → Done (λ q. Computes (v.Assign assignment.Plain (place.Variable x)) m q m') s
variable_given {x = x} {m = m} {mid = mid} {m' = m'} r is kept g operands calls = subst (λ (s : Result (Unit {0}) Halt). Done (λ q. Computes (v.Assign assignment.Plain (place.Variable x)) m q m') s) (sym is) (variable_by {x = x} {m = m} {mid = mid} {m' = m'} r kept g operands calls)

-- a value at hand is assigned, by a number that is as good
pub alike_read : (o : AssignmentOperator) (x : Variable) {a : Operand} {w : Value} (n : ℤ) {m m' : Machine} → IsAtHand a w m → AssignsAlike o w (value.Number n) → GivesNumber (assign_variable m.runtime.names.scalars o x (value.Number n)) m.runtime m'.runtime → m'.operands ≡ m.operands → m'.runtime.frames.callers ≡ m.runtime.frames.callers → Done (λ r. AssignsOperand o x a m r m') (Ok tt)
alike_read o x n {m = m} {m' = m'} at alike g operands calls = record {
  done = (
    value.Number g.number,
    record {
      operands = operands;
      calls = calls;
      changes = then_changes _ at.changes (subst (λ (run : Run Value). Changes run m.runtime m'.runtime (Ok (value.Number g.number))) (sym (alike m.runtime.names.scalars (place.Variable x) value.Nothing)) g.changes);
    },
  );
}

-- a number at hand is assigned
pub number_read : (o : AssignmentOperator) (x : Variable) {a : Operand} {n : ℤ} {m m' : Machine} → IsAtHand a (value.Number n) m → GivesNumber (assign_variable m.runtime.names.scalars o x (value.Number n)) m.runtime m'.runtime → m'.operands ≡ m.operands → m'.runtime.frames.callers ≡ m.runtime.frames.callers → Done (λ r. AssignsOperand o x a m r m') (Ok tt)
number_read o x at g operands calls = record { done = (value.Number g.number, record { operands = operands; calls = calls; changes = then_changes _ at.changes g.changes }) }

-- behind a step that was spent

module _ {m m1 : Machine} (s : Spends m.runtime m1.runtime (Ok tt)) (operands : m1.operands ≡ m.operands) (calls : m1.runtime.frames.callers ≡ m.runtime.frames.callers) where
  -- what is done with the names of the run
  spent_leaves : (run : Naming → Run Value) {m' : Machine} (r : Result Value Halt) → Leaves (run m1.runtime.names) m1 r m' → Leaves (spend >>= λ _. run m.runtime.names) m r m'
  spent_leaves run {m' = m'} r u = by r u.operands u.calls (then_changes _ s.changes (subst (λ (names : Naming). Changes (run names) m1.runtime m'.runtime r) s.changes.names u.changes))
    where
      by : (q : Result Value Halt) → OnOk q (m'.operands ≡ m1.operands) → OnOk q (m'.runtime.frames.callers ≡ m1.runtime.frames.callers) → Changes (spend >>= λ _. run m.runtime.names) m.runtime m'.runtime q → Leaves (spend >>= λ _. run m.runtime.names) m q m'
      by (Ok w) o k changes = record { operands = o ∙ operands; calls = k ∙ calls; changes = changes }
      by (Err e) o k changes = record { operands = tt; calls = tt; changes = changes }

  spent_done : (run : Naming → Run Value) {m' : Machine} (r : Result (Unit {0}) Halt) → Done (λ q. Leaves (run m1.runtime.names) m1 q m') r → Done (λ q. Leaves (spend >>= λ _. run m.runtime.names) m q m') r
  spent_done run (Ok u) d = record { done = (d.done.0, spent_leaves run (Ok d.done.0) d.done.1) }
  spent_done run (Err h) d = record { done = spent_leaves run (Err h) d.done }

  pub updates_behind : (o : AssignmentOperator) (t : Target) (a : Operand) {m' : Machine} (r : Result (Unit {0}) Halt) → Done (λ q. AssignsTarget o t a m1 q m') r → Done (λ q. Updates o t a m q m') r
  updates_behind o t a r d = spent_done (λ names. assign_target names.scalars o t a) r d

  pub increments_behind : (o : IncrementOperator) (t : Target) {m' : Machine} (r : Result (Unit {0}) Halt) → Done (λ q. Raises o t m1 q m') r → Done (λ q. Increments o t m q m') r
  increments_behind o t r d = spent_done (λ names. raise_target names.scalars o t) r d

  pub prints_behind : {is_logged : Type 0} (list : List Operand) {m' : Machine} {k k' : WorldState} (r : Result (Unit {0}) Halt) → PrintsOperands is_logged list m1 k r m' k' → SpendsAndPrints is_logged list m k r m' k'
  prints_behind {is_logged = is_logged} list {m' = m'} {k = k} {k' = k'} r p = by r p.operands p.calls (then_simulates _ (change_simulates s.changes) (subst (λ (names : Naming). Simulates is_logged m1.runtime k m'.runtime k' r (print_operands names.scalars list)) s.changes.names p.simulates))
    where
      by : (q : Result (Unit {0}) Halt) → OnOk q (m'.operands ≡ m1.operands) → OnOk q (m'.runtime.frames.callers ≡ m1.runtime.frames.callers) → Simulates is_logged m.runtime k m'.runtime k' q (print_by_step m.runtime.names.scalars list) → SpendsAndPrints is_logged list m k q m' k'
      by (Ok u) o c simulates = record { operands = o ∙ operands; calls = c ∙ calls; simulates = simulates }
      by (Err h) o c simulates = record { operands = tt; calls = tt; simulates = simulates }

  exchanges_by : (x : Exchange) {m' : Machine} (r : Result Value Halt) → Computes (v.SubstituteIn x) m1 r m' → Acts (e.Exchange x) m (without_value r) m'
  exchanges_by x {m' = m'} (Ok w) u = record {
    operands = u.operands ∙ operands;
    calls = u.calls ∙ calls;
    changes = λ tables functions. then_changes _ s.changes (then_changes _ (subst (λ (names : Naming). Changes (value_of (tables_in names tables) functions (v.SubstituteIn x) m1.operands.values) m1.runtime m'.runtime (Ok w)) s.changes.names (u.changes tables functions)) (lift_changes (Ok tt) m'.runtime refl));
  }
  exchanges_by x {m' = m'} (Err h) u = record {
    operands = tt;
    calls = tt;
    changes = λ tables functions. then_changes _ s.changes (ends_changes _ (subst (λ (names : Naming). Changes (value_of (tables_in names tables) functions (v.SubstituteIn x) m1.operands.values) m1.runtime m'.runtime (Err h)) s.changes.names (u.changes tables functions)));
  }

  pub exchanges_behind : (x : Exchange) {m' : Machine} (r : Result Value Halt) {q : Result (Unit {0}) Halt} → q ≡ without_value r → Computes (v.SubstituteIn x) m1 r m' → Acts (e.Exchange x) m q m'
  exchanges_behind x {m' = m'} r is u = subst (λ (q : Result (Unit {0}) Halt). Acts (e.Exchange x) m q m') (sym is) (exchanges_by x r u)

-- a variable is assigned an operand as a target
pub variable_updated : (o : AssignmentOperator) (x : Variable) (a : Operand) {m m' : Machine} (r : Result (Unit {0}) Halt) → Done (λ q. AssignsOperand o x a m q m') r → Done (λ q. AssignsTarget o (target.Variable x) a m q m') r
variable_updated o x a (Ok u) d = record { done = (d.done.0, record { operands = d.done.1.operands; calls = d.done.1.calls; changes = d.done.1.changes }) }
variable_updated o x a (Err h) d = record { done = record { operands = tt; calls = tt; changes = d.done.changes } }

-- a variable's number is raised where it stands
pub number_raised : {m m' : Machine} (o : IncrementOperator) (x : Variable) → GivesNumber (post_increment_at m.runtime.names.scalars o (place.Variable x) value.Nothing) m.runtime m'.runtime → m'.operands ≡ m.operands → m'.runtime.frames.callers ≡ m.runtime.frames.callers → Done (λ q. Raises o (target.Variable x) m q m') (Ok tt)
number_raised o x g operands calls = record { done = (value.Number g.number, record { operands = operands; calls = calls; changes = g.changes }) }

-- no step is left

module _ {m m' : Machine} {h : Halt} (s : Spends m.runtime m'.runtime (Err h)) where
  pub not_updated : (o : AssignmentOperator) (t : Target) (a : Operand) → Done (λ q. Updates o t a m q m') (Err h)
  not_updated o t a = record { done = record { operands = tt; calls = tt; changes = ends_changes _ s.changes } }

  pub not_incremented : (o : IncrementOperator) (t : Target) → Done (λ q. Increments o t m q m') (Err h)
  not_incremented o t = record { done = record { operands = tt; calls = tt; changes = ends_changes _ s.changes } }

  pub not_printed : {is_logged : Type 0} (list : List Operand) {k : WorldState} → SpendsAndPrints is_logged list m k (Err h) m' k
  not_printed list = record { operands = tt; calls = tt; simulates = ends_simulates _ (change_simulates s.changes) }

  pub not_exchanged : (x : Exchange) → Acts (e.Exchange x) m (Err h) m'
  not_exchanged x = record { operands = tt; calls = tt; changes = λ tables functions. ends_changes _ s.changes }

-- what leaves nothing on the stack

pub leaves_kept : {m m1 m' : Machine} (kept : Keeps m1 m') {run : Run Value} (r : Result Value Halt) → Leaves run m r m1 → Leaves run m r m'
leaves_kept {m = m} {m1 = m1} {m' = m'} kept {run = run} r u = by r u
  where
    by : (q : Result Value Halt) → Leaves run m q m1 → Leaves run m q m'
    by (Ok w) u = record { operands = kept.operands ∙ u.operands; calls = kept.calls ∙ u.calls; changes = subst (λ (y : Runtime). Changes run m.runtime y (Ok w)) (sym kept.runtime) u.changes }
    by (Err h) u = record { operands = tt; calls = tt; changes = subst (λ (y : Runtime). Changes run m.runtime y (Err h)) (sym kept.runtime) u.changes }
