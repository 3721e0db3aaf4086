-- How the value of a node is found.
use Rattle.std.proofs.Common.{◌≡◌, ◌≢◌, arith, ℕ, ◌+◌, suc, ℤ, Bool, List, [], ◌∷◌, Option, Some, None, Result, Ok, Err, drop, drop-drop, refl, sym, ◌∙◌, ap}
use Rattle.awk_storage.specs.declared.position.Place.{Place}
use Rattle.awk_storage.specs.declared.position.Place.TheVariants as place
use Rattle.awk_storage.specs.Forms.{substitute_at}
use Rattle.awk_value.specs.declared.value.Value.{Value}
use Rattle.awk_value.specs.declared.value.Value.TheVariants as value
use Rattle.awk_value.specs.declared.fault.ValueFault.{ValueFault}
use Rattle.awk_value.specs.Values.{num_of, str_of, number_value}
use Rattle.awk_grammar.specs.declared.tree.UnaryOperator.TheVariants as unary
use Rattle.awk_semantics.specs.Operators.{changed}
use Rattle.awk_runtime.proofs.Steps.{same_changes}
use Rattle.awk_semantics.specs.Faults.{of_values}
use Rattle.awk_semantics.specs.State.{State, Run, ◌>>=◌, go_on, lift, ret}
use Rattle.awk_semantics.specs.Primitives.{number_of}
use Rattle.awk_runtime.specs.declared.runtime.Runtime.{Runtime}
use Rattle.awk_runtime.proofs.Composition.{then_changes, lift_changes, change_simulates, ready_same}
use Rattle.awk_semantics.specs.declared.halt.Halt.{Halt}
use Rattle.awk_semantics.specs.Semantics.{Functions}
use Rattle.awk_resolve.specs.declared.node.ValueNode.{ValueNode}
use Rattle.awk_resolve.specs.declared.node.EffectNode.{EffectNode}
use Rattle.awk_resolve.specs.Nodes.{Tables, value_of, popped, first, second, operands, place_operands, pattern_operands, substitute_by, effect_of, dropped}
use Rattle.awk_runtime.specs.support.Updates.{Gives}
use Rattle.awk_runtime.specs.support.Simulation.{IsReady, Simulates, Changes}
use Rattle.awk_streams.specs.WorldState.{WorldState}
use Rattle.awk_evaluator.specs.declared.machine.Machine.{Machine}
use Rattle.awk_evaluator.specs.support.Rest.{tables_in}
use Rattle.awk_evaluator.specs.support.Moves.{Computes, Evaluates, Acts, Performs}

pub computed : {x : ValueNode} {m m' : Machine} (r : Result Value Halt) → m'.operands ≡ record m.operands { values = drop (popped x) m.operands.values } → m'.runtime.frames.callers ≡ m.runtime.frames.callers → ((tables : Tables) (functions : Functions) → Changes (value_of (tables_in m.runtime.names tables) functions x m.operands.values) m.runtime m'.runtime r) → Computes x m r m'
computed (Ok v) o c h = record { operands = o; calls = c; changes = h }
computed (Err e) o c h = record { operands = tt; calls = tt; changes = h }

pub ended : {x : ValueNode} {m m' : Machine} (e : Halt) → ((tables : Tables) (functions : Functions) → Changes (value_of (tables_in m.runtime.names tables) functions x m.operands.values) m.runtime m'.runtime (Err e)) → Computes x m (Err e) m'
ended e h = record { operands = tt; calls = tt; changes = h }

pub second_is : (vs : List Value) → first (drop 1 vs) ≡ second vs
second_is [] = refl
second_is (x ∷ []) = refl
second_is (x ∷ y ∷ vs) = refl

pub drop_two : (vs : List Value) → drop 1 (drop 1 vs) ≡ drop 2 vs
drop_two [] = refl
drop_two (x ∷ vs) = refl

-- the number of a value is what `+` makes of it

plus_at : (r : Result ℤ ValueFault) (s : State) → (lift (of_values r) >>= λ k. ret (value.Number k)) s ≡ lift (of_values (number_value r)) s
unfolding lift ◌>>=◌ go_on
plus_at (Ok n) s = refl
plus_at (Err f) s = refl

pub number_changes : (v : Value) {m m' : Runtime} {r : Result Value Halt} → Changes (lift (changed unary.Plus v)) m m' r → Changes (number_of v >>= λ k. ret (value.Number k)) m m' r
number_changes v h = same_changes _ _ (λ s holds. plus_at (num_of v) s) h

-- a value that is made of what a part gave

pub made_of : {A : Type 0} {m m' : Runtime} {run : Run A} (f : A → Value) (a : A) → Changes run m m' (Ok a) → Changes (run >>= λ x. ret (f x)) m m' (Ok (f a))
made_of f a h = then_changes _ h (lift_changes _ _ refl)

-- substitutions

-- how the operands of one in a place lie
pub substitute_alike : (tables : Tables) (all : Bool) (ere : Option ℕ) (p : Place) (operand old : Value) (vs : List Value) → substitute_by tables all ere p operand old vs ≡ substitute_by tables all ere p operand old (first vs ∷ drop 1 vs)
substitute_alike tables all (Some i) p operand old vs = refl
substitute_alike tables all None p operand old vs = ap (λ pattern. substitute_at tables.names all (str_of pattern) (str_of (first vs)) p operand old) (sym (second_is vs))

pub substitute_drop : (ere : Option ℕ) (n k : ℕ) (vs : List Value) → k ≡ n + suc (pattern_operands ere) → drop (pattern_operands ere) (drop 1 (drop n vs)) ≡ drop k vs
substitute_drop ere n k vs is =
    let count : n + (1 + pattern_operands ere) ≡ k = omega (arith, is) in
    drop-drop (pattern_operands ere) 1 (drop n vs) ∙ (drop-drop (1 + pattern_operands ere) n vs ∙ ap (λ i. drop i vs) count)

pub one_operand : (p : Place) → operands p ≢ 0 → operands p ≡ 1
one_operand (place.Variable x) h = absurd (h refl)
one_operand (place.Element a) h = refl
one_operand place.Field h = refl

pub one_place_operand : (p : Option Place) → place_operands p ≢ 0 → place_operands p ≡ 1
one_place_operand None h = absurd (h refl)
one_place_operand (Some p) h = one_operand p h

pub in_place : (tables : Tables) (all : Bool) (ere : Option ℕ) (p : Place) {m m' : Runtime} {r : Result Value Halt} (vs vs' : List Value) (operand replacement old : Value) (rest : List Value)
    → operand ≡ second vs → old ≡ first vs → replacement ≡ first vs' → rest ≡ drop 1 vs' → vs' ≡ drop (suc (operands p)) vs
    → Changes (substitute_by tables all ere p operand old (replacement ∷ rest)) m m' r
    → Changes (substitute_by tables all ere p (second vs) (first vs) (drop (suc (operands p)) vs)) m m' r
in_place tables all ere p vs vs' operand replacement old rest e1 e2 e3 e4 e5 h = rw (← e5, substitute_alike tables all ere p (second vs) (first vs) vs', ← e1, ← e2, ← e3, ← e4) h

-- effects

pub performed : {is_logged : Type 0} {x : EffectNode} {m m' : Machine} {k k' : WorldState} (r : Result (Unit {0}) Halt) → m'.operands ≡ record m.operands { values = drop (dropped x) m.operands.values } → m'.runtime.frames.callers ≡ m.runtime.frames.callers → ((tables : Tables) (functions : Functions) → Simulates is_logged m.runtime k m'.runtime k' r (effect_of (tables_in m.runtime.names tables) functions x m.operands.values)) → Performs is_logged x m k r m' k'
performed (Ok u) o c h = record { operands = o; calls = c; simulates = h }
performed (Err e) o c h = record { operands = tt; calls = tt; simulates = h }

pub effect_ended : {is_logged : Type 0} {x : EffectNode} {m m' : Machine} {k k' : WorldState} (e : Halt) → ((tables : Tables) (functions : Functions) → Simulates is_logged m.runtime k m'.runtime k' (Err e) (effect_of (tables_in m.runtime.names tables) functions x m.operands.values)) → Performs is_logged x m k (Err e) m' k'
effect_ended e h = record { operands = tt; calls = tt; simulates = h }

pub acted : {is_logged : Type 0} {x : EffectNode} {m m' : Machine} {k : WorldState} {r : Result (Unit {0}) Halt} → Acts x m r m' → Performs is_logged x m k r m' k
acted h = record { operands = h.operands; calls = h.calls; simulates = λ tables functions. change_simulates (h.changes tables functions) }

-- what is ready stays so

no_functions : Functions
no_functions = record { roles = λ f. []; height = λ f. 0; call = λ f given. ret value.Nothing }

no_tables : Tables
no_tables = record { names = []; eres = []; arrays = []; functions = [] }

pub acted_ready : {is_logged : Type 0} {x : EffectNode} {m m' : Machine} {k : WorldState} {r : Result (Unit {0}) Halt} → Acts x m r m' → IsReady is_logged k m.runtime.streams → IsReady is_logged k m'.runtime.streams
acted_ready h ready = ready_same (h.changes no_tables no_functions).streams ready

pub computed_ready : {is_logged : Type 0} {x : ValueNode} {m m' : Machine} {k : WorldState} {r : Result Value Halt} → Computes x m r m' → IsReady is_logged k m.runtime.streams → IsReady is_logged k m'.runtime.streams
computed_ready h ready = ready_same (h.changes no_tables no_functions).streams ready

pub computed_evaluates : {is_logged : Type 0} {x : ValueNode} {m m' : Machine} {k : WorldState} {r : Result Value Halt} → Computes x m r m' → Evaluates is_logged x m k r m' k
computed_evaluates h = record { operands = h.operands; calls = h.calls; simulates = λ tables functions. change_simulates (h.changes tables functions) }

pub evaluated : {is_logged : Type 0} {x : ValueNode} {m m' : Machine} {k k' : WorldState} (r : Result Value Halt) → m'.operands ≡ record m.operands { values = drop (popped x) m.operands.values } → m'.runtime.frames.callers ≡ m.runtime.frames.callers → ((tables : Tables) (functions : Functions) → Simulates is_logged m.runtime k m'.runtime k' r (value_of (tables_in m.runtime.names tables) functions x m.operands.values)) → Evaluates is_logged x m k r m' k'
evaluated (Ok v) o c h = record { operands = o; calls = c; simulates = h }
evaluated (Err e) o c h = record { operands = tt; calls = tt; simulates = h }

pub value_ended : {is_logged : Type 0} {x : ValueNode} {m m' : Machine} {k k' : WorldState} (e : Halt) → ((tables : Tables) (functions : Functions) → Simulates is_logged m.runtime k m'.runtime k' (Err e) (value_of (tables_in m.runtime.names tables) functions x m.operands.values)) → Evaluates is_logged x m k (Err e) m' k'
value_ended e h = record { operands = tt; calls = tt; simulates = h }

-- what gives some value, or ends, leaves the callers
pub given_callers : {run : Run Value} {old new : Runtime} (r : Result (Unit {0}) Halt) → Gives run old r new → new.frames.callers ≡ old.frames.callers
given_callers (Ok u) g = g.gives.1.callers
given_callers (Err h) g = g.gives.callers
