-- Values that are put on the stack quickly.
use Rattle.std.proofs.Common.{◌≡◌, ◌≢◌, ◌<◌, ℕ, ℤ, pos, Bool, true, List, [], ◌∷◌, ◌++◌, drop, length, arith, Option, Some, None, Result, Ok, Err, refl, sym, ap, ◌∙◌, subst}
use Rattle.std.proofs.Math.Path.{fun_ext}
use Rattle.std.specs.Prelude.{OnOk, IfSome, is_ok}
use Rattle.std.specs.Result.{result_ok}
use Rattle.awk_value.specs.declared.value.Value.{Value}
use Rattle.awk_value.specs.declared.value.Value.TheVariants as value
use Rattle.awk_value.specs.declared.fault.ValueFault.{ValueFault}
use Rattle.awk_value.specs.Arithmetic.{product_of, sum_of, difference_of, quotient_of, remainder_of, negative_of, power_of}
use Rattle.awk_value.specs.Values.{str_of, num_of, number_value, from_numbers}
use Rattle.awk_lex.specs.declared.token.AssignmentOperator.{AssignmentOperator}
use Rattle.awk_lex.specs.declared.token.BuiltIn.TheVariants.{Length}
use Rattle.awk_lex.specs.declared.token.IncrementOperator.{IncrementOperator}
use Rattle.awk_lex.specs.declared.token.AssignmentOperator.TheVariants as assignment
use Rattle.awk_lex.specs.declared.token.Operator.{Operator}
use Rattle.awk_lex.specs.declared.token.Operator.TheVariants as operator
use Rattle.awk_grammar.specs.declared.tree.BinaryOperator.TheVariants.{Concatenate, Infix}
use Rattle.awk_grammar.specs.declared.tree.UnaryOperator.TheVariants as unary
use Rattle.awk_semantics.specs.declared.halt.Halt.{Halt}
use Rattle.awk_semantics.specs.State.{Run, ◌>>=◌, lift}
use Rattle.awk_semantics.specs.Faults.{of_values}
use Rattle.awk_semantics.specs.Operators.{applied, truth_value, by_one, operator_of}
use Rattle.awk_semantics.specs.Primitives.{read_field, number_of}
use Rattle.awk_semantics.specs.Semantics.{Functions}
use Rattle.awk_storage.specs.declared.position.Array.{Array}
use Rattle.awk_storage.specs.declared.position.Place.{Place}
use Rattle.awk_storage.specs.declared.position.Place.TheVariants as place
use Rattle.awk_storage.specs.declared.position.Variable.{Variable}
use Rattle.awk_storage.specs.Forms.{contains_at}
use Rattle.awk_storage.specs.Positions.{read_at, read_element_of, assign_at, assign_by_at, post_increment_at}
use Rattle.awk_resolve.specs.declared.node.Operand.{Operand}
use Rattle.awk_resolve.specs.declared.node.Operand.TheVariants as operand
use Rattle.awk_resolve.specs.declared.node.Target.TheVariants as target
use Rattle.awk_resolve.specs.declared.node.ValueNode.{ValueNode}
use Rattle.awk_resolve.specs.declared.node.ValueNode.TheVariants as v
use Rattle.awk_resolve.specs.Nodes.{Tables, first, second, taken, value_of, popped, operated_with, operated_on}
use Rattle.awk_runtime.specs.declared.runtime.Runtime.{Runtime}
use Rattle.awk_runtime.specs.Simulation.{Changes}
use Rattle.awk_runtime.proofs.Composition.{then_changes, lift_changes}
use Rattle.awk_evaluator.specs.declared.machine.Machine.{Machine}
use Rattle.awk_evaluator.specs.Operands.{OperandsView}
use Rattle.awk_evaluator.specs.Rest.{tables_in}
use Rattle.awk_evaluator.specs.Quick.{IsAtHand, Puts, Pushed, AssignsAlike}
use Rattle.awk_evaluator.proofs.Changing.{variable_alike}
use Rattle.awk_evaluator.proofs.Computing.{drop_two, made_of}

-- operands that are at hand

pub constant_at_hand : {m : Machine} (v : Value) → IsAtHand (operand.Constant v) v m
constant_at_hand {m = m} v = record { changes = lift_changes (Ok v) m.runtime refl }

module _ {m : Machine} (o : Operator) {y w : Value} {b : Operand} (right : IsAtHand b y m) where
  pub operated_with_hand : (x : Value) → applied o x y ≡ Ok w → Changes (operated_with m.runtime.names.scalars (Infix o) x b) m.runtime m.runtime (Ok w)
  operated_with_hand x e = then_changes _ right.changes (lift_changes _ m.runtime e)

  pub operated_on_hand : {x : Value} {a : Operand} → IsAtHand a x m → applied o x y ≡ Ok w → Changes (operated_on m.runtime.names.scalars (Infix o) a b) m.runtime m.runtime (Ok w)
  operated_on_hand {x = x} left e = then_changes _ left.changes (operated_with_hand x e)

-- the field of a number
pub field_of : {m m' : Runtime} (n : ℤ) {r : Result Value Halt} → Changes (read_field n) m m' r → Changes (number_of (value.Number n) >>= λ k. read_field k) m m' r
field_of {m = m} n h = then_changes read_field (lift_changes (Ok n) m refl) h

-- values that are put on the stack

pub pushed_by : {E : Type 0} {v : Value} {m m' : Machine} (r : Result (Unit {0}) E) → is_ok r ≡ true → OnOk r (m'.operands ≡ record m.operands { values = v ∷ m.operands.values }) → m'.runtime.frames.callers ≡ m.runtime.frames.callers → m'.runtime ≡ m.runtime → Pushed v m m'
pushed_by (Ok u) ok operands calls runtime = record { operands = operands; calls = calls; runtime = runtime }
pushed_by (Err e) ok operands calls runtime = cc

pub pushed_puts : {x : ValueNode} {m m' : Machine} {w : Value} → drop (popped x) m.operands.values ≡ m.operands.values → ((tables : Tables) (functions : Functions) → Changes (value_of (tables_in m.runtime.names tables) functions x m.operands.values) m.runtime m.runtime (Ok w)) → Pushed w m m' → Puts x m m'
pushed_puts {x = x} {m = m} {m' = m'} {w = w} none changes p = record {
  value = w;
  operands = p.operands ∙ ap (λ (vs : List Value). record m.operands { values = w ∷ vs }) (sym none);
  calls = p.calls;
  changes = λ tables functions. subst (λ (r : Runtime). Changes (value_of (tables_in m.runtime.names tables) functions x m.operands.values) m.runtime r (Ok w)) (sym p.runtime) (changes tables functions);
}

pub operand_puts : {a : Operand} {w : Value} {m m' : Machine} → IsAtHand a w m → Pushed w m m' → Puts (v.Put a) m m'
operand_puts at p = pushed_puts refl (λ tables functions. at.changes) p

pub pushed_constant : {m m' : Machine} {w : Value} → Pushed w m m' → Puts (v.Put (operand.Constant w)) m m'
pushed_constant {w = w} p = operand_puts (constant_at_hand w) p

-- in machines that a reading leaves as they were, too

module _ {m between : Machine} (same : between ≡ m) where
  pub operated_on_puts : {m' behind : Machine} {o : Operator} {a b : Operand} {x y w : Value} → behind ≡ between → IsAtHand a x m → IsAtHand b y between → applied o x y ≡ Ok w → Pushed w behind m' → Puts (v.OperateOn (Infix o) a b) m m'
  operated_on_puts {m' = m'} {b = b} {y = y} {w = w} next left right e p = pushed_puts refl (λ tables functions. operated_on_hand _ (subst (λ (n : Machine). IsAtHand b y n) same right) left e) (subst (λ (n : Machine). Pushed w n m') (next ∙ same) p)

  pub operand_puts_behind : {m' : Machine} {a : Operand} {w : Value} → IsAtHand a w m → Pushed w between m' → Puts (v.Put a) m m'
  operand_puts_behind {m' = m'} {w = w} at p = operand_puts at (subst (λ (x : Machine). Pushed w x m') same p)

  pub operated_with_puts : {m' : Machine} {o : Operator} {b : Operand} {x y w : Value} → first m.operands.values ≡ x → IsAtHand b y m → applied o x y ≡ Ok w → m'.operands ≡ record between.operands { values = w ∷ drop 1 between.operands.values } → m'.runtime.frames.callers ≡ between.runtime.frames.callers → m'.runtime ≡ between.runtime → Puts (v.OperateWith (Infix o) b) m m'
  operated_with_puts {m' = m'} {o = o} {b = b} {x = x} {w = w} top right e operands calls runtime = record {
    value = w;
    operands = operands ∙ ap (λ (n : Machine). record n.operands { values = w ∷ drop 1 n.operands.values }) same;
    calls = calls ∙ ap (λ (n : Machine). n.runtime.frames.callers) same;
    changes = λ tables functions. rw (runtime, same, top) (operated_with_hand o right x e);
  }

-- values that are put in the place of others

pub operated_puts : {m m' : Machine} {o : Operator} {x y w : Value} → second m.operands.values ≡ x → first m.operands.values ≡ y → applied o x y ≡ Ok w → m'.operands ≡ record m.operands { values = w ∷ drop 1 (drop 1 m.operands.values) } → m'.runtime.frames.callers ≡ m.runtime.frames.callers → m'.runtime ≡ m.runtime → Puts (v.Operate (Infix o)) m m'
operated_puts {m = m} {w = w} below top e operands calls runtime = record {
  value = w;
  operands = operands ∙ ap (λ (vs : List Value). record m.operands { values = w ∷ vs }) (drop_two m.operands.values);
  calls = calls;
  changes = λ tables functions. rw (runtime, below, top) (lift_changes _ m.runtime e);
}

pub negated_puts : {m m' : Machine} (n : ℤ) {z : ℤ} → first m.operands.values ≡ value.Number n → negative_of n ≡ Ok z → m'.operands ≡ record m.operands { values = value.Number z ∷ drop 1 m.operands.values } → m'.runtime.frames.callers ≡ m.runtime.frames.callers → m'.runtime ≡ m.runtime → Puts (v.Change unary.Minus) m m'
negated_puts {m = m} n {z = z} top e operands calls runtime = record {
  value = value.Number z;
  operands = operands;
  calls = calls;
  changes = λ tables functions. rw (runtime, top) (lift_changes _ m.runtime (ap (λ r. of_values (number_value r)) e));
}

pub field_puts : {m m' : Machine} (n : ℤ) {w : Value} → first m.operands.values ≡ value.Number n → Changes (read_field n) m.runtime m'.runtime (Ok w) → m'.operands ≡ record m.operands { values = w ∷ drop 1 m.operands.values } → m'.runtime.frames.callers ≡ m.runtime.frames.callers → Puts v.ReadField m m'
field_puts {m = m} n {w = w} top h operands calls = record {
  value = w;
  operands = operands;
  calls = calls;
  changes = λ tables functions. rw top (field_of n h);
}

-- whether there is an element at the topmost value
pub contains_puts : {m m' : Machine} {a : Array} {key : Value} {found : Bool} → key ≡ first m.operands.values → Changes (contains_at a (str_of key)) m.runtime m.runtime (Ok found) → m'.operands ≡ record m.operands { values = truth_value found ∷ drop 1 m.operands.values } → m'.runtime.frames.callers ≡ m.runtime.frames.callers → m'.runtime ≡ m.runtime → Puts (v.Contains a None) m m'
contains_puts {m = m} {a = a} {found = found} top h operands calls runtime = record {
  value = truth_value found;
  operands = operands;
  calls = calls;
  changes = λ tables functions. rw runtime (made_of truth_value found (subst (λ (key : Value). Changes (contains_at a (str_of key)) m.runtime m.runtime (Ok found)) top h));
}

-- the length of the topmost value

first_taken : (vs : List Value) → 0 < length vs → taken 1 vs ≡ first vs ∷ []
first_taken [] there = absurd (omega arith)
first_taken (v ∷ vs) there = refl

pub length_puts : {m m' : Machine} (count : ℕ) {w : Value} (n : ℤ) → count ≡ 1 → w ≡ first m.operands.values → 0 < length m.operands.values → n ≡ pos (length (str_of w)) → m'.operands ≡ record m.operands { values = value.Number n ∷ drop 1 m.operands.values } → m'.runtime.frames.callers ≡ m.runtime.frames.callers → m'.runtime ≡ m.runtime → Puts (v.Apply Length count) m m'
length_puts {m = m} {m' = m'} count {w = w} n one top there is operands calls runtime = subst (λ (k : ℕ). Puts (v.Apply Length k) m m') (sym one) record {
  value = value.Number n;
  operands = operands;
  calls = calls;
  changes = λ tables functions.
      rw (runtime, first_taken m.operands.values there, is, top) (lift_changes (Ok (value.Number (pos (length (str_of (first m.operands.values)))))) m.runtime refl);
}

-- assignments

-- a value is seen by an operator alone
updated_alike : (names : List (List ℕ)) (o : Operator) (p : Place) (operand v w : Value) → ((old : Value) → applied o old v ≡ applied o old w) → assign_by_at names (Some o) p operand v ≡ assign_by_at names (Some o) p operand w
unfolding assign_by_at
updated_alike names o p operand v w alike =
    let before : Value → Run Value = λ old. lift (applied o old v) >>= λ z. assign_at names p operand z in
    let after : Value → Run Value = λ old. lift (applied o old w) >>= λ z. assign_at names p operand z in
    let same : before ≡ after = fun_ext (λ old. ap (λ (r : Result Value Halt). lift r >>= λ z. assign_at names p operand z) (alike old)) in
    ap (λ (f : Value → Run Value). read_at names p operand >>= f) same

-- by its number alone
numbers_alike : (a : AssignmentOperator) (v w : Value) → a ≢ assignment.Plain → num_of v ≡ num_of w → AssignsAlike a v w
numbers_alike assignment.Plain v w other e = absurd (other refl)
numbers_alike assignment.Add v w other e = λ names p operand. updated_alike names operator.Plus p operand v w (λ old. ap (λ r. of_values (from_numbers sum_of (num_of old) r)) e)
numbers_alike assignment.Subtract v w other e = λ names p operand. updated_alike names operator.Minus p operand v w (λ old. ap (λ r. of_values (from_numbers difference_of (num_of old) r)) e)
numbers_alike assignment.Multiply v w other e = λ names p operand. updated_alike names operator.Times p operand v w (λ old. ap (λ r. of_values (from_numbers product_of (num_of old) r)) e)
numbers_alike assignment.Divide v w other e = λ names p operand. updated_alike names operator.Divide p operand v w (λ old. ap (λ r. of_values (from_numbers quotient_of (num_of old) r)) e)
numbers_alike assignment.Remainder v w other e = λ names p operand. updated_alike names operator.Remainder p operand v w (λ old. ap (λ r. of_values (from_numbers remainder_of (num_of old) r)) e)
numbers_alike assignment.Power v w other e = λ names p operand. updated_alike names operator.Power p operand v w (λ old. ap (λ r. of_values (from_numbers power_of (num_of old) r)) e)

alike_by : (a : AssignmentOperator) (v : Value) (r : Result ℤ ValueFault) → a ≢ assignment.Plain → num_of v ≡ r → IfSome (result_ok r) (λ n. AssignsAlike a v (value.Number n))
alike_by a v (Ok n) other e = numbers_alike a v (value.Number n) other e
alike_by a v (Err f) other e = tt

pub number_alike : (a : AssignmentOperator) (v : Value) (found : Option ℤ) → a ≢ assignment.Plain → found ≡ result_ok (num_of v) → IfSome found (λ n. AssignsAlike a v (value.Number n))
number_alike a v found other e = subst (λ (o : Option ℤ). IfSome o (λ n. AssignsAlike a v (value.Number n))) (sym e) (alike_by a v (num_of v) other refl)

-- what is changed where it stands, and put on the stack

module _ {m m' : Machine} (o : OperandsView) (pushed : o ≡ record m.operands { values = value.Nothing ∷ m.operands.values }) {z : ℤ} (replaced : m'.operands ≡ record o { values = value.Number z ∷ drop 1 o.values }) (calls : m'.runtime.frames.callers ≡ m.runtime.frames.callers) where
  pub raised_puts : (a : IncrementOperator) (x : Variable) → Changes (post_increment_at m.runtime.names.scalars a (place.Variable x) value.Nothing) m.runtime m'.runtime (Ok (value.Number z)) → Puts (v.PostIncrementAt a (target.Variable x)) m m'
  raised_puts a x h = record {
    value = value.Number z;
    operands = replaced ∙ ap (λ (s : OperandsView). record s { values = value.Number z ∷ drop 1 s.values }) pushed;
    calls = calls;
    changes = λ tables functions. h;
  }

  pub raised_first_puts : (a : IncrementOperator) (x : Variable) → Changes (assign_by_at m.runtime.names.scalars (Some (by_one a)) (place.Variable x) value.Nothing (value.Number (pos 1))) m.runtime m'.runtime (Ok (value.Number z)) → Puts (v.PreIncrement a (place.Variable x)) m m'
  raised_first_puts a x h = record {
    value = value.Number z;
    operands = replaced ∙ ap (λ (s : OperandsView). record s { values = value.Number z ∷ drop 1 s.values }) pushed;
    calls = calls;
    changes = λ tables functions. subst (λ (run : Run Value). Changes run m.runtime m'.runtime (Ok (value.Number z))) (variable_alike m.runtime.names.scalars (Some (by_one a)) x value.Nothing (first m.operands.values) (value.Number (pos 1))) h;
  }

pub assigned_puts : {m m' : Machine} {n z : ℤ} (a : AssignmentOperator) (x : Variable) → first m.operands.values ≡ value.Number n → Changes (assign_by_at m.runtime.names.scalars (operator_of a) (place.Variable x) value.Nothing (value.Number n)) m.runtime m'.runtime (Ok (value.Number z))
    → m'.operands ≡ record m.operands { values = value.Number z ∷ drop 1 m.operands.values } → m'.runtime.frames.callers ≡ m.runtime.frames.callers → Puts (v.Assign a (place.Variable x)) m m'
assigned_puts {m = m} {m' = m'} {z = z} a x top h operands calls = record {
  value = value.Number z;
  operands = operands;
  calls = calls;
  changes = λ tables functions. rw top (subst (λ (run : Run Value). Changes run m.runtime m'.runtime (Ok (value.Number z))) (variable_alike m.runtime.names.scalars (operator_of a) x value.Nothing (second m.operands.values) (value.Number _)) h);
}

pub field_assigned_puts : {m m' : Machine} {k n : ℤ} → second m.operands.values ≡ value.Number k → first m.operands.values ≡ value.Number n → Changes (assign_by_at m.runtime.names.scalars None place.Field (value.Number k) (value.Number n)) m.runtime m'.runtime (Ok (value.Number n))
    → m'.operands ≡ record m.operands { values = value.Number n ∷ drop 1 (drop 1 m.operands.values) } → m'.runtime.frames.callers ≡ m.runtime.frames.callers → Puts (v.Assign assignment.Plain place.Field) m m'
field_assigned_puts {m = m} {n = n} below top h operands calls = record {
  value = value.Number n;
  operands = operands ∙ ap (λ (vs : List Value). record m.operands { values = value.Number n ∷ vs }) (drop_two m.operands.values);
  calls = calls;
  changes = λ tables functions. rw (below, top) h;
}

-- the texts of two operands at hand
pub joined_puts : {m m' : Machine} {a b : Operand} {x y w : Value} → IsAtHand a x m → IsAtHand b y m → w ≡ value.Text (str_of x ++ str_of y) → Pushed w m m' → Puts (v.OperateOn Concatenate a b) m m'
joined_puts {m = m} left right is p = pushed_puts refl (λ tables functions. then_changes _ left.changes (then_changes _ right.changes (lift_changes _ m.runtime (ap Ok (sym is))))) p

-- an element that is there
pub element_puts : {m m' : Machine} {a : Array} {key w : Value} → key ≡ first m.operands.values → Changes (read_element_of a (str_of key)) m.runtime m.runtime (Ok w) → m'.operands ≡ record m.operands { values = w ∷ drop 1 m.operands.values } → m'.runtime.frames.callers ≡ m.runtime.frames.callers → m'.runtime ≡ m.runtime → Puts (v.ReadElement a None) m m'
element_puts {m = m} {a = a} {w = w} top h operands calls runtime = record {
  value = w;
  operands = operands;
  calls = calls;
  changes = λ tables functions. rw runtime (subst (λ (k : Value). Changes (read_element_of a (str_of k)) m.runtime m.runtime (Ok w)) top h);
}

-- the number of an element that is raised
pub element_raised_puts : {m m' : Machine} {o : IncrementOperator} {a : Array} {key : Value} {z : ℤ} → key ≡ first m.operands.values → Changes (post_increment_at m.runtime.names.scalars o (place.Element a) key) m.runtime m'.runtime (Ok (value.Number z)) → m'.operands ≡ record m.operands { values = value.Number z ∷ drop 1 m.operands.values } → m'.runtime.frames.callers ≡ m.runtime.frames.callers → Puts (v.PostIncrement o (place.Element a)) m m'
element_raised_puts {m = m} {m' = m'} {o = o} {a = a} {z = z} top h operands calls = record {
  value = value.Number z;
  operands = operands;
  calls = calls;
  changes = λ tables functions. subst (λ (k : Value). Changes (post_increment_at m.runtime.names.scalars o (place.Element a) k) m.runtime m'.runtime (Ok (value.Number z))) top h;
}

-- a variable that is a place is read as any other
pub read_loads : {m m' : Machine} {x : Variable} → Puts (v.Put (operand.Variable x)) m m' → Puts (v.Load (place.Variable x)) m m'
read_loads p = record { value = p.value; operands = p.operands; calls = p.calls; changes = p.changes }
