-- Fields that are read where they stand in the record.
use Rattle.std.proofs.Common.{◌≡◌, ◌≢◌, ℤ, ℕ, Bool, List, drop, take, Option, Some, None, Result, Ok, Err, refl, sym, ap, ◌∙◌, subst}
use Rattle.std.specs.Prelude.{IfSome, IfNone}
use Rattle.std.specs.Result.{result_ok}
use Rattle.awk_value.specs.declared.value.Value.{Value}
use Rattle.awk_value.specs.declared.value.Value.TheVariants as value
use Rattle.awk_value.specs.Values.{num_of, str_of, numeric_of, order_by, order_of}
use Rattle.awk_value.proofs.CutOfCut.{drop_of_take}
use Rattle.awk_text.specs.declared.span.Span.{Span}
use Rattle.awk_text.specs.Pieces.{stretch_at, IsSpanOf}
use Rattle.awk_record.specs.Record.{field_of}
use Rattle.awk_lex.specs.declared.token.AssignmentOperator.{AssignmentOperator}
use Rattle.awk_lex.specs.declared.token.AssignmentOperator.TheVariants as assignment
use Rattle.awk_lex.specs.declared.token.Operator.{Operator}
use Rattle.awk_lex.specs.declared.token.Operator.TheVariants as operator
use Rattle.awk_grammar.specs.declared.tree.BinaryOperator.TheVariants.{Infix}
use Rattle.awk_semantics.specs.declared.halt.Halt.{Halt}
use Rattle.awk_semantics.specs.Faults.{of_record}
use Rattle.awk_semantics.specs.Operators.{applied, pattern_in, relates, truth_value}
use Rattle.awk_semantics.specs.Primitives.{read_field}
use Rattle.awk_semantics.specs.Semantics.{Functions}
use Rattle.awk_storage.specs.declared.position.Variable.{Variable}
use Rattle.awk_resolve.specs.declared.node.Operand.{Operand}
use Rattle.awk_resolve.specs.declared.node.ValueNode.{ValueNode}
use Rattle.awk_resolve.specs.declared.node.ValueNode.TheVariants as v
use Rattle.awk_resolve.specs.Nodes.{Tables, popped, value_of, assign_variable}
use Rattle.awk_functions.specs.support.Matched.{matched}
use Rattle.awk_functions.specs.support.Numbers.{IsOfNumbers}
use Rattle.awk_functions.proofs.Orders.{related_as}
use Rattle.awk_runtime.specs.declared.runtime.Runtime.{Runtime}
use Rattle.awk_runtime.specs.Naming.{Naming, ere_at}
use Rattle.awk_runtime.specs.Simulation.{Changes, SameState}
use Rattle.awk_runtime.specs.support.Updates.{GivesNumber}
use Rattle.awk_runtime.proofs.Composition.{then_changes}
use Rattle.awk_runtime.proofs.Steps.{still, same_changes}
use Rattle.awk_runtime.proofs.TextChanges.{beside_then, match_test}
use Rattle.awk_runtime.proofs.Words.{field_changes}
use Rattle.awk_evaluator.specs.declared.machine.Machine.{Machine}
use Rattle.awk_evaluator.specs.Operands.{OperandsView}
use Rattle.awk_evaluator.specs.Rest.{tables_in}
use Rattle.awk_evaluator.specs.Moves.{Computes}
use Rattle.awk_evaluator.specs.Reading.{ComparesBy, Compares}
use Rattle.awk_evaluator.specs.Quick.{IsAtHand, IsFieldOf, IsAsGood, Puts, Pushed, Relates}
use Rattle.awk_evaluator.specs.Applied.{HasNumber, StaysAlike}
use Rattle.awk_evaluator.proofs.Computing.{ended}
use Rattle.awk_evaluator.proofs.Joining.{operand_matched}
use Rattle.awk_evaluator.proofs.Quickly.{truth_is}
use Rattle.awk_evaluator.proofs.QuickMoves.{related_hand}
use Rattle.awk_evaluator.proofs.QuickValues.{number_alike, operated_on_puts}

-- the field of a number
pub stretch_at_hand : {a : Operand} {m : Machine} (n : ℤ) (found : Option Span) → IsFieldOf a n m → IfSome found (λ span. field_of m.runtime.current n ≡ Ok (value.Input (stretch_at m.runtime.current.text span))) → IfSome found (λ span. IsAtHand a (value.Input (stretch_at m.runtime.current.text span)) m)
stretch_at_hand {m = m} n (Some span) field is = record { changes = same_changes _ _ (λ s holds. field.is s) (then_changes (λ k. read_field k) field.changes (field_changes n (still m.runtime) (ap of_record is))) }
stretch_at_hand n None field is = tt

-- the same, cut
pub cut_at_hand : {a : Operand} {m : Machine} (text field : List ℕ) (span : Span) → IsAtHand a (value.Input (stretch_at text span)) m → IsSpanOf text span → field ≡ drop span.start (take span.end text) → IsAtHand a (value.Input field) m
cut_at_hand {a = a} {m = m} text field span at within e = subst (λ (f : List ℕ). IsAtHand a (value.Input f) m) (drop_of_take text span.start span.end within.0 ∙ sym e) at

-- numbers

order_known : (x : Value) (m n : ℤ) → numeric_of x ≡ Some m → order_of x (value.Number n) ≡ order_of (value.Number m) (value.Number n)
order_known x m n e = ap (λ (found : Option ℤ). order_by found (Some n) (str_of x) (str_of (value.Number n))) e

pub numbers_related : (o : Operator) {k : Machine} {a b : Operand} (x : Value) (m n : ℤ) (r : Option Bool) → IsAtHand a x k → IsAtHand b (value.Number n) k → numeric_of x ≡ Some m
    → IfSome r (λ holds. applied o (value.Number m) (value.Number n) ≡ Ok (truth_value holds)) → IfSome r (λ holds. (u w : Value) → applied o u w ≡ Ok (truth_value (relates o (order_of u w)))) → IfSome r (λ holds. Relates (Infix o) a b holds k)
numbers_related o x m n r left right e holds relation = related_hand o r left right (related_as x (value.Number n) (value.Number m) (value.Number n) o r (order_known x m n e) holds relation)

pub number_known : {a : Operand} {m : Machine} {w : Value} {n : ℤ} → IsAtHand a w m → num_of w ≡ Ok n → HasNumber a n m
number_known {w = w} at is = record { value = w; at = at; number = is }

-- where an operator is applied
pub good_number : (o : AssignmentOperator) (a : Operand) (m : Machine) (r : Option ℤ) → o ≢ assignment.Plain → IfSome r (λ n. HasNumber a n m) → IfSome r (λ n. IsAsGood o a n m)
good_number o a m None other h = tt
good_number o a m (Some n) other h = record { found = h.value; at_hand = h.at; alike = number_alike o h.value (Some n) other (sym (ap result_ok h.number)) }

pub numbers_operated : (o : Operator) {a b : Operand} (m n : ℤ) {w : Value} {k mid behind k' : Machine} → mid ≡ k → behind ≡ mid → IsOfNumbers o → HasNumber a m k → HasNumber b n mid → applied o (value.Number m) (value.Number n) ≡ Ok w → Pushed w behind k' → Puts (v.OperateOn (Infix o) a b) k k'
numbers_operated o m n same next of left right e p = operated_on_puts same next left.at right.at (of left.value right.value m n left.number right.number ∙ e) p

-- matches

pub stretch_matched : {a : Operand} {ere : ℕ} {m m' : Machine} {text spelling : List ℕ} {holds : Bool} → IsAtHand a (value.Input text) m → spelling ≡ ere_at m.runtime.names ere → SameState m.runtime m'.runtime → m'.operands ≡ m.operands → m'.runtime.frames.callers ≡ m.runtime.frames.callers → matched (pattern_in spelling) text ≡ Ok holds → Compares (v.Matches a ere) m (Ok holds) m'
stretch_matched {a = a} {ere = ere} {m = m} {text = text} {holds = holds} at is same operands calls e = record {
  compares = (
    truth_value holds,
    truth_is holds,
    operand_matched a ere {m1 = m} (record { operands = refl; calls = refl; changes = at.changes }) operands calls (match_test (value.Input text) (Ok holds) is same e),
  );
}

pub stretches_matched : {a : Operand} (ere : ℕ) {m : Machine} (m' : Machine) {text : List ℕ} (found : Option Bool) → IsAtHand a (value.Input text) m → SameState m.runtime m'.runtime → m'.operands ≡ m.operands → m'.runtime.frames.callers ≡ m.runtime.frames.callers → IfSome found (λ holds. matched (pattern_in (ere_at m.runtime.names ere)) text ≡ Ok holds) → IfSome found (λ holds. Compares (v.Matches a ere) m (Ok holds) m')
stretches_matched ere m' (Some holds) at same operands calls e = stretch_matched at refl same operands calls e
stretches_matched ere m' None at same operands calls e = tt

-- behind what the definitions don't know

pub unless_some : {A P : Type 0} (found : Option A) → P → IfNone found P
unless_some (Some x) p = tt
unless_some None p = p

pub alike_self : (m : Machine) → StaysAlike m m
alike_self m = record { operands = refl; calls = refl; runtime = still m.runtime }

module _ (x : ValueNode) {m m1 : Machine} (m' : Machine) (same : StaysAlike m m1) where
  changes_alike : (tables : Tables) (functions : Functions) (r : Result Value Halt) → Changes (value_of (tables_in m1.runtime.names tables) functions x m1.operands.values) m1.runtime m'.runtime r → Changes (value_of (tables_in m.runtime.names tables) functions x m.operands.values) m.runtime m'.runtime r
  changes_alike tables functions r h =
      beside_then _ same.runtime (subst (λ (o : OperandsView). Changes (value_of (tables_in m.runtime.names tables) functions x o.values) m1.runtime m'.runtime r) same.operands
      (subst (λ (n : Naming). Changes (value_of (tables_in n tables) functions x m1.operands.values) m1.runtime m'.runtime r) same.runtime.beside.names h))

  computes_alike : (r : Result Value Halt) → Computes x m1 r m' → Computes x m r m'
  computes_alike (Ok w) c = record {
    operands = c.operands ∙ ap (λ (o : OperandsView). record o { values = drop (popped x) o.values }) same.operands;
    calls = c.calls ∙ same.calls;
    changes = λ tables functions. changes_alike tables functions (Ok w) (c.changes tables functions);
  }
  computes_alike (Err h) c = ended h (λ tables functions. changes_alike tables functions (Err h) (c.changes tables functions))

  alike_by : (r : Result Bool Halt) → ComparesBy x m1 r m' → ComparesBy x m r m'
  alike_by (Ok holds) c = (c.0, c.1, computes_alike (Ok c.0) c.2)
  alike_by (Err h) c = computes_alike (Err h) c

  pub compares_alike : (r : Result Bool Halt) → Compares x m1 r m' → Compares x m r m'
  compares_alike r c = record { compares = alike_by r c.compares }
