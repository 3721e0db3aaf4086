-- The quick moves.
use Rattle.std.specs.Prelude.{IfSome}
use Rattle.std.proofs.Common.{◌≡◌, Bool, Option, Some, None, Ok, sym, subst}
use Rattle.awk_value.specs.declared.value.Value.{Value}
use Rattle.awk_lex.specs.declared.token.Operator.{Operator}
use Rattle.awk_grammar.specs.declared.tree.BinaryOperator.TheVariants.{Infix}
use Rattle.awk_semantics.specs.Operators.{applied, truth_value}
use Rattle.awk_resolve.specs.declared.node.Operand.{Operand}
use Rattle.awk_resolve.specs.declared.node.ValueNode.{ValueNode}
use Rattle.awk_resolve.specs.Nodes.{first, operated_with}
use Rattle.awk_runtime.specs.Simulation.{Changes}
use Rattle.awk_runtime.proofs.Composition.{then_changes, lift_changes}
use Rattle.awk_evaluator.specs.declared.machine.Machine.{Machine}
use Rattle.awk_evaluator.specs.Quick.{IsAtHand, Puts, Relates, RelatesWith}
use Rattle.awk_evaluator.proofs.Moving.{no_tables, no_functions}

-- how values at hand are related

pub related_hand : (o : Operator) {m : Machine} {a b : Operand} {x y : Value} (r : Option Bool) → IsAtHand a x m → IsAtHand b y m → IfSome r (λ holds. applied o x y ≡ Ok (truth_value holds)) → IfSome r (λ holds. Relates (Infix o) a b holds m)
related_hand o {m = m} (Some holds) left right e = record { changes = then_changes _ left.changes (then_changes _ right.changes (lift_changes _ m.runtime e)) }
related_hand o None left right e = tt

pub related_with_hand : (o : Operator) {m : Machine} {b : Operand} {x y : Value} (r : Option Bool) → first m.operands.values ≡ x → IsAtHand b y m → IfSome r (λ holds. applied o x y ≡ Ok (truth_value holds)) → IfSome r (λ holds. RelatesWith (Infix o) b holds m)
related_with_hand o {m = m} {b = b} (Some holds) top right e = record {
  changes = subst (λ (v : Value). Changes (operated_with m.runtime.names.scalars (Infix o) v b) m.runtime m.runtime (Ok (truth_value holds))) (sym top) (then_changes _ right.changes (lift_changes _ m.runtime e));
}
related_with_hand o None top right e = tt

-- the streams stay as they are

pub puts_streams : {x : ValueNode} {m m' : Machine} → Puts x m m' → m'.runtime.streams ≡ m.runtime.streams
puts_streams p = (p.changes no_tables no_functions).streams
