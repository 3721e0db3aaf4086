-- Operands that are fields.
use Rattle.std.proofs.Common.{◌≡◌, ℕ, ℤ, pos, Option, Some, None, Ok, refl, sym, subst}
use Rattle.std.specs.Prelude.{IfSome}
use Rattle.awk_value.specs.declared.value.Value.{Value}
use Rattle.awk_value.specs.declared.value.Value.TheVariants.{Number}
use Rattle.awk_semantics.specs.State.{◌>>=◌, ret}
use Rattle.awk_semantics.specs.Primitives.{number_of, read_field}
use Rattle.awk_storage.specs.declared.position.Variable.{Variable}
use Rattle.awk_storage.specs.Positions.{read_variable}
use Rattle.awk_resolve.specs.declared.node.Operand.{Operand}
use Rattle.awk_resolve.specs.declared.node.Operand.TheVariants as operand
use Rattle.awk_resolve.proofs.Calculus.{assoc_at, given}
use Rattle.awk_runtime.specs.declared.runtime.Runtime.{Runtime}
use Rattle.awk_runtime.specs.Simulation.{Changes}
use Rattle.awk_runtime.proofs.Composition.{then_changes, lift_changes}
use Rattle.awk_runtime.proofs.Steps.{same_changes}
use Rattle.awk_evaluator.specs.declared.machine.Machine.{Machine}
use Rattle.awk_evaluator.specs.Quick.{IsAtHand, IsFieldOf}

pub field_known : {m : Machine} (k : ℕ) → IsFieldOf (operand.Field k) (pos k) m
field_known {m = m} k = record { number = ret (pos k); changes = lift_changes (Ok (pos k)) m.runtime refl; is = λ s. sym (given (pos k) (λ n. read_field n) s) }

pub field_at : {m : Machine} {x : Variable} (n : ℤ) → Changes (read_variable m.runtime.names.scalars x) m.runtime m.runtime (Ok (Number n)) → IsFieldOf (operand.FieldAt x) n m
field_at {m = m} {x = x} n h = record {
  number = read_variable m.runtime.names.scalars x >>= λ w. number_of w;
  changes = then_changes _ h (lift_changes (Ok n) m.runtime refl);
  is = λ s. sym (assoc_at (read_variable m.runtime.names.scalars x) (λ w. number_of w) (λ n. read_field n) s);
}

pub fields_at : (m : Machine) (x : Variable) (found : Option ℤ) → IfSome found (λ n. Changes (read_variable m.runtime.names.scalars x) m.runtime m.runtime (Ok (Number n))) → IfSome found (λ n. IsFieldOf (operand.FieldAt x) n m)
fields_at m x (Some n) h = field_at n h
fields_at m x None h = tt

-- the field of a number that is at hand
pub field_found : {a : Operand} {m : Machine} {r : Runtime} (n : ℤ) (found : Option Value) → IsFieldOf a n m → r ≡ m.runtime → IfSome found (λ w. Changes (read_field n) m.runtime r (Ok w)) → IfSome found (λ w. IsAtHand a w m)
field_found {a = a} {m = m} n (Some w) field same h = record {
  changes = same_changes _ _ (λ s holds. field.is s) (then_changes (λ k. read_field k) field.changes (subst (λ (x : Runtime). Changes (read_field n) m.runtime x (Ok w)) same h));
}
field_found n None field same h = tt
