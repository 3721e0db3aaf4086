-- Matches that are exchanged in a variable, whose value is the topmost operand.
use Rattle.std.proofs.Common.{◌≡◌, ℕ, Bool, List, [], ◌∷◌, drop, Some, Result, Ok, Err, ap, ◌∙◌}
use Rattle.awk_value.specs.declared.value.Value.{Value}
use Rattle.awk_semantics.specs.declared.halt.Halt.{Halt}
use Rattle.awk_storage.specs.declared.position.Variable.{Variable}
use Rattle.awk_storage.specs.declared.position.Place.TheVariants as place
use Rattle.awk_resolve.specs.declared.node.ValueNode.TheVariants as v
use Rattle.awk_resolve.specs.Nodes.{Tables, first, second, taken, substitute_by}
use Rattle.awk_runtime.specs.Simulation.{Changes}
use Rattle.awk_evaluator.specs.declared.machine.Machine.{Machine}
use Rattle.awk_evaluator.specs.Rest.{tables_in}
use Rattle.awk_evaluator.specs.Moves.{Computes}
use Rattle.awk_evaluator.specs.Quick.{Puts}
use Rattle.awk_evaluator.proofs.Computing.{ended, second_is, drop_two}
use Rattle.awk_evaluator.proofs.Joining.{taken_two}

module _ (m m' : Machine) (all : Bool) (ere : ℕ) (x : Variable) {replacement old : Value} (two : taken 2 m.operands.values ≡ replacement ∷ (old ∷ [])) where
  exchanges : {r : Result Value Halt} (tables : Tables) → Changes (substitute_by (tables_in m.runtime.names tables) all (Some ere) (place.Variable x) replacement old (replacement ∷ [])) m.runtime m'.runtime r
      → Changes (substitute_by (tables_in m.runtime.names tables) all (Some ere) (place.Variable x) (second m.operands.values) (first m.operands.values) (drop 1 m.operands.values)) m.runtime m'.runtime r
  exchanges tables h =
      let both = taken_two m.operands.values replacement old two in
      rw (second_is m.operands.values, both.0, both.1) h

  pub substituted_puts : {w : Value} → ((tables : Tables) → Changes (substitute_by (tables_in m.runtime.names tables) all (Some ere) (place.Variable x) replacement old (replacement ∷ [])) m.runtime m'.runtime (Ok w))
      → m'.operands ≡ record m.operands { values = w ∷ drop 1 (drop 1 m.operands.values) } → m'.runtime.frames.callers ≡ m.runtime.frames.callers → Puts (v.Substitute all (Some ere) (Some (place.Variable x))) m m'
  substituted_puts {w = w} h operands calls = record {
    value = w;
    operands = operands ∙ ap (λ (vs : List Value). record m.operands { values = w ∷ vs }) (drop_two m.operands.values);
    calls = calls;
    changes = λ tables functions. exchanges tables (h tables);
  }

  pub substitute_ends : {h : Halt} → ((tables : Tables) → Changes (substitute_by (tables_in m.runtime.names tables) all (Some ere) (place.Variable x) replacement old (replacement ∷ [])) m.runtime m'.runtime (Err h)) → Computes (v.Substitute all (Some ere) (Some (place.Variable x))) m (Err h) m'
  substitute_ends e = ended _ (λ tables functions. exchanges tables (e tables))
