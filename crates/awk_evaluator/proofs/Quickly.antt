-- What is done with what is at hand.
use Rattle.std.proofs.Common.{◌≡◌, ℕ, Bool, true, false, ◌∷◌, drop, refl, sym, ap, ◌∙◌}
use Rattle.awk_value.specs.Values.{truth_of}
use Rattle.awk_streams.specs.WorldState.{WorldState}
use Rattle.awk_semantics.specs.Operators.{truth_value}
use Rattle.awk_resolve.specs.declared.node.Node.TheVariants as n
use Rattle.awk_resolve.specs.declared.node.ValueNode.{ValueNode}
use Rattle.awk_resolve.specs.declared.plan.Plan.{Plan}
use Rattle.awk_resolve.specs.Nodes.{value_of, popped}
use Rattle.awk_runtime.proofs.Composition.{change_simulates}
use Rattle.awk_evaluator.specs.declared.machine.Machine.{Machine}
use Rattle.awk_evaluator.specs.declared.machine.Move.TheVariants as move
use Rattle.awk_evaluator.specs.Operands.{OperandsView}
use Rattle.awk_evaluator.specs.Rest.{AtNode, cont}
use Rattle.awk_evaluator.specs.Moves.{seen_of, Moves}
use Rattle.awk_evaluator.specs.Quick.{Puts}
use Rattle.awk_evaluator.proofs.Moving.{leads_on}

pub truth_is : (b : Bool) → truth_of (truth_value b) ≡ b
truth_is true = refl
truth_is false = refl

-- values that are put on the stack

module _ {is_logged : Type 0} {plan : Plan} {m m' : Machine} {k : WorldState} {i : ℕ} where
  pub put_on : {x : ValueNode} → Puts x m m' → Moves is_logged plan (AtNode (n.Value x i)) m k (move.On i) m' k
  put_on {x = x} p = record {
    moves = record {
      less = λ at low. low;
      calls = p.calls;
      leads = leads_on (λ tables functions. value_of tables functions x m.operands.values) (λ tables ds b u. cont tables ds plan b i (u ∷ drop (popped x) m.operands.values)) (λ tables ds b. refl)
          (λ tables functions. change_simulates (p.changes tables functions))
          (λ tables ds b. ap (λ (o : OperandsView). cont tables ds plan b i o.values) (sym p.operands))
          (ap (λ es. seen_of m'.operands es) p.calls ∙ ap (λ (o : OperandsView). seen_of o m.runtime.frames.callers) p.operands);
    };
  }
