-- What a test asks.
use Rattle.std.specs.Prelude.{IfSome, IfNone}
use Rattle.std.proofs.Common.{◌≡◌, ℕ, ℤ, Bool, Option, Some, None, Result, Ok, Err, refl, sym, ap, ◌∙◌, subst}
use Rattle.awk_value.specs.declared.value.Value.{Value}
use Rattle.awk_value.specs.declared.value.Value.TheVariants as value
use Rattle.awk_value.specs.Values.{str_of, truth_of}
use Rattle.awk_lex.specs.declared.token.IncrementOperator.{IncrementOperator}
use Rattle.awk_semantics.specs.declared.halt.Halt.{Halt}
use Rattle.awk_semantics.specs.Operators.{truth_value}
use Rattle.awk_semantics.specs.Primitives.{is_inside}
use Rattle.awk_semantics.specs.State.{ret}
use Rattle.awk_storage.specs.declared.position.Array.{Array}
use Rattle.awk_storage.specs.Forms.{contains_at}
use Rattle.awk_resolve.specs.declared.node.Key.{Key}
use Rattle.awk_resolve.specs.declared.node.Target.{Target}
use Rattle.awk_resolve.specs.declared.node.Target.TheVariants as target
use Rattle.awk_resolve.specs.declared.node.Tested.TheVariants as tested
use Rattle.awk_resolve.specs.declared.node.ValueNode.TheVariants as v
use Rattle.awk_resolve.specs.Nodes.{first, key_value}
use Rattle.awk_resolve.proofs.Calculus.{assoc_at}
use Rattle.awk_runtime.specs.declared.runtime.Runtime.{Runtime}
use Rattle.awk_runtime.specs.Simulation.{Changes}
use Rattle.awk_runtime.proofs.Composition.{then_changes, ends_changes, lift_changes}
use Rattle.awk_runtime.proofs.Steps.{same_changes}
use Rattle.awk_evaluator.specs.declared.machine.Machine.{Machine}
use Rattle.awk_evaluator.specs.Moves.{Computes, truth_in}
use Rattle.awk_evaluator.specs.Reading.{ReadsKey, Raises, Asks}
use Rattle.awk_evaluator.specs.Quick.{IsKeyAtHand, Popped}
use Rattle.awk_evaluator.specs.Elements.{Acts, AnswersContains, RaisesAtKey}
use Rattle.awk_evaluator.proofs.Computing.{made_of}

-- the topmost value, and a range

pub top_asks : {m m' : Machine} {holds : Bool} → truth_of (first m.operands.values) ≡ holds → Popped m m' → Asks tested.Top m (Ok holds) m'
top_asks {m = m} {m' = m'} {holds = holds} truth p = record {
  operands = p.operands;
  calls = p.calls;
  changes = λ tables. subst (λ (y : Runtime). Changes (ret (truth_of (first m.operands.values))) m.runtime y (Ok holds)) (sym p.runtime) (lift_changes _ m.runtime (ap (λ x. Ok x) truth));
}

pub inside_asks : {i : ℕ} {m : Machine} {holds : Bool} → Changes (is_inside i) m.runtime m.runtime (Ok holds) → Asks (tested.Inside i) m (Ok holds) m
inside_asks h = record { operands = refl; calls = refl; changes = λ tables. h }

-- a number that is raised or lowered

pub raised_asks : {o : IncrementOperator} {a : Array} {k : Key} {n : ℤ} {m m' : Machine} {holds : Bool} → truth_of (value.Number n) ≡ holds → RaisesAtKey o a k m n m' → Asks (tested.Raised o (target.Element a k)) m (Ok holds) m'
raised_asks {m' = m'} truth h = record {
  operands = h.operands;
  calls = h.calls;
  changes = λ tables. then_changes _ (then_changes _ h.at_hand.changes h.raises) (lift_changes _ m'.runtime (ap (λ x. Ok x) truth));
}

raises_by : (o : IncrementOperator) (t : Target) {m m' : Machine} (r : Result Value Halt) → Raises o t m r m' → Asks (tested.Raised o t) m (truth_in r) m'
raises_by o t {m' = m'} (Ok w) h = record { operands = h.operands; calls = h.calls; changes = λ tables. then_changes _ h.changes (lift_changes _ m'.runtime refl) }
raises_by o t (Err e) h = record { operands = tt; calls = tt; changes = λ tables. ends_changes _ h.changes }

pub raises_ask : (o : IncrementOperator) (t : Target) {m m' : Machine} (r : Result Value Halt) {s : Result Bool Halt} → s ≡ truth_in r → Raises o t m r m' → Asks (tested.Raised o t) m s m'
raises_ask o t {m = m} {m' = m'} r is h = subst (λ (q : Result Bool Halt). Asks (tested.Raised o t) m q m') (sym is) (raises_by o t r h)

-- an element

-- nothing changes where it is answered whether there is one, or where it isn't
pub answered_alike : (a : Array) (k : Key) {m m' : Machine} (found : Option (Option Bool)) → IfSome found (λ answer. Acts (λ w. IsKeyAtHand k w m) (λ key old answer new. AnswersContains a key old answer new) m answer m') → IfNone found (m' ≡ m) → m' ≡ m
answered_alike a k None some none = none
answered_alike a k (Some answer) some none = some.acted.same

module _ (a : Array) (k : Key) {m : Machine} where
  pub found_asks : {w : Value} {found : Bool} → IsKeyAtHand k w m → Changes (contains_at a (str_of w)) m.runtime m.runtime (Ok found) → Asks (tested.Element a k) m (Ok found) m
  found_asks at h = record { operands = refl; calls = refl; changes = λ tables. then_changes _ at.changes h }

  pub key_ends : {m' : Machine} {h : Halt} → ReadsKey k m (Err h) m' → Asks (tested.Element a k) m (Err h) m'
  key_ends q = record { operands = tt; calls = tt; changes = λ tables. ends_changes _ q.changes }

  pub key_asks : {m1 m' : Machine} {w : Value} (r : Result Bool Halt) → ReadsKey k m (Ok w) m1 → Changes (contains_at a (str_of w)) m1.runtime m'.runtime r → m'.operands ≡ m1.operands → Asks (tested.Element a k) m r m'
  key_asks (Ok found) q h operands = record { operands = operands ∙ q.operands; calls = h.callers ∙ q.calls; changes = λ tables. then_changes _ q.changes h }
  key_asks (Err e) q h operands = record { operands = tt; calls = tt; changes = λ tables. then_changes _ q.changes h }

  -- whose answer is the value of a node

  pub contains_asked : {m' : Machine} {found : Bool} → Asks (tested.Element a k) m (Ok found) m' → Computes (v.Contains a (Some k)) m (Ok (truth_value found)) m'
  contains_asked {found = found} h = record {
    operands = h.operands;
    calls = h.calls;
    changes = λ tables functions. same_changes _ _ (λ s holds. sym (assoc_at (key_value m.runtime.names.scalars k) (λ w. contains_at a (str_of w)) (λ b. ret (truth_value b)) s)) (made_of truth_value found (h.changes tables));
  }

  pub contains_ends : {m' : Machine} {e : Halt} → Asks (tested.Element a k) m (Err e) m' → Computes (v.Contains a (Some k)) m (Err e) m'
  contains_ends h = record {
    operands = tt;
    calls = tt;
    changes = λ tables functions. same_changes _ _ (λ s holds. sym (assoc_at (key_value m.runtime.names.scalars k) (λ w. contains_at a (str_of w)) (λ b. ret (truth_value b)) s)) (ends_changes _ (h.changes tables));
  }
