-- What reads an element at a key that is read where it stands, or raises a target, is the expression.
use Rattle.std.proofs.Common.{◌≡◌, ℕ, Bool, true, false, List, [], drop, Some, refl, sym, ap, ◌∙◌, arith}
use Rattle.awk_value.specs.declared.value.Value.{Value}
use Rattle.awk_value.specs.Values.{str_of, truth_of}
use Rattle.awk_lex.specs.declared.token.IncrementOperator.{IncrementOperator}
use Rattle.awk_grammar.specs.Tree.{Expr, Element, PostIncrement, Membership, Exprs}
use Rattle.awk_kinds.specs.definitions.Kinds.{FormalParameter}
use Rattle.awk_kinds.specs.definitions.Signatures.{ProgramKinds}
use Rattle.awk_semantics.specs.definitions.State.{State, Run, ◌>>=◌, ret}
use Rattle.awk_semantics.specs.definitions.Operators.{truth_value}
use Rattle.awk_semantics.specs.definitions.Primitives.{has_element}
use Rattle.awk_semantics.specs.definitions.Semantics.{choose, eval}
use Rattle.awk_semantics.proofs.KeepsForms.{keeps_eval, keeps_key_of}
use Rattle.awk_storage.specs.declared.position.Array.{Array}
use Rattle.awk_storage.specs.support.Positions.{read_element_of}
use Rattle.awk_storage.specs.support.Forms.{contains_at}
use Rattle.awk_resolve.specs.declared.builder.Builder.{Builder}
use Rattle.awk_resolve.specs.declared.node.Operand.{Operand}
use Rattle.awk_resolve.specs.declared.node.Key.{Key}
use Rattle.awk_resolve.specs.declared.node.Key.TheVariants as key
use Rattle.awk_resolve.specs.declared.node.Target.{Target}
use Rattle.awk_resolve.specs.declared.node.Tested.{Tested}
use Rattle.awk_resolve.specs.declared.node.Tested.TheVariants as asks
use Rattle.awk_resolve.specs.declared.node.ValueNode.TheVariants as v
use Rattle.awk_resolve.specs.declared.node.Node.TheVariants as n
use Rattle.awk_resolve.specs.support.Nodes.{operand_value, raise_target, asked, asked_operands}
use Rattle.awk_resolve.specs.support.Builds.{Grows, Pushes, Extends, IsIn, Program, Evaluate, Decide, place_in, Builds, IsArrayOf, FindsAnOperand, Stands}
use Rattle.awk_resolve.specs.support.Targets.{FindsAKey, FindsATarget}
use Rattle.awk_resolve.proofs.Calculus.{assoc_at, later_same, later_in, first_same, given}
use Rattle.awk_resolve.proofs.Building.{grows, extends, still, placed, at_once}
use Rattle.awk_resolve.proofs.Elements.{reads_element, has_the_element}
use Rattle.awk_resolve.proofs.ValueLists.{keyed}
use Rattle.awk_resolve.proofs.Taking.{node, evaluates}
use Rattle.awk_resolve.proofs.ExpressionForms.{takes_behind}
use Rattle.awk_resolve.proofs.KeyForms.{key_then, target_raised}

module _ {kinds : ProgramKinds} {parameters : List FormalParameter} {a b c : Builder} {i next : ℕ} (h : Stands next a) where
  pub element_read : {array : Array} {x : List ℕ} {es : Exprs} {k : Key} → IsArrayOf kinds parameters array x → FindsAKey kinds parameters a b k es → Pushes b c (n.Value (v.ReadElement array (Some k)) next) i → Builds kinds parameters a c i (Evaluate (Element x es) next)
  unfolding eval
  element_read {array = array} {x = x} {es = es} {k = k} is f q =
      let t = node (still f.extends h) q in
      evaluates (takes_behind f.extends t) (λ vs. refl) (Element x es) (λ p g m vs s l.
      key_then p (grows t.extends.grows g) k es f.is (λ w. read_element_of array (str_of w)) m s l
      ∙ keyed p.functions es (λ text. read_element_of array text) s
      ∙ later_in _ _ s m (keeps_key_of p.functions p.calls.keep [] es) l (λ text u j. sym (reads_element array x u (is.is p m u j) text)))

  pub operand_contained : {array : Array} {x : List ℕ} {e : Expr} {o : Operand} → IsArrayOf kinds parameters array x → FindsAnOperand kinds parameters a b o e → Pushes b c (n.Value (v.Contains array (Some (key.At o))) next) i
      → Builds kinds parameters a c i (Evaluate (Membership e x) next)
  unfolding eval
  operand_contained {array = array} {x = x} {e = e} {o = o} is f q =
      let t = node (still f.extends h) q in
      evaluates (takes_behind f.extends t) (λ vs. refl) (Membership e x) (λ p g m vs s l.
      first_same (operand_value p.tables.names o) (eval p.functions e) (λ w. contains_at array (str_of w) >>= λ y. ret (truth_value y)) s (f.is.is p (grows t.extends.grows g) m s l)
      ∙ later_in _ _ s m (keeps_eval p.functions p.calls.keep e) l (λ w u j. first_same _ _ _ u (sym (has_the_element array x u (is.is p m u j) (str_of w)))))

  pub target_post_incremented : {x : Expr} {r : Target} → (o : IncrementOperator) → FindsATarget kinds parameters a b r x → Pushes b c (n.Value (v.PostIncrementAt o r) next) i → Builds kinds parameters a c i (Evaluate (PostIncrement o x) next)
  target_post_incremented {x = x} {r = r} o f q =
      let t = node (still f.extends h) q in
      evaluates (takes_behind f.extends t) (λ vs. refl) (PostIncrement o x) (λ p g m vs s l. target_raised p (grows t.extends.grows g) o r x f.is m s l)

-- what is tested without a value

module _ {kinds : ProgramKinds} {parameters : List FormalParameter} {a b c : Builder} {i here other : ℕ} {x : Tested} (h : Stands here a) (h' : Stands other a) where
  -- what asks whether an expression is true tests the expression
  asked_built : (e : Expr) → Extends a b → Pushes b c (n.Test x here other) i → ((vs : List Value) → drop (asked_operands x) vs ≡ vs)
      → ((p : Program kinds) → Grows c p.all → (f : Bool → Run Value) (m : ℕ) (vs : List Value) (s : State) → IsIn p.tables parameters m s → (asked p.tables x vs >>= f) s ≡ (eval p.functions e >>= λ w. f (truth_of w)) s)
      → Builds kinds parameters a c i (Decide e here other)
  asked_built e g q same is =
      let below = still g h in
      let below' = still g h' in
      let o = placed q (below.below, below'.below) in
      record {
        extends = extends g o.extends;
        below = o.below;
        pos = (let k = o.fresh in let l = below.below in omega (arith, k, l));
        is = λ p k m vs s l.
            at_once (o.is p k m) vs s
            ∙ ap (λ (ws : List Value). (asked p.tables x vs >>= λ holds. choose holds (place_in p m here ws) (place_in p m other ws)) s) (same vs)
            ∙ is p k (λ holds. choose holds (place_in p m here vs) (place_in p m other vs)) m vs s l;
      }

truth_kept : (b : Bool) → truth_of (truth_value b) ≡ b
truth_kept true = refl
truth_kept false = refl

truth_then : {B : Type 0} (m : Run Bool) (f : Bool → Run B) (s : State) → ((m >>= λ y. ret (truth_value y)) >>= λ w. f (truth_of w)) s ≡ (m >>= f) s
truth_then m f s =
    assoc_at m (λ y. ret (truth_value y)) (λ w. f (truth_of w)) s
    ∙ later_same m _ _ s (λ y u. given (truth_value y) (λ w. f (truth_of w)) u ∙ ap (λ b. f b u) (truth_kept y))

module _ {kinds : ProgramKinds} {parameters : List FormalParameter} {a b c : Builder} {i here other : ℕ} (h : Stands here a) (h' : Stands other a) where
  pub target_raise_tested : {x : Expr} {r : Target} → (o : IncrementOperator) → FindsATarget kinds parameters a b r x → Pushes b c (n.Test (asks.Raised o r) here other) i → Builds kinds parameters a c i (Decide (PostIncrement o x) here other)
  target_raise_tested {x = x} {r = r} o f q =
      let behind_test = (placed {kinds = kinds} q ((still f.extends h).below, (still f.extends h').below)).extends in
      asked_built h h' (PostIncrement o x) f.extends q (λ vs. refl) (λ p g k m vs s l.
      let raised = raise_target p.tables.names o r in
      assoc_at raised (λ w. ret (truth_of w)) k s
      ∙ later_same raised _ _ s (λ w u. given (truth_of w) k u)
      ∙ first_same raised (eval p.functions (PostIncrement o x)) (λ w. k (truth_of w)) s (target_raised p (grows behind_test.grows g) o r x f.is m s l))

  pub operand_contained_tested : {array : Array} {x : List ℕ} {e : Expr} {o : Operand} → IsArrayOf kinds parameters array x → FindsAnOperand kinds parameters a b o e → Pushes b c (n.Test (asks.Element array (key.At o)) here other) i
      → Builds kinds parameters a c i (Decide (Membership e x) here other)
  unfolding eval
  operand_contained_tested {array = array} {x = x} {e = e} {o = o} is f q =
      let behind_test = (placed {kinds = kinds} q ((still f.extends h).below, (still f.extends h').below)).extends in
      asked_built h h' (Membership e x) f.extends q (λ vs. refl) (λ p g k m vs s l.
      assoc_at (operand_value p.tables.names o) (λ w. contains_at array (str_of w)) k s
      ∙ first_same (operand_value p.tables.names o) (eval p.functions e) (λ w. contains_at array (str_of w) >>= k) s (f.is.is p (grows behind_test.grows g) m s l)
      ∙ later_in _ _ s m (keeps_eval p.functions p.calls.keep e) l (λ w u j.
      first_same (contains_at array (str_of w)) (has_element x (str_of w)) k u (sym (has_the_element array x u (is.is p m u j) (str_of w)))
      ∙ sym (truth_then (has_element x (str_of w)) k u))
      ∙ sym (assoc_at (eval p.functions e) (λ w. has_element x (str_of w) >>= λ y. ret (truth_value y)) (λ w. k (truth_of w)) s))
