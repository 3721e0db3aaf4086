-- Keys and targets that are read where they stand are those of the language.
use Rattle.std.proofs.Common.{◌≡◌, ℕ, true, List, [], refl, sym, ap, ◌∙◌}
use Rattle.awk_value.specs.declared.value.Value.{Value}
use Rattle.awk_value.specs.declared.value.Value.TheVariants as value
use Rattle.awk_lex.specs.declared.token.AssignmentOperator.{AssignmentOperator}
use Rattle.awk_lex.specs.declared.token.IncrementOperator.{IncrementOperator}
use Rattle.awk_grammar.specs.declared.tree.BinaryOperator.TheVariants.{Concatenate}
use Rattle.awk_grammar.specs.Tree.{Expr, Binary, Assign, PostIncrement, Exprs}
use Rattle.awk_kinds.specs.definitions.Kinds.{FormalParameter}
use Rattle.awk_kinds.specs.definitions.Signatures.{ProgramKinds}
use Rattle.awk_semantics.specs.definitions.State.{State, Run, ◌>>=◌, ret}
use Rattle.awk_semantics.specs.definitions.Operators.{operator_of}
use Rattle.awk_semantics.specs.definitions.Places.{Place as Target, AName, assign_by, post_increment}
use Rattle.awk_semantics.specs.definitions.Semantics.{Functions, eval, place_of, eval_all}
use Rattle.awk_semantics.proofs.KeepsForms.{keeps_eval}
use Rattle.awk_storage.specs.declared.position.Place.{Place}
use Rattle.awk_storage.specs.declared.position.Place.TheVariants as place
use Rattle.awk_storage.specs.support.Positions.{assign_by_at, post_increment_at}
use Rattle.awk_resolve.specs.declared.builder.Builder.{Builder}
use Rattle.awk_resolve.specs.declared.node.Operand.{Operand}
use Rattle.awk_resolve.specs.declared.node.Key.{Key}
use Rattle.awk_resolve.specs.declared.node.Key.TheVariants as key
use Rattle.awk_resolve.specs.declared.node.Target.{Target as NodeTarget}
use Rattle.awk_resolve.specs.declared.node.Target.TheVariants as target
use Rattle.awk_resolve.specs.support.Nodes.{operand_value, key_value, first, assign_target, raise_target}
use Rattle.awk_resolve.specs.support.Builds.{Grows, IsIn, Program, key_value as subscripts_value, IsAt, IsOperandOf}
use Rattle.awk_resolve.specs.support.Parts.{is_concatenation, parts_of}
use Rattle.awk_resolve.specs.support.Targets.{IsKeyOf, IsTargetOf}
use Rattle.awk_resolve.proofs.Calculus.{later_in, first_same, given}
use Rattle.awk_resolve.proofs.Positions.{at_variable, element_is_place, assigned_by, incremented}
use Rattle.awk_resolve.proofs.PartForms.{texts, concatenated}
use Rattle.awk_resolve.proofs.PrintStatements.{values_then}

-- a concatenation is the texts of its parts in a row
joined : (functions : Functions) (e : Expr) → is_concatenation e ≡ true → (s : State) → (eval_all functions [] (parts_of e) >>= λ ws. ret (value.Text (texts ws))) s ≡ eval functions e s
joined functions (Binary Concatenate a b) h s = sym (concatenated functions a b s)
joined functions e h s = absurd (cc)

module _ (names : List (List ℕ)) where
  -- what is done with a position and its operand, where these are a target's
  abbrev with_target : NodeTarget → (Place → Value → Run Value) → Run Value
  with_target (target.Variable x) f = f (place.Variable x) value.Nothing
  with_target (target.Element a k) f = key_value names k >>= λ w. f (place.Element a) w

  abbrev assigned_at : AssignmentOperator → Operand → Place → Value → Run Value
  assigned_at o a r w = operand_value names a >>= λ v. assign_by_at names (operator_of o) r w v

  assign_spelled : (o : AssignmentOperator) (a : Operand) (t : NodeTarget) (s : State) → assign_target names o t a s ≡ with_target t (assigned_at o a) s
  assign_spelled o a (target.Variable v) s = refl
  assign_spelled o a (target.Element e k) s = refl

  raise_spelled : (o : IncrementOperator) (t : NodeTarget) (s : State) → raise_target names o t s ≡ with_target t (λ r w. post_increment_at names o r w) s
  raise_spelled o (target.Variable v) s = refl
  raise_spelled o (target.Element e k) s = refl

module _ {kinds : ProgramKinds} {parameters : List FormalParameter} (p : Program kinds) {b : Builder} (g : Grows b p.all) where
  -- a key is the value of the subscripts
  pub key_read : (k : Key) (es : Exprs) → IsKeyOf kinds parameters b k es → (m : ℕ) (s : State) → IsIn p.tables parameters m s → key_value p.tables.names k s ≡ subscripts_value p.functions es s
  key_read (key.At a) es is m s i = is.stands.is p g m s i ∙ ap (λ (list : Exprs). subscripts_value p.functions list s) (sym is.is)
  key_read (key.Joined list) es is m s i =
      values_then p g list.items (parts_of is.subscript) is.stand (λ ws. ret (value.Text (texts ws))) m s i
      ∙ joined p.functions is.subscript is.joined s
      ∙ ap (λ (l : Exprs). subscripts_value p.functions l s) (sym is.is)

  pub key_then : {B : Type 0} (k : Key) (es : Exprs) → IsKeyOf kinds parameters b k es → (f : Value → Run B) (m : ℕ) (s : State) → IsIn p.tables parameters m s
      → (key_value p.tables.names k >>= f) s ≡ (subscripts_value p.functions es >>= f) s
  key_then k es is f m s i = first_same (key_value p.tables.names k) (subscripts_value p.functions es) f s (key_read k es is m s i)

  -- what is done with a target's position is done with the place that it is
  target_then : (t : NodeTarget) (e : Expr) → IsTargetOf kinds parameters b t e → (f : Target → Run Value) (f' : Place → Value → Run Value) (m : ℕ) (s : State) → IsIn p.tables parameters m s
      → ((q : Target) (r : Place) (w : Value) (u : State) → IsIn p.tables parameters m u → IsAt p parameters q r w → f q u ≡ f' r w u) → with_target p.tables.names t f' s ≡ (place_of p.functions e >>= f) s
  unfolding place_of
  target_then (target.Variable v) e is f f' m s i same =
      sym (given (AName is.name) f s ∙ same (AName is.name) (place.Variable v) value.Nothing s i (at_variable g is.variable))
      ∙ ap (λ x. (place_of p.functions x >>= f) s) (sym is.is)
  target_then (target.Element a k) e is f f' m s i same =
      key_then k is.subscripts is.key (λ w. f' (place.Element a) w) m s i
      ∙ sym ((element_is_place is.subscripts is.array).is p g f (λ ws. f' (place.Element a) (first ws)) m [] s i (λ q ws u j at d. same q (place.Element a) (first ws) u j at))
      ∙ ap (λ x. (place_of p.functions x >>= f) s) (sym is.is)

  -- a target gets an operand as the place gets the expression's value
  pub target_assigned : (o : AssignmentOperator) (t : NodeTarget) (x : Expr) → IsTargetOf kinds parameters b t x → (a : Operand) (y : Expr) → IsOperandOf kinds parameters b a y → (m : ℕ) (s : State) → IsIn p.tables parameters m s
      → assign_target p.tables.names o t a s ≡ eval p.functions (Assign o x y) s
  unfolding eval
  target_assigned o t x is a y right m s i =
      assign_spelled p.tables.names o a t s
      ∙ target_then t x is (λ q. eval p.functions y >>= λ w. assign_by (operator_of o) q w) (assigned_at p.tables.names o a) m s i (λ q r w u j at.
      later_in _ _ u m (keeps_eval p.functions p.calls.keep y) j (λ v u' l. assigned_by at (operator_of o) m v u' l)
      ∙ first_same (eval p.functions y) (operand_value p.tables.names a) (λ v. assign_by_at p.tables.names (operator_of o) r w v) u (sym (right.is p g m u j)))

  -- and is raised as the place is
  pub target_raised : (o : IncrementOperator) (t : NodeTarget) (x : Expr) → IsTargetOf kinds parameters b t x → (m : ℕ) (s : State) → IsIn p.tables parameters m s → raise_target p.tables.names o t s ≡ eval p.functions (PostIncrement o x) s
  unfolding eval
  target_raised o t x is m s i = raise_spelled p.tables.names o t s ∙ target_then t x is (λ q. post_increment o q) (λ r w. post_increment_at p.tables.names o r w) m s i (λ q r w u j at. incremented at o m u j)
