-- Operands that are read where they stand.
use Rattle.std.proofs.Common.{◌≡◌, ℕ, ℤ, pos, true, false, not, ◌&&◌, is_none, List, drop, None, refl, sym, subst, ap, ◌∙◌}
use Rattle.awk_value.specs.declared.value.Value.{Value}
use Rattle.awk_value.specs.declared.value.Value.TheVariants as value
use Rattle.awk_lex.specs.declared.token.Operator.TheVariants as o
use Rattle.awk_grammar.specs.declared.tree.BinaryOperator.{BinaryOperator}
use Rattle.awk_grammar.specs.declared.tree.BinaryOperator.TheVariants.{Concatenate, Infix}
use Rattle.awk_grammar.specs.Tree.{Expr, Number, String, Ere, Name, Field, Binary}
use Rattle.awk_kinds.specs.definitions.Kinds.{FormalParameter}
use Rattle.awk_kinds.specs.definitions.Signatures.{ProgramKinds}
use Rattle.awk_semantics.specs.definitions.State.{State, ◌>>=◌, lift}
use Rattle.awk_semantics.specs.definitions.Operators.{applied}
use Rattle.awk_semantics.specs.definitions.Primitives.{number_of, read_name, read_field}
use Rattle.awk_semantics.specs.definitions.Semantics.{eval}
use Rattle.awk_semantics.proofs.KeepsForms.{keeps_eval}
use Rattle.awk_storage.specs.declared.position.Variable.{Variable}
use Rattle.awk_storage.specs.support.Positions.{read_variable}
use Rattle.awk_resolve.specs.declared.builder.Builder.{Builder}
use Rattle.awk_resolve.specs.declared.node.Operand.{Operand}
use Rattle.awk_resolve.specs.declared.node.Operand.TheVariants as operand
use Rattle.awk_resolve.specs.declared.node.ValueNode.TheVariants as v
use Rattle.awk_resolve.specs.declared.node.Node.{Node}
use Rattle.awk_resolve.specs.declared.node.Node.TheVariants as n
use Rattle.awk_resolve.specs.support.Nodes.{operand_value, operated_with, operated_on, operated, ere_at, value_of}
use Rattle.awk_resolve.specs.support.Builds.{Grows, Pushes, AddsEre, Extends, IsIn, Program, Evaluate, Decide, Builds, FindsVariable, IsOperandOf, FindsAnOperand, Stands}
use Rattle.awk_resolve.specs.support.Operands.{is_and, is_or, matching_operator, is_strict}
use Rattle.awk_resolve.proofs.Calculus.{later_same, later_in, first_same, given}
use Rattle.awk_resolve.proofs.Building.{grows, extends, same, still}
use Rattle.awk_resolve.proofs.Taking.{Goal, Takes, node, match_node, compare_with_node, compare_node, value_first, alike, decides, evaluates}
use Rattle.awk_resolve.proofs.ExpressionForms.{takes_behind, ere_added, ere_there, applied_strictly}

-- nothing was built before a node
pub nothing_before : {a b c : Builder} {x : Node} {i : ℕ} → b ≡ a → Pushes b c x i → Pushes a c x i
nothing_before {c = c} {x = x} {i = i} e q = subst (λ (z : Builder). Pushes z c x i) e q

module _ {kinds : ProgramKinds} {parameters : List FormalParameter} where
  pub number_operand : {a : Builder} (k : ℤ) → FindsAnOperand kinds parameters a a (operand.Constant (value.Number k)) (Number k)
  unfolding eval
  number_operand k = record { extends = same; is = record { is = λ p g m s l. refl } }

  pub string_operand : {a : Builder} (text : List ℕ) → FindsAnOperand kinds parameters a a (operand.Constant (value.Text text)) (String text)
  unfolding eval
  string_operand text = record { extends = same; is = record { is = λ p g m s l. refl } }

  pub name_operand : {a b : Builder} {x : List ℕ} {variable : Variable} → FindsVariable kinds parameters a b variable x → FindsAnOperand kinds parameters a b (operand.Variable variable) (Name x)
  unfolding eval
  name_operand f = record { extends = f.extends; is = record { is = λ p g m s l. sym (f.is.reads p g m s l) } }

  pub numbered_field_operand : {a : Builder} (k : ℕ) → FindsAnOperand kinds parameters a a (operand.Field k) (Field (Number (pos k)))
  unfolding eval
  numbered_field_operand k = record {
    extends = same;
    is = record { is = λ p g m s l. sym (given (value.Number (pos k)) (λ w. number_of w >>= λ z. read_field z) s ∙ given (pos k) (λ z. read_field z) s) };
  }

  pub named_field_operand : {a b : Builder} {x : List ℕ} {variable : Variable} → FindsVariable kinds parameters a b variable x → FindsAnOperand kinds parameters a b (operand.FieldAt variable) (Field (Name x))
  unfolding eval
  named_field_operand {x = x} {variable = variable} f = record {
    extends = f.extends;
    is = record { is = λ p g m s l. first_same (read_variable p.tables.names variable) (read_name x) (λ w. number_of w >>= λ k. read_field k) s (sym (f.is.reads p g m s l)) };
  }

  -- an operand is put on the stack
  pub operand_lowered : {a b c : Builder} {i next : ℕ} {e : Expr} {found : Operand} → Stands next a → FindsAnOperand kinds parameters a b found e → Pushes b c (n.Value (v.Put found) next) i → Builds kinds parameters a c i (Evaluate e next)
  operand_lowered {e = e} h f q =
      let t = node (still f.extends h) q in
      evaluates (takes_behind f.extends t) (λ vs. refl) e (λ p g m vs s l. f.is.is p (grows t.extends.grows g) m s l)

  -- whether an operand has a match of an ERE is tested
  pub match_tested : {a b c d : Builder} {i here other number : ℕ} {x : Expr} {found : Operand} {text : List ℕ} → Stands here a → Stands other a → FindsAnOperand kinds parameters a b found x → AddsEre b c number text → Pushes c d (n.Match found number here other) i
      → Builds kinds parameters a d i (Decide (Binary (Infix o.Matches) x (Ere text)) here other)
  unfolding eval
  match_tested {number = number} {x = x} {found = found} {text = text} h h' f adds q =
      let before = extends f.extends (ere_added adds) in
      let t = match_node (still before h) (still before h') q in
      decides (takes_behind before t) (λ vs. refl) (Binary (Infix o.Matches) x (Ere text)) (λ p g m vs s l.
      first_same (operand_value p.tables.names found) (eval p.functions x) (λ w. lift (applied o.Matches w (value.Text (ere_at p.tables number)))) s (f.is.is p (grows (ere_added adds).grows (grows t.extends.grows g)) m s l)
      ∙ later_same (eval p.functions x) _ _ s (λ w u. ap (λ (z : List ℕ). lift (applied o.Matches w (value.Text z)) u) (ere_there adds p (grows t.extends.grows g)) ∙ sym (given (value.Text text) (λ z. lift (applied o.Matches w z)) u)))

-- what an operator is that takes both values
pub record Strict (w : BinaryOperator) : Type 0 where
  pub no_and : is_and w ≡ false
  pub no_or : is_or w ≡ false
  pub no_match : matching_operator w ≡ None

pub strict : (w : BinaryOperator) → is_strict w ≡ true → Strict w
strict Concatenate e = record { no_and = refl; no_or = refl; no_match = refl }
strict (Infix o.Power) e = record { no_and = refl; no_or = refl; no_match = refl }
strict (Infix o.Times) e = record { no_and = refl; no_or = refl; no_match = refl }
strict (Infix o.Divide) e = record { no_and = refl; no_or = refl; no_match = refl }
strict (Infix o.Remainder) e = record { no_and = refl; no_or = refl; no_match = refl }
strict (Infix o.Plus) e = record { no_and = refl; no_or = refl; no_match = refl }
strict (Infix o.Minus) e = record { no_and = refl; no_or = refl; no_match = refl }
strict (Infix o.Less) e = record { no_and = refl; no_or = refl; no_match = refl }
strict (Infix o.LessEqual) e = record { no_and = refl; no_or = refl; no_match = refl }
strict (Infix o.Equal) e = record { no_and = refl; no_or = refl; no_match = refl }
strict (Infix o.NotEqual) e = record { no_and = refl; no_or = refl; no_match = refl }
strict (Infix o.Greater) e = record { no_and = refl; no_or = refl; no_match = refl }
strict (Infix o.GreaterEqual) e = record { no_and = refl; no_or = refl; no_match = refl }
strict (Infix o.Matches) e = absurd (cc)
strict (Infix o.NotMatches) e = absurd (cc)
strict (Infix o.And) e = absurd (cc)
strict (Infix o.Or) e = absurd (cc)

module _ {kinds : ProgramKinds} {parameters : List FormalParameter} (p : Program kinds) {b : Builder} (g : Grows b p.all) (w : BinaryOperator) where
  -- a value and an operand
  with_same : {right : Operand} {y : Expr} → IsOperandOf kinds parameters b right y → (x : Value) (n : ℕ) (s : State) → IsIn p.tables parameters n s → operated_with p.tables.names w x right s ≡ (eval p.functions y >>= λ z. lift (operated w x z)) s
  with_same {right = right} {y = y} is x n s h = first_same (operand_value p.tables.names right) (eval p.functions y) _ s (is.is p g n s h)

  -- two operands
  on_same : {left right : Operand} {x y : Expr} → IsOperandOf kinds parameters b left x → IsOperandOf kinds parameters b right y → (n : ℕ) (s : State) → IsIn p.tables parameters n s
      → operated_on p.tables.names w left right s ≡ (eval p.functions x >>= λ u. eval p.functions y >>= λ z. lift (operated w u z)) s
  on_same {left = left} {x = x} is is' n s h =
      first_same (operand_value p.tables.names left) (eval p.functions x) _ s (is.is p g n s h)
      ∙ later_in _ _ s n (keeps_eval p.functions p.calls.keep x) h (λ u t k. with_same is' u n t k)

pub still_operand : {kinds : ProgramKinds} {parameters : List FormalParameter} {b c : Builder} {a : Operand} {e : Expr} → Extends b c → IsOperandOf kinds parameters b a e → IsOperandOf kinds parameters c a e
still_operand g is = record { is = λ p h n s i. is.is p (grows g.grows h) n s i }

pub strictly_by : (w : BinaryOperator) → is_and w ≡ false → is_or w ≡ false → matching_operator w ≡ None → is_strict w ≡ true
strictly_by w f g h = ap (λ b. not b && (not (is_or w) && is_none (matching_operator w))) f ∙ ap (λ b. not b && is_none (matching_operator w)) g ∙ ap is_none h

-- what an operator makes of operands, wherever it goes
module _ {kinds : ProgramKinds} {parameters : List FormalParameter} {a b c d : Builder} {i : ℕ} {goal : Goal} {x y : Expr} {right : Operand} (w : BinaryOperator) (strictly : Strict w) (f : FindsAnOperand kinds parameters a b right y) where
  operated_with_taken : {j : ℕ} → Takes kinds parameters b c j goal (λ p vs. value_of p.tables p.functions (v.OperateWith w right) vs) (λ vs. drop 1 vs) → Builds kinds parameters c d i (Evaluate x j)
      → Takes kinds parameters a d i goal (λ p vs. eval p.functions (Binary w x y)) (λ vs. vs)
  unfolding eval
  operated_with_taken t r =
      let u = value_first (λ vs. vs) t x r (λ z vs. refl) in
      alike (takes_behind f.extends u) (λ p g m vs s l.
      later_in _ _ s m (keeps_eval p.functions p.calls.keep x) l (λ z s' k. with_same p (grows u.extends.grows g) w f.is z m s' k)
      ∙ applied_strictly w strictly.no_and strictly.no_or strictly.no_match (eval p.functions x) (eval p.functions y) s y)

  operated_on_taken : {left : Operand} (f' : FindsAnOperand kinds parameters b c left x) → Takes kinds parameters c d i goal (λ p vs. value_of p.tables p.functions (v.OperateOn w left right) vs) (λ vs. vs) → Takes kinds parameters a d i goal (λ p vs. eval p.functions (Binary w x y)) (λ vs. vs)
  unfolding eval
  operated_on_taken f' t =
      alike (takes_behind (extends f.extends f'.extends) t) (λ p g m vs s l.
      on_same p (grows t.extends.grows g) w f'.is (still_operand f'.extends f.is) m s l
      ∙ applied_strictly w strictly.no_and strictly.no_or strictly.no_match (eval p.functions x) (eval p.functions y) s y)

module _ {kinds : ProgramKinds} {parameters : List FormalParameter} {a b c d : Builder} {i next : ℕ} {x y : Expr} {right : Operand} (w : BinaryOperator) (strictly : is_strict w ≡ true) (h : Stands next a) (f : FindsAnOperand kinds parameters a b right y) where
  pub operated_with_lowered : {j : ℕ} → Pushes b c (n.Value (v.OperateWith w right) next) j → Builds kinds parameters c d i (Evaluate x j) → Builds kinds parameters a d i (Evaluate (Binary w x y) next)
  operated_with_lowered q r = evaluates (operated_with_taken w (strict w strictly) f (node (still f.extends h) q) r) (λ vs. refl) (Binary w x y) (λ p g m vs s l. refl)

  pub operated_on_lowered : {left : Operand} → FindsAnOperand kinds parameters b c left x → Pushes c d (n.Value (v.OperateOn w left right) next) i → Builds kinds parameters a d i (Evaluate (Binary w x y) next)
  operated_on_lowered f' q = evaluates (operated_on_taken w (strict w strictly) f f' (node (still (extends f.extends f'.extends) h) q)) (λ vs. refl) (Binary w x y) (λ p g m vs s l. refl)

module _ {kinds : ProgramKinds} {parameters : List FormalParameter} {a b c d : Builder} {i here other : ℕ} {x y : Expr} {right : Operand} (w : BinaryOperator) (strictly : is_strict w ≡ true) (h : Stands here a) (h' : Stands other a) (f : FindsAnOperand kinds parameters a b right y) where
  pub compared_with_lowered : {j : ℕ} → Pushes b c (n.CompareWith w right here other) j → Builds kinds parameters c d i (Evaluate x j) → Builds kinds parameters a d i (Decide (Binary w x y) here other)
  compared_with_lowered q r =
      decides (operated_with_taken w (strict w strictly) f (compare_with_node (still f.extends h) (still f.extends h') q) r) (λ vs. refl) (Binary w x y) (λ p g m vs s l. refl)

  pub compared_lowered : {left : Operand} → FindsAnOperand kinds parameters b c left x → Pushes c d (n.Compare w left right here other) i → Builds kinds parameters a d i (Decide (Binary w x y) here other)
  compared_lowered f' q =
      let before = extends f.extends f'.extends in
      decides (operated_on_taken w (strict w strictly) f f' (compare_node (still before h) (still before h') q)) (λ vs. refl) (Binary w x y) (λ p g m vs s l. refl)
