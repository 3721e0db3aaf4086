-- Patterns: an ERE of the program stands for itself, and any other expression is evaluated.
use Rattle.std.proofs.Common.{◌≡◌, ℕ, true, List, ◌∷◌, drop, Option, Some, None, refl, sym, subst, ap, ◌∙◌}
use Rattle.awk_value.specs.declared.value.Value.{Value}
use Rattle.awk_value.specs.declared.value.Value.TheVariants as value
use Rattle.awk_lex.specs.declared.token.Operator.{Operator}
use Rattle.awk_lex.specs.declared.token.Operator.TheVariants as o
use Rattle.awk_grammar.specs.declared.tree.BinaryOperator.{BinaryOperator}
use Rattle.awk_grammar.specs.declared.tree.BinaryOperator.TheVariants.{Concatenate, Infix}
use Rattle.awk_grammar.specs.Tree.{Expr, Number, String, Ere, Name, Element, Field, Group, Call, BuiltIn, Length, PreIncrement, PostIncrement, Getline, PipedGetline, Unary, Binary, Membership, ListMembership, Conditional, Assign}
use Rattle.awk_kinds.specs.definitions.Kinds.{FormalParameter}
use Rattle.awk_kinds.specs.definitions.Signatures.{ProgramKinds}
use Rattle.awk_semantics.specs.definitions.State.{Run, ◌>>=◌, lift, ret}
use Rattle.awk_semantics.specs.definitions.Operators.{applied, takes_pattern}
use Rattle.awk_semantics.specs.definitions.BuiltIns.{OfValue, ere_or}
use Rattle.awk_semantics.specs.definitions.Semantics.{Functions, right_operand, combined, eval}
use Rattle.awk_resolve.specs.declared.builder.Builder.{Builder}
use Rattle.awk_resolve.specs.declared.node.Node.TheVariants as n
use Rattle.awk_resolve.specs.support.Nodes.{Cont, ere_at}
use Rattle.awk_resolve.specs.support.Builds.{Grows, Pushes, Extends, Program, Evaluate, EvaluateUnlessEre, with_pattern, Builds, Stands}
use Rattle.awk_resolve.specs.support.Operands.{matching_operator, matching, FindsPattern}
use Rattle.awk_resolve.proofs.Calculus.{later_same, given}
use Rattle.awk_resolve.proofs.Building.{grows, extends, same, still}
use Rattle.awk_resolve.proofs.Taking.{Goal, Takes, node, value_first, evaluates}
use Rattle.awk_resolve.proofs.ExpressionForms.{takes_behind, ere_added, ere_there}

pub record IsOther (e : Expr) : Type 0 where
  pub pattern : (functions : Functions) (k : Cont) (vs : List Value) → with_pattern functions e k vs ≡ (eval functions e >>= λ w. k (w ∷ vs))
  pub right : (m : Run Value) → right_operand true e m ≡ m
  pub argument : (m : Run Value) → ere_or e m ≡ (m >>= λ w. ret (OfValue w))

pub other_than_ere : (e : Expr) → ((text : List ℕ) → e ≡ Ere text → ⊥) → IsOther e
other_than_ere (Ere text) h = absurd (h text refl)
other_than_ere (Number k) h = record { pattern = λ functions k vs. refl; right = λ m. refl; argument = λ m. refl }
other_than_ere (String k) h = record { pattern = λ functions k vs. refl; right = λ m. refl; argument = λ m. refl }
other_than_ere (Name k) h = record { pattern = λ functions k vs. refl; right = λ m. refl; argument = λ m. refl }
other_than_ere (Element x es) h = record { pattern = λ functions k vs. refl; right = λ m. refl; argument = λ m. refl }
other_than_ere (Field e) h = record { pattern = λ functions k vs. refl; right = λ m. refl; argument = λ m. refl }
other_than_ere (Group e) h = record { pattern = λ functions k vs. refl; right = λ m. refl; argument = λ m. refl }
other_than_ere (Call x es) h = record { pattern = λ functions k vs. refl; right = λ m. refl; argument = λ m. refl }
other_than_ere (BuiltIn w es) h = record { pattern = λ functions k vs. refl; right = λ m. refl; argument = λ m. refl }
other_than_ere Length h = record { pattern = λ functions k vs. refl; right = λ m. refl; argument = λ m. refl }
other_than_ere (PreIncrement w e) h = record { pattern = λ functions k vs. refl; right = λ m. refl; argument = λ m. refl }
other_than_ere (PostIncrement w e) h = record { pattern = λ functions k vs. refl; right = λ m. refl; argument = λ m. refl }
other_than_ere (Getline q e) h = record { pattern = λ functions k vs. refl; right = λ m. refl; argument = λ m. refl }
other_than_ere (PipedGetline e q) h = record { pattern = λ functions k vs. refl; right = λ m. refl; argument = λ m. refl }
other_than_ere (Unary w e) h = record { pattern = λ functions k vs. refl; right = λ m. refl; argument = λ m. refl }
other_than_ere (Binary w e e') h = record { pattern = λ functions k vs. refl; right = λ m. refl; argument = λ m. refl }
other_than_ere (Membership e x) h = record { pattern = λ functions k vs. refl; right = λ m. refl; argument = λ m. refl }
other_than_ere (ListMembership es x) h = record { pattern = λ functions k vs. refl; right = λ m. refl; argument = λ m. refl }
other_than_ere (Conditional e e' e'') h = record { pattern = λ functions k vs. refl; right = λ m. refl; argument = λ m. refl }
other_than_ere (Assign w e e') h = record { pattern = λ functions k vs. refl; right = λ m. refl; argument = λ m. refl }

module _ {kinds : ProgramKinds} {parameters : List FormalParameter} {a b : Builder} {i next : ℕ} where
  -- an expression that is no ERE is evaluated
  pub unless_ere_lowered : (e : Expr) → ((text : List ℕ) → e ≡ Ere text → ⊥) → Builds kinds parameters a b i (Evaluate e next) → Builds kinds parameters a b i (EvaluateUnlessEre e next)
  unless_ere_lowered e h q = record {
    extends = q.extends;
    below = q.below;
    pos = q.pos;
    is = λ p g m vs s l. q.is p g m vs s l ∙ sym (ap (λ (r : Run Value). r s) ((other_than_ere e h).pattern p.functions _ vs));
  }

  pub evaluated_unless_ere : (e : Expr) → ((text : List ℕ) → e ≡ Ere text → ⊥) → Builds kinds parameters a b i (EvaluateUnlessEre e next) → Builds kinds parameters a b i (Evaluate e next)
  evaluated_unless_ere e h q = record {
    extends = q.extends;
    below = q.below;
    pos = q.pos;
    is = λ p g m vs s l. q.is p g m vs s l ∙ ap (λ (r : Run Value). r s) ((other_than_ere e h).pattern p.functions _ vs);
  }

pub ere_stays : {kinds : ProgramKinds} {parameters : List FormalParameter} {a : Builder} {next : ℕ} (text : List ℕ) → Stands next a → Builds kinds parameters a a next (EvaluateUnlessEre (Ere text) next)
ere_stays text h = record { extends = same; below = h.below; pos = h.pos; is = λ p g m vs s l. refl }

-- an ERE needs nothing on the stack
pub ere_first : {kinds : ProgramKinds} {parameters : List FormalParameter} {a b c : Builder} {i j : ℕ} {goal : Goal} {m : Program kinds → List Value → Run Value} {left : List Value → List Value} {text : List ℕ}
    → Takes kinds parameters a b j goal m left → Builds kinds parameters b c i (EvaluateUnlessEre (Ere text) j) → Takes kinds parameters a c i goal m left
ere_first t q = record { extends = extends t.extends q.extends; below = q.below; pos = q.pos; is = λ p g k vs s l. q.is p g k vs s l ∙ t.is p (grows q.extends.grows g) k vs s l }

-- `~` and `!~`

record IsMatching (b : BinaryOperator) (w : Operator) : Type 0 where
  is : b ≡ Infix w
  takes : takes_pattern (Infix w) ≡ true
  strict : (left right : Run Value) → combined (Infix w) left right ≡ (left >>= λ x. right >>= λ y. lift (applied w x y))

matches_by : (b : BinaryOperator) (w : Operator) → matching_operator b ≡ Some w → IsMatching b w
matches_by (Infix o.Matches) w e = let h : o.Matches ≡ w = cc in subst (λ x. IsMatching (Infix o.Matches) x) h (record { is = refl; takes = refl; strict = λ left right. refl })
matches_by (Infix o.NotMatches) w e = let h : o.NotMatches ≡ w = cc in subst (λ x. IsMatching (Infix o.NotMatches) x) h (record { is = refl; takes = refl; strict = λ left right. refl })
matches_by Concatenate w e = absurd (cc)
matches_by (Infix o.Power) w e = absurd (cc)
matches_by (Infix o.Times) w e = absurd (cc)
matches_by (Infix o.Divide) w e = absurd (cc)
matches_by (Infix o.Remainder) w e = absurd (cc)
matches_by (Infix o.Plus) w e = absurd (cc)
matches_by (Infix o.Minus) w e = absurd (cc)
matches_by (Infix o.Less) w e = absurd (cc)
matches_by (Infix o.LessEqual) w e = absurd (cc)
matches_by (Infix o.NotEqual) w e = absurd (cc)
matches_by (Infix o.Equal) w e = absurd (cc)
matches_by (Infix o.Greater) w e = absurd (cc)
matches_by (Infix o.GreaterEqual) w e = absurd (cc)
matches_by (Infix o.And) w e = absurd (cc)
matches_by (Infix o.Or) w e = absurd (cc)

ere_matched : {kinds : ProgramKinds} {parameters : List FormalParameter} {a b c d e : Builder} {i j k next number : ℕ} {x : Expr} (bin : BinaryOperator) (w : Operator) (text : List ℕ) → IsMatching bin w → Stands next a → Extends a b → ((p : Program kinds) → Grows b p.all → ere_at p.tables number ≡ text)
    → Pushes b c (n.Value (matching w (Some number)) next) j → Builds kinds parameters c d k (EvaluateUnlessEre (Ere text) j) → Builds kinds parameters d e i (Evaluate x k) → Builds kinds parameters a e i (Evaluate (Binary bin x (Ere text)) next)
unfolding eval
ere_matched {x = x} bin w text is h g there q r r' =
    let t = ere_first (node (still g h) q) r in
    let u = value_first (λ vs. vs) t x r' (λ y vs. refl) in
    evaluates (takes_behind g u) (λ vs. refl) (Binary bin x (Ere text)) (λ p l m vs s z.
    later_same (eval p.functions x) _ _ s (λ y t'. ap (λ (l : List ℕ). lift (applied w y (value.Text l)) t') (there p (grows u.extends.grows l)) ∙ sym (given (value.Text text) (λ y'. lift (applied w y y')) t'))
    ∙ sym (ap (λ (r : Run Value). r s) (is.strict (eval p.functions x) (ret (value.Text text))))
    ∙ ap (λ b'. combined (Infix w) (eval p.functions x) (right_operand b' (Ere text) (eval p.functions (Ere text))) s) (sym is.takes)
    ∙ ap (λ (b' : BinaryOperator). combined b' (eval p.functions x) (right_operand (takes_pattern b') (Ere text) (eval p.functions (Ere text))) s) (sym is.is))

value_matched : {kinds : ProgramKinds} {parameters : List FormalParameter} {a c d e : Builder} {i j k next : ℕ} {x y : Expr} (bin : BinaryOperator) (w : Operator) → IsMatching bin w → ((text : List ℕ) → y ≡ Ere text → ⊥) → Stands next a
    → Pushes a c (n.Value (matching w None) next) j → Builds kinds parameters c d k (EvaluateUnlessEre y j) → Builds kinds parameters d e i (Evaluate x k) → Builds kinds parameters a e i (Evaluate (Binary bin x y) next)
unfolding eval
value_matched {x = x} {y = y} bin w is other h q r r' =
    let t = value_first (λ vs. drop 1 vs) (node h q) y (evaluated_unless_ere y other r) (λ z vs. refl) in
    evaluates (value_first (λ vs. vs) t x r' (λ z vs. refl)) (λ vs. refl) (Binary bin x y) (λ p l m vs s z.
    sym (ap (λ (r : Run Value). r s) (is.strict (eval p.functions x) (eval p.functions y)))
    ∙ ap (λ (r : Run Value). combined (Infix w) (eval p.functions x) r s) (sym ((other_than_ere y other).right (eval p.functions y)))
    ∙ ap (λ b'. combined (Infix w) (eval p.functions x) (right_operand b' y (eval p.functions y)) s) (sym is.takes)
    ∙ ap (λ (b' : BinaryOperator). combined b' (eval p.functions x) (right_operand (takes_pattern b') y (eval p.functions y)) s) (sym is.is))

pub matched : {kinds : ProgramKinds} {parameters : List FormalParameter} {a b c d e : Builder} {i j k next : ℕ} {x y : Expr} (bin : BinaryOperator) (w : Operator) (pattern : Option ℕ) → matching_operator bin ≡ Some w → Stands next a → FindsPattern a b pattern y
    → Pushes b c (n.Value (matching w pattern) next) j → Builds kinds parameters c d k (EvaluateUnlessEre y j) → Builds kinds parameters d e i (Evaluate x k) → Builds kinds parameters a e i (Evaluate (Binary bin x y) next)
matched {kinds = kinds} {parameters = parameters} {a = a} {c = c} {d = d} {e = e} {i = i} {j = j} {k = k} {next = next} {x = x} bin w (Some number) f h found q r r' =
    subst (λ (z : Expr). Builds kinds parameters a e i (Evaluate (Binary bin x z) next)) (sym found.is)
    (ere_matched bin w found.text (matches_by bin w f) h (ere_added found.adds) (λ p g. ere_there found.adds p g) q (subst (λ (z : Expr). Builds kinds parameters c d k (EvaluateUnlessEre z j)) found.is r) r')
matched {c = c} {j = j} {next = next} bin w None f h found q r r' = value_matched bin w (matches_by bin w f) found.not_ere h (subst (λ (z : Builder). Pushes z c (n.Value (matching w None) next) j) found.same q) r r'
