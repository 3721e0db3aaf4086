-- What is lowered of an expression is the expression.
use Rattle.std.proofs.Common.{◌≡◌, ℕ, zero, suc, ℤ, pos, false, List, [], ◌∷◌, ◌++◌, length, drop, slice_get, get_or, append-nil, subst, Some, None, refl, sym, ap, ◌∙◌}
use Rattle.awk_value.specs.declared.value.Value.{Value}
use Rattle.awk_value.specs.declared.value.Value.TheVariants as value
use Rattle.awk_value.specs.Values.{str_of}
use Rattle.awk_lex.specs.declared.token.AssignmentOperator.{AssignmentOperator}
use Rattle.awk_lex.specs.declared.token.IncrementOperator.{IncrementOperator}
use Rattle.awk_lex.specs.declared.token.Operator.TheVariants as o
use Rattle.awk_grammar.specs.declared.tree.UnaryOperator.{UnaryOperator}
use Rattle.awk_grammar.specs.declared.tree.BinaryOperator.{BinaryOperator}
use Rattle.awk_grammar.specs.declared.tree.BinaryOperator.TheVariants.{Concatenate, Infix}
use Rattle.awk_grammar.specs.Tree.{Expr, Number, String, Ere, Name, Element, Field, Group, Length, PreIncrement, PostIncrement, Unary, Binary, Membership, ListMembership, Assign, Exprs}
use Rattle.awk_kinds.specs.definitions.Kinds.{FormalParameter}
use Rattle.awk_kinds.specs.definitions.Signatures.{ProgramKinds}
use Rattle.awk_semantics.specs.definitions.State.{State, Run, ◌>>=◌, lift, ret}
use Rattle.awk_semantics.specs.definitions.Operators.{truth_value, applied, by_one, one, operator_of, takes_pattern}
use Rattle.awk_semantics.specs.definitions.Primitives.{record_text, read_field, has_element}
use Rattle.awk_semantics.specs.definitions.Places.{assign_by, post_increment}
use Rattle.awk_semantics.specs.definitions.Semantics.{right_operand, combined, eval}
use Rattle.awk_semantics.proofs.KeepsForms.{keeps_eval, keeps_key_of}
use Rattle.awk_storage.specs.declared.position.Variable.{Variable}
use Rattle.awk_storage.specs.declared.position.Array.{Array}
use Rattle.awk_storage.specs.declared.position.Place.{Place}
use Rattle.awk_storage.specs.support.Positions.{read_element_of}
use Rattle.awk_storage.specs.support.Forms.{contains_at}
use Rattle.awk_resolve.specs.declared.builder.Builder.{Builder}
use Rattle.awk_resolve.specs.declared.node.Operand.TheVariants as operand
use Rattle.awk_resolve.specs.declared.node.ValueNode.TheVariants as v
use Rattle.awk_resolve.specs.declared.node.Node.TheVariants as n
use Rattle.awk_resolve.specs.support.Nodes.{operands, operated, ere_at, value_of}
use Rattle.awk_resolve.specs.support.Builds.{AreScalars, Grows, Pushes, AddsEre, Extends, Program, Evaluate, EvaluateKey, EvaluateOperand, Builds, FindsVariable, IsArrayOf, FindsPlace, Stands}
use Rattle.awk_resolve.specs.support.Operands.{is_and, is_or, matching_operator, PushesEre}
use Rattle.awk_resolve.proofs.Calculus.{later_in, first_same}
use Rattle.awk_resolve.proofs.Building.{grows, extends, still, front_then, named}
use Rattle.awk_resolve.proofs.Variables.{front_at}
use Rattle.awk_resolve.proofs.Elements.{reads_element, has_the_element}
use Rattle.awk_resolve.proofs.ValueLists.{keyed}
use Rattle.awk_resolve.proofs.Positions.{assigned_by, incremented}
use Rattle.awk_resolve.proofs.Taking.{Goal, Takes, node, value_first, key_first, place_first, alike, evaluates}

module _ {kinds : ProgramKinds} {parameters : List FormalParameter} {a b : Builder} {i next : ℕ} where
  pub number_lowered : (k : ℤ) → Stands next a → Pushes a b (n.Value (v.Put (operand.Constant (value.Number k))) next) i → Builds kinds parameters a b i (Evaluate (Number k) next)
  unfolding eval
  number_lowered k h q = evaluates (node h q) (λ vs. refl) (Number k) (λ p g m vs s l. refl)

  pub string_lowered : (text : List ℕ) → Stands next a → Pushes a b (n.Value (v.Put (operand.Constant (value.Text text))) next) i → Builds kinds parameters a b i (Evaluate (String text) next)
  unfolding eval
  string_lowered text h q = evaluates (node h q) (λ vs. refl) (String text) (λ p g m vs s l. refl)

  pub length_lowered : Stands next a → Pushes a b (n.Value v.RecordLength next) i → Builds kinds parameters a b i (Evaluate Length next)
  unfolding eval
  length_lowered h q = evaluates (node h q) (λ vs. refl) Length (λ p g m vs s l. refl)

-- the same with a part before it
pub takes_behind : {kinds : ProgramKinds} {parameters : List FormalParameter} {a b c : Builder} {i : ℕ} {goal : Goal} {m : Program kinds → List Value → Run Value} {left : List Value → List Value} → Extends a b → Takes kinds parameters b c i goal m left → Takes kinds parameters a c i goal m left
takes_behind g t = record { extends = extends g t.extends; below = t.below; pos = t.pos; is = t.is }

pub name_lowered : {kinds : ProgramKinds} {parameters : List FormalParameter} {a b c : Builder} {i next : ℕ} {variable : Variable} {x : List ℕ} → Stands next a → FindsVariable kinds parameters a b variable x → Pushes b c (n.Value (v.Put (operand.Variable variable)) next) i → Builds kinds parameters a c i (Evaluate (Name x) next)
unfolding eval
name_lowered {x = x} h f q =
    let t = node (still f.extends h) q in
    evaluates (takes_behind f.extends t) (λ vs. refl) (Name x) (λ p g m vs s l. sym (f.is.reads p (grows t.extends.grows g) m s l))

-- EREs

pub ere_added : {a b : Builder} {number : ℕ} {text : List ℕ} → AddsEre a b number text → Extends a b
ere_added {text = text} q = named q.nodes q.heads ([], q.names ∙ sym (append-nil _)) (text ∷ [], q.eres) q.functions (λ h. subst AreScalars (sym q.names) h)

pub ere_there : {kinds : ProgramKinds} {a b : Builder} {number : ℕ} {text : List ℕ} → AddsEre a b number text → (p : Program kinds) → Grows b p.all → ere_at p.tables number ≡ text
ere_there {a = a} {b = b} {number = number} {text = text} q p g =
    found p.tables.eres number (front_at b.eres.items p.tables.eres number text (front_then b.eres.items g.eres p.eres) (ap (λ l. slice_get l number) q.eres ∙ ap (slice_get (a.eres.items ++ text ∷ [])) q.last ∙ last a.eres.items))
  where
    last : (xs : List (List ℕ)) → slice_get (xs ++ text ∷ []) (length xs) ≡ Some text
    last [] = refl
    last (x ∷ xs) = last xs

    found : (xs : List (List ℕ)) (k : ℕ) → slice_get xs k ≡ Some text → get_or xs k [] ≡ text
    found [] k e = cc
    found (x ∷ xs) zero e = cc
    found (x ∷ xs) (suc k) e = found xs k e

-- field 0 is the record
whole_record : (s : State) → read_field (pos 0) s ≡ record_text s
unfolding read_field record_text
whole_record s = refl

-- an ERE, wherever its value goes
pub record_matched : {kinds : ProgramKinds} {parameters : List FormalParameter} {a b c : Builder} {i number : ℕ} {goal : Goal} {text : List ℕ} → AddsEre a b number text → Takes kinds parameters b c i goal (λ p vs. value_of p.tables p.functions (v.Matches (operand.Field 0) number) vs) (λ vs. vs)
    → Takes kinds parameters a c i goal (λ p vs. eval p.functions (Ere text)) (λ vs. vs)
unfolding eval
record_matched {number = number} adds t = alike (takes_behind (ere_added adds) t) (λ p g m vs s l.
    first_same (read_field (pos 0)) record_text (λ w. lift (applied o.Matches w (value.Text (ere_at p.tables number)))) s (whole_record s)
    ∙ ap (λ (x : List ℕ). (record_text >>= λ w. lift (applied o.Matches w (value.Text x))) s) (ere_there adds p (grows t.extends.grows g)))

pub ere_lowered : {kinds : ProgramKinds} {parameters : List FormalParameter} {a c : Builder} {i next : ℕ} {text : List ℕ} → Stands next a → PushesEre a c (λ k. v.Matches (operand.Field 0) k) text i next → Builds kinds parameters a c i (Evaluate (Ere text) next)
ere_lowered {text = text} h q = evaluates (record_matched q.adds (node (still (ere_added q.adds) h) q.pushes)) (λ vs. refl) (Ere text) (λ p g m vs s l. refl)

-- an operand, and then what is made of it

module _ {kinds : ProgramKinds} {parameters : List FormalParameter} {a b c : Builder} {i j next : ℕ} where
  pub field_lowered : {e : Expr} → Stands next a → Pushes a b (n.Value v.ReadField next) j → Builds kinds parameters b c i (Evaluate e j) → Builds kinds parameters a c i (Evaluate (Field e) next)
  unfolding eval
  field_lowered {e = e} h q r = evaluates (value_first (λ vs. vs) (node h q) e r (λ w vs. refl)) (λ vs. refl) (Field e) (λ p g m vs s l. refl)

  pub unary_lowered : {e : Expr} (u : UnaryOperator) → Stands next a → Pushes a b (n.Value (v.Change u) next) j → Builds kinds parameters b c i (Evaluate e j) → Builds kinds parameters a c i (Evaluate (Unary u e) next)
  unfolding eval
  unary_lowered {e = e} u h q r = evaluates (value_first (λ vs. vs) (node h q) e r (λ w vs. refl)) (λ vs. refl) (Unary u e) (λ p g m vs s l. refl)

  pub element_lowered : {array : Array} {x : List ℕ} {es : Exprs} → Stands next a → IsArrayOf kinds parameters array x → Pushes a b (n.Value (v.ReadElement array None) next) j → Builds kinds parameters b c i (EvaluateKey es j) → Builds kinds parameters a c i (Evaluate (Element x es) next)
  unfolding eval
  element_lowered {array = array} {x = x} {es = es} h is q r =
      evaluates (key_first (λ vs. vs) (node h q) es r (λ w vs. refl)) (λ vs. refl) (Element x es) (λ p g m vs s l.
      keyed p.functions es (λ key. read_element_of array key) s
      ∙ later_in _ _ s m (keeps_key_of p.functions p.calls.keep [] es) l (λ key u k. sym (reads_element array x u (is.is p m u k) key)))

  pub membership_lowered : {array : Array} {x : List ℕ} {e : Expr} → Stands next a → IsArrayOf kinds parameters array x → Pushes a b (n.Value (v.Contains array None) next) j → Builds kinds parameters b c i (Evaluate e j) → Builds kinds parameters a c i (Evaluate (Membership e x) next)
  unfolding eval
  membership_lowered {array = array} {x = x} {e = e} h is q r =
      evaluates (value_first (λ vs. vs) (node h q) e r (λ w vs. refl)) (λ vs. refl) (Membership e x) (λ p g m vs s l.
      later_in _ _ s m (keeps_eval p.functions p.calls.keep e) l (λ w u k. first_same _ _ _ u (sym (has_the_element array x u (is.is p m u k) (str_of w)))))

  pub list_membership_lowered : {array : Array} {x : List ℕ} {es : Exprs} → Stands next a → IsArrayOf kinds parameters array x → Pushes a b (n.Value (v.Contains array None) next) j → Builds kinds parameters b c i (EvaluateKey es j) → Builds kinds parameters a c i (Evaluate (ListMembership es x) next)
  unfolding eval
  list_membership_lowered {array = array} {x = x} {es = es} h is q r =
      evaluates (key_first (λ vs. vs) (node h q) es r (λ w vs. refl)) (λ vs. refl) (ListMembership es x) (λ p g m vs s l.
      keyed p.functions es (λ key. contains_at array key >>= λ y. ret (truth_value y)) s
      ∙ later_in _ _ s m (keeps_key_of p.functions p.calls.keep [] es) l (λ key u k. first_same (contains_at array key) (has_element x key) (λ y. ret (truth_value y)) u (sym (has_the_element array x u (is.is p m u k) key))))

pub group_lowered : {kinds : ProgramKinds} {parameters : List FormalParameter} {a b : Builder} {i next : ℕ} {e : Expr} → Builds kinds parameters a b i (Evaluate e next) → Builds kinds parameters a b i (Evaluate (Group e) next)
unfolding eval
group_lowered q = record { extends = q.extends; below = q.below; pos = q.pos; is = q.is }

-- assignments

-- what is done with a place, wherever its value goes
module _ {kinds : ProgramKinds} {parameters : List FormalParameter} {a b c : Builder} {j : ℕ} {goal : Goal} {place : Place} {e : Expr} (f : FindsPlace kinds parameters a b place e) where
  pub assign_taken : {d d' : Builder} {i k : ℕ} (o : AssignmentOperator) (x : Expr) → Takes kinds parameters b c j goal (λ p vs. value_of p.tables p.functions (v.Assign o place) vs) (λ vs. drop (suc (operands place)) vs) → Builds kinds parameters c d k (Evaluate x j)
      → Builds kinds parameters d d' i (EvaluateOperand e k) → Takes kinds parameters a d' i goal (λ p vs. eval p.functions (Assign o e x)) (λ vs. vs)
  unfolding eval
  assign_taken o x t r r' =
      place_first (λ vs. vs) (λ p vs t. eval p.functions x >>= λ w. assign_by (operator_of o) t w) f.extends f.is (value_first (λ ws. drop (operands place) ws) t x r (λ w ws. refl)) r' (λ ws. refl)
      (λ p g m t ws vs u l at d. later_in _ _ u m (keeps_eval p.functions p.calls.keep x) l (λ w u' l'. sym (assigned_by at (operator_of o) m w u' l')))

  pub post_increment_taken : {d : Builder} {i : ℕ} (o : IncrementOperator) → Takes kinds parameters b c j goal (λ p vs. value_of p.tables p.functions (v.PostIncrement o place) vs) (λ vs. drop (operands place) vs) → Builds kinds parameters c d i (EvaluateOperand e j)
      → Takes kinds parameters a d i goal (λ p vs. eval p.functions (PostIncrement o e)) (λ vs. vs)
  unfolding eval
  post_increment_taken o t r = place_first (λ vs. vs) (λ p vs t. post_increment o t) f.extends f.is t r (λ ws. refl) (λ p g m t ws vs u l at d. sym (incremented at o m u l))

module _ {kinds : ProgramKinds} {parameters : List FormalParameter} {a b c d : Builder} {i j next : ℕ} {place : Place} {e : Expr} (h : Stands next a) (f : FindsPlace kinds parameters a b place e) where
  pub pre_increment_lowered : (o : IncrementOperator) → Pushes b c (n.Value (v.PreIncrement o place) next) j → Builds kinds parameters c d i (EvaluateOperand e j) → Builds kinds parameters a d i (Evaluate (PreIncrement o e) next)
  unfolding eval
  pre_increment_lowered o q r =
      evaluates (place_first (λ vs. vs) (λ p vs t. assign_by (Some (by_one o)) t one) f.extends f.is (node (still f.extends h) q) r (λ ws. refl) (λ p g m t ws vs u l at d. sym (assigned_by at (Some (by_one o)) m one u l))) (λ vs. refl)
      (PreIncrement o e) (λ p g m vs s l. refl)

  pub post_increment_lowered : (o : IncrementOperator) → Pushes b c (n.Value (v.PostIncrement o place) next) j → Builds kinds parameters c d i (EvaluateOperand e j) → Builds kinds parameters a d i (Evaluate (PostIncrement o e) next)
  post_increment_lowered o q r = evaluates (post_increment_taken f o (node (still f.extends h) q) r) (λ vs. refl) (PostIncrement o e) (λ p g m vs s l. refl)

pub assign_lowered : {kinds : ProgramKinds} {parameters : List FormalParameter} {a b c d d' : Builder} {i j k next : ℕ} {place : Place} {e x : Expr} → Stands next a → FindsPlace kinds parameters a b place e → (o : AssignmentOperator) → Pushes b c (n.Value (v.Assign o place) next) j → Builds kinds parameters c d k (Evaluate x j)
    → Builds kinds parameters d d' i (EvaluateOperand e k) → Builds kinds parameters a d' i (Evaluate (Assign o e x) next)
assign_lowered {e = e} {x = x} h f o q r r' = evaluates (assign_taken f o x (node (still f.extends h) q) r r') (λ vs. refl) (Assign o e x) (λ p g m vs s l. refl)

-- two operands

pub applied_strictly : (b : BinaryOperator) → is_and b ≡ false → is_or b ≡ false → matching_operator b ≡ None → (left right : Run Value) (s : State) → (e : Expr) → (left >>= λ x. right >>= λ y. lift (operated b x y)) s ≡ combined b left (right_operand (takes_pattern b) e right) s
applied_strictly Concatenate f g h left right s e = refl
applied_strictly (Infix o.Power) f g h left right s e = refl
applied_strictly (Infix o.Times) f g h left right s e = refl
applied_strictly (Infix o.Divide) f g h left right s e = refl
applied_strictly (Infix o.Remainder) f g h left right s e = refl
applied_strictly (Infix o.Plus) f g h left right s e = refl
applied_strictly (Infix o.Minus) f g h left right s e = refl
applied_strictly (Infix o.Less) f g h left right s e = refl
applied_strictly (Infix o.LessEqual) f g h left right s e = refl
applied_strictly (Infix o.Equal) f g h left right s e = refl
applied_strictly (Infix o.NotEqual) f g h left right s e = refl
applied_strictly (Infix o.Greater) f g h left right s e = refl
applied_strictly (Infix o.GreaterEqual) f g h left right s e = refl
applied_strictly (Infix o.Matches) f g h left right s e = absurd (cc)
applied_strictly (Infix o.NotMatches) f g h left right s e = absurd (cc)
applied_strictly (Infix o.And) f g h left right s e = absurd (cc)
applied_strictly (Infix o.Or) f g h left right s e = absurd (cc)

pub strict_lowered : {kinds : ProgramKinds} {parameters : List FormalParameter} {a b c d : Builder} {i j k next : ℕ} {x y : Expr} (w : BinaryOperator) → is_and w ≡ false → is_or w ≡ false → matching_operator w ≡ None → Stands next a
    → Pushes a b (n.Value (v.Operate w) next) j → Builds kinds parameters b c k (Evaluate y j) → Builds kinds parameters c d i (Evaluate x k) → Builds kinds parameters a d i (Evaluate (Binary w x y) next)
unfolding eval
strict_lowered {x = x} {y = y} w f g e h q r r' =
    evaluates (value_first (λ vs. vs) (value_first (λ vs. drop 1 vs) (node h q) y r (λ u vs. refl)) x r' (λ u vs. refl)) (λ vs. refl) (Binary w x y) (λ p l m vs s z. applied_strictly w f g e (eval p.functions x) (eval p.functions y) s y)
