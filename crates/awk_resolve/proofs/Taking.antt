-- Parts that take values off the stack and make one of them, built from their ends.
use Rattle.std.proofs.Common.{◌≡◌, ℕ, ◌<◌, List, [], ◌∷◌, ◌++◌, length, drop, reverse, refl, sym, ap, ◌∙◌, arith}
use Rattle.awk_value.specs.declared.value.Value.{Value}
use Rattle.awk_value.specs.Values.{truth_of}
use Rattle.awk_lex.specs.declared.token.AssignmentOperator.{AssignmentOperator}
use Rattle.awk_lex.specs.declared.token.IncrementOperator.{IncrementOperator}
use Rattle.awk_grammar.specs.declared.tree.BinaryOperator.{BinaryOperator}
use Rattle.awk_grammar.specs.Tree.{Expr, Exprs}
use Rattle.awk_kinds.specs.definitions.Kinds.{FormalParameter}
use Rattle.awk_kinds.specs.definitions.NameUses.{count_of}
use Rattle.awk_kinds.specs.definitions.Signatures.{ProgramKinds}
use Rattle.awk_semantics.specs.definitions.State.{State, Run, ◌>>=◌}
use Rattle.awk_semantics.specs.definitions.Places as target
use Rattle.awk_semantics.specs.definitions.Semantics.{choose, eval, place_of, eval_all}
use Rattle.awk_semantics.specs.support.Keeps.{Keeps}
use Rattle.awk_semantics.proofs.KeepsForms.{keeps_eval}
use Rattle.awk_storage.specs.declared.position.Place.{Place}
use Rattle.awk_storage.specs.declared.position.Variable.{Variable}
use Rattle.awk_resolve.specs.declared.builder.Builder.{Builder}
use Rattle.awk_resolve.specs.declared.node.Operand.{Operand}
use Rattle.awk_resolve.specs.declared.node.ValueNode.{ValueNode}
use Rattle.awk_resolve.specs.declared.node.ValueNode.TheVariants as v
use Rattle.awk_resolve.specs.declared.node.Node.{Node}
use Rattle.awk_resolve.specs.declared.node.Node.TheVariants as n
use Rattle.awk_resolve.specs.support.Nodes.{Cont, first, taken, operands, value_of, popped, append_to, made}
use Rattle.awk_resolve.specs.support.Builds.{Grows, Pushes, Extends, IsIn, Program, Evaluate, EvaluateAll, EvaluateKey, EvaluateOperand, Decide, key_value, place_in, turns_in, Places, Builds, IsAt, IsPlaceOf, Stands}
use Rattle.awk_resolve.proofs.Calculus.{assoc_at, later_in, first_same}
use Rattle.awk_resolve.proofs.Building.{grows, extends, placed, at_once, chosen}
use Rattle.awk_resolve.proofs.ValueLists.{keeps_key_value, counted}

-- what a value goes to, from the places that follow

abbrev pub Goal : Type 0
Goal = (ℕ → Cont) → Value → Cont

-- it is put on the stack
abbrev pub pushed : (next : ℕ) → Goal
pushed next at w vs = at next (w ∷ vs)

-- it is of no use
abbrev pub discarded : (next : ℕ) → Goal
discarded next at w vs = at next vs

-- it is tested
abbrev pub tested : (here other : ℕ) → Goal
tested here other at w vs = choose (truth_of w) (at here vs) (at other vs)

-- from a place, something is evaluated, by values on the stack, which are taken off; its value goes on
pub record Takes (kinds : ProgramKinds) (parameters : List FormalParameter) (a c : Builder) (i : ℕ) (goal : Goal) (m : Program kinds → List Value → Run Value) (left : List Value → List Value) : Type 0 where
  pub extends : Extends a c
  pub below : i < length c.nodes.items
  pub pos : 0 < i
  pub is : (p : Program kinds) → Grows c p.all → (n : ℕ) (vs : List Value) (s : State) → IsIn p.tables parameters n s → place_in p n i vs s ≡ (m p vs >>= λ w. goal (place_in p n) w (left vs)) s

module _ {kinds : ProgramKinds} {parameters : List FormalParameter} {a b : Builder} {i next : ℕ} where
  -- a node before a place
  before : {x : Node} {goal : Goal} {m : Program kinds → List Value → Run Value} {left : List Value → List Value} → Stands next a → Places kinds a b i x
      → ((p : Program kinds) (again at : ℕ → Cont) → made p.tables p.functions again at x ≡ (λ vs. m p vs >>= λ w. goal at w (left vs))) → Takes kinds parameters a b i goal m left
  before h o same = record {
    extends = o.extends;
    below = o.below;
    pos = (let f = o.fresh in let l = h.below in omega (arith, f, l));
    is = λ p g k vs s j. at_once (o.is p g k ∙ same p (turns_in p k) (place_in p k)) vs s;
  }

  -- the nodes of a value, of an assignment and of what is raised, whose values are of no use
  pub node : {x : ValueNode} → Stands next a → Pushes a b (n.Value x next) i → Takes kinds parameters a b i (pushed next) (λ p vs. value_of p.tables p.functions x vs) (λ vs. drop (popped x) vs)
  node h q = before h (placed q h.below) (λ p again at. refl)

  pub assign_node : {o : AssignmentOperator} {place : Place} → Stands next a → Pushes a b (n.Assign o place next) i
      → Takes kinds parameters a b i (discarded next) (λ p vs. value_of p.tables p.functions (v.Assign o place) vs) (λ vs. drop (popped (v.Assign o place)) vs)
  assign_node h q = before h (placed q h.below) (λ p again at. refl)

  pub raise_node : {o : IncrementOperator} {place : Place} → Stands next a → Pushes a b (n.Raise o place next) i
      → Takes kinds parameters a b i (discarded next) (λ p vs. value_of p.tables p.functions (v.PostIncrement o place) vs) (λ vs. drop (popped (v.PostIncrement o place)) vs)
  raise_node h q = before h (placed q h.below) (λ p again at. refl)

  pub append_node : {variable : Variable} {count : ℕ} → Stands next a → Pushes a b (n.AppendTo variable count next) i
      → Takes kinds parameters a b i (discarded next) (λ p vs. append_to p.tables.names variable (taken count vs)) (λ vs. drop count vs)
  append_node h q = before h (placed q h.below) (λ p again at. refl)

  -- the nodes that test a value
  module _ {other : ℕ} (h : Stands next a) (h' : Stands other a) where
    pub match_node : {text : Operand} {number : ℕ} → Pushes a b (n.Match text number next other) i → Takes kinds parameters a b i (tested next other) (λ p vs. value_of p.tables p.functions (v.Matches text number) vs) (λ vs. vs)
    match_node q = before h (placed q (h.below, h'.below)) (λ p again at. refl)

    pub compare_with_node : {o : BinaryOperator} {right : Operand} → Pushes a b (n.CompareWith o right next other) i
        → Takes kinds parameters a b i (tested next other) (λ p vs. value_of p.tables p.functions (v.OperateWith o right) vs) (λ vs. drop 1 vs)
    compare_with_node q = before h (placed q (h.below, h'.below)) (λ p again at. refl)

    pub compare_node : {o : BinaryOperator} {left right : Operand} → Pushes a b (n.Compare o left right next other) i
        → Takes kinds parameters a b i (tested next other) (λ p vs. value_of p.tables p.functions (v.OperateOn o left right) vs) (λ vs. vs)
    compare_node q = before h (placed q (h.below, h'.below)) (λ p again at. refl)

pub takes_stand : {kinds : ProgramKinds} {parameters : List FormalParameter} {a c : Builder} {i : ℕ} {goal : Goal} {m : Program kinds → List Value → Run Value} {left : List Value → List Value} → Takes kinds parameters a c i goal m left → Stands i c
takes_stand t = record { below = t.below; pos = t.pos }

module _ {kinds : ProgramKinds} {parameters : List FormalParameter} {a b c : Builder} {i j : ℕ} {goal : Goal} {m : Program kinds → List Value → Run Value} {left : List Value → List Value} (rest : List Value → List Value) where
  -- an expression is evaluated first
  pub value_first : Takes kinds parameters a b j goal m left → (e : Expr) → Builds kinds parameters b c i (Evaluate e j) → ((v : Value) (vs : List Value) → left (v ∷ vs) ≡ rest vs)
      → Takes kinds parameters a c i goal (λ p vs. eval p.functions e >>= λ v. m p (v ∷ vs)) rest
  value_first t e q same = record {
    extends = extends t.extends q.extends;
    below = q.below;
    pos = q.pos;
    is = λ p g k vs s h.
        q.is p g k vs s h
        ∙ later_in _ _ s k (keeps_eval p.functions p.calls.keep e) h (λ v u l. t.is p (grows q.extends.grows g) k (v ∷ vs) u l ∙ ap (λ (vs' : List Value). (m p (v ∷ vs) >>= λ w. goal (place_in p k) w vs') u) (same v vs))
        ∙ sym (assoc_at (eval p.functions e) (λ v. m p (v ∷ vs)) (λ w. goal (place_in p k) w (rest vs)) s);
  }

  -- the key of an element
  pub key_first : Takes kinds parameters a b j goal m left → (es : Exprs) → Builds kinds parameters b c i (EvaluateKey es j) → ((v : Value) (vs : List Value) → left (v ∷ vs) ≡ rest vs)
      → Takes kinds parameters a c i goal (λ p vs. key_value p.functions es >>= λ v. m p (v ∷ vs)) rest
  key_first t es q same = record {
    extends = extends t.extends q.extends;
    below = q.below;
    pos = q.pos;
    is = λ p g k vs s h.
        q.is p g k vs s h
        ∙ later_in _ _ s k (keeps_key_value p.functions p.calls.keep es) h (λ v u l. t.is p (grows q.extends.grows g) k (v ∷ vs) u l ∙ ap (λ (vs' : List Value). (m p (v ∷ vs) >>= λ w. goal (place_in p k) w vs') u) (same v vs))
        ∙ sym (assoc_at (key_value p.functions es) (λ v. m p (v ∷ vs)) (λ w. goal (place_in p k) w (rest vs)) s);
  }

  -- the values of a list
  pub list_first : Takes kinds parameters a b j goal m left → (es : Exprs) → Builds kinds parameters b c i (EvaluateAll es j) → ((ws vs : List Value) → length ws ≡ count_of es → left (reverse ws ++ vs) ≡ rest vs)
      → Takes kinds parameters a c i goal (λ p vs. eval_all p.functions [] es >>= λ ws. m p (reverse ws ++ vs)) rest
  list_first t es q same = record {
    extends = extends t.extends q.extends;
    below = q.below;
    pos = q.pos;
    is = λ p g k vs s h.
        q.is p g k vs s h
        ∙ counted p.functions p.calls.keep es _ _ k s h (λ ws u e l. t.is p (grows q.extends.grows g) k (reverse ws ++ vs) u l ∙ ap (λ (vs' : List Value). (m p (reverse ws ++ vs) >>= λ w. goal (place_in p k) w vs') u) (same ws vs e))
        ∙ sym (assoc_at (eval_all p.functions [] es) (λ ws. m p (reverse ws ++ vs)) (λ w. goal (place_in p k) w (rest vs)) s);
  }

-- what a place needs is evaluated first
pub place_first : {kinds : ProgramKinds} {parameters : List FormalParameter} {a b c d : Builder} {i j : ℕ} {goal : Goal} {m : Program kinds → List Value → Run Value} {left : List Value → List Value} {place : Place} {e : Expr}
    (rest : List Value → List Value) (f : Program kinds → List Value → target.Place → Run Value) → Extends a b → IsPlaceOf kinds parameters b place e → Takes kinds parameters b c j goal m left → Builds kinds parameters c d i (EvaluateOperand e j)
    → ((ws : List Value) → left ws ≡ rest (drop (operands place) ws))
    → ((p : Program kinds) → Grows d p.all → (n : ℕ) (t : target.Place) (ws vs : List Value) (u : State) → IsIn p.tables parameters n u → IsAt p parameters t place (first ws) → drop (operands place) ws ≡ vs → m p ws u ≡ f p vs t u)
    → Takes kinds parameters a d i goal (λ p vs. place_of p.functions e >>= f p vs) rest
place_first {goal = goal} {m = m} {e = e} rest f before is t q same alike = record {
  extends = extends before (extends t.extends q.extends);
  below = q.below;
  pos = q.pos;
  is = λ p g k vs s h.
      q.is p g k vs s h
      ∙ sym (is.is p (grows t.extends.grows (grows q.extends.grows g)) (λ x. f p vs x >>= λ w. goal (place_in p k) w (rest vs)) _ k vs s h (λ x ws u l at dropped.
      first_same (f p vs x) (m p ws) (λ w. goal (place_in p k) w (rest vs)) u (sym (alike p g k x ws vs u l at dropped))
      ∙ ap (λ (vs' : List Value). (m p ws >>= λ w. goal (place_in p k) w vs') u) (sym (same ws ∙ ap rest dropped))
      ∙ sym (t.is p (grows q.extends.grows g) k ws u l)))
      ∙ sym (assoc_at (place_of p.functions e) (f p vs) (λ w. goal (place_in p k) w (rest vs)) s);
}

-- a value that is taken, and then another one above what is left
pub taken_first : {kinds : ProgramKinds} {parameters : List FormalParameter} {a b c : Builder} {i j : ℕ} {goal : Goal} {m m' : Program kinds → List Value → Run Value} {left left' : List Value → List Value} (rest : List Value → List Value)
    → Takes kinds parameters a b j goal m left → Takes kinds parameters b c i (pushed j) m' left' → ((p : Program kinds) (vs : List Value) → Keeps (m' p vs)) → ((w : Value) (vs : List Value) → left (w ∷ left' vs) ≡ rest vs)
    → Takes kinds parameters a c i goal (λ p vs. m' p vs >>= λ w. m p (w ∷ left' vs)) rest
taken_first {goal = goal} {m = m} {m' = m'} {left' = left'} rest t q keeps same = record {
  extends = extends t.extends q.extends;
  below = q.below;
  pos = q.pos;
  is = λ p g k vs s h.
      q.is p g k vs s h
      ∙ later_in _ _ s k (keeps p vs) h (λ v u l. t.is p (grows q.extends.grows g) k (v ∷ left' vs) u l ∙ ap (λ (vs' : List Value). (m p (v ∷ left' vs) >>= λ w. goal (place_in p k) w vs') u) (same v vs))
      ∙ sym (assoc_at (m' p vs) (λ v. m p (v ∷ left' vs)) (λ w. goal (place_in p k) w (rest vs)) s);
}

-- two parts, of which a test chooses one
pub decided : {kinds : ProgramKinds} {parameters : List FormalParameter} {a a1 b1 a2 b2 c d : Builder} {i here other : ℕ} {goal : Goal} {m1 m2 : Program kinds → List Value → Run Value} {left : List Value → List Value}
    → Takes kinds parameters a1 b1 here goal m1 left → Takes kinds parameters a2 b2 other goal m2 left → Extends a c → Extends b1 c → Extends b2 c → (e : Expr) → Builds kinds parameters c d i (Decide e here other)
    → Takes kinds parameters a d i goal (λ p vs. eval p.functions e >>= λ v. choose (truth_of v) (m1 p vs) (m2 p vs)) left
decided {goal = goal} {m1 = m1} {m2 = m2} {left = left} t u before g1 g2 e q = record {
  extends = extends before q.extends;
  below = q.below;
  pos = q.pos;
  is = λ p g k vs s h.
      q.is p g k vs s h
      ∙ later_in _ _ s k (keeps_eval p.functions p.calls.keep e) h (λ v s' l.
      chosen (truth_of v) (m1 p vs) (m2 p vs) (λ w. goal (place_in p k) w (left vs)) _ _ s'
      (t.is p (grows g1.grows (grows q.extends.grows g)) k vs s' l) (u.is p (grows g2.grows (grows q.extends.grows g)) k vs s' l))
      ∙ sym (assoc_at (eval p.functions e) (λ v. choose (truth_of v) (m1 p vs) (m2 p vs)) (λ w. goal (place_in p k) w (left vs)) s);
}

-- the same value, told in another way
pub alike : {kinds : ProgramKinds} {parameters : List FormalParameter} {a c : Builder} {i : ℕ} {goal : Goal} {m m' : Program kinds → List Value → Run Value} {left : List Value → List Value} → Takes kinds parameters a c i goal m left
    → ((p : Program kinds) → Grows c p.all → (n : ℕ) (vs : List Value) (s : State) → IsIn p.tables parameters n s → m p vs s ≡ m' p vs s) → Takes kinds parameters a c i goal m' left
alike {goal = goal} {m = m} {m' = m'} {left = left} t same = record {
  extends = t.extends;
  below = t.below;
  pos = t.pos;
  is = λ p g k vs s h. t.is p g k vs s h ∙ first_same (m p vs) (m' p vs) (λ w. goal (place_in p k) w (left vs)) s (same p g k vs s h);
}

-- what does as an expression does, and tests it
pub decides : {kinds : ProgramKinds} {parameters : List FormalParameter} {a c : Builder} {i here other : ℕ} {m : Program kinds → List Value → Run Value} {left : List Value → List Value} → Takes kinds parameters a c i (tested here other) m left → ((vs : List Value) → left vs ≡ vs)
    → (e : Expr) → ((p : Program kinds) → Grows c p.all → (n : ℕ) (vs : List Value) (s : State) → IsIn p.tables parameters n s → m p vs s ≡ eval p.functions e s) → Builds kinds parameters a c i (Decide e here other)
decides {here = here} {other = other} {m = m} t same e is = record {
  extends = t.extends;
  below = t.below;
  pos = t.pos;
  is = λ p g k vs s h.
      t.is p g k vs s h
      ∙ first_same (m p vs) (eval p.functions e) _ s (is p g k vs s h)
      ∙ ap (λ (vs' : List Value). (eval p.functions e >>= λ w. choose (truth_of w) (place_in p k here vs') (place_in p k other vs')) s) (same vs);
}

module _ {kinds : ProgramKinds} {parameters : List FormalParameter} {a c : Builder} {i next : ℕ} {m : Program kinds → List Value → Run Value} {left : List Value → List Value} (t : Takes kinds parameters a c i (pushed next) m left) (same : (vs : List Value) → left vs ≡ vs) where
  -- what does as an expression does is the expression
  pub evaluates : (e : Expr) → ((p : Program kinds) → Grows c p.all → (n : ℕ) (vs : List Value) (s : State) → IsIn p.tables parameters n s → m p vs s ≡ eval p.functions e s) → Builds kinds parameters a c i (Evaluate e next)
  evaluates e is = record {
    extends = t.extends;
    below = t.below;
    pos = t.pos;
    is = λ p g k vs s h.
        t.is p g k vs s h
        ∙ first_same (m p vs) (eval p.functions e) _ s (is p g k vs s h)
        ∙ ap (λ (vs' : List Value). (eval p.functions e >>= λ w. place_in p k next (w ∷ vs')) s) (same vs);
  }

  pub evaluates_key : (es : Exprs) → ((p : Program kinds) → Grows c p.all → (n : ℕ) (vs : List Value) (s : State) → IsIn p.tables parameters n s → m p vs s ≡ key_value p.functions es s) → Builds kinds parameters a c i (EvaluateKey es next)
  evaluates_key es is = record {
    extends = t.extends;
    below = t.below;
    pos = t.pos;
    is = λ p g k vs s h.
        t.is p g k vs s h
        ∙ first_same (m p vs) (key_value p.functions es) _ s (is p g k vs s h)
        ∙ ap (λ (vs' : List Value). (key_value p.functions es >>= λ w. place_in p k next (w ∷ vs')) s) (same vs);
  }
