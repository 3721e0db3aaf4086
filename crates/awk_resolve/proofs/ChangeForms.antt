-- Statements that change a target, built as one node, do what they mean.
use Rattle.std.proofs.Common.{◌≡◌, ℕ, pos, List, Option, Some, None, refl, sym, ap, ◌∙◌, arith}
use Rattle.awk_value.specs.declared.value.Value.{Value}
use Rattle.awk_lex.specs.declared.token.AssignmentOperator.{AssignmentOperator}
use Rattle.awk_lex.specs.declared.token.IncrementOperator.{IncrementOperator}
use Rattle.awk_lex.specs.declared.token.IncrementOperator.TheVariants as increment_operator
use Rattle.awk_grammar.specs.Tree.{Expr, Number, Assign, PreIncrement, PostIncrement, Expression, Simple}
use Rattle.awk_kinds.specs.definitions.Kinds.{FormalParameter}
use Rattle.awk_kinds.specs.definitions.Signatures.{ProgramKinds}
use Rattle.awk_semantics.specs.definitions.State.{State, Run, ◌>>=◌, ret}
use Rattle.awk_semantics.specs.definitions.Operators.{by_one, one, operator_of}
use Rattle.awk_semantics.specs.definitions.Primitives.{spend}
use Rattle.awk_semantics.specs.definitions.Places.{assign_by}
use Rattle.awk_semantics.specs.definitions.Semantics.{Functions, eval, place_of}
use Rattle.awk_semantics.proofs.KeepsForms.{keeps_spend}
use Rattle.awk_storage.specs.declared.position.Place.{Place}
use Rattle.awk_resolve.specs.declared.builder.Builder.{Builder}
use Rattle.awk_resolve.specs.declared.builder.Exits.{Exits}
use Rattle.awk_resolve.specs.declared.node.ValueNode.TheVariants as v
use Rattle.awk_resolve.specs.declared.node.Node.{Node}
use Rattle.awk_resolve.specs.declared.node.Node.TheVariants as n
use Rattle.awk_resolve.specs.declared.node.EffectNode.TheVariants as effect
use Rattle.awk_resolve.specs.declared.node.Exchange.{Exchange}
use Rattle.awk_resolve.specs.declared.node.Operand.{Operand}
use Rattle.awk_resolve.specs.declared.node.Operand.TheVariants as operand
use Rattle.awk_resolve.specs.declared.node.Target.{Target}
use Rattle.awk_resolve.specs.support.Nodes.{assign_target, raise_target, substitute_in}
use Rattle.awk_resolve.specs.support.Builds.{Grows, Pushes, Extends, IsIn, Program, Evaluate, EvaluateOperand, Execute, leave_by, place_in, Places, Builds, Stands, ExitsStand, FindsAnOperand, FindsPlace}
use Rattle.awk_resolve.specs.declared.scope.Scope.{Scope}
use Rattle.awk_resolve.specs.support.Exchanges.{FindsAnExchange}
use Rattle.awk_resolve.specs.support.Operands.{assigned_by_one}
use Rattle.awk_resolve.specs.support.Scopes.{LowersChange}
use Rattle.awk_resolve.specs.support.Targets.{FindsATarget}
use Rattle.awk_resolve.proofs.Calculus.{assoc_at, later_same, later_in, first_same, given}
use Rattle.awk_resolve.proofs.Building.{grows, extends, still, behind, placed, at_once}
use Rattle.awk_resolve.proofs.KeyForms.{target_assigned, target_raised}
use Rattle.awk_resolve.proofs.Taking.{Takes, discarded, assign_node, raise_node, takes_stand}
use Rattle.awk_resolve.proofs.ExpressionForms.{number_lowered, assign_taken, post_increment_taken}
use Rattle.awk_resolve.proofs.InPlaceForms.{number_operand, still_operand}
use Rattle.awk_resolve.proofs.Passing.{expression_then, simple_then}
use Rattle.awk_resolve.proofs.SimpleStatements.{stepped}

by_one_is : (o : IncrementOperator) → operator_of (assigned_by_one o) ≡ Some (by_one o)
by_one_is increment_operator.Increment = refl
by_one_is increment_operator.Decrement = refl

module _ {kinds : ProgramKinds} {parameters : List FormalParameter} where
  -- a node that spends a step, and then does what an expression does
  pub changed : {a c d : Builder} {node : Node} {exits : Exits} {i : ℕ} (e : Expr) (run : Program kinds → Run Value) → Extends a c → Stands exits.next c → Places kinds c d i node
      → ((p : Program kinds) → Grows d p.all → (m : ℕ) (vs : List Value) (s : State) → place_in p m i vs s ≡ ((spend >>= λ _. run p) >>= λ _. place_in p m exits.next vs) s)
      → ((p : Program kinds) → Grows d p.all → (m : ℕ) (s : State) → IsIn p.tables parameters m s → run p s ≡ eval p.functions e s)
      → Builds kinds parameters a d i (Execute (Simple (Expression e)) exits)
  changed {exits = exits} e run g h o does same = record {
    extends = extends g o.extends;
    below = o.below;
    pos = (let f = o.fresh in let l = h.below in omega (arith, f, l));
    is = λ p k m vs s l.
        let rest = λ (w : Value). place_in p m exits.next vs in
        does p k m vs s
        ∙ assoc_at spend (λ _. run p) rest s
        ∙ later_in _ _ s m keeps_spend l (λ _ t j. first_same (run p) (eval p.functions e) rest t (same p k m t j))
        ∙ sym (simple_then p.functions (leave_by exits (place_in p m) vs) s (Expression e) ∙ expression_then p.functions (leave_by exits (place_in p m) vs) s e);
  }

-- a target gets an operand
pub update_built : {kinds : ProgramKinds} {parameters : List FormalParameter} {a b c d : Builder} {exits : Exits} {i : ℕ} {x y : Expr} {t : Target} {right : Operand} → Stands exits.next a → (o : AssignmentOperator) → FindsAnOperand kinds parameters a b right y
    → FindsATarget kinds parameters b c t x → Pushes c d (n.Update o t right exits.next) i → Builds kinds parameters a d i (Execute (Simple (Expression (Assign o x y))) exits)
update_built {x = x} {y = y} {t = t} {right = right} h o f k q =
    let before = extends f.extends k.extends in
    let node = placed q (still before h).below in
    changed (Assign o x y) (λ p. assign_target p.tables.names o t right) before (still before h) node
    (λ p g m vs s. at_once (node.is p g m) vs s)
    (λ p g m s l. target_assigned p (grows node.extends.grows g) o t x k.is right y (still_operand k.extends f.is) m s l)

-- an expression whose value is of no use, behind a step
pub discarded_built : {kinds : ProgramKinds} {parameters : List FormalParameter} {a c d : Builder} {exits : Exits} {i j : ℕ} (x : Expr) → Takes kinds parameters a c i (discarded exits.next) (λ p vs. eval p.functions x) (λ vs. vs) → Pushes c d (n.Spend i) j
    → Builds kinds parameters a d j (Execute (Simple (Expression x)) exits)
discarded_built {exits = exits} x t r =
    stepped (Execute (Simple (Expression x)) exits) (λ functions at vs. eval functions x >>= λ _. at exits.next vs) t.extends r t.below t.is
    (λ functions at vs s. simple_then functions (leave_by exits at vs) s (Expression x) ∙ expression_then functions (leave_by exits at vs) s x)

-- places of any kind
module _ {kinds : ProgramKinds} {parameters : List FormalParameter} {a b c : Builder} {exits : Exits} {l : ℕ} {x : Expr} {place : Place} (h : Stands exits.next a) (k : FindsPlace kinds parameters a b place x) where
  pub assignment_built : {d f g : Builder} {y : Expr} {i j m : ℕ} (o : AssignmentOperator) → Pushes b c (n.Assign o place exits.next) l → Builds kinds parameters c d i (Evaluate y l) → Builds kinds parameters d f j (EvaluateOperand x i) → Pushes f g (n.Spend j) m
      → Builds kinds parameters a g m (Execute (Simple (Expression (Assign o x y))) exits)
  assignment_built {y = y} o q r r' t = discarded_built (Assign o x y) (assign_taken k o y (assign_node (still k.extends h) q) r r') t

  pub post_raise_built : {d f : Builder} {i j : ℕ} (o : IncrementOperator) → Pushes b c (n.Raise o place exits.next) l → Builds kinds parameters c d i (EvaluateOperand x l) → Pushes d f (n.Spend i) j
      → Builds kinds parameters a f j (Execute (Simple (Expression (PostIncrement o x))) exits)
  post_raise_built o q r t = discarded_built (PostIncrement o x) (post_increment_taken k o (raise_node (still k.extends h) q) r) t

-- a target is raised
pub post_update_built : {kinds : ProgramKinds} {parameters : List FormalParameter} {a b c : Builder} {exits : Exits} {i : ℕ} {x : Expr} {t : Target} → Stands exits.next a → FindsATarget kinds parameters a b t x → (o : IncrementOperator) → Pushes b c (n.Increment o t exits.next) i
    → Builds kinds parameters a c i (Execute (Simple (Expression (PostIncrement o x))) exits)
post_update_built {x = x} {t = t} h k o q =
    let node = placed q (still k.extends h).below in
    changed (PostIncrement o x) (λ p. raise_target p.tables.names o t) k.extends (still k.extends h) node
    (λ p g m vs s. at_once (node.is p g m) vs s)
    (λ p g m s l. target_raised p (grows node.extends.grows g) o t x k.is m s l)

-- to raise is to assign what is made of 1
raised_by_one : (functions : Functions) (o : IncrementOperator) (x : Expr) (s : State) → eval functions (Assign (assigned_by_one o) x (Number (pos 1))) s ≡ eval functions (PreIncrement o x) s
unfolding eval
raised_by_one functions o x s =
    later_same (place_of functions x) _ (λ t. assign_by (Some (by_one o)) t one) s (λ t u.
    given one (λ w. assign_by (operator_of (assigned_by_one o)) t w) u ∙ ap (λ r. assign_by r t one u) (by_one_is o))

-- what is lowered of an expression is that of one with the same value
told_as : {kinds : ProgramKinds} {parameters : List FormalParameter} {a b : Builder} {exits : Exits} {i : ℕ} (e e' : Expr) → ((functions : Functions) (s : State) → eval functions e s ≡ eval functions e' s) → Builds kinds parameters a b i (Execute (Simple (Expression e)) exits)
    → Builds kinds parameters a b i (Execute (Simple (Expression e')) exits)
told_as {exits = exits} e e' same q = record {
  extends = q.extends;
  below = q.below;
  pos = q.pos;
  is = λ p g m vs s l.
      let out = leave_by exits (place_in p m) vs in
      q.is p g m vs s l
      ∙ simple_then p.functions out s (Expression e)
      ∙ expression_then p.functions out s e
      ∙ later_same spend _ _ s (λ _ t. first_same (eval p.functions e) (eval p.functions e') _ t (same p.functions t))
      ∙ sym (simple_then p.functions out s (Expression e') ∙ expression_then p.functions out s e');
}

module _ {kinds : ProgramKinds} {parameters : List FormalParameter} {a b c : Builder} {exits : Exits} {i : ℕ} {x : Expr} (h : Stands exits.next a) where
  pub pre_update_built : {t : Target} → FindsATarget kinds parameters a b t x → (o : IncrementOperator) → Pushes b c (n.Update (assigned_by_one o) t (operand.Constant one) exits.next) i
      → Builds kinds parameters a c i (Execute (Simple (Expression (PreIncrement o x))) exits)
  pre_update_built k o q = told_as (Assign (assigned_by_one o) x (Number (pos 1))) (PreIncrement o x) (λ functions s. raised_by_one functions o x s) (update_built h (assigned_by_one o) (number_operand (pos 1)) k q)

  pub pre_raise_built : {d f g : Builder} {j l m : ℕ} {place : Place} → FindsPlace kinds parameters a b place x → (o : IncrementOperator) → Pushes b c (n.Assign (assigned_by_one o) place exits.next) l → Pushes c d (n.Value (v.Put (operand.Constant one)) l) i
      → Builds kinds parameters d f j (EvaluateOperand x i) → Pushes f g (n.Spend j) m → Builds kinds parameters a g m (Execute (Simple (Expression (PreIncrement o x))) exits)
  pre_raise_built k o q q' r t =
      told_as (Assign (assigned_by_one o) x (Number (pos 1))) (PreIncrement o x) (λ functions s. raised_by_one functions o x s)
      (assignment_built h k (assigned_by_one o) q (number_lowered (pos 1) (takes_stand (assign_node {kinds = kinds} {parameters = parameters} (still k.extends h) q)) q') r t)

-- of what is exchanged the count is of no use
abbrev nothing : Run (Unit {0})
nothing = ret tt

count_dropped : (m rest : Run Value) (s : State) → ((spend >>= λ _. m >>= λ _. nothing) >>= λ _. rest) s ≡ ((spend >>= λ _. m) >>= λ _. rest) s
count_dropped m rest s =
    let on = λ (_ : Unit {0}). rest in
    assoc_at spend (λ _. m >>= λ _. nothing) on s
    ∙ later_same spend _ _ s (λ _ t. assoc_at m (λ _. nothing) on t ∙ later_same m _ _ t (λ _ u. given tt on u))
    ∙ sym (assoc_at spend (λ _. m) (λ _. rest) s)

pub exchange_built : {kinds : ProgramKinds} {parameters : List FormalParameter} {a b c : Builder} {exits : Exits} {i : ℕ} {y : Expr} {x : Exchange} → Stands exits.next a → FindsAnExchange kinds parameters a b x y → Pushes b c (n.Effect (effect.Exchange x) exits.next) i
    → Builds kinds parameters a c i (Execute (Simple (Expression y)) exits)
exchange_built {exits = exits} {y = y} {x = x} h f q =
    let node = placed q (still f.extends h).below in
    let exchanges = λ (p : Program _). substitute_in p.tables x.all x.ere x.replacement x.variable in
    changed y exchanges f.extends (still f.extends h) node
    (λ p g m vs s. at_once (node.is p g m) vs s ∙ count_dropped (exchanges p) (place_in p m exits.next vs) s)
    (λ p g m s l. f.is.is p (grows node.extends.grows g) m s l)

-- a change behind something else
pub change_behind : {a b : Builder} (c : Builder) (exits : Exits) (scope : Scope) (place : Option ℕ) (e : Expr) → Extends a b → LowersChange scope b c place e exits → LowersChange scope a c place e exits
change_behind c exits scope None e g h = extends g h
change_behind c exits scope (Some i) e g h = behind g h

pub exits_stand : {a b : Builder} {exits : Exits} → Extends a b → ExitsStand exits a → ExitsStand exits b
exits_stand g h = record { next = still g h.next; breaks = still g h.breaks; continues = still g h.continues }
