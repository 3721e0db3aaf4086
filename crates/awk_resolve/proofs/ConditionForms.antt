-- Tests: what is chosen by an expression, and what gives 1 or 0.
use Rattle.std.proofs.Common.{◌≡◌, ℕ, pos, Bool, true, false, not, List, ◌∷◌, Result, Ok, Err, refl, sym, subst, ◌∙◌}
use Rattle.awk_value.specs.declared.value.Value.{Value}
use Rattle.awk_value.specs.declared.value.Value.TheVariants as value
use Rattle.awk_value.specs.Values.{str_of, truth_of}
use Rattle.awk_lex.specs.declared.token.Operator.TheVariants as o
use Rattle.awk_ere.specs.Tree.{Tree}
use Rattle.awk_ere.specs.Means.{occurs}
use Rattle.awk_grammar.specs.declared.tree.UnaryOperator.{UnaryOperator}
use Rattle.awk_grammar.specs.declared.tree.UnaryOperator.TheVariants as unary
use Rattle.awk_grammar.specs.declared.tree.BinaryOperator.{BinaryOperator}
use Rattle.awk_grammar.specs.declared.tree.BinaryOperator.TheVariants.{Concatenate, Infix}
use Rattle.awk_grammar.specs.Tree.{Expr, Ere, Group, Unary, Binary, Conditional}
use Rattle.awk_kinds.specs.definitions.Kinds.{FormalParameter}
use Rattle.awk_kinds.specs.definitions.Signatures.{ProgramKinds}
use Rattle.awk_semantics.specs.declared.halt.Halt.{Halt}
use Rattle.awk_semantics.specs.definitions.State.{State, Run, ◌>>=◌, lift, ret}
use Rattle.awk_semantics.specs.definitions.Operators.{truth_value, changed, applied, pattern_in, of_match}
use Rattle.awk_semantics.specs.definitions.Semantics.{right_operand, tested, choose, combined, eval}
use Rattle.awk_semantics.proofs.KeepsForms.{keeps_eval}
use Rattle.awk_resolve.specs.declared.builder.Builder.{Builder}
use Rattle.awk_resolve.specs.declared.node.Operand.TheVariants as operand
use Rattle.awk_resolve.specs.declared.node.Tested.TheVariants as asks
use Rattle.awk_resolve.specs.declared.node.Node.TheVariants as n
use Rattle.awk_resolve.specs.support.Builds.{Pushes, AddsEre, Evaluate, Decide, place_in, Builds, Stands}
use Rattle.awk_resolve.specs.support.Operands.{is_not, is_and, is_or, PushesTruths}
use Rattle.awk_resolve.proofs.Calculus.{assoc_at, later_same, later_in, given, stopped}
use Rattle.awk_resolve.proofs.Building.{grows, extends, same, still, placed, at_once, both}
use Rattle.awk_resolve.proofs.ExpressionForms.{ere_added, record_matched}
use Rattle.awk_resolve.proofs.Taking.{pushed, Takes, node, match_node, takes_stand, decided, decides, evaluates}

pub tested_then : {B : Type 0} (m : Run Value) (f : Bool → Run B) (s : State) → (tested m >>= f) s ≡ (m >>= λ v. f (truth_of v)) s
unfolding tested
tested_then m f s = assoc_at m (λ v. ret (truth_of v)) f s ∙ later_same m _ _ s (λ v u. given (truth_of v) f u)

by_truth : {B : Type 0} (b : Bool) (f : Bool → Run B) (s : State) → choose b (f true) (f false) s ≡ f b s
by_truth true f s = refl
by_truth false f s = refl

and_inner : {B : Type 0} (b : Bool) (right : Run Value) (f : Bool → Run B) (s : State) → choose b (right >>= λ w. choose (truth_of w) (f true) (f false)) (f false) s ≡ (choose b (tested right) (ret false) >>= f) s
and_inner true right f s = later_same right _ _ s (λ w u. by_truth (truth_of w) f u) ∙ sym (tested_then right f s)
and_inner false right f s = sym (given false f s)

or_inner : {B : Type 0} (b : Bool) (right : Run Value) (f : Bool → Run B) (s : State) → choose b (f true) (right >>= λ w. choose (truth_of w) (f true) (f false)) s ≡ (choose b (ret true) (tested right) >>= f) s
or_inner true right f s = sym (given true f s)
or_inner false right f s = later_same right _ _ s (λ w u. by_truth (truth_of w) f u) ∙ sym (tested_then right f s)

module _ {B : Type 0} (left right : Run Value) (f : Bool → Run B) (s : State) where
  and_by : (left >>= λ v. choose (truth_of v) (right >>= λ w. choose (truth_of w) (f true) (f false)) (f false)) s ≡ (tested left >>= λ b. choose b (tested right) (ret false) >>= f) s
  and_by = later_same left _ _ s (λ v u. and_inner (truth_of v) right f u) ∙ sym (tested_then left (λ b. choose b (tested right) (ret false) >>= f) s)

  or_by : (left >>= λ v. choose (truth_of v) (f true) (right >>= λ w. choose (truth_of w) (f true) (f false))) s ≡ (tested left >>= λ b. choose b (ret true) (tested right) >>= f) s
  or_by = later_same left _ _ s (λ v u. or_inner (truth_of v) right f u) ∙ sym (tested_then left (λ b. choose b (ret true) (tested right) >>= f) s)

-- a truth's value, tested
module _ {B : Type 0} (left right : Run Value) (here other : Run B) (s : State) where
  abbrev by_value : Value → Run B
  by_value v = choose (truth_of v) here other

  behind_value : (m : Bool → Run Bool) → (tested left >>= λ b. m b >>= λ y. by_value (truth_value y)) s ≡ ((tested left >>= λ b. m b >>= λ y. ret (truth_value y)) >>= by_value) s
  behind_value m =
      later_same (tested left) _ _ s (λ b u. later_same (m b) _ _ u (λ y t. sym (given (truth_value y) by_value t)) ∙ sym (assoc_at (m b) (λ y. ret (truth_value y)) by_value u))
      ∙ sym (assoc_at (tested left) (λ b. m b >>= λ y. ret (truth_value y)) by_value s)

  and_then : (left >>= λ v. choose (truth_of v) (right >>= λ w. choose (truth_of w) here other) other) s ≡ (combined (Infix o.And) left right >>= by_value) s
  and_then = and_by left right (λ y. by_value (truth_value y)) s ∙ behind_value (λ b. choose b (tested right) (ret false))

  or_then : (left >>= λ v. choose (truth_of v) here (right >>= λ w. choose (truth_of w) here other)) s ≡ (combined (Infix o.Or) left right >>= by_value) s
  or_then = or_by left right (λ y. by_value (truth_value y)) s ∙ behind_value (λ b. choose b (ret true) (tested right))

the_and : (b : BinaryOperator) → is_and b ≡ true → b ≡ Infix o.And
the_and (Infix o.And) e = refl
the_and Concatenate e = absurd (cc)
the_and (Infix o.Power) e = absurd (cc)
the_and (Infix o.Times) e = absurd (cc)
the_and (Infix o.Divide) e = absurd (cc)
the_and (Infix o.Remainder) e = absurd (cc)
the_and (Infix o.Plus) e = absurd (cc)
the_and (Infix o.Minus) e = absurd (cc)
the_and (Infix o.Less) e = absurd (cc)
the_and (Infix o.LessEqual) e = absurd (cc)
the_and (Infix o.NotEqual) e = absurd (cc)
the_and (Infix o.Equal) e = absurd (cc)
the_and (Infix o.Greater) e = absurd (cc)
the_and (Infix o.GreaterEqual) e = absurd (cc)
the_and (Infix o.Matches) e = absurd (cc)
the_and (Infix o.NotMatches) e = absurd (cc)
the_and (Infix o.Or) e = absurd (cc)

the_or : (b : BinaryOperator) → is_or b ≡ true → b ≡ Infix o.Or
the_or (Infix o.Or) e = refl
the_or Concatenate e = absurd (cc)
the_or (Infix o.Power) e = absurd (cc)
the_or (Infix o.Times) e = absurd (cc)
the_or (Infix o.Divide) e = absurd (cc)
the_or (Infix o.Remainder) e = absurd (cc)
the_or (Infix o.Plus) e = absurd (cc)
the_or (Infix o.Minus) e = absurd (cc)
the_or (Infix o.Less) e = absurd (cc)
the_or (Infix o.LessEqual) e = absurd (cc)
the_or (Infix o.NotEqual) e = absurd (cc)
the_or (Infix o.Equal) e = absurd (cc)
the_or (Infix o.Greater) e = absurd (cc)
the_or (Infix o.GreaterEqual) e = absurd (cc)
the_or (Infix o.Matches) e = absurd (cc)
the_or (Infix o.NotMatches) e = absurd (cc)
the_or (Infix o.And) e = absurd (cc)

negated : {B : Type 0} (t : Bool) (x y : Run B) (s : State) → choose t y x s ≡ choose (truth_of (truth_value (not t))) x y s
negated true x y s = refl
negated false x y s = refl

exchanged : {B : Type 0} (t : Bool) (x y : Run B) (s : State) → choose (truth_of (truth_value t)) y x s ≡ choose (truth_of (truth_value (not t))) x y s
exchanged true x y s = refl
exchanged false x y s = refl

-- no match is what `!~` tests, and a pattern that is none is refused by both
mismatched : {B : Type 0} (text : List ℕ) (pattern : Result Tree Halt) (x y : Run B) (s : State) → (lift (of_match (λ b. b) text pattern) >>= λ w. choose (truth_of w) y x) s ≡ (lift (of_match not text pattern) >>= λ w. choose (truth_of w) x y) s
mismatched text (Ok t) x y s =
    let b = occurs t text in
    given (truth_value b) (λ w. choose (truth_of w) y x) s ∙ exchanged b x y s ∙ sym (given (truth_value (not b)) (λ w. choose (truth_of w) x y) s)
mismatched text (Err h) x y s = stopped h (λ w. choose (truth_of w) y x) s ∙ sym (stopped h (λ w. choose (truth_of w) x y) s)

-- tests

pub test_lowered : {kinds : ProgramKinds} {parameters : List FormalParameter} {a b c : Builder} {i j here other : ℕ} {e : Expr} → Stands here a → Stands other a → Pushes a b (n.Test asks.Top here other) j → Builds kinds parameters b c i (Evaluate e j) → Builds kinds parameters a c i (Decide e here other)
test_lowered {here = here} {other = other} {e = e} h h' q r =
    let o = placed q (h.below, h'.below) in
    record {
      extends = extends o.extends r.extends;
      below = r.below;
      pos = r.pos;
      is = λ p g m vs s l. r.is p g m vs s l ∙ later_in _ _ s m (keeps_eval p.functions p.calls.keep e) l (λ v u k. at_once (o.is p (grows r.extends.grows g) m) (v ∷ vs) u ∙ given (truth_of v) (λ b. choose b (place_in p m here vs) (place_in p m other vs)) u);
    }

pub ere_tested : {kinds : ProgramKinds} {parameters : List FormalParameter} {a b c : Builder} {i here other number : ℕ} {text : List ℕ} → Stands here a → Stands other a → AddsEre a b number text → Pushes b c (n.Match (operand.Field 0) number here other) i → Builds kinds parameters a c i (Decide (Ere text) here other)
ere_tested {text = text} h h' adds q = let g = ere_added adds in decides (record_matched adds (match_node (still g h) (still g h') q)) (λ vs. refl) (Ere text) (λ p l m vs s i. refl)

module _ {kinds : ProgramKinds} {parameters : List FormalParameter} {a b : Builder} {i here other : ℕ} {e : Expr} where
  pub group_tested : Builds kinds parameters a b i (Decide e here other) → Builds kinds parameters a b i (Decide (Group e) here other)
  unfolding eval
  group_tested q = record { extends = q.extends; below = q.below; pos = q.pos; is = q.is }

  pub not_tested : (u : UnaryOperator) → is_not u ≡ true → Builds kinds parameters a b i (Decide e other here) → Builds kinds parameters a b i (Decide (Unary u e) here other)
  unfolding eval
  not_tested unary.Plus is q = absurd (cc)
  not_tested unary.Minus is q = absurd (cc)
  not_tested unary.Not is q = record {
    extends = q.extends;
    below = q.below;
    pos = q.pos;
    is = λ p g m vs s l.
        let f = λ (w : Value). choose (truth_of w) (place_in p m here vs) (place_in p m other vs) in
        q.is p g m vs s l
        ∙ later_same (eval p.functions e) _ _ s (λ v u. negated (truth_of v) (place_in p m here vs) (place_in p m other vs) u ∙ sym (given (truth_value (not (truth_of v))) f u))
        ∙ sym (assoc_at (eval p.functions e) (λ v. lift (changed unary.Not v)) f s);
  }

-- `!~` is `~` with the places exchanged
pub mismatch_tested : {kinds : ProgramKinds} {parameters : List FormalParameter} {a b : Builder} {i here other : ℕ} {x y : Expr} → Builds kinds parameters a b i (Decide (Binary (Infix o.Matches) x y) other here) → Builds kinds parameters a b i (Decide (Binary (Infix o.NotMatches) x y) here other)
unfolding eval
mismatch_tested {here = here} {other = other} {x = x} {y = y} q = record {
  extends = q.extends;
  below = q.below;
  pos = q.pos;
  is = λ p g m vs s l.
      let left = eval p.functions x in
      let right = right_operand true y (eval p.functions y) in
      let at = place_in p m in
      let f = λ (w : Value). choose (truth_of w) (at other vs) (at here vs) in
      let f' = λ (w : Value). choose (truth_of w) (at here vs) (at other vs) in
      q.is p g m vs s l
      ∙ assoc_at left (λ w. right >>= λ z. lift (applied o.Matches w z)) f s
      ∙ later_same left _ _ s (λ w u.
      assoc_at right (λ z. lift (applied o.Matches w z)) f u
      ∙ later_same right _ _ u (λ z t. mismatched (str_of w) (pattern_in (str_of z)) (at here vs) (at other vs) t)
      ∙ sym (assoc_at right (λ z. lift (applied o.NotMatches w z)) f' u))
      ∙ sym (assoc_at left (λ w. right >>= λ z. lift (applied o.NotMatches w z)) f' s);
}

module _ {kinds : ProgramKinds} {parameters : List FormalParameter} {a b c : Builder} {i j here other : ℕ} {x y : Expr} (w : BinaryOperator) where
  pub and_tested : is_and w ≡ true → Builds kinds parameters a b j (Decide y here other) → Builds kinds parameters b c i (Decide x j other) → Builds kinds parameters a c i (Decide (Binary w x y) here other)
  unfolding eval
  and_tested e q r = subst (λ (b' : BinaryOperator). Builds kinds parameters a c i (Decide (Binary b' x y) here other)) (sym (the_and w e)) (record {
    extends = extends q.extends r.extends;
    below = r.below;
    pos = r.pos;
    is = λ p g m vs s l.
        r.is p g m vs s l
        ∙ later_in _ _ s m (keeps_eval p.functions p.calls.keep x) l (λ v u k. both (truth_of v) _ _ _ _ u (q.is p (grows r.extends.grows g) m vs u k) refl)
        ∙ and_then (eval p.functions x) (eval p.functions y) (place_in p m here vs) (place_in p m other vs) s;
  })

  pub or_tested : is_or w ≡ true → Builds kinds parameters a b j (Decide y here other) → Builds kinds parameters b c i (Decide x here j) → Builds kinds parameters a c i (Decide (Binary w x y) here other)
  unfolding eval
  or_tested e q r = subst (λ (b' : BinaryOperator). Builds kinds parameters a c i (Decide (Binary b' x y) here other)) (sym (the_or w e)) (record {
    extends = extends q.extends r.extends;
    below = r.below;
    pos = r.pos;
    is = λ p g m vs s l.
        r.is p g m vs s l
        ∙ later_in _ _ s m (keeps_eval p.functions p.calls.keep x) l (λ v u k. both (truth_of v) _ _ _ _ u refl (q.is p (grows r.extends.grows g) m vs u k))
        ∙ or_then (eval p.functions x) (eval p.functions y) (place_in p m here vs) (place_in p m other vs) s;
  })

-- what gives 1 or 0

module _ (kinds : ProgramKinds) (parameters : List FormalParameter) {a b : Builder} {one none next : ℕ} (h : Stands next a) (t : PushesTruths a b one none next) where
  one_taken : Takes kinds parameters a t.between one (pushed next) (λ p vs. ret (value.Number (pos 1))) (λ vs. vs)
  one_taken = node h t.first

  none_taken : Takes kinds parameters t.between b none (pushed next) (λ p vs. ret (value.Number (pos 0))) (λ vs. vs)
  none_taken = node (still one_taken.extends h) t.second

  pub truths_stand : Stands one b × Stands none b
  truths_stand = (still none_taken.extends (takes_stand one_taken), takes_stand none_taken)

module _ {kinds : ProgramKinds} {parameters : List FormalParameter} {a b c d : Builder} {i j one none next : ℕ} {x y : Expr} (w : BinaryOperator) (h : Stands next a) (t : PushesTruths a b one none next) where
  pub and_lowered : is_and w ≡ true → Builds kinds parameters b c j (Decide y one none) → Builds kinds parameters c d i (Decide x j none) → Builds kinds parameters a d i (Evaluate (Binary w x y) next)
  unfolding eval
  and_lowered e q r = subst (λ (b' : BinaryOperator). Builds kinds parameters a d i (Evaluate (Binary b' x y) next)) (sym (the_and w e))
      (let at_one = one_taken kinds parameters h t in
      let at_none = none_taken kinds parameters h t in
      let second = decided at_one at_none (extends at_one.extends at_none.extends) at_none.extends same y q in
      evaluates (decided second at_none (extends (extends at_one.extends at_none.extends) q.extends) same q.extends x r) (λ vs. refl) (Binary (Infix o.And) x y)
      (λ p g m vs s l. and_by (eval p.functions x) (eval p.functions y) (λ z. ret (truth_value z)) s))

  pub or_lowered : is_or w ≡ true → Builds kinds parameters b c j (Decide y one none) → Builds kinds parameters c d i (Decide x one j) → Builds kinds parameters a d i (Evaluate (Binary w x y) next)
  unfolding eval
  or_lowered e q r = subst (λ (b' : BinaryOperator). Builds kinds parameters a d i (Evaluate (Binary b' x y) next)) (sym (the_or w e))
      (let at_one = one_taken kinds parameters h t in
      let at_none = none_taken kinds parameters h t in
      let second = decided at_one at_none (extends at_one.extends at_none.extends) at_none.extends same y q in
      evaluates (decided at_one second (extends (extends at_one.extends at_none.extends) q.extends) (extends at_none.extends q.extends) same x r) (λ vs. refl) (Binary (Infix o.Or) x y)
      (λ p g m vs s l. or_by (eval p.functions x) (eval p.functions y) (λ z. ret (truth_value z)) s))

evaluated : {kinds : ProgramKinds} {parameters : List FormalParameter} {a b : Builder} {i next : ℕ} {e : Expr} → Builds kinds parameters a b i (Evaluate e next) → Takes kinds parameters a b i (pushed next) (λ p vs. eval p.functions e) (λ vs. vs)
evaluated q = record { extends = q.extends; below = q.below; pos = q.pos; is = q.is }

pub conditional_lowered : {kinds : ProgramKinds} {parameters : List FormalParameter} {a b c d : Builder} {i here other next : ℕ} {x y z : Expr} → Builds kinds parameters a b here (Evaluate y next) → Builds kinds parameters b c other (Evaluate z next) → Builds kinds parameters c d i (Decide x here other)
    → Builds kinds parameters a d i (Evaluate (Conditional x y z) next)
unfolding eval
conditional_lowered {x = x} {y = y} {z = z} q r t =
    evaluates (decided (evaluated q) (evaluated r) (extends q.extends r.extends) r.extends same x t) (λ vs. refl) (Conditional x y z)
    (λ p g m vs s l. sym (tested_then (eval p.functions x) (λ b. choose b (eval p.functions y) (eval p.functions z)) s))
