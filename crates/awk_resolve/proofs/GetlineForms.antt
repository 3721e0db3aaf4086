-- `getline` in its six forms.
use Rattle.std.proofs.Common.{◌≡◌, ℕ, ◌+◌, List, [], ◌∷◌, drop, Option, Some, None, get_or, refl, sym, subst, ap, ◌∙◌, arith}
use Rattle.awk_value.specs.declared.value.Value.{Value}
use Rattle.awk_value.specs.declared.value.Value.TheVariants as value
use Rattle.awk_value.specs.Values.{str_of}
use Rattle.awk_grammar.specs.Tree.{Expr, Getline, PipedGetline, OptionalExpr, NoExpr, AnExpr}
use Rattle.awk_world.specs.declared.world.InputKind.TheVariants as input
use Rattle.awk_kinds.specs.definitions.Kinds.{FormalParameter}
use Rattle.awk_kinds.specs.definitions.Signatures.{ProgramKinds}
use Rattle.awk_semantics.specs.definitions.State.{State, Run, ◌>>=◌, ret}
use Rattle.awk_semantics.specs.definitions.Places.{receive, main_getline, named_getline}
use Rattle.awk_semantics.specs.definitions.Semantics.{eval, place_of, optional_place, optional_value, getline_from}
use Rattle.awk_semantics.proofs.KeepsForms.{keeps_eval}
use Rattle.awk_storage.specs.declared.position.Place.{Place}
use Rattle.awk_storage.specs.declared.position.Place.TheVariants as place
use Rattle.awk_storage.specs.support.Forms.{receive_at, named_getline_at}
use Rattle.awk_resolve.specs.declared.builder.Builder.{Builder}
use Rattle.awk_resolve.specs.declared.node.Source.TheVariants as source
use Rattle.awk_resolve.specs.declared.node.ValueNode.TheVariants as v
use Rattle.awk_resolve.specs.declared.node.Node.TheVariants as n
use Rattle.awk_resolve.specs.support.Nodes.{first, operands}
use Rattle.awk_resolve.specs.support.Builds.{Pushes, IsIn, Program, Evaluate, EvaluateOperand, EvaluateOptional, EvaluateOptionalOperand, FindsOptionalPlace, Builds, Stands}
use Rattle.awk_resolve.specs.support.Operands.{source_of}
use Rattle.awk_resolve.proofs.Calculus.{assoc_at, later_same, later_in, given}
use Rattle.awk_resolve.proofs.Building.{grows, extends, same, still}
use Rattle.awk_resolve.proofs.Positions.{received, main_got, named_got}
use Rattle.awk_resolve.proofs.Taking.{Goal, Takes, node, value_first, place_first, evaluates}

-- what may be left out

module _ {kinds : ProgramKinds} {parameters : List FormalParameter} where
  pub nothing_stays : {a : Builder} {next : ℕ} → Stands next a → Builds kinds parameters a a next (EvaluateOptional NoExpr next)
  nothing_stays h = record { extends = same; below = h.below; pos = h.pos; is = λ p g m vs s l. refl }

  pub something_lowered : {a b : Builder} {i next : ℕ} {e : Expr} → Builds kinds parameters a b i (Evaluate e next) → Builds kinds parameters a b i (EvaluateOptional (AnExpr e) next)
  something_lowered q = record { extends = q.extends; below = q.below; pos = q.pos; is = q.is }

  pub no_operand_stays : {a : Builder} {next : ℕ} → Stands next a → Builds kinds parameters a a next (EvaluateOptionalOperand NoExpr next)
  no_operand_stays h = record { extends = same; below = h.below; pos = h.pos; is = λ p g m vs s l. refl }

  pub operand_there : {a b : Builder} {i next : ℕ} {e : Expr} → Builds kinds parameters a b i (EvaluateOperand e next) → Builds kinds parameters a b i (EvaluateOptionalOperand (AnExpr e) next)
  operand_there q = record { extends = q.extends; below = q.below; pos = q.pos; is = q.is }

  there : {a b : Builder} {i next : ℕ} {e : Expr} → Builds kinds parameters a b i (EvaluateOptional (AnExpr e) next) → Builds kinds parameters a b i (Evaluate e next)
  there q = record { extends = q.extends; below = q.below; pos = q.pos; is = q.is }

  its_operand : {a b : Builder} {i next : ℕ} {e : Expr} → Builds kinds parameters a b i (EvaluateOptionalOperand (AnExpr e) next) → Builds kinds parameters a b i (EvaluateOperand e next)
  its_operand q = record { extends = q.extends; below = q.below; pos = q.pos; is = q.is }

  not_there : {a b c : Builder} {i j : ℕ} {goal : Goal} {m : Program kinds → List Value → Run Value} {left : List Value → List Value} → Takes kinds parameters a b j goal m left → Builds kinds parameters b c i (EvaluateOptional NoExpr j) → Takes kinds parameters a c i goal m left
  not_there t q = record { extends = extends t.extends q.extends; below = q.below; pos = q.pos; is = λ p g k vs s l. q.is p g k vs s l ∙ t.is p (grows q.extends.grows g) k vs s l }

  no_operand_there : {a b c : Builder} {i j : ℕ} {goal : Goal} {m : Program kinds → List Value → Run Value} {left : List Value → List Value} → Takes kinds parameters a b j goal m left → Builds kinds parameters b c i (EvaluateOptionalOperand NoExpr j) → Takes kinds parameters a c i goal m left
  no_operand_there t q = record { extends = extends t.extends q.extends; below = q.below; pos = q.pos; is = λ p g k vs s l. q.is p g k vs s l ∙ t.is p (grows q.extends.grows g) k vs s l }

-- values below the operand of a place

below_operand : (q : Place) (ws : List Value) → drop (1 + operands q) ws ≡ drop 1 (drop (operands q) ws)
below_operand (place.Variable x) ws = refl
below_operand (place.Element a) [] = refl
below_operand (place.Element a) (w ∷ ws) = refl
below_operand place.Field [] = refl
below_operand place.Field (w ∷ ws) = refl

value_below : (q : Place) (ws vs : List Value) → drop (operands q) ws ≡ vs → get_or ws (operands q) value.Nothing ≡ first vs
value_below (place.Variable x) ws vs e = ap first e
value_below (place.Element a) [] vs e = ap first e
value_below (place.Element a) (w ∷ ws) vs e = ap first e
value_below place.Field [] vs e = ap first e
value_below place.Field (w ∷ ws) vs e = ap first e

above_operand : (q : Place) (v : Value) (ws : List Value) → drop (1 + operands q) (v ∷ ws) ≡ drop (operands q) ws
above_operand (place.Variable x) v ws = refl
above_operand (place.Element a) v ws = refl
above_operand place.Field v ws = refl

module _ {kinds : ProgramKinds} {parameters : List FormalParameter} where
  no_place : (p : Program kinds) (operand : Value) (text : List ℕ) (n : ℕ) (s : State) → IsIn p.tables parameters n s → receive None text s ≡ receive_at p.tables.names None operand text s
  no_place p operand text n s i = refl

  pub getline_lowered : {a b c d e : Builder} {i j k next : ℕ} (q : Option Place) (target file : OptionalExpr) → Stands next a → FindsOptionalPlace kinds parameters a b q target → Pushes b c (n.Value (v.Getline (source_of file) q) next) j
      → Builds kinds parameters c d k (EvaluateOptional file j) → Builds kinds parameters d e i (EvaluateOptionalOperand target k) → Builds kinds parameters a e i (Evaluate (Getline target file) next)
  unfolding eval optional_place optional_value
  getline_lowered {c = c} {j = j} {next = next} None NoExpr NoExpr h found t r r' =
      let m = no_operand_there (not_there (node h (subst (λ (z : Builder). Pushes z c (n.Value (v.Getline source.Main None) next) j) found t)) r) r' in
      evaluates m (λ vs. refl) (Getline NoExpr NoExpr) (λ p g k vs s l.
      sym (given None (λ q. ret None >>= λ x. getline_from q x) s ∙ given None (λ x. getline_from None x) s ∙ main_got p None None (first vs) (λ text n' s' i'. refl) k s l))
  getline_lowered {c = c} {j = j} {next = next} None NoExpr (AnExpr file) h found t r r' =
      let m = no_operand_there (value_first (λ vs. vs) (node h (subst (λ (z : Builder). Pushes z c (n.Value (v.Getline source.File None) next) j) found t)) file (there r) (λ u vs. refl)) r' in
      evaluates m (λ vs. refl) (Getline NoExpr (AnExpr file)) (λ p g k vs s l.
      later_in _ _ s k (keeps_eval p.functions p.calls.keep file) l (λ u s' l'. sym (given (Some u) (λ x. getline_from None x) s' ∙ named_got p None None (first vs) (λ text n' s1 i'. refl) input.File (str_of u) k s' l'))
      ∙ sym (assoc_at (eval p.functions file) (λ u. ret (Some u)) (λ x. getline_from None x) s)
      ∙ sym (given None (λ q. (eval p.functions file >>= λ u. ret (Some u)) >>= λ x. getline_from q x) s))
  getline_lowered (Some q) (AnExpr target) NoExpr h found t r r' =
      let m = place_first (λ vs. vs) (λ p vs x. main_getline (Some x)) found.extends found.is (not_there (node (still found.extends h) t) r) (its_operand r') (λ ws. ap (λ z. drop z ws) (let z : 0 + operands q ≡ operands q = omega arith in z))
      (λ p g k x ws vs s l at d. sym (main_got p (Some x) (Some q) (first ws) (λ text n' s' i'. received at text n' s' i') k s l)) in
      evaluates m (λ vs. refl) (Getline (AnExpr target) NoExpr) (λ p g k vs s l.
      sym (assoc_at (place_of p.functions target) (λ x. ret (Some x)) (λ q'. ret None >>= λ x. getline_from q' x) s
      ∙ later_same (place_of p.functions target) _ _ s (λ x u. given (Some x) (λ q'. ret None >>= λ y. getline_from q' y) u ∙ given None (λ y. getline_from (Some x) y) u)))
  getline_lowered (Some q) (AnExpr target) (AnExpr file) h found t r r' =
      let m = place_first (λ vs. vs) (λ p vs x. eval p.functions file >>= λ u. named_getline input.File (str_of u) (Some x)) found.extends found.is
      (value_first (λ ws. drop (operands q) ws) (node (still found.extends h) t) file (there r) (λ u ws. above_operand q u ws)) (its_operand r') (λ ws. refl)
      (λ p g k x ws vs s l at d. later_in _ _ s k (keeps_eval p.functions p.calls.keep file) l (λ u s' l'. sym (named_got p (Some x) (Some q) (first ws) (λ text n' s1 i'. received at text n' s1 i') input.File (str_of u) k s' l'))) in
      evaluates m (λ vs. refl) (Getline (AnExpr target) (AnExpr file)) (λ p g k vs s l.
      sym (assoc_at (place_of p.functions target) (λ x. ret (Some x)) (λ q'. (eval p.functions file >>= λ u. ret (Some u)) >>= λ y. getline_from q' y) s
      ∙ later_same (place_of p.functions target) _ _ s (λ x u.
      given (Some x) (λ q'. (eval p.functions file >>= λ z. ret (Some z)) >>= λ y. getline_from q' y) u
      ∙ assoc_at (eval p.functions file) (λ z. ret (Some z)) (λ y. getline_from (Some x) y) u
      ∙ later_same (eval p.functions file) _ _ u (λ z u'. given (Some z) (λ y. getline_from (Some x) y) u'))))
  getline_lowered None (AnExpr target) file h found t r r' = absurd found
  getline_lowered (Some q) NoExpr file h found t r r' = absurd found

  pub piped_getline_lowered : {a b c d e : Builder} {i j k next : ℕ} {command : Expr} (q : Option Place) (target : OptionalExpr) → Stands next a → FindsOptionalPlace kinds parameters a b q target → Pushes b c (n.Value (v.Getline source.Command q) next) j
      → Builds kinds parameters c d k (EvaluateOptionalOperand target j) → Builds kinds parameters d e i (Evaluate command k) → Builds kinds parameters a e i (Evaluate (PipedGetline command target) next)
  unfolding eval optional_place
  piped_getline_lowered {c = c} {j = j} {next = next} {command = command} None NoExpr h found t r r' =
      let m = value_first (λ vs. vs) (no_operand_there (node h (subst (λ (z : Builder). Pushes z c (n.Value (v.Getline source.Command None) next) j) found t)) r) command r' (λ u vs. refl) in
      evaluates m (λ vs. refl) (PipedGetline command NoExpr) (λ p g k vs s l.
      later_in _ _ s k (keeps_eval p.functions p.calls.keep command) l (λ u s' l'. sym (given None (λ q. named_getline input.Command (str_of u) q) s' ∙ named_got p None None u (λ text n' s1 i'. refl) input.Command (str_of u) k s' l')))
  piped_getline_lowered {command = command} (Some q) (AnExpr target) h found t r r' =
      let m = value_first (λ vs. vs) (place_first (λ vs. drop 1 vs) (λ p vs x. named_getline input.Command (str_of (first vs)) (Some x)) found.extends found.is (node (still found.extends h) t) (its_operand r) (λ ws. below_operand q ws)
      (λ p g k x ws vs s l at d.
      ap (λ (z : Value). named_getline_at p.tables.names input.Command (str_of z) (Some q) (first ws) s) (value_below q ws vs d)
      ∙ sym (named_got p (Some x) (Some q) (first ws) (λ text n' s1 i'. received at text n' s1 i') input.Command (str_of (first vs)) k s l))) command r' (λ u vs. refl) in
      evaluates m (λ vs. refl) (PipedGetline command (AnExpr target)) (λ p g k vs s l.
      later_same (eval p.functions command) _ _ s (λ u s'.
      sym (assoc_at (place_of p.functions target) (λ x. ret (Some x)) (λ q'. named_getline input.Command (str_of u) q') s'
      ∙ later_same (place_of p.functions target) _ _ s' (λ x u'. given (Some x) (λ q'. named_getline input.Command (str_of u) q') u'))))
  piped_getline_lowered None (AnExpr target) h found t r r' = absurd found
  piped_getline_lowered (Some q) NoExpr h found t r r' = absurd found
