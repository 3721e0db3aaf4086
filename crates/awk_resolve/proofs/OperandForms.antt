-- What a place needs on the stack.
use Rattle.std.proofs.Common.{◌≡◌, ℕ, ℤ, List, ◌∷◌, refl, sym, ◌∙◌, arith}
use Rattle.awk_value.specs.declared.value.Value.{Value}
use Rattle.awk_value.specs.declared.value.Value.TheVariants as value
use Rattle.awk_grammar.specs.declared.tree.Expr.{Expr as Declared}
use Rattle.awk_grammar.specs.declared.tree.Expr.TheVariants as form
use Rattle.awk_grammar.specs.declared.tree.Ere.{Ere as DeclaredEre}
use Rattle.awk_grammar.specs.Tree.{Expr, Number, Ere, Name, Element, Field, Exprs}
use Rattle.awk_grammar.specs.View.{expr_of}
use Rattle.awk_kinds.specs.definitions.Kinds.{FormalParameter}
use Rattle.awk_kinds.specs.definitions.Signatures.{ProgramKinds}
use Rattle.awk_semantics.specs.definitions.State.{◌>>=◌, ret}
use Rattle.awk_semantics.specs.definitions.Primitives.{number_of}
use Rattle.awk_semantics.specs.definitions.Semantics.{eval}
use Rattle.awk_semantics.proofs.KeepsForms.{keeps_eval}
use Rattle.awk_resolve.specs.declared.builder.Builder.{Builder}
use Rattle.awk_resolve.specs.declared.node.Operand.TheVariants as operand
use Rattle.awk_resolve.specs.declared.node.ValueNode.TheVariants as v
use Rattle.awk_resolve.specs.declared.node.Node.TheVariants as n
use Rattle.awk_resolve.specs.support.Builds.{Pushes, Evaluate, EvaluateKey, EvaluateOperand, place_in, Builds, Stands}
use Rattle.awk_resolve.proofs.Calculus.{assoc_at, later_same, later_in, given}
use Rattle.awk_resolve.proofs.Building.{grows, extends, same, placed, at_once}

pub name_operand : {kinds : ProgramKinds} {parameters : List FormalParameter} {a : Builder} {next : ℕ} (x : List ℕ) → Stands next a → Builds kinds parameters a a next (EvaluateOperand (Name x) next)
name_operand x h = record { extends = same; below = h.below; pos = h.pos; is = λ p g m vs s l. refl }

pub element_operand : {kinds : ProgramKinds} {parameters : List FormalParameter} {a b : Builder} {i next : ℕ} {es : Exprs} (x : List ℕ) → Builds kinds parameters a b i (EvaluateKey es next) → Builds kinds parameters a b i (EvaluateOperand (Element x es) next)
element_operand x q = record { extends = q.extends; below = q.below; pos = q.pos; is = q.is }

pub field_operand : {kinds : ProgramKinds} {parameters : List FormalParameter} {a b c : Builder} {i j next : ℕ} {e : Expr} → Stands next a → Pushes a b (n.Value v.FieldNumber next) j → Builds kinds parameters b c i (Evaluate e j) → Builds kinds parameters a c i (EvaluateOperand (Field e) next)
field_operand {next = next} {e = e} h q r =
    let o = placed q h.below in
    record {
      extends = extends o.extends r.extends;
      below = r.below;
      pos = r.pos;
      is = λ p g m vs s l.
          r.is p g m vs s l
          ∙ later_in _ _ s m (keeps_eval p.functions p.calls.keep e) l (λ w u k.
          at_once (o.is p (grows r.extends.grows g) m) (w ∷ vs) u
          ∙ assoc_at (number_of w) (λ z. ret (value.Number z)) (λ x. place_in p m next (x ∷ vs)) u
          ∙ later_same (number_of w) _ _ u (λ z t. given (value.Number z) (λ x. place_in p m next (x ∷ vs)) t));
    }

-- a number is that of a field as it is
pub number_field : {kinds : ProgramKinds} {parameters : List FormalParameter} {a b : Builder} {i next : ℕ} (k : ℤ) → Stands next a → Pushes a b (n.Value (v.Put (operand.Constant (value.Number k))) next) i → Builds kinds parameters a b i (EvaluateOperand (Field (Number k)) next)
unfolding eval
number_field {next = next} k h q =
    let o = placed q h.below in
    record {
      extends = o.extends;
      below = o.below;
      pos = (let f = o.fresh in let l = h.below in omega (arith, f, l));
      is = λ p g m vs s l.
          let number = λ (w : Value). number_of w >>= λ z. place_in p m next (value.Number z ∷ vs) in
          at_once (o.is p g m) vs s
          ∙ given (value.Number k) (λ w. place_in p m next (w ∷ vs)) s
          ∙ sym (given (value.Number k) number s ∙ given k (λ z. place_in p m next (value.Number z ∷ vs)) s);
    }

-- an expression that is none of the program's EREs
pub not_an_ere : (e : Declared) → ((x : DeclaredEre) → e ≡ form.Ere x → ⊥) → (text : List ℕ) → expr_of e ≡ Ere text → ⊥
not_an_ere (form.Ere r) h text e = h r refl
not_an_ere (form.Number k) h text e = cc
not_an_ere (form.String s) h text e = cc
not_an_ere (form.Name x) h text e = cc
not_an_ere (form.Element' x k r) h text e = cc
not_an_ere (form.Field' p x) h text e = cc
not_an_ere (form.Group' p x) h text e = cc
not_an_ere (form.Call' x k r) h text e = cc
not_an_ere (form.BuiltIn' w k r) h text e = cc
not_an_ere form.Length h text e = cc
not_an_ere (form.PreIncrement' o p x) h text e = cc
not_an_ere (form.PostIncrement' o p x) h text e = cc
not_an_ere (form.Getline' x y) h text e = cc
not_an_ere (form.PipedGetline' p x y) h text e = cc
not_an_ere (form.Unary' o p x) h text e = cc
not_an_ere (form.Binary' o p x q y) h text e = cc
not_an_ere (form.Membership' p x y) h text e = cc
not_an_ere (form.ListMembership' k r x) h text e = cc
not_an_ere (form.Conditional' p x q y r z) h text e = cc
not_an_ere (form.Assign' o p x q y) h text e = cc
