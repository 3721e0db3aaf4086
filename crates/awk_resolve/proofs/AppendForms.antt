-- What is lowered of an assignment that appends to a variable is the assignment: texts that are put together are so in any grouping.
use Rattle.std.proofs.Common.{◌≡◌, ℕ, true, false, List, ◌++◌, drop, None, refl, sym, ap, ◌∙◌, append_assoc}
use Rattle.std.proofs.lemmas.Slice.Eq.{bytes_eq-Decides}
use Rattle.awk_value.specs.declared.value.Value.{Value}
use Rattle.awk_value.specs.declared.value.Value.TheVariants as value
use Rattle.awk_value.specs.Values.{str_of}
use Rattle.awk_lex.specs.declared.token.AssignmentOperator.TheVariants as assignment
use Rattle.awk_grammar.specs.declared.tree.BinaryOperator.TheVariants.{Concatenate, Infix}
use Rattle.awk_grammar.specs.Tree.{Expr, Number, String, Ere, Name, Element, Field, Group, Call, BuiltIn, Length, PreIncrement, PostIncrement, Getline, PipedGetline, Unary, Binary, Membership, ListMembership, Conditional, Assign}
use Rattle.awk_kinds.specs.definitions.Kinds.{FormalParameter}
use Rattle.awk_kinds.specs.definitions.Signatures.{ProgramKinds}
use Rattle.awk_semantics.specs.definitions.State.{State, Run, ◌>>=◌, ret}
use Rattle.awk_semantics.specs.definitions.Primitives.{read_name}
use Rattle.awk_semantics.specs.definitions.Places.{AName, assign_by}
use Rattle.awk_semantics.specs.definitions.Semantics.{Functions, eval, place_of}
use Rattle.awk_semantics.proofs.KeepsForms.{keeps_read_name, keeps_eval}
use Rattle.awk_storage.specs.declared.position.Variable.{Variable}
use Rattle.awk_storage.specs.declared.position.Place.TheVariants as place
use Rattle.awk_storage.specs.support.Positions.{assign_by_at}
use Rattle.awk_resolve.specs.declared.builder.Builder.{Builder}
use Rattle.awk_resolve.specs.declared.node.ValueNode.TheVariants as v
use Rattle.awk_resolve.specs.declared.node.Node.TheVariants as n
use Rattle.awk_resolve.specs.support.Appends.{begins_with, is_append, behind_first, without_first}
use Rattle.awk_resolve.specs.support.Builds.{Pushes, Evaluate, Builds, FindsVariable, IsAt, Stands}
use Rattle.awk_resolve.specs.support.Parts.{is_concatenation}
use Rattle.awk_resolve.proofs.Calculus.{assoc_at, later_same, later_in, first_same, given}
use Rattle.awk_resolve.proofs.Building.{grows, still}
use Rattle.awk_resolve.proofs.Positions.{at_variable, assigned_by}
use Rattle.awk_resolve.proofs.Taking.{node, value_first, evaluates}
use Rattle.awk_resolve.proofs.ExpressionForms.{takes_behind}

-- one text behind another
abbrev joined : (x y : Value) → Value
joined x y = value.Text (str_of x ++ str_of y)

-- three texts in a row
three_joined : (last : Run Value) (x y : Value) (s : State) → (last >>= λ z. ret (joined (joined x y) z)) s ≡ ((last >>= λ z. ret (joined y z)) >>= λ w. ret (joined x w)) s
three_joined last x y s =
    later_same last (λ z. ret (joined (joined x y) z)) (λ z. ret (joined y z) >>= λ w. ret (joined x w)) s
    (λ z u. ap (λ l. ret (value.Text l) u) (append_assoc (str_of x) (str_of y) (str_of z)) ∙ sym (given (joined y z) (λ w. ret (joined x w)) u))
    ∙ sym (assoc_at last (λ z. ret (joined y z)) (λ w. ret (joined x w)) s)

module _ (first middle last : Run Value) where
  regrouped : (s : State) → ((first >>= λ x. middle >>= λ y. ret (joined x y)) >>= λ w. last >>= λ z. ret (joined w z)) s ≡ (first >>= λ x. (middle >>= λ y. last >>= λ z. ret (joined y z)) >>= λ w. ret (joined x w)) s
  regrouped s =
      assoc_at first (λ x. middle >>= λ y. ret (joined x y)) (λ w. last >>= λ z. ret (joined w z)) s
      ∙ later_same first (λ x. (middle >>= λ y. ret (joined x y)) >>= λ w. last >>= λ z. ret (joined w z)) (λ x. (middle >>= λ y. last >>= λ z. ret (joined y z)) >>= λ w. ret (joined x w)) s (λ x u.
      assoc_at middle (λ y. ret (joined x y)) (λ w. last >>= λ z. ret (joined w z)) u
      ∙ later_same middle (λ y. ret (joined x y) >>= λ w. last >>= λ z. ret (joined w z)) (λ y. (last >>= λ z. ret (joined y z)) >>= λ w. ret (joined x w)) u (λ y t.
      given (joined x y) (λ w. last >>= λ z. ret (joined w z)) t ∙ three_joined last x y t)
      ∙ sym (assoc_at middle (λ y. last >>= λ z. ret (joined y z)) (λ w. ret (joined x w)) u))

-- a concatenation that begins with a name is the name's text, and what the others make behind it
grouped : (functions : Functions) (x : List ℕ) (a b : Expr) → begins_with x a ≡ true → (s : State) → eval functions (Binary Concatenate a b) s ≡ (read_name x >>= λ y. eval functions (behind_first a b) >>= λ z. ret (joined y z)) s
unfolding eval
grouped functions x (Name y) b h s = ap (λ (name : List ℕ). (read_name name >>= λ u. eval functions b >>= λ w. ret (joined u w)) s) ((bytes_eq-Decides y x).0 h)
grouped functions x (Binary Concatenate a c) b h s =
    first_same (eval functions (Binary Concatenate a c)) (read_name x >>= λ y. eval functions (behind_first a c) >>= λ z. ret (joined y z)) (λ w. eval functions b >>= λ z. ret (joined w z)) s (grouped functions x a c h s)
    ∙ regrouped (read_name x) (eval functions (behind_first a c)) (eval functions b) s
grouped functions x (Binary (Infix o) a c) b h s = absurd (cc)
grouped functions x (Number k) b h s = absurd (cc)
grouped functions x (String text) b h s = absurd (cc)
grouped functions x (Ere text) b h s = absurd (cc)
grouped functions x (Element y es) b h s = absurd (cc)
grouped functions x (Field e) b h s = absurd (cc)
grouped functions x (Group e) b h s = absurd (cc)
grouped functions x (Call f es) b h s = absurd (cc)
grouped functions x (BuiltIn f es) b h s = absurd (cc)
grouped functions x Length b h s = absurd (cc)
grouped functions x (PreIncrement o e) b h s = absurd (cc)
grouped functions x (PostIncrement o e) b h s = absurd (cc)
grouped functions x (Getline p file) b h s = absurd (cc)
grouped functions x (PipedGetline e p) b h s = absurd (cc)
grouped functions x (Unary o e) b h s = absurd (cc)
grouped functions x (Membership e y) b h s = absurd (cc)
grouped functions x (ListMembership es y) b h s = absurd (cc)
grouped functions x (Conditional c a e) b h s = absurd (cc)
grouped functions x (Assign o p e) b h s = absurd (cc)

concatenation_appended : {kinds : ProgramKinds} {parameters : List FormalParameter} {a b c d d' : Builder} {i j k next : ℕ} {variable : Variable} (x : List ℕ) (left right : Expr) → Stands next a → FindsVariable kinds parameters a b variable x → begins_with x left ≡ true
    → Pushes b c (n.Value (v.Append variable) next) j → Builds kinds parameters c d k (Evaluate (behind_first left right) j) → Builds kinds parameters d d' i (Evaluate (Name x) k)
    → Builds kinds parameters a d' i (Evaluate (Assign assignment.Plain (Name x) (Binary Concatenate left right)) next)
unfolding eval place_of
concatenation_appended {kinds = kinds} {parameters = parameters} {variable = variable} x left right h f begins q r r' =
    let rest = behind_first left right in
    let t = value_first (λ vs. vs) (value_first (λ vs. drop 1 vs) (node (still f.extends h) q) rest r (λ w vs. refl)) (Name x) r' (λ w vs. refl) in
    evaluates (takes_behind f.extends t) (λ vs. refl) (Assign assignment.Plain (Name x) (Binary Concatenate left right)) (λ p g m vs s l.
    let at : IsAt p parameters (AName x) (place.Variable variable) value.Nothing = at_variable (grows t.extends.grows g) f.is in
    later_in _ _ s m (keeps_read_name x) l (λ old u l'.
    later_in _ _ u m (keeps_eval p.functions p.calls.keep rest) l' (λ w u' l''.
    given (joined old w) (λ z. assign_by_at p.tables.names None (place.Variable variable) value.Nothing z) u'
    ∙ sym (assigned_by at None m (joined old w) u' l'')
    ∙ sym (given (joined old w) (λ z. assign_by None (AName x) z) u'))
    ∙ sym (assoc_at (eval p.functions rest) (λ w. ret (joined old w)) (λ z. assign_by None (AName x) z) u))
    ∙ sym (assoc_at (read_name x) (λ old. eval p.functions rest >>= λ w. ret (joined old w)) (λ z. assign_by None (AName x) z) s)
    ∙ sym (first_same (eval p.functions (Binary Concatenate left right)) (read_name x >>= λ old. eval p.functions rest >>= λ w. ret (joined old w)) (λ z. assign_by None (AName x) z) s (grouped p.functions x left right begins s))
    ∙ sym (given (AName x) (λ t. eval p.functions (Binary Concatenate left right) >>= λ z. assign_by None t z) s))

pub append_lowered : {kinds : ProgramKinds} {parameters : List FormalParameter} {a b c d d' : Builder} {i j k next : ℕ} {variable : Variable} (x : List ℕ) (e : Expr) → Stands next a → FindsVariable kinds parameters a b variable x → is_append assignment.Plain (Name x) e ≡ true
    → Pushes b c (n.Value (v.Append variable) next) j → Builds kinds parameters c d k (Evaluate (without_first e) j) → Builds kinds parameters d d' i (Evaluate (Name x) k)
    → Builds kinds parameters a d' i (Evaluate (Assign assignment.Plain (Name x) e) next)
append_lowered x (Binary Concatenate left right) h f begins q r r' = concatenation_appended x left right h f begins q r r'
append_lowered x (Binary (Infix o) left right) h f begins q r r' = absurd (cc)
append_lowered x e h f begins q r r' = absurd (cc)

pub whole_left : (e : Expr) → is_concatenation e ≡ false → without_first e ≡ e
whole_left (Binary Concatenate a b) h = absurd (cc)
whole_left e h = refl

-- what stands behind the first operand, where the left one is a concatenation, and where it is none
pub behind_concatenation : (a e : Expr) → is_concatenation a ≡ true → behind_first a e ≡ Binary Concatenate (without_first a) e
behind_concatenation (Binary Concatenate a b) e h = refl
behind_concatenation (Binary (Infix o) a b) e h = absurd (cc)
behind_concatenation a e h = absurd (cc)

pub behind_other : (a e : Expr) → is_concatenation a ≡ false → behind_first a e ≡ e
behind_other (Binary Concatenate a b) e h = absurd (cc)
behind_other a e h = refl
