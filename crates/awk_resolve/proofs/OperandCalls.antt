-- Calls of built-in functions whose first arguments are read where they stand.
use Rattle.std.proofs.Common.{◌≡◌, ℕ, pos, zero, suc, true, List, [], ◌∷◌, ◌++◌, refl, sym, ap, ◌∙◌, append-nil, None, unwrap_or, slice_get}
use Rattle.std.specs.Global.{Vec}
use Rattle.awk_value.specs.declared.value.Value.{Value}
use Rattle.awk_value.specs.declared.value.Value.TheVariants as value
use Rattle.awk_lex.specs.declared.token.BuiltIn.{BuiltIn as BuiltInName}
use Rattle.awk_lex.specs.declared.token.BuiltIn.TheVariants as w
use Rattle.awk_grammar.specs.Tree.{Expr, Number, String, Name, Field, BuiltIn, Exprs, Nil, Cons}
use Rattle.awk_kinds.specs.definitions.Kinds.{FormalParameter}
use Rattle.awk_kinds.specs.definitions.NameUses.{count_of}
use Rattle.awk_kinds.specs.definitions.Signatures.{ProgramKinds}
use Rattle.awk_semantics.specs.definitions.State.{State, Run, ◌>>=◌, lift, ret, gives}
use Rattle.awk_semantics.specs.definitions.Primitives.{number_of, read_name, read_field}
use Rattle.awk_semantics.specs.definitions.BuiltIns.{AsMeasured, Argument, OfValue, bare_name, array_named_or, applied_all, apply_built_in}
use Rattle.awk_semantics.specs.definitions.Semantics.{Functions, eval, take_arguments, eval_all}
use Rattle.awk_resolve.specs.declared.builder.Builder.{Builder}
use Rattle.awk_resolve.specs.declared.node.Operand.{Operand}
use Rattle.awk_resolve.specs.declared.node.ValueNode.TheVariants as v
use Rattle.awk_resolve.specs.declared.node.Node.TheVariants as n
use Rattle.awk_resolve.specs.support.Nodes.{operand_values}
use Rattle.awk_resolve.specs.support.Builds.{Grows, Pushes, IsIn, Program, Evaluate, EvaluateAll, Builds, AreOperandsOf, FindsEachOperand, Stands}
use Rattle.awk_resolve.specs.support.Operands.{reads_in_place}
use Rattle.awk_resolve.specs.support.Readings.{all_read, is_field_number, is_read_behind}
use Rattle.awk_resolve.specs.support.Scopes.{MeasuredBy}
use Rattle.awk_resolve.proofs.Calculus.{assoc_at, go_same, later_same, first_same, given}
use Rattle.awk_resolve.proofs.Building.{grows, behind, still}
use Rattle.awk_resolve.proofs.ValueLists.{taken_all, dropped_all, all_first, counted}
use Rattle.awk_resolve.proofs.Taking.{node, list_first, evaluates}
use Rattle.awk_resolve.proofs.ExpressionForms.{takes_behind}
use Rattle.awk_resolve.proofs.CallForms.{argument_first}
use Rattle.awk_resolve.proofs.BuiltInForms.{none_left, values_taken, values_back, no_array}
use Rattle.awk_resolve.proofs.PrintStatements.{values_then}
use Rattle.awk_resolve.proofs.ReadingForms.{SameNames, Reads, both, OfValues, values_alone, reads_all, value_in, value_kept}

-- which functions these are
alone : (f : BuiltInName) → reads_in_place f ≡ true → OfValues f
alone w.Substr e = values_alone w.Substr refl
alone w.Index e = values_alone w.Index refl
alone f e = absurd (cc)

-- what is a value in each state, which hangs on the variables and the record alone
record Stays (m : Run Value) : Type 0 where
  value : State → Value
  is : (s : State) → m s ≡ gives (value s) s
  kept : (s t : State) → SameNames s t → value t ≡ value s

abbrev field_value : ℕ → State → Value
field_value zero s = value.Input s.current.text
field_value (suc i) s = unwrap_or (slice_get s.current.fields i) value.Nothing

field_read : (k : ℕ) (s : State) → read_field (pos k) s ≡ gives (field_value k s) s
unfolding read_field
field_read zero s = refl
field_read (suc i) s = refl

field_kept : (k : ℕ) (s t : State) → SameNames s t → field_value k t ≡ field_value k s
field_kept zero s t same = ap (λ (r : _). value.Input r.text) same.current
field_kept (suc i) s t same = ap (λ (r : _). unwrap_or (slice_get r.fields i) value.Nothing) same.current

stays : (functions : Functions) (e : Expr) (es : Exprs) → is_read_behind e es ≡ true → Stays (eval functions e)
unfolding eval lift read_name
stays functions (Number n) es h = record { value = λ s. value.Number n; is = λ s. refl; kept = λ s t k. refl }
stays functions (String text) es h = record { value = λ s. value.Text text; is = λ s. refl; kept = λ s t k. refl }
stays functions (Name x) es h = record { value = value_in x; is = λ s. refl; kept = value_kept x }
stays functions (Field (Number (pos k))) es h = record {
  value = field_value k;
  is = λ s. given (value.Number (pos k)) (λ u. number_of u >>= λ z. read_field z) s ∙ given (pos k) (λ z. read_field z) s ∙ field_read k s;
  kept = field_kept k;
}
stays functions e es h = absurd (cc)

others_read : (e : Expr) (es : Exprs) → is_read_behind e es ≡ true → all_read es ≡ true
others_read (Number n) es h = h
others_read (String text) es h = h
others_read (Name x) es h = h
others_read (Field e) es h = (both (is_field_number e) (all_read es) h).1
others_read e es h = absurd (cc)

-- it is read before what only reads, or behind it
there : {m : Run Value} (t : Stays m) (s : State) {B : Type 0} (g : Value → Run B) → (m >>= g) s ≡ g (t.value s) s
unfolding lift
there {m = m} t s g = first_same m (ret (t.value s)) g s (t.is s) ∙ given (t.value s) g s

read_later : {A B : Type 0} {m : Run Value} (t : Stays m) (r : Run A) (g : Value → A → Run B) → Reads r → (s : State) → (m >>= λ x. r >>= λ y. g x y) s ≡ (r >>= λ y. m >>= λ x. g x y) s
unfolding ◌>>=◌
read_later {m = m} t r g h s =
    there t s (λ x. r >>= λ y. g x y)
    ∙ go_same (r s).result (r s).state (r s).effects (g (t.value s)) (λ y. m >>= λ x. g x y)
    (λ y e. ap (λ (x : Value). g x y (r s).state) (sym (t.kept s (r s).state (h.keeps s))) ∙ sym (there t (r s).state (λ x. g x y)))

-- a call of a function of values
called : (functions : Functions) (f : BuiltInName) → OfValues f → (es : Exprs) (s : State) → (eval_all functions [] es >>= λ ws. lift (applied_all f ws)) s ≡ eval functions (BuiltIn f es) s
unfolding eval
called functions f is es s =
    sym (ap (λ roles. (take_arguments functions roles [] es >>= λ as'. apply_built_in f as') s) is.roles
    ∙ values_taken functions es (λ as'. apply_built_in f as') s
    ∙ later_same (eval_all functions [] es) _ _ s (λ ws u. ap (λ (r : Run Value). r u) (is.applies ws) ∙ ap (λ (zs : List Value). lift (applied_all f zs) u) (values_back ws)))

module _ {kinds : ProgramKinds} {parameters : List FormalParameter} where
  -- the value of one operand
  operand_then : {B : Type 0} (p : Program kinds) {b : Builder} → Grows b p.all → (found : List Operand) (e : Expr) → AreOperandsOf kinds parameters b found (Cons e Nil) → (rest : List Value → Run B) (m : ℕ) (s : State) → IsIn p.tables parameters m s
      → (operand_values p.tables.names found >>= rest) s ≡ (eval p.functions e >>= λ x. rest (x ∷ [])) s
  unfolding eval_all
  operand_then p g found e are rest m s i =
      values_then p g found (Cons e Nil) are rest m s i
      ∙ all_first p.functions e Nil rest s
      ∙ later_same (eval p.functions e) _ _ s (λ x u. given [] (λ ws. rest (x ∷ ws)) u)

  -- all arguments are operands
  pub operands_applied : {a b c : Builder} {i next : ℕ} {found : Vec Operand} {es : Exprs} (f : BuiltInName) → reads_in_place f ≡ true → Stands next a → FindsEachOperand kinds parameters a b found.items es → Pushes b c (n.Value (v.ApplyTo f found 0) next) i
      → Builds kinds parameters a c i (Evaluate (BuiltIn f es) next)
  operands_applied {found = found} {es = es} f is h q r =
      let t = node (still q.extends h) r in
      evaluates (takes_behind q.extends t) (λ vs. refl) (BuiltIn f es) (λ p g m vs s l.
      values_then p (grows t.extends.grows g) found.items es q.are (λ ws. lift (applied_all f (ws ++ []))) m s l
      ∙ later_same (eval_all p.functions [] es) _ _ s (λ ws u. ap (λ (zs : List Value). lift (applied_all f zs) u) (append-nil ws))
      ∙ called p.functions f (alone f is) es s)

  -- the first is one, and the others only read
  pub behind_applied : {a b c d : Builder} {i j next k : ℕ} {found : Vec Operand} {e : Expr} {es : Exprs} (f : BuiltInName) → reads_in_place f ≡ true → is_read_behind e es ≡ true → Stands next a → FindsEachOperand kinds parameters a b found.items (Cons e Nil) → k ≡ count_of es
      → Pushes b c (n.Value (v.ApplyTo f found k) next) j → Builds kinds parameters c d i (EvaluateAll es j) → Builds kinds parameters a d i (Evaluate (BuiltIn f (Cons e es)) next)
  behind_applied {k = k} {found = found} {e = e} {es = es} f is behind h q many r r' =
      let t = list_first (λ vs. vs) (node (still q.extends h) r) es r' (λ ws vs l. dropped_all ws vs k (l ∙ sym many)) in
      evaluates (takes_behind q.extends t) (λ vs. refl) (BuiltIn f (Cons e es)) (λ p g m vs s l.
      counted p.functions p.calls.keep es _ (λ ws. eval p.functions e >>= λ x. lift (applied_all f (x ∷ ws))) m s l (λ ws u long inside.
      ap (λ zs. (operand_values p.tables.names found.items >>= λ xs. lift (applied_all f (xs ++ zs))) u) (taken_all ws vs k (long ∙ sym many))
      ∙ operand_then p (grows t.extends.grows g) found.items e q.are (λ xs. lift (applied_all f (xs ++ ws))) m u inside)
      ∙ sym (read_later (stays p.functions e es behind) (eval_all p.functions [] es) (λ x ws. lift (applied_all f (x ∷ ws))) (reads_all p.functions [] es (others_read e es behind)) s)
      ∙ sym (all_first p.functions e es (λ ws. lift (applied_all f ws)) s)
      ∙ called p.functions f (alone f is) (Cons e es) s)

  -- `length` of an operand
  pub length_of_operand : {a b c : Builder} {i next : ℕ} {found : Vec Operand} (e : Expr) → Stands next a → MeasuredBy kinds parameters None (bare_name e) → FindsEachOperand kinds parameters a b found.items (Cons e Nil) → Pushes b c (n.Value (v.ApplyTo w.Length found 0) next) i
      → Builds kinds parameters a c i (Evaluate (BuiltIn w.Length (Cons e Nil)) next)
  unfolding eval apply_built_in
  length_of_operand {found = found} e h measured q r =
      let t = node (still q.extends h) r in
      evaluates (takes_behind q.extends t) (λ vs. refl) (BuiltIn w.Length (Cons e Nil)) (λ p g m vs s l.
      let rest : Argument → Run Value = λ a'. take_arguments p.functions [] [] Nil >>= λ as'. apply_built_in w.Length (a' ∷ as') in
      operand_then p (grows t.extends.grows g) found.items e q.are (λ ws. lift (applied_all w.Length (ws ++ []))) m s l
      ∙ sym (argument_first p.functions (AsMeasured ∷ []) e Nil (λ as'. apply_built_in w.Length as') s
      ∙ first_same (array_named_or (bare_name e) (eval p.functions e)) (eval p.functions e >>= λ u. ret (OfValue u)) rest s (no_array (bare_name e) measured p m s (eval p.functions e) l)
      ∙ assoc_at (eval p.functions e) (λ u. ret (OfValue u)) rest s
      ∙ later_same (eval p.functions e) _ _ s (λ u t'. given (OfValue u) rest t' ∙ none_left p.functions [] (λ as'. apply_built_in w.Length (OfValue u ∷ as')) t')))
