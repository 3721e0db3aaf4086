-- Built-in functions: their arguments on the stack, and what is made of them.
use Rattle.std.proofs.Common.{◌≡◌, ◌≢◌, ℕ, Bool, true, false, List, [], ◌∷◌, ◌++◌, length, map, drop, reverse, Option, Some, None, refl, sym, subst, ap, ◌∙◌, arith}
use Rattle.awk_value.specs.declared.value.Value.{Value}
use Rattle.awk_value.specs.Values.{str_of}
use Rattle.awk_text.specs.definitions.Fields.{pieces_of}
use Rattle.awk_lex.specs.declared.token.BuiltIn.{BuiltIn as BuiltInName}
use Rattle.awk_lex.specs.declared.token.BuiltIn.TheVariants as w
use Rattle.awk_grammar.specs.Tree.{Expr, Ere, BuiltIn, Exprs, Nil, Cons}
use Rattle.awk_kinds.specs.definitions.Kinds.{FormalParameter}
use Rattle.awk_kinds.specs.definitions.NameUses.{count_of}
use Rattle.awk_kinds.specs.definitions.Signatures.{ProgramKinds}
use Rattle.awk_semantics.specs.definitions.State.{State, Run, ◌>>=◌, lift, ret, gives}
use Rattle.awk_semantics.specs.definitions.Operators.{pattern_in}
use Rattle.awk_semantics.specs.definitions.Texts.{separator_in, ere_separator}
use Rattle.awk_semantics.specs.definitions.Primitives.{fill_array, array_number, is_array}
use Rattle.awk_semantics.specs.definitions.Places.{read_place}
use Rattle.awk_semantics.specs.definitions.BuiltIns.{Role, AsValue, AsPattern, AsArray, AsPlace, AsMeasured, Argument, OfValue, OfEre, OfArray, OfPlace, roles_of, bare_name, array_or_value, array_named_or, value_of as argument_value, applied_all, count_value, split_into, apply_built_in}
use Rattle.awk_semantics.specs.definitions.Semantics.{Functions, eval, place_of, take_arguments, eval_all}
use Rattle.awk_semantics.proofs.Keeping.{keeps_lift}
use Rattle.awk_semantics.proofs.KeepsForms.{keeps_eval, keeps_field_separator}
use Rattle.awk_storage.specs.declared.position.Array.{Array}
use Rattle.awk_storage.specs.support.Positions.{number_at}
use Rattle.awk_storage.specs.support.Forms.{fill_at, match_in, split_with}
use Rattle.awk_resolve.specs.declared.node.OutsideCall.TheVariants as outside
use Rattle.awk_resolve.specs.declared.builder.Builder.{Builder}
use Rattle.awk_resolve.specs.declared.node.ValueNode.TheVariants as v
use Rattle.awk_resolve.specs.declared.node.SplitBy.TheVariants as by
use Rattle.awk_resolve.specs.declared.node.Node.TheVariants as n
use Rattle.awk_resolve.specs.support.Nodes.{Tables, taken, value_of, popped}
use Rattle.awk_resolve.specs.support.Builds.{Pushes, IsIn, Program, Evaluate, EvaluateAll, EvaluateUnlessEre, IsArrayOf, NamesArray, Builds, Stands}
use Rattle.awk_resolve.specs.support.Operands.{FindsPattern, split_by, takes_one, strict_node}
use Rattle.awk_resolve.specs.support.Calls.{name_in}
use Rattle.awk_resolve.specs.support.Scopes.{MeasuredBy}
use Rattle.awk_resolve.proofs.Calculus.{assoc_at, later_same, later_in, first_same, given}
use Rattle.awk_resolve.proofs.Building.{grows, still}
use Rattle.awk_resolve.proofs.Elements.{counts_elements, fills_array}
use Rattle.awk_resolve.proofs.ValueLists.{taken_all, dropped_all, all_first, counted}
use Rattle.awk_resolve.proofs.Taking.{node, value_first, list_first, evaluates}
use Rattle.awk_resolve.proofs.ExpressionForms.{takes_behind, ere_added, ere_there}
use Rattle.awk_resolve.proofs.PatternForms.{other_than_ere, evaluated_unless_ere, ere_first}
use Rattle.awk_resolve.proofs.CallForms.{named_array, argument_first}

-- arguments by their roles

module _ (functions : Functions) where
  pub none_left : {B : Type 0} (roles : List Role) (k : List Argument → Run B) (s : State) → (take_arguments functions roles [] Nil >>= k) s ≡ k [] s
  unfolding take_arguments
  none_left roles k s = given [] k s

  pub value_taken : {B : Type 0} (roles : List Role) (e : Expr) (es : Exprs) (k : List Argument → Run B) (s : State) → (take_arguments functions (AsValue ∷ roles) [] (Cons e es) >>= k) s ≡ (eval functions e >>= λ x. take_arguments functions roles [] es >>= λ as'. k (OfValue x ∷ as')) s
  value_taken roles e es k s =
      argument_first functions (AsValue ∷ roles) e es k s
      ∙ assoc_at (eval functions e) (λ x. ret (OfValue x)) _ s
      ∙ later_same (eval functions e) _ _ s (λ x t. given (OfValue x) (λ a. take_arguments functions roles [] es >>= λ as'. k (a ∷ as')) t)

  pub ere_taken : {B : Type 0} (roles : List Role) (text : List ℕ) (es : Exprs) (k : List Argument → Run B) (s : State) → (take_arguments functions (AsPattern ∷ roles) [] (Cons (Ere text) es) >>= k) s ≡ (take_arguments functions roles [] es >>= λ as'. k (OfEre text ∷ as')) s
  ere_taken roles text es k s = argument_first functions (AsPattern ∷ roles) (Ere text) es k s ∙ given (OfEre text) (λ a. take_arguments functions roles [] es >>= λ as'. k (a ∷ as')) s

  pub pattern_taken : {B : Type 0} (roles : List Role) (e : Expr) (es : Exprs) (k : List Argument → Run B) (s : State) → ((text : List ℕ) → e ≡ Ere text → ⊥) → (take_arguments functions (AsPattern ∷ roles) [] (Cons e es) >>= k) s ≡ (eval functions e >>= λ x. take_arguments functions roles [] es >>= λ as'. k (OfValue x ∷ as')) s
  pattern_taken roles e es k s other =
      argument_first functions (AsPattern ∷ roles) e es k s
      ∙ ap (λ (m : Run Argument). (m >>= λ a. take_arguments functions roles [] es >>= λ as'. k (a ∷ as')) s) ((other_than_ere e other).argument (eval functions e))
      ∙ assoc_at (eval functions e) (λ x. ret (OfValue x)) _ s
      ∙ later_same (eval functions e) _ _ s (λ x t. given (OfValue x) (λ a. take_arguments functions roles [] es >>= λ as'. k (a ∷ as')) t)

  pub array_taken : {B : Type 0} (roles : List Role) (e : Expr) (es : Exprs) (k : List Argument → Run B) (s : State) → (take_arguments functions (AsArray ∷ roles) [] (Cons e es) >>= k) s ≡ (take_arguments functions roles [] es >>= λ as'. k (OfArray (name_in e) ∷ as')) s
  array_taken roles e es k s =
      argument_first functions (AsArray ∷ roles) e es k s
      ∙ ap (λ (a : Argument). (ret a >>= λ a'. take_arguments functions roles [] es >>= λ as'. k (a' ∷ as')) s) (named_array e)
      ∙ given (OfArray (name_in e)) (λ a. take_arguments functions roles [] es >>= λ as'. k (a ∷ as')) s

  pub place_taken : {B : Type 0} (roles : List Role) (e : Expr) (es : Exprs) (k : List Argument → Run B) (s : State) → (take_arguments functions (AsPlace ∷ roles) [] (Cons e es) >>= k) s ≡ (place_of functions e >>= λ p. read_place p >>= λ x. take_arguments functions roles [] es >>= λ as'. k (OfPlace p x ∷ as')) s
  place_taken roles e es k s =
      argument_first functions (AsPlace ∷ roles) e es k s
      ∙ assoc_at (place_of functions e) (λ p. read_place p >>= λ x. ret (OfPlace p x)) _ s
      ∙ later_same (place_of functions e) _ _ s (λ p t.
      assoc_at (read_place p) (λ x. ret (OfPlace p x)) _ t
      ∙ later_same (read_place p) _ _ t (λ x u. given (OfPlace p x) (λ a. take_arguments functions roles [] es >>= λ as'. k (a ∷ as')) u))

  -- a value, for want of a role
  pub bare_taken : {B : Type 0} (e : Expr) (es : Exprs) (k : List Argument → Run B) (s : State) → (take_arguments functions [] [] (Cons e es) >>= k) s ≡ (eval functions e >>= λ x. take_arguments functions [] [] es >>= λ as'. k (OfValue x ∷ as')) s
  bare_taken e es k s =
      argument_first functions [] e es k s
      ∙ assoc_at (eval functions e) (λ x. ret (OfValue x)) _ s
      ∙ later_same (eval functions e) _ _ s (λ x t. given (OfValue x) (λ a. take_arguments functions [] [] es >>= λ as'. k (a ∷ as')) t)

  -- where all are values
  pub values_taken : {B : Type 0} (es : Exprs) (k : List Argument → Run B) (s : State) → (take_arguments functions [] [] es >>= k) s ≡ (eval_all functions [] es >>= λ ws. k (map OfValue ws)) s
  unfolding eval_all
  values_taken Nil k s = none_left [] k s ∙ sym (given [] (λ ws. k (map OfValue ws)) s)
  values_taken (Cons e es) k s =
      bare_taken e es k s
      ∙ later_same (eval functions e) _ _ s (λ x t. values_taken es (λ as'. k (OfValue x ∷ as')) t)
      ∙ sym (all_first functions e es (λ ws. k (map OfValue ws)) s)

-- the argument of `length`

measured_by : (x : List ℕ) (b : Bool) (evaluated : Run Value) (s : State) → is_array x s ≡ gives b s → array_named_or (Some x) evaluated s ≡ array_or_value b x evaluated s
unfolding lift
measured_by x b evaluated s e = first_same (is_array x) (ret b) (λ c. array_or_value c x evaluated) s e ∙ given b (λ c. array_or_value c x evaluated) s

module _ {kinds : ProgramKinds} {parameters : List FormalParameter} where
  -- a name that stands for an array
  pub an_array : (array : Array) (name : Option (List ℕ)) → MeasuredBy kinds parameters (Some array) name → (x : List ℕ) × (name ≡ Some x) × NamesArray kinds parameters (Some array) x
  an_array array None h = cc
  an_array array (Some x) h = (x, refl, h)

  -- none
  pub no_array : (name : Option (List ℕ)) → MeasuredBy kinds parameters None name → (p : Program kinds) (n : ℕ) (s : State) (evaluated : Run Value) → IsIn p.tables parameters n s → array_named_or name evaluated s ≡ (evaluated >>= λ x. ret (OfValue x)) s
  no_array None h p n s evaluated i = refl
  no_array (Some x) h p n s evaluated i = measured_by x false evaluated s (h.is p n s i)

-- functions of values alone

pub values_back : (ws : List Value) → map argument_value (map OfValue ws) ≡ ws
values_back [] = refl
values_back (x ∷ ws) = ap (λ l. x ∷ l) (values_back ws)

-- a function that takes all arguments as values
record IsStrict (f : BuiltInName) : Type 0 where
  roles : roles_of f ≡ []
  pops : (k : ℕ) → (takes_one f ≡ true → k ≡ 1) → popped (strict_node f k) ≡ k
  made : (tables : Tables) (functions : Functions) (ws vs : List Value) (k : ℕ) (s : State) → length ws ≡ k → (takes_one f ≡ true → k ≡ 1) → value_of tables functions (strict_node f k) (reverse ws ++ vs) s ≡ apply_built_in f (map OfValue ws) s

applied_same : (f : BuiltInName) (ws vs : List Value) (k : ℕ) (s : State) → length ws ≡ k → lift (applied_all f (taken k (reverse ws ++ vs))) s ≡ lift (applied_all f (map argument_value (map OfValue ws))) s
applied_same f ws vs k s e = ap (λ l. lift (applied_all f l) s) (taken_all ws vs k e ∙ sym (values_back ws))

one_value : (ws : List Value) → length ws ≡ 1 → (x : Value) × (ws ≡ x ∷ [])
one_value [] e = absurd (omega (arith, e))
one_value (x ∷ []) e = (x, refl)
one_value (x ∷ (y ∷ ws)) e = absurd (omega (arith, e))

-- a function that has no lowering of its own
pub record IsPlain (f : BuiltInName) : Type 0 where
  pub no_length : f ≢ w.Length
  pub no_flush : f ≢ w.Fflush
  pub no_match : f ≢ w.Match
  pub no_split : f ≢ w.Split
  pub no_sub : f ≢ w.Sub
  pub no_gsub : f ≢ w.Gsub

strict : (f : BuiltInName) → IsPlain f → IsStrict f
unfolding apply_built_in
strict w.Length a = absurd (a.no_length refl)
strict w.Substr a = record { roles = refl; pops = λ k h. refl; made = λ tables functions ws vs k s e h. applied_same w.Substr ws vs k s e }
strict w.Index a = record { roles = refl; pops = λ k h. refl; made = λ tables functions ws vs k s e h. applied_same w.Index ws vs k s e }
strict w.Sprintf a = record { roles = refl; pops = λ k h. refl; made = λ tables functions ws vs k s e h. applied_same w.Sprintf ws vs k s e }
strict w.ToLower a = record { roles = refl; pops = λ k h. refl; made = λ tables functions ws vs k s e h. applied_same w.ToLower ws vs k s e }
strict w.ToUpper a = record { roles = refl; pops = λ k h. refl; made = λ tables functions ws vs k s e h. applied_same w.ToUpper ws vs k s e }
strict w.Int a = record { roles = refl; pops = λ k h. refl; made = λ tables functions ws vs k s e h. applied_same w.Int ws vs k s e }
strict w.System a = record {
  roles = refl;
  pops = λ k h. sym (h refl);
  made = λ tables functions ws vs k s e h. let o = one_value ws (e ∙ h refl) in rw (o.1) refl;
}
strict w.Close a = record {
  roles = refl;
  pops = λ k h. sym (h refl);
  made = λ tables functions ws vs k s e h. let o = one_value ws (e ∙ h refl) in rw (o.1) refl;
}
strict w.Fflush a = absurd (a.no_flush refl)
strict w.Match a = absurd (a.no_match refl)
strict w.Split a = absurd (a.no_split refl)
strict w.Sub a = absurd (a.no_sub refl)
strict w.Gsub a = absurd (a.no_gsub refl)

pub strict_applied : {kinds : ProgramKinds} {parameters : List FormalParameter} {a b c : Builder} {i j next : ℕ} {es : Exprs} (f : BuiltInName) (k : ℕ) → IsPlain f → (takes_one f ≡ true → k ≡ 1) → k ≡ count_of es → Stands next a
    → Pushes a b (n.Value (strict_node f k) next) j → Builds kinds parameters b c i (EvaluateAll es j) → Builds kinds parameters a c i (Evaluate (BuiltIn f es) next)
unfolding eval
strict_applied {es = es} f k plain one e h q r =
    let is = strict f plain in
    evaluates (list_first (λ vs. vs) (node h q) es r (λ ws vs l. ap (λ x. drop x (reverse ws ++ vs)) (is.pops k one) ∙ dropped_all ws vs k (l ∙ sym e))) (λ vs. refl) (BuiltIn f es) (λ p g' m' vs s' i.
    counted p.functions p.calls.keep es _ _ m' s' i (λ ws u l j. is.made p.tables p.functions ws vs k u (l ∙ sym e) one)
    ∙ sym (values_taken p.functions es (λ as'. apply_built_in f as') s')
    ∙ ap (λ roles. (take_arguments p.functions roles [] es >>= λ as'. apply_built_in f as') s') (sym is.roles))

-- `length`

module _ {kinds : ProgramKinds} {parameters : List FormalParameter} where
  pub record_length_lowered : {a b : Builder} {i next : ℕ} → Stands next a → Pushes a b (n.Value v.RecordLength next) i → Builds kinds parameters a b i (Evaluate (BuiltIn w.Length Nil) next)
  unfolding eval apply_built_in
  record_length_lowered h q = evaluates (node h q) (λ vs. refl) (BuiltIn w.Length Nil) (λ p g m vs s l. sym (none_left p.functions (AsMeasured ∷ []) (λ as'. apply_built_in w.Length as') s))

  pub count_lowered : {a b : Builder} {i next : ℕ} {array : Array} (e : Expr) → Stands next a → MeasuredBy kinds parameters (Some array) (bare_name e) → Pushes a b (n.Value (v.CountElements array) next) i → Builds kinds parameters a b i (Evaluate (BuiltIn w.Length (Cons e Nil)) next)
  unfolding eval apply_built_in
  count_lowered {array = array} e h measured q =
      let named = an_array array (bare_name e) measured in
      let x = named.0 in
      evaluates (node h q) (λ vs. refl) (BuiltIn w.Length (Cons e Nil)) (λ p g m vs s l.
      let rest : Argument → Run Value = λ a'. take_arguments p.functions [] [] Nil >>= λ as'. apply_built_in w.Length (a' ∷ as') in
      sym (argument_first p.functions (AsMeasured ∷ []) e Nil (λ as'. apply_built_in w.Length as') s
      ∙ first_same (array_named_or (bare_name e) (eval p.functions e)) (ret (OfArray x)) rest s
      (ap (λ (o : Option (List ℕ)). array_named_or o (eval p.functions e) s) named.1 ∙ measured_by x true (eval p.functions e) s (named.2.1.is p m s l))
      ∙ given (OfArray x) rest s
      ∙ none_left p.functions [] (λ as'. apply_built_in w.Length (OfArray x ∷ as')) s
      ∙ counts_elements array x s (named.2.0.is p m s l)))

  pub length_of_lowered : {a b c : Builder} {i j next : ℕ} (e : Expr) → Stands next a → MeasuredBy kinds parameters None (bare_name e) → Pushes a b (n.Value (v.Apply w.Length 1) next) j → Builds kinds parameters b c i (Evaluate e j)
      → Builds kinds parameters a c i (Evaluate (BuiltIn w.Length (Cons e Nil)) next)
  unfolding eval apply_built_in
  length_of_lowered e h measured q r =
      evaluates (value_first (λ vs. vs) (node h q) e r (λ u vs. refl)) (λ vs. refl) (BuiltIn w.Length (Cons e Nil)) (λ p g m vs s l.
      let rest : Argument → Run Value = λ a'. take_arguments p.functions [] [] Nil >>= λ as'. apply_built_in w.Length (a' ∷ as') in
      sym (argument_first p.functions (AsMeasured ∷ []) e Nil (λ as'. apply_built_in w.Length as') s
      ∙ first_same (array_named_or (bare_name e) (eval p.functions e)) (eval p.functions e >>= λ u. ret (OfValue u)) rest s (no_array (bare_name e) measured p m s (eval p.functions e) l)
      ∙ assoc_at (eval p.functions e) (λ u. ret (OfValue u)) rest s
      ∙ later_same (eval p.functions e) _ _ s (λ u t. given (OfValue u) rest t ∙ none_left p.functions [] (λ as'. apply_built_in w.Length (OfValue u ∷ as')) t)))

  -- `fflush`

  pub flush_all_lowered : {a b : Builder} {i next : ℕ} → Stands next a → Pushes a b (n.Value (v.Outside outside.FlushAll) next) i → Builds kinds parameters a b i (Evaluate (BuiltIn w.Fflush Nil) next)
  unfolding eval apply_built_in
  flush_all_lowered h q = evaluates (node h q) (λ vs. refl) (BuiltIn w.Fflush Nil) (λ p g m vs s l. sym (none_left p.functions [] (λ as'. apply_built_in w.Fflush as') s))

  pub flush_lowered : {a b c : Builder} {i j next : ℕ} {e : Expr} → Stands next a → Pushes a b (n.Value (v.Outside outside.Flush) next) j → Builds kinds parameters b c i (Evaluate e j) → Builds kinds parameters a c i (Evaluate (BuiltIn w.Fflush (Cons e Nil)) next)
  unfolding eval apply_built_in
  flush_lowered {e = e} h q r =
      evaluates (value_first (λ vs. vs) (node h q) e r (λ u vs. refl)) (λ vs. refl) (BuiltIn w.Fflush (Cons e Nil)) (λ p g m vs s l.
      sym (bare_taken p.functions e Nil (λ as'. apply_built_in w.Fflush as') s
      ∙ later_same (eval p.functions e) _ _ s (λ u t. none_left p.functions [] (λ as'. apply_built_in w.Fflush (OfValue u ∷ as')) t)))

-- `match`

pub match_lowered : {kinds : ProgramKinds} {parameters : List FormalParameter} {a b c d e : Builder} {i j k next : ℕ} {x y : Expr} (pattern : Option ℕ) → Stands next a → FindsPattern a b pattern y → Pushes b c (n.Value (v.Match pattern) next) j
    → Builds kinds parameters c d k (EvaluateUnlessEre y j) → Builds kinds parameters d e i (Evaluate x k) → Builds kinds parameters a e i (Evaluate (BuiltIn w.Match (Cons x (Cons y Nil))) next)
unfolding eval apply_built_in
match_lowered {kinds = kinds} {parameters = parameters} {a = a} {c = c} {d = d} {e = e} {i = i} {j = j} {k = k} {next = next} {x = x} (Some number) h found q r r' =
    subst (λ (z : Expr). Builds kinds parameters a e i (Evaluate (BuiltIn w.Match (Cons x (Cons z Nil))) next)) (sym found.is)
    (let g = ere_added found.adds in
    let t = value_first (λ vs. vs) (ere_first (node (still g h) q) (subst (λ (z : Expr). Builds kinds parameters c d k (EvaluateUnlessEre z j)) found.is r)) x r' (λ u vs. refl) in
    evaluates (takes_behind g t) (λ vs. refl) (BuiltIn w.Match (Cons x (Cons (Ere found.text) Nil))) (λ p l m vs s z.
    sym (value_taken p.functions (AsPattern ∷ []) x (Cons (Ere found.text) Nil) (λ as'. apply_built_in w.Match as') s
    ∙ later_same (eval p.functions x) _ _ s (λ u t'.
    ere_taken p.functions [] found.text Nil (λ as'. apply_built_in w.Match (OfValue u ∷ as')) t'
    ∙ none_left p.functions [] (λ as'. apply_built_in w.Match (OfValue u ∷ (OfEre found.text ∷ as'))) t'
    ∙ ap (λ (text : List ℕ). match_in text (str_of u) t') (sym (ere_there found.adds p (grows t.extends.grows l)))))))
match_lowered {c = c} {j = j} {next = next} {x = x} {y = y} None h found q r r' =
    let t = value_first (λ vs. drop 1 vs) (node h (subst (λ (z : Builder). Pushes z c (n.Value (v.Match None) next) j) found.same q)) y (evaluated_unless_ere y found.not_ere r) (λ u vs. refl) in
    evaluates (value_first (λ vs. vs) t x r' (λ u vs. refl)) (λ vs. refl) (BuiltIn w.Match (Cons x (Cons y Nil))) (λ p l m vs s z.
    sym (value_taken p.functions (AsPattern ∷ []) x (Cons y Nil) (λ as'. apply_built_in w.Match as') s
    ∙ later_same (eval p.functions x) _ _ s (λ u t'.
    pattern_taken p.functions [] y Nil (λ as'. apply_built_in w.Match (OfValue u ∷ as')) t' found.not_ere
    ∙ later_same (eval p.functions y) _ _ t' (λ u' t''. none_left p.functions [] (λ as'. apply_built_in w.Match (OfValue u ∷ (OfValue u' ∷ as'))) t''))))

-- `split`

split_same : (array : Array) (x : List ℕ) (pieces : List (List ℕ)) (s : State) → array_number s x ≡ number_at array s → (fill_at array pieces >>= λ _. count_value (length pieces)) s ≡ split_into x pieces s
unfolding split_into
split_same array x pieces s is = first_same (fill_at array pieces) (fill_array x pieces) _ s (sym (fills_array array x s is pieces))

module _ {kinds : ProgramKinds} {parameters : List FormalParameter} {x y : Expr} {array : Array} (is : IsArrayOf kinds parameters array (name_in y)) where
  pub fields_split : {a b c : Builder} {i j next : ℕ} → Stands next a → Pushes a b (n.Value (v.Split array by.FieldSeparator) next) j → Builds kinds parameters b c i (Evaluate x j) → Builds kinds parameters a c i (Evaluate (BuiltIn w.Split (Cons x (Cons y Nil))) next)
  unfolding eval apply_built_in
  fields_split h q r =
      evaluates (value_first (λ vs. vs) (node h q) x r (λ u vs. refl)) (λ vs. refl) (BuiltIn w.Split (Cons x (Cons y Nil))) (λ p l m vs s z.
      later_in _ _ s m (keeps_eval p.functions p.calls.keep x) z (λ u t k.
      later_in _ _ t m keeps_field_separator k (λ separator t' k'. split_same array (name_in y) (pieces_of separator false (str_of u)) t' (is.is p m t' k')))
      ∙ sym (value_taken p.functions (AsArray ∷ AsPattern ∷ []) x (Cons y Nil) (λ as'. apply_built_in w.Split as') s
      ∙ later_same (eval p.functions x) _ _ s (λ u t.
      array_taken p.functions (AsPattern ∷ []) y Nil (λ as'. apply_built_in w.Split (OfValue u ∷ as')) t
      ∙ none_left p.functions (AsPattern ∷ []) (λ as'. apply_built_in w.Split (OfValue u ∷ (OfArray (name_in y) ∷ as'))) t)))

  pub split_lowered : {a b c d e : Builder} {i j k next : ℕ} {y' : Expr} (pattern : Option ℕ) → Stands next a → FindsPattern a b pattern y' → Pushes b c (n.Value (v.Split array (split_by pattern)) next) j → Builds kinds parameters c d k (EvaluateUnlessEre y' j) → Builds kinds parameters d e i (Evaluate x k)
      → Builds kinds parameters a e i (Evaluate (BuiltIn w.Split (Cons x (Cons y (Cons y' Nil)))) next)
  unfolding eval apply_built_in
  split_lowered {a = a} {c = c} {d = d} {e = e} {i = i} {j = j} {k = k} {next = next} (Some number) h found q r r' =
      subst (λ (z : Expr). Builds kinds parameters a e i (Evaluate (BuiltIn w.Split (Cons x (Cons y (Cons z Nil)))) next)) (sym found.is)
      (let g = ere_added found.adds in
      let t = value_first (λ vs. vs) (ere_first (node (still g h) q) (subst (λ (z : Expr). Builds kinds parameters c d k (EvaluateUnlessEre z j)) found.is r)) x r' (λ u vs. refl) in
      evaluates (takes_behind g t) (λ vs. refl) (BuiltIn w.Split (Cons x (Cons y (Cons (Ere found.text) Nil)))) (λ p l m vs s z.
      later_in _ _ s m (keeps_eval p.functions p.calls.keep x) z (λ u t' k'.
      ap (λ (text : List ℕ). split_with array (str_of u) (lift (ere_separator (pattern_in text))) t') (ere_there found.adds p (grows t.extends.grows l))
      ∙ later_in _ _ t' m (keeps_lift (ere_separator (pattern_in found.text))) k' (λ separator t1 k1. split_same array (name_in y) (pieces_of separator false (str_of u)) t1 (is.is p m t1 k1)))
      ∙ sym (value_taken p.functions (AsArray ∷ AsPattern ∷ []) x (Cons y (Cons (Ere found.text) Nil)) (λ as'. apply_built_in w.Split as') s
      ∙ later_same (eval p.functions x) _ _ s (λ u t'.
      array_taken p.functions (AsPattern ∷ []) y (Cons (Ere found.text) Nil) (λ as'. apply_built_in w.Split (OfValue u ∷ as')) t'
      ∙ ere_taken p.functions [] found.text Nil (λ as'. apply_built_in w.Split (OfValue u ∷ (OfArray (name_in y) ∷ as'))) t'
      ∙ none_left p.functions [] (λ as'. apply_built_in w.Split (OfValue u ∷ (OfArray (name_in y) ∷ (OfEre found.text ∷ as')))) t'))))
  split_lowered {c = c} {j = j} {next = next} {y' = y'} None h found q r r' =
      let t = value_first (λ vs. drop 1 vs) (node h (subst (λ (z : Builder). Pushes z c (n.Value (v.Split array by.Value) next) j) found.same q)) y' (evaluated_unless_ere y' found.not_ere r) (λ u vs. refl) in
      evaluates (value_first (λ vs. vs) t x r' (λ u vs. refl)) (λ vs. refl) (BuiltIn w.Split (Cons x (Cons y (Cons y' Nil)))) (λ p l m vs s z.
      later_in _ _ s m (keeps_eval p.functions p.calls.keep x) z (λ u t' k'. later_in _ _ t' m (keeps_eval p.functions p.calls.keep y') k' (λ u' t1 k1.
      later_in _ _ t1 m (keeps_lift (separator_in (str_of u'))) k1 (λ separator t2 k2. split_same array (name_in y) (pieces_of separator false (str_of u)) t2 (is.is p m t2 k2))))
      ∙ sym (value_taken p.functions (AsArray ∷ AsPattern ∷ []) x (Cons y (Cons y' Nil)) (λ as'. apply_built_in w.Split as') s
      ∙ later_same (eval p.functions x) _ _ s (λ u t'.
      array_taken p.functions (AsPattern ∷ []) y (Cons y' Nil) (λ as'. apply_built_in w.Split (OfValue u ∷ as')) t'
      ∙ pattern_taken p.functions [] y' Nil (λ as'. apply_built_in w.Split (OfValue u ∷ (OfArray (name_in y) ∷ as'))) t' found.not_ere
      ∙ later_same (eval p.functions y') _ _ t' (λ u' t1. none_left p.functions [] (λ as'. apply_built_in w.Split (OfValue u ∷ (OfArray (name_in y) ∷ (OfValue u' ∷ as')))) t1))))
