-- What is lowered of the parts of a concatenation is the concatenation.
use Rattle.std.proofs.Common.{◌≡◌, ℕ, suc, false, List, [], ◌∷◌, ◌++◌, map, reverse, Ok, refl, sym, subst, ap, ◌∙◌, append_assoc, append-nil}
use Rattle.std.specs.List.{concat}
use Rattle.std.proofs.lemmas.List.{reverse-append}
use Rattle.awk_value.specs.declared.value.Value.{Value}
use Rattle.awk_value.specs.declared.value.Value.TheVariants as value
use Rattle.awk_value.specs.Values.{str_of}
use Rattle.awk_grammar.specs.declared.tree.BinaryOperator.TheVariants.{Concatenate, Infix}
use Rattle.awk_grammar.specs.Tree.{Expr, Number, String, Ere, Name, Element, Field, Group, Call, BuiltIn, Length, PreIncrement, PostIncrement, Getline, PipedGetline, Unary, Binary, Membership, ListMembership, Conditional, Assign, Exprs, Nil, Cons}
use Rattle.awk_kinds.specs.definitions.Kinds.{FormalParameter}
use Rattle.awk_kinds.specs.definitions.NameUses.{count_of}
use Rattle.awk_kinds.specs.definitions.Signatures.{ProgramKinds}
use Rattle.awk_semantics.specs.definitions.State.{State, Run, ◌>>=◌, lift, ret}
use Rattle.awk_semantics.specs.definitions.Semantics.{Functions, eval, eval_all}
use Rattle.awk_semantics.proofs.KeepsForms.{keeps_eval_all}
use Rattle.awk_resolve.specs.declared.builder.Builder.{Builder}
use Rattle.awk_resolve.specs.declared.node.ValueNode.TheVariants as v
use Rattle.awk_resolve.specs.declared.node.Node.TheVariants as n
use Rattle.awk_resolve.specs.support.Builds.{Pushes, Evaluate, EvaluateAll, place_in, Builds, Stands}
use Rattle.awk_resolve.specs.support.Parts.{is_concatenation, with_last, parts_of, parts_behind}
use Rattle.awk_resolve.proofs.Calculus.{assoc_at, later_same, later_in, given}
use Rattle.awk_resolve.proofs.Building.{grows, extends}
use Rattle.awk_resolve.proofs.ValueLists.{taken_all, dropped_all, all_first, counted}
use Rattle.awk_resolve.proofs.Taking.{node, list_first, evaluates}

pub count_with_last : (es : Exprs) (e : Expr) → count_of (with_last es e) ≡ suc (count_of es)
count_with_last Nil e = refl
count_with_last (Cons x es) e = ap suc (count_with_last es e)

-- the texts of values in a row
abbrev pub texts : List Value → List ℕ
texts vs = concat (map str_of vs)

texts_with_last : (vs : List Value) (w : Value) → texts vs ++ str_of w ≡ texts (vs ++ w ∷ [])
texts_with_last [] w = sym (append-nil (str_of w))
texts_with_last (v ∷ vs) w = append_assoc (str_of v) (texts vs) (str_of w) ∙ ap (λ l. str_of v ++ l) (texts_with_last vs w)

module _ (functions : Functions) where
  -- the last value comes behind the others
  all_with_last : {B : Type 0} (es : Exprs) (e : Expr) (k : List Value → Run B) (s : State) → (eval_all functions [] (with_last es e) >>= k) s ≡ (eval_all functions [] es >>= λ vs. eval functions e >>= λ w. k (vs ++ w ∷ [])) s
  unfolding eval_all
  all_with_last Nil e k s =
      all_first functions e Nil k s
      ∙ later_same (eval functions e) _ _ s (λ w t. given [] (λ vs. k (w ∷ vs)) t)
      ∙ sym (given [] (λ vs. eval functions e >>= λ w. k (vs ++ w ∷ [])) s)
  all_with_last (Cons x es) e k s =
      all_first functions x (with_last es e) k s
      ∙ later_same (eval functions x) _ _ s (λ v t. all_with_last es e (λ vs. k (v ∷ vs)) t)
      ∙ sym (all_first functions x es (λ vs. eval functions e >>= λ w. k (vs ++ w ∷ [])) s)

  -- the text of one value
  one_text : {B : Type 0} (e : Expr) (k : List ℕ → Run B) (s : State) → (eval functions e >>= λ v. k (str_of v)) s ≡ (eval_all functions [] (Cons e Nil) >>= λ vs. k (texts vs)) s
  unfolding eval_all
  one_text e k s =
      later_same (eval functions e) (λ v. k (str_of v)) (λ v. eval_all functions [] Nil >>= λ vs. k (texts (v ∷ vs))) s
      (λ v t. ap (λ l. k l t) (sym (append-nil (str_of v))) ∙ sym (given [] (λ vs. k (texts (v ∷ vs))) t))
      ∙ sym (all_first functions e Nil (λ vs. k (texts vs)) s)

  -- the text of two values, where the first one's is that of parts
  two_texts : {B : Type 0} (a b : Expr) → ((k : List ℕ → Run B) (s : State) → (eval functions a >>= λ v. k (str_of v)) s ≡ (eval_all functions [] (parts_of a) >>= λ vs. k (texts vs)) s)
      → (k : List ℕ → Run B) (s : State) → (eval functions a >>= λ x. eval functions b >>= λ y. k (str_of x ++ str_of y)) s ≡ (eval_all functions [] (with_last (parts_of a) b) >>= λ vs. k (texts vs)) s
  two_texts a b parts k s =
      parts (λ x. eval functions b >>= λ y. k (x ++ str_of y)) s
      ∙ later_same (eval_all functions [] (parts_of a)) _ _ s (λ vs t. later_same (eval functions b) _ _ t (λ y u. ap (λ l. k l u) (texts_with_last vs y)))
      ∙ sym (all_with_last (parts_of a) b (λ vs. k (texts vs)) s)

  -- the text of an expression is that of its parts
  parts_text : {B : Type 0} (e : Expr) (k : List ℕ → Run B) (s : State) → (eval functions e >>= λ v. k (str_of v)) s ≡ (eval_all functions [] (parts_of e) >>= λ vs. k (texts vs)) s
  unfolding eval
  parts_text (Binary Concatenate a b) k s =
      assoc_at (eval functions a) (λ x. eval functions b >>= λ y. ret (value.Text (str_of x ++ str_of y))) (λ v. k (str_of v)) s
      ∙ later_same (eval functions a) _ (λ x. eval functions b >>= λ y. k (str_of x ++ str_of y)) s (λ x t.
      assoc_at (eval functions b) (λ y. ret (value.Text (str_of x ++ str_of y))) (λ v. k (str_of v)) t
      ∙ later_same (eval functions b) _ _ t (λ y u. given (value.Text (str_of x ++ str_of y)) (λ v. k (str_of v)) u))
      ∙ two_texts a b (λ k' t. parts_text a k' t) k s
  parts_text (Binary (Infix o) a b) k s = one_text (Binary (Infix o) a b) k s
  parts_text (Number x) k s = one_text (Number x) k s
  parts_text (String text) k s = one_text (String text) k s
  parts_text (Ere text) k s = one_text (Ere text) k s
  parts_text (Name x) k s = one_text (Name x) k s
  parts_text (Element x es) k s = one_text (Element x es) k s
  parts_text (Field e) k s = one_text (Field e) k s
  parts_text (Group e) k s = one_text (Group e) k s
  parts_text (Call f es) k s = one_text (Call f es) k s
  parts_text (BuiltIn f es) k s = one_text (BuiltIn f es) k s
  parts_text Length k s = one_text Length k s
  parts_text (PreIncrement o e) k s = one_text (PreIncrement o e) k s
  parts_text (PostIncrement o e) k s = one_text (PostIncrement o e) k s
  parts_text (Getline p file) k s = one_text (Getline p file) k s
  parts_text (PipedGetline e p) k s = one_text (PipedGetline e p) k s
  parts_text (Unary o e) k s = one_text (Unary o e) k s
  parts_text (Membership e x) k s = one_text (Membership e x) k s
  parts_text (ListMembership es x) k s = one_text (ListMembership es x) k s
  parts_text (Conditional c a b) k s = one_text (Conditional c a b) k s
  parts_text (Assign o p e) k s = one_text (Assign o p e) k s

  -- a concatenation joins the texts of its parts
  pub concatenated : (a b : Expr) (s : State) → eval functions (Binary Concatenate a b) s ≡ (eval_all functions [] (with_last (parts_of a) b) >>= λ vs. ret (value.Text (texts vs))) s
  unfolding eval
  concatenated a b s = two_texts a b (λ k t. parts_text a k t) (λ l. ret (value.Text l)) s

onto_last : (w : Value) (ws vs : List Value) → w ∷ (reverse ws ++ vs) ≡ reverse (ws ++ w ∷ []) ++ vs
onto_last w ws vs = ap (λ l. l ++ vs) (sym (reverse-append ws (w ∷ [])))

module _ {kinds : ProgramKinds} {parameters : List FormalParameter} {a b c : Builder} {i next : ℕ} where
  concatenation_lowered : {j k : ℕ} {x y : Expr} → Stands next a → k ≡ count_of (parts_of (Binary Concatenate x y)) → Pushes a b (n.Value (v.ConcatenateAll k) next) j → Builds kinds parameters b c i (EvaluateAll (parts_of (Binary Concatenate x y)) j)
      → Builds kinds parameters a c i (Evaluate (Binary Concatenate x y) next)
  concatenation_lowered {k = k} {x = x} {y = y} h e q r =
      let es = with_last (parts_of x) y in
      evaluates (list_first (λ vs. vs) (node h q) es r (λ ws vs l. dropped_all ws vs k (l ∙ sym e))) (λ vs. refl) (Binary Concatenate x y) (λ p g m vs s l.
      counted p.functions p.calls.keep es _ _ m s l (λ ws u long inside. ap (λ xs. lift (Ok (value.Text (texts xs))) u) (taken_all ws vs k (long ∙ sym e)))
      ∙ sym (concatenated p.functions x y s))

  -- the values of the others, and then the last one
  pub part_lowered : {j : ℕ} {es : Exprs} {y : Expr} → Builds kinds parameters a b j (Evaluate y next) → Builds kinds parameters b c i (EvaluateAll es j) → Builds kinds parameters a c i (EvaluateAll (with_last es y) next)
  part_lowered {es = es} {y = y} q r = record {
    extends = extends q.extends r.extends;
    below = r.below;
    pos = r.pos;
    is = λ p g m vs s l.
        r.is p g m vs s l
        ∙ later_in _ _ s m (keeps_eval_all p.functions p.calls.keep [] es) l (λ ws u k.
        q.is p (grows r.extends.grows g) m (reverse ws ++ vs) u k
        ∙ later_same (eval p.functions y) _ _ u (λ w t. ap (λ (xs : List Value). place_in p m next xs t) (onto_last w ws vs)))
        ∙ sym (all_with_last p.functions es y (λ ws. place_in p m next (reverse ws ++ vs)) s);
  }

-- an expression that is a list by itself
pub whole_lowered : {kinds : ProgramKinds} {parameters : List FormalParameter} {a b : Builder} {i next : ℕ} {e : Expr} → Builds kinds parameters a b i (Evaluate e next) → Builds kinds parameters a b i (EvaluateAll (Cons e Nil) next)
unfolding eval_all
whole_lowered {next = next} {e = e} q = record {
  extends = q.extends;
  below = q.below;
  pos = q.pos;
  is = λ p g m vs s l.
      q.is p g m vs s l
      ∙ later_same (eval p.functions e) _ _ s (λ w t. sym (given [] (λ ws. place_in p m next (reverse (w ∷ ws) ++ vs)) t))
      ∙ sym (all_first p.functions e Nil (λ ws. place_in p m next (reverse ws ++ vs)) s);
}

-- the parts of an expression that is no concatenation
pub parts_whole : (e : Expr) → is_concatenation e ≡ false → parts_of e ≡ Cons e Nil
parts_whole (Binary Concatenate a b) h = absurd (cc)
parts_whole e h = refl

pub no_parts_behind : (e : Expr) → is_concatenation e ≡ false → parts_behind e ≡ Nil
no_parts_behind (Binary Concatenate a b) h = absurd (cc)
no_parts_behind e h = refl

pub whole_part_lowered : {kinds : ProgramKinds} {parameters : List FormalParameter} {a b : Builder} {i next : ℕ} (e : Expr) → is_concatenation e ≡ false → Builds kinds parameters a b i (Evaluate e next) → Builds kinds parameters a b i (EvaluateAll (parts_of e) next)
whole_part_lowered {kinds = kinds} {parameters = parameters} {a = a} {b = b} {i = i} {next = next} e h q = subst (λ (es : Exprs). Builds kinds parameters a b i (EvaluateAll es next)) (sym (parts_whole e h)) (whole_lowered q)

-- a concatenation of more than two parts
pub joined_lowered : {kinds : ProgramKinds} {parameters : List FormalParameter} {a b c d : Builder} {i j k count next : ℕ} {x y : Expr} → Stands next a → count ≡ suc (count_of (parts_of x)) → Pushes a b (n.Value (v.ConcatenateAll count) next) j → Builds kinds parameters b c k (Evaluate y j)
    → Builds kinds parameters c d i (EvaluateAll (parts_of x) k) → Builds kinds parameters a d i (Evaluate (Binary Concatenate x y) next)
joined_lowered {x = x} {y = y} h many q r r' = concatenation_lowered h (many ∙ sym (count_with_last (parts_of x) y)) q (part_lowered r r')
