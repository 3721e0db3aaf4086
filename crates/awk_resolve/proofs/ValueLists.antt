-- The values of a list lie on the stack, and the text of subscripts is made of them.
use Rattle.std.proofs.lemmas.List.{reverse-reverse, length-reverse}
use Rattle.std.proofs.lemmas.Grind.{reverse_onto}
use Rattle.std.proofs.Math.Seq.{take-append_seam, drop-append_seam}
use Rattle.std.proofs.Common.{◌≡◌, ℕ, suc, List, [], ◌∷◌, ◌++◌, length, take, drop, reverse, refl, sym, ap, ◌∙◌, append_assoc, append-nil, Ok}
use Rattle.awk_value.specs.declared.value.Value.{Value}
use Rattle.awk_value.specs.declared.value.Value.TheVariants as value
use Rattle.awk_value.specs.Values.{str_of}
use Rattle.awk_grammar.specs.Tree.{Expr, Exprs, Nil, Cons}
use Rattle.awk_kinds.specs.definitions.Kinds.{FormalParameter}
use Rattle.awk_kinds.specs.definitions.NameUses.{count_of}
use Rattle.awk_semantics.specs.definitions.State.{State, Run, go_on, ◌>>=◌, ret}
use Rattle.awk_semantics.specs.definitions.Primitives.{joined_key}
use Rattle.awk_semantics.specs.definitions.Semantics.{Functions, eval, eval_all, key_of}
use Rattle.awk_semantics.specs.support.Keeps.{Keeps, CallsKeep}
use Rattle.awk_semantics.proofs.Keeping.{keeps_bind, keeps_lift}
use Rattle.awk_semantics.proofs.KeepsForms.{keeps_eval, keeps_key_of}
use Rattle.awk_resolve.specs.support.Nodes.{Tables, taken}
use Rattle.awk_resolve.specs.support.Builds.{IsIn, key_value}
use Rattle.awk_resolve.proofs.Calculus.{assoc_at, later_same, later_in, given}

-- values on the stack, the first one evaluated lowest

pub onto_more : {A : Type 0} (x : A) (xs ys : List A) → reverse (x ∷ xs) ++ ys ≡ reverse xs ++ (x ∷ ys)
onto_more x xs ys = ap (λ l. l ++ ys) (reverse_onto xs x []) ∙ append_assoc (reverse xs) (x ∷ []) ys

pub taken_all : (ws vs : List Value) (k : ℕ) → length ws ≡ k → taken k (reverse ws ++ vs) ≡ ws
taken_all ws vs k e =
    ap (λ n. reverse (take n (reverse ws ++ vs))) (sym e ∙ sym (length-reverse ws)) ∙ ap reverse (take-append_seam (reverse ws) vs) ∙ reverse-reverse ws

pub dropped_all : (ws vs : List Value) (k : ℕ) → length ws ≡ k → drop k (reverse ws ++ vs) ≡ vs
dropped_all ws vs k e = ap (λ n. drop n (reverse ws ++ vs)) (sym e ∙ sym (length-reverse ws)) ∙ drop-append_seam (reverse ws) vs

module _ (functions : Functions) where
  -- the values that were there stand in front
  pub all_behind : {B : Type 0} (front : List Value) (es : Exprs) (k : List Value → Run B) (s : State) → (eval_all functions front es >>= k) s ≡ (eval_all functions [] es >>= λ ws. k (front ++ ws)) s
  unfolding eval_all
  all_behind front Nil k s = given front k s ∙ ap (λ l. k l s) (sym (append-nil front)) ∙ sym (given [] (λ ws. k (front ++ ws)) s)
  all_behind front (Cons e es) k s =
      assoc_at (eval functions e) (λ v. eval_all functions (front ++ v ∷ []) es) k s
      ∙ later_same (eval functions e) _ _ s (λ v t.
      all_behind (front ++ v ∷ []) es k t
      ∙ later_same (eval_all functions [] es) _ _ t (λ ws u. ap (λ l. k l u) (append_assoc front (v ∷ []) ws))
      ∙ sym (all_behind (v ∷ []) es (λ ws. k (front ++ ws)) t))
      ∙ sym (assoc_at (eval functions e) (λ v. eval_all functions (v ∷ []) es) (λ ws. k (front ++ ws)) s)

  -- the first value, and then the others
  pub all_first : {B : Type 0} (e : Expr) (es : Exprs) (k : List Value → Run B) (s : State) → (eval_all functions [] (Cons e es) >>= k) s ≡ (eval functions e >>= λ v. eval_all functions [] es >>= λ ws. k (v ∷ ws)) s
  unfolding eval_all
  all_first e es k s =
      assoc_at (eval functions e) (λ v. eval_all functions (v ∷ []) es) k s
      ∙ later_same (eval functions e) _ _ s (λ v t. all_behind (v ∷ []) es k t)

  -- the text of subscripts is made of their values
  pub key_of_all : {B : Type 0} (front : List Value) (es : Exprs) (k : List ℕ → Run B) (s : State) → (key_of functions front es >>= k) s ≡ (eval_all functions front es >>= λ vs. joined_key vs >>= k) s
  unfolding eval_all key_of
  key_of_all front Nil k s = sym (given front (λ vs. joined_key vs >>= k) s)
  key_of_all front (Cons e es) k s =
      assoc_at (eval functions e) (λ v. key_of functions (front ++ v ∷ []) es) k s
      ∙ later_same (eval functions e) _ _ s (λ v t. key_of_all (front ++ v ∷ []) es k t)
      ∙ sym (assoc_at (eval functions e) (λ v. eval_all functions (front ++ v ∷ []) es) (λ vs. joined_key vs >>= k) s)

one_key : {B : Type 0} (v : Value) (k : List ℕ → Run B) (s : State) → (joined_key (v ∷ []) >>= k) s ≡ k (str_of v) s
unfolding ◌>>=◌ go_on joined_key
one_key v k s = ap (λ l. k l s) (append-nil (str_of v))

module _ (functions : Functions) where
  text_key : {B : Type 0} (m : Run (List ℕ)) (k : List ℕ → Run B) (s : State) → ((m >>= λ key. ret (value.Text key)) >>= λ v. k (str_of v)) s ≡ (m >>= k) s
  text_key m k s = assoc_at m (λ key. ret (value.Text key)) (λ v. k (str_of v)) s ∙ later_same m _ _ s (λ key t. given (value.Text key) (λ v. k (str_of v)) t)

  -- the key's value and its text
  pub keyed : {B : Type 0} (es : Exprs) (k : List ℕ → Run B) (s : State) → (key_value functions es >>= λ v. k (str_of v)) s ≡ (key_of functions [] es >>= k) s
  unfolding key_of
  keyed Nil k s = text_key (joined_key []) k s
  keyed (Cons e Nil) k s = later_same (eval functions e) _ _ s (λ v t. sym (one_key v k t)) ∙ sym (assoc_at (eval functions e) (λ v. joined_key (v ∷ [])) k s)
  keyed (Cons e (Cons x es)) k s = text_key (eval functions e >>= λ v. key_of functions (v ∷ []) (Cons x es)) k s

  module _ (calls : CallsKeep functions) where
    pub keeps_key_value : (es : Exprs) → Keeps (key_value functions es)
    keeps_key_value Nil = keeps_bind (keeps_key_of functions calls [] Nil) (λ key. keeps_lift (Ok (value.Text key)))
    keeps_key_value (Cons e Nil) = keeps_eval functions calls e
    keeps_key_value (Cons e (Cons x es)) = keeps_bind (keeps_key_of functions calls [] (Cons e (Cons x es))) (λ key. keeps_lift (Ok (value.Text key)))

    -- there are as many values as expressions
    pub counted : {tables : Tables} {parameters : List FormalParameter} {B : Type 0} (es : Exprs) (f g : List Value → Run B) (n : ℕ) (s : State) → IsIn tables parameters n s
        → ((ws : List Value) (t : State) → length ws ≡ count_of es → IsIn tables parameters n t → f ws t ≡ g ws t) → (eval_all functions [] es >>= f) s ≡ (eval_all functions [] es >>= g) s
    unfolding eval_all
    counted Nil f g n s i e = given [] f s ∙ e [] s refl i ∙ sym (given [] g s)
    counted (Cons x es) f g n s i e =
        all_first functions x es f s
        ∙ later_in _ _ s n (keeps_eval functions calls x) i (λ v t j. counted es (λ ws. f (v ∷ ws)) (λ ws. g (v ∷ ws)) n t j (λ ws u l h. e (v ∷ ws) u (ap suc l) h))
        ∙ sym (all_first functions x es g s)
