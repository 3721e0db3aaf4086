-- Lists of expressions, and the subscripts of elements.
use Rattle.std.proofs.Common.{◌≡◌, ◌≢◌, ℕ, zero, suc, ◌<◌, ◌≤◌, List, [], ◌∷◌, ◌++◌, length, drop, reverse, get_or, refl, sym, ap, ◌∙◌, arith}
use Rattle.awk_value.specs.declared.value.Value.{Value}
use Rattle.awk_value.specs.declared.value.Value.TheVariants as value
use Rattle.awk_grammar.specs.declared.tree.Expr as declared
use Rattle.awk_grammar.specs.Tree.{Expr, Exprs, Nil, Cons}
use Rattle.awk_grammar.specs.View.{expr_of, exprs_of}
use Rattle.awk_kinds.specs.definitions.Kinds.{FormalParameter}
use Rattle.awk_kinds.specs.definitions.NameUses.{count_of}
use Rattle.awk_kinds.specs.definitions.Signatures.{ProgramKinds}
use Rattle.awk_semantics.specs.definitions.State.{Run, ◌>>=◌, ret}
use Rattle.awk_semantics.specs.definitions.Primitives.{joined_key}
use Rattle.awk_semantics.specs.definitions.Semantics.{Functions, eval_all, key_of}
use Rattle.awk_semantics.proofs.KeepsForms.{keeps_eval}
use Rattle.awk_resolve.specs.declared.builder.Builder.{Builder}
use Rattle.awk_resolve.specs.declared.node.ValueNode.TheVariants as v
use Rattle.awk_resolve.specs.declared.node.Node.TheVariants as n
use Rattle.awk_resolve.specs.support.Builds.{Pushes, Evaluate, EvaluateAll, EvaluateKey, key_value, place_in, Builds, Stands}
use Rattle.awk_resolve.proofs.Calculus.{later_same, later_in, given}
use Rattle.awk_resolve.proofs.Building.{grows, extends, same}
use Rattle.awk_resolve.proofs.ValueLists.{onto_more, taken_all, dropped_all, all_first, key_of_all, counted}
use Rattle.awk_resolve.proofs.Taking.{node, list_first, evaluates_key}

pub none_lowered : {kinds : ProgramKinds} {parameters : List FormalParameter} {a : Builder} {next : ℕ} → Stands next a → Builds kinds parameters a a next (EvaluateAll Nil next)
unfolding eval_all
none_lowered {next = next} h = record { extends = same; below = h.below; pos = h.pos; is = λ p g m vs s l. sym (given [] (λ ws. place_in p m next (reverse ws ++ vs)) s) }

pub more_lowered : {kinds : ProgramKinds} {parameters : List FormalParameter} {a b c : Builder} {i j next : ℕ} {e : Expr} {es : Exprs} → Builds kinds parameters a b j (EvaluateAll es next) → Builds kinds parameters b c i (Evaluate e j) → Builds kinds parameters a c i (EvaluateAll (Cons e es) next)
more_lowered {next = next} {e = e} {es = es} q r = record {
  extends = extends q.extends r.extends;
  below = r.below;
  pos = r.pos;
  is = λ p g m vs s l.
      r.is p g m vs s l
      ∙ later_in _ _ s m (keeps_eval p.functions p.calls.keep e) l (λ w u k.
      q.is p (grows r.extends.grows g) m (w ∷ vs) u k
      ∙ later_same (eval_all p.functions [] es) _ _ u (λ ws t. ap (λ (xs : List Value). place_in p m next xs t) (sym (onto_more w ws vs))))
      ∙ sym (all_first p.functions e es (λ ws. place_in p m next (reverse ws ++ vs)) s);
}

-- lists of the tree

pub count_exprs : (xs : List declared.Expr) → count_of (exprs_of xs) ≡ length xs
count_exprs [] = refl
count_exprs (x ∷ xs) = ap suc (count_exprs xs)

pub exprs_over : (xs : List declared.Expr) (i : ℕ) → length xs ≤ i → exprs_of (drop i xs) ≡ Nil
exprs_over [] zero h = refl
exprs_over [] (suc i) h = refl
exprs_over (x ∷ xs) zero h = absurd (omega (arith, h))
exprs_over (x ∷ xs) (suc i) h = exprs_over xs i (omega (arith, h))

pub exprs_at : (xs : List declared.Expr) (i : ℕ) (x : declared.Expr) → i < length xs → get_or xs i x ≡ x → exprs_of (drop i xs) ≡ Cons (expr_of x) (exprs_of (drop (suc i) xs))
exprs_at [] i x h e = absurd (omega (arith, h))
exprs_at (y ∷ ys) zero x h e = ap (λ (z : declared.Expr). Cons (expr_of z) (exprs_of ys)) e
exprs_at (y ∷ ys) (suc i) x h e = exprs_at ys i x (omega (arith, h)) e

pub some_expr : (xs : List declared.Expr) (i : ℕ) → i < length xs → (e : Expr) × (exprs_of (drop i xs) ≡ Cons e (exprs_of (drop (suc i) xs)))
some_expr [] i h = absurd (omega (arith, h))
some_expr (y ∷ ys) zero h = (expr_of y, refl)
some_expr (y ∷ ys) (suc i) h = some_expr ys i (omega (arith, h))

pub one_expr : (xs : List declared.Expr) (x : declared.Expr) → length xs ≡ 1 → get_or xs 0 x ≡ x → exprs_of xs ≡ Cons (expr_of x) Nil
one_expr [] x h e = absurd (omega (arith, h))
one_expr (y ∷ []) x h e = ap (λ (z : declared.Expr). Cons (expr_of z) Nil) e
one_expr (y ∷ (z ∷ zs)) x h e = absurd (omega (arith, h))

two_exprs_of : (x y a b : declared.Expr) → x ≡ a → y ≡ b → Cons (expr_of a) (Cons (expr_of b) Nil) ≡ Cons (expr_of x) (Cons (expr_of y) Nil)
two_exprs_of x y a b e f = ap (λ (z : declared.Expr). Cons (expr_of z) (Cons (expr_of b) Nil)) (sym e) ∙ ap (λ (z : declared.Expr). Cons (expr_of x) (Cons (expr_of z) Nil)) (sym f)

pub two_exprs : (xs : List declared.Expr) (x y : declared.Expr) → 2 ≤ length xs → length xs < 3 → x ≡ get_or xs 0 x → y ≡ get_or xs 1 y → exprs_of xs ≡ Cons (expr_of x) (Cons (expr_of y) Nil)
two_exprs [] x y h k e f = absurd (omega (arith, h))
two_exprs (a ∷ []) x y h k e f = absurd (omega (arith, h))
two_exprs (a ∷ (b ∷ [])) x y h k e f = two_exprs_of x y a b e f
two_exprs (a ∷ (b ∷ (c ∷ rest))) x y h k e f = absurd (omega (arith, k))

pub three_exprs : (xs : List declared.Expr) (x y z : declared.Expr) → 3 ≤ length xs → length xs < 4 → x ≡ get_or xs 0 x → y ≡ get_or xs 1 y → z ≡ get_or xs 2 z → exprs_of xs ≡ Cons (expr_of x) (Cons (expr_of y) (Cons (expr_of z) Nil))
three_exprs [] x y z h k e f g = absurd (omega (arith, h))
three_exprs (a ∷ []) x y z h k e f g = absurd (omega (arith, h))
three_exprs (a ∷ (b ∷ [])) x y z h k e f g = absurd (omega (arith, h))
three_exprs (a ∷ (b ∷ (c ∷ []))) x y z h k e f g = ap (λ (w : declared.Expr). Cons (expr_of w) (Cons (expr_of b) (Cons (expr_of c) Nil))) (sym e) ∙ ap (λ l. Cons (expr_of x) l) (two_exprs_of y z b c f g)
three_exprs (a ∷ (b ∷ (c ∷ (d ∷ rest)))) x y z h k e f g = absurd (omega (arith, k))

-- subscripts

pub one_key_lowered : {kinds : ProgramKinds} {parameters : List FormalParameter} {a b : Builder} {i next : ℕ} {e : Expr} → Builds kinds parameters a b i (Evaluate e next) → Builds kinds parameters a b i (EvaluateKey (Cons e Nil) next)
one_key_lowered q = record { extends = q.extends; below = q.below; pos = q.pos; is = q.is }

many_keys : (functions : Functions) (es : Exprs) → count_of es ≢ 1 → key_value functions es ≡ (key_of functions [] es >>= λ key. ret (value.Text key))
many_keys functions Nil h = refl
many_keys functions (Cons e Nil) h = absurd (h refl)
many_keys functions (Cons e (Cons x es)) h = refl

pub key_lowered : {kinds : ProgramKinds} {parameters : List FormalParameter} {a b c : Builder} {i j k next : ℕ} {es : Exprs} → Stands next a → k ≡ count_of es → count_of es ≢ 1 → Pushes a b (n.Value (v.Key k) next) j → Builds kinds parameters b c i (EvaluateAll es j) → Builds kinds parameters a c i (EvaluateKey es next)
key_lowered {k = k} {es = es} h e many q r =
    evaluates_key (list_first (λ vs. vs) (node h q) es r (λ ws vs l. dropped_all ws vs k (l ∙ sym e))) (λ vs. refl) es (λ p g m vs s i.
    counted p.functions p.calls.keep es _ _ m s i (λ ws u l j. ap (λ xs. (joined_key xs >>= λ key. ret (value.Text key)) u) (taken_all ws vs k (l ∙ sym e)))
    ∙ sym (key_of_all p.functions [] es (λ key. ret (value.Text key)) s)
    ∙ sym (ap (λ (r : Run Value). r s) (many_keys p.functions es many)))
