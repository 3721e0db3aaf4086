-- How uses are added one after another.
use Rattle.std.proofs.Common.{◌≡◌, ℕ, suc, ◌+◌, ◌<◌, ◌≤◌, Bool, true, false, List, [], ◌∷◌, ◌++◌, get_or, length, drop, drop-cons, add-one, append_assoc, if◌then◌else◌, refl, sym, ap, ◌∙◌, arith}
use Rattle.std.proofs.lemmas.List.{drop_all, append-nil}
use Rattle.awk_lex.specs.declared.token.BuiltIn.{BuiltIn}
use Rattle.awk_lex.specs.declared.token.BuiltIn.TheVariants as built_in
use Rattle.awk_grammar.specs.declared.tree.Expr.{Expr as CodeExpr}
use Rattle.awk_grammar.specs.declared.tree.Expr.TheVariants as code
use Rattle.awk_grammar.specs.declared.tree.Statement.{Statement as CodeStatement}
use Rattle.awk_grammar.specs.declared.tree.Item.{Item as CodeItem}
use Rattle.awk_grammar.specs.Tree.{Exprs, Nil, Cons, NoMore, Then}
use Rattle.awk_grammar.specs.View.{expr_of, exprs_of, statement_of, statements_of, item_of, items_of}
use Rattle.awk_kinds.specs.declared.uses.ArrayUse.{ArrayUse}
use Rattle.awk_kinds.specs.declared.uses.NameUse.{NameUse}
use Rattle.awk_kinds.specs.declared.uses.NameUse.TheVariants.{Computed, NoArray}
use Rattle.awk_kinds.specs.declared.uses.Uses.{Uses}
use Rattle.awk_kinds.specs.definitions.Kinds.{Scope, passed, split_into, uses_in_expr, uses_in_arguments}
use Rattle.awk_kinds.specs.definitions.NameUses.{makes_array, measures, names_in_passed, names_in_array, names_in_measured, names_in_argument, count_of, names_in_expr, names_in_call, names_in_built_in}
use Rattle.awk_kinds.specs.support.Adds.{Adds}

pub adds_none : {a : Uses} → Adds a a [] []
adds_none {a = a} = record { arrays = sym (append-nil a.arrays.items); names = sym (append-nil a.names.items) }

pub adds_both : {a b c : Uses} {us vs : List ArrayUse} {ns ms : List NameUse} → Adds a b us ns → Adds b c vs ms → Adds a c (us ++ vs) (ns ++ ms)
adds_both {a = a} {us = us} {vs = vs} {ns = ns} {ms = ms} p q = record {
  arrays = q.arrays ∙ ap (λ l. l ++ vs) p.arrays ∙ append_assoc a.arrays.items us vs;
  names = q.names ∙ ap (λ l. l ++ ms) p.names ∙ append_assoc a.names.items ns ms;
}

-- nothing is added where there is nothing to add
pub adds_nothing : {a : Uses} {us : List ArrayUse} → us ≡ [] → Adds a a us []
adds_nothing {a = a} e = rw e adds_none

-- uses as arrays alone go last
pub adds_arrays : {a b c : Uses} {us vs : List ArrayUse} {ns : List NameUse} → Adds a b us ns → Adds b c vs [] → Adds a c (us ++ vs) ns
adds_arrays {a = a} {us = us} {vs = vs} {ns = ns} p q = record {
  arrays = q.arrays ∙ ap (λ l. l ++ vs) p.arrays ∙ append_assoc a.arrays.items us vs;
  names = q.names ∙ append-nil _ ∙ p.names;
}

-- lists of code, from a place on

pub list_at : (es : List CodeExpr) (i : ℕ) (e : CodeExpr) → i < length es → get_or es i e ≡ e → exprs_of (drop i es) ≡ Cons (expr_of e) (exprs_of (drop (i + 1) es))
list_at es i e low is = rw (add-one, drop-cons es i e) (ap (λ x. Cons (expr_of x) (exprs_of (drop (suc i) es))) is)

pub list_over : (es : List CodeExpr) (i : ℕ) → length es ≤ i → exprs_of (drop i es) ≡ Nil
list_over es i low = ap exprs_of (drop_all i es low)

pub block_at : (ss : List CodeStatement) (i : ℕ) (s : CodeStatement) → i < length ss → get_or ss i s ≡ s → statements_of (drop i ss) ≡ Then (statement_of s) (statements_of (drop (i + 1) ss))
block_at ss i s low is = rw (add-one, drop-cons ss i s) (ap (λ x. Then (statement_of x) (statements_of (drop (suc i) ss))) is)

pub block_over : (ss : List CodeStatement) (i : ℕ) → length ss ≤ i → statements_of (drop i ss) ≡ NoMore
block_over ss i low = ap statements_of (drop_all i ss low)

pub items_at : (xs : List CodeItem) (i : ℕ) (x : CodeItem) → i < length xs → get_or xs i x ≡ x → items_of (drop i xs) ≡ item_of x ∷ items_of (drop (i + 1) xs)
items_at xs i x low is = rw (add-one, drop-cons xs i x) (ap (λ y. item_of y ∷ items_of (drop (suc i) xs)) is)

pub items_over : (xs : List CodeItem) (i : ℕ) → length xs ≤ i → items_of (drop i xs) ≡ []
items_over xs i low = ap items_of (drop_all i xs low)

pub count_is : (es : List CodeExpr) → count_of (exprs_of es) ≡ length es
count_is [] = refl
count_is (e ∷ es) = ap suc (count_is es)

-- arguments that are no bare names

pub not_passed : (scope : Scope) (f : List ℕ) (n : ℕ) (e : CodeExpr) → ((x : List ℕ) → e ≡ code.Name x → ⊥) → passed scope f n (expr_of e) ≡ []
not_passed scope f n (code.Name x) h = absurd (h x refl)
not_passed scope f n e h = refl

pub computed : (f : List ℕ) (n : ℕ) (e : CodeExpr) (names : List NameUse) → ((x : List ℕ) → e ≡ code.Name x → ⊥) → names_in_passed f n (expr_of e) names ≡ Computed f n ∷ names
computed f n (code.Name x) names h = absurd (h x refl)
computed f n e names h = refl

-- the array that split makes

pub no_split : (scope : Scope) (f : BuiltIn) (es : Exprs) → makes_array f 1 ≡ false → split_into scope f es ≡ []
no_split scope built_in.Split es h = let bad : true ≡ false = h in cc
no_split scope f es h = refl

pub split_of_few : (scope : Scope) (f : BuiltIn) (es : List CodeExpr) → length es ≤ 1 → split_into scope f (exprs_of es) ≡ []
split_of_few scope built_in.Split [] h = refl
split_of_few scope built_in.Split (a ∷ []) h = refl
split_of_few scope built_in.Split (a ∷ b ∷ es) h = absurd (omega (arith, h))
split_of_few scope f es h = refl

pub split_of_other : (scope : Scope) (f : BuiltIn) (es : List CodeExpr) (e : CodeExpr) → 1 < length es → get_or es 1 e ≡ e → ((x : List ℕ) → e ≡ code.Name x → ⊥) → split_into scope f (exprs_of es) ≡ []
split_of_other scope built_in.Split [] e low is h = refl
split_of_other scope built_in.Split (a ∷ []) e low is h = refl
split_of_other scope built_in.Split (a ∷ b ∷ es) e low is h = other b (λ x eq. h x (sym is ∙ eq))
  where
    other : (b : CodeExpr) → ((x : List ℕ) → b ≡ code.Name x → ⊥) → split_into scope built_in.Split (Cons (expr_of a) (Cons (expr_of b) (exprs_of es))) ≡ []
    other (code.Name x) h = absurd (h x refl)
    other b h = refl
split_of_other scope f es e low is h = refl

-- arguments, from a place on

pub arguments_at : (scope : Scope) (f : List ℕ) (es : List CodeExpr) (i : ℕ) (e : CodeExpr) → i < length es → get_or es i e ≡ e → uses_in_arguments scope f i (exprs_of (drop i es)) ≡ (passed scope f i (expr_of e) ++ uses_in_expr scope (expr_of e)) ++ uses_in_arguments scope f (i + 1) (exprs_of (drop (i + 1) es))
arguments_at scope f es i e low is =
    let next : i + 1 ≡ suc i = omega arith in
    ap (λ l. uses_in_arguments scope f i l) (list_at es i e low is) ∙ ap (λ j. passed scope f i (expr_of e) ++ (uses_in_expr scope (expr_of e) ++ uses_in_arguments scope f j (exprs_of (drop (i + 1) es)))) (sym next)
    ∙ sym (append_assoc (passed scope f i (expr_of e)) (uses_in_expr scope (expr_of e)) (uses_in_arguments scope f (i + 1) (exprs_of (drop (i + 1) es))))

pub called_at : (scope : Scope) (f : List ℕ) (es : List CodeExpr) (i : ℕ) (e : CodeExpr) → i < length es → get_or es i e ≡ e → names_in_call scope f i (exprs_of (drop i es)) ≡ names_in_passed f i (expr_of e) (names_in_expr scope (expr_of e)) ++ names_in_call scope f (i + 1) (exprs_of (drop (i + 1) es))
called_at scope f es i e low is =
    let next : i + 1 ≡ suc i = omega arith in
    ap (λ l. names_in_call scope f i l) (list_at es i e low is) ∙ ap (λ j. names_in_passed f i (expr_of e) (names_in_expr scope (expr_of e)) ++ names_in_call scope f j (exprs_of (drop (i + 1) es))) (sym next)

-- an argument of a built-in

pub built_in_at : (scope : Scope) (f : BuiltIn) (es : List CodeExpr) (i : ℕ) (e : CodeExpr) → i < length es → get_or es i e ≡ e → names_in_built_in scope f i (exprs_of (drop i es)) ≡ names_in_argument scope f i (expr_of e) (names_in_expr scope (expr_of e)) ++ names_in_built_in scope f (i + 1) (exprs_of (drop (i + 1) es))
built_in_at scope f es i e low is =
    let next : i + 1 ≡ suc i = omega arith in
    ap (λ l. names_in_built_in scope f i l) (list_at es i e low is) ∙ ap (λ j. names_in_argument scope f i (expr_of e) (names_in_expr scope (expr_of e)) ++ names_in_built_in scope f j (exprs_of (drop (i + 1) es))) (sym next)

array_of_other : (e : CodeExpr) (names : List NameUse) → ((x : List ℕ) → e ≡ code.Name x → ⊥) → names_in_array (expr_of e) names ≡ NoArray ∷ names
array_of_other (code.Name x) names h = absurd (h x refl)
array_of_other e names h = refl

measured_other : (scope : Scope) (e : CodeExpr) (names : List NameUse) → ((x : List ℕ) → e ≡ code.Name x → ⊥) → names_in_measured scope (expr_of e) names ≡ names
measured_other scope (code.Name x) names h = absurd (h x refl)
measured_other scope e names h = refl

argument_by : (scope : Scope) (made measured : Bool) (e : CodeExpr) (names : List NameUse) → ((x : List ℕ) → e ≡ code.Name x → ⊥)
    → (if made then names_in_array (expr_of e) names else (if measured then names_in_measured scope (expr_of e) names else names)) ≡ (if made then NoArray ∷ [] else []) ++ names
argument_by scope true measured e names h = array_of_other e names h
argument_by scope false true e names h = measured_other scope e names h
argument_by scope false false e names h = refl

-- one that is no bare name
pub argument_of_other : (scope : Scope) (f : BuiltIn) (i : ℕ) (e : CodeExpr) (names : List NameUse) → ((x : List ℕ) → e ≡ code.Name x → ⊥) → names_in_argument scope f i (expr_of e) names ≡ (if makes_array f i then NoArray ∷ [] else []) ++ names
argument_of_other scope f i e names h = argument_by scope (makes_array f i) (measures f i) e names h
