-- The tables of a program's kinds, as they are made.
use Rattle.std.proofs.Common.{◌≡◌, ℕ, suc, ◌+◌, ◌<◌, Bool, false, ◌||◌, List, [], ◌∷◌, ◌++◌, length, map, filter, cond, take, drop, get_or, Bor, refl, sym, ap, ◌∙◌}
use Rattle.std.specs.Global.{Vec}
use Rattle.std.specs.List.{list_any}
use Rattle.std.proofs.lemmas.List.{take_more, map-append}
use Rattle.std.proofs.lemmas.List.Elements.{filter-append}
use Rattle.awk_kinds.specs.definitions.Names.{has_name, with_name}
use Rattle.awk_lex.specs.declared.refusal.RefusalCode.TheVariants.{DefinedTwice, ParameterRefused}
use Rattle.awk_grammar.specs.declared.tree.Statement.{Statement as CodeStatement}
use Rattle.awk_grammar.specs.declared.tree.Item.{Item as CodeItem}
use Rattle.awk_grammar.specs.declared.tree.Item.TheVariants as code
use Rattle.awk_grammar.specs.Tree.{Item, Function, Statements}
use Rattle.awk_grammar.specs.View.{item_of, items_of}
use Rattle.awk_kinds.specs.declared.variable.Variable.{Variable}
use Rattle.awk_kinds.specs.declared.variable.Variable.TheVariants.{Global, Parameter}
use Rattle.awk_kinds.specs.declared.uses.ArrayUse.{ArrayUse}
use Rattle.awk_kinds.specs.declared.arrays.Arrays.{Arrays}
use Rattle.awk_kinds.specs.declared.special.OwnVariable.{OwnVariable}
use Rattle.awk_kinds.specs.definitions.Kinds.{in_array_use, globals_among, with_global, arrays_of, parameter_by, definitions_by}
use Rattle.awk_kinds.specs.definitions.Fits.{Fits, has_repeat, has_refused_parameter, is_function, is_special}
use Rattle.awk_kinds.specs.definitions.Signatures.{signature_by}
use Rattle.awk_kinds.specs.support.Functions.{names_defined}
use Rattle.awk_kinds.specs.support.Known.{HoldsArrays}
use Rattle.awk_kinds.specs.support.Tables.{globals, signatures}
use Rattle.awk_kinds.specs.support.Marked.{marked_formal, marked_parameters}
use Rattle.awk_kinds.proofs.Told.{names_are}
use Rattle.awk_kinds.proofs.Defined.{names_defined-append}
use Rattle.awk_kinds.proofs.Tabled.{around, not_before, first_false, none_at}

map_same : {A B : Type 0} (f g : A → B) → ((x : A) → f x ≡ g x) → (xs : List A) → map f xs ≡ map g xs
map_same f g same [] = refl
map_same f g same (x ∷ xs) = ap (λ y. y ∷ map f xs) (same x) ∙ ap (λ l. g x ∷ l) (map_same f g same xs)

pub filter_same : {A : Type 0} (p q : A → Bool) → ((x : A) → p x ≡ q x) → (xs : List A) → filter p xs ≡ filter q xs
filter_same p q same [] = refl
filter_same p q same (x ∷ xs) = ap (λ b. cond b (x ∷ filter p xs) (filter p xs)) (same x) ∙ ap (λ l. cond (q x) (x ∷ l) l) (filter_same p q same xs)

-- arrays of the whole program

globals-append : (names : List (List ℕ)) (vs ws : List Variable) → globals_among names (vs ++ ws) ≡ globals_among (globals_among names vs) ws
globals-append names [] ws = refl
globals-append names (v ∷ vs) ws = globals-append (with_global names v) vs ws

abbrev Row : Type 0
Row = Bor (List ℕ) × OwnVariable

rows_step : (rows : List Row) (i : ℕ) (d : Row) → i < length rows → globals_among [] (globals (map (λ (r : Row). r.0.now) (take (i + 1) rows))) ≡ with_name (globals_among [] (globals (map (λ (r : Row). r.0.now) (take i rows)))) (get_or rows i d).0.now
rows_step rows i d low =
    let F = λ (r : Row). Global r.0.now in
    let flat : (rs : List Row) → globals (map (λ (r : Row). r.0.now) rs) ≡ map F rs = twice in
    ap (globals_among []) (flat (take (i + 1) rows) ∙ ap (map F) (take_more rows i d low) ∙ map-append F (take i rows) (get_or rows i d ∷ []))
    ∙ globals-append [] (map F (take i rows)) (F (get_or rows i d) ∷ [])
    ∙ ap (λ vs. with_name (globals_among [] vs) (get_or rows i d).0.now) (sym (flat (take i rows)))
  where
    twice : (rs : List Row) → globals (map (λ (r : Row). r.0.now) rs) ≡ map (λ (r : Row). Global r.0.now) rs
    twice [] = refl
    twice (r ∷ rs) = ap (λ l. Global r.0.now ∷ l) (twice rs)

pub row_added : (rows : List Row) (i : ℕ) (d : Row) (old new : List (List ℕ)) → i < length rows → new ≡ with_name old (get_or rows i d).0.now → old ≡ globals_among [] (globals (map (λ (r : Row). r.0.now) (take i rows))) → new ≡ globals_among [] (globals (map (λ (r : Row). r.0.now) (take (i + 1) rows)))
row_added rows i d old new low is before = is ∙ ap (λ names. with_name names (get_or rows i d).0.now) before ∙ sym (rows_step rows i d low)

-- the next use
pub use_step : (names : List (List ℕ)) (M : Variable → Bool) (us : List ArrayUse) (i : ℕ) (u : ArrayUse) → i < length us → u ≡ get_or us i u → globals_among names (filter M (map in_array_use (take (i + 1) us))) ≡ globals_among (globals_among names (filter M (map in_array_use (take i us)))) (cond (M (in_array_use u)) (in_array_use u ∷ []) [])
use_step names M us i u low is =
    let before = take i us in
    ap (λ l. globals_among names (filter M (map in_array_use l))) (take_more us i u low ∙ ap (λ y. before ++ y ∷ []) (sym is))
    ∙ ap (λ l. globals_among names (filter M l)) (map-append in_array_use before (u ∷ []))
    ∙ ap (globals_among names) (filter-append M (map in_array_use before) (in_array_use u ∷ []))
    ∙ globals-append names (filter M (map in_array_use before)) (cond (M (in_array_use u)) (in_array_use u ∷ []) [])

-- items round one of them

items-append : (xs ys : List CodeItem) → items_of (xs ++ ys) ≡ items_of xs ++ items_of ys
items-append [] ys = refl
items-append (x ∷ xs) ys = ap (λ l. item_of x ∷ l) (items-append xs ys)

pub items_around : (all : List CodeItem) (i : ℕ) (x : CodeItem) → i < length all → x ≡ get_or all i x → items_of all ≡ items_of (take i all) ++ (item_of x ∷ items_of (drop (i + 1) all))
items_around all i x low is = ap items_of (around all i x low is) ∙ items-append (take i all) (x ∷ drop (i + 1) all)

pub items_to : (all : List CodeItem) (i : ℕ) (x : CodeItem) → i < length all → x ≡ get_or all i x → items_of (take (i + 1) all) ≡ items_of (take i all) ++ item_of x ∷ []
items_to all i x low is = ap items_of (take_more all i x low ∙ ap (λ y. take i all ++ y ∷ []) (sym is)) ∙ items-append (take i all) (x ∷ [])

-- a function of a program that fits: its parameters differ, and none is defined before with its name
pub parameters_differ : (items before after : List Item) (f : List ℕ) (ps : List (List ℕ)) (block : Statements) → items ≡ before ++ (Function f ps block ∷ after) → Fits items → has_repeat ps ≡ false
parameters_differ items before after f ps block split fits =
    let refused = has_refused_parameter items in
    first_false (has_repeat ps) (list_any (λ x. is_function items x || is_special x) ps)
    (none_at refused before after (Function f ps block) (ap (list_any refused) (sym split) ∙ fits ParameterRefused))

pub name_new : (items before after : List Item) (f : List ℕ) (ps : List (List ℕ)) (block : Statements) → items ≡ before ++ (Function f ps block ∷ after) → Fits items → has_name (names_defined before) f ≡ false
name_new items before after f ps block split fits =
    not_before (names_defined before) (names_defined after) f
    (ap has_repeat (sym (ap names_defined split ∙ names_defined-append before (Function f ps block ∷ after))) ∙ ap has_repeat (sym (names_are items)) ∙ fits DefinedTwice)

-- parameters of functions

pub parameters-append : (arrays : Arrays) (xs ys : List Item) → marked_parameters arrays (xs ++ ys) ≡ marked_parameters arrays xs ++ marked_parameters arrays ys
parameters-append arrays [] ys = refl
parameters-append arrays (Function f ps block ∷ xs) ys = ap (λ l. map (marked_formal arrays f) ps ∷ l) (parameters-append arrays xs ys)
parameters-append arrays (x ∷ xs) ys = parameters-append arrays xs ys

pub as_long : (arrays : Arrays) (xs : List Item) → length (names_defined xs) ≡ length (marked_parameters arrays xs)
as_long arrays [] = refl
as_long arrays (Function f ps block ∷ xs) = ap suc (as_long arrays xs)
as_long arrays (x ∷ xs) = as_long arrays xs

-- an item that defines no function adds nothing
pub no_names : (x : CodeItem) → ((f : List ℕ) (ps : Vec (List ℕ)) (block : Vec CodeStatement) → x ≡ code.Function f ps block → ⊥) → names_defined (item_of x ∷ []) ≡ []
no_names (code.Function f ps block) other = absurd (other f ps block refl)
no_names x other = refl

pub no_parameters : (arrays : Arrays) (x : CodeItem) → ((f : List ℕ) (ps : Vec (List ℕ)) (block : Vec CodeStatement) → x ≡ code.Function f ps block → ⊥) → marked_parameters arrays (item_of x ∷ []) ≡ []
no_parameters arrays (code.Function f ps block) other = absurd (other f ps block refl)
no_parameters arrays x other = refl

module _ (items : List Item) (arrays : Arrays) (h : HoldsArrays items arrays) where
  formal_same : (f x : List ℕ) → marked_formal arrays f x ≡ parameter_by (arrays_of items) f x
  formal_same f x = ap (λ b. record { name = x; is_array = b }) (h.marked (Parameter f x))

  pub signatures_are : (xs : List Item) → signatures (names_defined xs) (marked_parameters arrays xs) ≡ map signature_by (definitions_by (arrays_of items) xs)
  signatures_are [] = refl
  signatures_are (Function f ps block ∷ xs) =
      ap (λ l. record { name = f; parameters = l } ∷ signatures (names_defined xs) (marked_parameters arrays xs)) (map_same (marked_formal arrays f) (parameter_by (arrays_of items) f) (formal_same f) ps)
      ∙ ap (λ l. record { name = f; parameters = map (parameter_by (arrays_of items) f) ps } ∷ l) (signatures_are xs)
  signatures_are (x ∷ xs) = signatures_are xs
