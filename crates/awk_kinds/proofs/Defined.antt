-- The functions that a program defines, one after another.
use Rattle.std.proofs.Common.{◌≡◌, ℕ, Bool, true, false, ◌||◌, List, [], ◌∷◌, ◌++◌, Option, Some, None, bytes_eq, is_some, if◌then◌else◌, refl, sym, ap, ◌∙◌}
use Rattle.std.specs.Global.{Vec}
use Rattle.std.specs.Option.{option_map}
use Rattle.std.specs.Map.{lookup}
use Rattle.std.proofs.Math.Bool.{or-true}
use Rattle.std.proofs.lemmas.List.{append-nil}
use Rattle.std.proofs.lemmas.List.Folds.{list_any-append}
use Rattle.std.specs.Cmp.Lexicographic.{nat_list_eq_equiv}
use Rattle.awk_kinds.specs.definitions.Names.{has_name}
use Rattle.awk_grammar.specs.declared.tree.Statement.{Statement as CodeStatement}
use Rattle.awk_grammar.specs.declared.tree.Item.{Item as CodeItem}
use Rattle.awk_grammar.specs.declared.tree.Item.TheVariants as code
use Rattle.awk_grammar.specs.Tree.{Item, Function, Statements}
use Rattle.awk_grammar.specs.View.{item_of, items_of}
use Rattle.awk_kinds.specs.definitions.Fits.{has_repeat}
use Rattle.awk_kinds.specs.declared.functions.Functions.{Functions}
use Rattle.awk_kinds.specs.support.Functions.{signature_of, names_defined, or_else, AddsFunction, HoldsFunctions}

-- entries

abbrev pub found_in : {V : Type 0} → List (Vec ℕ × Vec V) → List ℕ → Option (List V)
found_in es f = option_map (λ all. all.items) (lookup (λ k. bytes_eq f k.items) es)

one : {V : Type 0} (b : Bool) (copy : Vec V) (ps : List V) → copy.items ≡ ps → option_map (λ (all : Vec V). all.items) (if b then Some copy else None) ≡ (if b then Some ps else None)
one true copy ps e = ap Some e
one false copy ps e = refl

first_or : {V : Type 0} (b : Bool) (x : Vec V) (r s : Option (Vec V)) (t : Option (List V)) → option_map (λ (all : Vec V). all.items) r ≡ or_else (option_map (λ (all : Vec V). all.items) s) t → option_map (λ (all : Vec V). all.items) (if b then Some x else r) ≡ or_else (option_map (λ (all : Vec V). all.items) (if b then Some x else s)) t
first_or true x r s t e = refl
first_or false x r s t e = e

entry_last : {V : Type 0} (es : List (Vec ℕ × Vec V)) (key : Vec ℕ) (copy : Vec V) (ps : List V) (f : List ℕ) → copy.items ≡ ps → found_in (es ++ (key, copy) ∷ []) f ≡ or_else (found_in es f) (if bytes_eq f key.items then Some ps else None)
entry_last [] key copy ps f e = one (bytes_eq f key.items) copy ps e
entry_last (x ∷ es) key copy ps f e = first_or (bytes_eq f x.0.items) x.1 (lookup (λ k. bytes_eq f k.items) (es ++ (key, copy) ∷ [])) (lookup (λ k. bytes_eq f k.items) es) (if bytes_eq f key.items then Some ps else None) (entry_last es key copy ps f e)

pub entry_added : {V : Type 0} (es new : List (Vec ℕ × Vec V)) (key : Vec ℕ) (copy : Vec V) (name : List ℕ) (ps : List V) → new ≡ es ++ (key, copy) ∷ [] → key.items ≡ name → copy.items ≡ ps → (f : List ℕ) → found_in new f ≡ or_else (found_in es f) (if bytes_eq f name then Some ps else None)
entry_added es new key copy name ps last is all f =
    ap (λ xs. found_in xs f) last ∙ entry_last es key copy ps f all ∙ ap (λ x. or_else (found_in es f) (if bytes_eq f x then Some ps else None)) is

pub not_found : {V : Type 0} (es : List (Vec ℕ × Vec V)) (name key : List ℕ) → key ≡ name → is_some (found_in es name) ≡ false → lookup (λ k. bytes_eq key k.items) es ≡ None
not_found {V = V} es name key is absent = ap (λ x. lookup (λ k. bytes_eq x k.items) es) is ∙ by (lookup (λ k. bytes_eq name k.items) es) absent
  where
    by : (r : Option (Vec V)) → is_some (option_map (λ (all : Vec V). all.items) r) ≡ false → r ≡ None
    by None e = refl
    by (Some x) e = let bad : true ≡ false = e in cc

-- items

signature_first : (b : Bool) (ps : List (List ℕ)) (r s t : Option (List (List ℕ))) → r ≡ or_else s t → (if b then Some ps else r) ≡ or_else (if b then Some ps else s) t
signature_first true ps r s t e = refl
signature_first false ps r s t e = e

pub signature-append : (xs ys : List Item) (f : List ℕ) → signature_of (xs ++ ys) f ≡ or_else (signature_of xs f) (signature_of ys f)
signature-append [] ys f = refl
signature-append (Function g ps block ∷ xs) ys f = signature_first (bytes_eq f g) ps (signature_of (xs ++ ys) f) (signature_of xs f) (signature_of ys f) (signature-append xs ys f)
signature-append (x ∷ xs) ys f = signature-append xs ys f

pub names_defined-append : (xs ys : List Item) → names_defined (xs ++ ys) ≡ names_defined xs ++ names_defined ys
names_defined-append [] ys = refl
names_defined-append (Function g ps block ∷ xs) ys = ap (λ l. g ∷ l) (names_defined-append xs ys)
names_defined-append (x ∷ xs) ys = names_defined-append xs ys

or_none : {A : Type 0} (a : Option A) → or_else a None ≡ a
or_none None = refl
or_none (Some x) = refl

-- an item that defines no function
pub other_item : (functions : Functions) (xs : List Item) (x : CodeItem) → ((f : List ℕ) (ps : Vec (List ℕ)) (block : Vec CodeStatement) → x ≡ code.Function f ps block → ⊥) → HoldsFunctions xs functions → HoldsFunctions (xs ++ item_of x ∷ []) functions
other_item functions xs x other h = record {
  names = h.names ∙ sym (names_defined-append xs (item_of x ∷ []) ∙ none x other);
  first = λ f. h.first f ∙ sym (signature-append xs (item_of x ∷ []) f ∙ no_signature x other f);
}
  where
    none : (x : CodeItem) → ((f : List ℕ) (ps : Vec (List ℕ)) (block : Vec CodeStatement) → x ≡ code.Function f ps block → ⊥) → names_defined xs ++ names_defined (item_of x ∷ []) ≡ names_defined xs
    none (code.Function f ps block) other = absurd (other f ps block refl)
    none x other = append-nil (names_defined xs)

    no_signature : (x : CodeItem) → ((f : List ℕ) (ps : Vec (List ℕ)) (block : Vec CodeStatement) → x ≡ code.Function f ps block → ⊥) → (f : List ℕ) → or_else (signature_of xs f) (signature_of (item_of x ∷ []) f) ≡ signature_of xs f
    no_signature (code.Function f ps block) other = absurd (other f ps block refl)
    no_signature x other = λ f. or_none (signature_of xs f)

pub function_item : {old new : Functions} (xs : List Item) (g : List ℕ) (ps : List (List ℕ)) (block : Statements) → HoldsFunctions xs old → AddsFunction old new g ps → HoldsFunctions (xs ++ Function g ps block ∷ []) new
function_item xs g ps block h adds = record {
  names = adds.names ∙ ap (λ l. l ++ g ∷ []) h.names ∙ sym (names_defined-append xs (Function g ps block ∷ []));
  first = λ f. adds.first f ∙ ap (λ r. or_else r (if bytes_eq f g then Some ps else None)) (h.first f) ∙ sym (signature-append xs (Function g ps block ∷ []) f);
}

pub items_push : (xs : List CodeItem) (x : CodeItem) → items_of (xs ++ x ∷ []) ≡ items_of xs ++ item_of x ∷ []
items_push [] x = refl
items_push (y ∷ xs) x = ap (λ l. item_of y ∷ l) (items_push xs x)

-- names that stand twice

either : (a b c d : Bool) → (a ≡ true → c ≡ true) → (b ≡ true → d ≡ true) → (a || b) ≡ true → (c || d) ≡ true
either true b c d f g e = ap (λ x. x || d) (f refl)
either false b c d f g e = ap (λ x. c || x) (g e) ∙ or-true c

has_name-left : (xs ys : List (List ℕ)) (x : List ℕ) → has_name xs x ≡ true → has_name (xs ++ ys) x ≡ true
has_name-left xs ys x e = list_any-append (bytes_eq x) xs ys ∙ ap (λ b. b || has_name ys x) e

pub has_repeat-left : (xs ys : List (List ℕ)) → has_repeat xs ≡ true → has_repeat (xs ++ ys) ≡ true
has_repeat-left [] ys e = let bad : false ≡ true = e in cc
has_repeat-left (x ∷ xs) ys e = either (has_name xs x) (has_repeat xs) (has_name (xs ++ ys) x) (has_repeat (xs ++ ys)) (has_name-left xs ys x) (has_repeat-left xs ys) e

bytes_eq-swap : (x y : List ℕ) → bytes_eq x y ≡ bytes_eq y x
bytes_eq-swap x y = nat_list_eq_equiv.symm x y

regrouped : (a b c d : Bool) → ((a || (b || false)) || (c || d)) ≡ ((a || c) || (b || d))
regrouped true b c d = refl
regrouped false true c d = sym (or-true c)
regrouped false false c d = refl

pub has_repeat-push : (xs : List (List ℕ)) (x : List ℕ) → has_repeat (xs ++ x ∷ []) ≡ (has_repeat xs || has_name xs x)
has_repeat-push [] x = refl
has_repeat-push (y ∷ xs) x =
    ap (λ b. b || has_repeat (xs ++ x ∷ [])) (list_any-append (bytes_eq y) xs (x ∷ []))
    ∙ ap (λ b. (has_name xs y || (bytes_eq y x || false)) || b) (has_repeat-push xs x)
    ∙ regrouped (has_name xs y) (bytes_eq y x) (has_repeat xs) (has_name xs x)
    ∙ ap (λ b. (has_name xs y || has_repeat xs) || (b || has_name xs x)) (bytes_eq-swap y x)
