-- Lists side by side, as one.
use Rattle.std.proofs.Common.{◌≡◌, inl, inr, ℕ, zero, suc, ◌+◌, ◌<◌, Bool, true, false, ◌||◌, List, [], ◌∷◌, ◌++◌, length, map, take, drop, get_or, Option, Some, None, slice_get, if◌then◌else◌, Bor, refl, sym, ap, ◌∙◌, arith, append_assoc}
use Rattle.std.specs.Option.{option_map}
use Rattle.std.specs.List.{list_any}
use Rattle.std.specs.Slice.{IsItemAt}
use Rattle.std.proofs.lemmas.List.{take_more, take-append-drop}
use Rattle.std.proofs.lemmas.List.Folds.{list_any-append}
use Rattle.std.proofs.lemmas.Option.{slice_get_cases, slice_get_past, get_or_from_slice_get}
use Rattle.std.proofs.Math.Bool.{or-true}
use Rattle.awk_kinds.specs.definitions.Names.{has_name, with_name}
use Rattle.awk_kinds.specs.definitions.Kinds.{FormalParameter}
use Rattle.awk_kinds.specs.definitions.Fits.{has_repeat}
use Rattle.awk_kinds.specs.definitions.Signatures.{Signature}
use Rattle.awk_kinds.specs.support.Tables.{formals, signatures}
use Rattle.awk_kinds.proofs.Defined.{has_repeat-left, has_repeat-push}

pub item_at : {X : Type 0} (xs : List X) (i : ℕ) (r : Option (Bor X)) → IsItemAt xs i r → option_map (λ (x : Bor X). x.now) r ≡ slice_get xs i
item_at xs i None h = sym (slice_get_past xs i h.3)
item_at xs i (Some x) h =
    elim (slice_get_cases xs i).1 [
      | inl k ↦ ap Some (h.3.1 x.now ∙ get_or_from_slice_get xs i k.0 x.now k.2) ∙ sym k.2
      | inr k ↦ absurd (omega (arith, h.3.0, k.0))
    ]

-- formal parameters

pub formal_names : (xs : List (List ℕ)) (bs : List Bool) → length xs ≡ length bs → map (λ (p : FormalParameter). p.name) (formals xs bs) ≡ xs
formal_names [] bs e = refl
formal_names (x ∷ xs) [] e = absurd (omega (arith, e))
formal_names (x ∷ xs) (b ∷ bs) e = ap (λ l. x ∷ l) (formal_names xs bs (omega (arith, e)))

pub formals_long : (xs : List (List ℕ)) (bs : List Bool) → length xs ≡ length bs → length xs ≡ length (formals xs bs)
formals_long [] [] e = refl
formals_long [] (b ∷ bs) e = absurd (omega (arith, e))
formals_long (x ∷ xs) [] e = absurd (omega (arith, e))
formals_long (x ∷ xs) (b ∷ bs) e = ap suc (formals_long xs bs (omega (arith, e)))

pub formal_name_at : (xs : List (List ℕ)) (bs : List Bool) (i : ℕ) → length xs ≡ length bs → slice_get xs i ≡ option_map (λ (p : FormalParameter). p.name) (slice_get (formals xs bs) i)
formal_name_at [] bs i e = refl
formal_name_at (x ∷ xs) [] i e = absurd (omega (arith, e))
formal_name_at (x ∷ xs) (b ∷ bs) zero e = refl
formal_name_at (x ∷ xs) (b ∷ bs) (suc i) e = formal_name_at xs bs i (omega (arith, e))

pub formal_kind_at : (xs : List (List ℕ)) (bs : List Bool) (i : ℕ) → length xs ≡ length bs → slice_get bs i ≡ option_map (λ (p : FormalParameter). p.is_array) (slice_get (formals xs bs) i)
formal_kind_at [] [] i e = refl
formal_kind_at [] (b ∷ bs) i e = absurd (omega (arith, e))
formal_kind_at (x ∷ xs) [] i e = absurd (omega (arith, e))
formal_kind_at (x ∷ xs) (b ∷ bs) zero e = refl
formal_kind_at (x ∷ xs) (b ∷ bs) (suc i) e = formal_kind_at xs bs i (omega (arith, e))

pub formals_map : (g : List ℕ → Bool) (xs : List (List ℕ)) → formals xs (map g xs) ≡ map (λ x. record { name = x; is_array = g x }) xs
formals_map g [] = refl
formals_map g (x ∷ xs) = ap (λ l. record { name = x; is_array = g x } ∷ l) (formals_map g xs)

-- functions

pub function_names : (xs : List (List ℕ)) (ps : List (List FormalParameter)) → length xs ≡ length ps → map (λ (f : Signature). f.name) (signatures xs ps) ≡ xs
function_names [] ps e = refl
function_names (x ∷ xs) [] e = absurd (omega (arith, e))
function_names (x ∷ xs) (p ∷ ps) e = ap (λ l. x ∷ l) (function_names xs ps (omega (arith, e)))

pub signatures_long : (xs : List (List ℕ)) (ps : List (List FormalParameter)) → length xs ≡ length ps → length xs ≡ length (signatures xs ps)
signatures_long [] [] e = refl
signatures_long [] (p ∷ ps) e = absurd (omega (arith, e))
signatures_long (x ∷ xs) [] e = absurd (omega (arith, e))
signatures_long (x ∷ xs) (p ∷ ps) e = ap suc (signatures_long xs ps (omega (arith, e)))

pub function_name_at : (xs : List (List ℕ)) (ps : List (List FormalParameter)) (i : ℕ) → length xs ≡ length ps → slice_get xs i ≡ option_map (λ (f : Signature). f.name) (slice_get (signatures xs ps) i)
function_name_at [] ps i e = refl
function_name_at (x ∷ xs) [] i e = absurd (omega (arith, e))
function_name_at (x ∷ xs) (p ∷ ps) zero e = refl
function_name_at (x ∷ xs) (p ∷ ps) (suc i) e = function_name_at xs ps i (omega (arith, e))

pub parameters_at : (xs : List (List ℕ)) (ps : List (List FormalParameter)) (i : ℕ) → length xs ≡ length ps → slice_get ps i ≡ option_map (λ (f : Signature). f.parameters) (slice_get (signatures xs ps) i)
parameters_at [] [] i e = refl
parameters_at [] (p ∷ ps) i e = absurd (omega (arith, e))
parameters_at (x ∷ xs) [] i e = absurd (omega (arith, e))
parameters_at (x ∷ xs) (p ∷ ps) zero e = refl
parameters_at (x ∷ xs) (p ∷ ps) (suc i) e = parameters_at xs ps i (omega (arith, e))

-- names that stand once

never : (b c : Bool) → (b ≡ true → c ≡ true) → c ≡ false → b ≡ false
never true c h e = let bad : true ≡ false = sym (h refl) ∙ e in cc
never false c h e = refl

pub first_false : (b c : Bool) → (b || c) ≡ false → b ≡ false
first_false true c e = let bad : true ≡ false = e in cc
first_false false c e = refl

-- a name that stands once doesn't stand before
pub not_before : (xs ys : List (List ℕ)) (x : List ℕ) → has_repeat (xs ++ (x ∷ ys)) ≡ false → has_name xs x ≡ false
not_before xs ys x e =
    let front : has_repeat (xs ++ x ∷ []) ≡ false =
    never (has_repeat (xs ++ x ∷ [])) (has_repeat (xs ++ (x ∷ ys))) (λ t. ap has_repeat (sym (append_assoc xs (x ∷ []) ys)) ∙ has_repeat-left (xs ++ x ∷ []) ys t) e in
    never (has_name xs x) (has_repeat (xs ++ x ∷ [])) (λ t. has_repeat-push xs x ∙ ap (λ b. has_repeat xs || b) t ∙ or-true (has_repeat xs)) front

pub put_last : (xs : List (List ℕ)) (x : List ℕ) → has_name xs x ≡ false → with_name xs x ≡ xs ++ x ∷ []
put_last xs x e = ap (λ b. if b then xs else xs ++ x ∷ []) e

-- a list round one of its items
pub around : {X : Type 0} (xs : List X) (i : ℕ) (x : X) → i < length xs → x ≡ get_or xs i x → xs ≡ take i xs ++ (x ∷ drop (i + 1) xs)
around xs i x low is =
    sym (take-append-drop (i + 1) xs) ∙ ap (λ l. l ++ drop (i + 1) xs) (take_more xs i x low ∙ ap (λ y. take i xs ++ y ∷ []) (sym is)) ∙ append_assoc (take i xs) (x ∷ []) (drop (i + 1) xs)

pub none_at : {X : Type 0} (p : X → Bool) (xs ys : List X) (x : X) → list_any p (xs ++ (x ∷ ys)) ≡ false → p x ≡ false
none_at p xs ys x e = never (p x) (list_any p (xs ++ (x ∷ ys))) (λ t. list_any-append p xs (x ∷ ys) ∙ ap (λ b. list_any p xs || (b || list_any p ys)) t ∙ or-true (list_any p xs)) e
