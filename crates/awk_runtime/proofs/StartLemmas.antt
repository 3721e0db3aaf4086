-- The state before a run.
use Rattle.std.proofs.Common.{◌≡◌, ◌<◌, ◌+◌, ℕ, zero, suc, Bool, true, false, List, [], ◌∷◌, ◌++◌, map, length, take, set, get_or, Some, None, Result, Ok, Err, OnOk, refl, sym, ap, ◌∙◌, arith, length-append}
use Rattle.std.specs.Prelude.{slice_get, codes, bytes_eq, if◌then◌else◌}
use Rattle.std.proofs.lemmas.List.{take_more, set-get_or, get_or-set_same}
use Rattle.std.proofs.lemmas.Option.{unwrap_or-slice_get, slice_get-get_or}
use Rattle.awk_value.specs.declared.value.Value.TheVariants.{Input}
use Rattle.awk_value.specs.Arrays.{Array, with_pair}
use Rattle.awk_semantics.specs.Primitives.{elements_from}
use Rattle.awk_semantics.specs.Meaning.{StartValues, argv_of, environ_from, first_array, first_arrays}
use Rattle.awk_storage.specs.support.Tables.{array_of}
use Rattle.awk_runtime.specs.declared.start.Assignment.{Assignment}
use Rattle.awk_runtime.specs.support.Beginning.{pair_of}

-- the array of a number

array-is : (arrays : List Array) (n : ℕ) → array_of arrays n ≡ get_or arrays n []
array-is arrays n = unwrap_or-slice_get arrays n []

pub array_same : (arrays : List Array) (n : ℕ) → arrays ≡ set arrays n (array_of arrays n)
array_same arrays n = sym (ap (set arrays n) (array-is arrays n) ∙ set-get_or arrays n [])

array_set : (arrays : List Array) (n : ℕ) (a : Array) → n < length arrays → array_of (set arrays n a) n ≡ a
array_set arrays n a low = array-is (set arrays n a) n ∙ get_or-set_same arrays n a [] low

set_set : (arrays : List Array) (n : ℕ) (a b : Array) → set (set arrays n a) n b ≡ set arrays n b
set_set [] n a b = refl
set_set (x ∷ arrays) zero a b = refl
set_set (x ∷ arrays) (suc n) a b = ap (λ l. x ∷ l) (set_set arrays n a b)

-- ENVIRON

environ_then : (a : Array) (xs : List (List ℕ × List ℕ)) (x : List ℕ × List ℕ) → environ_from a (xs ++ x ∷ []) ≡ with_pair (environ_from a xs) x.0 (Input x.1)
environ_then a [] x = refl
environ_then a (y ∷ xs) x = environ_then (with_pair a y.0 (Input y.1)) xs x

map_then : {X Y : Type 0} (f : X → Y) (xs : List X) (x : X) → map f (xs ++ x ∷ []) ≡ map f xs ++ f x ∷ []
map_then f [] x = refl
map_then f (y ∷ xs) x = ap (λ l. f y ∷ l) (map_then f xs x)

pub environ_next : (first now next : List Array) (n : ℕ) (environ : List Assignment) (i : ℕ) (e : Assignment) (key text : List ℕ) → n < length first → i < length environ → e ≡ get_or environ i e → key ≡ e.name.items → text ≡ e.text.items
    → now ≡ set first n (environ_from (array_of first n) (map pair_of (take i environ))) → next ≡ set now n (with_pair (array_of now n) key (Input text))
    → next ≡ set first n (environ_from (array_of first n) (map pair_of (take (i + 1) environ)))
environ_next first now next n environ i e key text low within at key_is text_is before put =
    let a = environ_from (array_of first n) (map pair_of (take i environ)) in
    put
    ∙ (ap (λ l. set l n (with_pair (array_of l n) key (Input text))) before
    ∙ (set_set first n a (with_pair (array_of (set first n a) n) key (Input text))
    ∙ ap (set first n)
    (ap (λ x. with_pair x key (Input text)) (array_set first n a low)
    ∙ (ap (λ k. with_pair a k (Input text)) key_is
    ∙ (ap (λ t. with_pair a e.name.items (Input t)) text_is
    ∙ (sym (environ_then (array_of first n) (map pair_of (take i environ)) (pair_of e))
    ∙ ap (environ_from (array_of first n)) (sym (map_then pair_of (take i environ) e) ∙ ap (map pair_of) (sym (take_more environ i e within ∙ ap (λ x. take i environ ++ x ∷ []) (sym at))))))))))

-- arrays that are added

set_last : {X : Type 0} (xs : List X) (x y : X) → set (xs ++ x ∷ []) (length xs) y ≡ xs ++ y ∷ []
set_last [] x y = refl
set_last (z ∷ xs) x y = ap (λ l. z ∷ l) (set_last xs x y)

get_last : (xs : List Array) (x : Array) → array_of (xs ++ x ∷ []) (length xs) ≡ x
get_last [] x = refl
get_last (z ∷ xs) x = get_last xs x

pub last_low : (xs : List Array) (n : ℕ) {ys : List Array} → ys ≡ xs ++ [] ∷ [] → n ≡ length xs → n < length ys
last_low xs n e is = omega (arith, ap length e, length-append xs ([] ∷ []), is)

module _ (old added : List Array) (n : ℕ) (is : added ≡ old ++ [] ∷ []) (last : n ≡ length old) (start : StartValues) (name : List ℕ) where
  argv_first : bytes_eq name (codes "ARGV") ≡ true → first_array start name ≡ argv_of start.operands
  argv_first e = ap (λ b. if b then argv_of start.operands else (if bytes_eq name (codes "ENVIRON") then environ_from [] start.environ else [])) e

  pub argv_added : bytes_eq name (codes "ARGV") ≡ true → {texts : List (List ℕ)} → texts ≡ codes "awk" ∷ start.operands → {new : List Array} → new ≡ set added n (elements_from 0 texts) → new ≡ old ++ first_array start name ∷ []
  argv_added e {texts = texts} texts_are made =
      made ∙ (ap (λ l. set l n (elements_from 0 texts)) is ∙ (ap (λ k. set (old ++ [] ∷ []) k (elements_from 0 texts)) last ∙ (set_last old [] (elements_from 0 texts)
      ∙ ap (λ a. old ++ a ∷ []) (ap (elements_from 0) texts_are ∙ sym (argv_first e)))))

  environ_first : bytes_eq name (codes "ARGV") ≡ false → (b : Bool) → bytes_eq name (codes "ENVIRON") ≡ b → first_array start name ≡ (if b then environ_from [] start.environ else [])
  environ_first e b f = ap (λ b. if b then argv_of start.operands else (if bytes_eq name (codes "ENVIRON") then environ_from [] start.environ else [])) e ∙ ap (λ c. if c then environ_from [] start.environ else []) f

  pub environ_added : bytes_eq name (codes "ARGV") ≡ false → bytes_eq name (codes "ENVIRON") ≡ true → {new : List Array} → new ≡ set added n (environ_from (array_of added n) start.environ) → new ≡ old ++ first_array start name ∷ []
  environ_added e f made =
      made ∙ (ap (λ l. set l n (environ_from (array_of l n) start.environ)) is ∙ (ap (λ k. set (old ++ [] ∷ []) k (environ_from (array_of (old ++ [] ∷ []) k) start.environ)) last
      ∙ (ap (λ a. set (old ++ [] ∷ []) (length old) (environ_from a start.environ)) (get_last old []) ∙ (set_last old [] (environ_from [] start.environ)
      ∙ ap (λ a. old ++ a ∷ []) (sym (environ_first e true f))))))

  pub empty_added : bytes_eq name (codes "ARGV") ≡ false → bytes_eq name (codes "ENVIRON") ≡ false → added ≡ old ++ first_array start name ∷ []
  empty_added e f = is ∙ ap (λ a. old ++ a ∷ []) (sym (environ_first e false f))

pub where_ok : {A E : Type 0} (r : Result A E) {P Q : Type 0} → (P → Q) → OnOk r P → OnOk r Q
where_ok (Ok a) f p = f p
where_ok (Err e) f p = tt

-- all of them

arrays_then : (start : StartValues) (xs : List (List ℕ)) (x : List ℕ) → first_arrays start (xs ++ x ∷ []) ≡ first_arrays start xs ++ first_array start x ∷ []
arrays_then start [] x = refl
arrays_then start (y ∷ xs) x = ap (λ l. first_array start y ∷ l) (arrays_then start xs x)

take_then : (xs : List (List ℕ)) (i : ℕ) (x : List ℕ) → Some x ≡ slice_get xs i → take (i + 1) xs ≡ take i xs ++ x ∷ []
take_then [] i x e = absurd (cc)
take_then (y ∷ xs) zero x e = let same : x ≡ y = cc in ap (λ z. z ∷ []) (sym same)
take_then (y ∷ xs) (suc i) x e =
    let one : suc i + 1 ≡ suc (i + 1) = omega arith in
    ap (λ k. take k (y ∷ xs)) one ∙ ap (λ l. y ∷ l) (take_then xs i x e)

pub arrays_next : (start : StartValues) (names : List (List ℕ)) (i : ℕ) (name : List ℕ) {now next : List Array} → Some name ≡ slice_get names i → now ≡ first_arrays start (take i names) → next ≡ now ++ first_array start name ∷ [] → next ≡ first_arrays start (take (i + 1) names)
arrays_next start names i name there before added =
    added ∙ (ap (λ l. l ++ first_array start name ∷ []) before ∙ (sym (arrays_then start (take i names) name) ∙ ap (first_arrays start) (sym (take_then names i name there))))

pub name_there : (names : List (List ℕ)) (i : ℕ) → i < length names → None ≡ slice_get names i → ⊥
name_there names i low none = let some : slice_get names i ≡ Some (get_or names i []) = slice_get-get_or names i [] low in cc
