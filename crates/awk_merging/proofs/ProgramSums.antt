-- The sums of a program have names of their own, and none that is taken or a variable of the record.
use Rattle.std.proofs.Common.{◌≡◌, inl, inr, ℕ, Bool, true, false, ◌||◌, List, [], ◌∷◌, ◌++◌, refl, sym, subst, bytes_eq, cond}
use Rattle.std.proofs.lemmas.Bool.{cases_Bool, cond-true, cond-false}
use Rattle.awk_grammar.specs.Tree.{Expr, Name, Element, PreIncrement, PostIncrement, Assign, SimpleStatement, Expression, OptionalSimple, NoSimple, ASimple, Statement, Simple, Block, If, IfElse, While, Do, For, Statements, NoMore, Then, Item, Action, PatternAction}
use Rattle.awk_merging.specs.definitions.Sums.{Sum, ByKey, Alone, name_of_sum, is_taken}
use Rattle.awk_merging.specs.definitions.LawOfReading.{IsUnnamed, IsAmong}
use Rattle.awk_merging.specs.definitions.Mergeable.{is_plus, is_plus_one, own_in, sum_of_place, sum_added_to, sum_in_simple, sum_in_part, sums_in, sums_in_all, sums_in_item, sums_in_items, without_name, each_once, sums_of_program}
use Rattle.awk_merging.specs.definitions.LawOfDerived.{IsOneOf}
use Rattle.awk_merging.proofs.Gathering.{apart_turned}

-- names of their own

abbrev pub AreApart : List Sum → Type 0
AreApart [] = Unit {0}
AreApart (x ∷ xs) = IsUnnamed (name_of_sum x) xs × AreApart xs

-- what is left without a name
module _ (name : List ℕ) where
  unnamed_left : (xs : List Sum) → IsUnnamed name (without_name name xs)
  unnamed_left [] = tt
  unnamed_left (x ∷ xs) = elim (cases_Bool (bytes_eq name (name_of_sum x))) [
    | inl same ↦ subst (λ (l : List Sum). IsUnnamed name l) (sym (cond-true _ _ _ same)) (unnamed_left xs)
    | inr other ↦ subst (λ (l : List Sum). IsUnnamed name l) (sym (cond-false _ _ _ other)) (other, unnamed_left xs)
  ]

  still_unnamed : (other : List ℕ) (xs : List Sum) → IsUnnamed other xs → IsUnnamed other (without_name name xs)
  still_unnamed other [] unnamed = tt
  still_unnamed other (x ∷ xs) unnamed = elim (cases_Bool (bytes_eq name (name_of_sum x))) [
    | inl same ↦ subst (λ (l : List Sum). IsUnnamed other l) (sym (cond-true _ _ _ same)) (still_unnamed other xs unnamed.1)
    | inr apart ↦ subst (λ (l : List Sum). IsUnnamed other l) (sym (cond-false _ _ _ apart)) (unnamed.0, still_unnamed other xs unnamed.1)
  ]

  still_apart : (xs : List Sum) → AreApart xs → AreApart (without_name name xs)
  still_apart [] apart = tt
  still_apart (x ∷ xs) apart = elim (cases_Bool (bytes_eq name (name_of_sum x))) [
    | inl same ↦ subst (λ (l : List Sum). AreApart l) (sym (cond-true _ _ _ same)) (still_apart xs apart.1)
    | inr other ↦ subst (λ (l : List Sum). AreApart l) (sym (cond-false _ _ _ other)) (still_unnamed (name_of_sum x) xs apart.0, still_apart xs apart.1)
  ]

apart_once : (xs : List Sum) → AreApart (each_once xs)
apart_once [] = tt
apart_once (x ∷ xs) = (unnamed_left (name_of_sum x) (each_once xs), still_apart (name_of_sum x) (each_once xs) (apart_once xs))

pub one_unnamed : (name : List ℕ) (x : Sum) (xs : List Sum) → IsUnnamed name xs → IsOneOf x xs → bytes_eq name (name_of_sum x) ≡ false
one_unnamed name x [] unnamed is = absurd is
one_unnamed name x (y ∷ ys) unnamed (inl is) = subst (λ (z : Sum). bytes_eq name (name_of_sum z) ≡ false) (sym is) unnamed.0
one_unnamed name x (y ∷ ys) unnamed (inr later) = one_unnamed name x ys unnamed.1 later

pub is_among : (x : Sum) (xs : List Sum) → AreApart xs → IsOneOf x xs → IsAmong x xs
is_among x [] apart is = absurd is
is_among x (y ∷ ys) apart (inl is) = inl (is, subst (λ (z : Sum). IsUnnamed (name_of_sum z) ys) (sym is) apart.0)
is_among x (y ∷ ys) apart (inr later) = inr (apart_turned (name_of_sum y) (name_of_sum x) (one_unnamed (name_of_sum y) x ys apart.0 later), is_among x ys apart.1 later)

pub apart_sums : (items : List Item) → AreApart (sums_of_program items)
apart_sums items = apart_once (sums_in_items (own_in items) items)

-- none of these names

abbrev pub AreFree : (taken : List ℕ → Bool) → List Sum → Type 0
AreFree taken [] = Unit {0}
AreFree taken (x ∷ xs) = (taken (name_of_sum x) ≡ false) × AreFree taken xs

module _ (taken : List ℕ → Bool) where
  pub is_free : (x : Sum) (xs : List Sum) → AreFree taken xs → IsOneOf x xs → taken (name_of_sum x) ≡ false
  is_free x [] free is = absurd is
  is_free x (y ∷ ys) free (inl is) = subst (λ (z : Sum). taken (name_of_sum z) ≡ false) (sym is) free.0
  is_free x (y ∷ ys) free (inr later) = is_free x ys free.1 later

  free_append : (xs ys : List Sum) → AreFree taken xs → AreFree taken ys → AreFree taken (xs ++ ys)
  free_append [] ys a b = b
  free_append (x ∷ xs) ys a b = (a.0, free_append xs ys a.1 b)

  free_left : (name : List ℕ) (xs : List Sum) → AreFree taken xs → AreFree taken (without_name name xs)
  free_left name [] free = tt
  free_left name (x ∷ xs) free = elim (cases_Bool (bytes_eq name (name_of_sum x))) [
    | inl same ↦ subst (λ (l : List Sum). AreFree taken l) (sym (cond-true _ _ _ same)) (free_left name xs free.1)
    | inr other ↦ subst (λ (l : List Sum). AreFree taken l) (sym (cond-false _ _ _ other)) (free.0, free_left name xs free.1)
  ]

  free_once : (xs : List Sum) → AreFree taken xs → AreFree taken (each_once xs)
  free_once [] free = tt
  free_once (x ∷ xs) free = (free.0, free_left (name_of_sum x) (each_once xs) (free_once xs free.1))

  one_free : (x : Sum) → AreFree taken (cond (taken (name_of_sum x)) [] (x ∷ []))
  one_free x = elim (cases_Bool (taken (name_of_sum x))) [
    | inl is ↦ subst (λ (l : List Sum). AreFree taken l) (sym (cond-true _ _ _ is)) tt
    | inr free ↦ subst (λ (l : List Sum). AreFree taken l) (sym (cond-false _ _ _ free)) (free, tt)
  ]

pub no_left : (a b : Bool) → (a || b) ≡ false → a ≡ false
no_left true b e = e
no_left false b e = refl

no_right : (a b : Bool) → (a || b) ≡ false → b ≡ false
no_right true b e = cc
no_right false b e = e

-- those that are taken, and the variables of the record
module _ (own : List ℕ → Bool) where
  abbrev either : List ℕ → Bool
  either x = is_taken x || own x

  free_place : (place : Expr) → AreFree either (sum_of_place own place)
  free_place (Element a es) = one_free either (ByKey a)
  free_place (Name x) = one_free either (Alone x)
  free_place e = tt

  if_added : (b : Bool) (place : Expr) → AreFree either (cond b (sum_of_place own place) [])
  if_added true place = free_place place
  if_added false place = tt

  free_added : (e : Expr) → AreFree either (sum_added_to own e)
  free_added (Assign operator place e) = if_added (is_plus operator) place
  free_added (PreIncrement operator place) = if_added (is_plus_one operator) place
  free_added (PostIncrement operator place) = if_added (is_plus_one operator) place
  free_added e = tt

  free_simple : (simple : SimpleStatement) → AreFree either (sum_in_simple own simple)
  free_simple (Expression e) = free_added e
  free_simple simple = tt

  free_part : (part : OptionalSimple) → AreFree either (sum_in_part own part)
  free_part NoSimple = tt
  free_part (ASimple simple) = free_simple simple

  mutual
    free_in : (s : Statement) → AreFree either (sums_in own s)
    free_in (Simple simple) = free_simple simple
    free_in (Block all) = free_in_all all
    free_in (If c s) = free_in s
    free_in (IfElse c s other) = free_append either (sums_in own s) (sums_in own other) (free_in s) (free_in other)
    free_in (While c s) = free_in s
    free_in (Do s c) = free_in s
    free_in (For first c last s) =
        free_append either (sum_in_part own first) (sum_in_part own last ++ sums_in own s) (free_part first)
        (free_append either (sum_in_part own last) (sums_in own s) (free_part last) (free_in s))
    free_in s = tt

    free_in_all : (all : Statements) → AreFree either (sums_in_all own all)
    free_in_all NoMore = tt
    free_in_all (Then s all) = free_append either (sums_in own s) (sums_in_all own all) (free_in s) (free_in_all all)

  free_item : (x : Item) → AreFree either (sums_in_item own x)
  free_item (Action block) = free_in_all block
  free_item (PatternAction p block) = free_in_all block
  free_item x = tt

  free_items : (xs : List Item) → AreFree either (sums_in_items own xs)
  free_items [] = tt
  free_items (x ∷ xs) = free_append either (sums_in_item own x) (sums_in_items own xs) (free_item x) (free_items xs)

  not_taken : (xs : List Sum) → AreFree either xs → AreFree is_taken xs
  not_taken [] free = tt
  not_taken (x ∷ xs) free = (no_left (is_taken (name_of_sum x)) (own (name_of_sum x)) free.0, not_taken xs free.1)

  not_own : (xs : List Sum) → AreFree either xs → AreFree own xs
  not_own [] free = tt
  not_own (x ∷ xs) free = (no_right (is_taken (name_of_sum x)) (own (name_of_sum x)) free.0, not_own xs free.1)

abbrev pub AreProper : List Sum → Type 0
AreProper xs = AreFree is_taken xs

pub proper_sums : (items : List Item) → AreProper (sums_of_program items)
proper_sums items = not_taken (own_in items) (sums_of_program items) (free_once (either (own_in items)) (sums_in_items (own_in items) items) (free_items (own_in items) items))

pub own_sums : (items : List Item) → AreFree (own_in items) (sums_of_program items)
own_sums items = not_own (own_in items) (sums_of_program items) (free_once (either (own_in items)) (sums_in_items (own_in items) items) (free_items (own_in items) items))

pub is_proper : (x : Sum) (xs : List Sum) → AreProper xs → IsOneOf x xs → is_taken (name_of_sum x) ≡ false
is_proper x xs proper is = is_free is_taken x xs proper is
