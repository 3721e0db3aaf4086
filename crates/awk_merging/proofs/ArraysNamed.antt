-- The names of arrays of a program that sums up, and of the two that are derived of it: those of its sums, and awk's own.
use Rattle.std.proofs.Common.{◌≡◌, ◌⊎◌, inl, inr, ℕ, Bool, true, false, ◌||◌, List, [], ◌∷◌, ◌++◌, refl, sym, ap, ◌∙◌, subst, bytes_eq, cond}
use Rattle.std.proofs.lemmas.Bool.{cases_Bool, or_cases, cond-true, cond-false}
use Rattle.awk_kinds.specs.declared.variable.Variable.{Variable}
use Rattle.awk_kinds.specs.declared.variable.Variable.TheVariants.{Global, Parameter}
use Rattle.awk_kinds.specs.declared.uses.ArrayUse.{ArrayUse}
use Rattle.awk_kinds.specs.declared.uses.ArrayUse.TheVariants.{Used, Passed}
use Rattle.awk_kinds.specs.Names.{has_name}
use Rattle.awk_kinds.specs.definitions.SpecialNames.{special_arrays}
use Rattle.awk_kinds.specs.definitions.Kinds.{uses_in_expr, uses_in_list, uses_in_simple, uses_in_optional_expr, uses_in_optional_simple, uses_in_statement, uses_in_block, uses_in_pattern, outside_functions, uses_in_item, uses_in, is_member, told_by, all_told_by, arrays_of, array_names_of, IsClosed}
use Rattle.awk_kinds.proofs.ArrayNames.{array_names_are}
use Rattle.awk_kinds.proofs.ArraysHeld.{in_either, in_left, in_right, one_answer}
use Rattle.awk_kinds.proofs.LeastArrays.{is_least}
use Rattle.awk_grammar.specs.Tree.{Expr, Name, Element, PreIncrement, PostIncrement, Assign, SimpleStatement, Expression, OptionalSimple, NoSimple, ASimple, Statement, Simple, Block, If, IfElse, While, Do, For, Statements, NoMore, Then, Item, Begin, End, Action, PatternAction, PatternOnly, Function}
use Rattle.awk_merging.specs.definitions.Sums.{Sum, ByKey, Alone, name_of_sum, is_taken, print_sum, print_sums, read_sum, read_sums, reading_rules}
use Rattle.awk_merging.specs.definitions.LawOfDerived.{IsOneOf}
use Rattle.awk_merging.specs.definitions.Mergeable.{is_plus, is_plus_one, own_in, sum_of_place, sum_added_to, sum_in_simple, sum_in_part, sums_in, sums_in_all, sums_in_item, sums_in_items, without_name, each_once, sums_of_program, is_array_sum, IsMergeable}
use Rattle.awk_merging.specs.definitions.Derived.{without_ends, begins_of, ends_of, each_of, all_of}
use Rattle.awk_merging.proofs.Gathering.{same_key, own_key}
use Rattle.awk_merging.proofs.ArrayUses.{AreSummed, summed_append, first_of, rest_of, items_summed, uses_joined}
use Rattle.awk_merging.proofs.Sound.{one_array, array_of_one, or_left, or_right}

-- a use of the array

abbrev HasUse : List ArrayUse → List ℕ → Type 0
HasUse [] a = ⊥
HasUse (Used v ∷ us) a = (v ≡ Global a) ⊎ HasUse us a
HasUse (Passed v f n ∷ us) a = HasUse us a

use_left : (us vs : List ArrayUse) (a : List ℕ) → HasUse us a → HasUse (us ++ vs) a
use_left [] vs a has = absurd has
use_left (Used v ∷ us) vs a (inl is) = inl is
use_left (Used v ∷ us) vs a (inr later) = inr (use_left us vs a later)
use_left (Passed v f n ∷ us) vs a has = use_left us vs a has

use_right : (us vs : List ArrayUse) (a : List ℕ) → HasUse vs a → HasUse (us ++ vs) a
use_right [] vs a has = has
use_right (Used v ∷ us) vs a has = inr (use_right us vs a has)
use_right (Passed v f n ∷ us) vs a has = use_right us vs a has

use_parts : (us vs : List ArrayUse) (a : List ℕ) → HasUse (us ++ vs) a → HasUse us a ⊎ HasUse vs a
use_parts [] vs a has = inr has
use_parts (Used v ∷ us) vs a (inl is) = inl (inl is)
use_parts (Used v ∷ us) vs a (inr later) = elim (use_parts us vs a later) [ inl here ↦ inl (inr here) | inr there ↦ inr there ]
use_parts (Passed v f n ∷ us) vs a has = use_parts us vs a has

one_either : (x : Sum) (xs ys : List Sum) → IsOneOf x (xs ++ ys) → IsOneOf x xs ⊎ IsOneOf x ys
one_either x [] ys is = inr is
one_either x (z ∷ xs) ys (inl same) = inl (inl same)
one_either x (z ∷ xs) ys (inr later) = elim (one_either x xs ys later) [ inl here ↦ inl (inr here) | inr there ↦ inr there ]

one_without : (x : Sum) (name : List ℕ) (xs : List Sum) → IsOneOf x (without_name name xs) → IsOneOf x xs
one_without x name [] is = absurd is
one_without x name (y ∷ ys) is = elim (cases_Bool (bytes_eq name (name_of_sum y))) [
  | inl same ↦ inr (one_without x name ys (subst (λ (l : List Sum). IsOneOf x l) (cond-true _ _ _ same) is))
  | inr apart ↦ elim (subst (λ (l : List Sum). IsOneOf x l) (cond-false _ _ _ apart) is) [ inl first ↦ inl first | inr later ↦ inr (one_without x name ys later) ]
]

one_once : (x : Sum) (xs : List Sum) → IsOneOf x (each_once xs) → IsOneOf x xs
one_once x [] is = absurd is
one_once x (y ∷ ys) (inl same) = inl same
one_once x (y ∷ ys) (inr later) = inr (one_once x ys (one_without x (name_of_sum y) (each_once ys) later))

-- the rules use the arrays of their sums

module _ (mine : List ℕ → Bool) (a : List ℕ) where
  abbrev IsSummedIn : List Sum → Type 0
  IsSummedIn xs = IsOneOf (ByKey a) xs

  named_so : (b : List ℕ) → ByKey a ≡ ByKey b → Global b ≡ Global a
  named_so b same = let e : a ≡ b = cc in ap (λ (x : List ℕ). Global x) (sym e)

  element_used : (taken : Bool) (b : List ℕ) (us : List ArrayUse) → IsSummedIn (cond taken [] (ByKey b ∷ [])) → HasUse (Used (Global b) ∷ us) a
  element_used true b us is = absurd is
  element_used false b us (inl same) = inl (named_so b same)
  element_used false b us (inr none) = absurd none

  no_variable : (taken : Bool) (x : List ℕ) → IsSummedIn (cond taken [] (Alone x ∷ [])) → ⊥
  no_variable true x is = is
  no_variable false x (inl same) = cc
  no_variable false x (inr none) = none

  place_used : (place : Expr) → IsSummedIn (sum_of_place mine place) → HasUse (uses_in_expr outside_functions place) a
  place_used (Element b es) is = element_used (is_taken b || mine b) b (uses_in_list outside_functions es) is
  place_used (Name x) is = absurd (no_variable (is_taken x || mine x) x is)
  place_used e is = absurd is

  if_used : (b : Bool) (place : Expr) → IsSummedIn (cond b (sum_of_place mine place) []) → HasUse (uses_in_expr outside_functions place) a
  if_used true place is = place_used place is
  if_used false place is = absurd is

  added_used : (e : Expr) → IsSummedIn (sum_added_to mine e) → HasUse (uses_in_expr outside_functions e) a
  added_used (Assign operator place e) is = use_left (uses_in_expr outside_functions place) (uses_in_expr outside_functions e) a (if_used (is_plus operator) place is)
  added_used (PreIncrement operator place) is = if_used (is_plus_one operator) place is
  added_used (PostIncrement operator place) is = if_used (is_plus_one operator) place is
  added_used e is = absurd is

  simple_used : (simple : SimpleStatement) → IsSummedIn (sum_in_simple mine simple) → HasUse (uses_in_simple outside_functions simple) a
  simple_used (Expression e) is = added_used e is
  simple_used simple is = absurd is

  part_used : (part : OptionalSimple) → IsSummedIn (sum_in_part mine part) → HasUse (uses_in_optional_simple outside_functions part) a
  part_used NoSimple is = absurd is
  part_used (ASimple simple) is = simple_used simple is

  mutual
    rule_used : (s : Statement) → IsSummedIn (sums_in mine s) → HasUse (uses_in_statement outside_functions s) a
    rule_used (Simple simple) is = simple_used simple is
    rule_used (Block all) is = rules_used all is
    rule_used (If c s) is = use_right (uses_in_expr outside_functions c) (uses_in_statement outside_functions s) a (rule_used s is)
    rule_used (IfElse c s other) is =
        let here : List ArrayUse = uses_in_statement outside_functions s in
        let there : List ArrayUse = uses_in_statement outside_functions other in
        use_right (uses_in_expr outside_functions c) (here ++ there) a (elim (one_either (ByKey a) (sums_in mine s) (sums_in mine other) is) [ inl one ↦ use_left here there a (rule_used s one) | inr one ↦ use_right here there a (rule_used other one) ])
    rule_used (While c s) is = use_right (uses_in_expr outside_functions c) (uses_in_statement outside_functions s) a (rule_used s is)
    rule_used (Do s c) is = use_left (uses_in_statement outside_functions s) (uses_in_expr outside_functions c) a (rule_used s is)
    rule_used (For first c last s) is =
        let one : List ArrayUse = uses_in_optional_simple outside_functions first in
        let two : List ArrayUse = uses_in_optional_expr outside_functions c in
        let three : List ArrayUse = uses_in_optional_simple outside_functions last in
        let body : List ArrayUse = uses_in_statement outside_functions s in
        elim (one_either (ByKey a) (sum_in_part mine first) (sum_in_part mine last ++ sums_in mine s) is) [
          | inl here ↦ use_left one (two ++ (three ++ body)) a (part_used first here)
          | inr rest ↦ use_right one (two ++ (three ++ body)) a (use_right two (three ++ body) a (elim (one_either (ByKey a) (sum_in_part mine last) (sums_in mine s) rest) [
            | inl there ↦ use_left three body a (part_used last there)
            | inr inside ↦ use_right three body a (rule_used s inside)
          ]))
        ]
    rule_used s is = absurd is

    rules_used : (all : Statements) → IsSummedIn (sums_in_all mine all) → HasUse (uses_in_block outside_functions all) a
    rules_used NoMore is = absurd is
    rules_used (Then s all) is =
        let here : List ArrayUse = uses_in_statement outside_functions s in
        let there : List ArrayUse = uses_in_block outside_functions all in
        elim (one_either (ByKey a) (sums_in mine s) (sums_in_all mine all) is) [ inl one ↦ use_left here there a (rule_used s one) | inr one ↦ use_right here there a (rules_used all one) ]

  item_used : (x : Item) → IsSummedIn (sums_in_item mine x) → HasUse (uses_in_item x) a
  item_used (Action block) is = rules_used block is
  item_used (PatternAction p block) is = use_right (uses_in_pattern outside_functions p) (uses_in_block outside_functions block) a (rules_used block is)
  item_used x is = absurd is

  items_used : (items : List Item) → IsSummedIn (sums_in_items mine items) → HasUse (uses_in items) a
  items_used [] is = absurd is
  items_used (x ∷ items) is = elim (one_either (ByKey a) (sums_in_item mine x) (sums_in_items mine items) is) [
    | inl one ↦ use_left (uses_in_item x) (uses_in items) a (item_used x one)
    | inr one ↦ use_right (uses_in_item x) (uses_in items) a (items_used items one)
  ]

  -- the derived programs use them too

  use_behind : (ys zs : List Item) → HasUse (uses_in zs) a → HasUse (uses_in (ys ++ zs)) a
  use_behind [] zs has = has
  use_behind (y ∷ ys) zs has = use_right (uses_in_item y) (uses_in (ys ++ zs)) a (use_behind ys zs has)

  use_before : (ys zs : List Item) → HasUse (uses_in ys) a → HasUse (uses_in (ys ++ zs)) a
  use_before [] zs has = absurd has
  use_before (y ∷ ys) zs has = elim (use_parts (uses_in_item y) (uses_in ys) a has) [
    | inl here ↦ use_left (uses_in_item y) (uses_in (ys ++ zs)) a here
    | inr there ↦ use_right (uses_in_item y) (uses_in (ys ++ zs)) a (use_before ys zs there)
  ]

  print_used : (zs : List Sum) → IsSummedIn zs → HasUse (uses_in_block outside_functions (print_sums zs)) a
  print_used [] is = absurd is
  print_used (ByKey b ∷ zs) (inl same) = inl (named_so b same)
  print_used (Alone x ∷ zs) (inl same) = cc
  print_used (z ∷ zs) (inr later) = use_right (uses_in_statement outside_functions (print_sum z)) (uses_in_block outside_functions (print_sums zs)) a (print_used zs later)

  read_used : (zs : List Sum) → IsSummedIn zs → HasUse (uses_in (read_sums zs)) a
  read_used [] is = absurd is
  read_used (ByKey b ∷ zs) (inl same) = inl (named_so b same)
  read_used (Alone x ∷ zs) (inl same) = cc
  read_used (z ∷ zs) (inr later) = use_right (uses_in_item (read_sum z)) (uses_in (read_sums zs)) a (read_used zs later)

-- what the derived programs use is summed

module _ (xs : List Sum) where
  abbrev Fine : List Item → Type 0
  Fine items = AreSummed xs (uses_in items)

  one_more : (x : Item) (items : List Item) → AreSummed xs (uses_in_item x) → Fine items → Fine (x ∷ items)
  one_more x items a b = summed_append xs (uses_in_item x) (uses_in items) a b

  without_fine : (items : List Item) → Fine items → Fine (without_ends items)
  without_fine [] all = tt
  without_fine (End block ∷ items) all = without_fine items (rest_of xs (uses_in_block outside_functions block) (uses_in items) all)
  without_fine (Begin block ∷ items) all = one_more (Begin block) (without_ends items) (first_of xs _ (uses_in items) all) (without_fine items (rest_of xs (uses_in_item (Begin block)) (uses_in items) all))
  without_fine (Action block ∷ items) all = one_more (Action block) (without_ends items) (first_of xs _ (uses_in items) all) (without_fine items (rest_of xs (uses_in_item (Action block)) (uses_in items) all))
  without_fine (PatternAction p block ∷ items) all = one_more (PatternAction p block) (without_ends items) (first_of xs _ (uses_in items) all) (without_fine items (rest_of xs (uses_in_item (PatternAction p block)) (uses_in items) all))
  without_fine (PatternOnly p ∷ items) all = one_more (PatternOnly p) (without_ends items) (first_of xs _ (uses_in items) all) (without_fine items (rest_of xs (uses_in_item (PatternOnly p)) (uses_in items) all))
  without_fine (Function f parameters block ∷ items) all = one_more (Function f parameters block) (without_ends items) (first_of xs _ (uses_in items) all) (without_fine items (rest_of xs (uses_in_item (Function f parameters block)) (uses_in items) all))

  begins_fine : (items : List Item) → Fine items → Fine (begins_of items)
  begins_fine [] all = tt
  begins_fine (Begin block ∷ items) all = one_more (Begin block) (begins_of items) (first_of xs _ (uses_in items) all) (begins_fine items (rest_of xs (uses_in_item (Begin block)) (uses_in items) all))
  begins_fine (End block ∷ items) all = begins_fine items (rest_of xs (uses_in_item (End block)) (uses_in items) all)
  begins_fine (Action block ∷ items) all = begins_fine items (rest_of xs (uses_in_item (Action block)) (uses_in items) all)
  begins_fine (PatternAction p block ∷ items) all = begins_fine items (rest_of xs (uses_in_item (PatternAction p block)) (uses_in items) all)
  begins_fine (PatternOnly p ∷ items) all = begins_fine items (rest_of xs (uses_in_item (PatternOnly p)) (uses_in items) all)
  begins_fine (Function f parameters block ∷ items) all = begins_fine items (rest_of xs (uses_in_item (Function f parameters block)) (uses_in items) all)

  ends_fine : (items : List Item) → Fine items → Fine (ends_of items)
  ends_fine [] all = tt
  ends_fine (End block ∷ items) all = one_more (End block) (ends_of items) (first_of xs _ (uses_in items) all) (ends_fine items (rest_of xs (uses_in_item (End block)) (uses_in items) all))
  ends_fine (Begin block ∷ items) all = ends_fine items (rest_of xs (uses_in_item (Begin block)) (uses_in items) all)
  ends_fine (Action block ∷ items) all = ends_fine items (rest_of xs (uses_in_item (Action block)) (uses_in items) all)
  ends_fine (PatternAction p block ∷ items) all = ends_fine items (rest_of xs (uses_in_item (PatternAction p block)) (uses_in items) all)
  ends_fine (PatternOnly p ∷ items) all = ends_fine items (rest_of xs (uses_in_item (PatternOnly p)) (uses_in items) all)
  ends_fine (Function f parameters block ∷ items) all = ends_fine items (rest_of xs (uses_in_item (Function f parameters block)) (uses_in items) all)

  print_fine : (zs : List Sum) → ((a : List ℕ) → IsOneOf (ByKey a) zs → is_array_sum xs a ≡ true) → AreSummed xs (uses_in_block outside_functions (print_sums zs))
  print_fine [] are = tt
  print_fine (ByKey a ∷ zs) are = (are a (inl refl), (are a (inl refl), print_fine zs (λ b is. are b (inr is))))
  print_fine (Alone x ∷ zs) are = print_fine zs (λ b is. are b (inr is))

  read_fine : (zs : List Sum) → ((a : List ℕ) → IsOneOf (ByKey a) zs → is_array_sum xs a ≡ true) → Fine (read_sums zs)
  read_fine [] are = tt
  read_fine (ByKey a ∷ zs) are = (are a (inl refl), read_fine zs (λ b is. are b (inr is)))
  read_fine (Alone x ∷ zs) are = read_fine zs (λ b is. are b (inr is))

-- names

abbrev is_named : List Sum → Variable → Bool
is_named xs (Global x) = has_name special_arrays x || is_array_sum xs x
is_named xs (Parameter f x) = true

own_named : (xs : List Sum) (x : List ℕ) → is_array_sum xs x ≡ true → (v : Variable) → is_member (Global x ∷ []) v ≡ true → is_named xs v ≡ true
own_named xs x is (Global y) here = elim (or_cases (bytes_eq y x) false here) [
  | inl same ↦ or_right _ _ (ap (is_array_sum xs) (same_key y x same) ∙ is)
  | inr none ↦ cc
]
own_named xs x is (Parameter f y) here = refl

told_named : (xs : List Sum) (items : List Item) (known : List Variable) (us : List ArrayUse) → AreSummed xs us → (v : Variable) → is_member (all_told_by items known us) v ≡ true → is_named xs v ≡ true
told_named xs items known [] all v is = cc
told_named xs items known (Used (Global x) ∷ us) all v is = elim (in_either (Global x ∷ []) (all_told_by items known us) v is) [
  | inl here ↦ own_named xs x all.0 v here
  | inr there ↦ told_named xs items known us all.1 v there
]
told_named xs items known (Used (Parameter f x) ∷ us) all v is = absurd all.0
told_named xs items known (Passed w f n ∷ us) all v is = absurd all

own_told : (items : List Item) (known : List Variable) (us : List ArrayUse) (a : List ℕ) → HasUse us a → is_member (all_told_by items known us) (Global a) ≡ true
own_told items known [] a has = absurd has
own_told items known (Used v ∷ us) a (inl is) = in_left (v ∷ []) (all_told_by items known us) (Global a) (subst (λ (w : Variable). is_member (w ∷ []) (Global a) ≡ true) (sym is) (or_left _ _ (own_key a)))
own_told items known (Used v ∷ us) a (inr later) = in_right (v ∷ []) (all_told_by items known us) (Global a) (own_told items known us a later)
own_told items known (Passed v f n ∷ us) a has = in_right (told_by items known (Passed v f n)) (all_told_by items known us) (Global a) (own_told items known us a has)

module _ (xs : List Sum) (items : List Item) (all : AreSummed xs (uses_in items)) (used : (a : List ℕ) → IsOneOf (ByKey a) xs → HasUse (uses_in items) a) where
  named_closed : IsClosed items (λ v. is_named xs v ≡ true)
  named_closed = record { special = λ x e. or_left _ _ e; told = λ known known_are v e. told_named xs items known (uses_in items) all v e }

  array_is : (x : List ℕ) → is_array_sum xs x ≡ true → is_member (arrays_of items) (Global x) ≡ true
  array_is x is = (is_least items).closed.told [] (λ w none. absurd (cc)) (Global x) (own_told items [] (uses_in items) x (used x (one_array xs x is)))

  pub names_are : (x : List ℕ) → has_name (array_names_of items) x ≡ (has_name special_arrays x || is_array_sum xs x)
  names_are x =
      (array_names_are items).exactly x
      ∙ one_answer (is_member (arrays_of items) (Global x)) (has_name special_arrays x || is_array_sum xs x)
      (λ is. (is_least items).least (is_named xs) named_closed (Global x) is)
      (λ is. elim (or_cases (has_name special_arrays x) (is_array_sum xs x) is) [ inl special ↦ (is_least items).closed.special x special | inr summed ↦ array_is x summed ])

module _ (items : List Item) (mergeable : IsMergeable items) where
  abbrev own : List Sum
  own = sums_of_program items

  abbrev IsNamed : List Item → Type 0
  IsNamed program = (x : List ℕ) → has_name (array_names_of program) x ≡ (has_name special_arrays x || is_array_sum own x)

  own_summed : (a : List ℕ) → IsOneOf (ByKey a) own → is_array_sum own a ≡ true
  own_summed a is = array_of_one a own is

  abbrev mine : List ℕ → Bool
  mine = own_in items

  pub names_of_items : IsNamed items
  names_of_items = names_are own items (items_summed mine own items mergeable) (λ a is. items_used mine a items (one_once (ByKey a) (sums_in_items mine items) is))

  pub names_of_each : IsNamed (each_of items)
  names_of_each = names_are own (each_of items)
      (uses_joined mine own (without_ends items) (End (print_sums own) ∷ []) (without_fine own items (items_summed mine own items mergeable)) (summed_append own (uses_in_block outside_functions (print_sums own)) [] (print_fine own own own_summed) tt))
      (λ a is. use_behind mine a (without_ends items) (End (print_sums own) ∷ []) (use_left (uses_in_block outside_functions (print_sums own)) [] a (print_used mine a own is)))

  pub names_of_all : IsNamed (all_of items)
  names_of_all = names_are own (all_of items)
      (uses_joined mine own (begins_of items) (reading_rules own ++ ends_of items) (begins_fine own items (items_summed mine own items mergeable))
      (uses_joined mine own (reading_rules own) (ends_of items) (read_fine own own own_summed) (ends_fine own items (items_summed mine own items mergeable))))
      (λ a is. use_behind mine a (begins_of items) (reading_rules own ++ ends_of items) (use_before mine a (reading_rules own) (ends_of items) (read_used mine a own is)))
