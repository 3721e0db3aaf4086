-- The names of the arrays of a program.
use Rattle.std.proofs.Common.{◌≡◌, inl, inr, ℕ, Bool, true, false, ◌||◌, List, [], ◌∷◌, ◌++◌, map, filter, cond, slice_get, bytes_eq, if◌then◌else◌, refl, sym, ap, ◌∙◌, append_assoc}
use Rattle.std.proofs.Math.Bool.{or-false, or-true, or_assoc}
use Rattle.std.proofs.lemmas.List.{append-nil}
use Rattle.std.proofs.lemmas.List.Folds.{list_any-append}
use Rattle.std.proofs.lemmas.Bool.{or_cases, or_left, or_right}
use Rattle.std.proofs.lemmas.Slice.Eq.{bytes_eq-Decides}
use Rattle.awk_kinds.specs.definitions.Names.{has_name, with_name}
use Rattle.awk_grammar.specs.Tree.{Item}
use Rattle.awk_kinds.specs.declared.variable.Variable.{Variable}
use Rattle.awk_kinds.specs.declared.variable.Variable.TheVariants.{Global, Parameter}
use Rattle.awk_kinds.specs.declared.uses.ArrayUse.{ArrayUse}
use Rattle.awk_kinds.specs.declared.uses.ArrayUse.TheVariants.{Used, Passed}
use Rattle.awk_kinds.specs.definitions.SpecialNames.{special_arrays}
use Rattle.awk_kinds.specs.definitions.Kinds.{same_variable, uses_in, parameters_of, is_member, is_parameter_among, told_by, all_told_by, arrays_of, in_array_use, globals_among, array_names_of, IsClosed}
use Rattle.awk_kinds.specs.definitions.Fits.{has_repeat}
use Rattle.awk_kinds.specs.definitions.Signatures.{AreArrayNames}
use Rattle.awk_kinds.specs.support.SameVariable.{same_is}
use Rattle.awk_kinds.proofs.LeastArrays.{is_least}
use Rattle.awk_kinds.proofs.Defined.{has_repeat-push}
use Rattle.awk_kinds.proofs.ArraysHeld.{in_either, in_left, in_right, one_answer}

-- names that are put in

grown : (names : List (List ℕ)) (x : List ℕ) → (rest : List (List ℕ)) × (with_name names x ≡ names ++ rest)
grown names x = by (has_name names x)
  where
    by : (b : Bool) → (rest : List (List ℕ)) × ((if b then names else names ++ x ∷ []) ≡ names ++ rest)
    by true = ([], sym (append-nil names))
    by false = (x ∷ [], refl)

all_grown : (names : List (List ℕ)) (vs : List Variable) → (rest : List (List ℕ)) × (globals_among names vs ≡ names ++ rest)
all_grown names [] = ([], sym (append-nil names))
all_grown names (Global x ∷ vs) =
    let one = grown names x in
    let more = all_grown (with_name names x) vs in
    (one.0 ++ more.0, more.1 ∙ ap (λ l. l ++ more.0) one.1 ∙ append_assoc names one.0 more.0)
all_grown names (Parameter f x ∷ vs) = all_grown names vs

once_more : (names : List (List ℕ)) (x : List ℕ) → has_repeat names ≡ false → has_repeat (with_name names x) ≡ false
once_more names x e = by (has_name names x) refl
  where
    by : (b : Bool) → has_name names x ≡ b → has_repeat (if b then names else names ++ x ∷ []) ≡ false
    by true h = e
    by false h = has_repeat-push names x ∙ ap (λ b. b || has_name names x) e ∙ h

all_once : (names : List (List ℕ)) (vs : List Variable) → has_repeat names ≡ false → has_repeat (globals_among names vs) ≡ false
all_once names [] e = e
all_once names (Global x ∷ vs) e = all_once (with_name names x) vs (once_more names x e)
all_once names (Parameter f x ∷ vs) e = all_once names vs e

put_in : (names : List (List ℕ)) (y x : List ℕ) → has_name (with_name names y) x ≡ (has_name names x || bytes_eq x y)
put_in names y x = by (has_name names y) refl
  where
    there : has_name names y ≡ true → (c : Bool) → bytes_eq x y ≡ c → has_name names x ≡ (has_name names x || c)
    there e false h = sym (or-false (has_name names x))
    there e true h = ap (has_name names) ((bytes_eq-Decides x y).0 h) ∙ e ∙ sym (or-true (has_name names x))

    by : (b : Bool) → has_name names y ≡ b → has_name (if b then names else names ++ y ∷ []) x ≡ (has_name names x || bytes_eq x y)
    by true e = there e (bytes_eq x y) refl
    by false e = list_any-append (bytes_eq x) names (y ∷ []) ∙ ap (λ b. has_name names x || b) (or-false (bytes_eq x y))

all_put_in : (names : List (List ℕ)) (vs : List Variable) (x : List ℕ) → has_name (globals_among names vs) x ≡ (has_name names x || is_member vs (Global x))
all_put_in names [] x = sym (or-false (has_name names x))
all_put_in names (Global y ∷ vs) x = all_put_in (with_name names y) vs x ∙ ap (λ b. b || is_member vs (Global x)) (put_in names y x) ∙ or_assoc (has_name names x) (bytes_eq x y) (is_member vs (Global x))
all_put_in names (Parameter f y ∷ vs) x = all_put_in names vs x

-- what passes a test

filter_passes : (M : Variable → Bool) (vs : List Variable) (v : Variable) → is_member (filter M vs) v ≡ true → M v ≡ true
filter_passes M [] v e = let bad : false ≡ true = e in cc
filter_passes M (w ∷ vs) v e = by (M w) refl e (filter_passes M vs v)
  where
    by : (b : Bool) → M w ≡ b → is_member (cond b (w ∷ filter M vs) (filter M vs)) v ≡ true → (is_member (filter M vs) v ≡ true → M v ≡ true) → M v ≡ true
    by true h e rest = elim (or_cases (same_variable v w) (is_member (filter M vs) v) e) [ inl s ↦ ap M (same_is v w s) ∙ h | inr r ↦ rest r ]
    by false h e rest = rest e

passes_filter : (M : Variable → Bool) (vs : List Variable) (v : Variable) → is_member vs v ≡ true → M v ≡ true → is_member (filter M vs) v ≡ true
passes_filter M [] v e m = e
passes_filter M (w ∷ vs) v e m = elim (or_cases (same_variable v w) (is_member vs v) e) [
  | inl s ↦ ap (λ b. is_member (cond b (w ∷ filter M vs) (filter M vs)) v) (ap M (sym (same_is v w s)) ∙ m) ∙ or_left (same_variable v w) (is_member (filter M vs) v) s
  | inr r ↦ later (M w) (passes_filter M vs v r m)
]
  where
    later : (b : Bool) → is_member (filter M vs) v ≡ true → is_member (cond b (w ∷ filter M vs) (filter M vs)) v ≡ true
    later true h = or_right (same_variable v w) (is_member (filter M vs) v) h
    later false h = h

module _ (items : List Item) where
  -- what is told is a variable of a use
  told_used : (known : List Variable) (u : ArrayUse) (v : Variable) → is_member (told_by items known u) v ≡ true → is_member (in_array_use u ∷ []) v ≡ true
  told_used known (Used w) v e = e
  told_used known (Passed w f n) v e = by (is_parameter_among known f (slice_get (parameters_of items f) n)) e
    where
      by : (b : Bool) → is_member (if b then w ∷ [] else []) v ≡ true → is_member (w ∷ []) v ≡ true
      by true e = e
      by false e = let bad : false ≡ true = e in cc

  all_told_used : (known : List Variable) (us : List ArrayUse) (v : Variable) → is_member (all_told_by items known us) v ≡ true → is_member (map in_array_use us) v ≡ true
  all_told_used known [] v e = e
  all_told_used known (u ∷ us) v e = elim (in_either (told_by items known u) (all_told_by items known us) v e) [
    | inl l ↦ in_left (in_array_use u ∷ []) (map in_array_use us) v (told_used known u v l)
    | inr r ↦ in_right (in_array_use u ∷ []) (map in_array_use us) v (all_told_used known us v r)
  ]

  abbrev M : Variable → Bool
  M v = is_member (arrays_of items) v

  abbrev specials : List Variable
  specials = map (λ x. Global x) special_arrays

  -- the special variables, and the arrays among the variables of uses
  abbrev those : List Variable
  those = specials ++ filter M (map in_array_use (uses_in items))

  special_among : (xs : List (List ℕ)) (x : List ℕ) → is_member (map (λ y. Global y) xs) (Global x) ≡ has_name xs x
  special_among [] x = refl
  special_among (y ∷ xs) x = ap (λ b. bytes_eq x y || b) (special_among xs x)

  no_parameter_among : (xs : List (List ℕ)) (f x : List ℕ) → is_member (map (λ y. Global y) xs) (Parameter f x) ≡ false
  no_parameter_among [] f x = refl
  no_parameter_among (y ∷ xs) f x = no_parameter_among xs f x

  special_marked : (v : Variable) → is_member specials v ≡ true → M v ≡ true
  special_marked (Global x) e = (is_least items).closed.special x (sym (special_among special_arrays x) ∙ e)
  special_marked (Parameter f x) e = let bad : false ≡ true = sym (no_parameter_among special_arrays f x) ∙ e in cc

  those_marked : (v : Variable) → is_member those v ≡ true → M v ≡ true
  those_marked v e = elim (in_either specials (filter M (map in_array_use (uses_in items))) v e) [ inl l ↦ special_marked v l | inr r ↦ filter_passes M (map in_array_use (uses_in items)) v r ]

  those_closed : IsClosed items (λ v. is_member those v ≡ true)
  those_closed = record {
    special = λ x e. in_left specials (filter M (map in_array_use (uses_in items))) (Global x) (special_among special_arrays x ∙ e);
    told = λ known all v e. in_right specials (filter M (map in_array_use (uses_in items))) v
        (passes_filter M (map in_array_use (uses_in items)) v (all_told_used known (uses_in items) v e)
        ((is_least items).closed.told known (λ w k. those_marked w (all w k)) v e));
  }

  those_are : (v : Variable) → is_member those v ≡ M v
  those_are v = one_answer (is_member those v) (M v) (those_marked v) ((is_least items).least (is_member those) those_closed v)

  pub array_names_are : AreArrayNames items (array_names_of items)
  array_names_are =
      let used = filter M (map in_array_use (uses_in items)) in
      record {
        first = all_grown special_arrays used;
        once = all_once special_arrays used refl;
        exactly = λ x.
            all_put_in special_arrays used x ∙ ap (λ b. b || is_member used (Global x)) (sym (special_among special_arrays x))
            ∙ sym (list_any-append (same_variable (Global x)) specials used) ∙ those_are (Global x);
      }
