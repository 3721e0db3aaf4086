-- The least closed set of variables is the arrays of the program.
use Rattle.std.proofs.Common.{◌≡◌, ◌⊎◌, inl, inr, ℕ, Bool, true, false, List, [], ◌∷◌, ◌++◌, map, slice_get, bytes_eq, Option, Some, None, if◌then◌else◌, refl, sym, ap, ◌∙◌}
use Rattle.std.proofs.lemmas.List.Folds.{list_any-append}
use Rattle.std.proofs.lemmas.Bool.{or_cases, or_left, or_right}
use Rattle.std.proofs.lemmas.Slice.Eq.{bytes_eq-Decides}
use Rattle.awk_kinds.specs.definitions.Names.{has_name}
use Rattle.awk_grammar.specs.Tree.{Item}
use Rattle.awk_kinds.specs.declared.variable.Variable.{Variable}
use Rattle.awk_kinds.specs.declared.variable.Variable.TheVariants.{Global, Parameter}
use Rattle.awk_kinds.specs.declared.uses.ArrayUse.{ArrayUse}
use Rattle.awk_kinds.specs.declared.uses.ArrayUse.TheVariants.{Used, Passed}
use Rattle.awk_kinds.specs.declared.functions.Functions.{Functions}
use Rattle.awk_kinds.specs.declared.arrays.Arrays.{Arrays}
use Rattle.awk_kinds.specs.definitions.SpecialNames.{special_arrays}
use Rattle.awk_kinds.specs.definitions.Kinds.{same_variable, uses_in, parameters_of, is_member, is_parameter_among, told_by, all_told_by, arrays_of, IsClosed}
use Rattle.awk_kinds.specs.support.SameVariable.{same_is, same_self}
use Rattle.awk_kinds.specs.support.Functions.{HoldsFunctions}
use Rattle.awk_kinds.specs.support.Graph.{global_use, special_uses, Closes, IsClosedUnder}
use Rattle.awk_kinds.specs.support.Arrays.{is_marked, MarksLeast}
use Rattle.awk_kinds.specs.support.Known.{HoldsArrays}
use Rattle.awk_kinds.proofs.LeastArrays.{is_least}
use Rattle.awk_kinds.proofs.Graphs.{closed-append, closed-left, closed-right}
use Rattle.awk_kinds.proofs.Told.{parameter_is}

pub in_either : (vs ws : List Variable) (v : Variable) → is_member (vs ++ ws) v ≡ true → (is_member vs v ≡ true) ⊎ (is_member ws v ≡ true)
in_either vs ws v e = or_cases (is_member vs v) (is_member ws v) (sym (list_any-append (same_variable v) vs ws) ∙ e)

pub in_left : (vs ws : List Variable) (v : Variable) → is_member vs v ≡ true → is_member (vs ++ ws) v ≡ true
in_left vs ws v e = list_any-append (same_variable v) vs ws ∙ or_left (is_member vs v) (is_member ws v) e

pub in_right : (vs ws : List Variable) (v : Variable) → is_member ws v ≡ true → is_member (vs ++ ws) v ≡ true
in_right vs ws v e = list_any-append (same_variable v) vs ws ∙ or_right (is_member vs v) (is_member ws v) e

only : (v w : Variable) → is_member (v ∷ []) w ≡ true → w ≡ v
only v w e = elim (or_cases (same_variable w v) false e) [ inl s ↦ same_is w v s | inr bad ↦ (let b : false ≡ true = bad in cc) ]

alone : (v : Variable) → is_member (v ∷ []) v ≡ true
alone v = or_left (same_variable v v) false (same_self v)

pub one_answer : (b c : Bool) → (b ≡ true → c ≡ true) → (c ≡ true → b ≡ true) → b ≡ c
one_answer true c to from = sym (to refl)
one_answer false true to from = from refl
one_answer false false to from = refl

-- names of the whole program

names_pass : (functions : Functions) (P : Variable → Bool) (xs : List (List ℕ)) → IsClosedUnder functions P (map global_use xs) → (x : List ℕ) → has_name xs x ≡ true → P (Global x) ≡ true
names_pass functions P [] c x e = let bad : false ≡ true = e in cc
names_pass functions P (y ∷ xs) c x e = elim (or_cases (bytes_eq x y) (has_name xs x) e) [
  | inl same ↦ ap (λ z. P (Global z)) ((bytes_eq-Decides x y).0 same) ∙ c.0
  | inr rest ↦ names_pass functions P xs c.1 x rest
]

names_closed : (functions : Functions) (P : Variable → Bool) (xs : List (List ℕ)) → ((x : List ℕ) → has_name xs x ≡ true → P (Global x) ≡ true) → IsClosedUnder functions P (map global_use xs)
names_closed functions P [] h = tt
names_closed functions P (y ∷ xs) h = (h y (or_left (bytes_eq y y) (has_name xs y) ((bytes_eq-Decides y y).1 refl)), names_closed functions P xs (λ x e. h x (or_right (bytes_eq x y) (has_name xs x) e)))

module _ (items : List Item) (functions : Functions) (h : HoldsFunctions items functions) (P : Variable → Bool) where
  -- a closed set has what is told where some of it is known
  told_passes : (known : List Variable) → ((w : Variable) → is_member known w ≡ true → P w ≡ true) → (u : ArrayUse) → Closes functions P u → (v : Variable) → is_member (told_by items known u) v ≡ true → P v ≡ true
  told_passes known all (Used w) c v e = ap P (only w v e) ∙ c
  told_passes known all (Passed w f n) c v e = by (slice_get (parameters_of items f) n) refl e
    where
      when : (b : Bool) → (b ≡ true → P w ≡ true) → is_member (if b then w ∷ [] else []) v ≡ true → P v ≡ true
      when true k m = ap P (only w v m) ∙ k refl
      when false k m = let bad : false ≡ true = m in cc

      by : (r : Option (List ℕ)) → slice_get (parameters_of items f) n ≡ r → is_member (if is_parameter_among known f r then w ∷ [] else []) v ≡ true → P v ≡ true
      by None p m = let bad : false ≡ true = m in cc
      by (Some x) p m = when (is_member known (Parameter f x)) (λ k. c x (sym (parameter_is items functions h f n) ∙ p) (all (Parameter f x) k)) m

  pub all_told_pass : (known : List Variable) → ((w : Variable) → is_member known w ≡ true → P w ≡ true) → (us : List ArrayUse) → IsClosedUnder functions P us → (v : Variable) → is_member (all_told_by items known us) v ≡ true → P v ≡ true
  all_told_pass known all [] c v e = let bad : false ≡ true = e in cc
  all_told_pass known all (u ∷ us) c v e = elim (in_either (told_by items known u) (all_told_by items known us) v e) [
    | inl l ↦ told_passes known all u c.0 v l
    | inr r ↦ all_told_pass known all us c.1 v r
  ]

module _ (items : List Item) (functions : Functions) (h : HoldsFunctions items functions) (known : List Variable) where
  one_closes : (u : ArrayUse) → ((v : Variable) → is_member (told_by items known u) v ≡ true → is_member known v ≡ true) → Closes functions (is_member known) u
  one_closes (Used v) k = k v (alone v)
  one_closes (Passed v f n) k = λ x at e.
      let there : slice_get (parameters_of items f) n ≡ Some x = parameter_is items functions h f n ∙ at in
      k v (ap (λ r. is_member (if is_parameter_among known f r then v ∷ [] else []) v) there ∙ ap (λ b. is_member (if b then v ∷ [] else []) v) e ∙ alone v)

  -- what is told is known, so the known are closed
  pub all_close : (us : List ArrayUse) → ((v : Variable) → is_member (all_told_by items known us) v ≡ true → is_member known v ≡ true) → IsClosedUnder functions (is_member known) us
  all_close [] k = tt
  all_close (u ∷ us) k = (one_closes u (λ v e. k v (in_left (told_by items known u) (all_told_by items known us) v e)), all_close us (λ v e. k v (in_right (told_by items known u) (all_told_by items known us) v e)))

module _ (items : List Item) (functions : Functions) (arrays : Arrays) (h : HoldsFunctions items functions) (m : MarksLeast functions (special_uses ++ uses_in items) arrays) where
  marked_closed : IsClosed items (λ v. is_marked arrays v ≡ true)
  marked_closed = record {
    special = λ x e. names_pass functions (is_marked arrays) special_arrays (closed-left functions (is_marked arrays) special_uses (uses_in items) m.closed) x e;
    told = λ known all v e. all_told_pass items functions h (is_marked arrays) known all (uses_in items) (closed-right functions (is_marked arrays) special_uses (uses_in items) m.closed) v e;
  }

  arrays_closed : IsClosedUnder functions (is_member (arrays_of items)) (special_uses ++ uses_in items)
  arrays_closed =
      let least = is_least items in
      closed-append functions (is_member (arrays_of items)) special_uses (uses_in items)
      (names_closed functions (is_member (arrays_of items)) special_arrays (λ x e. least.closed.special x e))
      (all_close items functions h (arrays_of items) (uses_in items) (λ v e. least.closed.told (arrays_of items) (λ w k. k) v e))

  pub holds_arrays : HoldsArrays items arrays
  holds_arrays = record {
    marked = λ v. one_answer (is_marked arrays v) (is_member (arrays_of items) v) (λ e. m.least (is_member (arrays_of items)) arrays_closed v e) (λ e. (is_least items).least (is_marked arrays) marked_closed v e);
  }
