-- The arrays of a program are the least set that its uses tell, and there are rounds enough to find them.
use Rattle.std.proofs.Common.{◌≡◌, ◌⊎◌, inl, inr, ℕ, zero, suc, ◌≤◌, ◌<◌, Bool, true, false, List, [], ◌∷◌, ◌++◌, length, map, slice_get, Option, Some, None, if◌then◌else◌, refl, sym, ap, subst, ◌∙◌, arith, length-append}
use Rattle.std.proofs.lemmas.List.Folds.{list_any-append}
use Rattle.std.proofs.lemmas.Bool.{or_cases, or_left, or_right, false≢true}
use Rattle.awk_grammar.specs.Tree.{Item}
use Rattle.awk_kinds.specs.definitions.SpecialNames.{special_arrays}
use Rattle.awk_kinds.specs.declared.variable.Variable.{Variable}
use Rattle.awk_kinds.specs.declared.variable.Variable.TheVariants.{Global, Parameter}
use Rattle.awk_kinds.specs.declared.uses.ArrayUse.{ArrayUse}
use Rattle.awk_kinds.specs.declared.uses.ArrayUse.TheVariants.{Used, Passed}
use Rattle.awk_kinds.specs.definitions.Kinds.{same_variable, uses_in, parameters_of, is_member, is_parameter_among, told_by, all_told_by, arrays_within, arrays_of, IsClosed, IsLeast}

abbrev specials : List Variable
specials = map (λ x. Global x) special_arrays

-- all of the first are among the second
abbrev Within : List Variable → List Variable → Type 0
Within vs ws = (v : Variable) → is_member vs v ≡ true → is_member ws v ≡ true

in_either : (vs ws : List Variable) (v : Variable) → is_member (vs ++ ws) v ≡ true → (is_member vs v ≡ true) ⊎ (is_member ws v ≡ true)
in_either vs ws v e = or_cases (is_member vs v) (is_member ws v) (sym (list_any-append (same_variable v) vs ws) ∙ e)

in_left : (vs ws : List Variable) (v : Variable) → is_member vs v ≡ true → is_member (vs ++ ws) v ≡ true
in_left vs ws v e = list_any-append (same_variable v) vs ws ∙ or_left (is_member vs v) (is_member ws v) e

in_right : (vs ws : List Variable) (v : Variable) → is_member ws v ≡ true → is_member (vs ++ ws) v ≡ true
in_right vs ws v e = list_any-append (same_variable v) vs ws ∙ or_right (is_member vs v) (is_member ws v) e

within_append : (vs ws ws' : List Variable) → Within ws ws' → Within (vs ++ ws) (vs ++ ws')
within_append vs ws ws' h v e = elim (in_either vs ws v e) [ inl l ↦ in_left vs ws' v l | inr r ↦ in_right vs ws' v (h v r) ]

-- a parameter known to be an array is known where more is known
among : (known more : List Variable) (f : List ℕ) (x : Option (List ℕ)) → Within known more → is_parameter_among known f x ≡ true → is_parameter_among more f x ≡ true
among known more f None h e = e
among known more f (Some x) h e = h (Parameter f x) e

-- what one use tells: the same, or now the variable
one_told : (v : Variable) (b c : Bool) → (b ≡ true → c ≡ true) → ((if b then v ∷ [] else []) ≡ (if c then v ∷ [] else [])) ⊎ (length (if b then v ∷ [] else []) < length (if c then v ∷ [] else []))
one_told v true true h = inl refl
one_told v true false h = absurd (false≢true (h refl))
one_told v false true h = inr (omega arith)
one_told v false false h = inl refl

one_within : (v : Variable) (b c : Bool) → (b ≡ true → c ≡ true) → Within (if b then v ∷ [] else []) (if c then v ∷ [] else [])
one_within v true true h w e = e
one_within v true false h w e = absurd (false≢true (h refl))
one_within v false c h w e = absurd (false≢true e)

one_at_most : (v : Variable) (b : Bool) → length (if b then v ∷ [] else []) ≤ 1
one_at_most v true = omega arith
one_at_most v false = omega arith

module _ (items : List Item) where
  told_more : (known more : List Variable) → Within known more → (u : ArrayUse) → (told_by items known u ≡ told_by items more u) ⊎ (length (told_by items known u) < length (told_by items more u))
  told_more known more h (Used v) = inl refl
  told_more known more h (Passed v f n) = one_told v (is_parameter_among known f (slice_get (parameters_of items f) n)) (is_parameter_among more f (slice_get (parameters_of items f) n)) (among known more f (slice_get (parameters_of items f) n) h)

  told_within : (known more : List Variable) → Within known more → (u : ArrayUse) → Within (told_by items known u) (told_by items more u)
  told_within known more h (Used v) = λ w e. e
  told_within known more h (Passed v f n) = one_within v (is_parameter_among known f (slice_get (parameters_of items f) n)) (is_parameter_among more f (slice_get (parameters_of items f) n)) (among known more f (slice_get (parameters_of items f) n) h)

  told_at_most : (known : List Variable) (u : ArrayUse) → length (told_by items known u) ≤ 1
  told_at_most known (Used v) = omega arith
  told_at_most known (Passed v f n) = one_at_most v (is_parameter_among known f (slice_get (parameters_of items f) n))

  all_at_most : (known : List Variable) (us : List ArrayUse) → length (all_told_by items known us) ≤ length us
  all_at_most known [] = omega arith
  all_at_most known (u ∷ us) = omega (arith, length-append (told_by items known u) (all_told_by items known us), told_at_most known u, all_at_most known us)

  all_within : (known more : List Variable) → Within known more → (us : List ArrayUse) → Within (all_told_by items known us) (all_told_by items more us)
  all_within known more h [] = λ w e. e
  all_within known more h (u ∷ us) =
      let rest = all_within known more h us in
      λ w e. elim (in_either (told_by items known u) (all_told_by items known us) w e) [
        | inl l ↦ in_left (told_by items more u) (all_told_by items more us) w (told_within known more h u w l)
        | inr r ↦ in_right (told_by items more u) (all_told_by items more us) w (rest w r)
      ]

  both_more : (a b c d : List Variable) → (a ≡ b) ⊎ (length a < length b) → (c ≡ d) ⊎ (length c < length d) → (a ++ c ≡ b ++ d) ⊎ (length (a ++ c) < length (b ++ d))
  both_more a b c d (inl e) (inl f) = inl (ap (λ l. l ++ c) e ∙ ap (λ l. b ++ l) f)
  both_more a b c d (inl e) (inr f) = inr (omega (arith, length-append a c, length-append b d, ap length e))
  both_more a b c d (inr e) (inl f) = inr (omega (arith, length-append a c, length-append b d, ap length f))
  both_more a b c d (inr e) (inr f) = inr (omega (arith, length-append a c, length-append b d))

  all_more : (known more : List Variable) → Within known more → (us : List ArrayUse) → (all_told_by items known us ≡ all_told_by items more us) ⊎ (length (all_told_by items known us) < length (all_told_by items more us))
  all_more known more h [] = inl refl
  all_more known more h (u ∷ us) = both_more (told_by items known u) (told_by items more u) (all_told_by items known us) (all_told_by items more us) (told_more known more h u) (all_more known more h us)

  -- what is told after so many rounds
  abbrev told : ℕ → List Variable
  told n = all_told_by items (arrays_within items n) (uses_in items)

  rounds_grow : (n : ℕ) → Within (arrays_within items n) (arrays_within items (suc n))
  rounds_grow zero = λ v e. in_left specials (told zero) v e
  rounds_grow (suc n) = within_append specials (told n) (told (suc n)) (all_within (arrays_within items n) (arrays_within items (suc n)) (rounds_grow n) (uses_in items))

  -- a round that tells nothing new is followed by such rounds
  goes_on_so : (n : ℕ) → told n ≡ told (suc n) → told (suc n) ≡ told (suc (suc n))
  goes_on_so n e = ap (λ t. all_told_by items (specials ++ t) (uses_in items)) e

  counted : (n : ℕ) → n ≤ length (told n) → (told n ≡ told (suc n)) ⊎ (length (told n) < length (told (suc n))) → (suc n ≤ length (told (suc n))) ⊎ (told (suc n) ≡ told (suc (suc n)))
  counted n l (inl e) = inr (goes_on_so n e)
  counted n l (inr m) = inl (omega arith)

  -- each round tells one more, until nothing new is told
  each_counts : (n : ℕ) → (n ≤ length (told n)) ⊎ (told n ≡ told (suc n))
  each_counts zero = inl (omega arith)
  each_counts (suc n) = elim (each_counts n) [
    | inl l ↦ counted n l (all_more (arrays_within items n) (arrays_within items (suc n)) (rounds_grow n) (uses_in items))
    | inr e ↦ inr (goes_on_so n e)
  ]

  last_round : (n : ℕ) → length (uses_in items) ≤ n → (n ≤ length (told n)) ⊎ (told n ≡ told (suc n)) → (told n ≡ told (suc n)) ⊎ (length (told n) < length (told (suc n))) → told n ≡ told (suc n)
  last_round n le (inr e) more = e
  last_round n le (inl l) (inl e) = e
  last_round n le (inl l) (inr m) = absurd (omega (arith, all_at_most (arrays_within items (suc n)) (uses_in items)))

  enough : told (length (uses_in items)) ≡ told (suc (length (uses_in items)))
  enough = let n = length (uses_in items) in
      last_round n (omega arith) (each_counts n) (all_more (arrays_within items n) (arrays_within items (suc n)) (rounds_grow n) (uses_in items))

  closed : IsClosed items (λ v. is_member (arrays_of items) v ≡ true)
  closed = record {
    special = λ x e. in_left specials (told (length (uses_in items))) (Global x) e;
    told = λ known h v e. in_right specials (told (length (uses_in items))) v (subst (λ t. is_member t v ≡ true) (sym enough) (all_within known (arrays_of items) h (uses_in items) v e));
  }

  module _ (test : Variable → Bool) (is_closed : IsClosed items (λ v. test v ≡ true)) where
    special_passes : (v : Variable) → is_member specials v ≡ true → test v ≡ true
    special_passes (Global x) e = is_closed.special x e
    special_passes (Parameter f x) e = absurd (false≢true e)

    round_passes : (n : ℕ) (v : Variable) → is_member (arrays_within items n) v ≡ true → test v ≡ true
    round_passes zero v e = special_passes v e
    round_passes (suc n) v e =
        let before = round_passes n in
        elim (in_either specials (told n) v e) [ inl l ↦ special_passes v l | inr r ↦ is_closed.told (arrays_within items n) before v r ]

  pub is_least : IsLeast items
  is_least = record { closed = closed; least = λ test is_closed v e. round_passes test is_closed (suc (length (uses_in items))) v e }
