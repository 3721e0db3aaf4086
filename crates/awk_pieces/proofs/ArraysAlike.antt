-- What reads and changes an array of the record does alike.
use Rattle.std.proofs.Common.{◌≡◌, inl, inr, ℕ, zero, suc, ◌+◌, Bool, true, false, ◌&&◌, ◌||◌, List, [], ◌∷◌, length, Some, Ok, refl, sym, ap, ◌∙◌, le_refl, bytes_eq, codes, map, slice_get, slice_set, subst}
use Rattle.std.specs.Prelude.{unwrap_or, is_some}
use Rattle.std.proofs.lemmas.Bool.{cases_Bool, cond-true, cond-false}
use Rattle.std.proofs.lemmas.List.{length-set}
use Rattle.std.proofs.lemmas.Slice.Eq.{bytes_eq-Decides}
use Rattle.awk_value.specs.declared.value.Value.{Value}
use Rattle.awk_value.specs.declared.value.Value.TheVariants as value
use Rattle.awk_value.specs.Values.{str_of}
use Rattle.awk_semantics.specs.definitions.Operators.{join}
use Rattle.awk_value.specs.Arrays.{Array, value_at, with_pair, with_key, without}
use Rattle.awk_record.specs.definitions.Record.{RecordPair}
use Rattle.awk_kinds.specs.Names.{has_name}
use Rattle.awk_semantics.specs.definitions.State.{State, gives}
use Rattle.awk_semantics.specs.definitions.Primitives.{joined_key, number_in, elements_from, read_element, read_element_at, store_element, store_element_at, has_element, has_element_at, delete_element, delete_element_at, clear_array, clear_array_at, fill_array, fill_array_at}
use Rattle.awk_pieces.specs.definitions.Pieceable.{is_mine, also}
use Rattle.awk_pieces.proofs.Alike.{Outer, Names, OwnsSeparators, Sorts, Values, state_on, with_arrays, array_of, Agrees, Moves, shown_none, Same, Alike, alike_within}
use Rattle.awk_pieces.proofs.ReadsAlike.{Reads, or_left, unmoved}
use Rattle.awk_pieces.proofs.KnownNames.{known_before, one_less, within_also}

abbrev at : List Array → ℕ → Array
at arrays n = unwrap_or (slice_get arrays n) []

same_name : (x z : List ℕ) → bytes_eq x z ≡ true → x ≡ z
same_name x z same = (bytes_eq-Decides x z).0 same

-- the place that gets an array holds the same in lists of one length
place_set : (xs ys : List Array) (n : ℕ) (new : Array) → length xs ≡ length ys → at (slice_set xs n new) n ≡ at (slice_set ys n new) n
place_set [] [] n new e = refl
place_set [] (y ∷ ys) n new e = absurd (cc)
place_set (x ∷ xs) [] n new e = absurd (cc)
place_set (x ∷ xs) (y ∷ ys) zero new e = refl
place_set (x ∷ xs) (y ∷ ys) (suc n) new e = let less : length xs ≡ length ys = cc in place_set xs ys n new less

-- the places of other names hold what they held
set_elsewhere : (names : List (List ℕ)) (arrays : List Array) (new : Array) (a z : List ℕ) → length arrays ≡ length names → bytes_eq a z ≡ false → at (slice_set arrays (number_in names a) new) (number_in names z) ≡ at arrays (number_in names z)
set_elsewhere [] [] new a z e apart = refl
set_elsewhere [] (x ∷ xs) new a z e apart = absurd (cc)
set_elsewhere (y ∷ ys) [] new a z e apart = absurd (cc)
set_elsewhere (y ∷ ys) (x ∷ xs) new a z e apart = elim (cases_Bool (bytes_eq a y)) [
  | inl here ↦ elim (cases_Bool (bytes_eq z y)) [
    | inl there ↦ let bad : true ≡ false = sym ((bytes_eq-Decides a z).1 (same_name a y here ∙ sym (same_name z y there))) ∙ apart in absurd (cc)
    | inr other ↦ rw (here, other) refl
  ]
  | inr not ↦ elim (cases_Bool (bytes_eq z y)) [
    | inl there ↦ rw (not, there) refl
    | inr other ↦ let less : length xs ≡ length ys = cc in rw (not, other) (set_elsewhere ys xs new a z less apart)
  ]
]

apart_names : (names : Names) (a z : List ℕ) → names a ≡ true → names z ≡ false → bytes_eq a z ≡ false
apart_names names a z is not = elim (cases_Bool (bytes_eq a z)) [
  | inl same ↦ let bad : true ≡ false = sym is ∙ (ap names (same_name a z same) ∙ not) in absurd (cc)
  | inr other ↦ other
]

module _ (sorts : Sorts) (known : Names) (base base' : State) (a : List ℕ) (array : sorts.arrays a ≡ true) where
  abbrev mine : Names
  mine = is_mine sorts.own sorts.arrays

  abbrev more : Names
  more = also mine (Some a) known

  abbrev changed : State → List Array → Array → List Array
  changed s arrays new = slice_set arrays (number_in s.array_names a) new

  module _ (arrays arrays' : List Array) (v w : Values) (agrees : Agrees sorts known base base' arrays arrays' v w) (new : Array) where
    -- the numbers of the names are the same on both sides
    same_number : (z : List ℕ) → number_in base'.array_names z ≡ number_in base.array_names z
    same_number z = ap (λ (names : List (List ℕ)). number_in names z) (agrees.sized a array).names

    same_length : length arrays' ≡ length arrays
    same_length = let sized = agrees.sized a array in sized.there ∙ sym sized.here

    changed_place : (z : List ℕ) → (more z || sorts.own z) ≡ true → array_of base' (changed base' arrays' new) z ≡ array_of base (changed base arrays new) z
    changed_place z is = elim (cases_Bool (bytes_eq a z)) [
      | inl same ↦
          let e : number_in base.array_names a ≡ number_in base.array_names z = ap (number_in base.array_names) (same_name a z same) in
          rw (same_number a, same_number z, e) (place_set arrays' arrays (number_in base.array_names z) new same_length)
      | inr other ↦
          let sized = agrees.sized a array in
          let kept : array_of base' arrays' z ≡ array_of base arrays z = (agrees.kinds z (one_less (mine a) (bytes_eq a z) (known z) (sorts.own z) other is)).same in
          set_elsewhere base'.array_names arrays' new a z (sized.there ∙ sym (ap (λ (names : List (List ℕ)). length names) sized.names)) other ∙ (kept ∙ sym (set_elsewhere base.array_names arrays new a z sized.here other))
    ]

    changed_agrees : Agrees sorts more base base' (changed base arrays new) (changed base' arrays' new) v w
    changed_agrees = record {
      values = λ z is. elim (cases_Bool (bytes_eq a z)) [
        | inl same ↦ subst (λ (y : List ℕ). w y ≡ v y) (same_name a z same) (agrees.unset a array)
        | inr other ↦ agrees.values z (known_before (mine a) (bytes_eq a z) (known z) other is)
      ];
      unset = agrees.unset;
      kinds = λ z is. record { named = ap (λ (names : List (List ℕ)). has_name names z) (agrees.sized a array).names; same = changed_place z is };
      sized = λ z is. let sized = agrees.sized z is in
          record { names = sized.names; here = length-set arrays (number_in base.array_names a) new ∙ sized.here; there = length-set arrays' (number_in base'.array_names a) new ∙ sized.there };
    }

    changed_moves : (s : State) (xs : List Array) → length xs ≡ length s.array_names → Moves sorts s xs (changed s xs new)
    changed_moves s xs e = record {
      fixed = λ none. let bad : true ≡ false = sym array ∙ none a in absurd (cc);
      keeps = λ z not. set_elsewhere s.array_names xs new a z e (apart_names sorts.arrays a z array not);
      size = length-set xs (number_in s.array_names a) new;
    }

    changed_same : {A : Type 0} (result : A) (o p : Outer) (c : RecordPair) (k d : ℕ) → Same sorts more base base' o p arrays arrays' v w k d (gives result (state_on (with_arrays base (changed base arrays new)) o c v k)) (gives result (state_on (with_arrays base' (changed base' arrays' new)) p c w (k + d)))
    changed_same result o p c k d = let sized = agrees.sized a array in record {
      pair = c;
      left = k;
      arrays_here = changed base arrays new;
      arrays_there = changed base' arrays' new;
      here = v;
      there = w;
      agrees = changed_agrees;
      keeps = λ x e. refl;
      keeps_there = λ x e. refl;
      moves = changed_moves base arrays sized.here;
      moves_there = changed_moves base' arrays' (sized.there ∙ sym (ap (λ (names : List (List ℕ)). length names) sized.names));
      falls = le_refl _;
      is_here = refl;
      is_there = refl;
      plain = shown_none sorts.shows;
    }

  -- what fills it anew
  pub clear_alike : Alike sorts known more base base' (clear_array a) (clear_array a)
  unfolding clear_array clear_array_at
  clear_alike = record { covers = λ o p c arrays arrays' v w k d agrees. changed_same arrays arrays' v w agrees [] tt o p c k d }

  pub fill_alike : (texts : List (List ℕ)) → Alike sorts known more base base' (fill_array a texts) (fill_array a texts)
  unfolding fill_array fill_array_at
  fill_alike texts = record { covers = λ o p c arrays arrays' v w k d agrees. changed_same arrays arrays' v w agrees (elements_from 1 texts) tt o p c k d }

  -- what reads and changes its elements, where it is known
  module _ (is : known a ≡ true) where
    same_array : (arrays arrays' : List Array) (v w : Values) → Agrees sorts known base base' arrays arrays' v w → array_of base' arrays' a ≡ array_of base arrays a
    same_array arrays arrays' v w agrees = (agrees.kinds a (or_left _ _ is)).same

    reading : (key : List ℕ) → Alike sorts known more base base' (read_element a key) (read_element a key)
    unfolding read_element read_element_at
    reading key = record { covers = λ o p c arrays arrays' v w k d agrees. rw (same_array arrays arrays' v w agrees) (changed_same arrays arrays' v w agrees (with_key (array_of base arrays a) key) (unwrap_or (value_at (array_of base arrays a) key) value.Nothing) o p c k d) }

    storing : (key : List ℕ) (b : Value) → Alike sorts known more base base' (store_element a key b) (store_element a key b)
    unfolding store_element store_element_at
    storing key b = record { covers = λ o p c arrays arrays' v w k d agrees. rw (same_array arrays arrays' v w agrees) (changed_same arrays arrays' v w agrees (with_pair (array_of base arrays a) key b) tt o p c k d) }

    deleting : (key : List ℕ) → Alike sorts known more base base' (delete_element a key) (delete_element a key)
    unfolding delete_element delete_element_at
    deleting key = record { covers = λ o p c arrays arrays' v w k d agrees. rw (same_array arrays arrays' v w agrees) (changed_same arrays arrays' v w agrees (without (array_of base arrays a) key) tt o p c k d) }

    pub read_element_alike : (key : List ℕ) → Reads sorts known base base' (read_element a key) (read_element a key)
    read_element_alike key = alike_within (within_also mine known (Some a)) (reading key)

    pub store_element_alike : (key : List ℕ) (b : Value) → Reads sorts known base base' (store_element a key b) (store_element a key b)
    store_element_alike key b = alike_within (within_also mine known (Some a)) (storing key b)

    pub delete_element_alike : (key : List ℕ) → Reads sorts known base base' (delete_element a key) (delete_element a key)
    delete_element_alike key = alike_within (within_also mine known (Some a)) (deleting key)

    pub has_element_alike : (key : List ℕ) → Reads sorts known base base' (has_element a key) (has_element a key)
    unfolding has_element has_element_at
    has_element_alike key = record { covers = λ o p c arrays arrays' v w k d agrees. rw (same_array arrays arrays' v w agrees) (unmoved sorts known base base' o p c arrays arrays' v w k d [] (Ok (is_some (value_at (array_of base arrays a) key))) tt (shown_none sorts.shows) agrees) }

-- subscripts are joined by the SUBSEP of both
module _ (sorts : Sorts) (known : Names) (base base' : State) (owns : OwnsSeparators known) where
  pub joined_alike : (vs : List Value) → Reads sorts known base base' (joined_key vs) (joined_key vs)
  unfolding joined_key
  joined_alike vs = record { covers = λ o p c arrays arrays' v w k d agrees. rw (agrees.values (codes "SUBSEP") owns.subsep) (unmoved sorts known base base' o p c arrays arrays' v w k d [] (Ok (join (str_of (v (codes "SUBSEP"))) (map str_of vs))) tt (shown_none sorts.shows) agrees) }
