-- The states that a program and the two that are derived of it start from.
use Rattle.std.proofs.Common.{◌≡◌, inl, inr, ℕ, suc, ◌<◌, Bool, true, false, ◌||◌, List, [], ◌∷◌, length, None, refl, sym, ap, ap₂, ◌∙◌, bytes_eq, codes, slice_get, map, arith}
use Rattle.std.specs.Prelude.{unwrap_or}
use Rattle.std.proofs.lemmas.Bool.{cases_Bool, cond-true, cond-false}
use Rattle.awk_value.specs.declared.value.Value.{Value}
use Rattle.awk_value.specs.declared.value.Value.TheVariants as value
use Rattle.awk_streams.specs.Oracle.{Oracle}
use Rattle.awk_lex.specs.Words.{is_reserved, is_left_out}
use Rattle.awk_kinds.specs.declared.variable.Variable.{Variable}
use Rattle.awk_kinds.specs.Names.{has_name}
use Rattle.awk_kinds.specs.definitions.SpecialNames.{special_arrays}
use Rattle.awk_kinds.specs.definitions.Kinds.{Definition, array_names_of, arrays_of, definitions_by, function_names_of}
use Rattle.awk_grammar.specs.Tree.{Item, Begin, End, Action, PatternAction, PatternOnly, Function}
use Rattle.awk_semantics.specs.definitions.State.{State}
use Rattle.awk_semantics.specs.definitions.Primitives.{number_in, array_in}
use Rattle.awk_semantics.specs.definitions.Inputs.{is_among, is_unassignable}
use Rattle.awk_semantics.specs.definitions.Meaning.{StartValues, first_array, first_arrays, start_state}
use Rattle.awk_pieces.specs.definitions.Pieceable.{tells_apart}
use Rattle.awk_pieces.proofs.BeginsAlike.{SameNames}
use Rattle.awk_merging.specs.definitions.Sums.{Sum, ByKey, Alone}
use Rattle.awk_merging.specs.definitions.LawOfStates.{HoldsAll}
use Rattle.awk_merging.specs.definitions.LawOfDerived.{IsOneOf}
use Rattle.awk_merging.specs.definitions.LawOfAll.{state_begun}
use Rattle.awk_merging.specs.definitions.Mergeable.{is_array_sum}
use Rattle.awk_merging.proofs.Gathering.{same_key, not_both}
use Rattle.awk_merging.proofs.Cells.{apart_from_taken}
use Rattle.awk_merging.proofs.PiecesGathered.{IsReadyFor}
use Rattle.awk_merging.proofs.ProgramSums.{AreProper}
use Rattle.awk_merging.proofs.Sound.{array_of_one, or_false, or_left, or_right}

-- arrays by their names

module _ (start : StartValues) where
  array_there : (names : List (List ℕ)) (x : List ℕ) → has_name names x ≡ true → unwrap_or (slice_get (first_arrays start names) (number_in names x)) [] ≡ first_array start x
  array_there [] x has = cc
  array_there (y ∷ ys) x has = elim (cases_Bool (bytes_eq x y)) [
    | inl same ↦ ap (λ (n : ℕ). unwrap_or (slice_get (first_arrays start (y ∷ ys)) n) []) (cond-true _ _ _ same) ∙ ap (first_array start) (sym (same_key x y same))
    | inr apart ↦
        ap (λ (n : ℕ). unwrap_or (slice_get (first_arrays start (y ∷ ys)) n) []) (cond-false _ _ _ apart)
        ∙ array_there ys x (sym (ap (λ (b : Bool). b || has_name ys x) apart) ∙ has)
  ]

  none_there : (names : List (List ℕ)) (x : List ℕ) → has_name names x ≡ false → unwrap_or (slice_get (first_arrays start names) (number_in names x)) [] ≡ []
  none_there [] x not = refl
  none_there (y ∷ ys) x not = elim (cases_Bool (bytes_eq x y)) [
    | inl same ↦ absurd (not_both (has_name (y ∷ ys) x) (or_left _ _ same) not)
    | inr apart ↦
        ap (λ (n : ℕ). unwrap_or (slice_get (first_arrays start (y ∷ ys)) n) []) (cond-false _ _ _ apart)
        ∙ none_there ys x (sym (ap (λ (b : Bool). b || has_name ys x) apart) ∙ not)
  ]

  inside : (names : List (List ℕ)) (x : List ℕ) → has_name names x ≡ true → number_in names x < length (first_arrays start names)
  inside [] x has = cc
  inside (y ∷ ys) x has = elim (cases_Bool (bytes_eq x y)) [
    | inl same ↦ let zero_is : number_in (y ∷ ys) x ≡ 0 = cond-true _ _ _ same in let size : length (first_arrays start (y ∷ ys)) ≡ suc (length (first_arrays start ys)) = refl in omega arith
    | inr apart ↦
        let next : number_in (y ∷ ys) x ≡ suc (number_in ys x) = cond-false _ _ _ apart in
        let size : length (first_arrays start (y ∷ ys)) ≡ suc (length (first_arrays start ys)) = refl in
        let rest = inside ys x (sym (ap (λ (b : Bool). b || has_name ys x) apart) ∙ has) in
        omega arith
  ]

  empty_first : (x : List ℕ) → bytes_eq x (codes "ARGV") ≡ false → bytes_eq x (codes "ENVIRON") ≡ false → first_array start x ≡ []
  empty_first x argv environ = cond-false _ _ _ argv ∙ cond-false _ _ _ environ

among_is : (names : List (List ℕ)) (x : List ℕ) → is_among x names ≡ has_name names x
among_is [] x = refl
among_is (y ∷ ys) x = ap (λ (b : Bool). bytes_eq x y || b) (among_is ys x)

own_apart : (x name : List ℕ) → tells_apart x ≡ false → tells_apart name ≡ true → bytes_eq x name ≡ false
own_apart x name not tells = elim (cases_Bool (bytes_eq x name)) [
  | inl same ↦ absurd (not_both (tells_apart x) (ap tells_apart (same_key x name same) ∙ tells) not)
  | inr other ↦ other
]

-- no functions

abbrev pub HasNoFunction : List Item → Type 0
HasNoFunction [] = Unit {0}
HasNoFunction (Function f parameters block ∷ items) = ⊥
HasNoFunction (x ∷ items) = HasNoFunction items

no_definitions : (arrays : List Variable) (items : List Item) → HasNoFunction items → definitions_by arrays items ≡ []
no_definitions arrays [] none = refl
no_definitions arrays (Begin block ∷ items) none = no_definitions arrays items none
no_definitions arrays (End block ∷ items) none = no_definitions arrays items none
no_definitions arrays (Action block ∷ items) none = no_definitions arrays items none
no_definitions arrays (PatternAction p block ∷ items) none = no_definitions arrays items none
no_definitions arrays (PatternOnly p ∷ items) none = no_definitions arrays items none
no_definitions arrays (Function f parameters block ∷ items) none = absurd none

no_function_names : (items : List Item) → HasNoFunction items → function_names_of items ≡ []
no_function_names items none = ap (map (λ (d : Definition). d.name)) (no_definitions (arrays_of items) items none)

-- a program whose arrays are those of these sums, and awk's own
pub record IsPlain (xs : List Sum) (items : List Item) : Type 0 where
  pub names : (x : List ℕ) → has_name (array_names_of items) x ≡ (has_name special_arrays x || is_array_sum xs x)
  pub functions : HasNoFunction items

module _ (start : StartValues) (xs : List Sum) (items others : List Item) (plain : IsPlain xs items) (plain' : IsPlain xs others) (o p : Oracle) where
  abbrev here : State
  here = start_state items start o 0

  abbrev there : State
  there = start_state others start p 0

  same_names : (x : List ℕ) → has_name (array_names_of others) x ≡ has_name (array_names_of items) x
  same_names x = plain'.names x ∙ sym (plain.names x)

  same_elements : (x : List ℕ) → array_in there (number_in there.array_names x) ≡ array_in here (number_in here.array_names x)
  same_elements x = elim (cases_Bool (has_name (array_names_of items) x)) [
    | inl has ↦ array_there start (array_names_of others) x (same_names x ∙ has) ∙ sym (array_there start (array_names_of items) x has)
    | inr not ↦ none_there start (array_names_of others) x (same_names x ∙ not) ∙ sym (none_there start (array_names_of items) x not)
  ]

  same_refused : (x : List ℕ) → is_unassignable there x ≡ is_unassignable here x
  same_refused x =
      ap₂ (λ (a b : Bool). is_reserved x || (is_left_out x || (a || b)))
      (among_is (array_names_of others) x ∙ same_names x ∙ sym (among_is (array_names_of items) x))
      (ap (is_among x) (no_function_names others plain'.functions ∙ sym (no_function_names items plain.functions)))

  pub names_same : SameNames here there
  names_same = record { kinds = λ x e. record { named = same_names x; same = same_elements x }; unassignable = same_refused }

-- nothing is summed up at the start
module _ (start : StartValues) (xs : List Sum) (proper : AreProper xs) (items : List Item) (plain : IsPlain xs items) (o : Oracle) (v : List ℕ → Value) (unset : (x : List ℕ) → IsOneOf (Alone x) xs → v x ≡ value.Nothing) where
  abbrev base : State
  base = start_state items start o 0

  none_held : (zs : List Sum) → AreProper zs → ((x : Sum) → IsOneOf x zs → IsOneOf x xs) → HoldsAll (state_begun base (record { text = []; fields = [] }) v 0) zs (λ name. [])
  none_held [] free among = tt
  none_held (ByKey a ∷ zs) free among =
      let has : has_name (array_names_of items) a ≡ true = plain.names a ∙ or_right _ _ (array_of_one a xs (among (ByKey a) (inl refl))) in
      let argv = apart_from_taken a (codes "ARGV") free.0 refl in
      let environ = apart_from_taken a (codes "ENVIRON") free.0 refl in
      (free.0, (has, inside start (array_names_of items) a has, array_there start (array_names_of items) a has ∙ empty_first start a argv environ), none_held zs free.1 (λ x is. among x (inr is)))
  none_held (Alone x ∷ zs) free among = (free.0, (None, unset x (among (Alone x) (inl refl)), refl), none_held zs free.1 (λ y is. among y (inr is)))

  not_special : (x : List ℕ) → tells_apart x ≡ false → has_name special_arrays x ≡ false
  not_special x apart = rw (own_apart x (codes "ARGV") apart refl, own_apart x (codes "ENVIRON") apart refl) refl

  pub ready : IsReadyFor xs v base
  ready = record {
    unopened = refl;
    none = none_held xs proper (λ x is. is);
    others = λ x no_sum apart.
        let not : has_name (array_names_of items) x ≡ false = plain.names x ∙ or_false _ _ (not_special x apart) no_sum in
        (not, none_there start (array_names_of items) x not);
  }
