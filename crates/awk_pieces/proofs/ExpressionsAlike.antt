-- Expressions that keep to the record do alike.
use Rattle.std.proofs.Common.{◌≡◌, ℕ, Bool, true, ◌||◌, inl, inr, List, [], ◌∷◌, ◌++◌, Some, refl}
use Rattle.std.proofs.lemmas.Bool.{or_cases}
use Rattle.awk_value.specs.declared.value.Value.{Value}
use Rattle.awk_value.specs.declared.value.Value.TheVariants as value
use Rattle.awk_value.specs.Values.{str_of}
use Rattle.awk_lex.specs.declared.token.BuiltIn.{BuiltIn as BuiltInName}
use Rattle.awk_lex.specs.declared.token.BuiltIn.TheVariants as built_in
use Rattle.awk_lex.specs.declared.token.Operator.TheVariants as o
use Rattle.awk_grammar.specs.Tree.{Expr, Number, String, Ere, Name, Element, Field, Group, Call, BuiltIn, Length, PreIncrement, PostIncrement, Getline, PipedGetline, Unary, Binary, Membership, ListMembership, Conditional, Assign, Exprs, Nil, Cons}
use Rattle.awk_semantics.specs.definitions.State.{State, Run}
use Rattle.awk_semantics.specs.definitions.Operators.{changed, applied, by_one, one, operator_of, takes_pattern, truth_value}
use Rattle.awk_semantics.specs.definitions.Places.{AName, AnElement, AField}
use Rattle.awk_semantics.specs.definitions.BuiltIns.{Role, AsValue, AsPattern, AsArray, AsPlace, AsMeasured, Argument, OfArray, roles_of, bare_name}
use Rattle.awk_semantics.specs.definitions.Semantics.{Functions, eval, place_of, key_of, take_arguments}
use Rattle.awk_pieces.specs.definitions.Pieceable.{is_of_record, is_array_of_record, second_is_array, may_be_called, fills_array, is_filled, keeps_to_record, all_keep_to_record, arguments_keep_to_record, array_split, is_mine, also}
use Rattle.awk_pieces.proofs.Alike.{Names, OwnsSeparators, Sorts, SetsApart, Alike, alike_within, AlikeWith, then_alike, then_where, then_with, with_any}
use Rattle.awk_pieces.proofs.ReadsAlike.{Reads, unset_alike, left_true, right_true, lift_alike, ret_alike, ret_with, text_alike, name_alike, field_alike, number_alike, right_alike, tested_alike, choose_alike, combined_alike, record_length_alike}
use Rattle.awk_pieces.proofs.PlacesAlike.{IsOfRecord, assign_by_alike, post_increment_alike}
use Rattle.awk_pieces.proofs.CallsAlike.{IsKnown, AreKept, kept_append, MayBeTaken, values_taken, IsPlain, plain_called, may_be_taken, plain_arguments, IsSplit, split_append, value_taken, ere_taken, measured, place_taken, built_in_alike, split_fills}
use Rattle.awk_pieces.proofs.ArraysAlike.{joined_alike, read_element_alike, has_element_alike}
use Rattle.awk_pieces.proofs.KnownNames.{within_also}
use Rattle.awk_pieces.proofs.ValuesAndFaults.{changed_faults, applied_faults}

-- a bare name that may be read is known
bare_known : (own arrays known : Names) (e : Expr) → keeps_to_record own arrays known e ≡ true → IsKnown known (bare_name e)
bare_known own arrays known (Name x) is = is
bare_known own arrays known (Number n) is = tt
bare_known own arrays known (String bytes) is = tt
bare_known own arrays known (Ere text) is = tt
bare_known own arrays known (Element x es) is = tt
bare_known own arrays known (Field a) is = tt
bare_known own arrays known (Group a) is = tt
bare_known own arrays known (Call c es) is = tt
bare_known own arrays known (BuiltIn c es) is = tt
bare_known own arrays known Length is = tt
bare_known own arrays known (PreIncrement c p) is = tt
bare_known own arrays known (PostIncrement c p) is = tt
bare_known own arrays known (Getline p file) is = tt
bare_known own arrays known (PipedGetline c p) is = tt
bare_known own arrays known (Unary c a) is = tt
bare_known own arrays known (Binary c a b) is = tt
bare_known own arrays known (Membership a x) is = tt
bare_known own arrays known (ListMembership es x) is = tt
bare_known own arrays known (Conditional c a b) is = tt
bare_known own arrays known (Assign c p a) is = tt

array_split_at : (a : List ℕ) (x y : Argument) → y ≡ OfArray a → IsSplit a (x ∷ y ∷ [])
array_split_at a x y named = rw named refl

module _ (sorts : Sorts) (apart : SetsApart sorts) (known : Names) (base base' : State) (owns : OwnsSeparators known) where
  abbrev Keeps : {A : Type 0} → Run A → Run A → Type 0
  Keeps m n = Reads sorts known base base' m n

  abbrev KeepsWith : {A : Type 0} → (A → Type 0) → Run A → Run A → Type 0
  KeepsWith P m n = AlikeWith P sorts known known base base' m n

  module _ (f g : Functions) where
    plain_call : (c : BuiltInName) (es : Exprs) → IsPlain c → may_be_called sorts.own sorts.arrays c es ≡ true → arguments_keep_to_record sorts.own sorts.arrays known (fills_array c) es ≡ true →
        (MayBeTaken sorts.own sorts.arrays (roles_of c) es → all_keep_to_record sorts.own sorts.arrays known es ≡ true → KeepsWith (AreKept sorts known) (take_arguments f (roles_of c) [] es) (take_arguments g (roles_of c) [] es)) → Keeps (eval f (BuiltIn c es)) (eval g (BuiltIn c es))
    unfolding eval
    plain_call c es plain may is taken =
        then_where _ _ (taken (may_be_taken sorts.own sorts.arrays c es plain may) (plain_arguments sorts.own sorts.arrays known c es plain is)) (λ xs are. built_in_alike sorts apart known base base' owns c xs plain are)

    abbrev keeps_or_filled : Expr → Bool
    keeps_or_filled e = keeps_to_record sorts.own sorts.arrays known e || is_array_of_record sorts.own sorts.arrays e

    -- an argument of a split: one that has the name of an array of the record is read as a variable of that name
    array_alike : (e : Expr) → is_array_of_record sorts.own sorts.arrays e ≡ true → Keeps (eval f e) (eval g e)
    unfolding eval
    array_alike (Name x) is = unset_alike sorts known base base' x is
    array_alike e is = absurd (cc)

    argument_alike : (e : Expr) → keeps_or_filled e ≡ true → (keeps_to_record sorts.own sorts.arrays known e ≡ true → Keeps (eval f e) (eval g e)) → Keeps (eval f e) (eval g e)
    argument_alike e is reads = elim (or_cases (keeps_to_record sorts.own sorts.arrays known e) (is_array_of_record sorts.own sorts.arrays e) is) [ inl keeps ↦ reads keeps | inr array ↦ array_alike e array ]

    -- a call, where its arguments do alike, and where it is a split
    call_alike : (c : BuiltInName) (es : Exprs) → may_be_called sorts.own sorts.arrays c es ≡ true → arguments_keep_to_record sorts.own sorts.arrays known (fills_array c) es ≡ true →
        (MayBeTaken sorts.own sorts.arrays (roles_of c) es → all_keep_to_record sorts.own sorts.arrays known es ≡ true → KeepsWith (AreKept sorts known) (take_arguments f (roles_of c) [] es) (take_arguments g (roles_of c) [] es)) →
        (second_is_array sorts.own sorts.arrays es ≡ true → arguments_keep_to_record sorts.own sorts.arrays known true es ≡ true → Alike sorts known (also (is_mine sorts.own sorts.arrays) (array_split es) known) base base' (eval f (BuiltIn built_in.Split es)) (eval g (BuiltIn built_in.Split es))) →
        Keeps (eval f (BuiltIn c es)) (eval g (BuiltIn c es))
    call_alike built_in.Split es may is taken splits = alike_within (within_also (is_mine sorts.own sorts.arrays) known (array_split es)) (splits may is)
    call_alike c es may is taken splits = plain_call c es (plain_called sorts.own sorts.arrays c es tt may) may is taken

    mutual
      unfolding eval

      pub expression_alike : (e : Expr) → keeps_to_record sorts.own sorts.arrays known e ≡ true → Keeps (eval f e) (eval g e)
      expression_alike (Number n) is = ret_alike sorts known base base' _
      expression_alike (String bytes) is = ret_alike sorts known base base' _
      expression_alike (Ere text) is = then_alike _ _ (text_alike sorts known base base') (λ v. lift_alike sorts known base base' (applied o.Matches v (value.Text text)) (applied_faults o.Matches v (value.Text text)))
      expression_alike (Name x) is = name_alike sorts known base base' x is
      expression_alike (Field e) is = then_alike _ _ (expression_alike e is) (λ v. then_alike _ _ (number_alike sorts known base base' v) (λ n. field_alike sorts known base base' n))
      expression_alike (Group e) is = expression_alike e is
      expression_alike (BuiltIn c es) is = call_alike c es (left_true (may_be_called sorts.own sorts.arrays c es) _ is) (right_true (may_be_called sorts.own sorts.arrays c es) _ is) (λ taken all. arguments_alike es (roles_of c) [] taken all tt) (λ array others. split_alike es array others)
      expression_alike Length is = record_length_alike sorts known base base'
      expression_alike (Unary c e) is = then_alike _ _ (expression_alike e is) (λ v. lift_alike sorts known base base' (changed c v) (changed_faults c v))
      expression_alike (Binary c a b) is = combined_alike sorts known base base' c (expression_alike a (left_true (keeps_to_record sorts.own sorts.arrays known a) _ is)) (right_alike sorts known base base' (takes_pattern c) b (expression_alike b (right_true (keeps_to_record sorts.own sorts.arrays known a) _ is)))
      expression_alike (Conditional c a b) is =
          let both = right_true (keeps_to_record sorts.own sorts.arrays known c) _ is in
          let here = expression_alike a (left_true (keeps_to_record sorts.own sorts.arrays known a) _ both) in
          let other = expression_alike b (right_true (keeps_to_record sorts.own sorts.arrays known a) _ both) in
          then_alike _ _ (tested_alike sorts known base base' (expression_alike c (left_true (keeps_to_record sorts.own sorts.arrays known c) _ is))) (λ x. choose_alike sorts known base base' x here other)
      expression_alike (PreIncrement c p) is = then_where _ _ (place_alike p (left_true (is_of_record sorts.own sorts.arrays p) _ is) (right_true (is_of_record sorts.own sorts.arrays p) _ is)) (λ q held. assign_by_alike sorts apart known base base' owns (Some (by_one c)) q one held)
      expression_alike (PostIncrement c p) is = then_where _ _ (place_alike p (left_true (is_of_record sorts.own sorts.arrays p) _ is) (right_true (is_of_record sorts.own sorts.arrays p) _ is)) (λ q held. post_increment_alike sorts apart known base base' owns c q held)
      expression_alike (Assign c p e) is =
          let both = right_true (is_of_record sorts.own sorts.arrays p) _ is in
          let here = expression_alike e (right_true (keeps_to_record sorts.own sorts.arrays known p) _ both) in
          then_where _ _ (place_alike p (left_true (is_of_record sorts.own sorts.arrays p) _ is) (left_true (keeps_to_record sorts.own sorts.arrays known p) _ both)) (λ q held. then_alike _ _ here (λ a. assign_by_alike sorts apart known base base' owns (operator_of c) q a held))
      expression_alike (Element a es) is =
          let filled = left_true (is_filled sorts.own sorts.arrays known a) _ is in
          then_alike _ _ (key_alike [] es (right_true (is_filled sorts.own sorts.arrays known a) _ is)) (λ key. read_element_alike sorts known base base' a (left_true (sorts.arrays a) _ filled) (right_true (sorts.arrays a) _ filled) key)
      expression_alike (Call c es) is = absurd (cc)
      expression_alike (Getline p file) is = absurd (cc)
      expression_alike (PipedGetline c p) is = absurd (cc)
      expression_alike (Membership e a) is =
          let filled = left_true (is_filled sorts.own sorts.arrays known a) _ is in
          then_alike _ _ (expression_alike e (right_true (is_filled sorts.own sorts.arrays known a) _ is)) (λ v.
          then_alike _ _ (has_element_alike sorts known base base' a (left_true (sorts.arrays a) _ filled) (right_true (sorts.arrays a) _ filled) (str_of v)) (λ y. ret_alike sorts known base base' (truth_value y)))
      expression_alike (ListMembership es a) is =
          let filled = left_true (is_filled sorts.own sorts.arrays known a) _ is in
          then_alike _ _ (key_alike [] es (right_true (is_filled sorts.own sorts.arrays known a) _ is)) (λ key.
          then_alike _ _ (has_element_alike sorts known base base' a (left_true (sorts.arrays a) _ filled) (right_true (sorts.arrays a) _ filled) key) (λ y. ret_alike sorts known base base' (truth_value y)))

      pub place_alike : (e : Expr) → is_of_record sorts.own sorts.arrays e ≡ true → keeps_to_record sorts.own sorts.arrays known e ≡ true → KeepsWith (IsOfRecord sorts known) (place_of f e) (place_of g e)
      place_alike (Field e) of is = then_with _ _ (with_any (expression_alike e is)) (λ v _. then_with _ _ (with_any (number_alike sorts known base base' v)) (λ n _. ret_with sorts known base base' (AField n) tt))
      place_alike (Name x) of is = ret_with sorts known base base' (AName x) (of, is)
      place_alike (Number n) of is = absurd (cc)
      place_alike (String bytes) of is = absurd (cc)
      place_alike (Ere text) of is = absurd (cc)
      place_alike (Element a es) of is =
          let filled = left_true (is_filled sorts.own sorts.arrays known a) _ is in
          then_with _ _ (with_any (key_alike [] es (right_true (is_filled sorts.own sorts.arrays known a) _ is))) (λ key _. ret_with sorts known base base' (AnElement a key) (of, right_true (sorts.arrays a) _ filled))
      place_alike (Group a) of is = absurd (cc)
      place_alike (Call c es) of is = absurd (cc)
      place_alike (BuiltIn c es) of is = absurd (cc)
      place_alike Length of is = absurd (cc)
      place_alike (PreIncrement c p) of is = absurd (cc)
      place_alike (PostIncrement c p) of is = absurd (cc)
      place_alike (Getline p file) of is = absurd (cc)
      place_alike (PipedGetline c p) of is = absurd (cc)
      place_alike (Unary c a) of is = absurd (cc)
      place_alike (Binary c a b) of is = absurd (cc)
      place_alike (Membership a x) of is = absurd (cc)
      place_alike (ListMembership es x) of is = absurd (cc)
      place_alike (Conditional c a b) of is = absurd (cc)
      place_alike (Assign c p a) of is = absurd (cc)

      -- subscripts
      pub key_alike : (front : List Value) (es : Exprs) → all_keep_to_record sorts.own sorts.arrays known es ≡ true → Keeps (key_of f front es) (key_of g front es)
      key_alike front Nil is = joined_alike sorts known base base' owns front
      key_alike front (Cons e es) is = then_alike _ _ (expression_alike e (left_true (keeps_to_record sorts.own sorts.arrays known e) _ is)) (λ v. key_alike (front ++ v ∷ []) es (right_true (keeps_to_record sorts.own sorts.arrays known e) _ is))

      -- the array is known behind a split
      pub split_alike : (es : Exprs) → second_is_array sorts.own sorts.arrays es ≡ true → arguments_keep_to_record sorts.own sorts.arrays known true es ≡ true → Alike sorts known (also (is_mine sorts.own sorts.arrays) (array_split es) known) base base' (eval f (BuiltIn built_in.Split es)) (eval g (BuiltIn built_in.Split es))
      split_alike (Cons text (Cons (Name a) es)) array is =
          let first = left_true (keeps_or_filled text) _ is in
          let others = right_true (keeps_or_filled (Name a)) _ (right_true (keeps_or_filled text) _ is) in
          then_where _ _ (then_with _ _ (value_taken sorts apart known base base' owns (argument_alike text first (λ keeps. expression_alike text keeps))) (λ x _.
          then_with _ _ (ret_with sorts known base base' {P = λ y. y ≡ OfArray a} (OfArray a) refl) (λ y named. pattern_alike a es (x ∷ y ∷ []) (array_split_at a x y named) others))) (λ xs split. split_fills sorts apart known base base' owns a xs array split)
      split_alike es array is = absurd (cc)

      pattern_alike : (a : List ℕ) (es : Exprs) (front : List Argument) → IsSplit a front → arguments_keep_to_record sorts.own sorts.arrays known true es ≡ true → KeepsWith (IsSplit a) (take_arguments f (AsPattern ∷ []) front es) (take_arguments g (AsPattern ∷ []) front es)
      pattern_alike a Nil front split is = ret_with sorts known base base' front split
      pattern_alike a (Cons e es) front split is =
          then_with _ _ (ere_taken sorts apart known base base' owns e (argument_alike e (left_true (keeps_or_filled e) _ is) (λ keeps. expression_alike e keeps))) (λ x _. rest_alike a es (front ++ x ∷ []) (split_append a front (x ∷ []) split) (right_true (keeps_or_filled e) _ is))

      rest_alike : (a : List ℕ) (es : Exprs) (front : List Argument) → IsSplit a front → arguments_keep_to_record sorts.own sorts.arrays known true es ≡ true → KeepsWith (IsSplit a) (take_arguments f [] front es) (take_arguments g [] front es)
      rest_alike a Nil front split is = ret_with sorts known base base' front split
      rest_alike a (Cons e es) front split is =
          then_with _ _ (value_taken sorts apart known base base' owns (argument_alike e (left_true (keeps_or_filled e) _ is) (λ keeps. expression_alike e keeps))) (λ x _. rest_alike a es (front ++ x ∷ []) (split_append a front (x ∷ []) split) (right_true (keeps_or_filled e) _ is))

      arguments_alike : (es : Exprs) (roles : List Role) (front : List Argument) → MayBeTaken sorts.own sorts.arrays roles es → all_keep_to_record sorts.own sorts.arrays known es ≡ true → AreKept sorts known front → KeepsWith (AreKept sorts known) (take_arguments f roles front es) (take_arguments g roles front es)
      arguments_alike Nil roles front may is are = ret_with sorts known base base' front are
      arguments_alike (Cons e es) [] front may is are =
          let rest = right_true (keeps_to_record sorts.own sorts.arrays known e) _ is in
          then_with _ _ (value_taken sorts apart known base base' owns (expression_alike e (left_true (keeps_to_record sorts.own sorts.arrays known e) _ is))) (λ a kept. arguments_alike es [] (front ++ a ∷ []) (values_taken sorts.own sorts.arrays es) rest (kept_append sorts known front (a ∷ []) are (kept, tt)))
      arguments_alike (Cons e es) (AsValue ∷ roles) front may is are =
          let rest = right_true (keeps_to_record sorts.own sorts.arrays known e) _ is in
          then_with _ _ (value_taken sorts apart known base base' owns (expression_alike e (left_true (keeps_to_record sorts.own sorts.arrays known e) _ is))) (λ a kept. arguments_alike es roles (front ++ a ∷ []) may rest (kept_append sorts known front (a ∷ []) are (kept, tt)))
      arguments_alike (Cons e es) (AsPattern ∷ roles) front may is are =
          let rest = right_true (keeps_to_record sorts.own sorts.arrays known e) _ is in
          then_with _ _ (ere_taken sorts apart known base base' owns e (expression_alike e (left_true (keeps_to_record sorts.own sorts.arrays known e) _ is))) (λ a kept. arguments_alike es roles (front ++ a ∷ []) may rest (kept_append sorts known front (a ∷ []) are (kept, tt)))
      arguments_alike (Cons e es) (AsMeasured ∷ roles) front may is are =
          let rest = right_true (keeps_to_record sorts.own sorts.arrays known e) _ is in
          then_with _ _ (measured sorts apart known base base' owns (bare_name e) (bare_known sorts.own sorts.arrays known e (left_true (keeps_to_record sorts.own sorts.arrays known e) _ is)) (expression_alike e (left_true (keeps_to_record sorts.own sorts.arrays known e) _ is))) (λ a kept. arguments_alike es roles (front ++ a ∷ []) may rest (kept_append sorts known front (a ∷ []) are (kept, tt)))
      arguments_alike (Cons e es) (AsPlace ∷ roles) front may is are =
          let rest = right_true (keeps_to_record sorts.own sorts.arrays known e) _ is in
          then_with _ _ (place_taken sorts apart known base base' owns (place_alike e may.0 (left_true (keeps_to_record sorts.own sorts.arrays known e) _ is))) (λ a kept. arguments_alike es roles (front ++ a ∷ []) may.1 rest (kept_append sorts known front (a ∷ []) are (kept, tt)))
      arguments_alike (Cons e es) (AsArray ∷ roles) front may is are = absurd may
