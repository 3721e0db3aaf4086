-- What adds to a sum: in range an update of its table, and else a fault.
use Rattle.std.proofs.Common.{◌≡◌, ℕ, ℤ, ◌+ℤ◌, pos, Bool, true, false, List, [], Option, Some, Ok, Err, refl, sym, ap, ◌∙◌, subst, bytes_eq, slice_set, slice_get, arith}
use Rattle.std.specs.Prelude.{unwrap_or}
use Rattle.std.proofs.lemmas.Bool.{cond-true, cond-false}
use Rattle.std.proofs.lemmas.List.{length-set}
use Rattle.awk_value.specs.declared.value.Value.{Value}
use Rattle.awk_value.specs.declared.value.Value.TheVariants as value
use Rattle.awk_value.specs.declared.fault.ValueFault.{ValueFault}
use Rattle.awk_value.specs.Arithmetic.{is_in_range}
use Rattle.awk_value.specs.Arrays.{Array, value_at, with_key}
use Rattle.awk_value.specs.Values.{num_of}
use Rattle.awk_record.specs.Record.{RecordPair}
use Rattle.awk_kinds.specs.Variables.{with_value}
use Rattle.awk_lex.specs.declared.token.IncrementOperator.TheVariants as increment
use Rattle.awk_lex.specs.declared.token.Operator.TheVariants as operator
use Rattle.awk_semantics.specs.declared.halt.Halt.TheVariants as halt
use Rattle.awk_semantics.specs.declared.fault.Fault.TheVariants as fault
use Rattle.awk_semantics.specs.definitions.State.{State, Run, go_on, ◌>>=◌, lift, gives}
use Rattle.awk_semantics.specs.definitions.Faults.{value_fault}
use Rattle.awk_semantics.specs.definitions.Operators.{applied, one}
use Rattle.awk_semantics.specs.definitions.Primitives.{number_in}
use Rattle.awk_semantics.specs.definitions.Places.{AName, AnElement, store, assign, assign_by, read_place, post_increment}
use Rattle.awk_semantics.specs.definitions.Semantics.{Functions}
use Rattle.awk_merging.specs.definitions.Gathering.{Table, updated, sums}
use Rattle.awk_merging.specs.definitions.Sums.{Sum, ByKey, Alone, name_of_sum, is_taken, Holds, numbers, number_or_none, alone}
use Rattle.awk_merging.specs.definitions.LawOfReading.{state_on, IsElsewhere, IsAside, key_for, number_at}
use Rattle.awk_merging.proofs.Gathering.{own_key}
use Rattle.awk_merging.proofs.SumArrays.{number_found, number_stored, key_stays}
use Rattle.awk_merging.proofs.Additions.{plus_at, one_more, alone_number}
use Rattle.awk_merging.proofs.Reading.{got, others_still, elements_still, element_read, element_stored, stored_read, variable_read, variable_put, alone_others, alone_updated}
use Rattle.awk_merging.proofs.Summing.{Lost}

abbrev Values : Type 0
Values = List ℕ → Value

-- the run gives something, and the number is added to the sum at the key; nothing else changed
pub record Added (base : State) (c : RecordPair) (arrays : List Array) (v : Values) (k : ℕ) (x : Sum) (table : Table ℤ) (key : List ℕ) (n : ℤ) (m : Run Value) : Type 0 where
  pub result : Value
  pub arrays_then : List Array
  pub values : Values
  pub is : m (state_on base c arrays v k) ≡ gives result (state_on base c arrays_then values k)
  pub adds : Holds (state_on base c arrays_then values k) x (updated sums table (key_for x key) n)
  pub others : (y : Sum) (other : Table ℤ) → bytes_eq (name_of_sum x) (name_of_sum y) ≡ false → Holds (state_on base c arrays v k) y other → Holds (state_on base c arrays_then values k) y other
  pub keeps : (z : List ℕ) → IsAside x z → values z ≡ v z
  pub elements : (z : List ℕ) → IsElsewhere x z → unwrap_or (slice_get arrays_then (number_in base.array_names z)) [] ≡ unwrap_or (slice_get arrays (number_in base.array_names z)) []

-- what adds the number of a value to a sum at a key, where it has one and the sum stays in range
pub record Adder (x : Sum) (key : List ℕ) (w : Value) (m : Run Value) : Type 0 where
  pub within : (base : State) (c : RecordPair) (arrays : List Array) (v : Values) (k : ℕ) (table : Table ℤ) (n : ℤ) → Holds (state_on base c arrays v k) x table → num_of w ≡ Ok n → is_in_range (number_at table (key_for x key) +ℤ n) ≡ true → Added base c arrays v k x table key n m
  pub outside : (base : State) (c : RecordPair) (arrays : List Array) (v : Values) (k : ℕ) (table : Table ℤ) (n : ℤ) → Holds (state_on base c arrays v k) x table → num_of w ≡ Ok n → is_in_range (number_at table (key_for x key) +ℤ n) ≡ false → Lost (m (state_on base c arrays v k))
  pub no_number : (base : State) (c : RecordPair) (arrays : List Array) (v : Values) (k : ℕ) (table : Table ℤ) (f : ValueFault) → Holds (state_on base c arrays v k) x table → num_of w ≡ Err f → (m (state_on base c arrays v k)).result ≡ Err (halt.Fault (value_fault f))

-- sums that leave the range, and numbers that can't be had

plus_over : (table : Table ℤ) (key : List ℕ) (n : ℤ) (w : Value) → num_of w ≡ Ok n → is_in_range (number_at table key +ℤ n) ≡ false → applied operator.Plus (unwrap_or (value_at (numbers table) key) value.Nothing) w ≡ Err (halt.Fault fault.NumberOutOfRange)
plus_over table key n w is over = rw (number_found table key, is, over) refl

plus_none : (table : Table ℤ) (key : List ℕ) (w : Value) (f : ValueFault) → num_of w ≡ Err f → applied operator.Plus (unwrap_or (value_at (numbers table) key) value.Nothing) w ≡ Err (halt.Fault (value_fault f))
plus_none table key w f is = rw (number_found table key, is) refl

one_over : (m : ℤ) → is_in_range (m +ℤ pos 1) ≡ false → applied operator.Plus (value.Number m) one ≡ Err (halt.Fault fault.NumberOutOfRange)
one_over m over = rw over refl

plus_alone : (m : Option ℤ) (n : ℤ) (w : Value) → num_of w ≡ Ok n → is_in_range (number_at (alone m) [] +ℤ n) ≡ true → applied operator.Plus (number_or_none m) w ≡ Ok (value.Number (number_at (alone m) [] +ℤ n))
plus_alone m n w is fits = rw (alone_number m, is, fits) refl

alone_over : (m : Option ℤ) (n : ℤ) (w : Value) → num_of w ≡ Ok n → is_in_range (number_at (alone m) [] +ℤ n) ≡ false → applied operator.Plus (number_or_none m) w ≡ Err (halt.Fault fault.NumberOutOfRange)
alone_over m n w is over = rw (alone_number m, is, over) refl

alone_none : (m : Option ℤ) (w : Value) (f : ValueFault) → num_of w ≡ Err f → applied operator.Plus (number_or_none m) w ≡ Err (halt.Fault (value_fault f))
alone_none m w f is = rw (alone_number m, is) refl

one_is : (n : ℤ) → num_of one ≡ Ok n → pos 1 ≡ n
one_is n is = cc

no_fault : (f : ValueFault) → num_of one ≡ Err f → ⊥
no_fault f is = cc

module _ (functions : Functions) where
  module _ (a : List ℕ) (base : State) (c : RecordPair) (arrays : List Array) (v : Values) (k : ℕ) (table : Table ℤ) (holds : Holds (state_on base c arrays v k) (ByKey a) table) where
    abbrev set : List ℕ → ℤ → List Array
    set key n = slice_set arrays (number_in base.array_names a) (numbers (updated sums table key n))

    -- the array is updated
    element_added : (key : List ℕ) (n : ℤ) (result : Value) (m : Run Value) → m (state_on base c arrays v k) ≡ gives result (state_on base c (set key n) v k) → Added base c arrays v k (ByKey a) table key n m
    element_added key n result m is = record {
      result = result;
      arrays_then = set key n;
      values = v;
      is = is;
      adds = (holds.0, omega (arith, holds.1, length-set arrays (number_in base.array_names a) (numbers (updated sums table key n))), got functions base c arrays a table v k holds (numbers (updated sums table key n)));
      others = others_still functions base c arrays a table v k holds key n;
      keeps = λ z e. refl;
      elements = elements_still functions base c arrays a table v k holds key n;
    }

    plus_within : (key : List ℕ) (n : ℤ) (w : Value) → num_of w ≡ Ok n → is_in_range (number_at table key +ℤ n) ≡ true → Added base c arrays v k (ByKey a) table key n (assign_by (Some operator.Plus) (AnElement a key) w)
    unfolding assign_by assign store read_place lift ◌>>=◌ go_on
    plus_within key n w is fits =
        element_added key n (unwrap_or (value_at (numbers (updated sums table key n)) key) value.Nothing) (assign_by (Some operator.Plus) (AnElement a key) w)
        (rw (
          element_read functions base c arrays a table v k holds key,
          plus_at table key n w is fits,
          element_stored functions base c arrays a table v k holds (with_key (numbers table) key) key (value.Number (number_at table key +ℤ n)),
          number_stored table key n,
          stored_read functions base c arrays a table v k holds (numbers (updated sums table key n)) key,
          key_stays table key n,
        ) refl)

    plus_outside : (key : List ℕ) (n : ℤ) (w : Value) → num_of w ≡ Ok n → is_in_range (number_at table key +ℤ n) ≡ false → Lost (assign_by (Some operator.Plus) (AnElement a key) w (state_on base c arrays v k))
    unfolding assign_by read_place lift ◌>>=◌ go_on
    plus_outside key n w is over = rw (element_read functions base c arrays a table v k holds key, plus_over table key n w is over) refl

    plus_no_number : (key : List ℕ) (w : Value) (f : ValueFault) → num_of w ≡ Err f → (assign_by (Some operator.Plus) (AnElement a key) w (state_on base c arrays v k)).result ≡ Err (halt.Fault (value_fault f))
    unfolding assign_by read_place lift ◌>>=◌ go_on
    plus_no_number key w f is = rw (element_read functions base c arrays a table v k holds key, plus_none table key w f is) refl

    post_within : (key : List ℕ) → is_in_range (number_at table key +ℤ pos 1) ≡ true → Added base c arrays v k (ByKey a) table key (pos 1) (post_increment increment.Increment (AnElement a key))
    unfolding post_increment store read_place lift ◌>>=◌ go_on
    post_within key fits =
        element_added key (pos 1) (value.Number (number_at table key)) (post_increment increment.Increment (AnElement a key))
        (rw (
          element_read functions base c arrays a table v k holds key,
          number_found table key,
          one_more (number_at table key) fits,
          element_stored functions base c arrays a table v k holds (with_key (numbers table) key) key (value.Number (number_at table key +ℤ pos 1)),
          number_stored table key (pos 1),
        ) refl)

    post_outside : (key : List ℕ) → is_in_range (number_at table key +ℤ pos 1) ≡ false → Lost (post_increment increment.Increment (AnElement a key) (state_on base c arrays v k))
    unfolding post_increment read_place lift ◌>>=◌ go_on
    post_outside key over = rw (element_read functions base c arrays a table v k holds key, number_found table key, one_over (number_at table key) over) refl

  pub plus_by_key : (a key : List ℕ) (w : Value) → Adder (ByKey a) key w (assign_by (Some operator.Plus) (AnElement a key) w)
  plus_by_key a key w = record {
    within = λ base c arrays v k table n holds is fits. plus_within a base c arrays v k table holds key n w is fits;
    outside = λ base c arrays v k table n holds is over. plus_outside a base c arrays v k table holds key n w is over;
    no_number = λ base c arrays v k table f holds is. plus_no_number a base c arrays v k table holds key w f is;
  }

  pub post_by_key : (a key : List ℕ) → Adder (ByKey a) key one (post_increment increment.Increment (AnElement a key))
  post_by_key a key = record {
    within = λ base c arrays v k table n holds is fits.
        let e = one_is n is in
        subst (λ (z : ℤ). Added base c arrays v k (ByKey a) table key z (post_increment increment.Increment (AnElement a key))) e
        (post_within a base c arrays v k table holds key (ap (λ (z : ℤ). is_in_range (number_at table key +ℤ z)) e ∙ fits));
    outside = λ base c arrays v k table n holds is over. post_outside a base c arrays v k table holds key (ap (λ (z : ℤ). is_in_range (number_at table key +ℤ z)) (one_is n is) ∙ over);
    no_number = λ base c arrays v k table f holds is. absurd (no_fault f is);
  }

  module _ (x : List ℕ) (proper : is_taken x ≡ false) (base : State) (c : RecordPair) (arrays : List Array) (v : Values) (k : ℕ) (m : Option ℤ) (is_m : v x ≡ number_or_none m) where
    abbrev old : ℤ
    old = number_at (alone m) []

    variable_added : (n : ℤ) (result : Value) (r : Run Value) → r (state_on base c arrays v k) ≡ gives result (state_on base c arrays (with_value v x (value.Number (old +ℤ n))) k) → Added base c arrays v k (Alone x) (alone m) [] n r
    variable_added n result r is = record {
      result = result;
      arrays_then = arrays;
      values = with_value v x (value.Number (old +ℤ n));
      is = is;
      adds = (Some (old +ℤ n), cond-true _ _ _ (own_key x), alone_updated m n);
      others = alone_others functions base c arrays x proper v k (value.Number (old +ℤ n));
      keeps = λ z e. cond-false _ _ _ e;
      elements = λ z e. refl;
    }

    sum_within : (n : ℤ) (w : Value) → num_of w ≡ Ok n → is_in_range (old +ℤ n) ≡ true → Added base c arrays v k (Alone x) (alone m) [] n (assign_by (Some operator.Plus) (AName x) w)
    unfolding assign_by assign store read_place lift ◌>>=◌ go_on
    sum_within n w is fits =
        variable_added n (value.Number (old +ℤ n)) (assign_by (Some operator.Plus) (AName x) w)
        (rw (
          variable_read functions base c arrays x proper v k v,
          is_m,
          plus_alone m n w is fits,
          variable_put functions base c arrays x proper v k (value.Number (old +ℤ n)),
          variable_read functions base c arrays x proper v k (with_value v x (value.Number (old +ℤ n))),
          own_key x,
        ) refl)

    sum_outside : (n : ℤ) (w : Value) → num_of w ≡ Ok n → is_in_range (old +ℤ n) ≡ false → Lost (assign_by (Some operator.Plus) (AName x) w (state_on base c arrays v k))
    unfolding assign_by read_place lift ◌>>=◌ go_on
    sum_outside n w is over = rw (variable_read functions base c arrays x proper v k v, is_m, alone_over m n w is over) refl

    sum_no_number : (w : Value) (f : ValueFault) → num_of w ≡ Err f → (assign_by (Some operator.Plus) (AName x) w (state_on base c arrays v k)).result ≡ Err (halt.Fault (value_fault f))
    unfolding assign_by read_place lift ◌>>=◌ go_on
    sum_no_number w f is = rw (variable_read functions base c arrays x proper v k v, is_m, alone_none m w f is) refl

    count_within : is_in_range (old +ℤ pos 1) ≡ true → Added base c arrays v k (Alone x) (alone m) [] (pos 1) (post_increment increment.Increment (AName x))
    unfolding post_increment store read_place lift ◌>>=◌ go_on
    count_within fits =
        variable_added (pos 1) (value.Number old) (post_increment increment.Increment (AName x))
        (rw (variable_read functions base c arrays x proper v k v, is_m, alone_number m, one_more old fits, variable_put functions base c arrays x proper v k (value.Number (old +ℤ pos 1))) refl)

    count_outside : is_in_range (old +ℤ pos 1) ≡ false → Lost (post_increment increment.Increment (AName x) (state_on base c arrays v k))
    unfolding post_increment read_place lift ◌>>=◌ go_on
    count_outside over = rw (variable_read functions base c arrays x proper v k v, is_m, alone_number m, one_over old over) refl

  module _ (x : List ℕ) (proper : is_taken x ≡ false) where
    abbrev fits_in : Table ℤ → ℤ → Bool
    fits_in t n = is_in_range (number_at t [] +ℤ n)

    pub plus_alone_to : (w : Value) → Adder (Alone x) [] w (assign_by (Some operator.Plus) (AName x) w)
    plus_alone_to w = record {
      within = λ base c arrays v k table n holds is fits.
          subst (λ (t : Table ℤ). Added base c arrays v k (Alone x) t [] n (assign_by (Some operator.Plus) (AName x) w)) (sym holds.2)
          (sum_within x proper base c arrays v k holds.0 holds.1 n w is (subst (λ (t : Table ℤ). fits_in t n ≡ true) holds.2 fits));
      outside = λ base c arrays v k table n holds is over. sum_outside x proper base c arrays v k holds.0 holds.1 n w is (subst (λ (t : Table ℤ). fits_in t n ≡ false) holds.2 over);
      no_number = λ base c arrays v k table f holds is. sum_no_number x proper base c arrays v k holds.0 holds.1 w f is;
    }

    pub post_alone : Adder (Alone x) [] one (post_increment increment.Increment (AName x))
    post_alone = record {
      within = λ base c arrays v k table n holds is fits.
          let e = one_is n is in
          subst (λ (z : ℤ). Added base c arrays v k (Alone x) table [] z (post_increment increment.Increment (AName x))) e
          (subst (λ (t : Table ℤ). Added base c arrays v k (Alone x) t [] (pos 1) (post_increment increment.Increment (AName x))) (sym holds.2)
          (count_within x proper base c arrays v k holds.0 holds.1 (ap (λ (z : ℤ). fits_in (alone holds.0) z) e ∙ subst (λ (t : Table ℤ). fits_in t n ≡ true) holds.2 fits)));
      outside = λ base c arrays v k table n holds is over.
          count_outside x proper base c arrays v k holds.0 holds.1 (ap (λ (z : ℤ). fits_in (alone holds.0) z) (one_is n is) ∙ subst (λ (t : Table ℤ). fits_in t n ≡ false) holds.2 over);
      no_number = λ base c arrays v k table f holds is. absurd (no_fault f is);
    }
