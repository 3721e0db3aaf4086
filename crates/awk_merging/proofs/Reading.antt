-- What the rules that read cells do on each line of a cell.
use Rattle.std.proofs.Common.{◌≡◌, ◌≢◌, inl, inr, ℕ, suc, ℤ, ◌+ℤ◌, pos, Bool, true, false, List, [], ◌∷◌, Option, Some, None, Ok, refl, sym, ap, ◌∙◌, subst, codes, bytes_eq, slice_set, slice_get, append-nil, arith}
use Rattle.std.specs.Prelude.{unwrap_or}
use Rattle.std.specs.Fmt.{signed_decimal}
use Rattle.std.specs.Ordering.{nat_cmp, int_cmp, is_eq}
use Rattle.std.specs.declared.cmp.Ordering.{Ordering}
use Rattle.std.specs.declared.cmp.Ordering.TheVariants as ordering
use Rattle.std.proofs.lemmas.Map.Text.{is_eq-slice_cmp}
use Rattle.std.specs.Cmp.Lexicographic.{slice_cmp}
use Rattle.std.proofs.lemmas.Bool.{cases_Bool, cond-true, cond-false}
use Rattle.std.proofs.lemmas.List.{length-set, get_or-set_same, get_or-set_other, set-set}
use Rattle.std.proofs.lemmas.Option.{unwrap_or-slice_get}
use Rattle.awk_value.specs.declared.value.Value.{Value}
use Rattle.awk_value.specs.declared.value.Value.TheVariants as value
use Rattle.awk_value.specs.Arithmetic.{is_in_range}
use Rattle.awk_value.specs.Numbers.{numeric_text}
use Rattle.awk_value.specs.Values.{truth_of, order_by, order_of}
use Rattle.awk_value.specs.Arrays.{Array, value_at, with_pair, with_key}
use Rattle.awk_record.specs.Record.{RecordPair}
use Rattle.awk_kinds.specs.Variables.{with_value, is_refused}
use Rattle.awk_kinds.specs.Names.{has_name}
use Rattle.awk_lex.specs.declared.token.AssignmentOperator.TheVariants as assignment
use Rattle.awk_lex.specs.declared.token.Operator.TheVariants as operator
use Rattle.awk_grammar.specs.Tree.{Assign, Name, Simple, Next}
use Rattle.awk_semantics.specs.declared.flow.Flow.TheVariants as flow
use Rattle.awk_semantics.specs.declared.halt.Halt.TheVariants as halt
use Rattle.awk_semantics.specs.definitions.State.{State, Out, go_on, ◌>>=◌, lift, gives, ends}
use Rattle.awk_semantics.specs.definitions.Operators.{applied, relates, truth_value}
use Rattle.awk_semantics.specs.definitions.Primitives.{put, put_outside, spend, read_name, read_field, read_element, read_element_at, store_element, store_element_at, joined_key, number_in}
use Rattle.awk_semantics.specs.definitions.Places.{AnElement, store, assign, assign_by, read_place}
use Rattle.awk_semantics.specs.definitions.Semantics.{Functions, eval, place_of, key_of, tested, exec, exec_all, exec_simple}
use Rattle.awk_semantics.specs.definitions.Items.{selects, run_action, try_item, try_items}
use Rattle.awk_merging.specs.definitions.Gathering.{Table, updated, sums}
use Rattle.awk_merging.specs.definitions.Sums.{Sum, ByKey, Alone, name_of_sum, merge_what, merge_key, line_is, keep_as, is_what, whole_record, add_record, at_merge_key, place_of_sum, read_sums, reading_rules, numbers, number_or_none, alone, is_taken, Holds}
use Rattle.awk_merging.proofs.Gathering.{same_key, own_key, not_both}
use Rattle.awk_merging.proofs.Decimals.{read_again}
use Rattle.awk_merging.proofs.Cells.{apart_from_taken}
use Rattle.awk_merging.proofs.Sound.{is_aside, other_number}
use Rattle.awk_merging.proofs.SumArrays.{from_zero, number_found, number_stored, key_stays}
use Rattle.awk_merging.specs.definitions.LawOfReading.{state_on, IsLineOf, IsUnnamed, IsAmong, IsElsewhere, IsAside, key_for, number_at, IsAdded, Adds, LawOfReading}

-- how a text from outside and one of the program compare

truth_back : (b : Bool) → truth_of (truth_value b) ≡ b
truth_back true = refl
truth_back false = refl

by_texts : (o : Option ℤ) (s t : List ℕ) → order_by o None s t ≡ slice_cmp nat_cmp s t
by_texts None s t = refl
by_texts (Some n) s t = refl

equal_is : (o : Ordering) → relates operator.Equal o ≡ is_eq o
equal_is ordering.Less = refl
equal_is ordering.Equal = refl
equal_is ordering.Greater = refl

equal_texts : (s t : List ℕ) → relates operator.Equal (order_of (value.Input s) (value.Text t)) ≡ bytes_eq s t
equal_texts s t = ap (relates operator.Equal) (by_texts (numeric_text s) s t) ∙ equal_is (slice_cmp nat_cmp s t) ∙ is_eq-slice_cmp s t

-- sums that stay in range

sum_is : (table : Table ℤ) (key : List ℕ) (n : ℤ) (text : List ℕ) → text ≡ signed_decimal n → is_in_range n ≡ true → is_in_range (number_at table key +ℤ n) ≡ true → applied operator.Plus (unwrap_or (value_at (numbers table) key) value.Nothing) (value.Input text) ≡ Ok (value.Number (number_at table key +ℤ n))
sum_is table key n text is fits sum_fits = rw (number_found table key, is, read_again n fits, sum_fits) refl

alone_sum : (m : Option ℤ) (n : ℤ) (text : List ℕ) → text ≡ signed_decimal n → is_in_range n ≡ true → is_in_range (number_at (alone m) [] +ℤ n) ≡ true → applied operator.Plus (number_or_none m) (value.Input text) ≡ Ok (value.Number (number_at (alone m) [] +ℤ n))
alone_sum None n text is fits sum_fits = rw (is, read_again n fits, sum_fits) refl
alone_sum (Some m) n text is fits sum_fits = rw (is, read_again n fits, sum_fits) refl

pub alone_updated : (m : Option ℤ) (n : ℤ) → updated sums (alone m) [] n ≡ alone (Some (number_at (alone m) [] +ℤ n))
alone_updated None n = ap (λ (z : ℤ). ([], z) ∷ []) (sym (from_zero n))
alone_updated (Some m) n = refl

-- arrays of two names have two numbers
same_number : (names : List (List ℕ)) (a b : List ℕ) → has_name names a ≡ true → has_name names b ≡ true → number_in names a ≡ number_in names b → bytes_eq a b ≡ true
same_number [] a b has_a has_b same = cc
same_number (y ∷ ys) a b has_a has_b same = elim (cases_Bool (bytes_eq a y)) [
  | inl a_is ↦ elim (cases_Bool (bytes_eq b y)) [
    | inl b_is ↦ rw (same_key a y a_is, same_key b y b_is) (own_key y)
    | inr b_not ↦ let bad : 0 ≡ suc (number_in ys b) = sym (cond-true _ _ _ a_is) ∙ same ∙ cond-false _ _ _ b_not in absurd (omega (arith, bad))
  ]
  | inr a_not ↦ elim (cases_Bool (bytes_eq b y)) [
    | inl b_is ↦ let bad : suc (number_in ys a) ≡ 0 = sym (cond-false _ _ _ a_not) ∙ same ∙ cond-true _ _ _ b_is in absurd (omega (arith, bad))
    | inr b_not ↦
        let next : suc (number_in ys a) ≡ suc (number_in ys b) = sym (cond-false _ _ _ a_not) ∙ same ∙ cond-false _ _ _ b_not in
        same_number ys a b (rw a_not at has_a) (rw b_not at has_b) (omega (arith, next))
  ]
]

module _ (functions : Functions) (base : State) (c : RecordPair) (arrays : List Array) where
  abbrev at : (List ℕ → Value) → ℕ → State
  at = state_on base c arrays

  -- whether the record is this line
  line_tested : (m : ℕ) (v : List ℕ → Value) (k line other : ℕ) (b : Bool) → truth_of (truth_value (relates operator.Equal (int_cmp (pos line) (pos other)))) ≡ b → IsLineOf v line → selects functions m (line_is other) (at v k) ≡ gives b (at v k)
  unfolding selects tested eval read_name lift ◌>>=◌ go_on
  line_tested m v k line other b test is = rw (is, test) refl

  what_kept : (v : List ℕ → Value) (k : ℕ) → exec functions (keep_as merge_what) (at v (suc k)) ≡ gives flow.Normal (at (with_value v merge_what (value.Input c.text)) k)
  unfolding exec exec_simple spend eval place_of read_field read_name put put_outside store assign assign_by read_place lift ◌>>=◌ go_on
  what_kept v k = refl

  key_kept : (v : List ℕ → Value) (k : ℕ) → exec functions (keep_as merge_key) (at v (suc k)) ≡ gives flow.Normal (at (with_value v merge_key (value.Input c.text)) k)
  unfolding exec exec_simple spend eval place_of read_field read_name put put_outside store assign assign_by read_place lift ◌>>=◌ go_on
  key_kept v k = refl

  next_is : (v : List ℕ → Value) (k : ℕ) → exec functions (Simple Next) (at v (suc k)) ≡ ends halt.Next (at v k)
  unfolding exec exec_simple spend lift ◌>>=◌ go_on
  next_is v k = refl

  first_is : (m : ℕ) (xs : List Sum) (v : List ℕ → Value) (k : ℕ) → IsLineOf v 1 → try_items functions m (reading_rules xs) (at v (suc (suc k))) ≡ ends halt.Next (at (with_value v merge_what (value.Input c.text)) k)
  unfolding try_items try_item run_action exec_all exec lift ◌>>=◌ go_on
  first_is m xs v k is = rw (line_tested m v (suc (suc k)) 1 1 true refl is, what_kept v (suc k), next_is (with_value v merge_what (value.Input c.text)) k) refl

  second_is : (m : ℕ) (xs : List Sum) (v : List ℕ → Value) (k : ℕ) → IsLineOf v 2 → try_items functions m (reading_rules xs) (at v (suc (suc k))) ≡ ends halt.Next (at (with_value v merge_key (value.Input c.text)) k)
  unfolding try_items try_item run_action exec_all exec lift ◌>>=◌ go_on
  second_is m xs v k is =
      rw (line_tested m v (suc (suc k)) 2 1 false refl is, line_tested (suc m) v (suc (suc k)) 2 2 true refl is, key_kept v (suc k), next_is (with_value v merge_key (value.Input c.text)) k) refl

  -- on the third line the rules of the sums are tried
  third_tries : (m : ℕ) (xs : List Sum) (v : List ℕ → Value) (k : ℕ) → IsLineOf v 0 → try_items functions m (reading_rules xs) (at v k) ≡ try_items functions (suc (suc m)) (read_sums xs) (at v k)
  unfolding try_items try_item lift ◌>>=◌ go_on
  third_tries m xs v k is = rw (line_tested m v k 0 1 false refl is, line_tested (suc m) v k 0 2 false refl is) refl

  -- a rule is selected by the sum's name
  name_tested : (m : ℕ) (what name : List ℕ) (v : List ℕ → Value) (k : ℕ) (b : Bool) → v merge_what ≡ value.Input what → bytes_eq what name ≡ b → selects functions m (is_what name) (at v k) ≡ gives b (at v k)
  unfolding selects tested eval read_name lift ◌>>=◌ go_on
  name_tested m what name v k b is same = rw is (ap (λ (x : Bool). gives x (at v k)) (truth_back _ ∙ equal_texts what name ∙ same))

  unnamed_pass : (m : ℕ) (what : List ℕ) (xs : List Sum) (v : List ℕ → Value) (k : ℕ) → v merge_what ≡ value.Input what → IsUnnamed what xs → try_items functions m (read_sums xs) (at v k) ≡ gives (tt {0}) (at v k)
  unfolding try_items try_item lift ◌>>=◌ go_on
  unnamed_pass m what [] v k is un = refl
  unnamed_pass m what (x ∷ xs) v k is un = rw (name_tested m what (name_of_sum x) v k false is un.0, unnamed_pass (suc m) what xs v k is un.1) refl

  -- one rule adds to its sum
  record Added (v : List ℕ → Value) (k : ℕ) (x : Sum) (table : Table ℤ) (key : List ℕ) (n : ℤ) : Type 0 where
    arrays_then : List Array
    values : List ℕ → Value
    is : exec functions (add_record (place_of_sum x)) (at v (suc k)) ≡ gives flow.Normal (state_on base c arrays_then values k)
    adds : Holds (state_on base c arrays_then values k) x (updated sums table (key_for x key) n)
    keeps : (z : List ℕ) → IsAside x z → values z ≡ v z
    others : (y : Sum) (other : Table ℤ) → bytes_eq (name_of_sum x) (name_of_sum y) ≡ false → Holds (at v k) y other → Holds (state_on base c arrays_then values k) y other
    elsewhere : (z : List ℕ) → IsElsewhere x z → unwrap_or (slice_get arrays_then (number_in base.array_names z)) [] ≡ unwrap_or (slice_get arrays (number_in base.array_names z)) []

  module _ (a : List ℕ) (table : Table ℤ) (v : List ℕ → Value) (k : ℕ) (holds : Holds (at v k) (ByKey a) table) where
    abbrev here : ℕ
    here = number_in base.array_names a

    abbrev behind : List ℕ → ℤ → List Array
    behind key n = slice_set arrays here (numbers (updated sums table key n))

    pub got : (array : Array) → unwrap_or (slice_get (slice_set arrays here array) here) [] ≡ array
    got array = unwrap_or-slice_get (slice_set arrays here array) here [] ∙ get_or-set_same arrays here array [] holds.1

    pub element_read : (key : List ℕ) → read_element a key (at v k) ≡ gives (unwrap_or (value_at (numbers table) key) value.Nothing) (state_on base c (slice_set arrays here (with_key (numbers table) key)) v k)
    unfolding read_element read_element_at
    element_read key = rw holds.2 refl

    pub element_stored : (array : Array) (key : List ℕ) (w : Value) → store_element a key w (state_on base c (slice_set arrays here array) v k) ≡ gives (tt {0}) (state_on base c (slice_set arrays here (with_pair array key w)) v k)
    unfolding store_element store_element_at
    element_stored array key w = rw (got array, set-set arrays here array (with_pair array key w)) refl

    pub stored_read : (array : Array) (key : List ℕ) → read_element a key (state_on base c (slice_set arrays here array) v k) ≡ gives (unwrap_or (value_at array key) value.Nothing) (state_on base c (slice_set arrays here (with_key array key)) v k)
    unfolding read_element read_element_at
    stored_read array key = rw (got array, set-set arrays here array (with_key array key)) refl

    place_is : (key : List ℕ) → v merge_key ≡ value.Input key → place_of functions (at_merge_key a) (at v k) ≡ gives (AnElement a key) (at v k)
    unfolding place_of key_of eval read_name joined_key lift ◌>>=◌ go_on
    place_is key is = rw (is, append-nil key) refl

    record_is : eval functions whole_record (at v k) ≡ gives (value.Input c.text) (at v k)
    unfolding eval read_field lift ◌>>=◌ go_on
    record_is = refl

    key_added : (key : List ℕ) (n : ℤ) → v merge_key ≡ value.Input key → applied operator.Plus (unwrap_or (value_at (numbers table) key) value.Nothing) (value.Input c.text) ≡ Ok (value.Number (number_at table key +ℤ n)) →
        eval functions (Assign assignment.Add (at_merge_key a) whole_record) (at v k) ≡ gives (unwrap_or (value_at (numbers (updated sums table key n)) key) value.Nothing) (state_on base c (behind key n) v k)
    unfolding eval store assign assign_by read_place lift ◌>>=◌ go_on
    key_added key n is sum =
        rw (
          place_is key is,
          record_is,
          element_read key,
          sum,
          element_stored (with_key (numbers table) key) key (value.Number (number_at table key +ℤ n)),
          number_stored table key n,
          stored_read (numbers (updated sums table key n)) key,
          key_stays table key n,
        ) refl

    statement_added : (key : List ℕ) (n : ℤ) → v merge_key ≡ value.Input key → applied operator.Plus (unwrap_or (value_at (numbers table) key) value.Nothing) (value.Input c.text) ≡ Ok (value.Number (number_at table key +ℤ n)) →
        exec functions (add_record (at_merge_key a)) (at v (suc k)) ≡ gives flow.Normal (state_on base c (behind key n) v k)
    unfolding exec exec_simple spend lift ◌>>=◌ go_on
    statement_added key n is sum = rw (key_added key n is sum) refl

    pub others_still : (key : List ℕ) (n : ℤ) (y : Sum) (other : Table ℤ) → bytes_eq a (name_of_sum y) ≡ false → Holds (at v k) y other → Holds (state_on base c (behind key n) v k) y other
    others_still key n (Alone x) other apart has = has
    others_still key n (ByKey b) other apart has =
        let there : ℕ = number_in base.array_names b in
        let set : List Array = behind key n in
        let elsewhere : there ≢ here = λ same. not_both (bytes_eq a b) (same_number base.array_names a b holds.0 has.0 (sym same)) apart in (
          has.0,
          omega (arith, has.1, length-set arrays here (numbers (updated sums table key n))),
          unwrap_or-slice_get set there [] ∙ get_or-set_other arrays here there (numbers (updated sums table key n)) [] elsewhere ∙ sym (unwrap_or-slice_get arrays there []) ∙ has.2,
        )

    pub elements_still : (key : List ℕ) (n : ℤ) (z : List ℕ) → bytes_eq a z ≡ false → unwrap_or (slice_get (behind key n) (number_in base.array_names z)) [] ≡ unwrap_or (slice_get arrays (number_in base.array_names z)) []
    elements_still key n z apart =
        unwrap_or-slice_get (behind key n) (number_in base.array_names z) []
        ∙ get_or-set_other arrays here (number_in base.array_names z) (numbers (updated sums table key n)) [] (other_number base.array_names a z holds.0 apart)
        ∙ sym (unwrap_or-slice_get arrays (number_in base.array_names z) [])

    by_key_adds : (key : List ℕ) (n : ℤ) → IsAdded c v (ByKey a) table key n → Added v k (ByKey a) table key n
    by_key_adds key n added = record {
      arrays_then = behind key n;
      values = v;
      is = statement_added key n added.key_is (sum_is table key n c.text added.text added.fits added.sum_fits);
      adds = (holds.0, omega (arith, holds.1, length-set arrays here (numbers (updated sums table key n))), got (numbers (updated sums table key n)));
      keeps = λ z e. refl;
      others = others_still key n;
      elsewhere = elements_still key n;
    }

  module _ (x : List ℕ) (proper : is_taken x ≡ false) (v : List ℕ → Value) (k : ℕ) where
    pub variable_read : (u : List ℕ → Value) → read_name x (at u k) ≡ gives (u x) (at u k)
    unfolding read_name
    variable_read u = rw (apart_from_taken x (codes "NF") proper refl) refl

    not_refused : (s : Value) → is_refused x s ≡ false
    not_refused s = rw (apart_from_taken x (codes "FS") proper refl) refl

    pub variable_put : (s : Value) → put x s (at v k) ≡ gives (tt {0}) (at (with_value v x s) k)
    unfolding put put_outside
    variable_put s = rw (apart_from_taken x (codes "NF") proper refl, not_refused s) refl

    variable_added : (w : Value) (s : Value) → v x ≡ w → applied operator.Plus w (value.Input c.text) ≡ Ok s → exec functions (add_record (Name x)) (at v (suc k)) ≡ gives flow.Normal (at (with_value v x s) k)
    unfolding exec exec_simple spend eval place_of read_field store assign assign_by read_place lift ◌>>=◌ go_on
    variable_added w s is sum = rw (variable_read v, is, sum, variable_put s, variable_read (with_value v x s)) refl

    pub alone_others : (s : Value) (y : Sum) (other : Table ℤ) → bytes_eq x (name_of_sum y) ≡ false → Holds (at v k) y other → Holds (at (with_value v x s) k) y other
    alone_others s (ByKey b) other apart has = has
    alone_others s (Alone y) other apart has = (has.0, cond-false _ _ _ apart ∙ has.1, has.2)

    alone_adds : (table : Table ℤ) (key : List ℕ) (n : ℤ) → Holds (at v k) (Alone x) table → IsAdded c v (Alone x) table key n → Added v k (Alone x) table key n
    alone_adds table key n holds added =
        let sum : ℤ = number_at table [] +ℤ n in
        let plus : applied operator.Plus (v x) (value.Input c.text) ≡ Ok (value.Number sum) = rw (holds.1, holds.2) (alone_sum holds.0 n c.text added.text added.fits (subst (λ (t : Table ℤ). is_in_range (number_at t [] +ℤ n) ≡ true) holds.2 added.sum_fits)) in
        record {
          arrays_then = arrays;
          values = with_value v x (value.Number sum);
          is = variable_added (v x) (value.Number sum) refl plus;
          adds = (Some sum, cond-true _ _ _ (own_key x), rw holds.2 (alone_updated holds.0 n));
          keeps = λ z e. cond-false _ _ _ e;
          others = alone_others (value.Number sum);
          elsewhere = λ z e. refl;
        }

  sum_adds : (x : Sum) (table : Table ℤ) (key : List ℕ) (n : ℤ) (v : List ℕ → Value) (k : ℕ) → is_taken (name_of_sum x) ≡ false → Holds (at v k) x table → IsAdded c v x table key n → Added v k x table key n
  sum_adds (ByKey a) table key n v k proper holds added = by_key_adds a table v k holds key n added
  sum_adds (Alone x) table key n v k proper holds added = alone_adds x proper v k table key n holds added

-- the rules of all sums
module _ (functions : Functions) (base : State) (c : RecordPair) (arrays : List Array) (x : Sum) (table : Table ℤ) (key : List ℕ) (n : ℤ) (v : List ℕ → Value) (k : ℕ) (proper : is_taken (name_of_sum x) ≡ false) (holds : Holds (state_on base c arrays v k) x table) (added : IsAdded c v x table key n) where
  abbrev Does : Out (Unit {0}) → Type 0
  Does out = Adds base c arrays v k x table key n out

  own_tried : (m : ℕ) (ys : List Sum) → IsUnnamed (name_of_sum x) ys → Does (try_items functions m (read_sums (x ∷ ys)) (state_on base c arrays v (suc k)))
  unfolding try_items try_item run_action exec_all lift ◌>>=◌ go_on
  own_tried m ys unnamed =
      let one = sum_adds functions base c arrays x table key n v k proper holds added in
      let what : one.values merge_what ≡ value.Input (name_of_sum x) = one.keeps merge_what (is_aside x merge_what (apart_from_taken (name_of_sum x) merge_what proper refl)) ∙ added.what in
      rw (
        name_tested functions base c arrays m (name_of_sum x) (name_of_sum x) v (suc k) true added.what (own_key (name_of_sum x)),
        one.is,
        unnamed_pass functions base c one.arrays_then (suc m) (name_of_sum x) ys one.values k what unnamed,
      ) (record { arrays_then = one.arrays_then; values = one.values; is = refl; adds = one.adds; keeps = one.keeps; others = one.others; elsewhere = one.elsewhere })

  tries : (m : ℕ) (xs : List Sum) → IsAmong x xs → Does (try_items functions m (read_sums xs) (state_on base c arrays v (suc k)))
  unfolding try_items try_item lift ◌>>=◌ go_on
  tries m [] among = absurd among
  tries m (y ∷ ys) (inl is) = subst (λ (z : Sum). Does (try_items functions m (read_sums (z ∷ ys)) (state_on base c arrays v (suc k)))) is.0 (own_tried m ys is.1)
  tries m (y ∷ ys) (inr later) = rw (name_tested functions base c arrays m (name_of_sum x) (name_of_sum y) v (suc k) false added.what later.0) (tries (suc m) ys later.1)

pub law_of_reading : LawOfReading
law_of_reading = record {
  first = λ functions m xs base c arrays v k is. first_is functions base c arrays m xs v k is;
  second = λ functions m xs base c arrays v k is. second_is functions base c arrays m xs v k is;
  third = λ functions m xs base c arrays v k x table key n among proper holds added.
      subst (λ (out : Out (Unit {0})). Adds base c arrays v k x table key n out) (sym (third_tries functions base c arrays m xs v (suc k) added.line))
      (tries functions base c arrays x table key n v k proper holds added (suc (suc m)) xs among);
}
