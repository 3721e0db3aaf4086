-- What an addition of a rule does to a sum.
use Rattle.std.proofs.Common.{◌≡◌, ℕ, ℤ, ◌+ℤ◌, pos, true, false, List, [], Option, Some, None, Ok, refl, sym, subst}
use Rattle.std.specs.Prelude.{unwrap_or}
use Rattle.awk_value.specs.declared.value.Value.{Value}
use Rattle.awk_value.specs.declared.value.Value.TheVariants as value
use Rattle.awk_value.specs.Arithmetic.{is_in_range}
use Rattle.awk_value.specs.Arrays.{Array, value_at, with_key}
use Rattle.awk_value.specs.Values.{num_of}
use Rattle.awk_record.specs.Record.{RecordPair}
use Rattle.awk_kinds.specs.Variables.{with_value}
use Rattle.awk_lex.specs.declared.token.AssignmentOperator.TheVariants as assignment
use Rattle.awk_lex.specs.declared.token.IncrementOperator.TheVariants as increment
use Rattle.awk_lex.specs.declared.token.Operator.TheVariants as operator
use Rattle.awk_grammar.specs.Tree.{Expr, Name, Element, PreIncrement, PostIncrement, Assign, Exprs}
use Rattle.awk_semantics.specs.definitions.State.{State, go_on, ◌>>=◌, lift, gives}
use Rattle.awk_semantics.specs.definitions.Operators.{applied, one}
use Rattle.awk_semantics.specs.definitions.Primitives.{spend}
use Rattle.awk_semantics.specs.definitions.Places.{store, assign, assign_by, read_place, post_increment}
use Rattle.awk_semantics.specs.definitions.Semantics.{Functions, eval, place_of, key_of, exec, exec_simple}
use Rattle.awk_merging.specs.definitions.Gathering.{Table, updated, sums}
use Rattle.awk_merging.specs.definitions.Sums.{ByKey, is_taken, Holds, numbers, number_or_none, alone}
use Rattle.awk_merging.specs.definitions.LawOfReading.{state_on, number_at}
use Rattle.awk_merging.specs.definitions.LawOfAdditions.{AddsByKey, AddsAlone, LawOfAdditions}
use Rattle.awk_merging.proofs.SumArrays.{number_found, number_stored, key_stays}
use Rattle.awk_merging.proofs.Reading.{element_read, element_stored, stored_read, variable_read, variable_put}

-- the sum of what is there and a number

pub plus_at : (table : Table ℤ) (key : List ℕ) (n : ℤ) (w : Value) → num_of w ≡ Ok n → is_in_range (number_at table key +ℤ n) ≡ true → applied operator.Plus (unwrap_or (value_at (numbers table) key) value.Nothing) w ≡ Ok (value.Number (number_at table key +ℤ n))
plus_at table key n w is fits = rw (number_found table key, is, fits) refl

pub one_more : (m : ℤ) → is_in_range (m +ℤ pos 1) ≡ true → applied operator.Plus (value.Number m) one ≡ Ok (value.Number (m +ℤ pos 1))
one_more m fits = rw fits refl

pub alone_number : (m : Option ℤ) → num_of (number_or_none m) ≡ Ok (number_at (alone m) [])
alone_number None = refl
alone_number (Some m) = refl

module _ (functions : Functions) (base : State) (arrays : List Array) (v : List ℕ → Value) (k : ℕ) where
  abbrev at : RecordPair → State
  at c = state_on base c arrays v k

  by_key : (c c' c'' : RecordPair) (a : List ℕ) (es : Exprs) (e : Expr) (key : List ℕ) (n : ℤ) (table : Table ℤ) (w : Value) → key_of functions [] es (at c) ≡ gives key (at c') → eval functions e (at c') ≡ gives w (at c'') → num_of w ≡ Ok n →
      Holds (at c'') (ByKey a) table → is_in_range (number_at table key +ℤ n) ≡ true → AddsByKey functions base arrays v k (Assign assignment.Add (Element a es) e) c c'' a table key n
  unfolding exec exec_simple spend eval place_of store assign assign_by read_place lift ◌>>=◌ go_on
  by_key c c' c'' a es e key n table w at_key is number holds fits =
      rw (
        at_key,
        is,
        element_read functions base c'' arrays a table v k holds key,
        plus_at table key n w number fits,
        element_stored functions base c'' arrays a table v k holds (with_key (numbers table) key) key (value.Number (number_at table key +ℤ n)),
        number_stored table key n,
        stored_read functions base c'' arrays a table v k holds (numbers (updated sums table key n)) key,
        key_stays table key n,
      ) refl

  by_key_first : (c c' : RecordPair) (a : List ℕ) (es : Exprs) (key : List ℕ) (table : Table ℤ) → key_of functions [] es (at c) ≡ gives key (at c') →
      Holds (at c') (ByKey a) table → is_in_range (number_at table key +ℤ pos 1) ≡ true → AddsByKey functions base arrays v k (PreIncrement increment.Increment (Element a es)) c c' a table key (pos 1)
  unfolding exec exec_simple spend eval place_of store assign assign_by read_place lift ◌>>=◌ go_on
  by_key_first c c' a es key table at_key holds fits =
      rw (
        at_key,
        element_read functions base c' arrays a table v k holds key,
        plus_at table key (pos 1) one refl fits,
        element_stored functions base c' arrays a table v k holds (with_key (numbers table) key) key (value.Number (number_at table key +ℤ pos 1)),
        number_stored table key (pos 1),
        stored_read functions base c' arrays a table v k holds (numbers (updated sums table key (pos 1))) key,
        key_stays table key (pos 1),
      ) refl

  by_key_behind : (c c' : RecordPair) (a : List ℕ) (es : Exprs) (key : List ℕ) (table : Table ℤ) → key_of functions [] es (at c) ≡ gives key (at c') →
      Holds (at c') (ByKey a) table → is_in_range (number_at table key +ℤ pos 1) ≡ true → AddsByKey functions base arrays v k (PostIncrement increment.Increment (Element a es)) c c' a table key (pos 1)
  unfolding exec exec_simple spend eval place_of post_increment store read_place lift ◌>>=◌ go_on
  by_key_behind c c' a es key table at_key holds fits =
      rw (
        at_key,
        element_read functions base c' arrays a table v k holds key,
        number_found table key,
        one_more (number_at table key) fits,
        element_stored functions base c' arrays a table v k holds (with_key (numbers table) key) key (value.Number (number_at table key +ℤ pos 1)),
        number_stored table key (pos 1),
      ) refl

  module _ (c : RecordPair) (x : List ℕ) (m : Option ℤ) (proper : is_taken x ≡ false) (is_m : v x ≡ number_or_none m) where
    abbrev old : ℤ
    old = number_at (alone m) []

    variable_plus : (n : ℤ) (w : Value) → num_of w ≡ Ok n → is_in_range (old +ℤ n) ≡ true → applied operator.Plus (number_or_none m) w ≡ Ok (value.Number (old +ℤ n))
    variable_plus n w is fits = rw (alone_number m, is, fits) refl

    by_name : (b : RecordPair) (e : Expr) (n : ℤ) (w : Value) → eval functions e (at b) ≡ gives w (at c) → num_of w ≡ Ok n → is_in_range (old +ℤ n) ≡ true → AddsAlone functions base arrays v k (Assign assignment.Add (Name x) e) b c x (alone m) n
    unfolding exec exec_simple spend eval place_of store assign assign_by read_place lift ◌>>=◌ go_on
    by_name b e n w is number fits = rw (is, variable_read functions base c arrays x proper v k v, is_m, variable_plus n w number fits, variable_put functions base c arrays x proper v k (value.Number (old +ℤ n)), variable_read functions base c arrays x proper v k (with_value v x (value.Number (old +ℤ n)))) refl

    by_name_first : is_in_range (old +ℤ pos 1) ≡ true → AddsAlone functions base arrays v k (PreIncrement increment.Increment (Name x)) c c x (alone m) (pos 1)
    unfolding exec exec_simple spend eval place_of store assign assign_by read_place lift ◌>>=◌ go_on
    by_name_first fits = rw (variable_read functions base c arrays x proper v k v, is_m, variable_plus (pos 1) one refl fits, variable_put functions base c arrays x proper v k (value.Number (old +ℤ pos 1)), variable_read functions base c arrays x proper v k (with_value v x (value.Number (old +ℤ pos 1)))) refl

    by_name_behind : is_in_range (old +ℤ pos 1) ≡ true → AddsAlone functions base arrays v k (PostIncrement increment.Increment (Name x)) c c x (alone m) (pos 1)
    unfolding exec exec_simple spend eval place_of post_increment store read_place lift ◌>>=◌ go_on
    by_name_behind fits = rw (variable_read functions base c arrays x proper v k v, is_m, alone_number m, one_more old fits, variable_put functions base c arrays x proper v k (value.Number (old +ℤ pos 1))) refl

pub law_of_additions : (functions : Functions) (base : State) (arrays : List Array) (v : List ℕ → Value) (k : ℕ) → LawOfAdditions functions base arrays v k
law_of_additions functions base arrays v k = record {
  by_key = λ c c' c'' a es e key n table at_key given holds fits. by_key functions base arrays v k c c' c'' a es e key n table given.value at_key.is given.is given.number holds fits;
  by_key_first = λ c c' a es key table at_key holds fits. by_key_first functions base arrays v k c c' a es key table at_key.is holds fits;
  by_key_behind = λ c c' a es key table at_key holds fits. by_key_behind functions base arrays v k c c' a es key table at_key.is holds fits;
  alone = λ c c' x e n table proper given holds fits.
      subst (λ (t : Table ℤ). AddsAlone functions base arrays v k (Assign assignment.Add (Name x) e) c c' x t n) (sym holds.2)
      (by_name functions base arrays v k c' x holds.0 proper holds.1 c e n given.value given.is given.number (subst (λ (t : Table ℤ). is_in_range (number_at t [] +ℤ n) ≡ true) holds.2 fits));
  alone_first = λ c x table proper holds fits.
      subst (λ (t : Table ℤ). AddsAlone functions base arrays v k (PreIncrement increment.Increment (Name x)) c c x t (pos 1)) (sym holds.2)
      (by_name_first functions base arrays v k c x holds.0 proper holds.1 (subst (λ (t : Table ℤ). is_in_range (number_at t [] +ℤ pos 1) ≡ true) holds.2 fits));
  alone_behind = λ c x table proper holds fits.
      subst (λ (t : Table ℤ). AddsAlone functions base arrays v k (PostIncrement increment.Increment (Name x)) c c x t (pos 1)) (sym holds.2)
      (by_name_behind functions base arrays v k c x holds.0 proper holds.1 (subst (λ (t : Table ℤ). is_in_range (number_at t [] +ℤ pos 1) ≡ true) holds.2 fits));
}
