-- Places in the record, and what is stored there, do alike.
use Rattle.std.proofs.Common.{◌≡◌, inl, inr, ℕ, zero, suc, ◌+◌, Bool, true, false, ◌||◌, List, Option, Some, None, Result, Ok, Err, pos, negsuc, ℤ, refl, le_refl, codes, bytes_eq}
use Rattle.std.proofs.lemmas.Bool.{cases_Bool, cond-false}
use Rattle.awk_value.specs.Arrays.{Array}
use Rattle.awk_value.specs.declared.value.Value.{Value}
use Rattle.awk_value.specs.declared.value.Value.TheVariants as value
use Rattle.awk_value.specs.Values.{str_of}
use Rattle.awk_record.specs.definitions.Record.{RecordPair, split_by, assignable, with_count, with_field}
use Rattle.awk_lex.specs.declared.token.IncrementOperator.{IncrementOperator}
use Rattle.awk_lex.specs.declared.token.Operator.{Operator}
use Rattle.awk_semantics.specs.declared.halt.Halt.{Halt}
use Rattle.awk_semantics.specs.declared.halt.Halt.TheVariants as halt
use Rattle.awk_semantics.specs.definitions.State.{State, Run, gives}
use Rattle.awk_semantics.specs.definitions.Faults.{of_record}
use Rattle.awk_semantics.specs.definitions.Operators.{applied, by_one, one}
use Rattle.awk_kinds.specs.Variables.{with_value, is_refused}
use Rattle.awk_semantics.specs.definitions.Primitives.{set_record, set_current, set_count, set_field, put_unless, put_outside, put}
use Rattle.awk_semantics.specs.definitions.Places.{Place, AName, AnElement, AField, read_place, store, assign, assign_by, post_increment}
use Rattle.awk_pieces.specs.definitions.Pieceable.{is_mine, also}
pub use Rattle.awk_pieces.proofs.KnownNames.{or_else, known_before, within_also, set_agrees}
use Rattle.awk_pieces.proofs.KnownNames.{unset_agrees, known_or_own}
use Rattle.awk_pieces.proofs.Alike.{Outer, Names, OwnsSeparators, Sorts, SetsApart, Values, state_on, with_arrays, Agrees, unmoved_arrays, shown_none, Same, Covers, Alike, alike_within, then_alike}
use Rattle.awk_pieces.proofs.ArraysAlike.{read_element_alike, store_element_alike}
use Rattle.awk_pieces.proofs.ReadsAlike.{Reads, lift_alike, ret_alike, name_alike, field_alike, number_alike}
use Rattle.awk_pieces.proofs.RecordsFound.{rule_for}
use Rattle.awk_pieces.proofs.ValuesAndFaults.{IsValueOrFault, of_record_faults, applied_faults}

-- a field, or a name that is known: that of their number, of a variable of the record, or of an array of it
abbrev pub IsOfRecord : Sorts → Names → Place → Type 0
IsOfRecord sorts known (AField n) = Unit {0}
IsOfRecord sorts known (AName x) = ((bytes_eq x (codes "NF") || sorts.own x) ≡ true) × (known x ≡ true)
IsOfRecord sorts known (AnElement a key) = (sorts.arrays a ≡ true) × (known a ≡ true)

module _ (sorts : Sorts) (apart : SetsApart sorts) (known : Names) (base base' : State) where
  abbrev mine : Names
  mine = is_mine sorts.own sorts.arrays

  set_same : (x : List ℕ) (a : Value) (o p : Outer) (c : RecordPair) (arrays arrays' : List Array) (v w : Values) (k d : ℕ) → sorts.own x ≡ true → Agrees sorts known base base' arrays arrays' v w →
      Same sorts (also mine (Some x) known) base base' o p arrays arrays' v w k d (gives (tt {0}) (state_on (with_arrays base arrays) o c (with_value v x a) k)) (gives (tt {0}) (state_on (with_arrays base' arrays') p c (with_value w x a) (k + d)))
  set_same x a o p c arrays arrays' v w k d own agrees = record {
    pair = c;
    left = k;
    arrays_here = arrays;
    arrays_there = arrays';
    here = with_value v x a;
    there = with_value w x a;
    agrees = record {
      values = set_agrees mine known x a v w agrees.values;
      unset = unset_agrees sorts.arrays x a v w agrees.unset;
      kinds = λ z is. agrees.kinds z (known_or_own mine sorts.own known x z own is);
      sized = agrees.sized;
    };
    keeps = λ z kept. cond-false _ _ _ (apart.kept x z own kept);
    keeps_there = λ z kept. cond-false _ _ _ (apart.kept x z own kept);
    moves = unmoved_arrays sorts base arrays;
    moves_there = unmoved_arrays sorts base' arrays';
    falls = le_refl _;
    is_here = refl;
    is_there = refl;
    plain = shown_none sorts.shows;
  }

  put_own_covers : (refused : Bool) (x : List ℕ) (a : Value) (o p : Outer) (c : RecordPair) (arrays arrays' : List Array) (v w : Values) (k d : ℕ) → sorts.own x ≡ true → Agrees sorts known base base' arrays arrays' v w →
      Covers sorts (also mine (Some x) known) base base' o p arrays arrays' v w k d (put_unless refused x a (state_on (with_arrays base arrays) o c v k)).result (put_unless refused x a (state_on (with_arrays base arrays) o c v k)) (put_unless refused x a (state_on (with_arrays base' arrays') p c w (k + d)))
  put_own_covers true x a o p c arrays arrays' v w k d own agrees = tt
  put_own_covers false x a o p c arrays arrays' v w k d own agrees = set_same x a o p c arrays arrays' v w k d own agrees

  put_own_outside : (x : List ℕ) (a : Value) → sorts.own x ≡ true → Alike sorts known (also mine (Some x) known) base base' (put_outside x a) (put_outside x a)
  unfolding put_outside
  put_own_outside x a own = record { covers = λ o p c arrays arrays' v w k d agrees. rw (apart.count x own) (put_own_covers (is_refused x a) x a o p c arrays arrays' v w k d own agrees) }

  -- a variable of the record is known behind its assignment
  pub put_own : (x : List ℕ) (a : Value) → sorts.own x ≡ true → Alike sorts known (also mine (Some x) known) base base' (put x a) (put x a)
  unfolding put
  put_own x a own = record { covers = λ o p c arrays arrays' v w k d agrees. (put_own_outside x a own).covers o p c arrays arrays' v w k d agrees }

module _ (sorts : Sorts) (apart : SetsApart sorts) (known : Names) (base base' : State) (owns : OwnsSeparators known) where
  abbrev Stores : {A : Type 0} → Run A → Run A → Type 0
  Stores m n = Reads sorts known base base' m n

  current_covers : (r : Result RecordPair Halt) → IsValueOrFault r → (o p : Outer) (c : RecordPair) (arrays arrays' : List Array) (v w : Values) (k d : ℕ) → Agrees sorts known base base' arrays arrays' v w → Covers sorts known base base' o p arrays arrays' v w k d (set_current r (state_on (with_arrays base arrays) o c v k)).result (set_current r (state_on (with_arrays base arrays) o c v k)) (set_current r (state_on (with_arrays base' arrays') p c w (k + d)))
  current_covers (Ok pair) is o p c arrays arrays' v w k d agrees = record { pair = pair; left = k; arrays_here = arrays; arrays_there = arrays'; here = v; there = w; agrees = agrees; keeps = λ x e. refl; keeps_there = λ x e. refl; moves = unmoved_arrays sorts base arrays; moves_there = unmoved_arrays sorts base' arrays'; falls = le_refl _; is_here = refl; is_there = refl; plain = shown_none sorts.shows }
  current_covers (Err (halt.Fault f)) is o p c arrays arrays' v w k d agrees = tt
  current_covers (Err halt.OutOfSteps) is o p c arrays arrays' v w k d agrees = absurd is
  current_covers (Err halt.Next) is o p c arrays arrays' v w k d agrees = absurd is
  current_covers (Err halt.Exit) is o p c arrays arrays' v w k d agrees = absurd is

  record_alike : (text : List ℕ) → Stores (set_record text) (set_record text)
  unfolding set_record
  record_alike text = record { covers = λ o p c arrays arrays' v w k d agrees. rw (agrees.values (codes "FS") owns.fs, agrees.values (codes "RS") owns.rs) (current_covers (Ok (split_by (rule_for v) text)) tt o p c arrays arrays' v w k d agrees) }

  count_alike : (n : ℤ) → Stores (set_count n) (set_count n)
  unfolding set_count
  count_alike n = record { covers = λ o p c arrays arrays' v w k d agrees. rw (agrees.values (codes "OFS") owns.ofs) (current_covers (of_record (with_count (assignable n) (str_of (v (codes "OFS"))) c)) (of_record_faults _) o p c arrays arrays' v w k d agrees) }

  set_field_alike : (n : ℤ) (a : Value) → Stores (set_field n a) (set_field n a)
  unfolding set_field
  set_field_alike (pos zero) a = record { covers = λ o p c arrays arrays' v w k d agrees. (record_alike (str_of a)).covers o p c arrays arrays' v w k d agrees }
  set_field_alike (pos (suc n)) a = record { covers = λ o p c arrays arrays' v w k d agrees. rw (agrees.values (codes "OFS") owns.ofs) (current_covers (of_record (with_field (assignable (pos (suc n))) a (str_of (v (codes "OFS"))) c)) (of_record_faults _) o p c arrays arrays' v w k d agrees) }
  set_field_alike (negsuc n) a = record { covers = λ o p c arrays arrays' v w k d agrees. tt }

  put_count_outside : (x : List ℕ) (a : Value) → bytes_eq x (codes "NF") ≡ true → Stores (put_outside x a) (put_outside x a)
  unfolding put_outside
  put_count_outside x a is = record { covers = λ o p c arrays arrays' v w k d agrees. rw is ((then_alike _ _ (number_alike sorts known base base' a) (λ n. count_alike n)).covers o p c arrays arrays' v w k d agrees) }

  put_count_alike : (x : List ℕ) (a : Value) → bytes_eq x (codes "NF") ≡ true → Stores (put x a) (put x a)
  unfolding put
  put_count_alike x a is = record { covers = λ o p c arrays arrays' v w k d agrees. (put_count_outside x a is).covers o p c arrays arrays' v w k d agrees }

  pub store_alike : (q : Place) (a : Value) → IsOfRecord sorts known q → Stores (store q a) (store q a)
  unfolding store
  store_alike (AField n) a is = set_field_alike n a
  store_alike (AName x) a is = elim (cases_Bool (bytes_eq x (codes "NF"))) [
    | inl count ↦ put_count_alike x a count
    | inr other ↦ alike_within (within_also (is_mine sorts.own sorts.arrays) known (Some x)) (put_own sorts apart known base base' x a (or_else _ _ is.0 other))
  ]
  store_alike (AnElement x key) a is = store_element_alike sorts known base base' x is.0 is.1 key a

  pub read_place_alike : (q : Place) → IsOfRecord sorts known q → Stores (read_place q) (read_place q)
  unfolding read_place
  read_place_alike (AField n) is = field_alike sorts known base base' n
  read_place_alike (AName x) is = name_alike sorts known base base' x is.1
  read_place_alike (AnElement x key) is = read_element_alike sorts known base base' x is.0 is.1 key

  assign_alike : (q : Place) (a : Value) → IsOfRecord sorts known q → Stores (assign q a) (assign q a)
  unfolding assign
  assign_alike q a is = then_alike _ _ (store_alike q a is) (λ _. read_place_alike q is)

  pub assign_by_alike : (c : Option Operator) (q : Place) (a : Value) → IsOfRecord sorts known q → Stores (assign_by c q a) (assign_by c q a)
  unfolding assign_by
  assign_by_alike None q a is = assign_alike q a is
  assign_by_alike (Some c) q a is = then_alike _ _ (read_place_alike q is) (λ old. then_alike _ _ (lift_alike sorts known base base' (applied c old a) (applied_faults c old a)) (λ b. assign_alike q b is))

  pub post_increment_alike : (c : IncrementOperator) (q : Place) → IsOfRecord sorts known q → Stores (post_increment c q) (post_increment c q)
  unfolding post_increment
  post_increment_alike c q is = then_alike _ _ (read_place_alike q is) (λ old. then_alike _ _ (number_alike sorts known base base' old) (λ n.
      then_alike _ _ (lift_alike sorts known base base' (applied (by_one c) (value.Number n) one) (applied_faults (by_one c) (value.Number n) one)) (λ a. then_alike _ _ (store_alike q a is) (λ _. ret_alike sorts known base base' _))))
