-- What is done to elements that are found once.
use Rattle.std.proofs.Common.{◌≡◌, ℕ, zero, suc, ℤ, pos, Bool, true, false, List, [], ◌∷◌, ◌++◌, Option, Some, None, Result, Ok, Err, refl, sym, ap, ◌∙◌}
use Rattle.std.specs.Prelude.{if◌then◌else◌, slice_set, bytes_eq, is_some, is_ok, OnOk, unwrap_or}
use Rattle.std.specs.Map.{lookup, set_value}
use Rattle.std.proofs.lemmas.Slice.Eq.{bytes_eq-Decides}
use Rattle.awk_value.specs.declared.value.Value.{Value}
use Rattle.awk_value.specs.declared.value.Value.TheVariants as value
use Rattle.awk_value.specs.Values.{str_of}
use Rattle.awk_value.specs.Arrays.{Array as Elements, value_at, with_pair, with_key}
use Rattle.awk_lex.specs.declared.token.AssignmentOperator.{AssignmentOperator}
use Rattle.awk_lex.specs.declared.token.AssignmentOperator.TheVariants as assignment
use Rattle.awk_lex.specs.declared.token.IncrementOperator.{IncrementOperator}
use Rattle.awk_lex.specs.declared.token.Operator.{Operator}
use Rattle.awk_lex.specs.declared.token.Operator.TheVariants as operator
use Rattle.awk_semantics.specs.Operators.{applied, by_one, one, operator_of}
use Rattle.awk_storage.specs.declared.position.Array.{Array}
use Rattle.awk_storage.specs.declared.position.Place.TheVariants as place
use Rattle.awk_storage.specs.Positions.{read_element_of, assign_at, assign_by_at, post_increment_at}
use Rattle.awk_storage.specs.support.Tables.{array_of}
use Rattle.awk_runtime.specs.declared.places.Updated.{Updated}
use Rattle.awk_runtime.specs.declared.runtime.Runtime.{Runtime}
use Rattle.awk_runtime.specs.support.Simulation.{Changes}
use Rattle.awk_runtime.specs.support.Appends.{AppendsAt}
use Rattle.awk_runtime.specs.support.Calling.{kept_number}
use Rattle.awk_runtime.specs.support.Updates.{Updates, ChangesValue, Gives}
use Rattle.awk_runtime.proofs.ArrayWords.{key_there, set_itself, element_read, element_there, element_stored}
use Rattle.awk_runtime.proofs.PlaceWords.{assigned, plainly_assigned, by_assigned, by_updated, post_stored, post_updated}
use Rattle.awk_runtime.proofs.Composition.{lift_changes}

-- a key that has got a value

set_found : {K X : Type 0} (test : K → Bool) (es : List (K × X)) (w : X) → is_some (lookup test es) ≡ true → lookup test (set_value test es w) ≡ Some w
set_found test [] w there = cc
set_found test (e ∷ es) w there = by (set_found test es w) (test e.0) refl
  where
    by : (is_some (lookup test es) ≡ true → lookup test (set_value test es w) ≡ Some w) → (b : Bool) → test e.0 ≡ b → lookup test (set_value test (e ∷ es) w) ≡ Some w
    by rest true at = ap (λ b. lookup test (if b then (e.0, w) ∷ es else e ∷ set_value test es w)) at ∙ ap (λ b. if b then Some w else lookup test es) at
    by rest false at =
        ap (λ b. lookup test (if b then (e.0, w) ∷ es else e ∷ set_value test es w)) at
        ∙ (ap (λ b. if b then Some e.1 else lookup test (set_value test es w)) at
        ∙ rest (sym (ap (λ (b : Bool). is_some (if b then Some e.1 else lookup test es)) at) ∙ there))

last_found : {K X : Type 0} (test : K → Bool) (es : List (K × X)) (k : K) (w : X) → is_some (lookup test es) ≡ false → test k ≡ true → lookup test (es ++ (k, w) ∷ []) ≡ Some w
last_found test [] k w none is = ap (λ b. if b then Some w else None) is
last_found test (e ∷ es) k w none is = by (λ left. last_found test es k w left is) (test e.0) refl
  where
    by : (is_some (lookup test es) ≡ false → lookup test (es ++ (k, w) ∷ []) ≡ Some w) → (b : Bool) → test e.0 ≡ b → lookup test (e ∷ es ++ (k, w) ∷ []) ≡ Some w
    by rest true at = let there : is_some (lookup test (e ∷ es)) ≡ true = ap (λ (b : Bool). is_some (if b then Some e.1 else lookup test es)) at in cc
    by rest false at =
        ap (λ b. if b then Some e.1 else lookup test (es ++ (k, w) ∷ [])) at
        ∙ rest (sym (ap (λ (b : Bool). is_some (if b then Some e.1 else lookup test es)) at) ∙ none)

pair_found : (array : Elements) (key : List ℕ) (v : Value) → value_at (with_pair array key v) key ≡ Some v
pair_found array key v = by (is_some (value_at array key)) refl
  where
    by : (b : Bool) → is_some (value_at array key) ≡ b → value_at (with_pair array key v) key ≡ Some v
    by true at = ap (λ b. value_at (if b then set_value (bytes_eq key) array v else array ++ (key, v) ∷ []) key) at ∙ set_found (bytes_eq key) array v at
    by false at = ap (λ b. value_at (if b then set_value (bytes_eq key) array v else array ++ (key, v) ∷ []) key) at ∙ last_found (bytes_eq key) array key v at ((bytes_eq-Decides key key).1 refl)

-- a key that gets the value that it has

set_same : {K X : Type 0} (test : K → Bool) (es : List (K × X)) {w : X} → Some w ≡ lookup test es → set_value test es w ≡ es
set_same test [] at = cc
set_same test (e ∷ es) {w = w} at = by (λ left. set_same test es left) (test e.0) refl
  where
    by : (Some w ≡ lookup test es → set_value test es w ≡ es) → (b : Bool) → test e.0 ≡ b → set_value test (e ∷ es) w ≡ e ∷ es
    by rest true is =
        let same : Some w ≡ Some e.1 = at ∙ ap (λ b. if b then Some e.1 else lookup test es) is in
        let value : w ≡ e.1 = cc in
        ap (λ b. if b then (e.0, w) ∷ es else e ∷ set_value test es w) is ∙ ap (λ x. (e.0, x) ∷ es) value
    by rest false is =
        ap (λ b. if b then (e.0, w) ∷ es else e ∷ set_value test es w) is
        ∙ ap (λ l. e ∷ l) (rest (at ∙ ap (λ b. if b then Some e.1 else lookup test es) is))

pair_same : (array : Elements) (key : List ℕ) {v : Value} → Some v ≡ value_at array key → with_pair array key v ≡ array
pair_same array key {v = v} at = ap (λ o. if is_some o then set_value (bytes_eq key) array v else array ++ (key, v) ∷ []) (sym at) ∙ set_same (bytes_eq key) array at

-- an element that is there keeps its value
kept_there : (arrays : List Elements) (n : ℕ) (key : List ℕ) {v : Value} → Some v ≡ value_at (array_of arrays n) key → slice_set arrays n (with_pair (array_of arrays n) key v) ≡ arrays
kept_there arrays n key at = ap (slice_set arrays n) (pair_same (array_of arrays n) key at) ∙ set_itself arrays n

pub kept_runtime : (m : Runtime) (n : ℕ) (key : List ℕ) {v : Value} → Some v ≡ value_at (array_of m.arrays n) key → record m { arrays = slice_set m.arrays n (with_pair (array_of m.arrays n) key v) } ≡ m
kept_runtime m n key at = ap (λ (l : List Elements). record m { arrays = l }) (kept_there m.arrays n key at)

-- what is known of a call that is known to be done
pub put_of : {E : Type 0} {P : Type 0} {b : Bool} (r : Result (Unit {0}) E) → b ≡ is_ok r → b ≡ true → OnOk r P → P
put_of (Ok u) is ok p = p
put_of (Err e) is ok p = cc

-- an element that was given a value is there, where its array is
given_there : (arrays : List Elements) (n : ℕ) (key : List ℕ) (v : Value) {w : Value} → Some w ≡ value_at (array_of arrays n) key → Some v ≡ value_at (array_of (slice_set arrays n (with_pair (array_of arrays n) key v)) n) key
given_there [] n key v at = cc
given_there (array ∷ arrays) zero key v at = sym (pair_found array key v)
given_there (array ∷ arrays) (suc n) key v at = given_there arrays n key v at

-- and it is not made again
given_again : (arrays : List Elements) (n : ℕ) (key : List ℕ) (v : Value) {xs : List Elements} → xs ≡ slice_set arrays n (with_pair (array_of arrays n) key v) → xs ≡ slice_set xs n (with_key (array_of xs n) key)
given_again arrays n key v {xs = xs} made = rw made (by arrays n)
  where
    by : (arrays : List Elements) (n : ℕ) → slice_set arrays n (with_pair (array_of arrays n) key v) ≡ slice_set (slice_set arrays n (with_pair (array_of arrays n) key v)) n (with_key (array_of (slice_set arrays n (with_pair (array_of arrays n) key v)) n) key)
    by [] n = refl
    by (array ∷ arrays) zero = ap (λ a. a ∷ arrays) (sym (key_there (with_pair array key v) key (sym (pair_found array key v))))
    by (array ∷ arrays) (suc n) = ap (λ l. array ∷ l) (by arrays n)

-- a key that was made last, and then gets a value

last_set : {K X : Type 0} (test : K → Bool) (es : List (K × X)) (k : K) (v w : X) → is_some (lookup test es) ≡ false → test k ≡ true → set_value test (es ++ (k, v) ∷ []) w ≡ es ++ (k, w) ∷ []
last_set test [] k v w none is = ap (λ b. if b then (k, w) ∷ [] else (k, v) ∷ []) is
last_set test (e ∷ es) k v w none is = by (λ left. last_set test es k v w left is) (test e.0) refl
  where
    by : (is_some (lookup test es) ≡ false → set_value test (es ++ (k, v) ∷ []) w ≡ es ++ (k, w) ∷ []) → (b : Bool) → test e.0 ≡ b → set_value test (e ∷ es ++ (k, v) ∷ []) w ≡ e ∷ es ++ (k, w) ∷ []
    by rest true at = let there : is_some (lookup test (e ∷ es)) ≡ true = ap (λ (b : Bool). is_some (if b then Some e.1 else lookup test es)) at in cc
    by rest false at =
        ap (λ b. if b then (e.0, w) ∷ es ++ (k, v) ∷ [] else e ∷ set_value test (es ++ (k, v) ∷ []) w) at
        ∙ ap (λ l. e ∷ l) (rest (sym (ap (λ (b : Bool). is_some (if b then Some e.1 else lookup test es)) at) ∙ none))

key_then : (array : Elements) (key : List ℕ) (v : Value) → with_pair (with_key array key) key v ≡ with_pair array key v
key_then array key v = by (is_some (value_at array key)) refl
  where
    by : (b : Bool) → is_some (value_at array key) ≡ b → with_pair (with_key array key) key v ≡ with_pair array key v
    by true at = ap (λ b. with_pair (if b then array else array ++ (key, value.Nothing) ∷ []) key v) at
    by false at =
        let itself = (bytes_eq-Decides key key).1 refl in
        ap (λ b. with_pair (if b then array else array ++ (key, value.Nothing) ∷ []) key v) at
        ∙ (ap (λ o. if is_some o then set_value (bytes_eq key) (array ++ (key, value.Nothing) ∷ []) v else (array ++ (key, value.Nothing) ∷ []) ++ (key, v) ∷ []) (last_found (bytes_eq key) array key value.Nothing at itself)
        ∙ (last_set (bytes_eq key) array key value.Nothing v at itself
        ∙ sym (ap (λ b. if b then set_value (bytes_eq key) array v else array ++ (key, v) ∷ []) at)))

made_then : (arrays : List Elements) (n : ℕ) (key : List ℕ) (v : Value) → slice_set (slice_set arrays n (with_key (array_of arrays n) key)) n (with_pair (array_of (slice_set arrays n (with_key (array_of arrays n) key)) n) key v) ≡ slice_set arrays n (with_pair (array_of arrays n) key v)
made_then [] n key v = refl
made_then (array ∷ arrays) zero key v = ap (λ a. a ∷ arrays) (key_then array key v)
made_then (array ∷ arrays) (suc n) key v = ap (λ l. array ∷ l) (made_then arrays n key v)

module _ (m : Runtime) (a : Array) (operand : Value) (n : ℕ) (number : n ≡ kept_number a m.frames) where
  -- a value that is given

  element_put : (v : Value) {xs : List Elements} → xs ≡ slice_set m.arrays n (with_pair (array_of m.arrays n) (str_of operand) v) → Changes (assign_at m.names.scalars (place.Element a) operand v) m (record m { arrays = xs }) (Ok (unwrap_or (value_at (array_of xs n) (str_of operand)) value.Nothing))
  element_put v {xs = xs} made =
      let again = element_read (record m { arrays = xs }) a (str_of operand) n number {xs = xs} refl (given_again m.arrays n (str_of operand) v made) in
      assigned (place.Element a) operand v (element_stored m a (str_of operand) n number v made) again

  pub element_assigned : (v : Value) {xs : List Elements} → xs ≡ slice_set m.arrays n (with_pair (array_of m.arrays n) (str_of operand) v) → Gives (assign_by_at m.names.scalars None (place.Element a) operand v) m (Ok tt) (record m { arrays = xs })
  element_assigned v {xs = xs} made = record { gives = (unwrap_or (value_at (array_of xs n) (str_of operand)) value.Nothing, plainly_assigned (place.Element a) operand v (element_put v made)) }

  -- a text that grows where it stands
  pub element_appended : (before : Value) (behind : List ℕ) {xs : List Elements} → Some before ≡ value_at (array_of m.arrays n) (str_of operand) → xs ≡ slice_set m.arrays n (with_pair (array_of m.arrays n) (str_of operand) (value.Text (str_of before ++ behind))) → AppendsAt (place.Element a) operand behind m (record m { arrays = xs })
  element_appended before behind {xs = xs} at put =
      let after : Value = value.Text (str_of before ++ behind) in
      record {
        before = before;
        read = element_there m a (str_of operand) n number at;
        after = unwrap_or (value_at (array_of xs n) (str_of operand)) value.Nothing;
        appends = plainly_assigned (place.Element a) operand after (element_put after put);
      }

  -- numbers that are changed where they stand

  pub element_updated : (o : Operator) (z before after : ℤ) {xs : List Elements} → Some (value.Number before) ≡ value_at (array_of m.arrays n) (str_of operand) → applied o (value.Number before) (value.Number z) ≡ Ok (value.Number after) → xs ≡ slice_set m.arrays n (with_pair (array_of m.arrays n) (str_of operand) (value.Number after)) → Updates o (place.Element a) operand (value.Number z) m (record m { arrays = xs }) (record { before = before; after = after })
  element_updated o z before after {xs = xs} at made put = record {
    read = element_there m a (str_of operand) n number at;
    made = made;
    put = element_stored m a (str_of operand) n number (value.Number after) put;
    again = element_there (record m { arrays = xs }) a (str_of operand) n number (given_there m.arrays n (str_of operand) (value.Number after) at ∙ ap (λ l. value_at (array_of l n) (str_of operand)) (sym put));
  }

  -- by what is known of the values
  pub element_found_updated : {old new : Value} → Some old ≡ value_at (array_of m.arrays n) (str_of operand) → {u : Updated} → new ≡ value.Number u.after → (o : Operator) (z : ℤ) → old ≡ value.Number u.before → applied o (value.Number u.before) (value.Number z) ≡ Ok (value.Number u.after) → Updates o (place.Element a) operand (value.Number z) m (record m { arrays = slice_set m.arrays n (with_pair (array_of m.arrays n) (str_of operand) new) }) u
  element_found_updated at {u = u} put o z was made = element_updated o z u.before u.after (ap Some (sym was) ∙ at) made (ap (λ v. slice_set m.arrays n (with_pair (array_of m.arrays n) (str_of operand) v)) put)

  pub element_raised : {old new : Value} → Some old ≡ value_at (array_of m.arrays n) (str_of operand) → {u : Updated} → new ≡ value.Number u.after → (o : IncrementOperator) → old ≡ value.Number u.before → applied (by_one o) (value.Number u.before) one ≡ Ok (value.Number u.after) → Changes (post_increment_at m.names.scalars o (place.Element a) operand) m (record m { arrays = slice_set m.arrays n (with_pair (array_of m.arrays n) (str_of operand) new) }) (Ok (value.Number u.before))
  element_raised at {u = u} put o was made = post_updated o (place.Element a) operand (element_found_updated at {u = u} put (by_one o) (pos 1) was made)

  module _ {before after : Value} {xs : List Elements} (at : Some before ≡ value_at (array_of m.arrays n) (str_of operand)) (put : xs ≡ slice_set m.arrays n (with_pair (array_of m.arrays n) (str_of operand) after)) where
    pub element_changed : (o : Option Operator) (z : ℤ) → ChangesValue o z before after → Gives (assign_by_at m.names.scalars o (place.Element a) operand (value.Number z)) m (Ok tt) (record m { arrays = xs })
    element_changed None z c = element_assigned (value.Number z) (put ∙ ap (λ v. slice_set m.arrays n (with_pair (array_of m.arrays n) (str_of operand) v)) c.changes)
    element_changed (Some o) z c = record {
      gives = (value.Number c.changes.1, by_updated o (place.Element a) operand (value.Number z) (element_updated o z c.changes.0 c.changes.1 (ap Some (sym c.changes.2) ∙ at) c.changes.4 (put ∙ ap (λ v. slice_set m.arrays n (with_pair (array_of m.arrays n) (str_of operand) v)) c.changes.3)));
    }

module _ (m : Runtime) (a : Array) (operand : Value) (n : ℕ) (number : n ≡ kept_number a m.frames) (absent : value_at (array_of m.arrays n) (str_of operand) ≡ None) where
  -- an element that is made

  abbrev made : List Elements
  made = slice_set m.arrays n (with_key (array_of m.arrays n) (str_of operand))

  abbrev begun : Runtime
  begun = record m { arrays = made }

  element_made : Changes (read_element_of a (str_of operand)) m begun (Ok value.Nothing)
  element_made = element_read m a (str_of operand) n number {xs = made} (ap (λ o. unwrap_or o value.Nothing) (sym absent)) refl

  put_then : (v : Value) {xs : List Elements} → xs ≡ slice_set m.arrays n (with_pair (array_of m.arrays n) (str_of operand) v) → xs ≡ slice_set made n (with_pair (array_of made n) (str_of operand) v)
  put_then v put = put ∙ sym (made_then m.arrays n (str_of operand) v)

  module _ {after : Value} {xs : List Elements} (put : xs ≡ slice_set m.arrays n (with_pair (array_of m.arrays n) (str_of operand) after)) where
    begun_by : (o : Operator) (z : ℤ) {y : ℤ} → applied o value.Nothing (value.Number z) ≡ Ok (value.Number y) → after ≡ value.Number y → Gives (assign_by_at m.names.scalars (Some o) (place.Element a) operand (value.Number z)) m (Ok tt) (record m { arrays = xs })
    begun_by o z {y = y} is same = record {
      gives = (
        unwrap_or (value_at (array_of xs n) (str_of operand)) value.Nothing,
        by_assigned o (place.Element a) operand (value.Number z) element_made (lift_changes _ begun is) (element_put begun a operand n number (value.Number y) (put_then (value.Number y) (put ∙ ap (λ v. slice_set m.arrays n (with_pair (array_of m.arrays n) (str_of operand) v)) same))),
      );
    }

    pub element_begun : (o : AssignmentOperator) (z : ℤ) → ChangesValue (operator_of o) z (value.Number (pos 0)) after → Gives (assign_by_at m.names.scalars (operator_of o) (place.Element a) operand (value.Number z)) m (Ok tt) (record m { arrays = xs })
    element_begun assignment.Plain z c = element_assigned m a operand n number (value.Number z) (put ∙ ap (λ v. slice_set m.arrays n (with_pair (array_of m.arrays n) (str_of operand) v)) c.changes)
    element_begun assignment.Add z c = begun_by operator.Plus z (ap (λ x. applied operator.Plus x (value.Number z)) c.changes.2 ∙ c.changes.4) c.changes.3
    element_begun assignment.Subtract z c = begun_by operator.Minus z (ap (λ x. applied operator.Minus x (value.Number z)) c.changes.2 ∙ c.changes.4) c.changes.3
    element_begun assignment.Multiply z c = begun_by operator.Times z (ap (λ x. applied operator.Times x (value.Number z)) c.changes.2 ∙ c.changes.4) c.changes.3
    element_begun assignment.Divide z c = begun_by operator.Divide z (ap (λ x. applied operator.Divide x (value.Number z)) c.changes.2 ∙ c.changes.4) c.changes.3
    element_begun assignment.Remainder z c = begun_by operator.Remainder z (ap (λ x. applied operator.Remainder x (value.Number z)) c.changes.2 ∙ c.changes.4) c.changes.3
    element_begun assignment.Power z c = begun_by operator.Power z (ap (λ x. applied operator.Power x (value.Number z)) c.changes.2 ∙ c.changes.4) c.changes.3

    pub raise_begun : (o : IncrementOperator) → ChangesValue (Some (by_one o)) (pos 1) (value.Number (pos 0)) after → Changes (post_increment_at m.names.scalars o (place.Element a) operand) m (record m { arrays = xs }) (Ok (value.Number (pos 0)))
    raise_begun o c = post_stored o (place.Element a) operand (pos 0) element_made refl (lift_changes _ begun (ap (λ x. applied (by_one o) x one) c.changes.2 ∙ c.changes.4)) (element_stored begun a (str_of operand) n number (value.Number c.changes.1) (put_then (value.Number c.changes.1) (put ∙ ap (λ v. slice_set m.arrays n (with_pair (array_of m.arrays n) (str_of operand) v)) c.changes.3)))
