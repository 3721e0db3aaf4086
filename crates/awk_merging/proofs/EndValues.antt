-- Values, and simple statements of END, on two states in which all is the same that it may read.
use Rattle.std.proofs.Common.{◌≡◌, inl, inr, ℕ, suc, ℤ, ◌+◌, Bool, true, false, ◌||◌, List, [], ◌∷◌, ◌++◌, length, Option, Some, None, Result, Ok, Err, refl, subst, arith, codes, bytes_eq, map}
use Rattle.std.specs.Prelude.{is_some, unwrap_or}
use Rattle.std.specs.Map.{keys_of}
use Rattle.std.proofs.lemmas.Bool.{or_cases}
use Rattle.awk_value.specs.declared.value.Value.{Value}
use Rattle.awk_value.specs.declared.value.Value.TheVariants as value
use Rattle.awk_value.specs.Arrays.{Array, value_at, with_key, with_pair, without}
use Rattle.awk_value.specs.Values.{str_of, num_of}
use Rattle.awk_kinds.specs.Names.{has_name}
use Rattle.awk_lex.specs.declared.token.AssignmentOperator.{AssignmentOperator}
use Rattle.awk_lex.specs.declared.token.AssignmentOperator.TheVariants as assignment
use Rattle.awk_lex.specs.declared.token.IncrementOperator.{IncrementOperator}
use Rattle.awk_lex.specs.declared.token.Operator.{Operator}
use Rattle.awk_lex.specs.declared.token.BuiltIn.{BuiltIn as BuiltInName}
use Rattle.awk_lex.specs.declared.token.BuiltIn.TheVariants as builtin
use Rattle.awk_grammar.specs.declared.tree.PrintForm.{PrintForm}
use Rattle.awk_grammar.specs.declared.tree.PrintForm.TheVariants as form
use Rattle.awk_grammar.specs.declared.tree.BinaryOperator.{BinaryOperator}
use Rattle.awk_grammar.specs.Tree.{Expr, Number, String, Ere, Name, Element, Field, Group, Call, BuiltIn, Length, PreIncrement, PostIncrement, Getline, PipedGetline, Unary, Binary, Membership, ListMembership, Conditional, Assign, Exprs, Nil, Cons, OptionalExpr, NoExpr, AnExpr, PrintList, Bare, Parenthesized, Output, Standard, Redirected, SimpleStatement, Expression, Print, Delete, DeleteAll, Next, NextFile, Break, Continue, Exit, Return, OptionalSimple, NoSimple, ASimple}
use Rattle.awk_semantics.specs.declared.flow.Flow.{Flow}
use Rattle.awk_semantics.specs.declared.flow.Flow.TheVariants as flow
use Rattle.awk_semantics.specs.declared.halt.Halt.{Halt}
use Rattle.awk_semantics.specs.declared.halt.Halt.TheVariants as halt
use Rattle.awk_semantics.specs.definitions.State.{Printed, State, Run, go_on, ◌>>=◌, lift, ret}
use Rattle.awk_semantics.specs.definitions.Operators.{changed, applied, by_one, one, operator_of, join, line_of, takes_pattern}
use Rattle.awk_semantics.specs.definitions.Primitives.{number_of, read_name, read_element, read_element_at, store_element, store_element_at, delete_element, delete_element_at, clear_array, clear_array_at, has_element, has_element_at, keys_in, keys_at, joined_key, number_in, array_in, is_array, array_length, array_length_at, print_bytes, print_line, format_values, with_status, set_status}
use Rattle.awk_semantics.specs.definitions.Faults.{of_values}
use Rattle.awk_semantics.specs.definitions.Places.{Place, AName, AnElement, AField, read_place, store, assign, assign_by, post_increment}
use Rattle.awk_semantics.specs.definitions.BuiltIns.{Role, AsValue, AsPattern, AsArray, AsPlace, AsMeasured, roles_of, Argument, OfValue, OfEre, OfArray, OfPlace, value_of, bare_name, array_or_value, array_named_or, applied_all, count_elements, apply_built_in}
use Rattle.awk_semantics.specs.definitions.Semantics.{Functions, eval, place_of, key_of, take_arguments, eval_all, printed_values, target_of, print_by, print, begin_test, right_operand, exit_with, exec_simple, exec_part, goes_on, turn, unless_ended, repeat_within, repeat, walk, pass_on}
use Rattle.awk_pieces.specs.definitions.Pieceable.{no_own, is_plain, tells_apart, name_set, name_set_by, name_set_first, also}
use Rattle.awk_pieces.proofs.Alike.{Names, Values, IsWithin}
use Rattle.awk_pieces.proofs.LoopsAlike.{pass_alike, unless_alike, turn_alike, repeat_within_alike}
use Rattle.awk_pieces.proofs.PlacesAlike.{within_also}
use Rattle.awk_pieces.proofs.ReadsAlike.{left_true, right_true}
use Rattle.awk_pieces.proofs.ValuesAndFaults.{IsValueOrFault, of_values_faults, changed_faults, applied_faults, format_faults, applied_all_faults}
use Rattle.awk_merging.specs.definitions.Sums.{Sum, is_taken}
use Rattle.awk_merging.specs.definitions.Mergeable.{is_array_sum, is_derived, is_shown, makes_value, is_standard, is_free, is_changeable, is_pattern, reads_sums, all_read_sums, may_read_sums, are_printed, is_printed, sets_free, is_simple_of_end, is_part_of_end}
use Rattle.awk_merging.proofs.EndArguments.{IsShownName, IsShownArgument, AreMeasured, AreTaken, is_length, Begun, all_taken, begun_on, begun_first, MayTake, may_take, AreSome, bare_shown}
use Rattle.awk_merging.proofs.OwnVariables.{not_true}
use Rattle.awk_merging.proofs.ProgramSums.{AreProper}
use Rattle.awk_merging.proofs.Summing.{known_no_sum}
use Rattle.awk_merging.proofs.Showing.{Any, at, at', Covers, Alike, alike_within, then_with, then_alike, Reads, unmoved, lift_alike, ret_with, ret_alike, spend_alike, choose_alike, tested_alike, right_alike, combined_alike, array_shown, array_put, put_alike, assigned_alike, Shows}
use Rattle.awk_merging.proofs.EndNames.{names_kept}

module _ (shown : Names) (may : Shows shown) (xs : List Sum) (proper : AreProper xs) (base base' : State) where
  abbrev Does : {A : Type 0} → Run A → Run A → Type 0
  Does m n = Reads shown xs proper base base' Any m n

  abbrev DoesWith : {A : Type 0} → (A → Type 0) → Run A → Run A → Type 0
  DoesWith P m n = Reads shown xs proper base base' P m n

  abbrev next : {A B : Type 0} {P : A → Type 0} {Q : B → Type 0} {m n : Run A} (f g : A → Run B) → DoesWith P m n → ((a : A) → DoesWith Q (f a) (g a)) → DoesWith Q (m >>= f) (n >>= g)
  next f g x h = then_alike xs proper base base' f g x h

  gives_back : {A : Type 0} (a : A) → Does (ret a) (ret a)
  gives_back a = ret_alike shown xs proper base base' a

  -- what reads

  name_read : (x : List ℕ) → shown x ≡ true → Does (read_name x) (read_name x)
  unfolding read_name
  name_read x is = record {
    covers = λ arrays arrays' v w k d alike.
        rw (known_no_sum (tells_apart x) (is_derived x) (bytes_eq x (codes "NF")) (may.within x is), alike.variables x is) (unmoved shown xs proper base base' Any arrays arrays' v w k d [] (Ok (v x)) tt (λ a _. tt) alike);
  }

  element_read : (a key : List ℕ) → is_array_sum xs a ≡ true → Does (read_element a key) (read_element a key)
  unfolding read_element read_element_at
  element_read a key is = record {
    covers = λ arrays arrays' v w k d alike.
        let old : Array = array_in (at xs proper base base' arrays v k) (number_in base.array_names a) in
        rw (alike.arrays a (array_shown shown xs proper base base' a is)).elements
        (array_put shown xs proper base base' a is (unwrap_or (value_at old key) value.Nothing) arrays arrays' v w k d (with_key old key) alike);
  }

  element_had : (a key : List ℕ) → is_array_sum xs a ≡ true → Does (has_element a key) (has_element a key)
  unfolding has_element has_element_at
  element_had a key is = record {
    covers = λ arrays arrays' v w k d alike.
        rw (alike.arrays a (array_shown shown xs proper base base' a is)).elements
        (unmoved shown xs proper base base' Any arrays arrays' v w k d [] (Ok (is_some (value_at (array_in (at xs proper base base' arrays v k) (number_in base.array_names a)) key))) tt (λ b _. tt) alike);
  }

  pub keys_read : (a : List ℕ) → is_array_sum xs a ≡ true → Does (keys_in a) (keys_in a)
  unfolding keys_in keys_at
  keys_read a is = record {
    covers = λ arrays arrays' v w k d alike.
        rw (alike.arrays a (array_shown shown xs proper base base' a is)).elements
        (unmoved shown xs proper base base' Any arrays arrays' v w k d [] (Ok (keys_of (array_in (at xs proper base base' arrays v k) (number_in base.array_names a)))) tt (λ b _. tt) alike);
  }

  kind_read : (x : List ℕ) → is_shown x ≡ true → Does (is_array x) (is_array x)
  unfolding is_array
  kind_read x is = record { covers = λ arrays arrays' v w k d alike. rw (alike.arrays x is).named (unmoved shown xs proper base base' Any arrays arrays' v w k d [] (Ok (has_name base.array_names x)) tt (λ b _. tt) alike) }

  length_read : (x : List ℕ) → is_shown x ≡ true → Does (array_length x) (array_length x)
  unfolding array_length array_length_at
  length_read x is = record {
    covers = λ arrays arrays' v w k d alike.
        rw (alike.arrays x is).elements (unmoved shown xs proper base base' Any arrays arrays' v w k d [] (Ok (length (array_in (at xs proper base base' arrays v k) (number_in base.array_names x)))) tt (λ b _. tt) alike);
  }

  key_joined : (vs : List Value) → Does (joined_key vs) (joined_key vs)
  unfolding joined_key
  key_joined vs = record {
    covers = λ arrays arrays' v w k d alike.
        rw (alike.variables (codes "SUBSEP") may.subsep) (unmoved shown xs proper base base' Any arrays arrays' v w k d [] (Ok (join (str_of (v (codes "SUBSEP"))) (map str_of vs))) tt (λ b _. tt) alike);
  }

  -- what is changed

  element_stored : (a key : List ℕ) (b : Value) → is_array_sum xs a ≡ true → Does (store_element a key b) (store_element a key b)
  unfolding store_element store_element_at
  element_stored a key b is = record {
    covers = λ arrays arrays' v w k d alike.
        let old : Array = array_in (at xs proper base base' arrays v k) (number_in base.array_names a) in
        rw (alike.arrays a (array_shown shown xs proper base base' a is)).elements (array_put shown xs proper base base' a is tt arrays arrays' v w k d (with_pair old key b) alike);
  }

  element_deleted : (a key : List ℕ) → is_array_sum xs a ≡ true → Does (delete_element a key) (delete_element a key)
  unfolding delete_element delete_element_at
  element_deleted a key is = record {
    covers = λ arrays arrays' v w k d alike.
        let old : Array = array_in (at xs proper base base' arrays v k) (number_in base.array_names a) in
        rw (alike.arrays a (array_shown shown xs proper base base' a is)).elements (array_put shown xs proper base base' a is tt arrays arrays' v w k d (without old key) alike);
  }

  array_cleared : (a : List ℕ) → is_array_sum xs a ≡ true → Does (clear_array a) (clear_array a)
  unfolding clear_array clear_array_at
  array_cleared a is = record { covers = λ arrays arrays' v w k d alike. array_put shown xs proper base base' a is tt arrays arrays' v w k d [] alike }

  -- an element of such an array, or a variable that may be read and is none of awk's own
  abbrev IsChanged : Place → Type 0
  IsChanged (AName x) = (shown x ≡ true) × (is_taken x ≡ false)
  IsChanged (AnElement a key) = is_array_sum xs a ≡ true
  IsChanged (AField n) = ⊥

  abbrev kept_shown : (x : List ℕ) → IsWithin shown (also no_own (Some x) shown)
  kept_shown x = within_also no_own shown (Some x)

  place_read : (q : Place) → IsChanged q → Does (read_place q) (read_place q)
  unfolding read_place
  place_read (AName x) is = name_read x is.0
  place_read (AnElement a key) is = element_read a key is
  place_read (AField n) is = absurd is

  stored : (q : Place) (b : Value) → IsChanged q → Does (store q b) (store q b)
  unfolding store
  stored (AName x) b is = alike_within xs proper base base' (kept_shown x) (put_alike no_own shown x is.1 xs proper base base' b)
  stored (AnElement a key) b is = element_stored a key b is
  stored (AField n) b is = absurd is

  assigned : (q : Place) (b : Value) → IsChanged q → Does (assign q b) (assign q b)
  unfolding assign
  assigned q b is = next _ _ (stored q b is) (λ _. place_read q is)

  assigned_by : (c : Option Operator) (q : Place) (b : Value) → IsChanged q → Does (assign_by c q b) (assign_by c q b)
  unfolding assign_by
  assigned_by None q b is = assigned q b is
  assigned_by (Some c) q b is = next _ _ (place_read q is) (λ old. next _ _ (lift_alike shown xs proper base base' (applied c old b) (applied_faults c old b)) (λ z. assigned q z is))

  number_had : (v : Value) → Does (number_of v) (number_of v)
  number_had v = lift_alike shown xs proper base base' (of_values (num_of v)) (of_values_faults (num_of v))

  incremented : (c : IncrementOperator) (q : Place) → IsChanged q → Does (post_increment c q) (post_increment c q)
  unfolding post_increment
  incremented c q is = next _ _ (place_read q is) (λ old. next _ _ (number_had old) (λ n.
      next _ _ (lift_alike shown xs proper base base' (applied (by_one c) (value.Number n) one) (applied_faults (by_one c) (value.Number n) one)) (λ b. next _ _ (stored q b is) (λ _. gives_back _))))

  -- what prints

  line_printed : (vs : List Value) → Does (print_line 0 vs) (print_line 0 vs)
  unfolding print_line print_bytes
  line_printed vs = record {
    covers = λ arrays arrays' v w k d alike.
        rw (alike.variables (codes "OFS") may.ofs, alike.variables (codes "ORS") may.ors)
        (unmoved shown xs proper base base' Any arrays arrays' v w k d (Printed 0 (line_of (str_of (v (codes "OFS"))) (str_of (v (codes "ORS"))) vs) ∷ []) (Ok tt) tt (λ b _. tt) alike);
  }

  bytes_printed : (bytes : List ℕ) → Does (print_bytes 0 bytes) (print_bytes 0 bytes)
  unfolding print_bytes
  bytes_printed bytes = record { covers = λ arrays arrays' v w k d alike. unmoved shown xs proper base base' Any arrays arrays' v w k d (Printed 0 bytes ∷ []) (Ok tt) tt (λ b _. tt) alike }

  -- built-in functions

  value_taken : {m n : Run Value} → Does m n → DoesWith IsShownArgument (m >>= λ v. ret (OfValue v)) (n >>= λ v. ret (OfValue v))
  value_taken h = next _ _ h (λ v. ret_with shown xs proper base base' (OfValue v) tt)

  either_taken : (b : Bool) (x : List ℕ) {m n : Run Value} → is_shown x ≡ true → Does m n → DoesWith IsShownArgument (array_or_value b x m) (array_or_value b x n)
  either_taken true x is h = ret_with shown xs proper base base' (OfArray x) is
  either_taken false x is h = value_taken h

  measured : (name : Option (List ℕ)) {m n : Run Value} → IsShownName name → Does m n → DoesWith IsShownArgument (array_named_or name m) (array_named_or name n)
  measured None is h = value_taken h
  measured (Some x) is h = next _ _ (kind_read x is) (λ b. either_taken b x is h)

  applied_alike : (f : BuiltInName) (arguments : List Argument) → Does (lift (applied_all f (map value_of arguments))) (lift (applied_all f (map value_of arguments)))
  applied_alike f arguments = lift_alike shown xs proper base base' (applied_all f (map value_of arguments)) (applied_all_faults f (map value_of arguments))

  elements_counted : (x : List ℕ) → is_shown x ≡ true → Does (count_elements x) (count_elements x)
  unfolding count_elements
  elements_counted x is = next _ _ (length_read x is) (λ n. gives_back _)

  length_alike : (arguments : List Argument) → AreMeasured arguments → Does (apply_built_in builtin.Length arguments) (apply_built_in builtin.Length arguments)
  unfolding apply_built_in
  length_alike [] is = absurd is
  length_alike (OfArray x ∷ rest) is = elements_counted x is
  length_alike (OfValue v ∷ rest) is = applied_alike builtin.Length (OfValue v ∷ rest)
  length_alike (OfEre text ∷ rest) is = applied_alike builtin.Length (OfEre text ∷ rest)
  length_alike (OfPlace q old ∷ rest) is = applied_alike builtin.Length (OfPlace q old ∷ rest)

  built_in_alike : (c : BuiltInName) (es : Exprs) (arguments : List Argument) → makes_value c es ≡ true → AreTaken (is_length c) arguments → Does (apply_built_in c arguments) (apply_built_in c arguments)
  unfolding apply_built_in
  built_in_alike builtin.Length es arguments may are = length_alike arguments are
  built_in_alike builtin.Substr es arguments may are = applied_alike builtin.Substr arguments
  built_in_alike builtin.Index es arguments may are = applied_alike builtin.Index arguments
  built_in_alike builtin.Sprintf es arguments may are = applied_alike builtin.Sprintf arguments
  built_in_alike builtin.ToLower es arguments may are = applied_alike builtin.ToLower arguments
  built_in_alike builtin.ToUpper es arguments may are = applied_alike builtin.ToUpper arguments
  built_in_alike builtin.Int es arguments may are = applied_alike builtin.Int arguments
  built_in_alike builtin.Split es arguments may are = absurd (cc)
  built_in_alike builtin.Sub es arguments may are = absurd (cc)
  built_in_alike builtin.Gsub es arguments may are = absurd (cc)
  built_in_alike builtin.Match es arguments may are = absurd (cc)
  built_in_alike builtin.System es arguments may are = absurd (cc)
  built_in_alike builtin.Close es arguments may are = absurd (cc)
  built_in_alike builtin.Fflush es arguments may are = absurd (cc)

  pattern_operand : (c : BinaryOperator) (e : Expr) (m n : Run Value) → is_pattern c e ≡ true → Does (right_operand (takes_pattern c) e m) (right_operand (takes_pattern c) e n)
  pattern_operand c (Ere text) m n is = rw is (gives_back (value.Text text))
  pattern_operand c e m n is = absurd (cc)

  module _ (f g : Functions) where
    mutual
      unfolding eval

      pub expression_alike : (e : Expr) → reads_sums xs shown e ≡ true → Does (eval f e) (eval g e)
      expression_alike (Number n) is = gives_back _
      expression_alike (String bytes) is = gives_back _
      expression_alike (Name x) is = name_read x is
      expression_alike (Element a es) is = next _ _ (keys_alike [] es (right_true (is_array_sum xs a) _ is)) (λ key. element_read a key (left_true (is_array_sum xs a) _ is))
      expression_alike (Group e) is = expression_alike e is
      expression_alike (Unary c e) is = next _ _ (expression_alike e is) (λ v. lift_alike shown xs proper base base' (changed c v) (changed_faults c v))
      expression_alike (Binary c a b) is =
          let right : Does (right_operand (takes_pattern c) b (eval f b)) (right_operand (takes_pattern c) b (eval g b))
          = elim (or_cases (is_pattern c b) (reads_sums xs shown b) (right_true (reads_sums xs shown a) _ is)) [
            | inl pattern ↦ pattern_operand c b (eval f b) (eval g b) pattern
            | inr reads ↦ right_alike shown xs proper base base' (takes_pattern c) b (expression_alike b reads)
          ] in
          combined_alike shown xs proper base base' c (expression_alike a (left_true (reads_sums xs shown a) _ is)) right
      expression_alike (Conditional c a b) is =
          let both = right_true (reads_sums xs shown c) _ is in
          let here = expression_alike a (left_true (reads_sums xs shown a) _ both) in
          let other = expression_alike b (right_true (reads_sums xs shown a) _ both) in
          next _ _ (tested_alike shown xs proper base base' (expression_alike c (left_true (reads_sums xs shown c) _ is))) (λ x. choose_alike xs proper base base' x here other)
      expression_alike (BuiltIn c es) is =
          let may = left_true (makes_value c es) _ is in
          then_with xs proper base base' _ _ (arguments_alike (is_length c) es (roles_of c) [] (may_take c es may) (right_true (makes_value c es) _ is) (begun_first c es may)) (λ arguments are. built_in_alike c es arguments may are)
      expression_alike (Membership e a) is = next _ _ (expression_alike e (right_true (is_array_sum xs a) _ is)) (λ v. next _ _ (element_had a (str_of v) (left_true (is_array_sum xs a) _ is)) (λ y. gives_back _))
      expression_alike (ListMembership es a) is = next _ _ (keys_alike [] es (right_true (is_array_sum xs a) _ is)) (λ key. next _ _ (element_had a key (left_true (is_array_sum xs a) _ is)) (λ y. gives_back _))
      expression_alike (PreIncrement c p) is = then_with xs proper base base' _ _ (place_alike p (left_true (is_changeable p) _ is) (right_true (is_changeable p) _ is)) (λ q held. assigned_by (Some (by_one c)) q one held)
      expression_alike (PostIncrement c p) is = then_with xs proper base base' _ _ (place_alike p (left_true (is_changeable p) _ is) (right_true (is_changeable p) _ is)) (λ q held. incremented c q held)
      expression_alike (Assign c p e) is =
          let both = right_true (is_changeable p) _ is in
          let here = expression_alike e (right_true (reads_sums xs shown p) _ both) in
          then_with xs proper base base' _ _ (place_alike p (left_true (is_changeable p) _ is) (left_true (reads_sums xs shown p) _ both)) (λ q held. next _ _ here (λ b. assigned_by (operator_of c) q b held))
      expression_alike (Ere text) is = absurd (cc)
      expression_alike (Field e) is = absurd (cc)
      expression_alike (Call c es) is = absurd (cc)
      expression_alike Length is = absurd (cc)
      expression_alike (Getline p file) is = absurd (cc)
      expression_alike (PipedGetline c p) is = absurd (cc)

      place_alike : (e : Expr) → is_changeable e ≡ true → reads_sums xs shown e ≡ true → DoesWith IsChanged (place_of f e) (place_of g e)
      place_alike (Name x) may is = ret_with shown xs proper base base' (AName x) (is, not_true (is_taken x) may)
      place_alike (Element a es) may is = next _ _ (keys_alike [] es (right_true (is_array_sum xs a) _ is)) (λ key. ret_with shown xs proper base base' (AnElement a key) (left_true (is_array_sum xs a) _ is))
      place_alike (Number n) may is = absurd (cc)
      place_alike (String bytes) may is = absurd (cc)
      place_alike (Ere text) may is = absurd (cc)
      place_alike (Field a) may is = absurd (cc)
      place_alike (Group a) may is = absurd (cc)
      place_alike (Call c es) may is = absurd (cc)
      place_alike (BuiltIn c es) may is = absurd (cc)
      place_alike Length may is = absurd (cc)
      place_alike (PreIncrement c p) may is = absurd (cc)
      place_alike (PostIncrement c p) may is = absurd (cc)
      place_alike (Getline p file) may is = absurd (cc)
      place_alike (PipedGetline c p) may is = absurd (cc)
      place_alike (Unary c a) may is = absurd (cc)
      place_alike (Binary c a b) may is = absurd (cc)
      place_alike (Membership a x) may is = absurd (cc)
      place_alike (ListMembership es x) may is = absurd (cc)
      place_alike (Conditional c a b) may is = absurd (cc)
      place_alike (Assign c p a) may is = absurd (cc)

      keys_alike : (front : List Value) (es : Exprs) → all_read_sums xs shown es ≡ true → Does (key_of f front es) (key_of g front es)
      keys_alike front Nil is = key_joined front
      keys_alike front (Cons e es) is = next _ _ (expression_alike e (left_true (reads_sums xs shown e) _ is)) (λ v. keys_alike (front ++ v ∷ []) es (right_true (reads_sums xs shown e) _ is))

      arguments_alike : (first : Bool) (es : Exprs) (roles : List Role) (front : List Argument) → MayTake roles → all_read_sums xs shown es ≡ true → Begun first front es → DoesWith (AreTaken first) (take_arguments f roles front es) (take_arguments g roles front es)
      arguments_alike first Nil roles front takes is begun = ret_with shown xs proper base base' front (all_taken first front begun)
      arguments_alike first (Cons e es) [] front takes is begun =
          let rest = right_true (reads_sums xs shown e) _ is in
          then_with xs proper base base' _ _ (value_taken (expression_alike e (left_true (reads_sums xs shown e) _ is))) (λ a is_shown. arguments_alike first es [] (front ++ a ∷ []) tt rest (begun_on first front a e es is_shown begun))
      arguments_alike first (Cons e es) (AsMeasured ∷ roles) front takes is begun =
          let rest = right_true (reads_sums xs shown e) _ is in
          let own = left_true (reads_sums xs shown e) _ is in
          then_with xs proper base base' _ _ (measured (bare_name e) (bare_shown xs shown may.within e own) (expression_alike e (left_true (reads_sums xs shown e) _ is))) (λ a is_shown. arguments_alike first es roles (front ++ a ∷ []) takes rest (begun_on first front a e es is_shown begun))
      arguments_alike first (Cons e es) (AsValue ∷ roles) front takes is begun = absurd takes
      arguments_alike first (Cons e es) (AsPattern ∷ roles) front takes is begun = absurd takes
      arguments_alike first (Cons e es) (AsArray ∷ roles) front takes is begun = absurd takes
      arguments_alike first (Cons e es) (AsPlace ∷ roles) front takes is begun = absurd takes

    -- prints

    values_behind : (v : Value) (front : List Value) (es : Exprs) → all_read_sums xs shown es ≡ true → DoesWith AreSome (eval_all f (v ∷ front) es) (eval_all g (v ∷ front) es)
    unfolding eval_all
    values_behind v front Nil is = ret_with shown xs proper base base' (v ∷ front) tt
    values_behind v front (Cons e es) is = next _ _ (expression_alike e (left_true (reads_sums xs shown e) _ is)) (λ w. values_behind v (front ++ w ∷ []) es (right_true (reads_sums xs shown e) _ is))

    values_alike : (es : Exprs) → are_printed xs shown es ≡ true → DoesWith AreSome (eval_all f [] es) (eval_all g [] es)
    unfolding eval_all
    values_alike Nil is = absurd (cc)
    values_alike (Cons e es) is = next _ _ (expression_alike e (left_true (reads_sums xs shown e) _ is)) (λ v. values_behind v [] es (right_true (reads_sums xs shown e) _ is))

    list_alike : (list : PrintList) → is_printed xs shown list ≡ true → DoesWith AreSome (printed_values f list) (printed_values g list)
    unfolding printed_values
    list_alike (Bare es) is = values_alike es is
    list_alike (Parenthesized es) is = values_alike es is

    print_by_alike : (by : PrintForm) (vs : List Value) → AreSome vs → Does (print_by f by 0 vs) (print_by g by 0 vs)
    print_by_alike by [] some = absurd some
    print_by_alike form.Print (v ∷ vs) some = line_printed (v ∷ vs)
    print_by_alike form.Printf (v ∷ vs) some = next _ _ (lift_alike shown xs proper base base' (format_values (v ∷ vs)) (format_faults (v ∷ vs))) (λ text. bytes_printed text)

    target_alike : (output : Output) (m n : ℕ → Run (Unit {0})) → is_standard output ≡ true → Does (m 0) (n 0) → Does (target_of f output >>= m) (target_of g output >>= n)
    unfolding target_of lift ◌>>=◌ go_on
    target_alike Standard m n is h = record { covers = λ arrays arrays' v w k d alike. h.covers arrays arrays' v w k d alike }
    target_alike (Redirected way target) m n is h = absurd (cc)

    print_alike : (by : PrintForm) (list : PrintList) (output : Output) → is_printed xs shown list ≡ true → is_standard output ≡ true → Does (print f by list output) (print g by list output)
    unfolding print
    print_alike by list output is standard = next _ _ (spend_alike shown xs proper base base') (λ _. then_with xs proper base base' _ _ (list_alike list is) (λ vs some. target_alike output (λ n. print_by f by n vs) (λ n. print_by g by n vs) standard (print_by_alike by vs some)))

    pub test_alike : (e : Expr) → reads_sums xs shown e ≡ true → Does (begin_test f e) (begin_test g e)
    unfolding begin_test
    test_alike e is = next _ _ (spend_alike shown xs proper base base') (λ _. tested_alike shown xs proper base base' (expression_alike e is))

    pub goes_on_alike : (c : OptionalExpr) → may_read_sums xs shown c ≡ true → Does (goes_on f c) (goes_on g c)
    unfolding goes_on
    goes_on_alike NoExpr is = gives_back true
    goes_on_alike (AnExpr e) is = tested_alike shown xs proper base base' (expression_alike e is)

    -- exits

    module _ (same : base'.status ≡ base.status) where
      exits : DoesWith {A = Flow} Any (lift (Err halt.Exit)) (lift (Err halt.Exit))
      unfolding lift
      exits = record { covers = λ arrays arrays' v w k d alike. (refl, (refl, same)) }

      status_covers : (r : Result ℤ Halt) → IsValueOrFault r → (arrays arrays' : List Array) (v w : Values) (k l d : ℕ) →
          Covers xs proper base base' {A = Flow} Any shown d (((lift r >>= λ n. with_status n) >>= λ _. lift (Err halt.Exit)) (at xs proper base base' arrays v k)).result (((lift r >>= λ n. with_status n) >>= λ _. lift (Err halt.Exit)) (at xs proper base base' arrays v k)) (((lift r >>= λ n. with_status n) >>= λ _. lift (Err halt.Exit)) (at' xs proper base base' arrays' w l))
      unfolding lift ◌>>=◌ go_on
      status_covers (Ok n) is arrays arrays' v w k l d = (refl, (refl, refl))
      status_covers (Err (halt.Fault n)) is arrays arrays' v w k l d = (refl, refl)
      status_covers (Err halt.OutOfSteps) is arrays arrays' v w k l d = absurd is
      status_covers (Err halt.Next) is arrays arrays' v w k l d = absurd is
      status_covers (Err halt.Exit) is arrays arrays' v w k l d = absurd is

      exits_with : (b : Value) → DoesWith {A = Flow} Any (set_status b >>= λ _. lift (Err halt.Exit)) (set_status b >>= λ _. lift (Err halt.Exit))
      unfolding set_status
      exits_with b = record { covers = λ arrays arrays' v w k d alike. status_covers (of_values (num_of b)) (of_values_faults (num_of b)) arrays arrays' v w k (k + d) d }

      exit_alike : (e : OptionalExpr) → may_read_sums xs shown e ≡ true → Does (exit_with f e) (exit_with g e)
      unfolding exit_with
      exit_alike NoExpr is = exits
      exit_alike (AnExpr e) is = next _ _ (expression_alike e is) (λ b. exits_with b)

    -- statements that set a variable

    set_alike : (own : Names) (x : List ℕ) (e : Expr) → is_taken x ≡ false → reads_sums xs shown e ≡ true → Alike xs proper base base' shown (also own (Some x) shown) Any (eval f (Assign assignment.Plain (Name x) e)) (eval g (Assign assignment.Plain (Name x) e))
    unfolding eval assign_by lift ◌>>=◌ go_on
    set_alike own x e free is = record {
      covers = λ arrays arrays' v w k d alike.
          (then_alike xs proper base base' (λ b. assign (AName x) b) (λ b. assign (AName x) b) (expression_alike e is) (λ b. assigned_alike own shown x free xs proper base base' b)).covers arrays arrays' v w k d alike;
    }

    plain_set_alike : (own : Names) (c : AssignmentOperator) (x : List ℕ) (e : Expr) → is_plain c ≡ true → is_taken x ≡ false → reads_sums xs shown e ≡ true → Alike xs proper base base' shown (also own (name_set (Assign c (Name x) e)) shown) Any (eval f (Assign c (Name x) e)) (eval g (Assign c (Name x) e))
    plain_set_alike own assignment.Plain x e plain free is = set_alike own x e free is
    plain_set_alike own assignment.Add x e plain free is = absurd (cc)
    plain_set_alike own assignment.Subtract x e plain free is = absurd (cc)
    plain_set_alike own assignment.Multiply x e plain free is = absurd (cc)
    plain_set_alike own assignment.Divide x e plain free is = absurd (cc)
    plain_set_alike own assignment.Remainder x e plain free is = absurd (cc)
    plain_set_alike own assignment.Power x e plain free is = absurd (cc)

    place_set_alike : (own : Names) (c : AssignmentOperator) (place e : Expr) → is_plain c ≡ true → is_free place ≡ true → reads_sums xs shown e ≡ true → Alike xs proper base base' shown (also own (name_set (Assign c place e)) shown) Any (eval f (Assign c place e)) (eval g (Assign c place e))
    place_set_alike own c (Name x) e plain free is = plain_set_alike own c x e plain (not_true (is_taken x) free) is
    place_set_alike own c place e plain free is = absurd (cc)

    free_set_alike : (own : Names) (e : Expr) → sets_free xs shown e ≡ true → Alike xs proper base base' shown (also own (name_set e) shown) Any (eval f e) (eval g e)
    free_set_alike own (Assign c place e) is =
        let both = right_true (is_plain c) _ is in
        place_set_alike own c place e (left_true (is_plain c) _ is) (left_true (is_free place) _ both) (right_true (is_free place) _ both)
    free_set_alike own e is = absurd (cc)

    statement_alike : (own : Names) (e : Expr) → (sets_free xs shown e || reads_sums xs shown e) ≡ true → Alike xs proper base base' shown (also own (name_set e) shown) Any (eval f e) (eval g e)
    statement_alike own e is = elim (or_cases (sets_free xs shown e) (reads_sums xs shown e) is) [
      | inl sets ↦ free_set_alike own e sets
      | inr reads ↦ alike_within xs proper base base' (names_kept own shown xs e reads) (expression_alike e reads)
    ]

    pub simple_alike : (same : base'.status ≡ base.status) (own : Names) (simple : SimpleStatement) → is_simple_of_end xs shown simple ≡ true → Alike xs proper base base' shown (also own (name_set_by simple) shown) Any (exec_simple f simple) (exec_simple g simple)
    unfolding exec_simple
    simple_alike same own (Expression e) is = then_alike xs proper base base' _ _ (spend_alike shown xs proper base base') (λ _. then_alike xs proper base base' _ _ (statement_alike own e is) (λ v. ret_alike (also own (name_set e) shown) xs proper base base' flow.Normal))
    simple_alike same own (Print by list output) is = next _ _ (print_alike by list output (left_true (is_printed xs shown list) _ is) (right_true (is_printed xs shown list) _ is)) (λ _. gives_back flow.Normal)
    simple_alike same own (Delete a es) is =
        let summed = left_true (is_array_sum xs a) _ is in
        next _ _ (spend_alike shown xs proper base base') (λ _. next _ _ (keys_alike [] es (right_true (is_array_sum xs a) _ is)) (λ key. next _ _ (element_deleted a key summed) (λ _. gives_back flow.Normal)))
    simple_alike same own (DeleteAll a) is = next _ _ (spend_alike shown xs proper base base') (λ _. next _ _ (array_cleared a is) (λ _. gives_back flow.Normal))
    simple_alike same own (Exit e) is = next _ _ (spend_alike shown xs proper base base') (λ _. exit_alike same e is)
    simple_alike same own Break is = next _ _ (spend_alike shown xs proper base base') (λ _. gives_back flow.Break)
    simple_alike same own Continue is = next _ _ (spend_alike shown xs proper base base') (λ _. gives_back flow.Continue)
    simple_alike same own Next is = absurd (cc)
    simple_alike same own NextFile is = absurd (cc)
    simple_alike same own (Return e) is = absurd (cc)

    pub part_alike : (same : base'.status ≡ base.status) (own : Names) (first : OptionalSimple) → is_part_of_end xs shown first ≡ true → Alike xs proper base base' shown (also own (name_set_first first) shown) Any (exec_part f first) (exec_part g first)
    unfolding exec_part
    part_alike same own NoSimple is = gives_back tt
    part_alike same own (ASimple simple) is = then_alike xs proper base base' _ _ (simple_alike same own simple is) (λ c. ret_alike (also own (name_set_by simple) shown) xs proper base base' tt)

    -- loops

    abbrev DoesAt : (A : Type 0) → Run A → Run A → Type 0
    DoesAt A m n = Does m n

    pub unless : (ended : Option Flow) {m n : Run Flow} → Does m n → Does (unless_ended ended m) (unless_ended ended n)
    unless ended h = unless_alike DoesAt (λ A a. gives_back a) ended h

    pub turned : {m n : Run Flow} → Does m n → Does (turn m) (turn n)
    turned h = turn_alike DoesAt (λ A a. gives_back a) (λ A B m n f g x h. next f g x h) (spend_alike shown xs proper base base') h

    starved : (n : Run Flow) → Does (lift (Err halt.OutOfSteps)) n
    unfolding lift
    starved n = record { covers = λ arrays arrays' v w k d alike. tt }

    pub repeat_alike : {c c' : Run Bool} {s s' : Run Flow} {last last' : Run (Unit {0})} → Does c c' → Does s s' → Does last last' → Does (repeat c s last) (repeat c' s' last')
    unfolding repeat
    repeat_alike {c = c} {c' = c'} {s = s} {s' = s'} {last = last} {last' = last'} condition body end = record {
      covers = λ arrays arrays' v w k d alike.
          let more : suc k + d ≡ suc (k + d) = omega arith in
          (subst (λ (n : ℕ). Does (repeat_within (suc k) c s last) (repeat_within n c' s' last')) more (repeat_within_alike DoesAt (λ A a. gives_back a) (λ A B m n f g x h. next f g x h) (spend_alike shown xs proper base base') starved (suc k) d condition body end)).covers arrays arrays' v w k d alike;
    }

    pub walk_alike : (own : Names) (x : List ℕ) (keys : List (List ℕ)) {m n : Run Flow} → is_taken x ≡ false → Alike xs proper base base' (also own (Some x) shown) (also own (Some x) shown) Any m n → Does (walk x keys m) (walk x keys n)
    unfolding walk
    walk_alike own x [] free h = gives_back flow.Normal
    walk_alike own x (key ∷ keys) free h =
        let body = alike_within xs proper base base' (within_also own shown (Some x)) (then_alike xs proper base base' _ _ (put_alike own shown x free xs proper base base' (value.Text key)) (λ _. h)) in
        next _ _ (turned body) (λ ended. unless ended (walk_alike own x keys free h))

    -- what follows a statement, where more may be read behind that
    pub passed_on : (c : Flow) {more : Names} {m n : Run Flow} → IsWithin shown more → Alike xs proper base base' more more Any m n → Alike xs proper base base' more shown Any (pass_on c m) (pass_on c n)
    passed_on c {more = more} grows h =
        pass_alike (λ A m n. Alike xs proper base base' more shown (Any {A = A}) m n) (λ A a. alike_within xs proper base base' grows (ret_alike more xs proper base base' a)) c (alike_within xs proper base base' grows h)
