-- What only reads, and what is made of it, does alike.
use Rattle.std.proofs.Common.{◌≡◌, ℕ, zero, suc, ◌+◌, Bool, true, false, ◌&&◌, ◌||◌, List, [], ◌∷◌, Result, Ok, Err, pos, ℤ, refl, le_refl, arith, cond, codes, bytes_eq, length}
use Rattle.awk_value.specs.declared.value.Value.{Value}
use Rattle.awk_value.specs.declared.value.Value.TheVariants as value
use Rattle.awk_value.specs.Values.{truth_of, num_of}
use Rattle.awk_value.specs.Arrays.{Array}
use Rattle.awk_record.specs.definitions.Record.{RecordPair, field_of}
use Rattle.awk_lex.specs.declared.token.BuiltIn.TheVariants as built_in
use Rattle.awk_lex.specs.declared.token.Operator.TheVariants as o
use Rattle.awk_grammar.specs.declared.tree.BinaryOperator.{BinaryOperator}
use Rattle.awk_grammar.specs.declared.tree.BinaryOperator.TheVariants.{Concatenate, Infix}
use Rattle.awk_grammar.specs.Tree.{Expr, Number, String, Ere, Name, Element, Field, Group, Call, BuiltIn, Length, PreIncrement, PostIncrement, Getline, PipedGetline, Unary, Binary, Membership, ListMembership, Conditional, Assign}
use Rattle.awk_semantics.specs.declared.halt.Halt.{Halt}
use Rattle.awk_semantics.specs.declared.halt.Halt.TheVariants as halt
use Rattle.awk_kinds.specs.Names.{has_name}
use Rattle.awk_semantics.specs.definitions.State.{Effect, State, Run, lift, ret, gives}
use Rattle.awk_semantics.specs.definitions.Operators.{truth_value, applied}
use Rattle.awk_semantics.specs.definitions.Faults.{of_values, of_record}
use Rattle.awk_semantics.specs.definitions.Primitives.{spend, spend_of, number_of, read_field, record_text, read_name, is_array, number_in, array_in, array_length, array_length_at}
use Rattle.awk_semantics.specs.definitions.BuiltIns.{applied_all, record_length}
use Rattle.awk_semantics.specs.definitions.Semantics.{right_operand, tested, choose, combined}
use Rattle.awk_pieces.proofs.Alike.{Outer, Names, Sorts, Values, state_on, with_arrays, array_of, Agrees, unmoved_arrays, AreShown, shown_none, Same, Covers, Alike, AlikeWith, then_alike}
use Rattle.awk_pieces.proofs.ValuesAndFaults.{IsValueOrFault, of_values_faults, of_record_faults, applied_faults, applied_all_faults}

pub left_true : (a b : Bool) → (a && b) ≡ true → a ≡ true
left_true true b e = refl
left_true false b e = e

pub or_left : (a b : Bool) → a ≡ true → (a || b) ≡ true
or_left true b e = refl
or_left false b e = absurd (cc)

pub right_true : (a b : Bool) → (a && b) ≡ true → b ≡ true
right_true true b e = e
right_true false b e = absurd (cc)

module _ (sorts : Sorts) (known : Names) (base base' : State) where
  -- what reads names that are known, and leaves them alike
  abbrev pub Reads : {A : Type 0} → Run A → Run A → Type 0
  Reads m n = Alike sorts known known base base' m n

  pub unmoved : {A : Type 0} (o p : Outer) (c : RecordPair) (arrays arrays' : List Array) (v w : Values) (k d : ℕ) (effects : List Effect) (r : Result A Halt) → IsValueOrFault r → AreShown sorts.shows effects → Agrees sorts known base base' arrays arrays' v w → Covers sorts known base base' o p arrays arrays' v w k d r (record { result = r; state = state_on (with_arrays base arrays) o c v k; effects = effects }) (record { result = r; state = state_on (with_arrays base' arrays') p c w (k + d); effects = effects })
  unmoved o p c arrays arrays' v w k d effects (Ok a) is plain agrees = record { pair = c; left = k; arrays_here = arrays; arrays_there = arrays'; here = v; there = w; agrees = agrees; keeps = λ x e. refl; keeps_there = λ x e. refl; moves = unmoved_arrays sorts base arrays; moves_there = unmoved_arrays sorts base' arrays'; falls = le_refl _; is_here = refl; is_there = refl; plain = plain }
  unmoved o p c arrays arrays' v w k d effects (Err (halt.Fault f)) is plain agrees = tt
  unmoved o p c arrays arrays' v w k d effects (Err halt.OutOfSteps) is plain agrees = absurd is
  unmoved o p c arrays arrays' v w k d effects (Err halt.Next) is plain agrees = absurd is
  unmoved o p c arrays arrays' v w k d effects (Err halt.Exit) is plain agrees = absurd is

  pub lift_alike : {A : Type 0} (r : Result A Halt) → IsValueOrFault r → Reads (lift r) (lift r)
  unfolding lift
  lift_alike r is = record { covers = λ o p c arrays arrays' v w k d agrees. unmoved o p c arrays arrays' v w k d [] r is (shown_none sorts.shows) agrees }

  pub ret_alike : {A : Type 0} (a : A) → Reads (ret a) (ret a)
  ret_alike a = lift_alike (Ok a) tt

  pub ret_with : {A : Type 0} {P : A → Type 0} (a : A) → P a → AlikeWith P sorts known known base base' (ret a) (ret a)
  unfolding lift
  ret_with a p = record { alike = ret_alike a; holds = λ s. p }

  fewer : (o p : Outer) (c : RecordPair) (arrays arrays' : List Array) (v w : Values) (k d : ℕ) → Agrees sorts known base base' arrays arrays' v w → Same {A = Unit {0}} sorts known base base' o p arrays arrays' v w (suc k) d (gives (tt {0}) (state_on (with_arrays base arrays) o c v k)) (gives (tt {0}) (state_on (with_arrays base' arrays') p c w (k + d)))
  fewer o p c arrays arrays' v w k d agrees = record { pair = c; left = k; arrays_here = arrays; arrays_there = arrays'; here = v; there = w; agrees = agrees; keeps = λ x e. refl; keeps_there = λ x e. refl; moves = unmoved_arrays sorts base arrays; moves_there = unmoved_arrays sorts base' arrays'; falls = omega arith; is_here = refl; is_there = refl; plain = shown_none sorts.shows }

  spend_covers : (o p : Outer) (c : RecordPair) (arrays arrays' : List Array) (v w : Values) (k d : ℕ) → Agrees sorts known base base' arrays arrays' v w → Covers sorts known base base' o p arrays arrays' v w k d (spend_of k (state_on (with_arrays base arrays) o c v k)).result (spend_of k (state_on (with_arrays base arrays) o c v k)) (spend_of (k + d) (state_on (with_arrays base' arrays') p c w (k + d)))
  spend_covers o p c arrays arrays' v w zero d agrees = tt
  spend_covers o p c arrays arrays' v w (suc k) d agrees = let e : suc k + d ≡ suc (k + d) = omega arith in rw e (fewer o p c arrays arrays' v w k d agrees)

  pub spend_alike : Reads spend spend
  unfolding spend
  spend_alike = record { covers = λ o p c arrays arrays' v w k d agrees. spend_covers o p c arrays arrays' v w k d agrees }

  pub text_alike : Reads record_text record_text
  unfolding record_text
  text_alike = record { covers = λ o p c arrays arrays' v w k d agrees. unmoved o p c arrays arrays' v w k d [] (Ok (value.Input c.text)) tt (shown_none sorts.shows) agrees }

  pub name_alike : (x : List ℕ) → known x ≡ true → Reads (read_name x) (read_name x)
  unfolding read_name
  name_alike x is = record { covers = λ o p c arrays arrays' v w k d agrees. rw (agrees.values x is) (unmoved o p c arrays arrays' v w k d [] (Ok (cond (bytes_eq x (codes "NF")) (value.Number (pos (length c.fields))) (v x))) tt (shown_none sorts.shows) agrees) }

  -- a variable that has the name of an array of the record
  pub unset_alike : (x : List ℕ) → sorts.arrays x ≡ true → Reads (read_name x) (read_name x)
  unfolding read_name
  unset_alike x is = record { covers = λ o p c arrays arrays' v w k d agrees. rw (agrees.unset x is) (unmoved o p c arrays arrays' v w k d [] (Ok (cond (bytes_eq x (codes "NF")) (value.Number (pos (length c.fields))) (v x))) tt (shown_none sorts.shows) agrees) }

  pub field_alike : (n : ℤ) → Reads (read_field n) (read_field n)
  unfolding read_field
  field_alike n = record { covers = λ o p c arrays arrays' v w k d agrees. unmoved o p c arrays arrays' v w k d [] (of_record (field_of c n)) (of_record_faults (field_of c n)) (shown_none sorts.shows) agrees }

  pub number_alike : (v : Value) → Reads (number_of v) (number_of v)
  number_alike v = lift_alike (of_values (num_of v)) (of_values_faults (num_of v))

  pub is_array_alike : (x : List ℕ) → known x ≡ true → Reads (is_array x) (is_array x)
  unfolding is_array
  is_array_alike x is = record { covers = λ o p c arrays arrays' v w k d agrees. rw (agrees.kinds x (or_left _ _ is)).named (unmoved o p c arrays arrays' v w k d [] (Ok (has_name base.array_names x)) tt (shown_none sorts.shows) agrees) }

  pub array_length_alike : (x : List ℕ) → known x ≡ true → Reads (array_length x) (array_length x)
  unfolding array_length array_length_at
  array_length_alike x is = record { covers = λ o p c arrays arrays' v w k d agrees. rw (agrees.kinds x (or_left _ _ is)).same (unmoved o p c arrays arrays' v w k d [] (Ok (length (array_of base arrays x))) tt (shown_none sorts.shows) agrees) }

  pub right_alike : (takes : Bool) (e : Expr) {m n : Run Value} → Reads m n → Reads (right_operand takes e m) (right_operand takes e n)
  right_alike true (Ere text) h = ret_alike _
  right_alike true (Number n) h = h
  right_alike true (String bytes) h = h
  right_alike true (Name x) h = h
  right_alike true (Element x es) h = h
  right_alike true (Field a) h = h
  right_alike true (Group a) h = h
  right_alike true (Call f es) h = h
  right_alike true (BuiltIn f es) h = h
  right_alike true Length h = h
  right_alike true (PreIncrement c p) h = h
  right_alike true (PostIncrement c p) h = h
  right_alike true (Getline p file) h = h
  right_alike true (PipedGetline c p) h = h
  right_alike true (Unary c a) h = h
  right_alike true (Binary c a b) h = h
  right_alike true (Membership a x) h = h
  right_alike true (ListMembership es x) h = h
  right_alike true (Conditional c a b) h = h
  right_alike true (Assign c p a) h = h
  right_alike false e h = h

  pub tested_alike : {m n : Run Value} → Reads m n → Reads (tested m) (tested n)
  unfolding tested
  tested_alike h = then_alike _ _ h (λ v. ret_alike (truth_of v))

  pub choose_alike : {A : Type 0} {before after : Names} (b : Bool) {here here' other other' : Run A} → Alike sorts before after base base' here here' → Alike sorts before after base base' other other' → Alike sorts before after base base' (choose b here other) (choose b here' other')
  choose_alike true h k = h
  choose_alike false h k = k

  pub combined_alike : (c : BinaryOperator) {m n x y : Run Value} → Reads m n → Reads x y → Reads (combined c m x) (combined c n y)
  combined_alike Concatenate h k = then_alike _ _ h (λ x. then_alike _ _ k (λ y. ret_alike _))
  combined_alike (Infix o.And) h k = then_alike _ _ (tested_alike h) (λ x. then_alike _ _ (choose_alike x (tested_alike k) (ret_alike false)) (λ y. ret_alike (truth_value y)))
  combined_alike (Infix o.Or) h k = then_alike _ _ (tested_alike h) (λ x. then_alike _ _ (choose_alike x (ret_alike true) (tested_alike k)) (λ y. ret_alike (truth_value y)))
  combined_alike (Infix o.Power) h k = then_alike _ _ h (λ x. then_alike _ _ k (λ y. lift_alike (applied o.Power x y) (applied_faults o.Power x y)))
  combined_alike (Infix o.Times) h k = then_alike _ _ h (λ x. then_alike _ _ k (λ y. lift_alike (applied o.Times x y) (applied_faults o.Times x y)))
  combined_alike (Infix o.Divide) h k = then_alike _ _ h (λ x. then_alike _ _ k (λ y. lift_alike (applied o.Divide x y) (applied_faults o.Divide x y)))
  combined_alike (Infix o.Remainder) h k = then_alike _ _ h (λ x. then_alike _ _ k (λ y. lift_alike (applied o.Remainder x y) (applied_faults o.Remainder x y)))
  combined_alike (Infix o.Plus) h k = then_alike _ _ h (λ x. then_alike _ _ k (λ y. lift_alike (applied o.Plus x y) (applied_faults o.Plus x y)))
  combined_alike (Infix o.Minus) h k = then_alike _ _ h (λ x. then_alike _ _ k (λ y. lift_alike (applied o.Minus x y) (applied_faults o.Minus x y)))
  combined_alike (Infix o.Less) h k = then_alike _ _ h (λ x. then_alike _ _ k (λ y. lift_alike (applied o.Less x y) (applied_faults o.Less x y)))
  combined_alike (Infix o.LessEqual) h k = then_alike _ _ h (λ x. then_alike _ _ k (λ y. lift_alike (applied o.LessEqual x y) (applied_faults o.LessEqual x y)))
  combined_alike (Infix o.NotEqual) h k = then_alike _ _ h (λ x. then_alike _ _ k (λ y. lift_alike (applied o.NotEqual x y) (applied_faults o.NotEqual x y)))
  combined_alike (Infix o.Equal) h k = then_alike _ _ h (λ x. then_alike _ _ k (λ y. lift_alike (applied o.Equal x y) (applied_faults o.Equal x y)))
  combined_alike (Infix o.Greater) h k = then_alike _ _ h (λ x. then_alike _ _ k (λ y. lift_alike (applied o.Greater x y) (applied_faults o.Greater x y)))
  combined_alike (Infix o.GreaterEqual) h k = then_alike _ _ h (λ x. then_alike _ _ k (λ y. lift_alike (applied o.GreaterEqual x y) (applied_faults o.GreaterEqual x y)))
  combined_alike (Infix o.Matches) h k = then_alike _ _ h (λ x. then_alike _ _ k (λ y. lift_alike (applied o.Matches x y) (applied_faults o.Matches x y)))
  combined_alike (Infix o.NotMatches) h k = then_alike _ _ h (λ x. then_alike _ _ k (λ y. lift_alike (applied o.NotMatches x y) (applied_faults o.NotMatches x y)))

  pub record_length_alike : Reads record_length record_length
  unfolding record_length
  record_length_alike = then_alike _ _ text_alike (λ v. lift_alike (applied_all built_in.Length (v ∷ [])) (applied_all_faults built_in.Length (v ∷ [])))
