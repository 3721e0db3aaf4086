-- What adds to a sum does alike on a state and on one that is ahead of it.
use Rattle.std.proofs.Common.{◌≡◌, inl, inr, ℕ, ◌+◌, ℤ, ◌+ℤ◌, true, false, ◌||◌, List, [], ◌∷◌, ◌++◌, Some, Result, Ok, Err, refl, sym, ap, ◌∙◌, subst, le_refl, codes, bytes_eq, map}
use Rattle.std.proofs.lemmas.Bool.{cases_Bool}
use Rattle.awk_value.specs.declared.value.Value.{Value}
use Rattle.awk_value.specs.declared.fault.ValueFault.{ValueFault}
use Rattle.awk_value.specs.Arithmetic.{is_in_range}
use Rattle.awk_value.specs.Arrays.{Array}
use Rattle.awk_value.specs.Values.{num_of, str_of}
use Rattle.awk_record.specs.Record.{RecordPair}
use Rattle.awk_lex.specs.declared.token.AssignmentOperator.TheVariants as assignment
use Rattle.awk_lex.specs.declared.token.IncrementOperator.TheVariants as increment
use Rattle.awk_lex.specs.declared.token.Operator.TheVariants as operator
use Rattle.awk_grammar.specs.Tree.{Expr, Number, String, Ere, Name, Element, Field, Group, Call, BuiltIn, Length, PreIncrement, PostIncrement, Getline, PipedGetline, Unary, Binary, Membership, ListMembership, Conditional, Assign, Exprs, Nil, Cons}
use Rattle.awk_semantics.specs.declared.flow.Flow.{Flow}
use Rattle.awk_semantics.specs.declared.flow.Flow.TheVariants as flow
use Rattle.awk_semantics.specs.declared.fault.Fault.{Fault}
use Rattle.awk_semantics.specs.declared.halt.Halt.{Halt}
use Rattle.awk_semantics.specs.declared.halt.Halt.TheVariants as halt
use Rattle.awk_semantics.specs.definitions.State.{State, Out, Run, go_on, ◌>>=◌, lift, ret, gives}
use Rattle.awk_semantics.specs.definitions.Faults.{value_fault}
use Rattle.awk_semantics.specs.definitions.Operators.{join, one}
use Rattle.awk_semantics.specs.definitions.Primitives.{joined_key}
use Rattle.awk_semantics.specs.definitions.Places.{Place, AName, AnElement, assign_by}
use Rattle.awk_semantics.specs.definitions.Semantics.{Functions, eval, place_of, key_of}
use Rattle.awk_pieces.specs.definitions.Pieceable.{no_own, tells_apart, is_setting_of_awk, name_set, array_filled, sets_own, also, keeps_to_record, all_keep_to_record}
use Rattle.awk_pieces.proofs.Alike.{Outer, Names, OwnsSeparators, Values, AgreeOn, alike_within}
use Rattle.awk_pieces.proofs.ReadsAlike.{left_true, right_true, unmoved}
use Rattle.awk_pieces.proofs.ExpressionsAlike.{expression_alike}
use Rattle.awk_pieces.proofs.SetsAlike.{statement_alike}
use Rattle.awk_pieces.proofs.ArraysAlike.{joined_alike}
use Rattle.awk_pieces.proofs.KnownNames.{set_behind}
use Rattle.awk_merging.specs.definitions.Sums.{Sum, ByKey, Alone, name_of_sum, is_taken, Holds}
use Rattle.awk_merging.specs.definitions.LawOfReading.{key_for, number_at, IsAmong}
use Rattle.awk_merging.specs.definitions.LawOfStates.{Cell, Tables, with_cell, HoldsAll}
use Rattle.awk_merging.specs.definitions.LawOfDerived.{IsOneOf}
use Rattle.awk_merging.specs.definitions.Mergeable.{is_array_sum, is_derived, knows, is_sum_place}
use Rattle.awk_merging.specs.definitions.LawOfRules.{ahead, IsSound, IsAhead}
use Rattle.awk_merging.proofs.ProgramSums.{AreApart, AreProper, is_among, is_proper}
use Rattle.awk_merging.proofs.States.{holds_one, all_hold}
use Rattle.awk_merging.proofs.Sound.{ahead_cell, sound_cell, one_array, one_variable, not_named, not_sum, not_array, is_aside, not_variable}
use Rattle.awk_merging.proofs.OwnVariables.{AreOwn, not_own}
use Rattle.awk_merging.proofs.Summing.{apart, ret_first, reading_sorts, reading_apart, Knows, at, at', Covers, Told, Alike, then_alike, reads_alike}
use Rattle.awk_merging.proofs.Adders.{Added, Adder, plus_by_key, post_by_key, plus_alone_to, post_alone}

-- an expression statement drops the value
abbrev pub drop : Run Value → Run Flow
drop m = m >>= λ v. ret flow.Normal

dropped : (m : Run Value) (s t : State) (a : Value) → m s ≡ gives a t → drop m s ≡ gives flow.Normal t
unfolding ◌>>=◌ lift go_on
dropped m s t a is = rw is refl

drop_fails : (m : Run Value) (s : State) (h : Halt) → (m s).result ≡ Err h → (drop m s).result ≡ Err h
unfolding ◌>>=◌ go_on
drop_fails m s h is = rw is refl

module _ (own : Names) (xs : List Sum) (owned : AreOwn own xs) (proper : AreProper xs) (distinct : AreApart xs) where
  pub known_special : (x : List ℕ) → is_taken x ≡ true → tells_apart x ≡ false → is_derived x ≡ false → (tells_apart x || is_setting_of_awk x) ≡ true → knows own xs x ≡ true
  known_special x taken apart derived awk = rw (apart, derived, not_sum xs x proper taken, not_own own xs owned x awk) refl

  module _ (known : Names) (knew : Knows own xs owned known) (before : Tables) (base base' : State) (o p : Outer) where
    owns : OwnsSeparators known
    owns = record {
      fs = knew.within (codes "FS") (known_special (codes "FS") refl refl refl refl);
      rs = knew.within (codes "RS") (known_special (codes "RS") refl refl refl refl);
      ofs = knew.within (codes "OFS") (known_special (codes "OFS") refl refl refl refl);
      ors = knew.within (codes "ORS") (known_special (codes "ORS") refl refl refl refl);
      subsep = knew.within (codes "SUBSEP") (known_special (codes "SUBSEP") refl refl refl refl);
    }

    abbrev Does : {A : Type 0} → Run A → Run A → Type 0
    Does m n = Alike own xs owned before base base' o p known known m n

    abbrev here : RecordPair → List Array → Values → ℕ → State
    here = at own xs owned before base base' o p

    abbrev there : RecordPair → List Array → Values → ℕ → State
    there = at' own xs owned before base base' o p

    abbrev opened : State
    opened = record base { outside = o.outside; main = o.main; streams = []; next = 1; status = 0; input_seen = o.seen }

    abbrev opened' : State
    opened' = record base' { outside = p.outside; main = p.main; streams = []; next = 1; status = 0; input_seen = p.seen }

    told_as : {A : Type 0} (v w : Values) (k d : ℕ) (x x' y y' : Out A) → x ≡ x' → y ≡ y' → Told own xs owned before base base' o p known v w k d x'.result x' y' → Told own xs owned before base base' o p known v w k d x.result x y
    told_as {A = A} v w k d x x' y y' e f told = subst (λ (z : Out A). Told own xs owned before base base' o p known v w k d z.result z y) (sym e) (subst (λ (z : Out A). Told own xs owned before base base' o p known v w k d x'.result x' z) (sym f) told)

    fails : {A : Type 0} (v w : Values) (k d : ℕ) (x y : Out A) (f : Fault) → x.result ≡ Err (halt.Fault f) → Told own xs owned before base base' o p known v w k d x.result x y
    fails {A = A} v w k d x y f e = inl (subst (λ (r : Result A Halt). Covers own xs owned before base base' o p known v w k d r x y) (sym e) tt)

    alike_as : {A : Type 0} (m m' n n' : Run A) → m ≡ m' → n ≡ n' → Does m' n' → Does m n
    alike_as {A = A} m m' n n' e f h = subst (λ (z : Run A). Does z n) (sym e) (subst (λ (z : Run A). Does m' z) (sym f) h)

    -- what adds to a sum
    module _ (x : Sum) (key : List ℕ) (w : Value) (m : Run Value) (adder : Adder x key w m) (one : IsOneOf x xs) (c : RecordPair) (arrays arrays' : List Array) (v u : Values) (k d : ℕ)
        (are : IsAhead own xs before (here c arrays v k) (there c arrays' u (k + d))) (agrees : AgreeOn known v u) where
      abbrev grown : Tables → ℤ → ℤ
      grown tables n = number_at (tables (name_of_sum x)) (key_for x key) +ℤ n

      among : IsAmong x xs
      among = is_among x xs distinct one

      held : Holds (here c arrays v k) x (are.tables (name_of_sum x))
      held = (holds_one (here c arrays v k) x xs are.tables among are.here).1

      held' : Holds (there c arrays' u (k + d)) x (ahead before are.tables (name_of_sum x))
      held' = (holds_one (there c arrays' u (k + d)) x xs (ahead before are.tables) among are.there).1

      module _ (n : ℤ) (fits : is_in_range (grown are.tables n) ≡ true) (fits' : is_in_range (grown (ahead before are.tables) n) ≡ true)
          (a : Added opened c arrays v k x (are.tables (name_of_sum x)) key n m) (b : Added opened' c arrays' u (k + d) x (ahead before are.tables (name_of_sum x)) key n m) where
        abbrev cell : Cell
        cell = record { sum = x; key = key; number = n }

        same_tables : with_cell (ahead before are.tables) cell ≡ ahead before (with_cell are.tables cell)
        same_tables = ahead_cell before are.tables cell are.sound

        other : (z : List ℕ) → known z ≡ true → bytes_eq (name_of_sum x) z ≡ false
        other z is = not_named x xs z one (knew.no_sum z is)

        agrees_still : AgreeOn known a.values b.values
        agrees_still z e = b.keeps z (is_aside x z (other z e)) ∙ agrees z e ∙ sym (a.keeps z (is_aside x z (other z e)))

        still_ahead : IsAhead own xs before (here c a.arrays_then a.values k) (there c b.arrays_then b.values (k + d))
        still_ahead = record {
          tables = with_cell are.tables cell;
          here = all_hold (here c arrays v k) (here c a.arrays_then a.values k) cell are.tables a.adds a.others xs among are.here;
          there = subst (λ (t : Tables). HoldsAll (there c b.arrays_then b.values (k + d)) xs t) same_tables
              (all_hold (there c arrays' u (k + d)) (there c b.arrays_then b.values (k + d)) cell (ahead before are.tables) b.adds b.others xs among are.there);
          sound = sound_cell are.tables cell are.sound fits;
          sound_there = subst (λ (t : Tables). (name : List ℕ) → IsSound (t name)) same_tables (sound_cell (ahead before are.tables) cell are.sound_there fits');
          variables = λ z e. agrees_still z (knew.within z e);
          arrays = λ z e there.
              let apart_from = not_array x xs z one e in
              let none = are.arrays z e there in
              ((none.0.0, a.elements z apart_from ∙ none.0.1), (none.1.0, b.elements z apart_from ∙ none.1.1));
        }

        both_added : Told own xs owned before base base' o p known v u k d (drop m (here c arrays v k)).result (drop m (here c arrays v k)) (drop m (there c arrays' u (k + d)))
        both_added =
            told_as v u k d _ (gives flow.Normal (here c a.arrays_then a.values k)) _ (gives flow.Normal (there c b.arrays_then b.values (k + d)))
            (dropped m (here c arrays v k) (here c a.arrays_then a.values k) a.result a.is) (dropped m (there c arrays' u (k + d)) (there c b.arrays_then b.values (k + d)) b.result b.is)
            (inl (record {
              pair = c;
              arrays = a.arrays_then;
              arrays' = b.arrays_then;
              here = a.values;
              there = b.values;
              left = k;
              are_ahead = still_ahead;
              agrees = agrees_still;
              keeps = λ z e f. a.keeps z (not_variable x xs z one e);
              keeps' = λ z e f. b.keeps z (not_variable x xs z one e);
              falls = le_refl _;
              is_here = refl;
              silent = refl;
              is_there = refl;
            }))

      by_number : (r : Result ℤ ValueFault) → num_of w ≡ r → Told own xs owned before base base' o p known v u k d (drop m (here c arrays v k)).result (drop m (here c arrays v k)) (drop m (there c arrays' u (k + d)))
      by_number (Err f) is = fails v u k d _ _ (value_fault f) (drop_fails m _ _ (adder.no_number opened c arrays v k (are.tables (name_of_sum x)) f held is))
      by_number (Ok n) is = elim (cases_Bool (is_in_range (grown are.tables n))) [
        | inr over ↦ fails v u k d _ _ _ (drop_fails m _ _ (adder.outside opened c arrays v k (are.tables (name_of_sum x)) n held is over))
        | inl fits ↦ elim (cases_Bool (is_in_range (grown (ahead before are.tables) n))) [
          | inr over ↦ inr (drop_fails m _ _ (adder.outside opened' c arrays' u (k + d) (ahead before are.tables (name_of_sum x)) n held' is over))
          | inl fits' ↦ both_added n fits fits' (adder.within opened c arrays v k (are.tables (name_of_sum x)) n held is fits) (adder.within opened' c arrays' u (k + d) (ahead before are.tables (name_of_sum x)) n held' is fits')
        ]
      ]

    adder_alike : (x : Sum) (key : List ℕ) (w : Value) (m : Run Value) → Adder x key w m → IsOneOf x xs → Does (drop m) (drop m)
    adder_alike x key w m adder one = record { told = λ c arrays arrays' v u k d are agrees. by_number x key w m adder one c arrays arrays' v u k d are agrees (num_of w) refl }

    module _ (f g : Functions) where
      pub reads : (e : Expr) → keeps_to_record own no_own known e ≡ true → Does (eval f e) (eval g e)
      reads e is = reads_alike own xs owned before base base' o p known knew (expression_alike (reading_sorts own xs) (reading_apart own xs owned) known base base' owns f g e is)

      -- and what sets a variable of the record, too, which is known behind it
      pub sets : (e : Expr) → (sets_own own no_own known e || keeps_to_record own no_own known e) ≡ true → Alike own xs owned before base base' o p known (also own (name_set e) known) (eval f e) (eval g e)
      sets e is = reads_alike own xs owned before base base' o p known knew (alike_within (set_behind own known (name_set e) (array_filled e)) (statement_alike (reading_sorts own xs) (reading_apart own xs owned) known base base' owns f g e is))

      joined : (vs : List Value) → Does (joined_key vs) (joined_key vs)
      joined vs = reads_alike own xs owned before base base' o p known knew (joined_alike (reading_sorts own xs) known base base' owns vs)

      keys : (front : List Value) (es : Exprs) → all_keep_to_record own no_own known es ≡ true → Does (key_of f front es) (key_of g front es)
      unfolding key_of
      keys front Nil is = joined front
      keys front (Cons e es) is = then_alike own xs owned before base base' o p _ _ (reads e (left_true (keeps_to_record own no_own known e) _ is)) (λ v. keys (front ++ v ∷ []) es (right_true (keeps_to_record own no_own known e) _ is))

      element_first : (h : Functions) (a : List ℕ) (es : Exprs) (to : Place → Run Value) → drop (place_of h (Element a es) >>= to) ≡ (key_of h [] es >>= λ key. drop (to (AnElement a key)))
      unfolding place_of
      element_first h a es to =
          apart (key_of h [] es >>= λ key. ret (AnElement a key)) to (λ v. ret flow.Normal)
          ∙ apart (key_of h [] es) (λ key. ret (AnElement a key)) (λ q. drop (to q))
          ∙ (λ i. key_of h [] es >>= λ key. ret_first (AnElement a key) (λ q. drop (to q)) i)

      name_first : (h : Functions) (x : List ℕ) (to : Place → Run Value) → drop (place_of h (Name x) >>= to) ≡ drop (to (AName x))
      unfolding place_of
      name_first h x to = ap drop (ret_first (AName x) to)

      -- what adds at each place of a sum
      placed : (place : Expr) (to to' : Place → Run Value) → is_sum_place own xs known place ≡ true →
          ((a key : List ℕ) → IsOneOf (ByKey a) xs → Does (drop (to (AnElement a key))) (drop (to' (AnElement a key)))) →
          ((x : List ℕ) → IsOneOf (Alone x) xs → Does (drop (to (AName x))) (drop (to' (AName x)))) →
          Does (drop (place_of f place >>= to)) (drop (place_of g place >>= to'))
      placed (Element a es) to to' is by_key by_name =
          alike_as _ _ _ _ (element_first f a es to) (element_first g a es to')
          (then_alike own xs owned before base base' o p _ _ (keys [] es (right_true (is_array_sum xs a) _ is)) (λ key. by_key a key (one_array xs a (left_true (is_array_sum xs a) _ is))))
      placed (Name x) to to' is by_key by_name = alike_as _ _ _ _ (name_first f x to) (name_first g x to') (by_name x (one_variable xs x is))
      placed (Number n) to to' is by_key by_name = absurd (cc)
      placed (String bytes) to to' is by_key by_name = absurd (cc)
      placed (Ere text) to to' is by_key by_name = absurd (cc)
      placed (Field e) to to' is by_key by_name = absurd (cc)
      placed (Group e) to to' is by_key by_name = absurd (cc)
      placed (Call h es) to to' is by_key by_name = absurd (cc)
      placed (BuiltIn h es) to to' is by_key by_name = absurd (cc)
      placed Length to to' is by_key by_name = absurd (cc)
      placed (PreIncrement h q) to to' is by_key by_name = absurd (cc)
      placed (PostIncrement h q) to to' is by_key by_name = absurd (cc)
      placed (Getline q file) to to' is by_key by_name = absurd (cc)
      placed (PipedGetline h q) to to' is by_key by_name = absurd (cc)
      placed (Unary h e) to to' is by_key by_name = absurd (cc)
      placed (Binary h a b) to to' is by_key by_name = absurd (cc)
      placed (Membership e y) to to' is by_key by_name = absurd (cc)
      placed (ListMembership es y) to to' is by_key by_name = absurd (cc)
      placed (Conditional h a b) to to' is by_key by_name = absurd (cc)
      placed (Assign h q e) to to' is by_key by_name = absurd (cc)

      abbrev own_name : (x : List ℕ) → IsOneOf (Alone x) xs → is_taken x ≡ false
      own_name x one = is_proper (Alone x) xs proper one

      pub assigned : (place e : Expr) → is_sum_place own xs known place ≡ true → keeps_to_record own no_own known e ≡ true → Does (drop (eval f (Assign assignment.Add place e))) (drop (eval g (Assign assignment.Add place e)))
      unfolding eval
      assigned place e is kept =
          let valued = λ (q : Place) (h : (w : Value) → Does (drop (assign_by (Some operator.Plus) q w)) (drop (assign_by (Some operator.Plus) q w))).
          alike_as _ _ _ _ (apart (eval f e) (assign_by (Some operator.Plus) q) (λ v. ret flow.Normal)) (apart (eval g e) (assign_by (Some operator.Plus) q) (λ v. ret flow.Normal))
          (then_alike own xs owned before base base' o p _ _ (reads e kept) h) in
          placed place (λ q. eval f e >>= λ v. assign_by (Some operator.Plus) q v) (λ q. eval g e >>= λ v. assign_by (Some operator.Plus) q v) is
          (λ a key one. valued (AnElement a key) (λ w. adder_alike (ByKey a) key w _ (plus_by_key f a key w) one))
          (λ x one. valued (AName x) (λ w. adder_alike (Alone x) [] w _ (plus_alone_to f x (own_name x one) w) one))

      pub before_one : (place : Expr) → is_sum_place own xs known place ≡ true → Does (drop (eval f (PreIncrement increment.Increment place))) (drop (eval g (PreIncrement increment.Increment place)))
      unfolding eval
      before_one place is = placed place _ _ is (λ a key is_one. adder_alike (ByKey a) key one _ (plus_by_key f a key one) is_one) (λ x is_one. adder_alike (Alone x) [] one _ (plus_alone_to f x (own_name x is_one) one) is_one)

      pub behind_one : (place : Expr) → is_sum_place own xs known place ≡ true → Does (drop (eval f (PostIncrement increment.Increment place))) (drop (eval g (PostIncrement increment.Increment place)))
      unfolding eval
      behind_one place is = placed place _ _ is (λ a key is_one. adder_alike (ByKey a) key one _ (post_by_key f a key) is_one) (λ x is_one. adder_alike (Alone x) [] one _ (post_alone f x (own_name x is_one)) is_one)
