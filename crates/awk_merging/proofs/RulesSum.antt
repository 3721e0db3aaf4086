-- The rules of a program that sums up, on a state and on one that is ahead of it.
use Rattle.std.proofs.Common.{◌≡◌, ◌⊎◌, inl, inr, ℕ, suc, ◌+◌, Bool, true, ◌&&◌, ◌||◌, List, [], ◌∷◌, Some, Result, Ok, Err, ap, ◌∙◌, subst}
use Rattle.std.proofs.lemmas.Bool.{or_cases}
use Rattle.awk_value.specs.declared.value.Value.{Value}
use Rattle.awk_record.specs.definitions.Cut.{AtEnd}
use Rattle.awk_lex.specs.declared.token.AssignmentOperator.{AssignmentOperator}
use Rattle.awk_lex.specs.declared.token.AssignmentOperator.TheVariants as assignment
use Rattle.awk_lex.specs.declared.token.IncrementOperator.{IncrementOperator}
use Rattle.awk_lex.specs.declared.token.IncrementOperator.TheVariants as increment
use Rattle.awk_grammar.specs.Tree.{Expr, Number, String, Ere, Name, Element, Field, Group, Call, BuiltIn, Length, PreIncrement, PostIncrement, Getline, PipedGetline, Unary, Binary, Membership, ListMembership, Conditional, Assign, SimpleStatement, Expression, Print, Delete, DeleteAll, Next, NextFile, Break, Continue, Exit, Return, OptionalExpr, NoExpr, AnExpr, OptionalSimple, NoSimple, ASimple, Statement, Empty, Simple, Block, If, IfElse, While, Do, ForIn, For, Statements, NoMore, Then, Pattern, Single, Range, Item, Begin, End, Action, PatternAction, PatternOnly, Function}
use Rattle.awk_semantics.specs.declared.flow.Flow.{Flow}
use Rattle.awk_semantics.specs.declared.flow.Flow.TheVariants as flow
use Rattle.awk_semantics.specs.declared.halt.Halt.{Halt}
use Rattle.awk_semantics.specs.declared.halt.Halt.TheVariants as halt
use Rattle.awk_semantics.specs.definitions.State.{Effect, State, Out, Run, ◌>>=◌, ret}
use Rattle.awk_semantics.specs.definitions.Primitives.{outside_calls, spend}
use Rattle.awk_semantics.specs.definitions.Semantics.{Functions, eval, tested, choose, begin_test, exec_simple, exec_part, goes_on, repeat, pass_on, exec, exec_all}
use Rattle.awk_semantics.specs.definitions.Items.{run_action, selects, try_item, try_items, unless_next, until_next}
use Rattle.awk_pieces.specs.definitions.Pieceable.{no_own, keeps_to_record, may_keep_to_record, pattern_keeps_to_record, sets_own, name_set, name_set_by, name_set_first, name_behind, also, behind}
use Rattle.awk_pieces.proofs.Alike.{Outer, Names, Values, IsWithin}
use Rattle.awk_pieces.proofs.LoopsAlike.{pass_alike}
use Rattle.awk_pieces.proofs.PlacesAlike.{within_also}
use Rattle.awk_pieces.proofs.ReadsAlike.{left_true, right_true}
use Rattle.awk_pieces.proofs.RulesAlike.{grows}
use Rattle.awk_merging.specs.definitions.Sums.{Sum}
use Rattle.awk_merging.specs.definitions.LawOfStates.{Tables, state_reading}
use Rattle.awk_merging.specs.definitions.Mergeable.{own_in, sums_of_program, is_plus, is_plus_one, knows, is_sum_place, is_addition, is_simple_summing, is_part_summing, only_sums, all_only_sum, is_mergeable_item, are_mergeable}
use Rattle.awk_merging.specs.definitions.LawOfRules.{GoAlong, LawOfRules}
use Rattle.awk_merging.proofs.OwnVariables.{AreOwn, own_apart}
use Rattle.awk_merging.proofs.ProgramSums.{AreApart, AreProper, apart_sums, proper_sums}
use Rattle.awk_merging.proofs.Summing.{Lost, Knows, knows_first, knows_also, Same, Covers, Told, Alike, alike_within, then_alike, ret_alike, next_alike, choose_alike, tested_alike, spend_alike, turned, unless, repeat_alike}
use Rattle.awk_merging.proofs.AdditionsAlike.{drop, reads, sets, assigned, before_one, behind_one}

module _ (own : Names) (xs : List Sum) (owned : AreOwn own xs) (proper : AreProper xs) (distinct : AreApart xs) (before : Tables) (base base' : State) (o p : Outer) (f g : Functions) where
  abbrev Leads : {A : Type 0} → Names → Names → Run A → Run A → Type 0
  Leads known after m n = Alike own xs owned before base base' o p known after m n

  abbrev Knew : Names → Type 0
  Knew known = Knows own xs owned known

  abbrev next : {A B : Type 0} {known between after : Names} {m n : Run A} (h k : A → Run B) → Leads known between m n → ((a : A) → Leads between after (h a) (k a)) → Leads known after (m >>= h) (n >>= k)
  next h k x y = then_alike own xs owned before base base' o p h k x y

  abbrev gives_back : {A : Type 0} {known : Names} (a : A) → Leads known known (ret a) (ret a)
  gives_back a = ret_alike own xs owned before base base' o p a

  abbrev spends : {known : Names} → Leads known known spend spend
  spends = spend_alike own xs owned before base base' o p

  abbrev chooses : {A : Type 0} {known after : Names} (b : Bool) {here here' other other' : Run A} → Leads known after here here' → Leads known after other other' → Leads known after (choose b here other) (choose b here' other')
  chooses b h k = choose_alike own xs owned before base base' o p b h k

  abbrev tests : {known after : Names} {m n : Run Value} → Leads known after m n → Leads known after (tested m) (tested n)
  tests h = tested_alike own xs owned before base base' o p h

  abbrev fewer : {A : Type 0} {known after less : Names} {m n : Run A} → IsWithin less after → Leads known after m n → Leads known less m n
  fewer within h = alike_within own xs owned before base base' o p within h

  abbrev repeats : {known : Names} {c c' : Run Bool} {s s' : Run Flow} {last last' : Run (Unit {0})} → Leads known known c c' → Leads known known s s' → Leads known known last last' → Leads known known (repeat c s last) (repeat c' s' last')
  repeats condition body end = repeat_alike own xs owned before base base' o p condition body end

  module _ (known : Names) (knew : Knew known) where
    abbrev Does : {A : Type 0} → Run A → Run A → Type 0
    Does m n = Leads known known m n

    abbrev value_of : (e : Expr) → keeps_to_record own no_own known e ≡ true → Does (eval f e) (eval g e)
    value_of e is = reads own xs owned proper distinct known knew before base base' o p f g e is

    assigned_by : (operator : AssignmentOperator) (place e : Expr) → (is_plus operator && (is_sum_place own xs known place && keeps_to_record own no_own known e)) ≡ true → Leads known (also own (name_set (Assign operator place e)) known) (drop (eval f (Assign operator place e))) (drop (eval g (Assign operator place e)))
    assigned_by assignment.Add place e is = assigned own xs owned proper distinct known knew before base base' o p f g place e (left_true (is_sum_place own xs known place) _ is) (right_true (is_sum_place own xs known place) _ is)
    assigned_by assignment.Plain place e is = absurd (cc)
    assigned_by assignment.Subtract place e is = absurd (cc)
    assigned_by assignment.Multiply place e is = absurd (cc)
    assigned_by assignment.Divide place e is = absurd (cc)
    assigned_by assignment.Remainder place e is = absurd (cc)
    assigned_by assignment.Power place e is = absurd (cc)

    first_one : (operator : IncrementOperator) (place : Expr) → (is_plus_one operator && is_sum_place own xs known place) ≡ true → Does (drop (eval f (PreIncrement operator place))) (drop (eval g (PreIncrement operator place)))
    first_one increment.Increment place is = before_one own xs owned proper distinct known knew before base base' o p f g place is
    first_one increment.Decrement place is = absurd (cc)

    last_one : (operator : IncrementOperator) (place : Expr) → (is_plus_one operator && is_sum_place own xs known place) ≡ true → Does (drop (eval f (PostIncrement operator place))) (drop (eval g (PostIncrement operator place)))
    last_one increment.Increment place is = behind_one own xs owned proper distinct known knew before base base' o p f g place is
    last_one increment.Decrement place is = absurd (cc)

    addition_alike : (e : Expr) → is_addition own xs known e ≡ true → Leads known (also own (name_set e) known) (drop (eval f e)) (drop (eval g e))
    addition_alike (Assign operator place e) is = assigned_by operator place e is
    addition_alike (PreIncrement operator place) is = first_one operator place is
    addition_alike (PostIncrement operator place) is = last_one operator place is
    addition_alike (Number n) is = absurd (cc)
    addition_alike (String bytes) is = absurd (cc)
    addition_alike (Ere text) is = absurd (cc)
    addition_alike (Name x) is = absurd (cc)
    addition_alike (Element x es) is = absurd (cc)
    addition_alike (Field a) is = absurd (cc)
    addition_alike (Group a) is = absurd (cc)
    addition_alike (Call h es) is = absurd (cc)
    addition_alike (BuiltIn h es) is = absurd (cc)
    addition_alike Length is = absurd (cc)
    addition_alike (Getline q file) is = absurd (cc)
    addition_alike (PipedGetline h q) is = absurd (cc)
    addition_alike (Unary h a) is = absurd (cc)
    addition_alike (Binary h a b) is = absurd (cc)
    addition_alike (Membership a x) is = absurd (cc)
    addition_alike (ListMembership es x) is = absurd (cc)
    addition_alike (Conditional h a b) is = absurd (cc)

    expression_alike : (e : Expr) → (is_addition own xs known e || (sets_own own no_own known e || keeps_to_record own no_own known e)) ≡ true → Leads known (also own (name_set e) known) (drop (eval f e)) (drop (eval g e))
    expression_alike e is = elim (or_cases (is_addition own xs known e) (sets_own own no_own known e || keeps_to_record own no_own known e) is) [
      | inl adds ↦ addition_alike e adds
      | inr other ↦ next _ _ (sets own xs owned proper distinct known knew before base base' o p f g e other) (λ v. gives_back flow.Normal)
    ]

    simple_alike : (simple : SimpleStatement) → is_simple_summing own xs known simple ≡ true → Leads known (also own (name_set_by simple) known) (exec_simple f simple) (exec_simple g simple)
    unfolding exec_simple
    simple_alike (Expression e) is = next _ _ spends (λ _. expression_alike e is)
    simple_alike Next is = next _ _ spends (λ _. next_alike own xs owned before base base' o p)
    simple_alike Break is = next _ _ spends (λ _. gives_back flow.Break)
    simple_alike Continue is = next _ _ spends (λ _. gives_back flow.Continue)
    simple_alike (Print form list output) is = absurd (cc)
    simple_alike (Delete x es) is = absurd (cc)
    simple_alike (DeleteAll x) is = absurd (cc)
    simple_alike NextFile is = absurd (cc)
    simple_alike (Exit e) is = absurd (cc)
    simple_alike (Return e) is = absurd (cc)

    part_alike : (part : OptionalSimple) → is_part_summing own xs known part ≡ true → Leads known (also own (name_set_first part) known) (exec_part f part) (exec_part g part)
    unfolding exec_part
    part_alike NoSimple is = gives_back tt
    part_alike (ASimple simple) is = next _ _ (simple_alike simple is) (λ c. gives_back tt)

    test_alike : (e : Expr) → keeps_to_record own no_own known e ≡ true → Does (begin_test f e) (begin_test g e)
    unfolding begin_test
    test_alike e is = next _ _ spends (λ _. tests (value_of e is))

    goes_on_alike : (c : OptionalExpr) → may_keep_to_record own no_own known c ≡ true → Does (goes_on f c) (goes_on g c)
    unfolding goes_on
    goes_on_alike NoExpr is = gives_back true
    goes_on_alike (AnExpr e) is = tests (value_of e is)

    -- what follows a statement, where more was known behind that
    passed_on : (c : Flow) {more : Names} {m n : Run Flow} → IsWithin known more → Leads more more m n → Leads more known (pass_on c m) (pass_on c n)
    passed_on c {more = more} grows h = pass_alike (λ A m n. Leads more known m n) (λ A a. fewer grows (gives_back {known = more} a)) c (fewer grows h)

  mutual
    unfolding exec

    exec_alike : (known : Names) (knew : Knew known) (s : Statement) → only_sums own xs known s ≡ true → Leads known (behind own s known) (exec f s) (exec g s)
    exec_alike known knew Empty is = gives_back flow.Normal
    exec_alike known knew (Simple simple) is = simple_alike known knew simple is
    exec_alike known knew (Block all) is = exec_all_alike known knew all is
    exec_alike known knew (If c s) is =
        let body = fewer (grows own known s) (exec_alike known knew s (right_true (keeps_to_record own no_own known c) _ is)) in
        next _ _ (test_alike known knew c (left_true (keeps_to_record own no_own known c) _ is)) (λ x. chooses x body (gives_back flow.Normal))
    exec_alike known knew (IfElse c s other) is =
        let both = right_true (keeps_to_record own no_own known c) _ is in
        let body = fewer (grows own known s) (exec_alike known knew s (left_true (only_sums own xs known s) _ both)) in
        let rest = fewer (grows own known other) (exec_alike known knew other (right_true (only_sums own xs known s) _ both)) in
        next _ _ (test_alike known knew c (left_true (keeps_to_record own no_own known c) _ is)) (λ x. chooses x body rest)
    exec_alike known knew (While c s) is =
        let condition = tests (value_of known knew c (left_true (keeps_to_record own no_own known c) _ is)) in
        let body = fewer (grows own known s) (exec_alike known knew s (right_true (keeps_to_record own no_own known c) _ is)) in
        next _ _ spends (λ _. repeats condition body (gives_back tt))
    exec_alike known knew (Do s c) is =
        let condition = tests (value_of known knew c (left_true (keeps_to_record own no_own known c) _ is)) in
        let body = fewer (grows own known s) (exec_alike known knew s (right_true (keeps_to_record own no_own known c) _ is)) in
        next _ _ spends (λ _. next _ _ (turned own xs owned before base base' o p body) (λ ended. unless own xs owned before base base' o p ended (repeats condition body (gives_back tt))))
    exec_alike known knew (For first c last s) is =
        let more = also own (name_set_first first) known in
        let known_then = knows_also own xs owned known (name_set_first first) knew in
        let loop = right_true (is_part_summing own xs known first) _ is in
        let parts = right_true (may_keep_to_record own no_own more c) _ loop in
        let condition = goes_on_alike more known_then c (left_true (may_keep_to_record own no_own more c) _ loop) in
        let end = fewer (within_also own more (name_set_first last)) (part_alike more known_then last (left_true (is_part_summing own xs more last) _ parts)) in
        let body = fewer (grows own more s) (exec_alike more known_then s (right_true (is_part_summing own xs more last) _ parts)) in
        next _ _ spends (λ _. next _ _ (part_alike known knew first (left_true (is_part_summing own xs known first) _ is)) (λ _. repeats condition body end))
    exec_alike known knew (ForIn x array s) is = absurd (cc)

    exec_all_alike : (known : Names) (knew : Knew known) (all : Statements) → all_only_sum own xs known all ≡ true → Leads known known (exec_all f all) (exec_all g all)
    exec_all_alike known knew NoMore is = gives_back flow.Normal
    exec_all_alike known knew (Then s all) is =
        let rest = exec_all_alike (behind own s known) (knows_also own xs owned known (name_behind s) knew) all (right_true (only_sums own xs known s) _ is) in
        next _ _ (exec_alike known knew s (left_true (only_sums own xs known s) _ is)) (λ c. passed_on known knew c (grows own known s) rest)

  -- what is known as a rule begins, and behind it
  abbrev first : Names
  first = knows own xs

  abbrev DoesFirst : {A : Type 0} → Run A → Run A → Type 0
  DoesFirst m n = Leads first first m n

  abbrev knew_first : Knew first
  knew_first = knows_first own xs owned

  action_alike : (all : Statements) → all_only_sum own xs first all ≡ true → DoesFirst (run_action f all) (run_action g all)
  unfolding run_action
  action_alike all is = next _ _ (exec_all_alike first knew_first all is) (λ c. gives_back tt)

  selects_alike : (m n : ℕ) (q : Pattern) → pattern_keeps_to_record own no_own first q ≡ true → DoesFirst (selects f m q) (selects g n q)
  unfolding selects
  selects_alike m n (Single e) is = tests (value_of first knew_first e is)
  selects_alike m n (Range from to) is = absurd (cc)

  item_alike : (m n : ℕ) (x : Item) → is_mergeable_item own xs x ≡ true → DoesFirst (try_item f m x) (try_item g n x)
  unfolding try_item
  item_alike m n (Begin block) is = gives_back tt
  item_alike m n (End block) is = gives_back tt
  item_alike m n (Action block) is = action_alike block is
  item_alike m n (PatternAction q block) is =
      next _ _ (selects_alike m n q (left_true (pattern_keeps_to_record own no_own first q) _ is))
      (λ b. chooses b (action_alike block (right_true (pattern_keeps_to_record own no_own first q) _ is)) (gives_back tt))
  item_alike m n (PatternOnly q) is = absurd (cc)
  item_alike m n (Function name parameters block) is = absurd (cc)

  items_alike : (m n : ℕ) (items : List Item) → are_mergeable own xs items ≡ true → DoesFirst (try_items f m items) (try_items g n items)
  unfolding try_items
  items_alike m n [] is = gives_back tt
  items_alike m n (x ∷ items) is = next _ _ (item_alike m n x (left_true (is_mergeable_item own xs x) _ is)) (λ _. items_alike (suc m) (suc n) items (right_true (is_mergeable_item own xs x) _ is))

  -- a record ends with its rules, or with `next`

  abbrev as_ended : Out (Unit {0}) → Out (Unit {0})
  as_ended x = record { result = unless_next x.result; state = outside_calls x.state; effects = x.effects }

  ended_same : (v w : Values) (k d : ℕ) (x y : Out (Unit {0})) → Same own xs owned before base base' o p first v w k d x y → Same own xs owned before base base' o p first v w k d (as_ended x) (as_ended y)
  ended_same v w k d x y c = record {
    pair = c.pair;
    arrays = c.arrays;
    arrays' = c.arrays';
    here = c.here;
    there = c.there;
    left = c.left;
    are_ahead = c.are_ahead;
    agrees = c.agrees;
    keeps = c.keeps;
    keeps' = c.keeps';
    falls = c.falls;
    is_here = ap outside_calls c.is_here;
    silent = c.silent;
    is_there = ap as_ended c.is_there;
  }

  ended_covers : (v w : Values) (k d : ℕ) (r : Result (Unit {0}) Halt) (t : State) (effects : List Effect) (y : Out (Unit {0})) → Covers own xs owned before base base' o p first v w k d r (record { result = r; state = t; effects = effects }) y →
      Covers own xs owned before base base' o p first v w k d (unless_next r) (as_ended (record { result = r; state = t; effects = effects })) (as_ended y)
  ended_covers v w k d (Ok u) t effects y c = ended_same v w k d _ y c
  ended_covers v w k d (Err (halt.Fault f)) t effects y c = tt
  ended_covers v w k d (Err halt.OutOfSteps) t effects y c = tt
  ended_covers v w k d (Err halt.Next) t effects y c = ended_same v w k d _ y c
  ended_covers v w k d (Err halt.Exit) t effects y c = absurd c

  ended_told : (v w : Values) (k d : ℕ) (x y : Out (Unit {0})) → Told own xs owned before base base' o p first v w k d x.result x y → Told own xs owned before base base' o p first v w k d (unless_next x.result) (as_ended x) (as_ended y)
  ended_told v w k d x y (inl c) = inl (ended_covers v w k d x.result x.state x.effects y c)
  ended_told v w k d x y (inr lost) = inr (ap unless_next lost)

  until_alike : {m n : Run (Unit {0})} → DoesFirst m n → DoesFirst (until_next m) (until_next n)
  unfolding until_next
  until_alike {m = m} {n = n} h = record { told = λ c arrays arrays' v w k d are agrees. ended_told v w k d (m _) (n _) (h.told c arrays arrays' v w k d are agrees) }

  pub rules_alike : (m n : ℕ) (items : List Item) → are_mergeable own xs items ≡ true → DoesFirst (until_next (try_items f m items)) (until_next (try_items g n items))
  rules_alike m n items is = until_alike (items_alike m n items is)

-- standard input is open
abbrev pub reading_on : State → List ℕ → Outer
reading_on base left = record { outside = base.outside; main = Some (record { bytes = left; ending = AtEnd }); seen = true }

module _ (own : Names) (xs : List Sum) (owned : AreOwn own xs) (before : Tables) (base base' : State) (left left' : List ℕ) (v w : Values) (k d : ℕ) where
  along : (x y : Out (Unit {0})) → x.result ≡ Ok tt → Same own xs owned before base base' (reading_on base left) (reading_on base' left') (knows own xs) v w k d x y → GoAlong own xs before base base' left left' v w k d x y
  along x y ends c = record {
    current = c.pair;
    arrays = c.arrays;
    arrays' = c.arrays';
    values = c.here;
    values' = c.there;
    steps = c.left;
    falls = c.falls;
    is = λ i. record { result = ends i; state = c.is_here i; effects = c.silent i };
    is' = c.is_there ∙ ap (λ (r : Result (Unit {0}) Halt). record { result = r; state = state_reading base' left' c.pair c.arrays' c.there (c.left + d); effects = [] }) ends;
    keeps = c.keeps;
    keeps' = c.keeps';
    are_ahead = c.are_ahead;
  }

  either_along : (x y : Out (Unit {0})) → x.result ≡ Ok tt → Told own xs owned before base base' (reading_on base left) (reading_on base' left') (knows own xs) v w k d x.result x y → GoAlong own xs before base base' left left' v w k d x y ⊎ Lost y
  either_along x y ends (inl c) = inl (along x y ends (subst (λ (r : Result (Unit {0}) Halt). Covers own xs owned before base base' (reading_on base left) (reading_on base' left') (knows own xs) v w k d r x y) ends c))
  either_along x y ends (inr lost) = inr lost

pub law_of_rules : LawOfRules
law_of_rules f g items mergeable before base base' left left' c arrays arrays' v w k d m n are ends =
    let own : Names = own_in items in
    let xs : List Sum = sums_of_program items in
    let owned = own_apart items in
    let alike = rules_alike own xs owned (proper_sums items) (apart_sums items) before base base' (reading_on base left) (reading_on base' left') f g m n items mergeable in
    either_along own xs owned before base base' left left' v w k d _ _ ends (alike.told c arrays arrays' v w k d are are.variables)
