-- A property that the plain runs have, and that goes on from one run to the next, is had by all that the forms make.
use Rattle.std.proofs.Common.{◌≡◌, ℕ, zero, suc, Bool, true, false, List, [], ◌∷◌, ◌++◌, drop, Option, Some, None, Result, Ok, Err, refl}
use Rattle.awk_value.specs.declared.value.Value.{Value}
use Rattle.awk_value.specs.declared.value.Value.TheVariants as value
use Rattle.awk_value.specs.Values.{truth_of, str_of}
use Rattle.awk_world.specs.declared.world.InputKind.TheVariants as input
use Rattle.awk_lex.specs.declared.token.Operator.TheVariants as o
use Rattle.awk_grammar.specs.declared.tree.BinaryOperator.{BinaryOperator}
use Rattle.awk_grammar.specs.declared.tree.BinaryOperator.TheVariants.{Concatenate, Infix}
use Rattle.awk_grammar.specs.declared.tree.PrintForm.{PrintForm}
use Rattle.awk_grammar.specs.declared.tree.PrintForm.TheVariants as form
use Rattle.awk_grammar.specs.Tree.{Expr, Number, String, Ere, Name, Element, Field, Group, Call, BuiltIn, Length, PreIncrement, PostIncrement, Getline, PipedGetline, Unary, Binary, Membership, ListMembership, Conditional, Assign, Exprs, Nil, Cons, OptionalExpr, NoExpr, AnExpr, PrintList, Bare, Parenthesized, Output, Standard, Redirected, SimpleStatement, Expression, Print, Delete, DeleteAll, Next, NextFile, Break, Continue, Exit, Return, OptionalSimple, NoSimple, ASimple, Statement, Empty, Simple, Block, If, IfElse, While, Do, ForIn, For, Statements, NoMore, Then, Pattern, Single, Range, Item, Begin, End, Action, PatternAction, PatternOnly, Function}
use Rattle.awk_semantics.specs.declared.flow.Flow.{Flow}
use Rattle.awk_semantics.specs.declared.flow.Flow.TheVariants as flow
use Rattle.awk_semantics.specs.declared.local.Local.{Local}
use Rattle.awk_semantics.specs.declared.halt.Halt.{Halt}
use Rattle.awk_semantics.specs.declared.halt.Halt.TheVariants as halt
use Rattle.awk_semantics.specs.definitions.State.{State, Run, ◌>>=◌, lift}
use Rattle.awk_semantics.specs.definitions.Operators.{truth_value, changed, applied, by_one, one, operator_of, takes_pattern}
use Rattle.awk_semantics.specs.definitions.Primitives.{format_values}
use Rattle.awk_semantics.specs.definitions.Places.{Place}
use Rattle.awk_semantics.specs.definitions.BuiltIns.{Role, AsValue, AsPattern, AsArray, AsPlace, AsMeasured, Argument, roles_of, next_role, ere_or, bare_name, array_or_value, array_named_or, taken_as}
use Rattle.awk_semantics.specs.definitions.Semantics.{Functions, right_operand, tested, choose, combined, call_with, getline_from, eval, place_of, key_of, take_arguments, optional_place, optional_value, eval_all, printed_values, target_of, print_by, print, begin_test, exit_with, returned_value, exec_simple, exec_part, goes_on, ending, turn, unless_ended, repeat_within, repeat, walk, pass_on, exec, exec_all}
use Rattle.awk_semantics.specs.definitions.Items.{run_action, go_through, begin_range, selects, print_record, try_item, try_items, begin_item, begin_items, end_item, end_items}
use Rattle.awk_semantics.proofs.OwnValues.{Own, changed_own, applied_own, format_own}
use Rattle.awk_semantics.proofs.PlainRuns.{Plain, lift_plain, spend_plain, number_plain, field_plain, text_plain, name_plain, put_plain, element_plain, has_plain, delete_plain, clear_plain, is_array_plain, keys_plain, key_plain, height_plain, bytes_plain, line_plain, inside_plain, set_inside_plain, status_plain, locals_plain, target_plain, close_main_plain}
use Rattle.awk_semantics.proofs.PlainParts.{read_plain, assign_by_plain, post_plain, main_getline_plain, named_getline_plain, record_length_plain, built_in_plain}

-- a property that the plain runs have, and that goes on from one run to the next; and it asks of a run no more than of what the
-- run does in each state
pub record GoesOn (P : (A : Type 0) → Run A → Type 0) : Type 1 where
  pub plain : (A : Type 0) (m : Run A) → Plain m → P A m
  pub bind : (A B : Type 0) (m : Run A) (f : A → Run B) → P A m → ((a : A) → P B (f a)) → P B (m >>= f)
  pub at : (A : Type 0) (m : Run A) → ((s : State) → (n : Run A) × P A n × (m s ≡ n s)) → P A m

module _ (P : (A : Type 0) → Run A → Type 0) (closed : GoesOn P) where
  pub then_holds : {A B : Type 0} {m : Run A} {f : A → Run B} → P A m → ((a : A) → P B (f a)) → P B (m >>= f)
  then_holds h k = closed.bind _ _ _ _ h k

  pub plain_holds : {A : Type 0} {m : Run A} → Plain m → P A m
  plain_holds h = closed.plain _ _ h

  pub after : {A B : Type 0} {m : Run A} {f : A → Run B} → Plain m → ((a : A) → P B (f a)) → P B (m >>= f)
  after h k = then_holds (plain_holds h) k

  pub lift_holds : {A : Type 0} (r : Result A Halt) → Own r → P A (lift r)
  lift_holds r own = plain_holds (lift_plain r own)

  pub ret_holds : {A : Type 0} (a : A) → P A (lift (Ok a))
  ret_holds a = lift_holds (Ok a) tt

  pub right_holds : (takes : Bool) (e : Expr) {m : Run Value} → P _ m → P _ (right_operand takes e m)
  right_holds true (Ere text) h = ret_holds (value.Text text)
  right_holds true (Number n) h = h
  right_holds true (String bytes) h = h
  right_holds true (Name x) h = h
  right_holds true (Element x es) h = h
  right_holds true (Field a) h = h
  right_holds true (Group a) h = h
  right_holds true (Call f es) h = h
  right_holds true (BuiltIn f es) h = h
  right_holds true Length h = h
  right_holds true (PreIncrement o p) h = h
  right_holds true (PostIncrement o p) h = h
  right_holds true (Getline p file) h = h
  right_holds true (PipedGetline c p) h = h
  right_holds true (Unary o a) h = h
  right_holds true (Binary o a b) h = h
  right_holds true (Membership a x) h = h
  right_holds true (ListMembership es x) h = h
  right_holds true (Conditional c a b) h = h
  right_holds true (Assign o p a) h = h
  right_holds false e h = h

  pub ere_holds : (e : Expr) {m : Run Value} → P _ m → P _ (ere_or e m)
  ere_holds (Ere text) h = ret_holds _
  ere_holds (Number n) h = then_holds h (λ v. ret_holds _)
  ere_holds (String bytes) h = then_holds h (λ v. ret_holds _)
  ere_holds (Name x) h = then_holds h (λ v. ret_holds _)
  ere_holds (Element x es) h = then_holds h (λ v. ret_holds _)
  ere_holds (Field a) h = then_holds h (λ v. ret_holds _)
  ere_holds (Group a) h = then_holds h (λ v. ret_holds _)
  ere_holds (Call f es) h = then_holds h (λ v. ret_holds _)
  ere_holds (BuiltIn f es) h = then_holds h (λ v. ret_holds _)
  ere_holds Length h = then_holds h (λ v. ret_holds _)
  ere_holds (PreIncrement o p) h = then_holds h (λ v. ret_holds _)
  ere_holds (PostIncrement o p) h = then_holds h (λ v. ret_holds _)
  ere_holds (Getline p file) h = then_holds h (λ v. ret_holds _)
  ere_holds (PipedGetline c p) h = then_holds h (λ v. ret_holds _)
  ere_holds (Unary o a) h = then_holds h (λ v. ret_holds _)
  ere_holds (Binary o a b) h = then_holds h (λ v. ret_holds _)
  ere_holds (Membership a x) h = then_holds h (λ v. ret_holds _)
  ere_holds (ListMembership es x) h = then_holds h (λ v. ret_holds _)
  ere_holds (Conditional c a b) h = then_holds h (λ v. ret_holds _)
  ere_holds (Assign o p a) h = then_holds h (λ v. ret_holds _)

  pub array_or_value_holds : (b : Bool) (x : List ℕ) {m : Run Value} → P _ m → P _ (array_or_value b x m)
  array_or_value_holds true x h = ret_holds _
  array_or_value_holds false x h = then_holds h (λ v. ret_holds _)

  pub array_named_or_holds : (name : Option (List ℕ)) {m : Run Value} → P _ m → P _ (array_named_or name m)
  array_named_or_holds None h = then_holds h (λ v. ret_holds _)
  array_named_or_holds (Some x) h = after (is_array_plain x) (λ b. array_or_value_holds b x h)

  pub taken_as_holds : (r : Role) (e : Expr) {m : Run Value} {p : Run Place} → P _ m → P _ p → P _ (taken_as r e m p)
  taken_as_holds AsValue e h k = then_holds h (λ v. ret_holds _)
  taken_as_holds AsPattern e h k = ere_holds e h
  taken_as_holds AsArray e h k = ret_holds _
  taken_as_holds AsMeasured e h k = array_named_or_holds (bare_name e) h
  taken_as_holds AsPlace e h k = then_holds k (λ p. after (read_plain p) (λ v. ret_holds _))

  pub tested_holds : {m : Run Value} → P _ m → P _ (tested m)
  unfolding tested
  tested_holds h = then_holds h (λ v. ret_holds (truth_of v))

  pub choose_holds : {A : Type 0} (b : Bool) {here other : Run A} → P _ here → P _ other → P _ (choose b here other)
  choose_holds true h k = h
  choose_holds false h k = k

  pub combined_holds : (c : BinaryOperator) {m x : Run Value} → P _ m → P _ x → P _ (combined c m x)
  combined_holds Concatenate h k = then_holds h (λ x. then_holds k (λ y. ret_holds _))
  combined_holds (Infix o.And) h k = then_holds (tested_holds h) (λ x. then_holds (choose_holds x (tested_holds k) (ret_holds false)) (λ y. ret_holds (truth_value y)))
  combined_holds (Infix o.Or) h k = then_holds (tested_holds h) (λ x. then_holds (choose_holds x (ret_holds true) (tested_holds k)) (λ y. ret_holds (truth_value y)))
  combined_holds (Infix o.Power) h k = then_holds h (λ x. then_holds k (λ y. lift_holds (applied o.Power x y) (applied_own o.Power x y)))
  combined_holds (Infix o.Times) h k = then_holds h (λ x. then_holds k (λ y. lift_holds (applied o.Times x y) (applied_own o.Times x y)))
  combined_holds (Infix o.Divide) h k = then_holds h (λ x. then_holds k (λ y. lift_holds (applied o.Divide x y) (applied_own o.Divide x y)))
  combined_holds (Infix o.Remainder) h k = then_holds h (λ x. then_holds k (λ y. lift_holds (applied o.Remainder x y) (applied_own o.Remainder x y)))
  combined_holds (Infix o.Plus) h k = then_holds h (λ x. then_holds k (λ y. lift_holds (applied o.Plus x y) (applied_own o.Plus x y)))
  combined_holds (Infix o.Minus) h k = then_holds h (λ x. then_holds k (λ y. lift_holds (applied o.Minus x y) (applied_own o.Minus x y)))
  combined_holds (Infix o.Less) h k = then_holds h (λ x. then_holds k (λ y. lift_holds (applied o.Less x y) (applied_own o.Less x y)))
  combined_holds (Infix o.LessEqual) h k = then_holds h (λ x. then_holds k (λ y. lift_holds (applied o.LessEqual x y) (applied_own o.LessEqual x y)))
  combined_holds (Infix o.NotEqual) h k = then_holds h (λ x. then_holds k (λ y. lift_holds (applied o.NotEqual x y) (applied_own o.NotEqual x y)))
  combined_holds (Infix o.Equal) h k = then_holds h (λ x. then_holds k (λ y. lift_holds (applied o.Equal x y) (applied_own o.Equal x y)))
  combined_holds (Infix o.Greater) h k = then_holds h (λ x. then_holds k (λ y. lift_holds (applied o.Greater x y) (applied_own o.Greater x y)))
  combined_holds (Infix o.GreaterEqual) h k = then_holds h (λ x. then_holds k (λ y. lift_holds (applied o.GreaterEqual x y) (applied_own o.GreaterEqual x y)))
  combined_holds (Infix o.Matches) h k = then_holds h (λ x. then_holds k (λ y. lift_holds (applied o.Matches x y) (applied_own o.Matches x y)))
  combined_holds (Infix o.NotMatches) h k = then_holds h (λ x. then_holds k (λ y. lift_holds (applied o.NotMatches x y) (applied_own o.NotMatches x y)))

  pub getline_holds : (p : Option Place) (v : Option Value) → P _ (getline_from p v)
  getline_holds p None = plain_holds (main_getline_plain p)
  getline_holds p (Some file) = plain_holds (named_getline_plain input.File (str_of file) p)

  pub turn_holds : {m : Run Flow} → P _ m → P _ (turn m)
  unfolding turn
  turn_holds h = after spend_plain (λ _. then_holds h (λ f. ret_holds (ending f)))

  pub unless_ended_holds : (ended : Option Flow) {m : Run Flow} → P _ m → P _ (unless_ended ended m)
  unless_ended_holds None h = h
  unless_ended_holds (Some f) h = ret_holds f

  pub repeat_within_holds : (n : ℕ) {c : Run Bool} {b : Run Flow} {l : Run (Unit {0})} → P _ c → P _ b → P _ l → P _ (repeat_within n c b l)
  unfolding repeat_within
  repeat_within_holds zero c b l = lift_holds (Err halt.OutOfSteps) tt
  repeat_within_holds (suc n) c b l =
      let t = repeat_within_holds n c b l in
      then_holds c (λ x. choose_holds x (then_holds (turn_holds b) (λ ended. unless_ended_holds ended (then_holds l (λ _. t)))) (ret_holds flow.Normal))

  pub repeat_holds : {c : Run Bool} {b : Run Flow} {l : Run (Unit {0})} → P _ c → P _ b → P _ l → P _ (repeat c b l)
  unfolding repeat
  repeat_holds {c = c} {b = b} {l = l} x y z = closed.at _ _ (λ s. (repeat_within (suc s.steps) c b l, repeat_within_holds (suc s.steps) x y z, refl))

  pub walk_holds : (x : List ℕ) (keys : List (List ℕ)) {b : Run Flow} → P _ b → P _ (walk x keys b)
  unfolding walk
  walk_holds x [] h = ret_holds flow.Normal
  walk_holds x (key ∷ keys) h = let t = walk_holds x keys h in then_holds (turn_holds (after (put_plain x (value.Text key)) (λ _. h))) (λ ended. unless_ended_holds ended t)

  pub pass_holds : (f : Flow) {m : Run Flow} → P _ m → P _ (pass_on f m)
  pass_holds flow.Normal h = h
  pass_holds flow.Break h = ret_holds flow.Break
  pass_holds flow.Continue h = ret_holds flow.Continue
  pass_holds (flow.Return v) h = ret_holds (flow.Return v)

  module _ (functions : Functions) (calls : (f : List ℕ) (given : List Local) → P _ (functions.call f given)) where
    pub call_holds : (f : List ℕ) (arguments : List Argument) → P _ (call_with functions f arguments)
    call_holds f arguments = after (locals_plain arguments) (λ given. after (height_plain _) (λ _. after spend_plain (λ _. calls f given)))

    mutual
      unfolding eval

      pub eval_holds : (e : Expr) → P _ (eval functions e)
      eval_holds (Number n) = ret_holds (value.Number n)
      eval_holds (String bytes) = ret_holds (value.Text bytes)
      eval_holds (Ere text) = after text_plain (λ v. lift_holds (applied o.Matches v (value.Text text)) (applied_own o.Matches v (value.Text text)))
      eval_holds (Name x) = plain_holds (name_plain x)
      eval_holds (Element x es) = then_holds (key_of_holds [] es) (λ key. plain_holds (element_plain x key))
      eval_holds (Field e) = then_holds (eval_holds e) (λ v. after (number_plain v) (λ n. plain_holds (field_plain n)))
      eval_holds (Group e) = eval_holds e
      eval_holds (Call f es) = then_holds (take_arguments_holds (functions.roles f) [] es) (λ arguments. call_holds f arguments)
      eval_holds (BuiltIn f es) = then_holds (take_arguments_holds (roles_of f) [] es) (λ arguments. plain_holds (built_in_plain f arguments))
      eval_holds Length = plain_holds record_length_plain
      eval_holds (PreIncrement o p) = then_holds (place_of_holds p) (λ q. plain_holds (assign_by_plain (Some (by_one o)) q one))
      eval_holds (PostIncrement o p) = then_holds (place_of_holds p) (λ q. plain_holds (post_plain o q))
      eval_holds (Getline p file) = let place = optional_place_holds p in let name = optional_value_holds file in then_holds place (λ q. then_holds name (λ v. getline_holds q v))
      eval_holds (PipedGetline c p) = let place = optional_place_holds p in then_holds (eval_holds c) (λ v. then_holds place (λ q. plain_holds (named_getline_plain input.Command (str_of v) q)))
      eval_holds (Unary o e) = then_holds (eval_holds e) (λ v. lift_holds (changed o v) (changed_own o v))
      eval_holds (Binary o a b) = combined_holds o (eval_holds a) (right_holds (takes_pattern o) b (eval_holds b))
      eval_holds (Membership e x) = then_holds (eval_holds e) (λ v. after (has_plain x (str_of v)) (λ y. ret_holds _))
      eval_holds (ListMembership es x) = then_holds (key_of_holds [] es) (λ key. after (has_plain x key) (λ y. ret_holds _))
      eval_holds (Conditional c a b) = let here = eval_holds a in let other = eval_holds b in then_holds (tested_holds (eval_holds c)) (λ x. choose_holds x here other)
      eval_holds (Assign o p e) = let right = eval_holds e in then_holds (place_of_holds p) (λ q. then_holds right (λ v. plain_holds (assign_by_plain (operator_of o) q v)))

      pub place_of_holds : (e : Expr) → P _ (place_of functions e)
      place_of_holds (Name x) = ret_holds _
      place_of_holds (Element x es) = then_holds (key_of_holds [] es) (λ key. ret_holds _)
      place_of_holds (Field e) = then_holds (eval_holds e) (λ v. after (number_plain v) (λ n. ret_holds _))
      place_of_holds (Number n) = ret_holds _
      place_of_holds (String bytes) = ret_holds _
      place_of_holds (Group a) = ret_holds _
      place_of_holds (Call f es) = ret_holds _
      place_of_holds (BuiltIn f es) = ret_holds _
      place_of_holds Length = ret_holds _
      place_of_holds (PreIncrement o p) = ret_holds _
      place_of_holds (PostIncrement o p) = ret_holds _
      place_of_holds (Getline p file) = ret_holds _
      place_of_holds (PipedGetline c p) = ret_holds _
      place_of_holds (Unary o a) = ret_holds _
      place_of_holds (Binary o a b) = ret_holds _
      place_of_holds (Membership a x) = ret_holds _
      place_of_holds (ListMembership es x) = ret_holds _
      place_of_holds (Conditional c a b) = ret_holds _
      place_of_holds (Assign o p a) = ret_holds _
      place_of_holds (Ere text) = ret_holds _

      pub key_of_holds : (front : List Value) (es : Exprs) → P _ (key_of functions front es)
      key_of_holds front Nil = plain_holds (key_plain front)
      key_of_holds front (Cons e es) = then_holds (eval_holds e) (λ v. key_of_holds (front ++ v ∷ []) es)

      pub take_arguments_holds : (roles : List Role) (front : List Argument) (es : Exprs) → P _ (take_arguments functions roles front es)
      take_arguments_holds roles front Nil = ret_holds front
      take_arguments_holds roles front (Cons e es) = then_holds (taken_as_holds (next_role roles) e (eval_holds e) (place_of_holds e)) (λ a. take_arguments_holds (drop 1 roles) (front ++ a ∷ []) es)

      pub optional_place_holds : (e : OptionalExpr) → P _ (optional_place functions e)
      optional_place_holds NoExpr = ret_holds _
      optional_place_holds (AnExpr p) = then_holds (place_of_holds p) (λ q. ret_holds _)

      pub optional_value_holds : (e : OptionalExpr) → P _ (optional_value functions e)
      optional_value_holds NoExpr = ret_holds _
      optional_value_holds (AnExpr e) = then_holds (eval_holds e) (λ v. ret_holds _)

    pub values_holds : (front : List Value) (es : Exprs) → P _ (eval_all functions front es)
    unfolding eval_all
    values_holds front Nil = ret_holds front
    values_holds front (Cons e es) = then_holds (eval_holds e) (λ v. values_holds (front ++ v ∷ []) es)

    pub printed_holds : (list : PrintList) → P _ (printed_values functions list)
    unfolding printed_values
    printed_holds (Bare es) = values_holds [] es
    printed_holds (Parenthesized es) = values_holds [] es

    pub output_holds : (output : Output) → P _ (target_of functions output)
    unfolding target_of
    output_holds Standard = ret_holds 0
    output_holds (Redirected way e) = then_holds (eval_holds e) (λ v. plain_holds (target_plain way (str_of v)))

    pub print_by_holds : (f : PrintForm) (n : ℕ) (vs : List Value) → P _ (print_by functions f n vs)
    print_by_holds form.Print n [] = after text_plain (λ v. plain_holds (line_plain n (v ∷ [])))
    print_by_holds form.Print n (v ∷ vs) = plain_holds (line_plain n (v ∷ vs))
    print_by_holds form.Printf n vs = then_holds (lift_holds (format_values vs) (format_own vs)) (λ text. plain_holds (bytes_plain n text))

    pub print_holds : (f : PrintForm) (list : PrintList) (output : Output) → P _ (print functions f list output)
    unfolding print
    print_holds f list output = after spend_plain (λ _. then_holds (printed_holds list) (λ vs. then_holds (output_holds output) (λ n. print_by_holds f n vs)))

    pub begin_test_holds : (c : Expr) → P _ (begin_test functions c)
    unfolding begin_test
    begin_test_holds c = after spend_plain (λ _. tested_holds (eval_holds c))

    pub exit_holds : (e : OptionalExpr) → P _ (exit_with functions e)
    unfolding exit_with
    exit_holds NoExpr = lift_holds (Err halt.Exit) tt
    exit_holds (AnExpr e) = then_holds (eval_holds e) (λ v. after (status_plain v) (λ _. lift_holds (Err halt.Exit) tt))

    pub returned_holds : (e : OptionalExpr) → P _ (returned_value functions e)
    unfolding returned_value
    returned_holds NoExpr = ret_holds _
    returned_holds (AnExpr e) = eval_holds e

    pub simple_holds : (simple : SimpleStatement) → P _ (exec_simple functions simple)
    unfolding exec_simple
    simple_holds (Expression e) = after spend_plain (λ _. then_holds (eval_holds e) (λ v. ret_holds flow.Normal))
    simple_holds (Print f list output) = then_holds (print_holds f list output) (λ _. ret_holds flow.Normal)
    simple_holds (Delete x es) = after spend_plain (λ _. then_holds (key_of_holds [] es) (λ key. after (delete_plain x key) (λ _. ret_holds flow.Normal)))
    simple_holds (DeleteAll x) = after spend_plain (λ _. after (clear_plain x) (λ _. ret_holds flow.Normal))
    simple_holds NextFile = after spend_plain (λ _. after close_main_plain (λ _. lift_holds (Err halt.Next) tt))
    simple_holds Next = after spend_plain (λ _. lift_holds (Err halt.Next) tt)
    simple_holds Break = after spend_plain (λ _. ret_holds flow.Break)
    simple_holds Continue = after spend_plain (λ _. ret_holds flow.Continue)
    simple_holds (Exit e) = after spend_plain (λ _. exit_holds e)
    simple_holds (Return e) = after spend_plain (λ _. then_holds (returned_holds e) (λ v. ret_holds (flow.Return v)))

    pub part_holds : (part : OptionalSimple) → P _ (exec_part functions part)
    unfolding exec_part
    part_holds NoSimple = ret_holds tt
    part_holds (ASimple simple) = then_holds (simple_holds simple) (λ f. ret_holds tt)

    pub goes_on_holds : (c : OptionalExpr) → P _ (goes_on functions c)
    unfolding goes_on
    goes_on_holds NoExpr = ret_holds true
    goes_on_holds (AnExpr e) = tested_holds (eval_holds e)

    mutual
      unfolding exec

      pub exec_holds : (s : Statement) → P _ (exec functions s)
      exec_holds Empty = ret_holds flow.Normal
      exec_holds (Simple simple) = simple_holds simple
      exec_holds (Block all) = exec_all_holds all
      exec_holds (If c s) = let body = exec_holds s in then_holds (begin_test_holds c) (λ x. choose_holds x body (ret_holds flow.Normal))
      exec_holds (IfElse c s other) = let body = exec_holds s in let rest = exec_holds other in then_holds (begin_test_holds c) (λ x. choose_holds x body rest)
      exec_holds (While c s) = let body = exec_holds s in after spend_plain (λ _. repeat_holds (tested_holds (eval_holds c)) body (ret_holds tt))
      exec_holds (Do s c) = let body = exec_holds s in after spend_plain (λ _. then_holds (turn_holds body) (λ ended. unless_ended_holds ended (repeat_holds (tested_holds (eval_holds c)) body (ret_holds tt))))
      exec_holds (ForIn x array s) = let body = exec_holds s in after spend_plain (λ _. after (keys_plain array) (λ keys. walk_holds x keys body))
      exec_holds (For first c last s) = let body = exec_holds s in after spend_plain (λ _. then_holds (part_holds first) (λ _. repeat_holds (goes_on_holds c) body (part_holds last)))

      pub exec_all_holds : (all : Statements) → P _ (exec_all functions all)
      exec_all_holds NoMore = ret_holds flow.Normal
      exec_all_holds (Then s all) = let rest = exec_all_holds all in then_holds (exec_holds s) (λ f. pass_holds f rest)

    pub action_holds : (all : Statements) → P _ (run_action functions all)
    unfolding run_action
    action_holds all = then_holds (exec_all_holds all) (λ f. ret_holds tt)

    pub through_holds : (n : ℕ) (to : Expr) → P _ (go_through functions n to)
    unfolding go_through
    through_holds n to = then_holds (tested_holds (eval_holds to)) (λ ends. then_holds (choose_holds ends (plain_holds (set_inside_plain n false)) (ret_holds tt)) (λ _. ret_holds true))

    pub begin_range_holds : (n : ℕ) (from to : Expr) → P _ (begin_range functions n from to)
    unfolding begin_range
    begin_range_holds n from to = then_holds (tested_holds (eval_holds from)) (λ begins. choose_holds begins (after (set_inside_plain n true) (λ _. through_holds n to)) (ret_holds false))

    pub selects_holds : (n : ℕ) (p : Pattern) → P _ (selects functions n p)
    unfolding selects
    selects_holds n (Single e) = tested_holds (eval_holds e)
    selects_holds n (Range from to) = after (inside_plain n) (λ inside. choose_holds inside (through_holds n to) (begin_range_holds n from to))

    pub print_record_holds : P _ (print_record functions)
    unfolding print_record
    print_record_holds = print_holds form.Print (Bare Nil) Standard

    pub item_holds : (n : ℕ) (x : Item) → P _ (try_item functions n x)
    unfolding try_item
    item_holds n (Begin block) = ret_holds tt
    item_holds n (End block) = ret_holds tt
    item_holds n (Action block) = action_holds block
    item_holds n (PatternAction p block) = then_holds (selects_holds n p) (λ x. choose_holds x (action_holds block) (ret_holds tt))
    item_holds n (PatternOnly p) = then_holds (selects_holds n p) (λ x. choose_holds x print_record_holds (ret_holds tt))
    item_holds n (Function f ps block) = ret_holds tt

    pub items_holds : (n : ℕ) (xs : List Item) → P _ (try_items functions n xs)
    unfolding try_items
    items_holds n [] = ret_holds tt
    items_holds n (x ∷ xs) = then_holds (item_holds n x) (λ _. items_holds (suc n) xs)

    pub begin_item_holds : (x : Item) → P _ (begin_item functions x)
    unfolding begin_item
    begin_item_holds (Begin block) = action_holds block
    begin_item_holds (End block) = ret_holds tt
    begin_item_holds (Action block) = ret_holds tt
    begin_item_holds (PatternAction p block) = ret_holds tt
    begin_item_holds (PatternOnly p) = ret_holds tt
    begin_item_holds (Function f ps block) = ret_holds tt

    pub begin_items_holds : (xs : List Item) → P _ (begin_items functions xs)
    unfolding begin_items
    begin_items_holds [] = ret_holds tt
    begin_items_holds (x ∷ xs) = then_holds (begin_item_holds x) (λ _. begin_items_holds xs)

    pub end_item_holds : (x : Item) → P _ (end_item functions x)
    unfolding end_item
    end_item_holds (Begin block) = ret_holds tt
    end_item_holds (End block) = action_holds block
    end_item_holds (Action block) = ret_holds tt
    end_item_holds (PatternAction p block) = ret_holds tt
    end_item_holds (PatternOnly p) = ret_holds tt
    end_item_holds (Function f ps block) = ret_holds tt

    pub end_items_holds : (xs : List Item) → P _ (end_items functions xs)
    unfolding end_items
    end_items_holds [] = ret_holds tt
    end_items_holds (x ∷ xs) = then_holds (end_item_holds x) (λ _. end_items_holds xs)
