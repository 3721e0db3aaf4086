-- The forms of the language do with more steps what they do with less.
use Rattle.std.proofs.Common.{ℕ, zero, suc, ◌+◌, ◌≤◌, Bool, true, false, List, [], ◌∷◌, ◌++◌, drop, Option, Some, None, Ok, Err, arith}
use Rattle.awk_value.specs.declared.value.Value.{Value}
use Rattle.awk_value.specs.declared.value.Value.TheVariants as value
use Rattle.awk_value.specs.Values.{truth_of, str_of}
use Rattle.awk_world.specs.declared.world.InputKind.TheVariants as input
use Rattle.awk_lex.specs.declared.token.Operator.TheVariants as o
use Rattle.awk_grammar.specs.declared.tree.BinaryOperator.{BinaryOperator}
use Rattle.awk_grammar.specs.declared.tree.BinaryOperator.TheVariants.{Concatenate, Infix}
use Rattle.awk_grammar.specs.declared.tree.PrintForm.{PrintForm}
use Rattle.awk_grammar.specs.declared.tree.PrintForm.TheVariants as form
use Rattle.awk_grammar.specs.Tree.{Expr, Number, String, Ere, Name, Element, Field, Group, Call, BuiltIn, Length, PreIncrement, PostIncrement, Getline, PipedGetline, Unary, Binary, Membership, ListMembership, Conditional, Assign, Exprs, Nil, Cons, OptionalExpr, NoExpr, AnExpr, PrintList, Bare, Parenthesized, Output, Standard, Redirected, SimpleStatement, Expression, Print, Delete, DeleteAll, Next, NextFile, Break, Continue, Exit, Return, OptionalSimple, NoSimple, ASimple, Statement, Empty, Simple, Block, If, IfElse, While, Do, ForIn, For, Statements, NoMore, Then, Pattern, Single, Range, Item, Begin, End, Action, PatternAction, PatternOnly, Function}
use Rattle.awk_semantics.specs.declared.flow.Flow.{Flow}
use Rattle.awk_semantics.specs.declared.flow.Flow.TheVariants as flow
use Rattle.awk_semantics.specs.declared.local.Local.{Local}
use Rattle.awk_semantics.specs.declared.halt.Halt.TheVariants as halt
use Rattle.awk_semantics.specs.definitions.State.{Run}
use Rattle.awk_semantics.specs.definitions.Operators.{truth_value, changed, applied, by_one, one, operator_of, takes_pattern}
use Rattle.awk_kinds.specs.definitions.Kinds.{Definition}
use Rattle.awk_semantics.specs.definitions.Primitives.{format_values}
use Rattle.awk_semantics.specs.definitions.Places.{Place}
use Rattle.awk_semantics.specs.definitions.BuiltIns.{Role, AsValue, AsPattern, AsArray, AsPlace, AsMeasured, Argument, roles_of, next_role, ere_or, bare_name, array_or_value, array_named_or, taken_as}
use Rattle.awk_semantics.specs.definitions.Semantics.{Functions, right_operand, tested, choose, combined, call_with, getline_from, eval, place_of, key_of, take_arguments, optional_place, optional_value, eval_all, printed_values, target_of, print_by, print, begin_test, exit_with, returned_value, exec_simple, exec_part, goes_on, ending, turn, unless_ended, repeat_within, repeat, walk, pass_on, exec, exec_all}
use Rattle.awk_semantics.specs.definitions.Calls.{functions_by}
use Rattle.awk_semantics.specs.definitions.Items.{run_action, go_through, begin_range, selects, print_record, try_item, try_items, begin_item, begin_items, end_item, end_items}
use Rattle.awk_semantics.proofs.Larger.{Larger, then_larger, steps_larger, lift_larger, spend_larger, number_larger, field_larger, text_larger, name_larger, put_larger, element_larger, has_larger, delete_larger, clear_larger, is_array_larger, keys_larger, key_larger, height_larger, bytes_larger, line_larger, inside_larger, set_inside_larger, status_larger, locals_larger, target_larger, close_main_larger}
use Rattle.awk_semantics.proofs.LargerParts.{read_larger, assign_by_larger, post_larger, main_getline_larger, named_getline_larger, record_length_larger, built_in_larger}

-- the forms

pub right_larger : (takes : Bool) (e : Expr) {m n : Run Value} → Larger m n → Larger (right_operand takes e m) (right_operand takes e n)
right_larger true (Ere text) h = lift_larger (Ok (value.Text text))
right_larger true (Number n) h = h
right_larger true (String bytes) h = h
right_larger true (Name x) h = h
right_larger true (Element x es) h = h
right_larger true (Field a) h = h
right_larger true (Group a) h = h
right_larger true (Call f es) h = h
right_larger true (BuiltIn f es) h = h
right_larger true Length h = h
right_larger true (PreIncrement o p) h = h
right_larger true (PostIncrement o p) h = h
right_larger true (Getline p file) h = h
right_larger true (PipedGetline c p) h = h
right_larger true (Unary o a) h = h
right_larger true (Binary o a b) h = h
right_larger true (Membership a x) h = h
right_larger true (ListMembership es x) h = h
right_larger true (Conditional c a b) h = h
right_larger true (Assign o p a) h = h
right_larger false e h = h

pub ere_larger : (e : Expr) {m n : Run Value} → Larger m n → Larger (ere_or e m) (ere_or e n)
ere_larger (Ere text) h = lift_larger _
ere_larger (Number n) h = then_larger _ _ h (λ v. lift_larger _)
ere_larger (String bytes) h = then_larger _ _ h (λ v. lift_larger _)
ere_larger (Name x) h = then_larger _ _ h (λ v. lift_larger _)
ere_larger (Element x es) h = then_larger _ _ h (λ v. lift_larger _)
ere_larger (Field a) h = then_larger _ _ h (λ v. lift_larger _)
ere_larger (Group a) h = then_larger _ _ h (λ v. lift_larger _)
ere_larger (Call f es) h = then_larger _ _ h (λ v. lift_larger _)
ere_larger (BuiltIn f es) h = then_larger _ _ h (λ v. lift_larger _)
ere_larger Length h = then_larger _ _ h (λ v. lift_larger _)
ere_larger (PreIncrement o p) h = then_larger _ _ h (λ v. lift_larger _)
ere_larger (PostIncrement o p) h = then_larger _ _ h (λ v. lift_larger _)
ere_larger (Getline p file) h = then_larger _ _ h (λ v. lift_larger _)
ere_larger (PipedGetline c p) h = then_larger _ _ h (λ v. lift_larger _)
ere_larger (Unary o a) h = then_larger _ _ h (λ v. lift_larger _)
ere_larger (Binary o a b) h = then_larger _ _ h (λ v. lift_larger _)
ere_larger (Membership a x) h = then_larger _ _ h (λ v. lift_larger _)
ere_larger (ListMembership es x) h = then_larger _ _ h (λ v. lift_larger _)
ere_larger (Conditional c a b) h = then_larger _ _ h (λ v. lift_larger _)
ere_larger (Assign o p a) h = then_larger _ _ h (λ v. lift_larger _)

pub array_or_value_larger : (b : Bool) (x : List ℕ) {m n : Run Value} → Larger m n → Larger (array_or_value b x m) (array_or_value b x n)
array_or_value_larger true x h = lift_larger _
array_or_value_larger false x h = then_larger _ _ h (λ v. lift_larger _)

pub array_named_or_larger : (name : Option (List ℕ)) {m n : Run Value} → Larger m n → Larger (array_named_or name m) (array_named_or name n)
array_named_or_larger None h = then_larger _ _ h (λ v. lift_larger _)
array_named_or_larger (Some x) h = then_larger _ _ (is_array_larger x) (λ b. array_or_value_larger b x h)

pub taken_as_larger : (r : Role) (e : Expr) {m n : Run Value} {p q : Run Place} → Larger m n → Larger p q → Larger (taken_as r e m p) (taken_as r e n q)
taken_as_larger AsValue e h k = then_larger _ _ h (λ v. lift_larger _)
taken_as_larger AsPattern e h k = ere_larger e h
taken_as_larger AsArray e h k = lift_larger _
taken_as_larger AsMeasured e h k = array_named_or_larger (bare_name e) h
taken_as_larger AsPlace e h k = then_larger _ _ k (λ p. then_larger _ _ (read_larger p) (λ v. lift_larger _))

pub tested_larger : {m n : Run Value} → Larger m n → Larger (tested m) (tested n)
unfolding tested
tested_larger h = then_larger _ _ h (λ v. lift_larger (Ok (truth_of v)))

pub choose_larger : {A : Type 0} (b : Bool) {here here' other other' : Run A} → Larger here here' → Larger other other' → Larger (choose b here other) (choose b here' other')
choose_larger true h k = h
choose_larger false h k = k

pub combined_larger : (c : BinaryOperator) {m n x y : Run Value} → Larger m n → Larger x y → Larger (combined c m x) (combined c n y)
combined_larger Concatenate h k = then_larger _ _ h (λ x. then_larger _ _ k (λ y. lift_larger _))
combined_larger (Infix o.And) h k = then_larger _ _ (tested_larger h) (λ x. then_larger _ _ (choose_larger x (tested_larger k) (lift_larger (Ok false))) (λ y. lift_larger (Ok (truth_value y))))
combined_larger (Infix o.Or) h k = then_larger _ _ (tested_larger h) (λ x. then_larger _ _ (choose_larger x (lift_larger (Ok true)) (tested_larger k)) (λ y. lift_larger (Ok (truth_value y))))
combined_larger (Infix o.Power) h k = then_larger _ _ h (λ x. then_larger _ _ k (λ y. lift_larger (applied o.Power x y)))
combined_larger (Infix o.Times) h k = then_larger _ _ h (λ x. then_larger _ _ k (λ y. lift_larger (applied o.Times x y)))
combined_larger (Infix o.Divide) h k = then_larger _ _ h (λ x. then_larger _ _ k (λ y. lift_larger (applied o.Divide x y)))
combined_larger (Infix o.Remainder) h k = then_larger _ _ h (λ x. then_larger _ _ k (λ y. lift_larger (applied o.Remainder x y)))
combined_larger (Infix o.Plus) h k = then_larger _ _ h (λ x. then_larger _ _ k (λ y. lift_larger (applied o.Plus x y)))
combined_larger (Infix o.Minus) h k = then_larger _ _ h (λ x. then_larger _ _ k (λ y. lift_larger (applied o.Minus x y)))
combined_larger (Infix o.Less) h k = then_larger _ _ h (λ x. then_larger _ _ k (λ y. lift_larger (applied o.Less x y)))
combined_larger (Infix o.LessEqual) h k = then_larger _ _ h (λ x. then_larger _ _ k (λ y. lift_larger (applied o.LessEqual x y)))
combined_larger (Infix o.NotEqual) h k = then_larger _ _ h (λ x. then_larger _ _ k (λ y. lift_larger (applied o.NotEqual x y)))
combined_larger (Infix o.Equal) h k = then_larger _ _ h (λ x. then_larger _ _ k (λ y. lift_larger (applied o.Equal x y)))
combined_larger (Infix o.Greater) h k = then_larger _ _ h (λ x. then_larger _ _ k (λ y. lift_larger (applied o.Greater x y)))
combined_larger (Infix o.GreaterEqual) h k = then_larger _ _ h (λ x. then_larger _ _ k (λ y. lift_larger (applied o.GreaterEqual x y)))
combined_larger (Infix o.Matches) h k = then_larger _ _ h (λ x. then_larger _ _ k (λ y. lift_larger (applied o.Matches x y)))
combined_larger (Infix o.NotMatches) h k = then_larger _ _ h (λ x. then_larger _ _ k (λ y. lift_larger (applied o.NotMatches x y)))

pub getline_larger : (p : Option Place) (v : Option Value) → Larger (getline_from p v) (getline_from p v)
getline_larger p None = main_getline_larger p
getline_larger p (Some file) = named_getline_larger input.File (str_of file) p

-- calls that do as much
abbrev pub CallsMore : (call call' : List ℕ → List Local → Run Value) → Type 0
CallsMore call call' = (f : List ℕ) (given : List Local) → Larger (call f given) (call' f given)

pub call_larger : (ds : List Definition) {call call' : List ℕ → List Local → Run Value} → CallsMore call call' → (f : List ℕ) (arguments : List Argument) → Larger (call_with (functions_by ds call) f arguments) (call_with (functions_by ds call') f arguments)
call_larger ds h f arguments = then_larger _ _ (locals_larger arguments) (λ given. then_larger _ _ (height_larger _) (λ _. then_larger _ _ spend_larger (λ _. h f given)))

module _ (ds : List Definition) (call call' : List ℕ → List Local → Run Value) (h : CallsMore call call') where
  abbrev less : Functions
  less = functions_by ds call

  abbrev more : Functions
  more = functions_by ds call'

  mutual
    unfolding eval

    pub eval_larger : (e : Expr) → Larger (eval less e) (eval more e)
    eval_larger (Number n) = lift_larger (Ok (value.Number n))
    eval_larger (String bytes) = lift_larger (Ok (value.Text bytes))
    eval_larger (Ere text) = then_larger _ _ text_larger (λ v. lift_larger (applied o.Matches v (value.Text text)))
    eval_larger (Name x) = name_larger x
    eval_larger (Element x es) = then_larger _ _ (key_of_larger [] es) (λ key. element_larger x key)
    eval_larger (Field e) = then_larger _ _ (eval_larger e) (λ v. then_larger _ _ (number_larger v) (λ n. field_larger n))
    eval_larger (Group e) = eval_larger e
    eval_larger (Call f es) = then_larger _ _ (take_arguments_larger (less.roles f) [] es) (λ arguments. call_larger ds h f arguments)
    eval_larger (BuiltIn f es) = then_larger _ _ (take_arguments_larger (roles_of f) [] es) (λ arguments. built_in_larger f arguments)
    eval_larger Length = record_length_larger
    eval_larger (PreIncrement o p) = then_larger _ _ (place_of_larger p) (λ q. assign_by_larger (Some (by_one o)) q one)
    eval_larger (PostIncrement o p) = then_larger _ _ (place_of_larger p) (λ q. post_larger o q)
    eval_larger (Getline p file) = let place = optional_place_larger p in let name = optional_value_larger file in then_larger _ _ place (λ q. then_larger _ _ name (λ v. getline_larger q v))
    eval_larger (PipedGetline c p) = let place = optional_place_larger p in then_larger _ _ (eval_larger c) (λ v. then_larger _ _ place (λ q. named_getline_larger input.Command (str_of v) q))
    eval_larger (Unary o e) = then_larger _ _ (eval_larger e) (λ v. lift_larger (changed o v))
    eval_larger (Binary o a b) = combined_larger o (eval_larger a) (right_larger (takes_pattern o) b (eval_larger b))
    eval_larger (Membership e x) = then_larger _ _ (eval_larger e) (λ v. then_larger _ _ (has_larger x (str_of v)) (λ y. lift_larger _))
    eval_larger (ListMembership es x) = then_larger _ _ (key_of_larger [] es) (λ key. then_larger _ _ (has_larger x key) (λ y. lift_larger _))
    eval_larger (Conditional c a b) = let here = eval_larger a in let other = eval_larger b in then_larger _ _ (tested_larger (eval_larger c)) (λ x. choose_larger x here other)
    eval_larger (Assign o p e) = let right = eval_larger e in then_larger _ _ (place_of_larger p) (λ q. then_larger _ _ right (λ v. assign_by_larger (operator_of o) q v))

    pub place_of_larger : (e : Expr) → Larger (place_of less e) (place_of more e)
    place_of_larger (Name x) = lift_larger _
    place_of_larger (Element x es) = then_larger _ _ (key_of_larger [] es) (λ key. lift_larger _)
    place_of_larger (Field e) = then_larger _ _ (eval_larger e) (λ v. then_larger _ _ (number_larger v) (λ n. lift_larger _))
    place_of_larger (Number n) = lift_larger _
    place_of_larger (String bytes) = lift_larger _
    place_of_larger (Group a) = lift_larger _
    place_of_larger (Call f es) = lift_larger _
    place_of_larger (BuiltIn f es) = lift_larger _
    place_of_larger Length = lift_larger _
    place_of_larger (PreIncrement o p) = lift_larger _
    place_of_larger (PostIncrement o p) = lift_larger _
    place_of_larger (Getline p file) = lift_larger _
    place_of_larger (PipedGetline c p) = lift_larger _
    place_of_larger (Unary o a) = lift_larger _
    place_of_larger (Binary o a b) = lift_larger _
    place_of_larger (Membership a x) = lift_larger _
    place_of_larger (ListMembership es x) = lift_larger _
    place_of_larger (Conditional c a b) = lift_larger _
    place_of_larger (Assign o p a) = lift_larger _
    place_of_larger (Ere text) = lift_larger _

    pub key_of_larger : (front : List Value) (es : Exprs) → Larger (key_of less front es) (key_of more front es)
    key_of_larger front Nil = key_larger front
    key_of_larger front (Cons e es) = then_larger _ _ (eval_larger e) (λ v. key_of_larger (front ++ v ∷ []) es)

    pub take_arguments_larger : (roles : List Role) (front : List Argument) (es : Exprs) → Larger (take_arguments less roles front es) (take_arguments more roles front es)
    take_arguments_larger roles front Nil = lift_larger (Ok front)
    take_arguments_larger roles front (Cons e es) = then_larger _ _ (taken_as_larger (next_role roles) e (eval_larger e) (place_of_larger e)) (λ a. take_arguments_larger (drop 1 roles) (front ++ a ∷ []) es)

    pub optional_place_larger : (e : OptionalExpr) → Larger (optional_place less e) (optional_place more e)
    optional_place_larger NoExpr = lift_larger _
    optional_place_larger (AnExpr p) = then_larger _ _ (place_of_larger p) (λ q. lift_larger _)

    pub optional_value_larger : (e : OptionalExpr) → Larger (optional_value less e) (optional_value more e)
    optional_value_larger NoExpr = lift_larger _
    optional_value_larger (AnExpr e) = then_larger _ _ (eval_larger e) (λ v. lift_larger _)

  pub values_larger : (front : List Value) (es : Exprs) → Larger (eval_all less front es) (eval_all more front es)
  unfolding eval_all
  values_larger front Nil = lift_larger (Ok front)
  values_larger front (Cons e es) = then_larger _ _ (eval_larger e) (λ v. values_larger (front ++ v ∷ []) es)

  pub printed_larger : (list : PrintList) → Larger (printed_values less list) (printed_values more list)
  unfolding printed_values
  printed_larger (Bare es) = values_larger [] es
  printed_larger (Parenthesized es) = values_larger [] es

  pub output_larger : (output : Output) → Larger (target_of less output) (target_of more output)
  unfolding target_of
  output_larger Standard = lift_larger (Ok 0)
  output_larger (Redirected way e) = then_larger _ _ (eval_larger e) (λ v. target_larger way (str_of v))

  pub print_by_larger : (f : PrintForm) (n : ℕ) (vs : List Value) → Larger (print_by less f n vs) (print_by more f n vs)
  print_by_larger form.Print n [] = then_larger _ _ text_larger (λ v. line_larger n (v ∷ []))
  print_by_larger form.Print n (v ∷ vs) = line_larger n (v ∷ vs)
  print_by_larger form.Printf n vs = then_larger _ _ (lift_larger (format_values vs)) (λ text. bytes_larger n text)

  pub print_larger : (f : PrintForm) (list : PrintList) (output : Output) → Larger (print less f list output) (print more f list output)
  unfolding print
  print_larger f list output = then_larger _ _ spend_larger (λ _. then_larger _ _ (printed_larger list) (λ vs. then_larger _ _ (output_larger output) (λ n. print_by_larger f n vs)))

  pub begin_test_larger : (c : Expr) → Larger (begin_test less c) (begin_test more c)
  unfolding begin_test
  begin_test_larger c = then_larger _ _ spend_larger (λ _. tested_larger (eval_larger c))

  pub exit_larger : (e : OptionalExpr) → Larger (exit_with less e) (exit_with more e)
  unfolding exit_with
  exit_larger NoExpr = lift_larger (Err halt.Exit)
  exit_larger (AnExpr e) = then_larger _ _ (eval_larger e) (λ v. then_larger _ _ (status_larger v) (λ _. lift_larger (Err halt.Exit)))

  pub returned_larger : (e : OptionalExpr) → Larger (returned_value less e) (returned_value more e)
  unfolding returned_value
  returned_larger NoExpr = lift_larger _
  returned_larger (AnExpr e) = eval_larger e

  pub simple_larger : (simple : SimpleStatement) → Larger (exec_simple less simple) (exec_simple more simple)
  unfolding exec_simple
  simple_larger (Expression e) = then_larger _ _ spend_larger (λ _. then_larger _ _ (eval_larger e) (λ v. lift_larger (Ok flow.Normal)))
  simple_larger (Print f list output) = then_larger _ _ (print_larger f list output) (λ _. lift_larger (Ok flow.Normal))
  simple_larger (Delete x es) = then_larger _ _ spend_larger (λ _. then_larger _ _ (key_of_larger [] es) (λ key. then_larger _ _ (delete_larger x key) (λ _. lift_larger (Ok flow.Normal))))
  simple_larger (DeleteAll x) = then_larger _ _ spend_larger (λ _. then_larger _ _ (clear_larger x) (λ _. lift_larger (Ok flow.Normal)))
  simple_larger NextFile = then_larger _ _ spend_larger (λ _. then_larger _ _ close_main_larger (λ _. lift_larger (Err halt.Next)))
  simple_larger Next = then_larger _ _ spend_larger (λ _. lift_larger (Err halt.Next))
  simple_larger Break = then_larger _ _ spend_larger (λ _. lift_larger (Ok flow.Break))
  simple_larger Continue = then_larger _ _ spend_larger (λ _. lift_larger (Ok flow.Continue))
  simple_larger (Exit e) = then_larger _ _ spend_larger (λ _. exit_larger e)
  simple_larger (Return e) = then_larger _ _ spend_larger (λ _. then_larger _ _ (returned_larger e) (λ v. lift_larger (Ok (flow.Return v))))

  pub part_larger : (part : OptionalSimple) → Larger (exec_part less part) (exec_part more part)
  unfolding exec_part
  part_larger NoSimple = lift_larger (Ok tt)
  part_larger (ASimple simple) = then_larger _ _ (simple_larger simple) (λ f. lift_larger (Ok tt))

  pub goes_on_larger : (c : OptionalExpr) → Larger (goes_on less c) (goes_on more c)
  unfolding goes_on
  goes_on_larger NoExpr = lift_larger (Ok true)
  goes_on_larger (AnExpr e) = tested_larger (eval_larger e)

pub turn_larger : {m n : Run Flow} → Larger m n → Larger (turn m) (turn n)
unfolding turn
turn_larger h = then_larger _ _ spend_larger (λ _. then_larger _ _ h (λ f. lift_larger (Ok (ending f))))

pub unless_ended_larger : (ended : Option Flow) {m n : Run Flow} → Larger m n → Larger (unless_ended ended m) (unless_ended ended n)
unless_ended_larger None h = h
unless_ended_larger (Some f) h = lift_larger (Ok f)

pub repeat_within_larger : (n n' : ℕ) {c c' : Run Bool} {b b' : Run Flow} {l l' : Run (Unit {0})} → n ≤ n' → Larger c c' → Larger b b' → Larger l l' → Larger (repeat_within n c b l) (repeat_within n' c' b' l')
unfolding repeat_within
repeat_within_larger zero n' h c b l = steps_larger _
repeat_within_larger (suc n) zero h c b l = absurd (omega arith)
repeat_within_larger (suc n) (suc n') h c b l =
    let t = repeat_within_larger n n' (omega arith) c b l in
    then_larger _ _ c (λ x. choose_larger x (then_larger _ _ (turn_larger b) (λ ended. unless_ended_larger ended (then_larger _ _ l (λ _. t)))) (lift_larger (Ok flow.Normal)))

pub repeat_larger : {c c' : Run Bool} {b b' : Run Flow} {l l' : Run (Unit {0})} → Larger c c' → Larger b b' → Larger l l' → Larger (repeat c b l) (repeat c' b' l')
unfolding repeat
repeat_larger c b l = record { covers = λ s d. (repeat_within_larger (suc s.steps) (suc (s.steps + d)) (omega arith) c b l).covers s d }

pub walk_larger : (x : List ℕ) (keys : List (List ℕ)) {b b' : Run Flow} → Larger b b' → Larger (walk x keys b) (walk x keys b')
unfolding walk
walk_larger x [] h = lift_larger (Ok flow.Normal)
walk_larger x (key ∷ keys) h = let t = walk_larger x keys h in then_larger _ _ (turn_larger (then_larger _ _ (put_larger x (value.Text key)) (λ _. h))) (λ ended. unless_ended_larger ended t)

pub pass_larger : (f : Flow) {m n : Run Flow} → Larger m n → Larger (pass_on f m) (pass_on f n)
pass_larger flow.Normal h = h
pass_larger flow.Break h = lift_larger (Ok flow.Break)
pass_larger flow.Continue h = lift_larger (Ok flow.Continue)
pass_larger (flow.Return v) h = lift_larger (Ok (flow.Return v))

module _ (ds : List Definition) (call call' : List ℕ → List Local → Run Value) (h : CallsMore call call') where
  abbrev less' : Functions
  less' = functions_by ds call

  abbrev more' : Functions
  more' = functions_by ds call'

  mutual
    unfolding exec

    pub exec_larger : (s : Statement) → Larger (exec less' s) (exec more' s)
    exec_larger Empty = lift_larger (Ok flow.Normal)
    exec_larger (Simple simple) = simple_larger ds call call' h simple
    exec_larger (Block all) = exec_all_larger all
    exec_larger (If c s) = let body = exec_larger s in then_larger _ _ (begin_test_larger ds call call' h c) (λ x. choose_larger x body (lift_larger (Ok flow.Normal)))
    exec_larger (IfElse c s other) = let body = exec_larger s in let rest = exec_larger other in then_larger _ _ (begin_test_larger ds call call' h c) (λ x. choose_larger x body rest)
    exec_larger (While c s) = let body = exec_larger s in then_larger _ _ spend_larger (λ _. repeat_larger (tested_larger (eval_larger ds call call' h c)) body (lift_larger (Ok tt)))
    exec_larger (Do s c) = let body = exec_larger s in then_larger _ _ spend_larger (λ _. then_larger _ _ (turn_larger body) (λ ended. unless_ended_larger ended (repeat_larger (tested_larger (eval_larger ds call call' h c)) body (lift_larger (Ok tt)))))
    exec_larger (ForIn x array s) = let body = exec_larger s in then_larger _ _ spend_larger (λ _. then_larger _ _ (keys_larger array) (λ keys. walk_larger x keys body))
    exec_larger (For first c last s) = let body = exec_larger s in then_larger _ _ spend_larger (λ _. then_larger _ _ (part_larger ds call call' h first) (λ _. repeat_larger (goes_on_larger ds call call' h c) body (part_larger ds call call' h last)))

    pub exec_all_larger : (all : Statements) → Larger (exec_all less' all) (exec_all more' all)
    exec_all_larger NoMore = lift_larger (Ok flow.Normal)
    exec_all_larger (Then s all) = let rest = exec_all_larger all in then_larger _ _ (exec_larger s) (λ f. pass_larger f rest)

  pub action_larger : (all : Statements) → Larger (run_action less' all) (run_action more' all)
  unfolding run_action
  action_larger all = then_larger _ _ (exec_all_larger all) (λ f. lift_larger (Ok tt))

  pub through_larger : (n : ℕ) (to : Expr) → Larger (go_through less' n to) (go_through more' n to)
  unfolding go_through
  through_larger n to = then_larger _ _ (tested_larger (eval_larger ds call call' h to)) (λ ends. then_larger _ _ (choose_larger ends (set_inside_larger n false) (lift_larger (Ok tt))) (λ _. lift_larger (Ok true)))

  pub begin_range_larger : (n : ℕ) (from to : Expr) → Larger (begin_range less' n from to) (begin_range more' n from to)
  unfolding begin_range
  begin_range_larger n from to = then_larger _ _ (tested_larger (eval_larger ds call call' h from)) (λ begins. choose_larger begins (then_larger _ _ (set_inside_larger n true) (λ _. through_larger n to)) (lift_larger (Ok false)))

  pub selects_larger : (n : ℕ) (p : Pattern) → Larger (selects less' n p) (selects more' n p)
  unfolding selects
  selects_larger n (Single e) = tested_larger (eval_larger ds call call' h e)
  selects_larger n (Range from to) = then_larger _ _ (inside_larger n) (λ inside. choose_larger inside (through_larger n to) (begin_range_larger n from to))

  pub print_record_larger : Larger (print_record less') (print_record more')
  unfolding print_record
  print_record_larger = print_larger ds call call' h form.Print (Bare Nil) Standard

  pub item_larger : (n : ℕ) (x : Item) → Larger (try_item less' n x) (try_item more' n x)
  unfolding try_item
  item_larger n (Begin block) = lift_larger (Ok tt)
  item_larger n (End block) = lift_larger (Ok tt)
  item_larger n (Action block) = action_larger block
  item_larger n (PatternAction p block) = then_larger _ _ (selects_larger n p) (λ x. choose_larger x (action_larger block) (lift_larger (Ok tt)))
  item_larger n (PatternOnly p) = then_larger _ _ (selects_larger n p) (λ x. choose_larger x print_record_larger (lift_larger (Ok tt)))
  item_larger n (Function f ps block) = lift_larger (Ok tt)

  pub items_larger : (n : ℕ) (xs : List Item) → Larger (try_items less' n xs) (try_items more' n xs)
  unfolding try_items
  items_larger n [] = lift_larger (Ok tt)
  items_larger n (x ∷ xs) = then_larger _ _ (item_larger n x) (λ _. items_larger (suc n) xs)

  pub begin_item_larger : (x : Item) → Larger (begin_item less' x) (begin_item more' x)
  unfolding begin_item
  begin_item_larger (Begin block) = action_larger block
  begin_item_larger (End block) = lift_larger (Ok tt)
  begin_item_larger (Action block) = lift_larger (Ok tt)
  begin_item_larger (PatternAction p block) = lift_larger (Ok tt)
  begin_item_larger (PatternOnly p) = lift_larger (Ok tt)
  begin_item_larger (Function f ps block) = lift_larger (Ok tt)

  pub begin_items_larger : (xs : List Item) → Larger (begin_items less' xs) (begin_items more' xs)
  unfolding begin_items
  begin_items_larger [] = lift_larger (Ok tt)
  begin_items_larger (x ∷ xs) = then_larger _ _ (begin_item_larger x) (λ _. begin_items_larger xs)

  pub end_item_larger : (x : Item) → Larger (end_item less' x) (end_item more' x)
  unfolding end_item
  end_item_larger (Begin block) = lift_larger (Ok tt)
  end_item_larger (End block) = action_larger block
  end_item_larger (Action block) = lift_larger (Ok tt)
  end_item_larger (PatternAction p block) = lift_larger (Ok tt)
  end_item_larger (PatternOnly p) = lift_larger (Ok tt)
  end_item_larger (Function f ps block) = lift_larger (Ok tt)

  pub end_items_larger : (xs : List Item) → Larger (end_items less' xs) (end_items more' xs)
  unfolding end_items
  end_items_larger [] = lift_larger (Ok tt)
  end_items_larger (x ∷ xs) = then_larger _ _ (end_item_larger x) (λ _. end_items_larger xs)
