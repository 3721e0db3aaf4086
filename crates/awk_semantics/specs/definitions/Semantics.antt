-- The semantics of expressions and statements (POSIX awk, Expressions in awk; Actions; Output Statements; User-Defined
-- Functions).
use Rattle.std.specs.Prelude.{ℕ, zero, suc, Bool, true, false, List, [], ◌∷◌, ◌++◌, drop, Option, Some, None, Err}
use Rattle.awk_value.specs.declared.value.Value.{Value}
use Rattle.awk_value.specs.declared.value.Value.TheVariants as value
use Rattle.awk_value.specs.Values.{str_of, truth_of}
use Rattle.awk_lex.specs.declared.token.Operator.TheVariants.{And, Or, Matches}
use Rattle.awk_grammar.specs.declared.tree.BinaryOperator.{BinaryOperator}
use Rattle.awk_grammar.specs.declared.tree.BinaryOperator.TheVariants.{Concatenate, Infix}
use Rattle.awk_grammar.specs.declared.tree.PrintForm.{PrintForm}
use Rattle.awk_grammar.specs.declared.tree.PrintForm.TheVariants as form
use Rattle.awk_grammar.specs.Tree.{Expr, Number, String, Ere, Name, Element, Field, Group, Call, BuiltIn, Length, PreIncrement, PostIncrement, Getline, PipedGetline, Unary, Binary, Membership, ListMembership, Conditional, Assign, Exprs, Nil, Cons, OptionalExpr, NoExpr, AnExpr, PrintList, Bare, Parenthesized, Output, Standard, Redirected, SimpleStatement, Expression, Print, Delete, DeleteAll, Next, NextFile, Break, Continue, Exit, Return, OptionalSimple, NoSimple, ASimple, Statement, Empty, Simple, Block, If, IfElse, While, Do, ForIn, For, Statements, NoMore, Then}
use Rattle.awk_world.specs.declared.world.InputKind.TheVariants as input
use Rattle.awk_semantics.specs.declared.flow.Flow.{Flow}
use Rattle.awk_semantics.specs.declared.flow.Flow.TheVariants as flow
use Rattle.awk_semantics.specs.declared.halt.Halt.TheVariants as halt
use Rattle.awk_semantics.specs.declared.local.Local.{Local}
use Rattle.awk_semantics.specs.definitions.State.{Run, ◌>>=◌, lift, ret}
use Rattle.awk_semantics.specs.definitions.Operators.{truth_value, changed, applied, by_one, one, operator_of, takes_pattern}
use Rattle.awk_semantics.specs.definitions.Primitives.{spend, number_of, read_name, read_field, record_text, put, read_element, has_element, delete_element, clear_array, keys_in, joined_key, check_height, print_bytes, print_line, format_values, set_status}
use Rattle.awk_semantics.specs.definitions.Streams.{open_target, close_main}
use Rattle.awk_semantics.specs.definitions.Places.{Place, AName, AnElement, AField, assign_by, post_increment, main_getline, named_getline}
use Rattle.awk_semantics.specs.definitions.BuiltIns.{Role, Argument, roles_of, next_role, taken_as, locals_of, record_length, apply_built_in}

-- what is known of the functions of a program: how a function takes its arguments, how high its body is, and what a call of
-- it does once the arguments are evaluated
pub record Functions : Type 0 where
  pub roles : List ℕ → List Role
  pub height : List ℕ → ℕ
  pub call : List ℕ → List Local → Run Value

-- an ERE right of `~` and `!~` is that pattern; any other operand there is evaluated
abbrev pub right_operand : Bool → Expr → Run Value → Run Value
right_operand true (Ere text) evaluated = ret (value.Text text)
right_operand takes e evaluated = evaluated

-- whether a value that is evaluated is true
unfoldable pub tested : Run Value → Run Bool
tested m = m >>= λ v. ret (truth_of v)

abbrev pub choose : {A : Type 0} → Bool → Run A → Run A → Run A
choose true here other = here
choose false here other = other

-- two operands; `&&` and `||` evaluate no more than they need
abbrev pub combined : BinaryOperator → Run Value → Run Value → Run Value
combined Concatenate left right = left >>= λ x. right >>= λ y. ret (value.Text (str_of x ++ str_of y))
combined (Infix And) left right = tested left >>= λ x. choose x (tested right) (ret false) >>= λ y. ret (truth_value y)
combined (Infix Or) left right = tested left >>= λ x. choose x (ret true) (tested right) >>= λ y. ret (truth_value y)
combined (Infix o) left right = left >>= λ x. right >>= λ y. lift (applied o x y)

-- a call: the arguments are evaluated, then the heights are tested, and then a step is spent
abbrev pub call_with : Functions → (name : List ℕ) → List Argument → Run Value
call_with functions f arguments = locals_of arguments >>= λ given. check_height (functions.height f) >>= λ _. spend >>= λ _. functions.call f given

-- `getline`, with its place and with its file
abbrev pub getline_from : Option Place → Option Value → Run Value
getline_from p None = main_getline p
getline_from p (Some file) = named_getline input.File (str_of file) p

module _ (functions : Functions) where
  -- An expression gives a value; operands go from left to right, and `?:` evaluates no more than it needs. An ERE alone is
  -- whether the record has a match of it. An assignment evaluates its place, and then its right side.
  unfoldable mutual
    pub eval : Expr → Run Value
    eval (Number n) = ret (value.Number n)
    eval (String bytes) = ret (value.Text bytes)
    eval (Ere text) = record_text >>= λ v. lift (applied Matches v (value.Text text))
    eval (Name x) = read_name x
    eval (Element x es) = key_of [] es >>= λ key. read_element x key
    eval (Field e) = eval e >>= λ v. number_of v >>= λ n. read_field n
    eval (Group e) = eval e
    eval (Call f es) = take_arguments (functions.roles f) [] es >>= λ arguments. call_with functions f arguments
    eval (BuiltIn f es) = take_arguments (roles_of f) [] es >>= λ arguments. apply_built_in f arguments
    eval Length = record_length
    eval (PreIncrement o p) = place_of p >>= λ q. assign_by (Some (by_one o)) q one
    eval (PostIncrement o p) = place_of p >>= λ q. post_increment o q
    eval (Getline p file) = optional_place p >>= λ q. optional_value file >>= λ v. getline_from q v
    eval (PipedGetline c p) = eval c >>= λ v. optional_place p >>= λ q. named_getline input.Command (str_of v) q
    eval (Unary o e) = eval e >>= λ v. lift (changed o v)
    eval (Binary o a b) = combined o (eval a) (right_operand (takes_pattern o) b (eval b))
    eval (Membership e x) = eval e >>= λ v. has_element x (str_of v) >>= λ y. ret (truth_value y)
    eval (ListMembership es x) = key_of [] es >>= λ key. has_element x key >>= λ y. ret (truth_value y)
    eval (Conditional c a b) = tested (eval c) >>= λ x. choose x (eval a) (eval b)
    eval (Assign o p e) = place_of p >>= λ q. eval e >>= λ v. assign_by (operator_of o) q v

    -- a place: the text of its subscript, or the number of its field. Other expressions are no places, and are refused
    pub place_of : Expr → Run Place
    place_of (Name x) = ret (AName x)
    place_of (Element x es) = key_of [] es >>= λ key. ret (AnElement x key)
    place_of (Field e) = eval e >>= λ v. number_of v >>= λ n. ret (AField n)
    place_of e = ret (AName [])

    -- the text of the subscripts, behind the values that are there
    pub key_of : List Value → Exprs → Run (List ℕ)
    key_of front Nil = joined_key front
    key_of front (Cons e es) = eval e >>= λ v. key_of (front ++ v ∷ []) es

    -- arguments, each by its role, behind those that are there
    pub take_arguments : List Role → List Argument → Exprs → Run (List Argument)
    take_arguments roles front Nil = ret front
    take_arguments roles front (Cons e es) = taken_as (next_role roles) e (eval e) (place_of e) >>= λ a. take_arguments (drop 1 roles) (front ++ a ∷ []) es

    pub optional_place : OptionalExpr → Run (Option Place)
    optional_place NoExpr = ret None
    optional_place (AnExpr p) = place_of p >>= λ q. ret (Some q)

    pub optional_value : OptionalExpr → Run (Option Value)
    optional_value NoExpr = ret None
    optional_value (AnExpr e) = eval e >>= λ v. ret (Some v)

  -- the values of a list, behind those that are there
  unfoldable pub eval_all : List Value → Exprs → Run (List Value)
  eval_all front Nil = ret front
  eval_all front (Cons e es) = eval e >>= λ v. eval_all (front ++ v ∷ []) es

  -- the values of a print's list
  unfoldable pub printed_values : PrintList → Run (List Value)
  printed_values (Bare es) = eval_all [] es
  printed_values (Parenthesized es) = eval_all [] es

  -- the opening of an output that a print prints to
  unfoldable pub target_of : Output → Run ℕ
  target_of Standard = ret 0
  target_of (Redirected way e) = eval e >>= λ v. open_target way (str_of v)

  -- a line of the values, or of the record for want of any, as it is then; or the text of a format and the values behind it
  abbrev pub print_by : PrintForm → (opening : ℕ) → List Value → Run (Unit {0})
  print_by form.Print n [] = record_text >>= λ v. print_line n (v ∷ [])
  print_by form.Print n vs = print_line n vs
  print_by form.Printf n vs = lift (format_values vs) >>= λ text. print_bytes n text

  -- a print spends a step as it begins; it evaluates its list, and then its target, which is opened
  unfoldable pub print : PrintForm → PrintList → Output → Run (Unit {0})
  print form list output = spend >>= λ _. printed_values list >>= λ vs. target_of output >>= λ n. print_by form n vs

  -- an `if` spends a step as it begins, and its condition is evaluated
  unfoldable pub begin_test : Expr → Run Bool
  begin_test c = spend >>= λ _. tested (eval c)

  -- how a part ends early: `exit` with an expression sets the status first
  unfoldable pub exit_with : OptionalExpr → Run Flow
  exit_with NoExpr = lift (Err halt.Exit)
  exit_with (AnExpr e) = eval e >>= λ v. set_status v >>= λ _. lift (Err halt.Exit)

  -- what a function returns: without an expression, what was never assigned
  unfoldable pub returned_value : OptionalExpr → Run Value
  returned_value NoExpr = ret value.Nothing
  returned_value (AnExpr e) = eval e

  -- a simple statement, and how it passes on; it spends a step as it begins
  unfoldable pub exec_simple : SimpleStatement → Run Flow
  exec_simple (Expression e) = spend >>= λ _. eval e >>= λ v. ret flow.Normal
  exec_simple (Print form list output) = print form list output >>= λ _. ret flow.Normal
  exec_simple (Delete x es) = spend >>= λ _. key_of [] es >>= λ key. delete_element x key >>= λ _. ret flow.Normal
  exec_simple (DeleteAll x) = spend >>= λ _. clear_array x >>= λ _. ret flow.Normal
  -- `nextfile` ends the main input, and goes on as `next`
  exec_simple NextFile = spend >>= λ _. close_main >>= λ _. lift (Err halt.Next)
  exec_simple Next = spend >>= λ _. lift (Err halt.Next)
  exec_simple Break = spend >>= λ _. ret flow.Break
  exec_simple Continue = spend >>= λ _. ret flow.Continue
  exec_simple (Exit e) = spend >>= λ _. exit_with e
  exec_simple (Return e) = spend >>= λ _. returned_value e >>= λ v. ret (flow.Return v)

  -- an outer part of a `for`
  unfoldable pub exec_part : OptionalSimple → Run (Unit {0})
  exec_part NoSimple = ret tt
  exec_part (ASimple simple) = exec_simple simple >>= λ f. ret tt

  -- a condition that may be left out, and is true then
  unfoldable pub goes_on : OptionalExpr → Run Bool
  goes_on NoExpr = ret true
  goes_on (AnExpr e) = tested (eval e)

-- how a loop passes on behind a turn of its body, if it ends with it
abbrev pub ending : Flow → Option Flow
ending flow.Normal = None
ending flow.Continue = None
ending flow.Break = Some flow.Normal
ending (flow.Return v) = Some (flow.Return v)

-- a turn of a loop spends a step
unfoldable pub turn : Run Flow → Run (Option Flow)
turn body = spend >>= λ _. body >>= λ f. ret (ending f)

abbrev pub unless_ended : Option Flow → Run Flow → Run Flow
unless_ended None rest = rest
unless_ended (Some f) rest = ret f

-- at most n turns, as long as a condition holds; the last part of a `for` stands behind each
unfoldable pub repeat_within : ℕ → Run Bool → Run Flow → Run (Unit {0}) → Run Flow
repeat_within zero condition body last = lift (Err halt.OutOfSteps)
repeat_within (suc n) condition body last = condition >>= λ x. choose x (turn body >>= λ ended. unless_ended ended (last >>= λ _. repeat_within n condition body last)) (ret flow.Normal)

-- all turns: no more than there are steps
unfoldable pub repeat : Run Bool → Run Flow → Run (Unit {0}) → Run Flow
repeat condition body last s = repeat_within (suc s.steps) condition body last s

-- a turn for each of these keys, which a name gets as a text
unfoldable pub walk : (name : List ℕ) → List (List ℕ) → Run Flow → Run Flow
walk x [] body = ret flow.Normal
walk x (key ∷ keys) body = turn (put x (value.Text key) >>= λ _. body) >>= λ ended. unless_ended ended (walk x keys body)

-- what follows a statement is executed where it passes on to the next one
abbrev pub pass_on : Flow → Run Flow → Run Flow
pass_on flow.Normal rest = rest
pass_on f rest = ret f

module _ (functions : Functions) where
  -- A statement, and how it passes on; one that is no block and not empty spends a step as it begins. A `do` is a turn and
  -- then a loop. A walk goes over the keys that are present at its start.
  unfoldable mutual
    pub exec : Statement → Run Flow
    exec Empty = ret flow.Normal
    exec (Simple simple) = exec_simple functions simple
    exec (Block all) = exec_all all
    exec (If c s) = begin_test functions c >>= λ x. choose x (exec s) (ret flow.Normal)
    exec (IfElse c s other) = begin_test functions c >>= λ x. choose x (exec s) (exec other)
    exec (While c s) = spend >>= λ _. repeat (tested (eval functions c)) (exec s) (ret tt)
    exec (Do s c) = spend >>= λ _. turn (exec s) >>= λ ended. unless_ended ended (repeat (tested (eval functions c)) (exec s) (ret tt))
    exec (ForIn x array s) = spend >>= λ _. keys_in array >>= λ keys. walk x keys (exec s)
    exec (For first c last s) = spend >>= λ _. exec_part functions first >>= λ _. repeat (goes_on functions c) (exec s) (exec_part functions last)

    pub exec_all : Statements → Run Flow
    exec_all NoMore = ret flow.Normal
    exec_all (Then s all) = exec s >>= λ f. pass_on f (exec_all all)
