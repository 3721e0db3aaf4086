-- That each part of a run keeps what names stand for, and raises no steps: a line for each.
use Rattle.std.specs.Prelude.{ℕ, ℤ, Bool, List, Option, Result}
use Rattle.awk_value.specs.declared.value.Value.{Value}
use Rattle.awk_text.specs.declared.span.Span.{Span}
use Rattle.awk_lex.specs.declared.token.BuiltIn.{BuiltIn as BuiltInName}
use Rattle.awk_lex.specs.declared.token.IncrementOperator.{IncrementOperator}
use Rattle.awk_lex.specs.declared.token.Operator.{Operator}
use Rattle.awk_grammar.specs.declared.tree.BinaryOperator.{BinaryOperator}
use Rattle.awk_grammar.specs.declared.tree.PrintForm.{PrintForm}
use Rattle.awk_grammar.specs.declared.tree.Redirection.{Redirection}
use Rattle.awk_grammar.specs.Tree.{Expr, Exprs, OptionalExpr, PrintList, Output, SimpleStatement, OptionalSimple, Statement, Statements, Pattern, Item}
use Rattle.awk_world.specs.declared.world.InputKind.{InputKind}
use Rattle.awk_kinds.specs.declared.special.Special.{Special}
use Rattle.awk_kinds.specs.definitions.Kinds.{Definition}
use Rattle.awk_semantics.specs.declared.flow.Flow.{Flow}
use Rattle.awk_semantics.specs.declared.halt.Halt.{Halt}
use Rattle.awk_semantics.specs.declared.local.Local.{Local}
use Rattle.awk_semantics.specs.definitions.State.{Run, ◌>>=◌, lift}
use Rattle.awk_semantics.specs.definitions.Primitives.{spend, number_of, read_field, record_text, set_record, read_name, set_field, put_outside, put, put_special, count_in, read_element_at, store_element_at, has_element_at, delete_element_at, clear_array_at, array_length_at, keys_at, fill_array_at, read_element, store_element, has_element, delete_element, clear_array, array_length, is_array, keys_in, fill_array, joined_key, field_separator, check_height, print_bytes, print_line, is_inside, set_inside, set_status}
use Rattle.awk_semantics.specs.support.Outside.{read_outside}
use Rattle.awk_semantics.specs.definitions.Streams.{open_target, close_main, close_named, run_command, flush_all, flush_named}
use Rattle.awk_semantics.specs.definitions.Inputs.{next_record}
use Rattle.awk_semantics.specs.definitions.Places.{Place, read_place, store, assign, assign_by, post_increment, main_getline, named_getline}
use Rattle.awk_semantics.specs.definitions.BuiltIns.{Role, Argument, taken_as, locals_of, note_match, separator_for, split_into, exchange, record_length, count_elements, flush_outputs, apply_built_in}
use Rattle.awk_semantics.specs.definitions.Semantics.{Functions, right_operand, tested, choose, combined, call_with, getline_from, eval, place_of, key_of, take_arguments, optional_place, optional_value, eval_all, printed_values, target_of, print_by, print, begin_test, exit_with, returned_value, exec_simple, exec_part, goes_on, turn, unless_ended, repeat_within, repeat, walk, pass_on, exec, exec_all}
use Rattle.awk_semantics.specs.definitions.Calls.{call_by, functions_within}
use Rattle.awk_semantics.specs.definitions.Items.{begin_record, run_action, go_through, begin_range, selects, print_record, try_item, try_items, begin_items, end_items, until_next, until_exit, run_records, run_before_end, run_items}
use Rattle.awk_semantics.specs.support.Keeps.{Keeps, CallsKeep, KeepsOutside, EndsOutside}

-- the forms of the language, where the calls of functions do
pub record FormsKeep (functions : Functions) : Type 0 where
  pub eval : (e : Expr) → Keeps (eval functions e)
  pub place_of : (e : Expr) → Keeps (place_of functions e)
  pub key_of : (front : List Value) (es : Exprs) → Keeps (key_of functions front es)
  pub take_arguments : (roles : List Role) (front : List Argument) (es : Exprs) → Keeps (take_arguments functions roles front es)
  pub optional_place : (p : OptionalExpr) → Keeps (optional_place functions p)
  pub optional_value : (e : OptionalExpr) → Keeps (optional_value functions e)
  pub call_with : (f : List ℕ) (arguments : List Argument) → Keeps (call_with functions f arguments)
  pub eval_all : (front : List Value) (es : Exprs) → Keeps (eval_all functions front es)
  pub printed_values : (list : PrintList) → Keeps (printed_values functions list)
  pub target_of : (output : Output) → Keeps (target_of functions output)
  pub print_by : (form : PrintForm) (opening : ℕ) (vs : List Value) → Keeps (print_by functions form opening vs)
  pub print : (form : PrintForm) (list : PrintList) (output : Output) → Keeps (print functions form list output)
  pub begin_test : (c : Expr) → Keeps (begin_test functions c)
  pub exit_with : (e : OptionalExpr) → Keeps (exit_with functions e)
  pub returned_value : (e : OptionalExpr) → Keeps (returned_value functions e)
  pub exec_simple : (simple : SimpleStatement) → Keeps (exec_simple functions simple)
  pub exec_part : (part : OptionalSimple) → Keeps (exec_part functions part)
  pub goes_on : (c : OptionalExpr) → Keeps (goes_on functions c)
  pub exec : (s : Statement) → Keeps (exec functions s)
  pub exec_all : (all : Statements) → Keeps (exec_all functions all)
  pub run_action : (all : Statements) → Keeps (run_action functions all)
  pub go_through : (n : ℕ) (to : Expr) → Keeps (go_through functions n to)
  pub begin_range : (n : ℕ) (from to : Expr) → Keeps (begin_range functions n from to)
  pub selects : (n : ℕ) (p : Pattern) → Keeps (selects functions n p)
  pub print_record : Keeps (print_record functions)
  pub try_item : (n : ℕ) (x : Item) → Keeps (try_item functions n x)
  pub try_items : (n : ℕ) (xs : List Item) → Keeps (try_items functions n xs)
  pub begin_items : (xs : List Item) → Keeps (begin_items functions xs)
  pub end_items : (xs : List Item) → Keeps (end_items functions xs)

-- what is made of runs that do
pub record RunsKeep : Type 0 where
  pub right_operand : (takes : Bool) (e : Expr) (m : Run Value) → Keeps m → Keeps (right_operand takes e m)
  pub taken_as : (r : Role) (e : Expr) (m : Run Value) (p : Run Place) → Keeps m → Keeps p → Keeps (taken_as r e m p)
  pub tested : (m : Run Value) → Keeps m → Keeps (tested m)
  pub combined : (o : BinaryOperator) (m n : Run Value) → Keeps m → Keeps n → Keeps (combined o m n)
  pub turn : (m : Run Flow) → Keeps m → Keeps (turn m)
  pub unless_ended : (ended : Option Flow) (m : Run Flow) → Keeps m → Keeps (unless_ended ended m)
  pub repeat_within : (n : ℕ) (c : Run Bool) (b : Run Flow) (l : Run (Unit {0})) → Keeps c → Keeps b → Keeps l → Keeps (repeat_within n c b l)
  pub repeat : (c : Run Bool) (b : Run Flow) (l : Run (Unit {0})) → Keeps c → Keeps b → Keeps l → Keeps (repeat c b l)
  pub walk : (x : List ℕ) (keys : List (List ℕ)) (b : Run Flow) → Keeps b → Keeps (walk x keys b)
  pub pass_on : (f : Flow) (m : Run Flow) → Keeps m → Keeps (pass_on f m)

-- the parts that know no functions of a program
pub record PartsKeep : Type 0 where
  pub spend : Keeps spend
  pub number_of : (v : Value) → Keeps (number_of v)
  pub read_field : (n : ℤ) → Keeps (read_field n)
  pub record_text : Keeps record_text
  pub set_record : (text : List ℕ) → Keeps (set_record text)
  pub read_outside : (x : List ℕ) → Keeps (read_outside x)
  pub read_name : (x : List ℕ) → Keeps (read_name x)
  pub set_field : (n : ℤ) (v : Value) → Keeps (set_field n v)
  pub put_outside : (x : List ℕ) (v : Value) → Keeps (put_outside x v)
  pub put : (x : List ℕ) (v : Value) → Keeps (put x v)
  pub put_special : (x : Special) (v : Value) → Keeps (put_special x v)
  pub count_in : (x : Special) → Keeps (count_in x)
  pub read_element_at : (n : ℕ) (key : List ℕ) → Keeps (read_element_at n key)
  pub store_element_at : (n : ℕ) (key : List ℕ) (v : Value) → Keeps (store_element_at n key v)
  pub has_element_at : (n : ℕ) (key : List ℕ) → Keeps (has_element_at n key)
  pub delete_element_at : (n : ℕ) (key : List ℕ) → Keeps (delete_element_at n key)
  pub clear_array_at : (n : ℕ) → Keeps (clear_array_at n)
  pub array_length_at : (n : ℕ) → Keeps (array_length_at n)
  pub keys_at : (n : ℕ) → Keeps (keys_at n)
  pub fill_array_at : (n : ℕ) (texts : List (List ℕ)) → Keeps (fill_array_at n texts)
  pub read_element : (x key : List ℕ) → Keeps (read_element x key)
  pub store_element : (x key : List ℕ) (v : Value) → Keeps (store_element x key v)
  pub has_element : (x key : List ℕ) → Keeps (has_element x key)
  pub delete_element : (x key : List ℕ) → Keeps (delete_element x key)
  pub clear_array : (x : List ℕ) → Keeps (clear_array x)
  pub array_length : (x : List ℕ) → Keeps (array_length x)
  pub is_array : (x : List ℕ) → Keeps (is_array x)
  pub keys_in : (x : List ℕ) → Keeps (keys_in x)
  pub fill_array : (x : List ℕ) (texts : List (List ℕ)) → Keeps (fill_array x texts)
  pub joined_key : (vs : List Value) → Keeps (joined_key vs)
  pub field_separator : Keeps field_separator
  pub locals_of : (arguments : List Argument) → Keeps (locals_of arguments)
  pub check_height : (height : ℕ) → Keeps (check_height height)
  pub print_bytes : (opening : ℕ) (bytes : List ℕ) → Keeps (print_bytes opening bytes)
  pub print_line : (opening : ℕ) (vs : List Value) → Keeps (print_line opening vs)
  pub is_inside : (n : ℕ) → Keeps (is_inside n)
  pub set_inside : (n : ℕ) (b : Bool) → Keeps (set_inside n b)
  pub set_status : (v : Value) → Keeps (set_status v)
  pub open_target : (way : Redirection) (name : List ℕ) → Keeps (open_target way name)
  pub close_main : Keeps close_main
  pub close_named : (name : List ℕ) → Keeps (close_named name)
  pub run_command : (command : List ℕ) → Keeps (run_command command)
  pub flush_all : Keeps flush_all
  pub flush_named : (name : List ℕ) → Keeps (flush_named name)
  pub next_record : Keeps next_record
  pub read_place : (p : Place) → Keeps (read_place p)
  pub store : (p : Place) (v : Value) → Keeps (store p v)
  pub assign : (p : Place) (v : Value) → Keeps (assign p v)
  pub assign_by : (o : Option Operator) (p : Place) (v : Value) → Keeps (assign_by o p v)
  pub post_increment : (o : IncrementOperator) (p : Place) → Keeps (post_increment o p)
  pub main_getline : (p : Option Place) → Keeps (main_getline p)
  pub named_getline : (kind : InputKind) (name : List ℕ) (p : Option Place) → Keeps (named_getline kind name p)
  pub getline_from : (p : Option Place) (file : Option Value) → Keeps (getline_from p file)
  pub note_match : (found : Option Span) → Keeps (note_match found)
  pub separator_for : (a : Option Argument) → Keeps (separator_for a)
  pub split_into : (x : List ℕ) (pieces : List (List ℕ)) → Keeps (split_into x pieces)
  pub exchange : (all : Bool) (arguments : List Argument) → Keeps (exchange all arguments)
  pub record_length : Keeps record_length
  pub count_elements : (x : List ℕ) → Keeps (count_elements x)
  pub flush_outputs : Keeps flush_outputs
  pub apply_built_in : (f : BuiltInName) (arguments : List Argument) → Keeps (apply_built_in f arguments)
  pub begin_record : (text : List ℕ) → Keeps (begin_record text)

-- one run and then another
abbrev pub SequenceKeeps : Type 0 → Type 0 → Type 0
SequenceKeeps A B = (m : Run A) (f : A → Run B) → Keeps m → ((a : A) → Keeps (f a)) → Keeps (m >>= f)

abbrev pub ResultKeeps : Type 0 → Type 0
ResultKeeps A = (r : Result A Halt) → Keeps (lift r)

abbrev pub ChoiceKeeps : Type 0 → Type 0
ChoiceKeeps A = (b : Bool) (here other : Run A) → Keeps here → Keeps other → Keeps (choose b here other)

pub record LawOfKeeping : Type 0 where
  pub parts : PartsKeep
  pub runs : RunsKeep
  pub forms : (functions : Functions) → CallsKeep functions → FormsKeep functions
  -- a call, if its body does
  pub call_by : (o : Option Definition) (given : List Local) (body : Definition → Run Flow) → ((d : Definition) → Keeps (body d)) → Keeps (call_by o given body)
  pub calls : (ds : List Definition) (n : ℕ) → CallsKeep (functions_within ds n)

-- Items: what ends early ends the calls that are active.
pub record LawOfItems : Type 0 where
  pub kept : (m : Run (Unit {0})) → Keeps m → KeepsOutside m
  pub ended : (m : Run (Unit {0})) → EndsOutside m → KeepsOutside m
  pub until_next : (m : Run (Unit {0})) → KeepsOutside m → EndsOutside (until_next m)
  pub until_exit : (m : Run (Unit {0})) → KeepsOutside m → EndsOutside (until_exit m)
  pub run_records : (action : Run (Unit {0})) → KeepsOutside action → KeepsOutside (run_records action)
  pub run_before_end : (functions : Functions) → CallsKeep functions → (items : List Item) → KeepsOutside (run_before_end functions items)
  pub run_items : (functions : Functions) → CallsKeep functions → (items : List Item) → KeepsOutside (run_items functions items)
