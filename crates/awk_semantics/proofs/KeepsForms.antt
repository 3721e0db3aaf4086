-- What names stand for is kept, form by form.
use Rattle.std.specs.Prelude.{ℕ, ℤ, Bool, List, Option, Some, None}
use Rattle.awk_value.specs.declared.value.Value.{Value}
use Rattle.awk_text.specs.declared.span.Span.{Span}
use Rattle.awk_lex.specs.declared.token.BuiltIn.{BuiltIn as BuiltInName}
use Rattle.awk_lex.specs.declared.token.IncrementOperator.{IncrementOperator}
use Rattle.awk_lex.specs.declared.token.Operator.{Operator}
use Rattle.awk_grammar.specs.declared.tree.BinaryOperator.{BinaryOperator}
use Rattle.awk_grammar.specs.declared.tree.PrintForm.{PrintForm}
use Rattle.awk_grammar.specs.declared.tree.Redirection.{Redirection}
use Rattle.awk_grammar.specs.Tree.{Expr, Exprs, OptionalExpr, PrintList, Output, SimpleStatement, OptionalSimple, Statement, Statements, Pattern, Item}
use Rattle.awk_world.specs.declared.world.InputKind.{InputKind}
use Rattle.awk_kinds.specs.declared.special.Special.{Special}
use Rattle.awk_semantics.specs.declared.flow.Flow.{Flow}
use Rattle.awk_semantics.specs.definitions.State.{Run}
use Rattle.awk_semantics.specs.definitions.Primitives.{spend, number_of, read_field, record_text, set_record, read_name, set_field, put_outside, put, put_special, count_in, read_element_at, store_element_at, has_element_at, delete_element_at, clear_array_at, array_length_at, keys_at, fill_array_at, read_element, store_element, has_element, delete_element, clear_array, array_length, is_array, keys_in, fill_array, joined_key, field_separator, check_height, print_bytes, print_line, is_inside, set_inside, set_status}
use Rattle.awk_semantics.specs.support.Outside.{read_outside}
use Rattle.awk_semantics.specs.definitions.Streams.{open_target, close_main, close_named, run_command, flush_all, flush_named}
use Rattle.awk_semantics.specs.definitions.Inputs.{next_record}
use Rattle.awk_semantics.specs.definitions.Places.{Place, read_place, store, assign, assign_by, post_increment, main_getline, named_getline}
use Rattle.awk_semantics.specs.definitions.BuiltIns.{Role, Argument, taken_as, locals_of, note_match, separator_for, split_into, exchange, record_length, count_elements, flush_outputs, apply_built_in}
use Rattle.awk_semantics.specs.definitions.Semantics.{Functions, right_operand, tested, choose, combined, call_with, getline_from, eval, place_of, key_of, take_arguments, optional_place, optional_value, eval_all, printed_values, target_of, print_by, print, begin_test, exit_with, returned_value, exec_simple, exec_part, goes_on, turn, unless_ended, repeat_within, repeat, walk, pass_on, exec, exec_all}
use Rattle.awk_semantics.specs.definitions.Items.{begin_record, run_action, go_through, begin_range, selects, print_record, try_item, try_items, begin_items, end_items}
use Rattle.awk_world.specs.declared.world.InputKind.TheVariants as input
use Rattle.awk_kinds.specs.declared.special.Special.TheVariants.{Nr, Fnr}
use Rattle.awk_value.specs.Values.{str_of}
use Rattle.awk_semantics.specs.support.Keeps.{Keeps, CallsKeep}
use Rattle.awk_semantics.specs.support.LawOfKeeping.{SequenceKeeps, ResultKeeps, ChoiceKeeps, LawOfKeeping}
use Rattle.awk_semantics.proofs.PlainRuns.{spend_plain, number_plain, field_plain, text_plain, set_plain, outside_name_plain, name_plain, set_field_plain, put_outside_plain, put_plain, put_special_plain, count_in_plain, element_at_plain, store_element_at_plain, has_at_plain, delete_at_plain, clear_at_plain, length_at_plain, keys_at_plain, fill_at_plain, element_plain, store_element_plain, has_plain, delete_plain, clear_plain, length_plain, is_array_plain, keys_plain, fill_plain, key_plain, separator_plain, locals_plain, height_plain, bytes_plain, line_plain, inside_plain, set_inside_plain, status_plain, target_plain, close_main_plain, close_named_plain, run_command_plain, flush_all_plain, flush_named_plain}
use Rattle.awk_semantics.proofs.PlainParts.{next_plain, read_plain, store_plain, assign_place_plain, assign_by_plain, post_plain, main_getline_plain, named_getline_plain, note_match_plain, separator_for_plain, split_into_plain, exchange_plain, record_length_plain, count_elements_plain, flush_outputs_plain, built_in_plain}
use Rattle.awk_semantics.proofs.Forms.{choose_holds, eval_holds, place_of_holds, key_of_holds, take_arguments_holds, optional_place_holds, optional_value_holds, call_holds, values_holds, printed_holds, output_holds, print_by_holds, print_holds, begin_test_holds, exit_holds, returned_holds, simple_holds, part_holds, goes_on_holds, exec_holds, exec_all_holds, action_holds, through_holds, begin_range_holds, selects_holds, print_record_holds, item_holds, items_holds, begin_items_holds, end_items_holds, right_holds, taken_as_holds, tested_holds, combined_holds, turn_holds, unless_ended_holds, repeat_within_holds, repeat_holds, walk_holds, pass_holds}
use Rattle.awk_semantics.proofs.Keeping.{keeps_bind, keeps_lift, keeps_plain, keeps_closed, keeps_call_by, keeps_call_within}

abbrev Kept : (A : Type 0) → Run A → Type 0
Kept A m = Keeps m

-- parts that know no functions of a program

pub keeps_spend : Keeps spend
keeps_spend = keeps_plain spend_plain

pub keeps_number_of : (v : Value) → Keeps (number_of v)
keeps_number_of v = keeps_plain (number_plain v)

pub keeps_read_field : (n : ℤ) → Keeps (read_field n)
keeps_read_field n = keeps_plain (field_plain n)

pub keeps_record_text : Keeps record_text
keeps_record_text = keeps_plain text_plain

pub keeps_set_record : (text : List ℕ) → Keeps (set_record text)
keeps_set_record text = keeps_plain (set_plain text)

pub keeps_read_outside : (x : List ℕ) → Keeps (read_outside x)
keeps_read_outside x = keeps_plain (outside_name_plain x)

pub keeps_read_name : (x : List ℕ) → Keeps (read_name x)
keeps_read_name x = keeps_plain (name_plain x)

pub keeps_set_field : (n : ℤ) (v : Value) → Keeps (set_field n v)
keeps_set_field n v = keeps_plain (set_field_plain n v)

pub keeps_put_outside : (x : List ℕ) (v : Value) → Keeps (put_outside x v)
keeps_put_outside x v = keeps_plain (put_outside_plain x v)

pub keeps_put : (x : List ℕ) (v : Value) → Keeps (put x v)
keeps_put x v = keeps_plain (put_plain x v)

pub keeps_put_special : (x : Special) (v : Value) → Keeps (put_special x v)
keeps_put_special x v = keeps_plain (put_special_plain x v)

pub keeps_count_in : (x : Special) → Keeps (count_in x)
keeps_count_in x = keeps_plain (count_in_plain x)

pub keeps_read_element_at : (n : ℕ) (key : List ℕ) → Keeps (read_element_at n key)
keeps_read_element_at n key = keeps_plain (element_at_plain n key)

pub keeps_store_element_at : (n : ℕ) (key : List ℕ) (v : Value) → Keeps (store_element_at n key v)
keeps_store_element_at n key v = keeps_plain (store_element_at_plain n key v)

pub keeps_has_element_at : (n : ℕ) (key : List ℕ) → Keeps (has_element_at n key)
keeps_has_element_at n key = keeps_plain (has_at_plain n key)

pub keeps_delete_element_at : (n : ℕ) (key : List ℕ) → Keeps (delete_element_at n key)
keeps_delete_element_at n key = keeps_plain (delete_at_plain n key)

pub keeps_clear_array_at : (n : ℕ) → Keeps (clear_array_at n)
keeps_clear_array_at n = keeps_plain (clear_at_plain n)

pub keeps_array_length_at : (n : ℕ) → Keeps (array_length_at n)
keeps_array_length_at n = keeps_plain (length_at_plain n)

pub keeps_keys_at : (n : ℕ) → Keeps (keys_at n)
keeps_keys_at n = keeps_plain (keys_at_plain n)

pub keeps_fill_array_at : (n : ℕ) (texts : List (List ℕ)) → Keeps (fill_array_at n texts)
keeps_fill_array_at n texts = keeps_plain (fill_at_plain n texts)

pub keeps_read_element : (x key : List ℕ) → Keeps (read_element x key)
keeps_read_element x key = keeps_plain (element_plain x key)

pub keeps_store_element : (x key : List ℕ) (v : Value) → Keeps (store_element x key v)
keeps_store_element x key v = keeps_plain (store_element_plain x key v)

pub keeps_has_element : (x key : List ℕ) → Keeps (has_element x key)
keeps_has_element x key = keeps_plain (has_plain x key)

pub keeps_delete_element : (x key : List ℕ) → Keeps (delete_element x key)
keeps_delete_element x key = keeps_plain (delete_plain x key)

pub keeps_clear_array : (x : List ℕ) → Keeps (clear_array x)
keeps_clear_array x = keeps_plain (clear_plain x)

pub keeps_array_length : (x : List ℕ) → Keeps (array_length x)
keeps_array_length x = keeps_plain (length_plain x)

pub keeps_is_array : (x : List ℕ) → Keeps (is_array x)
keeps_is_array x = keeps_plain (is_array_plain x)

pub keeps_keys_in : (x : List ℕ) → Keeps (keys_in x)
keeps_keys_in x = keeps_plain (keys_plain x)

pub keeps_fill_array : (x : List ℕ) (texts : List (List ℕ)) → Keeps (fill_array x texts)
keeps_fill_array x texts = keeps_plain (fill_plain x texts)

pub keeps_joined_key : (vs : List Value) → Keeps (joined_key vs)
keeps_joined_key vs = keeps_plain (key_plain vs)

pub keeps_field_separator : Keeps field_separator
keeps_field_separator = keeps_plain separator_plain

pub keeps_locals_of : (arguments : List Argument) → Keeps (locals_of arguments)
keeps_locals_of arguments = keeps_plain (locals_plain arguments)

pub keeps_check_height : (height : ℕ) → Keeps (check_height height)
keeps_check_height height = keeps_plain (height_plain height)

pub keeps_print_bytes : (opening : ℕ) (bytes : List ℕ) → Keeps (print_bytes opening bytes)
keeps_print_bytes opening bytes = keeps_plain (bytes_plain opening bytes)

pub keeps_print_line : (opening : ℕ) (vs : List Value) → Keeps (print_line opening vs)
keeps_print_line opening vs = keeps_plain (line_plain opening vs)

pub keeps_is_inside : (n : ℕ) → Keeps (is_inside n)
keeps_is_inside n = keeps_plain (inside_plain n)

pub keeps_set_inside : (n : ℕ) (b : Bool) → Keeps (set_inside n b)
keeps_set_inside n b = keeps_plain (set_inside_plain n b)

pub keeps_set_status : (v : Value) → Keeps (set_status v)
keeps_set_status v = keeps_plain (status_plain v)

pub keeps_open_target : (way : Redirection) (name : List ℕ) → Keeps (open_target way name)
keeps_open_target way name = keeps_plain (target_plain way name)

pub keeps_close_main : Keeps close_main
keeps_close_main = keeps_plain close_main_plain

pub keeps_close_named : (name : List ℕ) → Keeps (close_named name)
keeps_close_named name = keeps_plain (close_named_plain name)

pub keeps_run_command : (command : List ℕ) → Keeps (run_command command)
keeps_run_command command = keeps_plain (run_command_plain command)

pub keeps_flush_all : Keeps flush_all
keeps_flush_all = keeps_plain flush_all_plain

pub keeps_flush_named : (name : List ℕ) → Keeps (flush_named name)
keeps_flush_named name = keeps_plain (flush_named_plain name)

pub keeps_next_record : Keeps next_record
keeps_next_record = keeps_plain next_plain

pub keeps_read_place : (p : Place) → Keeps (read_place p)
keeps_read_place p = keeps_plain (read_plain p)

pub keeps_store : (p : Place) (v : Value) → Keeps (store p v)
keeps_store p v = keeps_plain (store_plain p v)

pub keeps_assign : (p : Place) (v : Value) → Keeps (assign p v)
keeps_assign p v = keeps_plain (assign_place_plain p v)

pub keeps_assign_by : (o : Option Operator) (p : Place) (v : Value) → Keeps (assign_by o p v)
keeps_assign_by o p v = keeps_plain (assign_by_plain o p v)

pub keeps_post_increment : (o : IncrementOperator) (p : Place) → Keeps (post_increment o p)
keeps_post_increment o p = keeps_plain (post_plain o p)

pub keeps_main_getline : (p : Option Place) → Keeps (main_getline p)
keeps_main_getline p = keeps_plain (main_getline_plain p)

pub keeps_named_getline : (kind : InputKind) (name : List ℕ) (p : Option Place) → Keeps (named_getline kind name p)
keeps_named_getline kind name p = keeps_plain (named_getline_plain kind name p)

pub keeps_getline_from : (p : Option Place) (file : Option Value) → Keeps (getline_from p file)
keeps_getline_from p None = keeps_main_getline p
keeps_getline_from p (Some file) = keeps_named_getline input.File (str_of file) p

pub keeps_note_match : (found : Option Span) → Keeps (note_match found)
keeps_note_match found = keeps_plain (note_match_plain found)

pub keeps_separator_for : (a : Option Argument) → Keeps (separator_for a)
keeps_separator_for a = keeps_plain (separator_for_plain a)

pub keeps_split_into : (x : List ℕ) (pieces : List (List ℕ)) → Keeps (split_into x pieces)
keeps_split_into x pieces = keeps_plain (split_into_plain x pieces)

pub keeps_exchange : (all : Bool) (arguments : List Argument) → Keeps (exchange all arguments)
keeps_exchange all arguments = keeps_plain (exchange_plain all arguments)

pub keeps_record_length : Keeps record_length
keeps_record_length = keeps_plain record_length_plain

pub keeps_count_elements : (x : List ℕ) → Keeps (count_elements x)
keeps_count_elements x = keeps_plain (count_elements_plain x)

pub keeps_flush_outputs : Keeps flush_outputs
keeps_flush_outputs = keeps_plain flush_outputs_plain

pub keeps_apply_built_in : (f : BuiltInName) (arguments : List Argument) → Keeps (apply_built_in f arguments)
keeps_apply_built_in f arguments = keeps_plain (built_in_plain f arguments)

pub keeps_begin_record : (text : List ℕ) → Keeps (begin_record text)
unfolding begin_record
keeps_begin_record text = keeps_bind (keeps_set_record text) (λ _. keeps_bind (keeps_count_in Nr) (λ _. keeps_count_in Fnr))

-- what is made of runs

pub keeps_choose : {A : Type 0} (b : Bool) {here other : Run A} → Keeps here → Keeps other → Keeps (choose b here other)
keeps_choose b h k = choose_holds Kept keeps_closed b h k

pub keeps_right_operand : (takes : Bool) (e : Expr) {m : Run Value} → Keeps m → Keeps (right_operand takes e m)
keeps_right_operand takes e h = right_holds Kept keeps_closed takes e h

pub keeps_taken_as : (r : Role) (e : Expr) {m : Run Value} {p : Run Place} → Keeps m → Keeps p → Keeps (taken_as r e m p)
keeps_taken_as r e h k = taken_as_holds Kept keeps_closed r e h k

pub keeps_tested : {m : Run Value} → Keeps m → Keeps (tested m)
keeps_tested h = tested_holds Kept keeps_closed h

pub keeps_combined : (o : BinaryOperator) {m n : Run Value} → Keeps m → Keeps n → Keeps (combined o m n)
keeps_combined o h k = combined_holds Kept keeps_closed o h k

pub keeps_turn : {m : Run Flow} → Keeps m → Keeps (turn m)
keeps_turn h = turn_holds Kept keeps_closed h

pub keeps_unless_ended : (ended : Option Flow) {m : Run Flow} → Keeps m → Keeps (unless_ended ended m)
keeps_unless_ended ended h = unless_ended_holds Kept keeps_closed ended h

pub keeps_repeat_within : (n : ℕ) {c : Run Bool} {b : Run Flow} {l : Run (Unit {0})} → Keeps c → Keeps b → Keeps l → Keeps (repeat_within n c b l)
keeps_repeat_within n h k j = repeat_within_holds Kept keeps_closed n h k j

pub keeps_repeat : {c : Run Bool} {b : Run Flow} {l : Run (Unit {0})} → Keeps c → Keeps b → Keeps l → Keeps (repeat c b l)
keeps_repeat h k j = repeat_holds Kept keeps_closed h k j

pub keeps_walk : (x : List ℕ) (keys : List (List ℕ)) {b : Run Flow} → Keeps b → Keeps (walk x keys b)
keeps_walk x keys h = walk_holds Kept keeps_closed x keys h

pub keeps_pass_on : (f : Flow) {m : Run Flow} → Keeps m → Keeps (pass_on f m)
keeps_pass_on f h = pass_holds Kept keeps_closed f h

-- the forms

module _ (functions : Functions) (calls : CallsKeep functions) where
  pub keeps_eval : (e : Expr) → Keeps (eval functions e)
  keeps_eval e = eval_holds Kept keeps_closed functions calls e

  pub keeps_place_of : (e : Expr) → Keeps (place_of functions e)
  keeps_place_of e = place_of_holds Kept keeps_closed functions calls e

  pub keeps_key_of : (front : List Value) (es : Exprs) → Keeps (key_of functions front es)
  keeps_key_of front es = key_of_holds Kept keeps_closed functions calls front es

  pub keeps_take_arguments : (roles : List Role) (front : List Argument) (es : Exprs) → Keeps (take_arguments functions roles front es)
  keeps_take_arguments roles front es = take_arguments_holds Kept keeps_closed functions calls roles front es

  pub keeps_optional_place : (p : OptionalExpr) → Keeps (optional_place functions p)
  keeps_optional_place p = optional_place_holds Kept keeps_closed functions calls p

  pub keeps_optional_value : (e : OptionalExpr) → Keeps (optional_value functions e)
  keeps_optional_value e = optional_value_holds Kept keeps_closed functions calls e

  pub keeps_call_with : (f : List ℕ) (arguments : List Argument) → Keeps (call_with functions f arguments)
  keeps_call_with f arguments = call_holds Kept keeps_closed functions calls f arguments

  pub keeps_eval_all : (front : List Value) (es : Exprs) → Keeps (eval_all functions front es)
  keeps_eval_all front es = values_holds Kept keeps_closed functions calls front es

  pub keeps_printed_values : (list : PrintList) → Keeps (printed_values functions list)
  keeps_printed_values list = printed_holds Kept keeps_closed functions calls list

  pub keeps_target_of : (output : Output) → Keeps (target_of functions output)
  keeps_target_of output = output_holds Kept keeps_closed functions calls output

  pub keeps_print_by : (form : PrintForm) (opening : ℕ) (vs : List Value) → Keeps (print_by functions form opening vs)
  keeps_print_by form opening vs = print_by_holds Kept keeps_closed functions calls form opening vs

  pub keeps_print : (form : PrintForm) (list : PrintList) (output : Output) → Keeps (print functions form list output)
  keeps_print form list output = print_holds Kept keeps_closed functions calls form list output

  pub keeps_begin_test : (c : Expr) → Keeps (begin_test functions c)
  keeps_begin_test c = begin_test_holds Kept keeps_closed functions calls c

  pub keeps_exit_with : (e : OptionalExpr) → Keeps (exit_with functions e)
  keeps_exit_with e = exit_holds Kept keeps_closed functions calls e

  pub keeps_returned_value : (e : OptionalExpr) → Keeps (returned_value functions e)
  keeps_returned_value e = returned_holds Kept keeps_closed functions calls e

  pub keeps_exec_simple : (simple : SimpleStatement) → Keeps (exec_simple functions simple)
  keeps_exec_simple simple = simple_holds Kept keeps_closed functions calls simple

  pub keeps_exec_part : (part : OptionalSimple) → Keeps (exec_part functions part)
  keeps_exec_part part = part_holds Kept keeps_closed functions calls part

  pub keeps_goes_on : (c : OptionalExpr) → Keeps (goes_on functions c)
  keeps_goes_on c = goes_on_holds Kept keeps_closed functions calls c

  pub keeps_exec : (s : Statement) → Keeps (exec functions s)
  keeps_exec s = exec_holds Kept keeps_closed functions calls s

  pub keeps_exec_all : (all : Statements) → Keeps (exec_all functions all)
  keeps_exec_all all = exec_all_holds Kept keeps_closed functions calls all

  pub keeps_run_action : (all : Statements) → Keeps (run_action functions all)
  keeps_run_action all = action_holds Kept keeps_closed functions calls all

  pub keeps_go_through : (n : ℕ) (to : Expr) → Keeps (go_through functions n to)
  keeps_go_through n to = through_holds Kept keeps_closed functions calls n to

  pub keeps_begin_range : (n : ℕ) (from to : Expr) → Keeps (begin_range functions n from to)
  keeps_begin_range n from to = begin_range_holds Kept keeps_closed functions calls n from to

  pub keeps_selects : (n : ℕ) (p : Pattern) → Keeps (selects functions n p)
  keeps_selects n p = selects_holds Kept keeps_closed functions calls n p

  pub keeps_print_record : Keeps (print_record functions)
  keeps_print_record = print_record_holds Kept keeps_closed functions calls

  pub keeps_try_item : (n : ℕ) (x : Item) → Keeps (try_item functions n x)
  keeps_try_item n x = item_holds Kept keeps_closed functions calls n x

  pub keeps_try_items : (n : ℕ) (xs : List Item) → Keeps (try_items functions n xs)
  keeps_try_items n xs = items_holds Kept keeps_closed functions calls n xs

  pub keeps_begin_items : (xs : List Item) → Keeps (begin_items functions xs)
  keeps_begin_items xs = begin_items_holds Kept keeps_closed functions calls xs

  pub keeps_end_items : (xs : List Item) → Keeps (end_items functions xs)
  keeps_end_items xs = end_items_holds Kept keeps_closed functions calls xs

pub sequence_keeps : {A B : Type 0} → SequenceKeeps A B
sequence_keeps m f h k = keeps_bind h k

pub result_keeps : {A : Type 0} → ResultKeeps A
result_keeps r = keeps_lift r

pub choice_keeps : {A : Type 0} → ChoiceKeeps A
choice_keeps b here other h k = keeps_choose b h k

pub law_of_keeping : LawOfKeeping
law_of_keeping = record {
  parts = record {
    spend = keeps_spend;
    number_of = keeps_number_of;
    read_field = keeps_read_field;
    record_text = keeps_record_text;
    set_record = keeps_set_record;
    read_outside = keeps_read_outside;
    read_name = keeps_read_name;
    set_field = keeps_set_field;
    put_outside = keeps_put_outside;
    put = keeps_put;
    put_special = keeps_put_special;
    count_in = keeps_count_in;
    read_element_at = keeps_read_element_at;
    store_element_at = keeps_store_element_at;
    has_element_at = keeps_has_element_at;
    delete_element_at = keeps_delete_element_at;
    clear_array_at = keeps_clear_array_at;
    array_length_at = keeps_array_length_at;
    keys_at = keeps_keys_at;
    fill_array_at = keeps_fill_array_at;
    read_element = keeps_read_element;
    store_element = keeps_store_element;
    has_element = keeps_has_element;
    delete_element = keeps_delete_element;
    clear_array = keeps_clear_array;
    array_length = keeps_array_length;
    is_array = keeps_is_array;
    keys_in = keeps_keys_in;
    fill_array = keeps_fill_array;
    joined_key = keeps_joined_key;
    field_separator = keeps_field_separator;
    locals_of = keeps_locals_of;
    check_height = keeps_check_height;
    print_bytes = keeps_print_bytes;
    print_line = keeps_print_line;
    is_inside = keeps_is_inside;
    set_inside = keeps_set_inside;
    set_status = keeps_set_status;
    open_target = keeps_open_target;
    close_main = keeps_close_main;
    close_named = keeps_close_named;
    run_command = keeps_run_command;
    flush_all = keeps_flush_all;
    flush_named = keeps_flush_named;
    next_record = keeps_next_record;
    read_place = keeps_read_place;
    store = keeps_store;
    assign = keeps_assign;
    assign_by = keeps_assign_by;
    post_increment = keeps_post_increment;
    main_getline = keeps_main_getline;
    named_getline = keeps_named_getline;
    getline_from = keeps_getline_from;
    note_match = keeps_note_match;
    separator_for = keeps_separator_for;
    split_into = keeps_split_into;
    exchange = keeps_exchange;
    record_length = keeps_record_length;
    count_elements = keeps_count_elements;
    flush_outputs = keeps_flush_outputs;
    apply_built_in = keeps_apply_built_in;
    begin_record = keeps_begin_record;
  };
  runs = record {
    right_operand = λ takes e m h. keeps_right_operand takes e h;
    taken_as = λ r e m p h k. keeps_taken_as r e h k;
    tested = λ m h. keeps_tested h;
    combined = λ o m n h k. keeps_combined o h k;
    turn = λ m h. keeps_turn h;
    unless_ended = λ ended m h. keeps_unless_ended ended h;
    repeat_within = λ n c b l h k j. keeps_repeat_within n h k j;
    repeat = λ c b l h k j. keeps_repeat h k j;
    walk = λ x keys b h. keeps_walk x keys h;
    pass_on = λ f m h. keeps_pass_on f h;
  };
  forms = λ functions calls. record {
    eval = keeps_eval functions calls;
    place_of = keeps_place_of functions calls;
    key_of = keeps_key_of functions calls;
    take_arguments = keeps_take_arguments functions calls;
    optional_place = keeps_optional_place functions calls;
    optional_value = keeps_optional_value functions calls;
    call_with = keeps_call_with functions calls;
    eval_all = keeps_eval_all functions calls;
    printed_values = keeps_printed_values functions calls;
    target_of = keeps_target_of functions calls;
    print_by = keeps_print_by functions calls;
    print = keeps_print functions calls;
    begin_test = keeps_begin_test functions calls;
    exit_with = keeps_exit_with functions calls;
    returned_value = keeps_returned_value functions calls;
    exec_simple = keeps_exec_simple functions calls;
    exec_part = keeps_exec_part functions calls;
    goes_on = keeps_goes_on functions calls;
    exec = keeps_exec functions calls;
    exec_all = keeps_exec_all functions calls;
    run_action = keeps_run_action functions calls;
    go_through = keeps_go_through functions calls;
    begin_range = keeps_begin_range functions calls;
    selects = keeps_selects functions calls;
    print_record = keeps_print_record functions calls;
    try_item = keeps_try_item functions calls;
    try_items = keeps_try_items functions calls;
    begin_items = keeps_begin_items functions calls;
    end_items = keeps_end_items functions calls;
  };
  call_by = λ o given body h. keeps_call_by o given h;
  calls = keeps_call_within;
}
