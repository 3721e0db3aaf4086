-- Runs that keep what names stand for and raise no steps, however they end, and that end by no want of memory and no
-- failed write: all that know no functions of the program.
use Rattle.std.proofs.Math.Nat.{le_refl, le_trans}
use Rattle.std.proofs.lemmas.List.{length-set}
use Rattle.std.specs.Map.{lookup, set_value}
use Rattle.std.proofs.Common.{map, ◌≡◌, ℕ, zero, suc, ◌≤◌, Bool, true, false, List, [], ◌∷◌, ◌++◌, Option, Some, None, Result, Ok, Err, pos, negsuc, ℤ, refl, sym, ap, ◌∙◌, arith, int_lt, cond, codes, bytes_eq}
use Rattle.awk_value.specs.declared.value.Value.{Value}
use Rattle.awk_value.specs.declared.value.Value.TheVariants as value
use Rattle.awk_record.specs.Cut.{Cut, Found, NoMore, BrokenOff, TooLong}
use Rattle.awk_record.specs.Record.{RecordPair}
use Rattle.awk_world.specs.declared.world.InputKind.{InputKind}
use Rattle.awk_world.specs.declared.world.OutputKind.{OutputKind}
use Rattle.awk_world.specs.declared.world.OutputKind.TheVariants as output
use Rattle.awk_world.specs.declared.world.Mode.{Mode}
use Rattle.awk_world.specs.declared.world.Mode.TheVariants as mode
use Rattle.awk_streams.specs.Oracle.{Source}
use Rattle.awk_grammar.specs.declared.tree.Redirection.{Redirection}
use Rattle.awk_grammar.specs.declared.tree.Redirection.TheVariants as to
use Rattle.awk_semantics.specs.declared.fault.Fault.{Fault}
use Rattle.awk_semantics.specs.declared.halt.Halt.{Halt}
use Rattle.awk_semantics.specs.declared.halt.Halt.TheVariants as halt
use Rattle.awk_kinds.specs.declared.special.Special.{Special}
use Rattle.awk_kinds.specs.declared.special.Special.TheVariants.{Argc, Rs, Filename, Fnr}
use Rattle.awk_kinds.specs.Variables.{name_of, is_refused}
use Rattle.awk_semantics.specs.declared.local.Local.{Local}
use Rattle.awk_semantics.specs.declared.local.Local.TheVariants as local
use Rattle.awk_semantics.specs.definitions.State.{Named, OpensMain, OpensInput, OpensOutput, RecordOfMain, RecordOf, Closes, Flushes, Runs, Ends, Effect, Printed, Requested, Frame, Stream, State, Out, Run, go_on, ◌>>=◌, lift}
use Rattle.awk_semantics.specs.support.Unended.{AreUnended}
use Rattle.awk_semantics.specs.definitions.Operators.{raised}
use Rattle.awk_semantics.specs.definitions.Primitives.{text_in, spend, spend_of, fault_if, number_of, read_field, record_text, set_record, set_current, set_count, store_field, set_field, read_name, put_unless, put_global, put_outside, put_by, put, put_special, count_in, array_number, read_element_at, store_element_at, has_element_at, delete_element_at, clear_array_at, array_length_at, keys_at, read_element, store_element, has_element, delete_element, clear_array, array_length, is_array, keys_in, fill_array_at, fill_array, field_separator, joined_key, check_height, print_bytes, print_line, argument_if, take_argument, is_inside, set_inside, set_status}
use Rattle.awk_semantics.specs.support.Outside.{read_outside}
use Rattle.awk_semantics.specs.definitions.Streams.{rest_in, opened, open_main, note_input, is_input_seen, begin_input, taken, taken_of, take_record, close_main, check_streams, NotReadable, input_granted, ask_input, open_input_unless, open_input, named_taken, named_taken_of, take_named, take_if, next_of, output_granted, ask_output, open_output_unless, open_output, open_file, open_target, is_command, closed_by, close_stream, named_of, streams_named, close_each, close_named, flush_all, flush_named, run_command}
use Rattle.awk_semantics.specs.definitions.BuiltIns.{Argument, locals_of}
use Rattle.awk_value.specs.Values.{num_of}
use Rattle.awk_value.specs.Arrays.{Array, with_pair, with_key, without}
use Rattle.awk_kinds.specs.declared.special.Special.TheVariants.{Ofs}
use Rattle.awk_record.specs.Record.{assignable, with_field}
use Rattle.awk_semantics.specs.definitions.Faults.{of_values, of_record}
use Rattle.awk_semantics.specs.definitions.Primitives.{local_in, with_local, array_in, with_array, elements_from}
use Rattle.awk_semantics.specs.support.Keeps.{kind_of, parameter_of, frame_scope, scope_of}
use Rattle.awk_semantics.proofs.OwnValues.{OwnHalt, Own, of_record_own, assignable_own, count_own, with_field_own, field_own, number_own, raised_own}

pub record PlainAt {A : Type 0} (s : State) (o : Out A) : Type 0 where
  pub own : Own o.result
  pub falls : o.state.steps ≤ s.steps
  pub scope : scope_of o.state ≡ scope_of s
  pub unended : AreUnended o.effects

pub record Plain {A : Type 0} (m : Run A) : Type 0 where
  pub at : (s : State) → PlainAt s (m s)

pub unended_append : (xs ys : List Effect) → AreUnended xs → AreUnended ys → AreUnended (xs ++ ys)
unended_append [] ys h k = k
unended_append (Printed n bytes ∷ xs) ys h k = unended_append xs ys h k
unended_append (Requested (OpensMain kind name) ∷ xs) ys h k = unended_append xs ys h k
unended_append (Requested (OpensInput kind name) ∷ xs) ys h k = unended_append xs ys h k
unended_append (Requested (OpensOutput kind name mode is_granted) ∷ xs) ys h k = unended_append xs ys h k
unended_append (Requested (RecordOfMain separator left) ∷ xs) ys h k = unended_append xs ys h k
unended_append (Requested (RecordOf kind name separator left) ∷ xs) ys h k = unended_append xs ys h k
unended_append (Requested (Closes x) ∷ xs) ys h k = unended_append xs ys h k
unended_append (Requested (Flushes name) ∷ xs) ys h k = unended_append xs ys h k
unended_append (Requested (Runs command) ∷ xs) ys h k = unended_append xs ys h k
unended_append (Requested Ends ∷ xs) ys h k = absurd h

go_at : {A B : Type 0} (f : A → Run B) (s : State) → ((a : A) → Plain (f a)) → (r : Result A Halt) (t : State) (effects : List Effect) → PlainAt s (record { result = r; state = t; effects = effects }) → PlainAt s (go_on r t effects f)
unfolding go_on
go_at f s h (Ok a) t effects p = let q = (h a).at t in record { own = q.own; falls = le_trans q.falls p.falls; scope = q.scope ∙ p.scope; unended = unended_append effects (f a t).effects p.unended q.unended }
go_at f s h (Err e) t effects p = record { own = p.own; falls = p.falls; scope = p.scope; unended = p.unended }

pub then_plain : {A B : Type 0} {m : Run A} (f : A → Run B) → Plain m → ((a : A) → Plain (f a)) → Plain (m >>= f)
unfolding ◌>>=◌
then_plain {m = m} f x h = record { at = λ s. go_at f s h (m s).result (m s).state (m s).effects (x.at s) }

pub lift_plain : {A : Type 0} (r : Result A Halt) → Own r → Plain (lift r)
unfolding lift
lift_plain r own = record { at = λ s. record { own = own; falls = le_refl s.steps; scope = refl; unended = tt } }

pub ret_plain : {A : Type 0} (a : A) → Plain (lift (Ok a))
ret_plain a = lift_plain (Ok a) tt

spend_at : (n : ℕ) (s : State) → s.steps ≡ n → PlainAt s (spend_of n s)
spend_at zero s e = record { own = tt; falls = le_refl s.steps; scope = refl; unended = tt }
spend_at (suc n) s e = record { own = tt; falls = omega arith; scope = refl; unended = tt }

pub spend_plain : Plain spend
unfolding spend
spend_plain = record { at = λ s. spend_at s.steps s refl }

-- an array in the place of another
array_scope : (s : State) (n : ℕ) (array : Array) → scope_of (with_array n array s) ≡ scope_of s
array_scope s n array = ap (λ k. record (scope_of s) { arrays = k }) (length-set s.arrays n array)

-- a parameter that was a value gets another
value_here : (b : Bool) (y : List ℕ × Local) (locals behind : List (List ℕ × Local)) (found : Option Local) (old v : Value) → cond b (Some y.1) found ≡ Some (local.Value old) → (found ≡ Some (local.Value old) → map parameter_of behind ≡ map parameter_of locals) → map parameter_of (cond b ((y.0, local.Value v) ∷ locals) (y ∷ behind)) ≡ parameter_of y ∷ map parameter_of locals
value_here true y locals behind found old v e h = let same : y.1 ≡ local.Value old = cc in ap (λ k. (y.0, k) ∷ map parameter_of locals) (sym (ap kind_of same))
value_here false y locals behind found old v e h = ap (λ l. parameter_of y ∷ l) (h e)

value_kinds : (x : List ℕ) (locals : List (List ℕ × Local)) (old v : Value) → lookup (bytes_eq x) locals ≡ Some (local.Value old) → map parameter_of (set_value (bytes_eq x) locals (local.Value v)) ≡ map parameter_of locals
value_kinds x [] old v e = absurd (cc)
value_kinds x (y ∷ locals) old v e = value_here (bytes_eq x y.0) y locals (set_value (bytes_eq x) locals (local.Value v)) (lookup (bytes_eq x) locals) old v e (value_kinds x locals old v)

local_scope : (x : List ℕ) (old v : Value) (frames : List Frame) → local_in frames x ≡ Some (local.Value old) → map frame_scope (with_local x v frames) ≡ map frame_scope frames
local_scope x old v [] e = absurd (cc)
local_scope x old v (frame ∷ frames) e = ap (λ l. record (frame_scope frame) { locals = l } ∷ map frame_scope frames) (value_kinds x frame.locals old v e)

pub text_plain : Plain record_text
unfolding record_text
text_plain = record { at = λ s. record { own = tt; falls = le_refl s.steps; scope = refl; unended = tt } }

pub set_plain : (text : List ℕ) → Plain (set_record text)
unfolding set_record
set_plain text = record { at = λ s. record { own = tt; falls = le_refl s.steps; scope = refl; unended = tt } }

pub name_plain : (x : List ℕ) → Plain (read_name x)
unfolding read_name
name_plain x = record { at = λ s. record { own = tt; falls = le_refl s.steps; scope = refl; unended = tt } }

pub outside_name_plain : (x : List ℕ) → Plain (read_outside x)
unfolding read_outside
outside_name_plain x = record { at = λ s. record { own = tt; falls = le_refl s.steps; scope = refl; unended = tt } }

pub element_at_plain : (n : ℕ) (key : List ℕ) → Plain (read_element_at n key)
unfolding read_element_at
element_at_plain n key = record { at = λ s. record { own = tt; falls = le_refl s.steps; scope = array_scope s n (with_key (array_in s n) key); unended = tt } }

pub store_element_at_plain : (n : ℕ) (key : List ℕ) (v : Value) → Plain (store_element_at n key v)
unfolding store_element_at
store_element_at_plain n key v = record { at = λ s. record { own = tt; falls = le_refl s.steps; scope = array_scope s n (with_pair (array_in s n) key v); unended = tt } }

pub has_at_plain : (n : ℕ) (key : List ℕ) → Plain (has_element_at n key)
unfolding has_element_at
has_at_plain n key = record { at = λ s. record { own = tt; falls = le_refl s.steps; scope = refl; unended = tt } }

pub delete_at_plain : (n : ℕ) (key : List ℕ) → Plain (delete_element_at n key)
unfolding delete_element_at
delete_at_plain n key = record { at = λ s. record { own = tt; falls = le_refl s.steps; scope = array_scope s n (without (array_in s n) key); unended = tt } }

pub clear_at_plain : (n : ℕ) → Plain (clear_array_at n)
unfolding clear_array_at
clear_at_plain n = record { at = λ s. record { own = tt; falls = le_refl s.steps; scope = array_scope s n []; unended = tt } }

pub length_at_plain : (n : ℕ) → Plain (array_length_at n)
unfolding array_length_at
length_at_plain n = record { at = λ s. record { own = tt; falls = le_refl s.steps; scope = refl; unended = tt } }

pub keys_at_plain : (n : ℕ) → Plain (keys_at n)
unfolding keys_at
keys_at_plain n = record { at = λ s. record { own = tt; falls = le_refl s.steps; scope = refl; unended = tt } }

pub fill_at_plain : (n : ℕ) (texts : List (List ℕ)) → Plain (fill_array_at n texts)
unfolding fill_array_at
fill_at_plain n texts = record { at = λ s. record { own = tt; falls = le_refl s.steps; scope = array_scope s n (elements_from 1 texts); unended = tt } }

pub element_plain : (x key : List ℕ) → Plain (read_element x key)
unfolding read_element
element_plain x key = record { at = λ s. (element_at_plain (array_number s x) key).at s }

pub store_element_plain : (x key : List ℕ) (v : Value) → Plain (store_element x key v)
unfolding store_element
store_element_plain x key v = record { at = λ s. (store_element_at_plain (array_number s x) key v).at s }

pub has_plain : (x key : List ℕ) → Plain (has_element x key)
unfolding has_element
has_plain x key = record { at = λ s. (has_at_plain (array_number s x) key).at s }

pub delete_plain : (x key : List ℕ) → Plain (delete_element x key)
unfolding delete_element
delete_plain x key = record { at = λ s. (delete_at_plain (array_number s x) key).at s }

pub clear_plain : (x : List ℕ) → Plain (clear_array x)
unfolding clear_array
clear_plain x = record { at = λ s. (clear_at_plain (array_number s x)).at s }

pub length_plain : (x : List ℕ) → Plain (array_length x)
unfolding array_length
length_plain x = record { at = λ s. (length_at_plain (array_number s x)).at s }

pub is_array_plain : (x : List ℕ) → Plain (is_array x)
unfolding is_array
is_array_plain x = record { at = λ s. record { own = tt; falls = le_refl s.steps; scope = refl; unended = tt } }

pub keys_plain : (x : List ℕ) → Plain (keys_in x)
unfolding keys_in
keys_plain x = record { at = λ s. (keys_at_plain (array_number s x)).at s }

pub fill_plain : (x : List ℕ) (texts : List (List ℕ)) → Plain (fill_array x texts)
unfolding fill_array
fill_plain x texts = record { at = λ s. (fill_at_plain (array_number s x) texts).at s }

pub separator_plain : Plain field_separator
unfolding field_separator
separator_plain = record { at = λ s. record { own = tt; falls = le_refl s.steps; scope = refl; unended = tt } }

pub key_plain : (vs : List Value) → Plain (joined_key vs)
unfolding joined_key
key_plain vs = record { at = λ s. record { own = tt; falls = le_refl s.steps; scope = refl; unended = tt } }

pub bytes_plain : (n : ℕ) (bytes : List ℕ) → Plain (print_bytes n bytes)
unfolding print_bytes
bytes_plain n bytes = record { at = λ s. record { own = tt; falls = le_refl s.steps; scope = refl; unended = tt } }

pub inside_plain : (n : ℕ) → Plain (is_inside n)
unfolding is_inside
inside_plain n = record { at = λ s. record { own = tt; falls = le_refl s.steps; scope = refl; unended = tt } }

pub set_inside_plain : (n : ℕ) (b : Bool) → Plain (set_inside n b)
unfolding set_inside
set_inside_plain n b = record { at = λ s. record { own = tt; falls = le_refl s.steps; scope = refl; unended = tt } }

pub note_plain : Plain note_input
unfolding note_input
note_plain = record { at = λ s. record { own = tt; falls = le_refl s.steps; scope = refl; unended = tt } }

pub seen_plain : Plain is_input_seen
unfolding is_input_seen
seen_plain = record { at = λ s. record { own = tt; falls = le_refl s.steps; scope = refl; unended = tt } }

pub close_main_plain : Plain close_main
unfolding close_main
close_main_plain = record { at = λ s. record { own = tt; falls = le_refl s.steps; scope = refl; unended = tt } }

pub named_plain : (name : List ℕ) → Plain (streams_named name)
unfolding streams_named
named_plain name = record { at = λ s. record { own = tt; falls = le_refl s.steps; scope = refl; unended = tt } }

pub flush_all_plain : Plain flush_all
unfolding flush_all
flush_all_plain = record { at = λ s. record { own = tt; falls = le_refl s.steps; scope = refl; unended = tt } }

pub flush_named_plain : (name : List ℕ) → Plain (flush_named name)
unfolding flush_named
flush_named_plain name = record { at = λ s. record { own = tt; falls = le_refl s.steps; scope = refl; unended = tt } }

pub run_command_plain : (command : List ℕ) → Plain (run_command command)
unfolding run_command
run_command_plain command = record { at = λ s. record { own = tt; falls = le_refl s.steps; scope = refl; unended = tt } }

pub locals_plain : (arguments : List Argument) → Plain (locals_of arguments)
unfolding locals_of
locals_plain arguments = record { at = λ s. record { own = tt; falls = le_refl s.steps; scope = refl; unended = tt } }

pub fault_if_at : (b : Bool) (f : Fault) (s : State) → OwnHalt (halt.Fault f) → PlainAt s (fault_if b f s)
fault_if_at true f s own = record { own = own; falls = le_refl s.steps; scope = refl; unended = tt }
fault_if_at false f s own = record { own = tt; falls = le_refl s.steps; scope = refl; unended = tt }

pub number_plain : (v : Value) → Plain (number_of v)
number_plain v = lift_plain (of_values (num_of v)) (number_own v)

pub field_plain : (n : ℤ) → Plain (read_field n)
unfolding read_field
field_plain n = record { at = λ s. record { own = field_own s.current n; falls = le_refl s.steps; scope = refl; unended = tt } }

pub current_at : (r : Result RecordPair Halt) (s : State) → Own r → PlainAt s (set_current r s)
current_at (Ok r) s own = record { own = tt; falls = le_refl s.steps; scope = refl; unended = tt }
current_at (Err reason) s own = record { own = own; falls = le_refl s.steps; scope = refl; unended = tt }

pub count_plain : (n : ℤ) → Plain (set_count n)
unfolding set_count
count_plain n = record { at = λ s. current_at _ s (of_record_own _ (count_own (assignable n) (text_in s Ofs) s.current (assignable_own n))) }

field_at : (n : ℤ) (v : Value) (s : State) → PlainAt s (set_current (of_record (with_field (assignable n) v (text_in s Ofs) s.current)) s)
field_at n v s = current_at _ s (of_record_own _ (with_field_own (assignable n) v (text_in s Ofs) s.current (assignable_own n)))

pub store_field_plain : (n : ℤ) (v : Value) → Plain (store_field n v)
unfolding set_record
store_field_plain (pos zero) v = record { at = λ s. record { own = tt; falls = le_refl s.steps; scope = refl; unended = tt } }
store_field_plain (pos (suc n)) v = record { at = λ s. field_at (pos (suc n)) v s }
store_field_plain (negsuc n) v = record { at = λ s. field_at (negsuc n) v s }

pub set_field_plain : (n : ℤ) (v : Value) → Plain (set_field n v)
unfolding set_field
set_field_plain n v = record { at = λ s. (store_field_plain n v).at s }

pub put_at : (refused : Bool) (x : List ℕ) (v : Value) (s : State) → PlainAt s (put_unless refused x v s)
put_at true x v s = record { own = tt; falls = le_refl s.steps; scope = refl; unended = tt }
put_at false x v s = record { own = tt; falls = le_refl s.steps; scope = refl; unended = tt }

pub put_global_plain : (b : Bool) (x : List ℕ) (v : Value) → Plain (put_global b x v)
put_global_plain true x v = record { at = λ s. (then_plain _ (number_plain v) (λ n. count_plain n)).at s }
put_global_plain false x v = record { at = λ s. put_at (is_refused x v) x v s }

pub put_outside_plain : (x : List ℕ) (v : Value) → Plain (put_outside x v)
unfolding put_outside
put_outside_plain x v = record { at = λ s. (put_global_plain (bytes_eq x (codes "NF")) x v).at s }

pub put_by_at : (l : Option Local) (x : List ℕ) (v : Value) (s : State) → local_in s.frames x ≡ l → PlainAt s (put_by l x v s)
put_by_at None x v s e = (put_outside_plain x v).at s
put_by_at (Some (local.Value old)) x v s e = record { own = tt; falls = le_refl s.steps; scope = ap (λ frames. record (scope_of s) { frames = frames }) (local_scope x old v s.frames e); unended = tt }
put_by_at (Some (local.Array n)) x v s e = record { own = tt; falls = le_refl s.steps; scope = refl; unended = tt }

pub put_plain : (x : List ℕ) (v : Value) → Plain (put x v)
unfolding put
put_plain x v = record { at = λ s. put_by_at (local_in s.frames x) x v s refl }

pub put_special_plain : (x : Special) (v : Value) → Plain (put_special x v)
unfolding put_special
put_special_plain x v = record { at = λ s. (put_global_plain false (name_of x) v).at s }

pub count_in_plain : (x : Special) → Plain (count_in x)
unfolding count_in
count_in_plain x = record { at = λ s. (then_plain _ (lift_plain (raised (s.variables (name_of x))) (raised_own (s.variables (name_of x)))) (λ w. put_special_plain x w)).at s }

pub height_plain : (height : ℕ) → Plain (check_height height)
unfolding check_height
height_plain height = record { at = λ s. fault_if_at _ _ s tt }

pub line_plain : (n : ℕ) (vs : List Value) → Plain (print_line n vs)
unfolding print_line print_bytes
line_plain n vs = record { at = λ s. record { own = tt; falls = le_refl s.steps; scope = refl; unended = tt } }

pub argument_if_at : (b : Bool) (s : State) → PlainAt s (argument_if b s)
argument_if_at true s = record { own = tt; falls = le_refl s.steps; scope = refl; unended = tt }
argument_if_at false s = record { own = tt; falls = le_refl s.steps; scope = refl; unended = tt }

pub status_plain : (v : Value) → Plain (set_status v)
unfolding set_status
status_plain v = then_plain _ (number_plain v) (λ n. record { at = λ s. record { own = tt; falls = le_refl s.steps; scope = refl; unended = tt } })

pub argument_plain : Plain take_argument
unfolding take_argument
argument_plain = record { at = λ s. (then_plain (λ n. argument_if (int_lt (pos s.next) n)) (number_plain (s.variables (name_of Argc))) (λ n. record { at = λ t. argument_if_at (int_lt (pos s.next) n) t })).at s }

pub opened_at : (kind : InputKind) (name : List ℕ) (o : Option Source) (s : State) → PlainAt s (opened kind name o s)
opened_at kind name None s = record { own = tt; falls = le_refl s.steps; scope = refl; unended = tt }
opened_at kind name (Some source) s = record { own = tt; falls = le_refl s.steps; scope = refl; unended = tt }

pub open_plain : (kind : InputKind) (name : List ℕ) → Plain (open_main kind name)
unfolding open_main
open_plain kind name = record { at = λ s. opened_at kind name _ s }

pub input_plain : (name : List ℕ) → Plain (begin_input name)
unfolding begin_input
input_plain name = then_plain _ (put_special_plain Filename (value.Input name)) (λ _. then_plain _ (put_special_plain Fnr (value.Number (pos 0))) (λ _. note_plain))

pub taken_at : (c : Cut) (separator : List ℕ) (source : Source) (s : State) → PlainAt s (taken c separator source s)
taken_at (Found first left) separator source s = record { own = tt; falls = le_refl s.steps; scope = refl; unended = tt }
taken_at NoMore separator source s = record { own = tt; falls = le_refl s.steps; scope = refl; unended = tt }
taken_at BrokenOff separator source s = record { own = tt; falls = le_refl s.steps; scope = refl; unended = tt }
taken_at TooLong separator source s = record { own = tt; falls = le_refl s.steps; scope = refl; unended = tt }

pub taken_of_at : (o : Option Source) (separator : List ℕ) (s : State) → PlainAt s (taken_of o separator s)
taken_of_at None separator s = (ret_plain None).at s
taken_of_at (Some source) separator s = taken_at _ separator source s

pub take_plain : Plain take_record
unfolding take_record
take_plain = record { at = λ s. taken_of_at s.main _ s }

pub check_plain : Plain check_streams
unfolding check_streams
check_plain = record { at = λ s. fault_if_at _ _ s tt }

pub input_granted_at : (kind : InputKind) (name : List ℕ) (o : Option Source) (s : State) → PlainAt s (input_granted kind name o s)
input_granted_at kind name None s = record { own = tt; falls = le_refl s.steps; scope = refl; unended = tt }
input_granted_at kind name (Some source) s = record { own = tt; falls = le_refl s.steps; scope = refl; unended = tt }

pub ask_input_plain : (kind : InputKind) (name : List ℕ) → Plain (ask_input kind name)
unfolding ask_input
ask_input_plain kind name = record { at = λ s. input_granted_at kind name _ s }

pub input_unless_plain : (o : Option Source) (kind : InputKind) (name : List ℕ) → Plain (open_input_unless o kind name)
input_unless_plain (Some rest) kind name = ret_plain true
input_unless_plain None kind name = then_plain _ check_plain (λ _. ask_input_plain kind name)

pub open_input_plain : (kind : InputKind) (name : List ℕ) → Plain (open_input kind name)
unfolding open_input
open_input_plain kind name = record { at = λ s. (input_unless_plain _ kind name).at s }

pub named_taken_at : (c : Cut) (kind : InputKind) (name separator : List ℕ) (source : Source) (s : State) → PlainAt s (named_taken c kind name separator source s)
named_taken_at (Found first left) kind name separator source s = record { own = tt; falls = le_refl s.steps; scope = refl; unended = tt }
named_taken_at NoMore kind name separator source s = record { own = tt; falls = le_refl s.steps; scope = refl; unended = tt }
named_taken_at BrokenOff kind name separator source s = record { own = tt; falls = le_refl s.steps; scope = refl; unended = tt }
named_taken_at TooLong kind name separator source s = record { own = tt; falls = le_refl s.steps; scope = refl; unended = tt }

pub named_taken_of_plain : (o : Option Source) (kind : InputKind) (name separator : List ℕ) → Plain (named_taken_of o kind name separator)
named_taken_of_plain None kind name separator = ret_plain NotReadable
named_taken_of_plain (Some source) kind name separator = record { at = λ s. named_taken_at _ kind name separator source s }

pub take_named_plain : (kind : InputKind) (name : List ℕ) → Plain (take_named kind name)
unfolding take_named
take_named_plain kind name = record { at = λ s. (named_taken_of_plain (rest_in s.streams kind name) kind name (text_in s Rs)).at s }

pub take_if_plain : (b : Bool) (kind : InputKind) (name : List ℕ) → Plain (take_if b kind name)
take_if_plain true kind name = take_named_plain kind name
take_if_plain false kind name = ret_plain NotReadable

pub next_of_plain : (kind : InputKind) (name : List ℕ) → Plain (next_of kind name)
unfolding next_of
next_of_plain kind name = then_plain _ (open_input_plain kind name) (λ b. take_if_plain b kind name)

pub output_granted_at : (b : Bool) (kind : OutputKind) (name : List ℕ) (mode : Mode) (s : State) → PlainAt s (output_granted b kind name mode s)
output_granted_at true kind name mode s = record { own = tt; falls = le_refl s.steps; scope = refl; unended = tt }
output_granted_at false kind name mode s = record { own = tt; falls = le_refl s.steps; scope = refl; unended = tt }

pub ask_output_plain : (kind : OutputKind) (name : List ℕ) (mode : Mode) → Plain (ask_output kind name mode)
unfolding ask_output
ask_output_plain kind name mode = record { at = λ s. output_granted_at _ kind name mode s }

pub output_unless_plain : (o : Option ℕ) (kind : OutputKind) (name : List ℕ) (mode : Mode) → Plain (open_output_unless o kind name mode)
output_unless_plain (Some n) kind name mode = ret_plain n
output_unless_plain None kind name mode = then_plain _ check_plain (λ _. ask_output_plain kind name mode)

pub open_output_plain : (kind : OutputKind) (name : List ℕ) (mode : Mode) → Plain (open_output kind name mode)
unfolding open_output
open_output_plain kind name mode = record { at = λ s. (output_unless_plain _ kind name mode).at s }

pub if_plain : {A : Type 0} (b : Bool) {m n : Run A} → Plain m → Plain n → Plain (cond b m n)
if_plain true h k = h
if_plain false h k = k

pub file_plain : (name : List ℕ) (mode : Mode) → Plain (open_file name mode)
file_plain name mode = if_plain (bytes_eq name (codes "/dev/stdout")) (ret_plain 0) (if_plain (bytes_eq name (codes "/dev/stderr")) (ret_plain 1) (open_output_plain output.File name mode))

pub target_plain : (way : Redirection) (name : List ℕ) → Plain (open_target way name)
target_plain to.Truncate name = file_plain name mode.Truncate
target_plain to.Append name = file_plain name mode.Append
target_plain to.Pipe name = open_output_plain output.Command name mode.Truncate

pub closed_by_at : (b : Bool) (x : Named) (s : State) → PlainAt s (closed_by b x s)
closed_by_at true x s = record { own = tt; falls = le_refl s.steps; scope = refl; unended = tt }
closed_by_at false x s = record { own = tt; falls = le_refl s.steps; scope = refl; unended = tt }

pub close_stream_plain : (x : Named) → Plain (close_stream x)
unfolding close_stream
close_stream_plain x = record { at = λ s. closed_by_at (is_command x) x s }

pub close_each_plain : (answer : ℤ) (xs : List Stream) → Plain (close_each answer xs)
close_each_plain answer [] = ret_plain answer
close_each_plain answer (x ∷ xs) = then_plain _ (close_stream_plain (named_of x)) (λ n. close_each_plain n xs)

pub close_named_plain : (name : List ℕ) → Plain (close_named name)
unfolding close_named
close_named_plain name = then_plain _ (named_plain name) (λ xs. close_each_plain (negsuc 0) xs)
