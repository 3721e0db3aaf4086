-- A run of more steps does what a run of less does.
use Rattle.std.proofs.Common.{◌≡◌, ℕ, zero, suc, ◌+◌, Bool, true, false, List, [], ◌∷◌, ◌++◌, Option, Some, None, Result, Ok, Err, pos, negsuc, ℤ, refl, sym, ap, ◌∙◌, append_assoc, append-nil, arith, int_lt, cond, codes, bytes_eq}
use Rattle.awk_value.specs.declared.value.Value.{Value}
use Rattle.awk_value.specs.declared.value.Value.TheVariants as value
use Rattle.awk_record.specs.Cut.{Cut, Found, NoMore, BrokenOff, TooLong}
use Rattle.awk_record.specs.Record.{RecordPair}
use Rattle.awk_world.specs.declared.world.InputKind.{InputKind}
use Rattle.awk_world.specs.declared.world.OutputKind.{OutputKind}
use Rattle.awk_world.specs.declared.world.OutputKind.TheVariants as output
use Rattle.awk_world.specs.declared.world.Mode.{Mode}
use Rattle.awk_world.specs.declared.world.Mode.TheVariants as mode
use Rattle.awk_streams.specs.Oracle.{Source}
use Rattle.awk_grammar.specs.declared.tree.Redirection.{Redirection}
use Rattle.awk_grammar.specs.declared.tree.Redirection.TheVariants as to
use Rattle.awk_semantics.specs.declared.fault.Fault.{Fault}
use Rattle.awk_semantics.specs.declared.halt.Halt.{Halt}
use Rattle.awk_semantics.specs.declared.halt.Halt.TheVariants as halt
use Rattle.awk_kinds.specs.declared.special.Special.{Special}
use Rattle.awk_kinds.specs.declared.special.Special.TheVariants.{Argc, Rs, Filename, Fnr}
use Rattle.awk_kinds.specs.Variables.{name_of, is_refused}
use Rattle.awk_semantics.specs.declared.local.Local.{Local}
use Rattle.awk_semantics.specs.declared.local.Local.TheVariants as local
use Rattle.awk_semantics.specs.definitions.State.{Named, Effect, Frame, Stream, State, Out, Run, go_on, ◌>>=◌, lift}
use Rattle.awk_kinds.specs.definitions.Kinds.{FormalParameter}
use Rattle.awk_semantics.specs.definitions.Operators.{raised}
use Rattle.awk_semantics.specs.definitions.Primitives.{text_in, spend, spend_of, fault_if, number_of, read_field, record_text, set_record, set_current, set_count, store_field, set_field, read_name, put_unless, put_global, put_outside, put_by, put, put_special, count_in, array_number, read_element_at, store_element_at, has_element_at, delete_element_at, clear_array_at, array_length_at, keys_at, read_element, store_element, has_element, delete_element, clear_array, array_length, is_array, keys_in, fill_array_at, fill_array, field_separator, joined_key, check_height, enter, without_call, leave, print_bytes, print_line, argument_if, take_argument, is_inside, set_inside, set_status}
use Rattle.awk_semantics.specs.support.Outside.{read_outside}
use Rattle.awk_semantics.specs.definitions.Streams.{rest_in, opened, open_main, note_input, is_input_seen, begin_input, taken, taken_of, take_record, close_main, check_streams, NotReadable, input_granted, ask_input, open_input_unless, open_input, named_taken, named_taken_of, take_named, take_if, next_of, output_granted, ask_output, open_output_unless, open_output, open_file, open_target, is_command, closed_by, close_stream, named_of, streams_named, close_each, close_named, flush_all, flush_named, run_command}
use Rattle.awk_semantics.specs.definitions.BuiltIns.{Argument, locals_of}

abbrev pub richer_state : ℕ → State → State
richer_state d s = record s { steps = s.steps + d }

abbrev pub richer : {A : Type 0} → ℕ → Out A → Out A
richer d o = record { result = o.result; state = richer_state d o.state; effects = o.effects }

-- y shows what x shows, and perhaps more
pub record Shows {A : Type 0} (x y : Out A) : Type 0 where
  pub more : List Effect
  pub is : y.effects ≡ x.effects ++ more

-- what stopped for want of steps is shown with d more; anything else is the same
abbrev pub Covers : {A : Type 0} → Result A Halt → ℕ → Out A → Out A → Type 0
Covers (Ok a) d x y = y ≡ richer d x
Covers (Err (halt.Fault f)) d x y = y ≡ richer d x
Covers (Err halt.Next) d x y = y ≡ richer d x
Covers (Err halt.Exit) d x y = y ≡ richer d x
Covers (Err halt.OutOfSteps) d x y = Shows x y

pub record Larger {A : Type 0} (m n : Run A) : Type 0 where
  pub covers : (s : State) (d : ℕ) → Covers (m s).result d (m s) (n (richer_state d s))

pub goes_shows : {A B : Type 0} (r : Result A Halt) (t : State) (effects more : List Effect) (g : A → Run B) (x : Out B) → x.effects ≡ effects → Shows x (go_on r t (effects ++ more) g)
unfolding go_on
goes_shows (Ok a) t effects more g x e = record { more = more ++ (g a t).effects; is = append_assoc effects more (g a t).effects ∙ ap (λ l. l ++ (more ++ (g a t).effects)) (sym e) }
goes_shows (Err h) t effects more g x e = record { more = more; is = ap (λ l. l ++ more) (sym e) }

pub shift_covers : {B : Type 0} (r : Result B Halt) (d : ℕ) (effects : List Effect) (x y : Out B) → Covers r d x y → Covers r d (record { result = x.result; state = x.state; effects = effects ++ x.effects }) (record { result = y.result; state = y.state; effects = effects ++ y.effects })
shift_covers (Ok a) d effects x y c = ap (λ (o : Out _). record { result = o.result; state = o.state; effects = effects ++ o.effects }) c
shift_covers (Err (halt.Fault f)) d effects x y c = ap (λ (o : Out _). record { result = o.result; state = o.state; effects = effects ++ o.effects }) c
shift_covers (Err halt.Next) d effects x y c = ap (λ (o : Out _). record { result = o.result; state = o.state; effects = effects ++ o.effects }) c
shift_covers (Err halt.Exit) d effects x y c = ap (λ (o : Out _). record { result = o.result; state = o.state; effects = effects ++ o.effects }) c
shift_covers (Err halt.OutOfSteps) d effects x y c = record { more = c.more; is = ap (λ l. effects ++ l) c.is ∙ sym (append_assoc effects x.effects c.more) }

pub go_covers : {A B : Type 0} (f g : A → Run B) → ((a : A) → Larger (f a) (g a)) → (d : ℕ) (r : Result A Halt) (t : State) (effects : List Effect) (y : Out A) → Covers r d (record { result = r; state = t; effects = effects }) y → Covers (go_on r t effects f).result d (go_on r t effects f) (go_on y.result y.state y.effects g)
unfolding go_on
go_covers f g h d (Ok a) t effects y c = rw c (shift_covers (f a t).result d effects (f a t) (g a (richer_state d t)) ((h a).covers t d))
go_covers f g h d (Err (halt.Fault n)) t effects y c = rw c refl
go_covers f g h d (Err halt.Next) t effects y c = rw c refl
go_covers f g h d (Err halt.Exit) t effects y c = rw c refl
go_covers f g h d (Err halt.OutOfSteps) t effects y c = rw c.is (goes_shows y.result y.state effects c.more g (record { result = Err halt.OutOfSteps; state = t; effects = effects }) refl)

pub then_larger : {A B : Type 0} {m n : Run A} (f g : A → Run B) → Larger m n → ((a : A) → Larger (f a) (g a)) → Larger (m >>= f) (n >>= g)
unfolding ◌>>=◌
then_larger {m = m} {n = n} f g x h = record { covers = λ s d. go_covers f g h d (m s).result (m s).state (m s).effects (n (richer_state d s)) (x.covers s d) }

pub steps_larger : {A : Type 0} (n : Run A) → Larger (lift (Err halt.OutOfSteps)) n
unfolding lift
steps_larger n = record { covers = λ s d. record { more = (n (richer_state d s)).effects; is = refl } }

pub lift_larger : {A : Type 0} (r : Result A Halt) → Larger (lift r) (lift r)
unfolding lift
lift_larger (Ok a) = record { covers = λ s d. refl }
lift_larger (Err (halt.Fault f)) = record { covers = λ s d. refl }
lift_larger (Err halt.Next) = record { covers = λ s d. refl }
lift_larger (Err halt.Exit) = record { covers = λ s d. refl }
lift_larger (Err halt.OutOfSteps) = steps_larger (lift (Err halt.OutOfSteps))

-- a result that a state has, whatever its steps
pub same_covers : {A : Type 0} (r : Result A Halt) (t : State) (effects : List Effect) (d : ℕ) → Covers r d (record { result = r; state = t; effects = effects }) (record { result = r; state = richer_state d t; effects = effects })
same_covers (Ok a) t effects d = refl
same_covers (Err (halt.Fault f)) t effects d = refl
same_covers (Err halt.Next) t effects d = refl
same_covers (Err halt.Exit) t effects d = refl
same_covers (Err halt.OutOfSteps) t effects d = record { more = []; is = sym (append-nil effects) }

pub spend_covers : (n : ℕ) (s : State) (d : ℕ) → Covers (spend_of n s).result d (spend_of n s) (spend_of (n + d) (richer_state d s))
spend_covers zero s d = record { more = (spend_of (0 + d) (richer_state d s)).effects; is = refl }
spend_covers (suc n) s d = let e : suc n + d ≡ suc (n + d) = omega arith in rw e refl

pub spend_larger : Larger spend spend
unfolding spend
spend_larger = record { covers = λ s d. spend_covers s.steps s d }

-- a result and a state that don't look at the steps
pub text_larger : Larger record_text record_text
unfolding record_text
text_larger = record { covers = λ s d. refl }

pub set_larger : (text : List ℕ) → Larger (set_record text) (set_record text)
unfolding set_record
set_larger text = record { covers = λ s d. refl }

pub name_larger : (x : List ℕ) → Larger (read_name x) (read_name x)
unfolding read_name
name_larger x = record { covers = λ s d. refl }

pub outside_name_larger : (x : List ℕ) → Larger (read_outside x) (read_outside x)
unfolding read_outside
outside_name_larger x = record { covers = λ s d. refl }

pub element_at_larger : (n : ℕ) (key : List ℕ) → Larger (read_element_at n key) (read_element_at n key)
unfolding read_element_at
element_at_larger n key = record { covers = λ s d. refl }

pub store_element_at_larger : (n : ℕ) (key : List ℕ) (v : Value) → Larger (store_element_at n key v) (store_element_at n key v)
unfolding store_element_at
store_element_at_larger n key v = record { covers = λ s d. refl }

pub has_at_larger : (n : ℕ) (key : List ℕ) → Larger (has_element_at n key) (has_element_at n key)
unfolding has_element_at
has_at_larger n key = record { covers = λ s d. refl }

pub delete_at_larger : (n : ℕ) (key : List ℕ) → Larger (delete_element_at n key) (delete_element_at n key)
unfolding delete_element_at
delete_at_larger n key = record { covers = λ s d. refl }

pub clear_at_larger : (n : ℕ) → Larger (clear_array_at n) (clear_array_at n)
unfolding clear_array_at
clear_at_larger n = record { covers = λ s d. refl }

pub length_at_larger : (n : ℕ) → Larger (array_length_at n) (array_length_at n)
unfolding array_length_at
length_at_larger n = record { covers = λ s d. refl }

pub keys_at_larger : (n : ℕ) → Larger (keys_at n) (keys_at n)
unfolding keys_at
keys_at_larger n = record { covers = λ s d. refl }

pub fill_at_larger : (n : ℕ) (texts : List (List ℕ)) → Larger (fill_array_at n texts) (fill_array_at n texts)
unfolding fill_array_at
fill_at_larger n texts = record { covers = λ s d. refl }

pub element_larger : (x key : List ℕ) → Larger (read_element x key) (read_element x key)
unfolding read_element
element_larger x key = record { covers = λ s d. (element_at_larger (array_number s x) key).covers s d }

pub store_element_larger : (x key : List ℕ) (v : Value) → Larger (store_element x key v) (store_element x key v)
unfolding store_element
store_element_larger x key v = record { covers = λ s d. (store_element_at_larger (array_number s x) key v).covers s d }

pub has_larger : (x key : List ℕ) → Larger (has_element x key) (has_element x key)
unfolding has_element
has_larger x key = record { covers = λ s d. (has_at_larger (array_number s x) key).covers s d }

pub delete_larger : (x key : List ℕ) → Larger (delete_element x key) (delete_element x key)
unfolding delete_element
delete_larger x key = record { covers = λ s d. (delete_at_larger (array_number s x) key).covers s d }

pub clear_larger : (x : List ℕ) → Larger (clear_array x) (clear_array x)
unfolding clear_array
clear_larger x = record { covers = λ s d. (clear_at_larger (array_number s x)).covers s d }

pub length_larger : (x : List ℕ) → Larger (array_length x) (array_length x)
unfolding array_length
length_larger x = record { covers = λ s d. (length_at_larger (array_number s x)).covers s d }

pub is_array_larger : (x : List ℕ) → Larger (is_array x) (is_array x)
unfolding is_array
is_array_larger x = record { covers = λ s d. refl }

pub keys_larger : (x : List ℕ) → Larger (keys_in x) (keys_in x)
unfolding keys_in
keys_larger x = record { covers = λ s d. (keys_at_larger (array_number s x)).covers s d }

pub fill_larger : (x : List ℕ) (texts : List (List ℕ)) → Larger (fill_array x texts) (fill_array x texts)
unfolding fill_array
fill_larger x texts = record { covers = λ s d. (fill_at_larger (array_number s x) texts).covers s d }

pub separator_larger : Larger field_separator field_separator
unfolding field_separator
separator_larger = record { covers = λ s d. refl }

pub key_larger : (vs : List Value) → Larger (joined_key vs) (joined_key vs)
unfolding joined_key
key_larger vs = record { covers = λ s d. refl }

pub enter_larger : (ps : List FormalParameter) (height : ℕ) (given : List Local) → Larger (enter ps height given) (enter ps height given)
unfolding enter
enter_larger ps height given = record { covers = λ s d. refl }

pub bytes_larger : (n : ℕ) (bytes : List ℕ) → Larger (print_bytes n bytes) (print_bytes n bytes)
unfolding print_bytes
bytes_larger n bytes = record { covers = λ s d. refl }

pub inside_larger : (n : ℕ) → Larger (is_inside n) (is_inside n)
unfolding is_inside
inside_larger n = record { covers = λ s d. refl }

pub set_inside_larger : (n : ℕ) (b : Bool) → Larger (set_inside n b) (set_inside n b)
unfolding set_inside
set_inside_larger n b = record { covers = λ s d. refl }

pub note_larger : Larger note_input note_input
unfolding note_input
note_larger = record { covers = λ s d. refl }

pub seen_larger : Larger is_input_seen is_input_seen
unfolding is_input_seen
seen_larger = record { covers = λ s d. refl }

pub close_main_larger : Larger close_main close_main
unfolding close_main
close_main_larger = record { covers = λ s d. refl }

pub named_larger : (name : List ℕ) → Larger (streams_named name) (streams_named name)
unfolding streams_named
named_larger name = record { covers = λ s d. refl }

pub flush_all_larger : Larger flush_all flush_all
unfolding flush_all
flush_all_larger = record { covers = λ s d. refl }

pub flush_named_larger : (name : List ℕ) → Larger (flush_named name) (flush_named name)
unfolding flush_named
flush_named_larger name = record { covers = λ s d. refl }

pub run_command_larger : (command : List ℕ) → Larger (run_command command) (run_command command)
unfolding run_command
run_command_larger command = record { covers = λ s d. refl }

pub locals_larger : (arguments : List Argument) → Larger (locals_of arguments) (locals_of arguments)
unfolding locals_of
locals_larger arguments = record { covers = λ s d. refl }

pub fault_if_covers : (b : Bool) (f : Fault) (s : State) (d : ℕ) → Covers (fault_if b f s).result d (fault_if b f s) (fault_if b f (richer_state d s))
fault_if_covers true f s d = refl
fault_if_covers false f s d = refl

pub number_larger : (v : Value) → Larger (number_of v) (number_of v)
number_larger v = lift_larger _

pub field_larger : (n : ℤ) → Larger (read_field n) (read_field n)
unfolding read_field
field_larger n = record { covers = λ s d. same_covers _ s [] d }

pub current_covers : (r : Result RecordPair Halt) (s : State) (d : ℕ) → Covers (set_current r s).result d (set_current r s) (set_current r (richer_state d s))
current_covers (Ok r) s d = refl
current_covers (Err reason) s d = same_covers (Err reason) s [] d

pub count_larger : (n : ℤ) → Larger (set_count n) (set_count n)
unfolding set_count
count_larger n = record { covers = λ s d. current_covers _ s d }

pub store_field_larger : (n : ℤ) (v : Value) → Larger (store_field n v) (store_field n v)
unfolding set_record
store_field_larger (pos zero) v = record { covers = λ s d. refl }
store_field_larger (pos (suc n)) v = record { covers = λ s d. current_covers _ s d }
store_field_larger (negsuc n) v = record { covers = λ s d. refl }

pub set_field_larger : (n : ℤ) (v : Value) → Larger (set_field n v) (set_field n v)
unfolding set_field
set_field_larger n v = record { covers = λ s d. (store_field_larger n v).covers s d }

pub put_covers : (refused : Bool) (x : List ℕ) (v : Value) (s : State) (d : ℕ) → Covers (put_unless refused x v s).result d (put_unless refused x v s) (put_unless refused x v (richer_state d s))
put_covers true x v s d = refl
put_covers false x v s d = refl

pub put_global_larger : (b : Bool) (x : List ℕ) (v : Value) → Larger (put_global b x v) (put_global b x v)
put_global_larger true x v = record { covers = λ s d. (then_larger _ _ (number_larger v) (λ n. count_larger n)).covers s d }
put_global_larger false x v = record { covers = λ s d. put_covers (is_refused x v) x v s d }

pub put_outside_larger : (x : List ℕ) (v : Value) → Larger (put_outside x v) (put_outside x v)
unfolding put_outside
put_outside_larger x v = record { covers = λ s d. (put_global_larger (bytes_eq x (codes "NF")) x v).covers s d }

pub put_by_covers : (l : Option Local) (x : List ℕ) (v : Value) (s : State) (d : ℕ) → Covers (put_by l x v s).result d (put_by l x v s) (put_by l x v (richer_state d s))
put_by_covers None x v s d = (put_outside_larger x v).covers s d
put_by_covers (Some (local.Value old)) x v s d = refl
put_by_covers (Some (local.Array n)) x v s d = refl

pub put_larger : (x : List ℕ) (v : Value) → Larger (put x v) (put x v)
unfolding put
put_larger x v = record { covers = λ s d. put_by_covers _ x v s d }

pub put_special_larger : (x : Special) (v : Value) → Larger (put_special x v) (put_special x v)
unfolding put_special
put_special_larger x v = record { covers = λ s d. (put_global_larger false (name_of x) v).covers s d }

pub count_in_larger : (x : Special) → Larger (count_in x) (count_in x)
unfolding count_in
count_in_larger x = record { covers = λ s d. (then_larger _ _ (lift_larger (raised (s.variables (name_of x)))) (λ w. put_special_larger x w)).covers s d }

pub height_larger : (height : ℕ) → Larger (check_height height) (check_height height)
unfolding check_height
height_larger height = record { covers = λ s d. fault_if_covers _ _ s d }

pub leave_covers : (frames : List Frame) (s : State) (d : ℕ) → richer_state d (without_call frames s) ≡ without_call frames (richer_state d s)
leave_covers [] s d = refl
leave_covers (frame ∷ frames) s d = refl

pub leave_larger : Larger leave leave
unfolding leave
leave_larger = record { covers = λ s d. ap (λ t. record { result = Ok tt; state = t; effects = [] }) (sym (leave_covers s.frames s d)) }

pub line_larger : (n : ℕ) (vs : List Value) → Larger (print_line n vs) (print_line n vs)
unfolding print_line print_bytes
line_larger n vs = record { covers = λ s d. refl }

pub argument_if_covers : (b : Bool) (s : State) (d : ℕ) → Covers (argument_if b s).result d (argument_if b s) (argument_if b (richer_state d s))
argument_if_covers true s d = refl
argument_if_covers false s d = refl

pub status_larger : (v : Value) → Larger (set_status v) (set_status v)
unfolding set_status
status_larger v = then_larger _ _ (number_larger v) (λ n. record { covers = λ s d. refl })

pub argument_larger : Larger take_argument take_argument
unfolding take_argument
argument_larger = record { covers = λ s d. (then_larger (λ n. argument_if (int_lt (pos s.next) n)) (λ n. argument_if (int_lt (pos s.next) n)) (number_larger (s.variables (name_of Argc))) (λ n. record { covers = λ t e. argument_if_covers (int_lt (pos s.next) n) t e })).covers s d }

pub opened_covers : (kind : InputKind) (name : List ℕ) (o : Option Source) (s : State) (d : ℕ) → Covers (opened kind name o s).result d (opened kind name o s) (opened kind name o (richer_state d s))
opened_covers kind name None s d = refl
opened_covers kind name (Some source) s d = refl

pub open_larger : (kind : InputKind) (name : List ℕ) → Larger (open_main kind name) (open_main kind name)
unfolding open_main
open_larger kind name = record { covers = λ s d. opened_covers kind name _ s d }

pub input_larger : (name : List ℕ) → Larger (begin_input name) (begin_input name)
unfolding begin_input
input_larger name = then_larger _ _ (put_special_larger Filename (value.Input name)) (λ _. then_larger _ _ (put_special_larger Fnr (value.Number (pos 0))) (λ _. note_larger))

pub taken_covers : (c : Cut) (separator : List ℕ) (source : Source) (s : State) (d : ℕ) → Covers (taken c separator source s).result d (taken c separator source s) (taken c separator source (richer_state d s))
taken_covers (Found first left) separator source s d = refl
taken_covers NoMore separator source s d = refl
taken_covers BrokenOff separator source s d = refl
taken_covers TooLong separator source s d = refl

pub taken_of_covers : (o : Option Source) (separator : List ℕ) (s : State) (d : ℕ) → Covers (taken_of o separator s).result d (taken_of o separator s) (taken_of o separator (richer_state d s))
taken_of_covers None separator s d = (lift_larger (Ok None)).covers s d
taken_of_covers (Some source) separator s d = taken_covers _ separator source s d

pub take_larger : Larger take_record take_record
unfolding take_record
take_larger = record { covers = λ s d. taken_of_covers s.main _ s d }

pub check_larger : Larger check_streams check_streams
unfolding check_streams
check_larger = record { covers = λ s d. fault_if_covers _ _ s d }

pub input_granted_covers : (kind : InputKind) (name : List ℕ) (o : Option Source) (s : State) (d : ℕ) → Covers (input_granted kind name o s).result d (input_granted kind name o s) (input_granted kind name o (richer_state d s))
input_granted_covers kind name None s d = refl
input_granted_covers kind name (Some source) s d = refl

pub ask_input_larger : (kind : InputKind) (name : List ℕ) → Larger (ask_input kind name) (ask_input kind name)
unfolding ask_input
ask_input_larger kind name = record { covers = λ s d. input_granted_covers kind name _ s d }

pub input_unless_larger : (o : Option Source) (kind : InputKind) (name : List ℕ) → Larger (open_input_unless o kind name) (open_input_unless o kind name)
input_unless_larger (Some rest) kind name = lift_larger (Ok true)
input_unless_larger None kind name = then_larger _ _ check_larger (λ _. ask_input_larger kind name)

pub open_input_larger : (kind : InputKind) (name : List ℕ) → Larger (open_input kind name) (open_input kind name)
unfolding open_input
open_input_larger kind name = record { covers = λ s d. (input_unless_larger _ kind name).covers s d }

pub named_taken_covers : (c : Cut) (kind : InputKind) (name separator : List ℕ) (source : Source) (s : State) (d : ℕ) → Covers (named_taken c kind name separator source s).result d (named_taken c kind name separator source s) (named_taken c kind name separator source (richer_state d s))
named_taken_covers (Found first left) kind name separator source s d = refl
named_taken_covers NoMore kind name separator source s d = refl
named_taken_covers BrokenOff kind name separator source s d = refl
named_taken_covers TooLong kind name separator source s d = refl

pub named_taken_of_larger : (o : Option Source) (kind : InputKind) (name separator : List ℕ) → Larger (named_taken_of o kind name separator) (named_taken_of o kind name separator)
named_taken_of_larger None kind name separator = lift_larger (Ok NotReadable)
named_taken_of_larger (Some source) kind name separator = record { covers = λ s d. named_taken_covers _ kind name separator source s d }

pub take_named_larger : (kind : InputKind) (name : List ℕ) → Larger (take_named kind name) (take_named kind name)
unfolding take_named
take_named_larger kind name = record { covers = λ s d. (named_taken_of_larger (rest_in s.streams kind name) kind name (text_in s Rs)).covers s d }

pub take_if_larger : (b : Bool) (kind : InputKind) (name : List ℕ) → Larger (take_if b kind name) (take_if b kind name)
take_if_larger true kind name = take_named_larger kind name
take_if_larger false kind name = lift_larger (Ok NotReadable)

pub next_of_larger : (kind : InputKind) (name : List ℕ) → Larger (next_of kind name) (next_of kind name)
unfolding next_of
next_of_larger kind name = then_larger _ _ (open_input_larger kind name) (λ b. take_if_larger b kind name)

pub output_granted_covers : (b : Bool) (kind : OutputKind) (name : List ℕ) (mode : Mode) (s : State) (d : ℕ) → Covers (output_granted b kind name mode s).result d (output_granted b kind name mode s) (output_granted b kind name mode (richer_state d s))
output_granted_covers true kind name mode s d = refl
output_granted_covers false kind name mode s d = refl

pub ask_output_larger : (kind : OutputKind) (name : List ℕ) (mode : Mode) → Larger (ask_output kind name mode) (ask_output kind name mode)
unfolding ask_output
ask_output_larger kind name mode = record { covers = λ s d. output_granted_covers _ kind name mode s d }

pub output_unless_larger : (o : Option ℕ) (kind : OutputKind) (name : List ℕ) (mode : Mode) → Larger (open_output_unless o kind name mode) (open_output_unless o kind name mode)
output_unless_larger (Some n) kind name mode = lift_larger (Ok n)
output_unless_larger None kind name mode = then_larger _ _ check_larger (λ _. ask_output_larger kind name mode)

pub open_output_larger : (kind : OutputKind) (name : List ℕ) (mode : Mode) → Larger (open_output kind name mode) (open_output kind name mode)
unfolding open_output
open_output_larger kind name mode = record { covers = λ s d. (output_unless_larger _ kind name mode).covers s d }

pub if_larger : {A : Type 0} (b : Bool) {m n : Run A} → Larger m m → Larger n n → Larger (cond b m n) (cond b m n)
if_larger true h k = h
if_larger false h k = k

pub file_larger : (name : List ℕ) (mode : Mode) → Larger (open_file name mode) (open_file name mode)
file_larger name mode = if_larger (bytes_eq name (codes "/dev/stdout")) (lift_larger (Ok 0)) (if_larger (bytes_eq name (codes "/dev/stderr")) (lift_larger (Ok 1)) (open_output_larger output.File name mode))

pub target_larger : (way : Redirection) (name : List ℕ) → Larger (open_target way name) (open_target way name)
target_larger to.Truncate name = file_larger name mode.Truncate
target_larger to.Append name = file_larger name mode.Append
target_larger to.Pipe name = open_output_larger output.Command name mode.Truncate

pub closed_by_covers : (b : Bool) (x : Named) (s : State) (d : ℕ) → Covers (closed_by b x s).result d (closed_by b x s) (closed_by b x (richer_state d s))
closed_by_covers true x s d = refl
closed_by_covers false x s d = refl

pub close_stream_larger : (x : Named) → Larger (close_stream x) (close_stream x)
unfolding close_stream
close_stream_larger x = record { covers = λ s d. closed_by_covers (is_command x) x s d }

pub close_each_larger : (answer : ℤ) (xs : List Stream) → Larger (close_each answer xs) (close_each answer xs)
close_each_larger answer [] = lift_larger (Ok answer)
close_each_larger answer (x ∷ xs) = then_larger _ _ (close_stream_larger (named_of x)) (λ n. close_each_larger n xs)

pub close_named_larger : (name : List ℕ) → Larger (close_named name) (close_named name)
unfolding close_named
close_named_larger name = then_larger _ _ (named_larger name) (λ xs. close_each_larger (negsuc 0) xs)
