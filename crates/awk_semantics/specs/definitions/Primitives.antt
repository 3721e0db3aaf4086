-- The primitives of a run: all that looks into its state, but for streams.
use Rattle.std.specs.Prelude.{ℕ, zero, suc, ◌+◌, ◌==◌, nat_lt, pos, ℤ, int_lt, Bool, true, false, List, [], ◌∷◌, ◌++◌, length, map, take, slice_get, slice_set, Option, Some, None, is_some, unwrap_or, Result, Ok, Err, codes, bytes_eq, if◌then◌else◌}
use Rattle.std.specs.Fmt.{signed_decimal}
use Rattle.std.specs.Map.{keys_of, lookup, set_value}
use Rattle.awk_text.specs.definitions.Separators.{Rule, Separator, separator_by}
use Rattle.awk_value.specs.declared.value.Value.{Value}
use Rattle.awk_value.specs.declared.value.Value.TheVariants as value
use Rattle.awk_value.specs.Values.{num_of, str_of}
use Rattle.awk_value.specs.Arrays.{Array, value_at, with_pair, with_key, without}
use Rattle.awk_record.specs.Record.{RecordPair, split_by, field_of, assignable, with_count, with_field}
use Rattle.awk_kinds.specs.declared.special.Special.{Special}
use Rattle.awk_kinds.specs.declared.special.Special.TheVariants.{Argc, Fs, Ofs, Ors, Rs, Subsep}
use Rattle.awk_kinds.specs.Names.{has_name}
use Rattle.awk_kinds.specs.Variables.{name_of, with_value, is_refused}
use Rattle.awk_text.specs.Formatted.{formatted}
use Rattle.awk_semantics.specs.declared.fault.Fault.{Fault}
use Rattle.awk_semantics.specs.declared.fault.Fault.TheVariants as fault
use Rattle.awk_semantics.specs.declared.halt.Halt.{Halt}
use Rattle.awk_semantics.specs.declared.halt.Halt.TheVariants as halt
use Rattle.awk_semantics.specs.declared.local.Local.{Local}
use Rattle.awk_semantics.specs.declared.local.Local.TheVariants as local
use Rattle.awk_semantics.specs.definitions.Faults.{of_values, of_record}
use Rattle.awk_semantics.specs.definitions.State.{Printed, Frame, State, Run, ◌>>=◌, lift, gives, ends}
use Rattle.awk_semantics.specs.definitions.Operators.{exit_status, raised, line_of, join}
use Rattle.awk_semantics.specs.definitions.Texts.{of_format}
use Rattle.awk_kinds.specs.definitions.Kinds.{FormalParameter}

-- a step is spent, or there is none left
abbrev pub spend_of : ℕ → Run (Unit {0})
spend_of zero s = ends halt.OutOfSteps s
spend_of (suc n) s = gives tt (record s { steps = n })

unfoldable pub spend : Run (Unit {0})
spend s = spend_of s.steps s

abbrev pub fault_if : Bool → Fault → Run (Unit {0})
fault_if true f s = ends (halt.Fault f) s
fault_if false f s = gives tt s

-- the number of a value
abbrev pub number_of : Value → Run ℤ
number_of v = lift (of_values (num_of v))

-- the record

-- the text of a variable of awk's own
abbrev pub text_in : State → Special → List ℕ
text_in s x = str_of (s.variables (name_of x))

-- the field with this number; `$0` is the text (POSIX awk, Variables and Special Variables)
unfoldable pub read_field : ℤ → Run Value
read_field n s = record { result = of_record (field_of s.current n); state = s; effects = [] }

-- the text of the record
unfoldable pub record_text : Run Value
record_text s = gives (value.Input s.current.text) s

-- what separates fields now: what FS stands for, and newlines too where RS is empty
abbrev pub rule_of : State → Rule
rule_of s = record { text = text_in s Fs; newline_too = length (text_in s Rs) == 0 }

-- the record at hand is this text, with the fields that are separated by the FS and RS of this moment
unfoldable pub set_record : List ℕ → Run (Unit {0})
set_record text s = gives tt (record s { current = split_by (rule_of s) text })

abbrev pub set_current : Result RecordPair Halt → Run (Unit {0})
set_current (Ok r) s = gives tt (record s { current = r })
set_current (Err reason) s = ends reason s

-- the record has so many fields, joined by the OFS of this moment
unfoldable pub set_count : ℤ → Run (Unit {0})
set_count n s = set_current (of_record (with_count (assignable n) (text_in s Ofs) s.current)) s

-- a field gets a value, and the record the text that its fields make by the OFS of this moment; `$0` is the whole record
abbrev pub store_field : ℤ → Value → Run (Unit {0})
store_field (pos zero) v s = set_record (str_of v) s
store_field n v s = set_current (of_record (with_field (assignable n) v (text_in s Ofs) s.current)) s

unfoldable pub set_field : ℤ → Value → Run (Unit {0})
set_field n v s = store_field n v s

-- names

-- what a name stands for in the call that is run, if it is a parameter there
abbrev pub local_in : List Frame → List ℕ → Option Local
local_in [] x = None
local_in (frame ∷ frames) x = lookup (bytes_eq x) frame.locals

-- the value of a name of the whole program; NF is the number of fields
abbrev pub global_value : State → List ℕ → Value
global_value s x = if bytes_eq x (codes "NF") then value.Number (pos (length s.current.fields)) else s.variables x

abbrev pub local_value : Option Local → Value → Value
local_value None global = global
local_value (Some (local.Value v)) global = v
local_value (Some (local.Array n)) global = value.Nothing

unfoldable pub read_name : List ℕ → Run Value
read_name x s = gives (local_value (local_in s.frames x) (global_value s x)) s

abbrev pub with_variable : List ℕ → Value → State → State
with_variable x v s = record s { variables = with_value s.variables x v }

-- FS gets no text that separates nothing
abbrev pub put_unless : Bool → List ℕ → Value → Run (Unit {0})
put_unless true x v s = ends (halt.Fault fault.PatternRefused) s
put_unless false x v s = gives tt (with_variable x v s)

abbrev pub put_global : (is_count : Bool) → List ℕ → Value → Run (Unit {0})
put_global true x v s = (number_of v >>= λ n. set_count n) s
put_global false x v s = put_unless (is_refused x v) x v s

-- a name of the whole program gets a value, also where a parameter of a call has that name
unfoldable pub put_outside : List ℕ → Value → Run (Unit {0})
put_outside x v s = put_global (bytes_eq x (codes "NF")) x v s

abbrev pub with_local : List ℕ → Value → List Frame → List Frame
with_local x v [] = []
with_local x v (frame ∷ frames) = record frame { locals = set_value (bytes_eq x) frame.locals (local.Value v) } ∷ frames

abbrev pub put_by : Option Local → List ℕ → Value → Run (Unit {0})
put_by None x v s = put_outside x v s
put_by (Some (local.Value old)) x v s = gives tt (record s { frames = with_local x v s.frames })
put_by (Some (local.Array n)) x v s = gives tt s

-- a name gets a value: a parameter in its call alone, where it is no array; NF makes the record anew
unfoldable pub put : List ℕ → Value → Run (Unit {0})
put x v s = put_by (local_in s.frames x) x v s

-- a variable of awk's own gets a value
unfoldable pub put_special : Special → Value → Run (Unit {0})
put_special x v s = put_global false (name_of x) v s

-- a count becomes its number and 1
unfoldable pub count_in : Special → Run (Unit {0})
count_in x s = (lift (raised (s.variables (name_of x))) >>= λ w. put_special x w) s

-- arrays

-- the number of a name of the whole program among the arrays
abbrev pub number_in : List (List ℕ) → List ℕ → ℕ
number_in [] x = 0
number_in (y ∷ ys) x = if bytes_eq x y then 0 else suc (number_in ys x)

abbrev pub local_number : Option Local → ℕ → ℕ
local_number None global = global
local_number (Some (local.Array n)) global = n
local_number (Some (local.Value v)) global = 0

-- the array that a name stands for, by its number
abbrev pub array_number : State → List ℕ → ℕ
array_number s x = local_number (local_in s.frames x) (number_in s.array_names x)

abbrev pub is_local_array : Option Local → (global : Bool) → Bool
is_local_array None global = global
is_local_array (Some (local.Array n)) global = true
is_local_array (Some (local.Value v)) global = false

-- whether a name stands for an array
unfoldable pub is_array : List ℕ → Run Bool
is_array x s = gives (is_local_array (local_in s.frames x) (has_name s.array_names x)) s

abbrev pub array_in : State → ℕ → Array
array_in s n = unwrap_or (slice_get s.arrays n) []

abbrev pub with_array : ℕ → Array → State → State
with_array n array s = record s { arrays = slice_set s.arrays n array }

-- the element at a key of the array of this number; to read it makes it
unfoldable pub read_element_at : ℕ → (key : List ℕ) → Run Value
read_element_at n key s = gives (unwrap_or (value_at (array_in s n) key) value.Nothing) (with_array n (with_key (array_in s n) key) s)

unfoldable pub store_element_at : ℕ → (key : List ℕ) → Value → Run (Unit {0})
store_element_at n key v s = gives tt (with_array n (with_pair (array_in s n) key v) s)

unfoldable pub has_element_at : ℕ → (key : List ℕ) → Run Bool
has_element_at n key s = gives (is_some (value_at (array_in s n) key)) s

unfoldable pub delete_element_at : ℕ → (key : List ℕ) → Run (Unit {0})
delete_element_at n key s = gives tt (with_array n (without (array_in s n) key) s)

-- all elements are deleted
unfoldable pub clear_array_at : ℕ → Run (Unit {0})
clear_array_at n s = gives tt (with_array n [] s)

-- how many elements an array has
unfoldable pub array_length_at : ℕ → Run ℕ
array_length_at n s = gives (length (array_in s n)) s

-- the keys of an array, in the order in which they were made
unfoldable pub keys_at : ℕ → Run (List (List ℕ))
keys_at n s = gives (keys_of (array_in s n)) s

-- the same of the array that a name stands for

unfoldable pub read_element : (array key : List ℕ) → Run Value
read_element x key s = read_element_at (array_number s x) key s

unfoldable pub store_element : (array key : List ℕ) → Value → Run (Unit {0})
store_element x key v s = store_element_at (array_number s x) key v s

unfoldable pub has_element : (array key : List ℕ) → Run Bool
has_element x key s = has_element_at (array_number s x) key s

unfoldable pub delete_element : (array key : List ℕ) → Run (Unit {0})
delete_element x key s = delete_element_at (array_number s x) key s

unfoldable pub keys_in : (array : List ℕ) → Run (List (List ℕ))
keys_in x s = keys_at (array_number s x) s

-- texts from outside, as the elements of an array from this key on
abbrev pub elements_from : ℕ → List (List ℕ) → Array
elements_from n [] = []
elements_from n (text ∷ texts) = (signed_decimal (pos n), value.Input text) ∷ elements_from (suc n) texts

-- an array is emptied, and gets texts at the keys from 1 on
unfoldable pub fill_array_at : ℕ → List (List ℕ) → Run (Unit {0})
fill_array_at n texts s = gives tt (with_array n (elements_from 1 texts) s)

unfoldable pub clear_array : (array : List ℕ) → Run (Unit {0})
clear_array x s = clear_array_at (array_number s x) s

unfoldable pub array_length : (array : List ℕ) → Run ℕ
array_length x s = array_length_at (array_number s x) s

unfoldable pub fill_array : (array : List ℕ) → List (List ℕ) → Run (Unit {0})
fill_array x texts s = fill_array_at (array_number s x) texts s

-- what separates pieces for want of a separator: what FS stands for
unfoldable pub field_separator : Run Separator
field_separator s = gives (separator_by (record { text = text_in s Fs; newline_too = false })) s

-- the texts of subscripts as one, with the SUBSEP of this moment between them
unfoldable pub joined_key : List Value → Run (List ℕ)
joined_key vs s = gives (join (text_in s Subsep) (map str_of vs)) s

-- calls

-- the bodies of the active calls are no higher together
abbrev pub most_height : ℕ
most_height = 1000000

abbrev pub height_in : List Frame → ℕ
height_in [] = 0
height_in (frame ∷ frames) = frame.height + height_in frames

-- with one more body of this height they are no higher
unfoldable pub check_height : ℕ → Run (Unit {0})
check_height height s = fault_if (nat_lt most_height (height_in s.frames + height)) fault.CallsTooDeep s

-- the parameters with what they are given; for want of an argument an array has the number n or one behind it
abbrev pub bound : List FormalParameter → List Local → (n : ℕ) → List (List ℕ × Local)
bound [] given n = []
bound (p ∷ ps) (a ∷ given) n = (p.name, a) ∷ bound ps given n
bound (p ∷ ps) [] n = if p.is_array then (p.name, local.Array n) ∷ bound ps [] (suc n) else (p.name, local.Value value.Nothing) ∷ bound ps [] n

-- the arrays that are made for want of an argument
abbrev pub made : List FormalParameter → List Local → List Array
made [] given = []
made (p ∷ ps) (a ∷ given) = made ps given
made (p ∷ ps) [] = if p.is_array then [] ∷ made ps [] else made ps []

-- a call is active
unfoldable pub enter : List FormalParameter → (height : ℕ) → List Local → Run (Unit {0})
enter parameters height given s = gives tt (record s {
  frames = record { locals = bound parameters given (length s.arrays); height = height; arrays_before = length s.arrays } ∷ s.frames;
  arrays = s.arrays ++ made parameters given;
})

-- the newest call is over, and the arrays that it made are no more
abbrev pub without_call : List Frame → State → State
without_call [] s = s
without_call (frame ∷ frames) s = record s { frames = frames; arrays = take frame.arrays_before s.arrays }

unfoldable pub leave : Run (Unit {0})
leave s = gives tt (without_call s.frames s)

-- all calls are over
abbrev pub without_calls : List Frame → State → State
without_calls [] s = s
without_calls (frame ∷ frames) s = without_calls frames (without_call (frame ∷ frames) s)

abbrev pub outside_calls : State → State
outside_calls s = without_calls s.frames s

-- output

-- bytes are printed to an opening of an output
unfoldable pub print_bytes : (opening : ℕ) → List ℕ → Run (Unit {0})
print_bytes n bytes s = record { result = Ok tt; state = s; effects = Printed n bytes ∷ [] }

-- the values are printed as a line, by the OFS and ORS of this moment
unfoldable pub print_line : (opening : ℕ) → List Value → Run (Unit {0})
print_line n vs s = print_bytes n (line_of (text_in s Ofs) (text_in s Ors) vs) s

-- the text that the first value, a format, gives of the others
abbrev pub format_values : List Value → Result (List ℕ) Halt
format_values [] = Ok []
format_values (f ∷ vs) = of_format (formatted (str_of f) vs)

-- the elements of ARGV

abbrev pub argument_if : Bool → Run (Option (List ℕ))
argument_if true s = gives (Some (str_of (unwrap_or (value_at (array_in s (number_in s.array_names (codes "ARGV"))) (signed_decimal (pos s.next))) value.Nothing))) (record s { next = suc s.next })
argument_if false s = gives None s

-- the next element, if it is below the number of ARGC; one that is absent is empty, and is not made
unfoldable pub take_argument : Run (Option (List ℕ))
take_argument s = (number_of (s.variables (name_of Argc)) >>= λ n. argument_if (int_lt (pos s.next) n)) s

-- ranges, and how a run ends

unfoldable pub is_inside : ℕ → Run Bool
is_inside n s = gives (s.inside n) s

abbrev pub with_range : ℕ → Bool → (ℕ → Bool) → ℕ → Bool
with_range n b inside m = if m == n then b else inside m

unfoldable pub set_inside : ℕ → Bool → Run (Unit {0})
set_inside n b s = gives tt (record s { inside = with_range n b s.inside })

abbrev pub with_status : ℤ → Run (Unit {0})
with_status n s = gives tt (record s { status = exit_status n })

-- the exit status becomes that of a value's number
unfoldable pub set_status : Value → Run (Unit {0})
set_status v = number_of v >>= λ n. with_status n
