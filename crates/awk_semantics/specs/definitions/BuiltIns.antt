-- The built-in functions: how each takes its arguments, and what it makes of them (POSIX awk, Arithmetic Functions; String
-- Functions; Input/Output and General Functions). All arguments are evaluated before the first number or pattern is taken.
use Rattle.std.specs.Prelude.{ℕ, zero, suc, ℤ, pos, Bool, true, false, List, [], ◌∷◌, length, map, slice_get, unwrap_or, Option, Some, None, Result, Ok, Err}
use Rattle.std.specs.Option.{option_map}
use Rattle.awk_value.specs.declared.value.Value.{Value}
use Rattle.awk_value.specs.declared.value.Value.TheVariants as value
use Rattle.awk_value.specs.Values.{num_of, str_of}
use Rattle.awk_text.specs.definitions.Separators.{Separator}
use Rattle.awk_text.specs.definitions.Fields.{pieces_of}
use Rattle.awk_text.specs.declared.span.Span.{Span}
use Rattle.awk_text.specs.definitions.Functions.{substr_of, lower_of, upper_of}
use Rattle.awk_lex.specs.declared.token.BuiltIn.{BuiltIn as BuiltInName}
use Rattle.awk_lex.specs.declared.token.BuiltIn.TheVariants.{Length, Substr, Index, Split, Sub, Gsub, Match, Sprintf, ToLower, ToUpper, Int, System, Close, Fflush}
use Rattle.awk_grammar.specs.Tree.{Expr, Ere, Name}
use Rattle.awk_kinds.specs.declared.special.Special.TheVariants.{Rstart, Rlength}
use Rattle.awk_semantics.specs.declared.local.Local.{Local}
use Rattle.awk_semantics.specs.declared.local.Local.TheVariants as local
use Rattle.awk_semantics.specs.definitions.State.{State, Run, ◌>>=◌, lift, ret, gives}
use Rattle.awk_semantics.specs.declared.halt.Halt.{Halt}
use Rattle.awk_semantics.specs.definitions.Faults.{of_values}
use Rattle.awk_semantics.specs.definitions.Operators.{pattern_in}
use Rattle.awk_semantics.specs.definitions.Texts.{position_of, find_from, exchanged, start_of, length_of, separator_in, ere_separator}
use Rattle.awk_semantics.specs.definitions.Primitives.{record_text, put_special, array_number, fill_array, is_array, array_length, field_separator, format_values}
use Rattle.awk_semantics.specs.definitions.Streams.{close_named, run_command, flush_all, flush_named}
use Rattle.awk_semantics.specs.definitions.Places.{Place, AField, read_place, store}

-- how an argument is taken
pub data Role : Type 0 where
  AsValue : Role
  -- an ERE stands for itself
  AsPattern : Role
  -- a name stands for its array
  AsArray : Role
  -- a place that may be assigned: its old value is read
  AsPlace : Role
  -- a name of an array stands for its array, and all else for its value
  AsMeasured : Role

-- an argument that was taken
pub data Argument : Type 0 where
  OfValue : (v : Value) → Argument
  OfEre : (text : List ℕ) → Argument
  OfArray : (name : List ℕ) → Argument
  OfPlace : (p : Place) (old : Value) → Argument

abbrev pub roles_of : BuiltInName → List Role
roles_of Length = AsMeasured ∷ []
roles_of Match = AsValue ∷ AsPattern ∷ []
roles_of Split = AsValue ∷ AsArray ∷ AsPattern ∷ []
roles_of Sub = AsPattern ∷ AsValue ∷ AsPlace ∷ []
roles_of Gsub = AsPattern ∷ AsValue ∷ AsPlace ∷ []
roles_of f = []

-- the role of the next argument; for want of one it is a value
abbrev pub next_role : List Role → Role
next_role [] = AsValue
next_role (r ∷ roles) = r

-- an ERE, or else a value
abbrev pub ere_or : Expr → Run Value → Run Argument
ere_or (Ere text) evaluated = ret (OfEre text)
ere_or e evaluated = evaluated >>= λ v. ret (OfValue v)

-- a bare name; any other expression stands for no array, and a program with one there is refused
abbrev pub array_named : Expr → Argument
array_named (Name x) = OfArray x
array_named e = OfArray []

-- the name that an expression is, if it is a bare one
abbrev pub bare_name : Expr → Option (List ℕ)
bare_name (Name x) = Some x
bare_name e = None

abbrev pub array_or_value : (stands_for_one : Bool) → (name : List ℕ) → Run Value → Run Argument
array_or_value true x evaluated = ret (OfArray x)
array_or_value false x evaluated = evaluated >>= λ v. ret (OfValue v)

-- the array that such a name stands for, or else a value
abbrev pub array_named_or : Option (List ℕ) → Run Value → Run Argument
array_named_or None evaluated = evaluated >>= λ v. ret (OfValue v)
array_named_or (Some x) evaluated = is_array x >>= λ b. array_or_value b x evaluated

abbrev pub array_or : Expr → Run Value → Run Argument
array_or e evaluated = array_named_or (bare_name e) evaluated

abbrev pub taken_as : Role → Expr → (evaluated : Run Value) → (place : Run Place) → Run Argument
taken_as AsValue e evaluated place = evaluated >>= λ v. ret (OfValue v)
taken_as AsPattern e evaluated place = ere_or e evaluated
taken_as AsArray e evaluated place = ret (array_named e)
taken_as AsMeasured e evaluated place = array_or e evaluated
taken_as AsPlace e evaluated place = place >>= λ p. read_place p >>= λ v. ret (OfPlace p v)

-- the value of an argument, where it has one
abbrev pub value_of : Argument → Value
value_of (OfValue v) = v
value_of (OfEre text) = value.Text text
value_of (OfArray x) = value.Nothing
value_of (OfPlace p old) = old

-- what a call is given for its arguments
abbrev pub local_of : State → Argument → Local
local_of s (OfArray x) = local.Array (array_number s x)
local_of s a = local.Value (value_of a)

unfoldable pub locals_of : List Argument → Run (List Local)
locals_of arguments s = gives (map (local_of s) arguments) s

-- the value and the text of the argument at a place
abbrev pub value_or_none : Option Argument → Value
value_or_none None = value.Nothing
value_or_none (Some a) = value_of a

abbrev pub value_at : List Argument → ℕ → Value
value_at arguments n = value_or_none (slice_get arguments n)

abbrev pub text_at : List Argument → ℕ → List ℕ
text_at arguments n = str_of (value_at arguments n)

abbrev pub as_text : Result (List ℕ) Halt → Result Value Halt
as_text (Ok text) = Ok (value.Text text)
as_text (Err reason) = Err reason

abbrev pub as_number : Result ℤ Halt → Result Value Halt
as_number (Ok n) = Ok (value.Number n)
as_number (Err reason) = Err reason

abbrev pub count_value : ℕ → Run Value
count_value n = ret (value.Number (pos n))

-- RSTART and RLENGTH are set by what was found
unfoldable pub note_match : Option Span → Run Value
note_match found = put_special Rstart (value.Number (start_of found)) >>= λ _. put_special Rlength (value.Number (length_of found)) >>= λ _. ret (value.Number (start_of found))

-- what separates the pieces of a split
abbrev pub separator_for : Option Argument → Run Separator
separator_for None = field_separator
separator_for (Some (OfEre text)) = lift (ere_separator (pattern_in text))
separator_for (Some a) = lift (separator_in (str_of (value_of a)))

-- the array that a split makes
abbrev pub array_at : List Argument → List ℕ
array_at (s ∷ OfArray x ∷ arguments) = x
array_at arguments = []

-- an array gets the pieces of a text; the answer is their number
unfoldable pub split_into : (array : List ℕ) → List (List ℕ) → Run Value
split_into x pieces = fill_array x pieces >>= λ _. count_value (length pieces)

-- where a match is exchanged, and the text there
abbrev pub target_of : Option Argument → Run (Place × Value)
target_of (Some (OfPlace p old)) = ret (p, old)
target_of a = record_text >>= λ v. ret (AField (pos 0), v)

-- the text is assigned if a match was exchanged; the answer is how many were
abbrev pub assign_exchange : Place → (count : ℕ) → (text : List ℕ) → Run Value
assign_exchange p zero text = count_value 0
assign_exchange p (suc n) text = store p (value.Text text) >>= λ _. count_value (suc n)

unfoldable pub exchange : (all : Bool) → List Argument → Run Value
exchange all arguments = target_of (slice_get arguments 2) >>= λ target. lift (pattern_in (text_at arguments 0)) >>= λ t. assign_exchange target.0 (exchanged all t (text_at arguments 1) (str_of target.1)).count (exchanged all t (text_at arguments 1) (str_of target.1)).text

abbrev pub text_result : List ℕ → Result Value Halt
text_result text = Ok (value.Text text)

-- the start and, if it is given, the count of bytes that substr takes, in this order
abbrev pub substr_by : (text : List ℕ) → Result ℤ Halt → Option (Result ℤ Halt) → Result Value Halt
substr_by text (Err reason) count = Err reason
substr_by text (Ok start) None = text_result (substr_of text start None)
substr_by text (Ok start) (Some (Err reason)) = Err reason
substr_by text (Ok start) (Some (Ok count)) = text_result (substr_of text start (Some count))

abbrev pub number_in_value : Value → Result ℤ Halt
number_in_value v = of_values (num_of v)

abbrev pub first_value : List Value → Value
first_value vs = unwrap_or (slice_get vs 0) value.Nothing

abbrev pub second_value : List Value → Value
second_value vs = unwrap_or (slice_get vs 1) value.Nothing

abbrev pub third_number : List Value → Option (Result ℤ Halt)
third_number vs = option_map number_in_value (slice_get vs 2)

-- what a function of values alone makes of them
abbrev pub applied_all : BuiltInName → List Value → Result Value Halt
applied_all Length vs = Ok (value.Number (pos (length (str_of (first_value vs)))))
applied_all Substr vs = substr_by (str_of (first_value vs)) (number_in_value (second_value vs)) (third_number vs)
applied_all Index vs = Ok (value.Number (pos (position_of (str_of (second_value vs)) (str_of (first_value vs)))))
applied_all Sprintf vs = as_text (format_values vs)
applied_all ToLower vs = text_result (lower_of (str_of (first_value vs)))
applied_all ToUpper vs = text_result (upper_of (str_of (first_value vs)))
applied_all Int vs = as_number (number_in_value (first_value vs))
applied_all f vs = Ok value.Nothing

-- `length` without an argument is that of the record
unfoldable pub record_length : Run Value
record_length = record_text >>= λ v. lift (applied_all Length (v ∷ []))

-- `length` of an array is the count of its elements
unfoldable pub count_elements : (array : List ℕ) → Run Value
count_elements x = array_length x >>= λ n. count_value n

-- `fflush` without an argument flushes all outputs
unfoldable pub flush_outputs : Run Value
flush_outputs = flush_all >>= λ _. count_value 0

-- what a built-in function makes of its arguments
unfoldable pub apply_built_in : BuiltInName → List Argument → Run Value
apply_built_in Length [] = record_length
apply_built_in Length (OfArray x ∷ arguments) = count_elements x
apply_built_in Match arguments = lift (pattern_in (text_at arguments 1)) >>= λ t. note_match (find_from t (text_at arguments 0) 0)
apply_built_in Split arguments = separator_for (slice_get arguments 2) >>= λ separator. split_into (array_at arguments) (pieces_of separator false (text_at arguments 0))
apply_built_in Sub arguments = exchange false arguments
apply_built_in Gsub arguments = exchange true arguments
apply_built_in System arguments = run_command (text_at arguments 0) >>= λ n. ret (value.Number n)
apply_built_in Fflush [] = flush_outputs
apply_built_in Fflush (a ∷ arguments) = flush_named (str_of (value_of a)) >>= λ n. ret (value.Number n)
apply_built_in Close arguments = close_named (text_at arguments 0) >>= λ n. ret (value.Number n)
apply_built_in f arguments = lift (applied_all f (map value_of arguments))
