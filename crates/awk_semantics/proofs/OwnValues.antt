-- What operators and functions make of values is never want of memory, nor a failed write.
use Rattle.std.proofs.Common.{ℕ, zero, suc, ℤ, pos, negsuc, Bool, true, false, not, if◌then◌else◌, nat_lt, nat_le, slice_get, List, [], ◌∷◌, Option, Some, None, Result, Ok, Err}
use Rattle.std.specs.Prelude.{neg_ℤ, ◌+ℤ◌, ◌-ℤ◌, ◌*ℤ◌, int_div, int_rem}
use Rattle.std.specs.Int.{int_pow}
use Rattle.std.specs.Option.{option_map}
use Rattle.awk_value.specs.declared.value.Value.{Value}
use Rattle.awk_value.specs.declared.value.Value.TheVariants as value
use Rattle.awk_value.specs.declared.fault.ValueFault.{ValueFault}
use Rattle.awk_value.specs.declared.fault.ValueFault.TheVariants as values
use Rattle.awk_value.specs.Values.{num_of, str_of, number_value, from_numbers, from_number}
use Rattle.awk_value.specs.Arithmetic.{is_in_range, is_zero, range_checked, product_of, sum_of, difference_of, quotient_of, remainder_of, negative_of, power_of}
use Rattle.awk_value.specs.Numbers.{spelled_number}
use Rattle.awk_record.specs.Record.{RecordPair, field_of, assignable, with_count, with_field, most_fields}
use Rattle.awk_record.specs.declared.record_fault.RecordFault.{RecordFault}
use Rattle.awk_record.specs.declared.record_fault.RecordFault.TheVariants as fields
use Rattle.awk_ere.specs.Tree.{Tree}
use Rattle.awk_ere.specs.Means.{pattern_of}
use Rattle.awk_text.specs.definitions.Separators.{Separator}
use Rattle.awk_text.specs.declared.fault.TextFault.{TextFault}
use Rattle.awk_text.specs.declared.format_fault.FormatFault.{FormatFault}
use Rattle.awk_text.specs.declared.format_fault.FormatFault.TheVariants as format
use Rattle.awk_text.specs.declared.directive.Conversion.{Conversion}
use Rattle.awk_text.specs.declared.directive.Conversion.TheVariants.{Integer, Character, Text}
use Rattle.awk_text.specs.declared.directive.Notation.{Notation}
use Rattle.awk_text.specs.declared.directive.Directive.{Directive}
use Rattle.awk_text.specs.declared.part.Part.{Part}
use Rattle.awk_text.specs.declared.part.Part.TheVariants.{Plain, Directed, Refused}
use Rattle.awk_text.specs.definitions.Directives.{character_text, number_text, converted}
use Rattle.awk_text.specs.definitions.Formatted.{joined, next_value, part_text, values_after, written, formatted}
use Rattle.awk_text.specs.definitions.Reading.{parts_of}
use Rattle.awk_lex.specs.declared.token.BuiltIn.{BuiltIn as BuiltInName}
use Rattle.awk_lex.specs.declared.token.BuiltIn.TheVariants as built_in
use Rattle.awk_grammar.specs.declared.tree.UnaryOperator.{UnaryOperator}
use Rattle.awk_grammar.specs.declared.tree.UnaryOperator.TheVariants as unary
use Rattle.awk_lex.specs.declared.token.Operator.{Operator}
use Rattle.awk_lex.specs.declared.token.Operator.TheVariants.{Or, And, Power, Times, Divide, Remainder, Plus, Minus, Less, LessEqual, Equal, NotEqual, Greater, GreaterEqual, Matches, NotMatches}
use Rattle.awk_semantics.specs.declared.fault.Fault.TheVariants as faults
use Rattle.awk_semantics.specs.declared.halt.Halt.{Halt}
use Rattle.awk_semantics.specs.declared.halt.Halt.TheVariants as halt
use Rattle.awk_semantics.specs.definitions.Operators.{changed, pattern_or_fault, of_match, applied, raised}
use Rattle.awk_semantics.specs.definitions.Faults.{value_fault, of_values, of_record}
use Rattle.awk_semantics.specs.definitions.Texts.{of_format, of_separator, ere_separator}
use Rattle.awk_semantics.specs.definitions.Primitives.{format_values}
use Rattle.awk_semantics.specs.definitions.BuiltIns.{as_text, as_number, number_in_value, first_value, second_value, third_number, substr_by, applied_all}

-- a halt that the language itself has
abbrev pub OwnHalt : Halt → Type 0
OwnHalt halt.OutOfSteps = Unit {0}
OwnHalt halt.Next = Unit {0}
OwnHalt halt.Exit = Unit {0}
OwnHalt (halt.Fault faults.OutOfMemory) = ⊥
OwnHalt (halt.Fault faults.WriteFailed) = ⊥
OwnHalt (halt.Fault f) = Unit {0}

abbrev pub Own : {A : Type 0} → Result A Halt → Type 0
Own (Ok a) = Unit {0}
Own (Err h) = OwnHalt h

-- values

-- a number's fault is no want of memory
abbrev pub OwnNumber : {A : Type 0} → Result A ValueFault → Type 0
OwnNumber (Ok a) = Unit {0}
OwnNumber (Err values.Memory) = ⊥
OwnNumber (Err f) = Unit {0}

pub range_own : (b : Bool) (z : ℤ) → OwnNumber (if b then Ok z else Err values.Range)
range_own true z = tt
range_own false z = tt

pub checked_own : (z : ℤ) → OwnNumber (range_checked z)
checked_own z = range_own (is_in_range z) z

pub quotient_by : (b : Bool) (z : ℤ) → OwnNumber (if b then Err values.ZeroDivisor else range_checked z)
quotient_by true z = tt
quotient_by false z = checked_own z

pub remainder_by : (b : Bool) (z : ℤ) → OwnNumber (if b then Err values.ZeroDivisor else Ok z)
remainder_by true z = tt
remainder_by false z = tt

pub power_own : (m n : ℤ) → OwnNumber (power_of m n)
power_own m (pos e) = checked_own (int_pow m e)
power_own m (negsuc e) = tt

pub num_own : (v : Value) → OwnNumber (num_of v)
num_own value.Nothing = tt
num_own (value.Number n) = tt
num_own (value.Text t) = checked_own (spelled_number t)
num_own (value.Input t) = checked_own (spelled_number t)

pub valued_own : (r : Result ℤ ValueFault) → OwnNumber r → OwnNumber (number_value r)
valued_own (Ok n) own = tt
valued_own (Err f) own = own

pub one_own : (operation : ℤ → Result ℤ ValueFault) → ((n : ℤ) → OwnNumber (operation n)) → (r : Result ℤ ValueFault) → OwnNumber r → OwnNumber (from_number operation r)
one_own operation h (Ok n) own = valued_own (operation n) (h n)
one_own operation h (Err f) own = own

pub two_own : (operation : ℤ → ℤ → Result ℤ ValueFault) → ((m n : ℤ) → OwnNumber (operation m n)) → (l r : Result ℤ ValueFault) → OwnNumber l → OwnNumber r → OwnNumber (from_numbers operation l r)
two_own operation h (Ok m) (Ok n) a b = valued_own (operation m n) (h m n)
two_own operation h (Ok m) (Err f) a b = b
two_own operation h (Err f) r a b = a

pub fault_own : (f : ValueFault) → OwnNumber {A = ℤ} (Err f) → OwnHalt (halt.Fault (value_fault f))
fault_own values.Memory own = absurd own
fault_own values.Range own = tt
fault_own values.ZeroDivisor own = tt
fault_own values.NegativePower own = tt

pub of_values_own : {A : Type 0} (r : Result A ValueFault) → OwnNumber r → Own (of_values r)
of_values_own (Ok a) own = tt
of_values_own (Err values.Memory) own = absurd own
of_values_own (Err values.Range) own = tt
of_values_own (Err values.ZeroDivisor) own = tt
of_values_own (Err values.NegativePower) own = tt

pub changed_own : (o : UnaryOperator) (v : Value) → Own (changed o v)
changed_own unary.Not v = tt
changed_own unary.Plus v = of_values_own _ (valued_own (num_of v) (num_own v))
changed_own unary.Minus v = of_values_own _ (one_own negative_of (λ n. checked_own (neg_ℤ n)) (num_of v) (num_own v))

pub pattern_own : (t : Option Tree) → Own (pattern_or_fault t)
pattern_own None = tt
pattern_own (Some t) = tt

pub match_own : (f : Bool → Bool) (text : List ℕ) (t : Option Tree) → Own (of_match f text (pattern_or_fault t))
match_own f text None = tt
match_own f text (Some t) = tt

pub applied_own : (o : Operator) (x y : Value) → Own (applied o x y)
applied_own Power x y = of_values_own _ (two_own power_of power_own (num_of x) (num_of y) (num_own x) (num_own y))
applied_own Times x y = of_values_own _ (two_own product_of (λ m n. checked_own (m *ℤ n)) (num_of x) (num_of y) (num_own x) (num_own y))
applied_own Divide x y = of_values_own _ (two_own quotient_of (λ m n. quotient_by (is_zero n) (int_div m n)) (num_of x) (num_of y) (num_own x) (num_own y))
applied_own Remainder x y = of_values_own _ (two_own remainder_of (λ m n. remainder_by (is_zero n) (int_rem m n)) (num_of x) (num_of y) (num_own x) (num_own y))
applied_own Plus x y = of_values_own _ (two_own sum_of (λ m n. checked_own (m +ℤ n)) (num_of x) (num_of y) (num_own x) (num_own y))
applied_own Minus x y = of_values_own _ (two_own difference_of (λ m n. checked_own (m -ℤ n)) (num_of x) (num_of y) (num_own x) (num_own y))
applied_own And x y = tt
applied_own Or x y = tt
applied_own Less x y = tt
applied_own LessEqual x y = tt
applied_own Equal x y = tt
applied_own NotEqual x y = tt
applied_own Greater x y = tt
applied_own GreaterEqual x y = tt
applied_own Matches x y = match_own (λ b. b) (str_of x) (pattern_of (str_of y))
applied_own NotMatches x y = match_own not (str_of x) (pattern_of (str_of y))

pub raised_own : (v : Value) → Own (raised v)
raised_own v = of_values_own _ (two_own sum_of (λ m n. checked_own (m +ℤ n)) (num_of v) (Ok (pos 1)) (num_own v) tt)

pub field_own : (r : RecordPair) (i : ℤ) → Own (of_record (field_of r i))
field_own r (pos zero) = tt
field_own r (pos (suc i)) = tt
field_own r (negsuc n) = tt

-- a record's fault is no want of memory
abbrev pub OwnRecord : {A : Type 0} → Result A RecordFault → Type 0
OwnRecord (Ok a) = Unit {0}
OwnRecord (Err fields.Memory) = ⊥
OwnRecord (Err f) = Unit {0}

pub of_record_own : {A : Type 0} (r : Result A RecordFault) → OwnRecord r → Own (of_record r)
of_record_own (Ok a) own = tt
of_record_own (Err fields.Memory) own = absurd own
of_record_own (Err fields.Pattern) own = tt
of_record_own (Err fields.FieldNumber) own = tt

below_most : (b : Bool) (n : ℕ) → OwnRecord (if b then Err fields.FieldNumber else Ok n)
below_most true n = tt
below_most false n = tt

pub assignable_own : (n : ℤ) → OwnRecord (assignable n)
assignable_own (pos n) = below_most (nat_lt most_fields n) n
assignable_own (negsuc n) = tt

pub count_own : (n : Result ℕ RecordFault) (separator : List ℕ) (r : RecordPair) → OwnRecord n → OwnRecord (with_count n separator r)
count_own (Ok n) separator r own = tt
count_own (Err fields.Memory) separator r own = absurd own
count_own (Err fields.Pattern) separator r own = tt
count_own (Err fields.FieldNumber) separator r own = tt

pub with_field_own : (n : Result ℕ RecordFault) (v : Value) (separator : List ℕ) (r : RecordPair) → OwnRecord n → OwnRecord (with_field n v separator r)
with_field_own (Ok zero) v separator r own = tt
with_field_own (Ok (suc n)) v separator r own = tt
with_field_own (Err fields.Memory) v separator r own = absurd own
with_field_own (Err fields.Pattern) v separator r own = tt
with_field_own (Err fields.FieldNumber) v separator r own = tt

-- formats

-- a format's fault is no want of memory
abbrev pub OwnFormat : {A : Type 0} → Result A FormatFault → Type 0
OwnFormat (Ok a) = Unit {0}
OwnFormat (Err format.Memory) = ⊥
OwnFormat (Err f) = Unit {0}

pub of_format_own : {A : Type 0} (r : Result A FormatFault) → OwnFormat r → Own (of_format r)
of_format_own (Ok a) own = tt
of_format_own (Err format.Memory) own = absurd own
of_format_own (Err format.Range) own = tt
of_format_own (Err format.Format) own = tt

joined_own : (a b : Result (List ℕ) FormatFault) → OwnFormat a → OwnFormat b → OwnFormat (joined a b)
joined_own (Ok a) (Ok b) h k = tt
joined_own (Ok a) (Err f) h k = k
joined_own (Err f) b h k = h

byte_own : (b : Bool) (text : List ℕ) → OwnFormat (if b then Ok text else Err format.Format)
byte_own true text = tt
byte_own false text = tt

character_own : (d : Directive) (v : Value) → OwnFormat (character_text d v)
character_own d value.Nothing = tt
character_own d (value.Number (pos n)) = byte_own (nat_le n 255) _
character_own d (value.Number (negsuc n)) = tt
character_own d (value.Text t) = tt
character_own d (value.Input t) = tt

number_text_own : (d : Directive) (notation : Notation) (n : Result ℤ ValueFault) → OwnFormat (number_text d notation n)
number_text_own d notation (Ok n) = tt
number_text_own d notation (Err f) = tt

converted_own : (d : Directive) (c : Conversion) (v : Value) → OwnFormat (converted d c v)
converted_own d (Integer notation) v = number_text_own d notation (num_of v)
converted_own d Character v = character_own d v
converted_own d Text v = tt

part_own : (p : Part) (v : Value) → OwnFormat (part_text p v)
part_own (Plain text) v = tt
part_own (Directed d) v = converted_own d d.conversion v
part_own Refused v = tt

written_own : (parts : List Part) (vs : List Value) → OwnFormat (written parts vs)
written_own [] vs = tt
written_own (p ∷ parts) vs = joined_own _ _ (part_own p (next_value vs)) (written_own parts (values_after p vs))

pub format_own : (vs : List Value) → Own (format_values vs)
format_own [] = tt
format_own (f ∷ vs) = of_format_own (formatted (str_of f) vs) (written_own (parts_of (str_of f)) vs)

-- separators

pub separator_own : (r : Result Separator TextFault) → Own (of_separator r)
separator_own (Ok s) = tt
separator_own (Err f) = tt

pub ere_own : (t : Option Tree) → Own (ere_separator (pattern_or_fault t))
ere_own None = tt
ere_own (Some t) = tt

-- built-in functions

text_own : (r : Result (List ℕ) Halt) → Own r → Own (as_text r)
text_own (Ok text) own = tt
text_own (Err h) own = own

as_number_own : (r : Result ℤ Halt) → Own r → Own (as_number r)
as_number_own (Ok n) own = tt
as_number_own (Err h) own = own

pub number_own : (v : Value) → Own (number_in_value v)
number_own v = of_values_own (num_of v) (num_own v)

-- a count that isn't given has no fault
abbrev OwnCount : Option (Result ℤ Halt) → Type 0
OwnCount None = Unit {0}
OwnCount (Some r) = Own r

third_own : (v : Option Value) → OwnCount (option_map number_in_value v)
third_own None = tt
third_own (Some v) = number_own v

substr_own : (text : List ℕ) (start : Result ℤ Halt) (count : Option (Result ℤ Halt)) → Own start → OwnCount count → Own (substr_by text start count)
substr_own text (Err h) count own k = own
substr_own text (Ok start) None own k = tt
substr_own text (Ok start) (Some (Err h)) own k = k
substr_own text (Ok start) (Some (Ok count)) own k = tt

pub applied_all_own : (f : BuiltInName) (vs : List Value) → Own (applied_all f vs)
applied_all_own built_in.Length vs = tt
applied_all_own built_in.Substr vs = substr_own _ (number_in_value (second_value vs)) (third_number vs) (number_own (second_value vs)) (third_own (slice_get vs 2))
applied_all_own built_in.Index vs = tt
applied_all_own built_in.Sprintf vs = text_own (format_values vs) (format_own vs)
applied_all_own built_in.ToLower vs = tt
applied_all_own built_in.ToUpper vs = tt
applied_all_own built_in.Int vs = as_number_own (number_in_value (first_value vs)) (number_own (first_value vs))
applied_all_own built_in.Match vs = tt
applied_all_own built_in.Split vs = tt
applied_all_own built_in.Sub vs = tt
applied_all_own built_in.Gsub vs = tt
applied_all_own built_in.System vs = tt
applied_all_own built_in.Fflush vs = tt
applied_all_own built_in.Close vs = tt
