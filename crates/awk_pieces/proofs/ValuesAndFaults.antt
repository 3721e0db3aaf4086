-- What operators and built-in functions make of values: a value, or a fault.
use Rattle.std.proofs.Common.{ℕ, ℤ, Bool, not, List, [], ◌∷◌, Option, Some, None, Result, Ok, Err, slice_get}
use Rattle.std.specs.Option.{option_map}
use Rattle.awk_value.specs.declared.value.Value.{Value}
use Rattle.awk_value.specs.declared.fault.ValueFault.{ValueFault}
use Rattle.awk_value.specs.Values.{num_of, str_of}
use Rattle.awk_record.specs.declared.record_fault.RecordFault.{RecordFault}
use Rattle.awk_ere.specs.Tree.{Tree}
use Rattle.awk_ere.specs.Means.{pattern_of}
use Rattle.awk_text.specs.declared.fault.TextFault.{TextFault}
use Rattle.awk_text.specs.declared.format_fault.FormatFault.{FormatFault}
use Rattle.awk_text.specs.Formatted.{formatted}
use Rattle.awk_lex.specs.declared.token.BuiltIn.{BuiltIn as BuiltInName}
use Rattle.awk_lex.specs.declared.token.BuiltIn.TheVariants as built_in
use Rattle.awk_lex.specs.declared.token.Operator.{Operator}
use Rattle.awk_lex.specs.declared.token.Operator.TheVariants as o
use Rattle.awk_grammar.specs.declared.tree.UnaryOperator.{UnaryOperator}
use Rattle.awk_grammar.specs.declared.tree.UnaryOperator.TheVariants as unary
use Rattle.awk_semantics.specs.declared.halt.Halt.{Halt}
use Rattle.awk_semantics.specs.declared.halt.Halt.TheVariants as halt
use Rattle.awk_semantics.specs.definitions.Operators.{changed, pattern_or_fault, pattern_in, of_match, applied}
use Rattle.awk_semantics.specs.definitions.Faults.{of_values, of_record}
use Rattle.awk_semantics.specs.definitions.Texts.{of_format, of_separator, ere_separator}
use Rattle.awk_text.specs.definitions.Separators.{Separator}
use Rattle.awk_semantics.specs.definitions.Primitives.{format_values}
use Rattle.awk_semantics.specs.definitions.BuiltIns.{as_text, as_number, number_in_value, first_value, second_value, third_number, substr_by, applied_all}

-- neither `next`, `exit` nor want of steps
abbrev pub IsValueOrFault : {A : Type 0} → Result A Halt → Type 0
IsValueOrFault (Ok a) = Unit {0}
IsValueOrFault (Err (halt.Fault f)) = Unit {0}
IsValueOrFault (Err h) = ⊥

pub of_values_faults : {A : Type 0} (r : Result A ValueFault) → IsValueOrFault (of_values r)
of_values_faults (Ok a) = tt
of_values_faults (Err f) = tt

pub of_record_faults : {A : Type 0} (r : Result A RecordFault) → IsValueOrFault (of_record r)
of_record_faults (Ok a) = tt
of_record_faults (Err f) = tt

of_format_faults : {A : Type 0} (r : Result A FormatFault) → IsValueOrFault (of_format r)
of_format_faults (Ok a) = tt
of_format_faults (Err f) = tt

pub pattern_faults : (o : Option Tree) → IsValueOrFault (pattern_or_fault o)
pattern_faults None = tt
pattern_faults (Some t) = tt

pub separator_faults : (o : Result Separator TextFault) → IsValueOrFault (of_separator o)
separator_faults (Ok x) = tt
separator_faults (Err f) = tt

pub ere_separator_faults : (r : Result Tree Halt) → IsValueOrFault r → IsValueOrFault (ere_separator r)
ere_separator_faults (Ok t) p = tt
ere_separator_faults (Err (halt.Fault n)) p = tt
ere_separator_faults (Err halt.OutOfSteps) p = absurd p
ere_separator_faults (Err halt.Next) p = absurd p
ere_separator_faults (Err halt.Exit) p = absurd p

match_faults : (f : Bool → Bool) (text : List ℕ) (r : Result Tree Halt) → IsValueOrFault r → IsValueOrFault (of_match f text r)
match_faults f text (Ok t) p = tt
match_faults f text (Err (halt.Fault n)) p = tt
match_faults f text (Err halt.OutOfSteps) p = absurd p
match_faults f text (Err halt.Next) p = absurd p
match_faults f text (Err halt.Exit) p = absurd p

pub changed_faults : (c : UnaryOperator) (v : Value) → IsValueOrFault (changed c v)
changed_faults unary.Not v = tt
changed_faults unary.Plus v = of_values_faults _
changed_faults unary.Minus v = of_values_faults _

pub applied_faults : (c : Operator) (x y : Value) → IsValueOrFault (applied c x y)
applied_faults o.Power x y = of_values_faults _
applied_faults o.Times x y = of_values_faults _
applied_faults o.Divide x y = of_values_faults _
applied_faults o.Remainder x y = of_values_faults _
applied_faults o.Plus x y = of_values_faults _
applied_faults o.Minus x y = of_values_faults _
applied_faults o.Less x y = tt
applied_faults o.LessEqual x y = tt
applied_faults o.NotEqual x y = tt
applied_faults o.Equal x y = tt
applied_faults o.Greater x y = tt
applied_faults o.GreaterEqual x y = tt
applied_faults o.Matches x y = match_faults (λ b. b) (str_of x) (pattern_in (str_of y)) (pattern_faults (pattern_of (str_of y)))
applied_faults o.NotMatches x y = match_faults not (str_of x) (pattern_in (str_of y)) (pattern_faults (pattern_of (str_of y)))
applied_faults o.And x y = tt
applied_faults o.Or x y = tt

text_faults : (r : Result (List ℕ) Halt) → IsValueOrFault r → IsValueOrFault (as_text r)
text_faults (Ok t) p = tt
text_faults (Err (halt.Fault n)) p = tt
text_faults (Err halt.OutOfSteps) p = absurd p
text_faults (Err halt.Next) p = absurd p
text_faults (Err halt.Exit) p = absurd p

number_faults : (r : Result ℤ Halt) → IsValueOrFault r → IsValueOrFault (as_number r)
number_faults (Ok n) p = tt
number_faults (Err (halt.Fault n)) p = tt
number_faults (Err halt.OutOfSteps) p = absurd p
number_faults (Err halt.Next) p = absurd p
number_faults (Err halt.Exit) p = absurd p

pub format_faults : (vs : List Value) → IsValueOrFault (format_values vs)
format_faults [] = tt
format_faults (v ∷ vs) = of_format_faults (formatted (str_of v) vs)

abbrev AreFaults : Option (Result ℤ Halt) → Type 0
AreFaults None = Unit {0}
AreFaults (Some r) = IsValueOrFault r

third_faults : (v : Option Value) → AreFaults (option_map number_in_value v)
third_faults None = tt
third_faults (Some v) = of_values_faults (num_of v)

substr_faults : (text : List ℕ) (start : Result ℤ Halt) (count : Option (Result ℤ Halt)) → IsValueOrFault start → AreFaults count → IsValueOrFault (substr_by text start count)
substr_faults text (Err (halt.Fault n)) count p q = tt
substr_faults text (Err halt.OutOfSteps) count p q = absurd p
substr_faults text (Err halt.Next) count p q = absurd p
substr_faults text (Err halt.Exit) count p q = absurd p
substr_faults text (Ok start) None p q = tt
substr_faults text (Ok start) (Some (Ok count)) p q = tt
substr_faults text (Ok start) (Some (Err (halt.Fault n))) p q = tt
substr_faults text (Ok start) (Some (Err halt.OutOfSteps)) p q = absurd q
substr_faults text (Ok start) (Some (Err halt.Next)) p q = absurd q
substr_faults text (Ok start) (Some (Err halt.Exit)) p q = absurd q

pub applied_all_faults : (f : BuiltInName) (vs : List Value) → IsValueOrFault (applied_all f vs)
applied_all_faults built_in.Length vs = tt
applied_all_faults built_in.Substr vs = substr_faults (str_of (first_value vs)) (number_in_value (second_value vs)) (third_number vs) (of_values_faults (num_of (second_value vs))) (third_faults (slice_get vs 2))
applied_all_faults built_in.Index vs = tt
applied_all_faults built_in.Split vs = tt
applied_all_faults built_in.Sub vs = tt
applied_all_faults built_in.Gsub vs = tt
applied_all_faults built_in.Match vs = tt
applied_all_faults built_in.Sprintf vs = text_faults (format_values vs) (format_faults vs)
applied_all_faults built_in.ToLower vs = tt
applied_all_faults built_in.ToUpper vs = tt
applied_all_faults built_in.Int vs = number_faults (number_in_value (first_value vs)) (of_values_faults (num_of (first_value vs)))
applied_all_faults built_in.System vs = tt
applied_all_faults built_in.Close vs = tt
applied_all_faults built_in.Fflush vs = tt
