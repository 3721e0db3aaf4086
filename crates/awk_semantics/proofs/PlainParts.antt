-- The main input, places and built-in functions keep what names stand for, however they end.
use Rattle.std.proofs.Math.Nat.{le_refl}
use Rattle.std.proofs.Common.{if◌then◌else◌, map, ℕ, zero, suc, Bool, true, false, List, [], ◌∷◌, Option, Some, None, Err, refl, slice_get}
use Rattle.awk_value.specs.declared.value.Value.{Value}
use Rattle.awk_value.specs.declared.value.Value.TheVariants as value
use Rattle.awk_world.specs.declared.world.InputKind.{InputKind}
use Rattle.awk_world.specs.declared.world.InputKind.TheVariants.{Standard, File, Command}
use Rattle.awk_lex.specs.declared.token.Operator.{Operator}
use Rattle.awk_lex.specs.declared.token.IncrementOperator.{IncrementOperator}
use Rattle.awk_lex.specs.declared.token.BuiltIn.{BuiltIn as BuiltInName}
use Rattle.awk_lex.specs.declared.token.BuiltIn.TheVariants as built_in
use Rattle.awk_semantics.specs.declared.fault.Fault.TheVariants as fault
use Rattle.awk_semantics.specs.declared.halt.Halt.TheVariants as halt
use Rattle.awk_kinds.specs.declared.special.Special.TheVariants.{Fnr, Nr, Rstart, Rlength}
use Rattle.awk_text.specs.declared.span.Span.{Span}
use Rattle.awk_semantics.specs.definitions.State.{Run}
use Rattle.awk_semantics.specs.definitions.Operators.{applied, by_one, one, pattern_in}
use Rattle.awk_semantics.specs.definitions.Texts.{find_from}
use Rattle.awk_semantics.specs.definitions.Streams.{Answer, ARecord, NoRecord, NotReadable}
use Rattle.awk_semantics.specs.definitions.Inputs.{check_assignment, assign_text, Operand, Nothing, Assignment, StandardInput, AFile, operand_of, at_end, main_record, path_of, first_record, record_by, operand_record, standard_unless, standard_record, or_else, search_by, search_operands_within, search_operands, next_record}
use Rattle.awk_semantics.specs.definitions.Places.{Place, AName, AnElement, AField, read_place, store, assign, assign_by, post_increment, receive, receive_main, main_getline, count_of, receive_named, named_getline}
use Rattle.awk_semantics.specs.definitions.BuiltIns.{Argument, OfValue, OfEre, OfArray, OfPlace, value_of, text_at, note_match, separator_for, array_at, split_into, target_of, assign_exchange, exchange, record_length, count_elements, flush_outputs, applied_all, apply_built_in}
use Rattle.awk_lex.specs.Escapes.{unescaped}
use Rattle.awk_value.specs.Values.{str_of}
use Rattle.awk_ere.specs.Means.{pattern_of}
use Rattle.awk_text.specs.definitions.Separators.{separator_of}
use Rattle.awk_semantics.specs.definitions.Inputs.{is_unassignable, text_or_fault, assigned_text}
use Rattle.awk_semantics.proofs.OwnValues.{Own, applied_own, pattern_own, ere_own, separator_own, applied_all_own}
use Rattle.awk_semantics.proofs.PlainRuns.{Plain, then_plain, lift_plain, ret_plain, spend_plain, text_plain, set_plain, name_plain, element_plain, store_element_plain, length_plain, fill_plain, separator_plain, seen_plain, close_main_plain, flush_all_plain, flush_named_plain, run_command_plain, number_plain, field_plain, set_field_plain, put_outside_plain, put_plain, put_special_plain, count_in_plain, argument_plain, open_plain, input_plain, take_plain, next_of_plain, close_named_plain}

-- the main input

assigned_by : (b : Bool) (o : Option (List ℕ)) → Own (if b then Err (halt.Fault fault.AssignmentRefused) else text_or_fault o)
assigned_by true o = tt
assigned_by false None = tt
assigned_by false (Some text) = tt

assigned_own : (b : Bool) (text : List ℕ) → Own (assigned_text b text)
assigned_own b text = assigned_by b (unescaped text)

pub check_assignment_plain : (x text : List ℕ) → Plain (check_assignment x text)
unfolding check_assignment
check_assignment_plain x text = record { at = λ s. record { own = assigned_own (is_unassignable s x) text; falls = le_refl s.steps; scope = refl; unended = tt } }

pub assign_plain : (x text : List ℕ) → Plain (assign_text x text)
unfolding assign_text
assign_plain x text = then_plain _ (check_assignment_plain x text) (λ t. put_outside_plain x (value.Input t))

pub at_end_plain : (found : Option (List ℕ)) → Plain (at_end found)
at_end_plain None = then_plain _ close_main_plain (λ _. ret_plain None)
at_end_plain (Some text) = ret_plain ((Some text))

pub main_plain : Plain main_record
unfolding main_record
main_plain = then_plain _ take_plain (λ found. at_end_plain found)

pub first_plain : (kind : InputKind) (name : List ℕ) → Plain (first_record kind name)
unfolding first_record
first_plain kind name = then_plain _ (open_plain kind (path_of kind name)) (λ _. then_plain _ (input_plain name) (λ _. main_plain))

pub record_by_plain : (a : Operand) (word : List ℕ) → Plain (record_by a word)
record_by_plain Nothing word = ret_plain None
record_by_plain (Assignment x text) word = then_plain _ (assign_plain x text) (λ _. ret_plain None)
record_by_plain StandardInput word = first_plain Standard word
record_by_plain AFile word = first_plain File word

pub record_of_plain : (word : List ℕ) → Plain (operand_record word)
unfolding operand_record
record_of_plain word = record_by_plain (operand_of word) word

pub standard_unless_plain : (input_seen : Bool) → Plain (standard_unless input_seen)
standard_unless_plain true = ret_plain None
standard_unless_plain false = first_plain Standard []

pub standard_plain : Plain standard_record
unfolding standard_record
standard_plain = then_plain _ seen_plain (λ input_seen. standard_unless_plain input_seen)

pub or_else_plain : (found : Option (List ℕ)) (m : Run (Option (List ℕ))) → Plain m → Plain (or_else found m)
or_else_plain (Some text) m h = ret_plain ((Some text))
or_else_plain None m h = h

pub search_by_plain : (word : Option (List ℕ)) (m : Run (Option (List ℕ))) → Plain m → Plain (search_by word m)
search_by_plain (Some word) m h = then_plain _ spend_plain (λ _. then_plain _ (record_of_plain word) (λ found. or_else_plain found m h))
search_by_plain None m h = standard_plain

pub search_plain : (n : ℕ) → Plain (search_operands_within n)
unfolding search_operands_within
search_plain zero = lift_plain (Err halt.OutOfSteps) tt
search_plain (suc n) = let t = search_plain n in then_plain _ argument_plain (λ word. search_by_plain word _ t)

pub search_all_plain : Plain search_operands
unfolding search_operands
search_all_plain = record { at = λ s. (search_plain (suc s.steps)).at s }

pub next_plain : Plain next_record
unfolding next_record
next_plain = then_plain _ main_plain (λ found. or_else_plain found _ search_all_plain)

-- places

pub read_plain : (p : Place) → Plain (read_place p)
unfolding read_place
read_plain (AName x) = name_plain x
read_plain (AnElement x key) = element_plain x key
read_plain (AField n) = field_plain n

pub store_plain : (p : Place) (v : Value) → Plain (store p v)
unfolding store
store_plain (AName x) v = put_plain x v
store_plain (AnElement x key) v = store_element_plain x key v
store_plain (AField n) v = set_field_plain n v

pub assign_place_plain : (p : Place) (v : Value) → Plain (assign p v)
unfolding assign
assign_place_plain p v = then_plain _ (store_plain p v) (λ _. read_plain p)

pub assign_by_plain : (o : Option Operator) (p : Place) (v : Value) → Plain (assign_by o p v)
unfolding assign_by
assign_by_plain None p v = assign_place_plain p v
assign_by_plain (Some o) p v = then_plain _ (read_plain p) (λ old. then_plain _ (lift_plain (applied o old v) (applied_own o old v)) (λ w. assign_place_plain p w))

pub post_plain : (o : IncrementOperator) (p : Place) → Plain (post_increment o p)
unfolding post_increment
post_plain o p = then_plain _ (read_plain p) (λ v. then_plain _ (number_plain v) (λ n. then_plain _ (lift_plain (applied (by_one o) (value.Number n) one) (applied_own (by_one o) (value.Number n) one)) (λ w. then_plain _ (store_plain p w) (λ _. ret_plain _))))

pub receive_plain : (p : Option Place) (text : List ℕ) → Plain (receive p text)
receive_plain None text = set_plain text
receive_plain (Some p) text = store_plain p (value.Input text)

pub receive_main_plain : (p : Option Place) (found : Option (List ℕ)) → Plain (receive_main p found)
receive_main_plain p None = ret_plain _
receive_main_plain p (Some text) = then_plain _ spend_plain (λ _. then_plain _ (receive_plain p text) (λ _. then_plain _ (count_in_plain Nr) (λ _. then_plain _ (count_in_plain Fnr) (λ _. ret_plain _))))

pub main_getline_plain : (p : Option Place) → Plain (main_getline p)
unfolding main_getline
main_getline_plain p = then_plain _ next_plain (λ found. receive_main_plain p found)

pub count_of_plain : (kind : InputKind) → Plain (count_of kind)
count_of_plain Command = count_in_plain Nr
count_of_plain Standard = ret_plain _
count_of_plain File = ret_plain _

pub receive_named_plain : (kind : InputKind) (p : Option Place) (answer : Answer) → Plain (receive_named kind p answer)
receive_named_plain kind p (ARecord text) = then_plain _ (receive_plain p text) (λ _. then_plain _ (count_of_plain kind) (λ _. ret_plain _))
receive_named_plain kind p NoRecord = ret_plain _
receive_named_plain kind p NotReadable = ret_plain _

pub named_getline_plain : (kind : InputKind) (name : List ℕ) (p : Option Place) → Plain (named_getline kind name p)
unfolding named_getline
named_getline_plain kind name p = then_plain _ (next_of_plain kind name) (λ found. receive_named_plain kind p found)

-- built-in functions

pub note_match_plain : (found : Option Span) → Plain (note_match found)
unfolding note_match
note_match_plain found = then_plain _ (put_special_plain Rstart _) (λ _. then_plain _ (put_special_plain Rlength _) (λ _. ret_plain _))

pub separator_for_plain : (a : Option Argument) → Plain (separator_for a)
separator_for_plain None = separator_plain
separator_for_plain (Some (OfEre text)) = lift_plain _ (ere_own (pattern_of text))
separator_for_plain (Some (OfValue v)) = lift_plain _ (separator_own (separator_of (str_of v)))
separator_for_plain (Some (OfArray x)) = lift_plain _ (separator_own (separator_of (str_of value.Nothing)))
separator_for_plain (Some (OfPlace p old)) = lift_plain _ (separator_own (separator_of (str_of old)))

pub split_into_plain : (x : List ℕ) (pieces : List (List ℕ)) → Plain (split_into x pieces)
unfolding split_into
split_into_plain x pieces = then_plain _ (fill_plain x pieces) (λ _. ret_plain _)

pub target_of_plain : (a : Option Argument) → Plain (target_of a)
target_of_plain (Some (OfPlace p old)) = ret_plain _
target_of_plain None = then_plain _ text_plain (λ v. ret_plain _)
target_of_plain (Some (OfValue v)) = then_plain _ text_plain (λ v. ret_plain _)
target_of_plain (Some (OfEre text)) = then_plain _ text_plain (λ v. ret_plain _)
target_of_plain (Some (OfArray x)) = then_plain _ text_plain (λ v. ret_plain _)

pub assign_exchange_plain : (p : Place) (n : ℕ) (text : List ℕ) → Plain (assign_exchange p n text)
assign_exchange_plain p zero text = ret_plain _
assign_exchange_plain p (suc n) text = then_plain _ (store_plain p (value.Text text)) (λ _. ret_plain _)

pub exchange_plain : (all : Bool) (arguments : List Argument) → Plain (exchange all arguments)
unfolding exchange
exchange_plain all arguments = then_plain _ (target_of_plain _) (λ target. then_plain _ (lift_plain (pattern_in (text_at arguments 0)) (pattern_own (pattern_of (text_at arguments 0)))) (λ t. assign_exchange_plain target.0 _ _))

pub record_length_plain : Plain record_length
unfolding record_length
record_length_plain = then_plain _ text_plain (λ v. lift_plain (applied_all built_in.Length (v ∷ [])) tt)

pub count_elements_plain : (x : List ℕ) → Plain (count_elements x)
unfolding count_elements
count_elements_plain x = then_plain _ (length_plain x) (λ n. ret_plain _)

pub flush_outputs_plain : Plain flush_outputs
unfolding flush_outputs
flush_outputs_plain = then_plain _ flush_all_plain (λ _. ret_plain _)

pub built_in_plain : (f : BuiltInName) (arguments : List Argument) → Plain (apply_built_in f arguments)
unfolding apply_built_in
built_in_plain built_in.Length [] = record_length_plain
built_in_plain built_in.Length (OfArray x ∷ arguments) = count_elements_plain x
built_in_plain built_in.Length (OfValue v ∷ arguments) = lift_plain _ (applied_all_own built_in.Length (map value_of (OfValue v ∷ arguments)))
built_in_plain built_in.Length (OfEre text ∷ arguments) = lift_plain _ (applied_all_own built_in.Length (map value_of (OfEre text ∷ arguments)))
built_in_plain built_in.Length (OfPlace p old ∷ arguments) = lift_plain _ (applied_all_own built_in.Length (map value_of (OfPlace p old ∷ arguments)))
built_in_plain built_in.Match arguments = then_plain _ (lift_plain (pattern_in (text_at arguments 1)) (pattern_own (pattern_of (text_at arguments 1)))) (λ t. note_match_plain (find_from t (text_at arguments 0) 0))
built_in_plain built_in.Split arguments = then_plain _ (separator_for_plain (slice_get arguments 2)) (λ separator. split_into_plain (array_at arguments) _)
built_in_plain built_in.Sub arguments = exchange_plain false arguments
built_in_plain built_in.Gsub arguments = exchange_plain true arguments
built_in_plain built_in.System arguments = then_plain _ (run_command_plain _) (λ n. ret_plain _)
built_in_plain built_in.Fflush [] = flush_outputs_plain
built_in_plain built_in.Fflush (a ∷ arguments) = then_plain _ (flush_named_plain _) (λ n. ret_plain _)
built_in_plain built_in.Close arguments = then_plain _ (close_named_plain _) (λ n. ret_plain _)
built_in_plain built_in.Substr arguments = lift_plain _ (applied_all_own built_in.Substr (map value_of arguments))
built_in_plain built_in.Index arguments = lift_plain _ (applied_all_own built_in.Index (map value_of arguments))
built_in_plain built_in.Sprintf arguments = lift_plain _ (applied_all_own built_in.Sprintf (map value_of arguments))
built_in_plain built_in.ToLower arguments = lift_plain _ (applied_all_own built_in.ToLower (map value_of arguments))
built_in_plain built_in.ToUpper arguments = lift_plain _ (applied_all_own built_in.ToUpper (map value_of arguments))
built_in_plain built_in.Int arguments = lift_plain _ (applied_all_own built_in.Int (map value_of arguments))
