-- The main input, places and built-in functions do with more steps what they do with less.
use Rattle.std.proofs.Common.{ℕ, zero, suc, ◌+◌, ◌≤◌, Bool, true, false, List, [], ◌∷◌, Option, Some, None, Ok, arith, slice_get}
use Rattle.awk_value.specs.declared.value.Value.{Value}
use Rattle.awk_value.specs.declared.value.Value.TheVariants as value
use Rattle.awk_world.specs.declared.world.InputKind.{InputKind}
use Rattle.awk_world.specs.declared.world.InputKind.TheVariants.{Standard, File, Command}
use Rattle.awk_lex.specs.declared.token.Operator.{Operator}
use Rattle.awk_lex.specs.declared.token.IncrementOperator.{IncrementOperator}
use Rattle.awk_lex.specs.declared.token.BuiltIn.{BuiltIn as BuiltInName}
use Rattle.awk_lex.specs.declared.token.BuiltIn.TheVariants as built_in
use Rattle.awk_kinds.specs.declared.special.Special.TheVariants.{Fnr, Nr, Rstart, Rlength}
use Rattle.awk_text.specs.declared.span.Span.{Span}
use Rattle.awk_semantics.specs.definitions.State.{Run}
use Rattle.awk_semantics.specs.definitions.Operators.{applied, by_one, one, pattern_in}
use Rattle.awk_semantics.specs.definitions.Texts.{find_from}
use Rattle.awk_semantics.specs.definitions.Streams.{Answer, ARecord, NoRecord, NotReadable}
use Rattle.awk_semantics.specs.definitions.Inputs.{check_assignment, assign_text, Operand, Nothing, Assignment, StandardInput, AFile, operand_of, at_end, main_record, path_of, first_record, record_by, operand_record, standard_unless, standard_record, or_else, search_by, search_operands_within, search_operands, next_record}
use Rattle.awk_semantics.specs.definitions.Places.{Place, AName, AnElement, AField, read_place, store, assign, assign_by, post_increment, receive, receive_main, main_getline, count_of, receive_named, named_getline}
use Rattle.awk_semantics.specs.definitions.BuiltIns.{Argument, OfValue, OfEre, OfArray, OfPlace, text_at, note_match, separator_for, array_at, split_into, target_of, assign_exchange, exchange, record_length, count_elements, flush_outputs, applied_all, apply_built_in}
use Rattle.awk_semantics.proofs.Larger.{Larger, then_larger, steps_larger, lift_larger, same_covers, spend_larger, text_larger, set_larger, name_larger, element_larger, store_element_larger, length_larger, fill_larger, separator_larger, seen_larger, close_main_larger, flush_all_larger, flush_named_larger, run_command_larger, number_larger, field_larger, set_field_larger, put_outside_larger, put_larger, put_special_larger, count_in_larger, argument_larger, open_larger, input_larger, take_larger, next_of_larger, close_named_larger}

-- the main input

pub check_assignment_larger : (x text : List ℕ) → Larger (check_assignment x text) (check_assignment x text)
unfolding check_assignment
check_assignment_larger x text = record { covers = λ s d. same_covers _ s [] d }

pub assign_larger : (x text : List ℕ) → Larger (assign_text x text) (assign_text x text)
unfolding assign_text
assign_larger x text = then_larger _ _ (check_assignment_larger x text) (λ t. put_outside_larger x (value.Input t))

pub at_end_larger : (found : Option (List ℕ)) → Larger (at_end found) (at_end found)
at_end_larger None = then_larger _ _ close_main_larger (λ _. lift_larger (Ok None))
at_end_larger (Some text) = lift_larger (Ok (Some text))

pub main_larger : Larger main_record main_record
unfolding main_record
main_larger = then_larger _ _ take_larger (λ found. at_end_larger found)

pub first_larger : (kind : InputKind) (name : List ℕ) → Larger (first_record kind name) (first_record kind name)
unfolding first_record
first_larger kind name = then_larger _ _ (open_larger kind (path_of kind name)) (λ _. then_larger _ _ (input_larger name) (λ _. main_larger))

pub record_by_larger : (a : Operand) (word : List ℕ) → Larger (record_by a word) (record_by a word)
record_by_larger Nothing word = lift_larger (Ok None)
record_by_larger (Assignment x text) word = then_larger _ _ (assign_larger x text) (λ _. lift_larger (Ok None))
record_by_larger StandardInput word = first_larger Standard word
record_by_larger AFile word = first_larger File word

pub record_of_larger : (word : List ℕ) → Larger (operand_record word) (operand_record word)
unfolding operand_record
record_of_larger word = record_by_larger (operand_of word) word

pub standard_unless_larger : (input_seen : Bool) → Larger (standard_unless input_seen) (standard_unless input_seen)
standard_unless_larger true = lift_larger (Ok None)
standard_unless_larger false = first_larger Standard []

pub standard_larger : Larger standard_record standard_record
unfolding standard_record
standard_larger = then_larger _ _ seen_larger (λ input_seen. standard_unless_larger input_seen)

pub or_else_larger : (found : Option (List ℕ)) (m n : Run (Option (List ℕ))) → Larger m n → Larger (or_else found m) (or_else found n)
or_else_larger (Some text) m n h = lift_larger (Ok (Some text))
or_else_larger None m n h = h

pub search_by_larger : (word : Option (List ℕ)) (m n : Run (Option (List ℕ))) → Larger m n → Larger (search_by word m) (search_by word n)
search_by_larger (Some word) m n h = then_larger _ _ spend_larger (λ _. then_larger _ _ (record_of_larger word) (λ found. or_else_larger found m n h))
search_by_larger None m n h = standard_larger

pub search_larger : (n n' : ℕ) → n ≤ n' → Larger (search_operands_within n) (search_operands_within n')
unfolding search_operands_within
search_larger zero n' h = steps_larger _
search_larger (suc n) zero h = absurd (omega arith)
search_larger (suc n) (suc n') h = let t = search_larger n n' (omega arith) in then_larger _ _ argument_larger (λ word. search_by_larger word _ _ t)

pub search_all_larger : Larger search_operands search_operands
unfolding search_operands
search_all_larger = record { covers = λ s d. (search_larger (suc s.steps) (suc (s.steps + d)) (omega arith)).covers s d }

pub next_larger : Larger next_record next_record
unfolding next_record
next_larger = then_larger _ _ main_larger (λ found. or_else_larger found _ _ search_all_larger)

-- places

pub read_larger : (p : Place) → Larger (read_place p) (read_place p)
unfolding read_place
read_larger (AName x) = name_larger x
read_larger (AnElement x key) = element_larger x key
read_larger (AField n) = field_larger n

pub store_larger : (p : Place) (v : Value) → Larger (store p v) (store p v)
unfolding store
store_larger (AName x) v = put_larger x v
store_larger (AnElement x key) v = store_element_larger x key v
store_larger (AField n) v = set_field_larger n v

pub assign_place_larger : (p : Place) (v : Value) → Larger (assign p v) (assign p v)
unfolding assign
assign_place_larger p v = then_larger _ _ (store_larger p v) (λ _. read_larger p)

pub assign_by_larger : (o : Option Operator) (p : Place) (v : Value) → Larger (assign_by o p v) (assign_by o p v)
unfolding assign_by
assign_by_larger None p v = assign_place_larger p v
assign_by_larger (Some o) p v = then_larger _ _ (read_larger p) (λ old. then_larger _ _ (lift_larger (applied o old v)) (λ w. assign_place_larger p w))

pub post_larger : (o : IncrementOperator) (p : Place) → Larger (post_increment o p) (post_increment o p)
unfolding post_increment
post_larger o p = then_larger _ _ (read_larger p) (λ v. then_larger _ _ (number_larger v) (λ n. then_larger _ _ (lift_larger (applied (by_one o) (value.Number n) one)) (λ w. then_larger _ _ (store_larger p w) (λ _. lift_larger _))))

pub receive_larger : (p : Option Place) (text : List ℕ) → Larger (receive p text) (receive p text)
receive_larger None text = set_larger text
receive_larger (Some p) text = store_larger p (value.Input text)

pub receive_main_larger : (p : Option Place) (found : Option (List ℕ)) → Larger (receive_main p found) (receive_main p found)
receive_main_larger p None = lift_larger _
receive_main_larger p (Some text) = then_larger _ _ spend_larger (λ _. then_larger _ _ (receive_larger p text) (λ _. then_larger _ _ (count_in_larger Nr) (λ _. then_larger _ _ (count_in_larger Fnr) (λ _. lift_larger _))))

pub main_getline_larger : (p : Option Place) → Larger (main_getline p) (main_getline p)
unfolding main_getline
main_getline_larger p = then_larger _ _ next_larger (λ found. receive_main_larger p found)

pub count_of_larger : (kind : InputKind) → Larger (count_of kind) (count_of kind)
count_of_larger Command = count_in_larger Nr
count_of_larger Standard = lift_larger _
count_of_larger File = lift_larger _

pub receive_named_larger : (kind : InputKind) (p : Option Place) (answer : Answer) → Larger (receive_named kind p answer) (receive_named kind p answer)
receive_named_larger kind p (ARecord text) = then_larger _ _ (receive_larger p text) (λ _. then_larger _ _ (count_of_larger kind) (λ _. lift_larger _))
receive_named_larger kind p NoRecord = lift_larger _
receive_named_larger kind p NotReadable = lift_larger _

pub named_getline_larger : (kind : InputKind) (name : List ℕ) (p : Option Place) → Larger (named_getline kind name p) (named_getline kind name p)
unfolding named_getline
named_getline_larger kind name p = then_larger _ _ (next_of_larger kind name) (λ found. receive_named_larger kind p found)

-- built-in functions

pub note_match_larger : (found : Option Span) → Larger (note_match found) (note_match found)
unfolding note_match
note_match_larger found = then_larger _ _ (put_special_larger Rstart _) (λ _. then_larger _ _ (put_special_larger Rlength _) (λ _. lift_larger _))

pub separator_for_larger : (a : Option Argument) → Larger (separator_for a) (separator_for a)
separator_for_larger None = separator_larger
separator_for_larger (Some (OfEre text)) = lift_larger _
separator_for_larger (Some (OfValue v)) = lift_larger _
separator_for_larger (Some (OfArray x)) = lift_larger _
separator_for_larger (Some (OfPlace p old)) = lift_larger _

pub split_into_larger : (x : List ℕ) (pieces : List (List ℕ)) → Larger (split_into x pieces) (split_into x pieces)
unfolding split_into
split_into_larger x pieces = then_larger _ _ (fill_larger x pieces) (λ _. lift_larger _)

pub target_of_larger : (a : Option Argument) → Larger (target_of a) (target_of a)
target_of_larger (Some (OfPlace p old)) = lift_larger _
target_of_larger None = then_larger _ _ text_larger (λ v. lift_larger _)
target_of_larger (Some (OfValue v)) = then_larger _ _ text_larger (λ v. lift_larger _)
target_of_larger (Some (OfEre text)) = then_larger _ _ text_larger (λ v. lift_larger _)
target_of_larger (Some (OfArray x)) = then_larger _ _ text_larger (λ v. lift_larger _)

pub assign_exchange_larger : (p : Place) (n : ℕ) (text : List ℕ) → Larger (assign_exchange p n text) (assign_exchange p n text)
assign_exchange_larger p zero text = lift_larger _
assign_exchange_larger p (suc n) text = then_larger _ _ (store_larger p (value.Text text)) (λ _. lift_larger _)

pub exchange_larger : (all : Bool) (arguments : List Argument) → Larger (exchange all arguments) (exchange all arguments)
unfolding exchange
exchange_larger all arguments = then_larger _ _ (target_of_larger _) (λ target. then_larger _ _ (lift_larger _) (λ t. assign_exchange_larger target.0 _ _))

pub record_length_larger : Larger record_length record_length
unfolding record_length
record_length_larger = then_larger _ _ text_larger (λ v. lift_larger (applied_all built_in.Length (v ∷ [])))

pub count_elements_larger : (x : List ℕ) → Larger (count_elements x) (count_elements x)
unfolding count_elements
count_elements_larger x = then_larger _ _ (length_larger x) (λ n. lift_larger _)

pub flush_outputs_larger : Larger flush_outputs flush_outputs
unfolding flush_outputs
flush_outputs_larger = then_larger _ _ flush_all_larger (λ _. lift_larger _)

pub built_in_larger : (f : BuiltInName) (arguments : List Argument) → Larger (apply_built_in f arguments) (apply_built_in f arguments)
unfolding apply_built_in
built_in_larger built_in.Length [] = record_length_larger
built_in_larger built_in.Length (OfArray x ∷ arguments) = count_elements_larger x
built_in_larger built_in.Length (OfValue v ∷ arguments) = lift_larger _
built_in_larger built_in.Length (OfEre text ∷ arguments) = lift_larger _
built_in_larger built_in.Length (OfPlace p old ∷ arguments) = lift_larger _
built_in_larger built_in.Match arguments = then_larger _ _ (lift_larger (pattern_in (text_at arguments 1))) (λ t. note_match_larger (find_from t (text_at arguments 0) 0))
built_in_larger built_in.Split arguments = then_larger _ _ (separator_for_larger (slice_get arguments 2)) (λ separator. split_into_larger (array_at arguments) _)
built_in_larger built_in.Sub arguments = exchange_larger false arguments
built_in_larger built_in.Gsub arguments = exchange_larger true arguments
built_in_larger built_in.System arguments = then_larger _ _ (run_command_larger _) (λ n. lift_larger _)
built_in_larger built_in.Fflush [] = flush_outputs_larger
built_in_larger built_in.Fflush (a ∷ arguments) = then_larger _ _ (flush_named_larger _) (λ n. lift_larger _)
built_in_larger built_in.Close arguments = then_larger _ _ (close_named_larger _) (λ n. lift_larger _)
built_in_larger built_in.Substr arguments = lift_larger _
built_in_larger built_in.Index arguments = lift_larger _
built_in_larger built_in.Sprintf arguments = lift_larger _
built_in_larger built_in.ToLower arguments = lift_larger _
built_in_larger built_in.ToUpper arguments = lift_larger _
built_in_larger built_in.Int arguments = lift_larger _
