-- A row is shown by computing: what its text comes to is computed, and what is computed is what it means.
use Rattle.std.proofs.Common.{◌≡◌, ◌≢◌, ℕ, ◌+◌, Bool, true, false, List, Option, Some, None, refl, sym, ap, ◌∙◌}
use Rattle.std.specs.Fmt.{digits}
use Rattle.awk_ere.specs.Means.{occurs}
use Rattle.awk_ere.specs.support.PatternOf.{pattern_of}
use Rattle.awk_text.specs.support.ChosenSeparators.{longest_end, next_separator, separators_from}
use Rattle.awk_streams.specs.Oracle.{Oracle}
use Rattle.awk_streams.specs.Openings.{Opening}
use Rattle.awk_grammar.specs.Tree.{Item}
use Rattle.awk_semantics.specs.declared.outcome.Outcome.{Outcome}
use Rattle.awk_semantics.specs.declared.outcome.Outcome.TheVariants.{Stopped}
use Rattle.awk_semantics.specs.State.{Out, go_on, ◌>>=◌, lift}
use Rattle.awk_semantics.specs.Primitives.{spend, read_field, record_text, set_record, set_count, set_field, read_name, put_outside, put, put_special, count_in, is_array, read_element_at, store_element_at, has_element_at, delete_element_at, clear_array_at, array_length_at, keys_at, read_element, store_element, has_element, delete_element, keys_in, fill_array_at, clear_array, array_length, fill_array, field_separator, joined_key, check_height, enter, leave, print_bytes, print_line, take_argument, is_inside, set_inside, set_status}
use Rattle.awk_semantics.specs.Streams.{open_main, note_input, is_input_seen, begin_input, take_record, close_main, check_streams, ask_input, open_input, take_named, next_of, ask_output, open_output, close_stream, streams_named, close_named, flush_all, flush_named, run_command}
use Rattle.awk_semantics.specs.Inputs.{check_assignment, assign_text, main_record, first_record, operand_record, standard_record, search_operands_within, search_operands, next_record}
use Rattle.awk_semantics.specs.Places.{read_place, store, assign, assign_by, post_increment, main_getline, named_getline}
use Rattle.awk_semantics.specs.Texts.{find_from, find_behind, exchanged}
use Rattle.awk_semantics.specs.BuiltIns.{locals_of, note_match, split_into, exchange, record_length, count_elements, flush_outputs, apply_built_in}
use Rattle.awk_semantics.specs.Semantics.{tested, eval, eval_all, printed_values, target_of, print, begin_test, exit_with, returned_value, exec_simple, exec_part, goes_on, turn, repeat_within, repeat, walk, exec}
use Rattle.awk_semantics.specs.Calls.{call_within}
use Rattle.awk_semantics.specs.Items.{until_next, until_exit, begin_record, each_record, run_records, run_action, go_through, begin_range, selects, print_record, try_item, try_items, begin_item, begin_items, end_item, end_items, run_before_end, run_items}
use Rattle.awk_semantics.specs.Meaning.{StartValues, assign_all, assign_and_run, run_program, outcome_of, outputs_after, meaning_of}
use Rattle.awk_semantics.proofs.LawOfLimits.{law_of_limits}
use Rattle.awk_rows.specs.definitions.Outside.{plain, given, prints}
use Rattle.awk_rows.specs.definitions.Row.{Means, MeansFrom, ample, Gives, GivesOf}
use Rattle.awk_rows.proofs.Reading.{program_of, program_sound}

-- what a row computes with: its proof unfolds this, and with it all that stands on the line
unfoldable pub computed : Unit {0}
unfolding digits occurs pattern_of longest_end next_separator separators_from go_on ◌>>=◌ lift spend read_field record_text set_record set_count set_field read_name put_outside put put_special count_in is_array read_element_at store_element_at has_element_at delete_element_at clear_array_at array_length_at keys_at read_element store_element has_element delete_element keys_in fill_array_at clear_array array_length fill_array field_separator joined_key check_height enter leave print_bytes print_line take_argument is_inside set_inside set_status open_main note_input is_input_seen begin_input take_record close_main check_streams ask_input open_input take_named next_of ask_output open_output close_stream streams_named close_named flush_all flush_named run_command check_assignment assign_text main_record first_record operand_record standard_record search_operands_within search_operands next_record read_place store assign assign_by post_increment main_getline named_getline find_from find_behind exchanged locals_of note_match split_into exchange record_length count_elements flush_outputs apply_built_in tested eval eval_all printed_values target_of print begin_test exit_with returned_value exec_simple exec_part goes_on turn repeat_within repeat walk exec call_within until_next until_exit begin_record each_record run_records run_action go_through begin_range selects print_record try_item try_items begin_item begin_items end_item end_items run_before_end run_items assign_all assign_and_run run_program
computed = tt

-- an outcome, and what is left on the outputs
pub record Come : Type 0 where
  pub outcome : Outcome
  pub outputs : List Opening

abbrev pub told : Out (Unit {0}) → Come
told out = record { outcome = outcome_of out.result out.state.status; outputs = outputs_after out.effects }

abbrev pub run_of : Option (List Item) → StartValues → Oracle → ℕ → Option Come
run_of None start outside limit = None
run_of (Some items) start outside limit = Some (told (run_program items start outside limit))

-- what a text comes to, if it is a program
abbrev pub come_of : List ℕ → StartValues → Oracle → ℕ → Option Come
come_of text start outside limit = run_of (program_of text) start outside limit

abbrev pub come : Outcome → List Opening → Option Come
come outcome outputs = Some (record { outcome = outcome; outputs = outputs })

by_items : (text : List ℕ) (start : StartValues) (outside : Oracle) (limit : ℕ) (outcome : Outcome) (outputs : List Opening) (o : Option (List Item))
    → program_of text ≡ o → run_of o start outside limit ≡ come outcome outputs → Means text start outside limit outcome outputs
by_items text start outside limit outcome outputs None is h = absurd (cc)
by_items text start outside limit outcome outputs (Some items) is h =
    let same : told (run_program items start outside limit) ≡ record { outcome = outcome; outputs = outputs } = cc in
    record { items = items; is_program = program_sound text items is; comes_to = ap (λ c. c.outcome) same; leaves = ap (λ c. c.outputs) same }

-- what is computed is what the text means
pub means : {text : List ℕ} {start : StartValues} {outside : Oracle} {limit : ℕ} {outcome : Outcome} {outputs : List Opening}
    → come_of text start outside limit ≡ come outcome outputs → Means text start outside limit outcome outputs
means {text} {start} {outside} {limit} {outcome} {outputs} h = by_items text start outside limit outcome outputs (program_of text) refl h

-- not stopped
abbrev pub is_settled : Outcome → Bool
is_settled Stopped = false
is_settled outcome = true

settled : (outcome : Outcome) → is_settled outcome ≡ true → outcome ≢ Stopped
settled outcome h e = let never : true ≡ false = sym h ∙ ap is_settled e in absurd (cc)

-- more steps change nothing, where a run isn't stopped
with_more : (text : List ℕ) (start : StartValues) (outside : Oracle) (least : ℕ) (outcome : Outcome) (outputs : List Opening)
    → outcome ≢ Stopped → Means text start outside least outcome outputs → MeansFrom text start outside least outcome outputs
with_more text start outside least outcome outputs goes_on m more =
    let same = (law_of_limits m.items start outside least more).settled (λ stops. goes_on (sym m.comes_to ∙ stops)) in
    record { items = m.items; is_program = m.is_program; comes_to = ap (λ x. x.outcome) same ∙ m.comes_to; leaves = ap (λ x. x.outputs) same ∙ m.leaves }

pub means_from : {text : List ℕ} {start : StartValues} {outside : Oracle} (least : ℕ) {outcome : Outcome} {outputs : List Opening}
    → is_settled outcome ≡ true → come_of text start outside least ≡ come outcome outputs → MeansFrom text start outside least outcome outputs
means_from {text} {start} {outside} least {outcome} {outputs} so h = with_more text start outside least outcome outputs (settled outcome so) (means h)

pub gives : {text : List ℕ} {outcome : Outcome} {bytes : List ℕ}
    → is_settled outcome ≡ true → ((outside : Oracle) → come_of text plain outside ample ≡ come outcome (prints bytes)) → Gives text outcome bytes
gives so h outside = means_from ample so (h outside)

pub gives_of : {text input : List ℕ} {outcome : Outcome} {bytes : List ℕ}
    → is_settled outcome ≡ true → come_of text plain (given input) ample ≡ come outcome (prints bytes) → GivesOf text input outcome bytes
gives_of so h = means_from ample so h
