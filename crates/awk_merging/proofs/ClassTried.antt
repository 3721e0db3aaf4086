-- Which programs sum up, by examples, and what the derived programs print: the definitions compute it.
use Rattle.std.proofs.Common.{refl}
use Rattle.std.specs.Fmt.{digits}
use Rattle.awk_semantics.specs.definitions.State.{go_on, ◌>>=◌, lift}
use Rattle.awk_semantics.specs.definitions.Primitives.{spend, read_field, record_text, set_record, read_name, put_outside, put, put_special, count_in, read_element_at, store_element_at, read_element, store_element, keys_at, keys_in, joined_key, print_bytes, print_line, take_argument, set_status}
use Rattle.awk_semantics.specs.definitions.Streams.{open_main, note_input, is_input_seen, begin_input, take_record, close_main}
use Rattle.awk_semantics.specs.definitions.Inputs.{main_record, first_record, standard_record, search_operands_within, search_operands, next_record}
use Rattle.awk_semantics.specs.definitions.Places.{read_place, store, assign, assign_by, post_increment}
use Rattle.awk_semantics.specs.definitions.BuiltIns.{apply_built_in}
use Rattle.awk_semantics.specs.definitions.Semantics.{tested, eval, eval_all, printed_values, target_of, print, begin_test, exit_with, exec_simple, turn, walk, exec}
use Rattle.awk_semantics.specs.definitions.Items.{until_next, until_exit, begin_record, each_record, run_records, run_action, selects, try_item, try_items, begin_item, begin_items, end_item, end_items, run_before_end, run_items}
use Rattle.awk_semantics.specs.definitions.Meaning.{assign_all, assign_and_run, run_program}
use Rattle.awk_merging.specs.definitions.Examples.{ExamplesOfClass, ExamplesOfMerging}

pub examples : ExamplesOfClass
examples = record { is_one = refl; is_loop = refl; is_end_loop = refl; is_changed = refl; loop_has_sum = refl; has_sums = refl; not_reads = refl; not_numbers = refl; not_prints = refl; not_record = refl; not_sets = refl; not_loop = refl; not_variable = refl; not_setting = refl }

pub merged : ExamplesOfMerging
unfolding digits go_on ◌>>=◌ lift spend read_field record_text set_record read_name put_outside put put_special count_in read_element_at store_element_at read_element store_element keys_at keys_in joined_key print_bytes print_line take_argument set_status open_main note_input is_input_seen begin_input take_record close_main main_record first_record standard_record search_operands_within search_operands next_record read_place store assign assign_by post_increment apply_built_in tested eval eval_all printed_values target_of print begin_test exit_with exec_simple turn walk exec until_next until_exit begin_record each_record run_records run_action selects try_item try_items begin_item begin_items end_item end_items run_before_end run_items assign_all assign_and_run run_program
merged = record {
  first = record { ends = refl; prints = refl };
  second = record { ends = refl; prints = refl };
  all = record { ends = refl; prints = refl };
  whole = record { ends = refl; prints = refl };
}
