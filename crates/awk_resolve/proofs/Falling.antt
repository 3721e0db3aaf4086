-- No node raises the steps: a line for each.
use Rattle.std.proofs.Math.Nat.{le_refl, le_trans}
use Rattle.std.proofs.Common.{◌≡◌, ℕ, pos, zero, suc, ◌≤◌, Bool, List, [], ◌∷◌, ◌++◌, map, slice_get, codes, Option, Some, None, Result, Ok, Err, refl, sym, subst}
use Rattle.std.specs.List.{concat}
use Rattle.awk_value.specs.declared.value.Value.{Value}
use Rattle.awk_value.specs.declared.value.Value.TheVariants as value
use Rattle.awk_value.specs.Values.{str_of, truth_of}
use Rattle.awk_lex.specs.declared.token.IncrementOperator.{IncrementOperator}
use Rattle.awk_lex.specs.declared.token.Operator.{Operator}
use Rattle.awk_text.specs.definitions.Separators.{Separator}
use Rattle.awk_grammar.specs.declared.tree.Redirection.{Redirection}
use Rattle.awk_world.specs.declared.world.InputKind.{InputKind}
use Rattle.awk_world.specs.declared.world.InputKind.TheVariants as input
use Rattle.awk_kinds.specs.declared.special.Special.TheVariants.{Nr, Fnr}
use Rattle.awk_kinds.specs.Variables.{name_of}
use Rattle.awk_semantics.specs.declared.halt.Halt.{Halt}
use Rattle.awk_semantics.specs.declared.local.Local.{Local}
use Rattle.awk_semantics.specs.declared.local.Local.TheVariants as local
use Rattle.awk_semantics.specs.definitions.State.{Effect, State, Out, Run, go_on, ◌>>=◌, lift}
use Rattle.awk_semantics.specs.definitions.Operators.{by_one, one, operator_of}
use Rattle.awk_semantics.specs.definitions.Primitives.{read_element_at, store_element_at, has_element_at, delete_element_at, clear_array_at, array_length_at, keys_at, fill_array_at, is_inside}
use Rattle.awk_semantics.specs.definitions.BuiltIns.{count_value}
use Rattle.awk_semantics.specs.definitions.Streams.{Answer, ARecord, NoRecord, NotReadable}
use Rattle.awk_semantics.specs.definitions.Semantics.{Functions}
use Rattle.awk_semantics.specs.support.Keeps.{Keeps, CallsKeep}
use Rattle.awk_semantics.proofs.Keeping.{keeps_lift, keeps_plain}
use Rattle.awk_semantics.proofs.PlainRuns.{next_of_plain}
use Rattle.awk_semantics.proofs.PlainParts.{count_of_plain}
use Rattle.awk_semantics.proofs.KeepsForms.{keeps_spend, keeps_number_of, keeps_read_field, keeps_record_text, keeps_read_outside, keeps_set_field, keeps_put_outside, keeps_read_element_at, keeps_store_element_at, keeps_has_element_at, keeps_delete_element_at, keeps_clear_array_at, keeps_array_length_at, keeps_keys_at, keeps_fill_array_at, keeps_joined_key, keeps_field_separator, keeps_check_height, keeps_set_status, keeps_is_inside, keeps_set_inside, keeps_note_match, keeps_record_length, keeps_print_by, keeps_print_line, keeps_open_target, keeps_close_main, keeps_close_named, keeps_run_command, keeps_flush_outputs, keeps_flush_named, keeps_next_record, keeps_set_record, keeps_count_in}
use Rattle.awk_storage.specs.declared.position.Array.{Array}
use Rattle.awk_storage.specs.declared.position.Variable.{Variable}
use Rattle.awk_storage.specs.declared.position.Variable.TheVariants as variable
use Rattle.awk_storage.specs.declared.position.Place.{Place}
use Rattle.awk_storage.specs.declared.position.Place.TheVariants as place
use Rattle.awk_storage.specs.support.Positions.{newest_locals, with_local_at, read_local, put_local, read_slot, put_slot, number_at, read_element_of, store_element_of, read_variable, put_variable, read_at, store_at, assign_at, assign_by_at, post_increment_at}
use Rattle.awk_storage.specs.support.Forms.{contains_at, delete_at, clear_at, count_elements_at, keys_of_array, fill_at, match_in, split_with, assign_exchange_at, substitute_at, receive_at, receive_main_at, main_getline_at, receive_named_at, named_getline_at}
use Rattle.awk_resolve.specs.declared.node.OutsideCall.{OutsideCall}
use Rattle.awk_resolve.specs.declared.node.OutsideCall.TheVariants as outside
use Rattle.awk_resolve.specs.declared.node.ArgumentForm.{ArgumentForm}
use Rattle.awk_lex.specs.declared.token.AssignmentOperator.{AssignmentOperator}
use Rattle.awk_grammar.specs.declared.tree.BinaryOperator.{BinaryOperator}
use Rattle.awk_resolve.specs.declared.node.Operand.{Operand}
use Rattle.awk_resolve.specs.declared.node.Operand.TheVariants as operand
use Rattle.awk_resolve.specs.declared.node.Key.{Key}
use Rattle.awk_resolve.specs.declared.node.Key.TheVariants as key
use Rattle.awk_resolve.specs.declared.node.Target.{Target}
use Rattle.awk_resolve.specs.declared.node.Target.TheVariants as target
use Rattle.awk_resolve.specs.declared.node.Source.{Source}
use Rattle.awk_resolve.specs.declared.node.Source.TheVariants as source
use Rattle.awk_resolve.specs.declared.node.SplitBy.TheVariants as by
use Rattle.awk_resolve.specs.declared.node.Tested.{Tested}
use Rattle.awk_resolve.specs.declared.node.Tested.TheVariants as tested
use Rattle.awk_resolve.specs.declared.node.ValueNode.{ValueNode}
use Rattle.awk_resolve.specs.declared.node.ValueNode.TheVariants as v
use Rattle.awk_resolve.specs.declared.node.EffectNode.{EffectNode}
use Rattle.awk_resolve.specs.declared.node.EffectNode.TheVariants as e
use Rattle.awk_resolve.specs.support.Nodes.{operand_value, operated_with, operated_on, operand_values, key_value, assign_variable, append_to, append_operands_at, append_operands, append_by_step, print_by_step, assign_target, raise_target, update, increment, Tables, first, second, taken, given_by, call_at, substitute_by, substitute, substitute_in, getline_by, value_of, asked, target_by, effect_of, outside_value}

pub record Falls {A : Type 0} (m : Run A) : Type 0 where
  pub falls : (s : State) → (m s).state.steps ≤ s.steps

pub kept_falls : {A : Type 0} {m : Run A} → Keeps m → Falls m
kept_falls k = record { falls = k.falls }

go_falls : {A B : Type 0} (f : A → Run B) (s : State) → ((a : A) → Falls (f a)) → (r : Result A Halt) (t : State) (effects : List Effect) → t.steps ≤ s.steps → (go_on r t effects f).state.steps ≤ s.steps
unfolding go_on
go_falls f s h (Ok a) t effects e = le_trans ((h a).falls t) e
go_falls f s h (Err x) t effects e = e

pub then_falls : {A B : Type 0} {m : Run A} (f : A → Run B) → Falls m → ((a : A) → Falls (f a)) → Falls (m >>= f)
unfolding ◌>>=◌
then_falls {m = m} f x h = record { falls = λ s. go_falls f s h (m s).result (m s).state (m s).effects (x.falls s) }

lift_falls : {A : Type 0} (r : Result A Halt) → Falls (lift r)
lift_falls r = kept_falls (keeps_lift r)

-- what does in each state what a run does that falls
falls_at : {A : Type 0} (m : Run A) → ((s : State) → (n : Run A) × Falls n × (m s ≡ n s)) → Falls m
falls_at {A = A} m h = record { falls = λ s. subst (λ (o : Out A). o.state.steps ≤ s.steps) (sym (h s).2) ((h s).1.falls s) }

-- variables, elements and places

read_local_falls : (i : ℕ) → Falls (read_local i)
unfolding read_local
read_local_falls i = record { falls = λ s. le_refl s.steps }

local_low : (o : Option (List ℕ × Local)) (i : ℕ) (w : Value) (s : State) → (with_local_at o i w s).steps ≤ s.steps
local_low None i w s = le_refl s.steps
local_low (Some (x, local.Value old)) i w s = le_refl s.steps
local_low (Some (x, local.Array n)) i w s = le_refl s.steps

put_local_falls : (i : ℕ) (w : Value) → Falls (put_local i w)
unfolding put_local
put_local_falls i w = record { falls = λ s. local_low (slice_get (newest_locals s.frames) i) i w s }

read_slot_falls : (o : Option (List ℕ)) → Falls (read_slot o)
read_slot_falls None = lift_falls (Ok value.Nothing)
read_slot_falls (Some x) = kept_falls (keeps_read_outside x)

put_slot_falls : (o : Option (List ℕ)) (w : Value) → Falls (put_slot o w)
put_slot_falls None w = lift_falls (Ok tt)
put_slot_falls (Some x) w = kept_falls (keeps_put_outside x w)

read_element_falls : (a : Array) (key : List ℕ) → Falls (read_element_of a key)
unfolding read_element_of
read_element_falls a key = falls_at _ (λ s. (read_element_at (number_at a s) key, kept_falls (keeps_read_element_at (number_at a s) key), refl))

store_element_falls : (a : Array) (key : List ℕ) (w : Value) → Falls (store_element_of a key w)
unfolding store_element_of
store_element_falls a key w = falls_at _ (λ s. (store_element_at (number_at a s) key w, kept_falls (keeps_store_element_at (number_at a s) key w), refl))

contains_falls : (a : Array) (key : List ℕ) → Falls (contains_at a key)
unfolding contains_at
contains_falls a key = falls_at _ (λ s. (has_element_at (number_at a s) key, kept_falls (keeps_has_element_at (number_at a s) key), refl))

delete_falls : (a : Array) (key : List ℕ) → Falls (delete_at a key)
unfolding delete_at
delete_falls a key = falls_at _ (λ s. (delete_element_at (number_at a s) key, kept_falls (keeps_delete_element_at (number_at a s) key), refl))

clear_falls : (a : Array) → Falls (clear_at a)
unfolding clear_at
clear_falls a = falls_at _ (λ s. (clear_array_at (number_at a s), kept_falls (keeps_clear_array_at (number_at a s)), refl))

count_falls : (a : Array) → Falls (count_elements_at a)
unfolding count_elements_at
count_falls a = falls_at _ (λ s. ((array_length_at (number_at a s) >>= λ n. count_value n), then_falls _ (kept_falls (keeps_array_length_at (number_at a s))) (λ n. lift_falls _), refl))

inside_falls : (i : ℕ) → Falls (is_inside i)
inside_falls i = kept_falls (keeps_is_inside i)

pub keys_falls : (a : Array) → Falls (keys_of_array a)
unfolding keys_of_array
keys_falls a = falls_at _ (λ s. (keys_at (number_at a s), kept_falls (keeps_keys_at (number_at a s)), refl))

fill_falls : (a : Array) (texts : List (List ℕ)) → Falls (fill_at a texts)
unfolding fill_at
fill_falls a texts = falls_at _ (λ s. (fill_array_at (number_at a s) texts, kept_falls (keeps_fill_array_at (number_at a s) texts), refl))

module _ (names : List (List ℕ)) where
  read_variable_falls : (x : Variable) → Falls (read_variable names x)
  read_variable_falls (variable.Special x) = kept_falls (keeps_read_outside (name_of x))
  read_variable_falls variable.FieldCount = kept_falls (keeps_read_outside (codes "NF"))
  read_variable_falls (variable.Global i) = read_slot_falls (slice_get names i)
  read_variable_falls (variable.Local i) = read_local_falls i

  pub put_variable_falls : (x : Variable) (w : Value) → Falls (put_variable names x w)
  put_variable_falls (variable.Special x) w = kept_falls (keeps_put_outside (name_of x) w)
  put_variable_falls variable.FieldCount w = kept_falls (keeps_put_outside (codes "NF") w)
  put_variable_falls (variable.Global i) w = put_slot_falls (slice_get names i) w
  put_variable_falls (variable.Local i) w = put_local_falls i w

  read_at_falls : (p : Place) (operand : Value) → Falls (read_at names p operand)
  read_at_falls (place.Variable x) operand = read_variable_falls x
  read_at_falls (place.Element a) operand = read_element_falls a (str_of operand)
  read_at_falls place.Field operand = then_falls _ (kept_falls (keeps_number_of operand)) (λ k. kept_falls (keeps_read_field k))

  store_at_falls : (p : Place) (operand w : Value) → Falls (store_at names p operand w)
  store_at_falls (place.Variable x) operand w = put_variable_falls x w
  store_at_falls (place.Element a) operand w = store_element_falls a (str_of operand) w
  store_at_falls place.Field operand w = then_falls _ (kept_falls (keeps_number_of operand)) (λ k. kept_falls (keeps_set_field k w))

  assign_falls : (p : Place) (operand w : Value) → Falls (assign_at names p operand w)
  unfolding assign_at
  assign_falls p operand w = then_falls _ (store_at_falls p operand w) (λ _. read_at_falls p operand)

  assign_by_falls : (o : Option Operator) (p : Place) (operand w : Value) → Falls (assign_by_at names o p operand w)
  unfolding assign_by_at
  assign_by_falls None p operand w = assign_falls p operand w
  assign_by_falls (Some o) p operand w = then_falls _ (read_at_falls p operand) (λ old. then_falls _ (lift_falls _) (λ x. assign_falls p operand x))

  post_falls : (o : IncrementOperator) (p : Place) (operand : Value) → Falls (post_increment_at names o p operand)
  unfolding post_increment_at
  post_falls o p operand = then_falls _ (read_at_falls p operand) (λ x. then_falls _ (kept_falls (keeps_number_of x)) (λ k. then_falls _ (lift_falls _) (λ w. then_falls _ (store_at_falls p operand w) (λ _. lift_falls _))))

-- operands that are read where they stand
module _ (names : List (List ℕ)) where
  operand_falls : (a : Operand) → Falls (operand_value names a)
  operand_falls (operand.Constant x) = lift_falls (Ok x)
  operand_falls (operand.Variable x) = read_variable_falls names x
  operand_falls (operand.Field k) = kept_falls (keeps_read_field (pos k))
  operand_falls (operand.FieldAt x) = then_falls _ (read_variable_falls names x) (λ w. then_falls _ (kept_falls (keeps_number_of w)) (λ k. kept_falls (keeps_read_field k)))

  operands_fall : (list : List Operand) → Falls (operand_values names list)
  operands_fall [] = lift_falls (Ok [])
  operands_fall (a ∷ rest) = then_falls _ (operand_falls a) (λ w. then_falls _ (operands_fall rest) (λ ws. lift_falls _))

  pub operated_with_falls : (o : BinaryOperator) (x : Value) (b : Operand) → Falls (operated_with names o x b)
  operated_with_falls o x b = then_falls _ (operand_falls b) (λ y. lift_falls _)

  pub operated_on_falls : (o : BinaryOperator) (a b : Operand) → Falls (operated_on names o a b)
  operated_on_falls o a b = then_falls _ (operand_falls a) (λ x. operated_with_falls o x b)

  key_falls : (k : Key) → Falls (key_value names k)
  key_falls (key.At a) = operand_falls a
  key_falls (key.Joined list) = then_falls _ (operands_fall list.items) (λ ws. lift_falls _)

  assign_variable_falls : (o : AssignmentOperator) (x : Variable) (w : Value) → Falls (assign_variable names o x w)
  assign_variable_falls o x w = assign_by_falls names (operator_of o) (place.Variable x) value.Nothing w

  pub append_to_falls : (x : Variable) (ws : List Value) → Falls (append_to names x ws)
  append_to_falls x ws = then_falls _ (read_variable_falls names x) (λ old. assign_by_falls names None (place.Variable x) value.Nothing (value.Text (str_of old ++ concat (map str_of ws))))

  append_operands_at_falls : (p : Place) (w : Value) (list : List Operand) → Falls (append_operands_at names p w list)
  append_operands_at_falls p w list = then_falls _ (read_at_falls names p w) (λ old. then_falls _ (operands_fall list) (λ ws. assign_by_falls names None p w (value.Text (str_of old ++ concat (map str_of ws)))))

  append_operands_falls : (t : Target) (list : List Operand) → Falls (append_operands names t list)
  append_operands_falls (target.Variable x) list = append_operands_at_falls (place.Variable x) value.Nothing list
  append_operands_falls (target.Element a k) list = then_falls _ (key_falls k) (λ w. append_operands_at_falls (place.Element a) w list)

  pub append_by_step_falls : (t : Target) (list : List Operand) → Falls (append_by_step names t list)
  append_by_step_falls t list = then_falls _ (kept_falls keeps_spend) (λ _. append_operands_falls t list)

  pub print_by_step_falls : (list : List Operand) → Falls (print_by_step names list)
  print_by_step_falls list = then_falls _ (kept_falls keeps_spend) (λ _. then_falls _ (operands_fall list) (λ ws. kept_falls (keeps_print_line 0 ws)))

  assign_target_falls : (o : AssignmentOperator) (t : Target) (a : Operand) → Falls (assign_target names o t a)
  assign_target_falls o (target.Variable x) a = then_falls _ (operand_falls a) (λ w. assign_variable_falls o x w)
  assign_target_falls o (target.Element e k) a = then_falls _ (key_falls k) (λ x. then_falls _ (operand_falls a) (λ w. assign_by_falls names (operator_of o) (place.Element e) x w))

  raise_target_falls : (o : IncrementOperator) (t : Target) → Falls (raise_target names o t)
  raise_target_falls o (target.Variable x) = post_falls names o (place.Variable x) value.Nothing
  raise_target_falls o (target.Element e k) = then_falls _ (key_falls k) (λ x. post_falls names o (place.Element e) x)

  pub update_falls : (o : AssignmentOperator) (t : Target) (a : Operand) → Falls (update names o t a)
  update_falls o t a = then_falls _ (kept_falls keeps_spend) (λ _. assign_target_falls o t a)

  pub increment_falls : (o : IncrementOperator) (t : Target) → Falls (increment names o t)
  increment_falls o t = then_falls _ (kept_falls keeps_spend) (λ _. raise_target_falls o t)

-- built-in functions and calls

match_falls : (pattern text : List ℕ) → Falls (match_in pattern text)
match_falls pattern text = then_falls _ (lift_falls _) (λ t. kept_falls (keeps_note_match _))

split_falls : (a : Array) (text : List ℕ) {m : Run Separator} → Falls m → Falls (split_with a text m)
split_falls a text h = then_falls _ h (λ separator. then_falls _ (fill_falls a _) (λ _. lift_falls _))

given_falls : (fs : List ArgumentForm) (vs : List Value) → Falls (given_by fs vs)
unfolding given_by
given_falls fs vs = record { falls = λ s. le_refl s.steps }

module _ (names : List (List ℕ)) where
  exchange_falls : (p : Place) (operand : Value) (count : ℕ) (text : List ℕ) → Falls (assign_exchange_at names p operand count text)
  exchange_falls p operand zero text = lift_falls _
  exchange_falls p operand (suc k) text = then_falls _ (store_at_falls names p operand _) (λ _. lift_falls _)

  substitute_at_falls : (all : Bool) (pattern replacement : List ℕ) (p : Place) (operand old : Value) → Falls (substitute_at names all pattern replacement p operand old)
  substitute_at_falls all pattern replacement p operand old = then_falls _ (lift_falls _) (λ t. exchange_falls p operand _ _)

  receive_falls : (p : Option Place) (operand : Value) (text : List ℕ) → Falls (receive_at names p operand text)
  receive_falls None operand text = kept_falls (keeps_set_record text)
  receive_falls (Some p) operand text = store_at_falls names p operand (value.Input text)

  receive_main_falls : (p : Option Place) (operand : Value) (found : Option (List ℕ)) → Falls (receive_main_at names p operand found)
  receive_main_falls p operand None = lift_falls _
  receive_main_falls p operand (Some text) = then_falls _ (kept_falls keeps_spend) (λ _. then_falls _ (receive_falls p operand text) (λ _. then_falls _ (kept_falls (keeps_count_in Nr)) (λ _. then_falls _ (kept_falls (keeps_count_in Fnr)) (λ _. lift_falls _))))

  main_getline_falls : (p : Option Place) (operand : Value) → Falls (main_getline_at names p operand)
  unfolding main_getline_at
  main_getline_falls p operand = then_falls _ (kept_falls keeps_next_record) (λ found. receive_main_falls p operand found)

  receive_named_falls : (kind : InputKind) (p : Option Place) (operand : Value) (found : Answer) → Falls (receive_named_at names kind p operand found)
  receive_named_falls kind p operand (ARecord text) = then_falls _ (receive_falls p operand text) (λ _. then_falls _ (kept_falls (keeps_plain (count_of_plain kind))) (λ _. lift_falls _))
  receive_named_falls kind p operand NoRecord = lift_falls _
  receive_named_falls kind p operand NotReadable = lift_falls _

  named_getline_falls : (kind : InputKind) (name : List ℕ) (p : Option Place) (operand : Value) → Falls (named_getline_at names kind name p operand)
  unfolding named_getline_at
  named_getline_falls kind name p operand = then_falls _ (kept_falls (keeps_plain (next_of_plain kind name))) (λ found. receive_named_falls kind p operand found)

target_falls : (way : Option Redirection) (vs : List Value) → Falls (target_by way vs)
target_falls None vs = lift_falls (Ok 0)
target_falls (Some way) vs = kept_falls (keeps_open_target way (str_of (first vs)))

module _ (tables : Tables) where
  substitute_by_falls : (all : Bool) (pattern : Option ℕ) (p : Place) (operand old : Value) (vs : List Value) → Falls (substitute_by tables all pattern p operand old vs)
  substitute_by_falls all (Some i) p operand old vs = substitute_at_falls tables.names all _ _ p operand old
  substitute_by_falls all None p operand old vs = substitute_at_falls tables.names all _ _ p operand old

  substitute_falls : (all : Bool) (pattern : Option ℕ) (p : Option Place) (vs : List Value) → Falls (substitute tables all pattern p vs)
  substitute_falls all pattern None vs = then_falls _ (kept_falls keeps_record_text) (λ old. substitute_by_falls all pattern place.Field _ old vs)
  substitute_falls all pattern (Some p) vs = substitute_by_falls all pattern p _ _ _

  substitute_in_falls : (all : Bool) (i : ℕ) (w : Value) (x : Option Variable) → Falls (substitute_in tables all i w x)
  substitute_in_falls all i w None = then_falls _ (kept_falls keeps_record_text) (λ old. substitute_at_falls tables.names all _ _ place.Field (value.Number (pos 0)) old)
  substitute_in_falls all i w (Some x) = then_falls _ (read_variable_falls tables.names x) (λ old. substitute_at_falls tables.names all _ _ (place.Variable x) value.Nothing old)

  pub asked_falls : (x : Tested) (vs : List Value) → Falls (asked tables x vs)
  asked_falls tested.Top vs = lift_falls (Ok (truth_of (first vs)))
  asked_falls (tested.Inside i) vs = inside_falls i
  asked_falls (tested.Raised o t) vs = then_falls _ (raise_target_falls tables.names o t) (λ w. lift_falls (Ok (truth_of w)))
  asked_falls (tested.Element a k) vs = then_falls _ (key_falls tables.names k) (λ w. contains_falls a (str_of w))

  getline_falls : (x : Source) (p : Option Place) (vs : List Value) → Falls (getline_by tables x p vs)
  getline_falls source.Main p vs = main_getline_falls tables.names p (first vs)
  getline_falls source.File p vs = named_getline_falls tables.names input.File _ p (second vs)
  getline_falls source.Command p vs = named_getline_falls tables.names input.Command _ p (first vs)

  module _ (functions : Functions) (calls : CallsKeep functions) where
    call_falls : (f : List ℕ) (fs : List ArgumentForm) (vs : List Value) → Falls (call_at functions f fs vs)
    call_falls f fs vs = then_falls _ (given_falls fs vs) (λ given. then_falls _ (kept_falls (keeps_check_height (functions.height f))) (λ _. then_falls _ (kept_falls keeps_spend) (λ _. kept_falls (calls f given))))

    outside_falls : (call : OutsideCall) (vs : List Value) → Falls (outside_value call vs)
    outside_falls outside.Close vs = then_falls _ (kept_falls (keeps_close_named (str_of (first vs)))) (λ k. lift_falls _)
    outside_falls outside.System vs = then_falls _ (kept_falls (keeps_run_command (str_of (first vs)))) (λ k. lift_falls _)
    outside_falls outside.FlushAll vs = kept_falls keeps_flush_outputs
    outside_falls outside.Flush vs = then_falls _ (kept_falls (keeps_flush_named (str_of (first vs)))) (λ k. lift_falls _)

    pub value_falls : (x : ValueNode) (vs : List Value) → Falls (value_of tables functions x vs)
    value_falls (v.Put a) vs = operand_falls tables.names a
    value_falls (v.Matches a i) vs = then_falls _ (operand_falls tables.names a) (λ x. lift_falls _)
    value_falls (v.Operate o) vs = lift_falls _
    value_falls (v.OperateWith o b) vs = operated_with_falls tables.names o (first vs) b
    value_falls (v.OperateOn o a b) vs = operated_on_falls tables.names o a b
    value_falls (v.MatchesEre o i) vs = lift_falls _
    value_falls (v.Change o) vs = lift_falls _
    value_falls (v.ConcatenateAll k) vs = lift_falls _
    value_falls v.ReadField vs = then_falls _ (kept_falls (keeps_number_of (first vs))) (λ k. kept_falls (keeps_read_field k))
    value_falls (v.ReadElement a None) vs = read_element_falls a _
    value_falls (v.ReadElement a (Some k)) vs = then_falls _ (key_falls tables.names k) (λ w. read_element_falls a (str_of w))
    value_falls (v.Contains a None) vs = then_falls _ (contains_falls a _) (λ b. lift_falls _)
    value_falls (v.Contains a (Some k)) vs = then_falls _ (key_falls tables.names k) (λ w. then_falls _ (contains_falls a (str_of w)) (λ b. lift_falls _))
    value_falls (v.Key k) vs = then_falls _ (kept_falls (keeps_joined_key (taken k vs))) (λ key. lift_falls _)
    value_falls v.FieldNumber vs = then_falls _ (kept_falls (keeps_number_of (first vs))) (λ k. lift_falls _)
    value_falls (v.Assign o p) vs = assign_by_falls tables.names (operator_of o) p (second vs) (first vs)
    value_falls (v.Append x) vs = then_falls _ (lift_falls _) (λ w. assign_by_falls tables.names None (place.Variable x) value.Nothing w)
    value_falls (v.PreIncrement o p) vs = assign_by_falls tables.names (Some (by_one o)) p (first vs) one
    value_falls (v.PostIncrement o p) vs = post_falls tables.names o p (first vs)
    value_falls (v.PostIncrementAt o t) vs = raise_target_falls tables.names o t
    value_falls (v.Load p) vs = read_at_falls tables.names p (first vs)
    value_falls v.RecordLength vs = kept_falls keeps_record_length
    value_falls (v.CountElements a) vs = count_falls a
    value_falls (v.Apply f k) vs = lift_falls _
    value_falls (v.ApplyTo f list k) vs = then_falls _ (operands_fall tables.names list.items) (λ ws. lift_falls _)
    value_falls (v.Match (Some i)) vs = match_falls _ _
    value_falls (v.Match None) vs = match_falls _ _
    value_falls (v.Split a by.FieldSeparator) vs = split_falls a _ (kept_falls keeps_field_separator)
    value_falls (v.Split a by.Value) vs = split_falls a _ (lift_falls _)
    value_falls (v.Split a (by.Ere i)) vs = split_falls a _ (lift_falls _)
    value_falls (v.Substitute all pattern p) vs = substitute_falls all pattern p vs
    value_falls (v.SubstituteIn x) vs = substitute_in_falls x.all x.ere x.replacement x.variable
    value_falls (v.Getline x p) vs = getline_falls x p vs
    value_falls (v.Outside call) vs = outside_falls call vs
    value_falls (v.Call f fs) vs = call_falls _ fs.items _

    pub effect_falls : (x : EffectNode) (vs : List Value) → Falls (effect_of tables functions x vs)
    effect_falls (e.Exchange x) vs = then_falls _ (kept_falls keeps_spend) (λ _. then_falls _ (substitute_in_falls x.all x.ere x.replacement x.variable) (λ _. lift_falls (Ok tt)))
    effect_falls (e.Drop k) vs = lift_falls (Ok tt)
    effect_falls (e.Delete a) vs = delete_falls a _
    effect_falls (e.Clear a) vs = clear_falls a
    effect_falls e.EndInput vs = kept_falls keeps_close_main
    effect_falls (e.Print f k way) vs = then_falls _ (target_falls way vs) (λ n. kept_falls (keeps_print_by functions calls f n _))
    effect_falls e.SetStatus vs = kept_falls (keeps_set_status (first vs))
    effect_falls (e.SetInside i b) vs = kept_falls (keeps_set_inside i b)
