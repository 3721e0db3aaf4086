-- What nodes mean: what is still to be done from a place, with the values that are awaited, the newest first.
use Rattle.std.specs.Prelude.{◌≡◌, ℕ, zero, suc, ◌+◌, ◌-◌, ◌<◌, pos, Bool, true, false, List, [], ◌∷◌, ◌++◌, length, map, reverse, take, drop, slice_get, get_or, unwrap_or, Option, Some, None, Result, Ok, Err}
use Rattle.std.specs.List.{concat}
use Rattle.std.specs.Option.{option_map}
use Rattle.awk_value.specs.declared.value.Value.{Value}
use Rattle.awk_value.specs.declared.value.Value.TheVariants as value
use Rattle.awk_value.specs.Values.{str_of, truth_of}
use Rattle.awk_lex.specs.declared.token.Operator.TheVariants.{Matches}
use Rattle.awk_lex.specs.declared.token.AssignmentOperator.{AssignmentOperator}
use Rattle.awk_lex.specs.declared.token.IncrementOperator.{IncrementOperator}
use Rattle.awk_grammar.specs.declared.tree.BinaryOperator.{BinaryOperator}
use Rattle.awk_grammar.specs.declared.tree.BinaryOperator.TheVariants.{Concatenate, Infix}
use Rattle.awk_grammar.specs.declared.tree.Redirection.{Redirection}
use Rattle.awk_world.specs.declared.world.InputKind.TheVariants as input
use Rattle.awk_kinds.specs.definitions.Signatures.{Signature}
use Rattle.awk_semantics.specs.declared.halt.Halt.{Halt}
use Rattle.awk_semantics.specs.declared.halt.Halt.TheVariants as halt
use Rattle.awk_semantics.specs.declared.local.Local.{Local}
use Rattle.awk_semantics.specs.declared.local.Local.TheVariants as local
use Rattle.awk_semantics.specs.definitions.State.{State, Run, ◌>>=◌, lift, ret, gives}
use Rattle.awk_semantics.specs.definitions.Operators.{truth_value, changed, applied, by_one, one, operator_of, pattern_in}
use Rattle.awk_semantics.specs.definitions.Texts.{separator_in, ere_separator}
use Rattle.awk_semantics.specs.definitions.Primitives.{spend, number_of, record_text, read_field, field_separator, joined_key, check_height, print_line, set_status, is_inside, set_inside}
use Rattle.awk_semantics.specs.definitions.BuiltIns.{applied_all, record_length, flush_outputs}
use Rattle.awk_semantics.specs.definitions.Streams.{open_target, close_main, close_named, run_command, flush_named}
use Rattle.awk_semantics.specs.definitions.Semantics.{Functions, choose, print_by}
use Rattle.awk_storage.specs.declared.position.Variable.{Variable}
use Rattle.awk_storage.specs.declared.position.Place.{Place}
use Rattle.awk_storage.specs.declared.position.Place.TheVariants as place
use Rattle.awk_storage.specs.support.Positions.{number_at, read_element_of, read_variable, put_variable, read_at, assign_by_at, post_increment_at}
use Rattle.awk_storage.specs.support.Forms.{contains_at, delete_at, clear_at, count_elements_at, keys_of_array, match_in, split_with, substitute_at, main_getline_at, named_getline_at}
use Rattle.awk_resolve.specs.declared.node.Operand.{Operand}
use Rattle.awk_resolve.specs.declared.node.Operand.TheVariants as operand
use Rattle.awk_resolve.specs.declared.node.Key.{Key}
use Rattle.awk_resolve.specs.declared.node.Key.TheVariants as key
use Rattle.awk_resolve.specs.declared.node.Target.{Target}
use Rattle.awk_resolve.specs.declared.node.Target.TheVariants as target
use Rattle.awk_resolve.specs.declared.node.Source.{Source}
use Rattle.awk_resolve.specs.declared.node.Source.TheVariants as source
use Rattle.awk_resolve.specs.declared.node.ArgumentForm.{ArgumentForm}
use Rattle.awk_resolve.specs.declared.node.ArgumentForm.TheVariants as form
use Rattle.awk_resolve.specs.declared.node.SplitBy.{SplitBy}
use Rattle.awk_resolve.specs.declared.node.SplitBy.TheVariants as by
use Rattle.awk_resolve.specs.declared.node.OutsideCall.{OutsideCall}
use Rattle.awk_resolve.specs.declared.node.OutsideCall.TheVariants as outside
use Rattle.awk_resolve.specs.declared.node.Tested.{Tested}
use Rattle.awk_resolve.specs.declared.node.Tested.TheVariants as tested
use Rattle.awk_resolve.specs.declared.node.Ending.{Ending}
use Rattle.awk_resolve.specs.declared.node.Ending.TheVariants as ending
use Rattle.awk_resolve.specs.declared.node.ValueNode.{ValueNode}
use Rattle.awk_resolve.specs.declared.node.ValueNode.TheVariants as v
use Rattle.awk_resolve.specs.declared.node.EffectNode.{EffectNode}
use Rattle.awk_resolve.specs.declared.node.EffectNode.TheVariants as e
use Rattle.awk_resolve.specs.declared.node.Node.{Node}
use Rattle.awk_resolve.specs.declared.node.Node.TheVariants as n

-- what the numbers in nodes stand for: the scalars of the whole program by their slots, the EREs, the arrays and the functions
pub record Tables : Type 0 where
  pub names : List (List ℕ)
  pub eres : List (List ℕ)
  pub arrays : List (List ℕ)
  pub functions : List Signature

abbrev pub ere_at : Tables → ℕ → List ℕ
ere_at tables i = get_or tables.eres i []

abbrev pub function_at : Tables → ℕ → List ℕ
function_at tables i = unwrap_or (option_map (λ (f : Signature). f.name) (slice_get tables.functions i)) []

-- the values that are awaited

abbrev pub Cont : Type 0
Cont = List Value → Run Value

-- nothing is left to be done
abbrev pub nothing : Cont
nothing vs = ret value.Nothing

abbrev pub first : List Value → Value
first vs = get_or vs 0 value.Nothing

abbrev pub second : List Value → Value
second vs = get_or vs 1 value.Nothing

-- so many of them, in the order in which they were evaluated
abbrev pub taken : ℕ → List Value → List Value
taken count vs = reverse (take count vs)

-- how many values lie on the stack for a place
abbrev pub operands : Place → ℕ
operands (place.Variable x) = 0
operands (place.Element a) = 1
operands place.Field = 1

abbrev pub place_operands : Option Place → ℕ
place_operands None = 0
place_operands (Some p) = operands p

abbrev pub operated : BinaryOperator → Value → Value → Result Value Halt
operated Concatenate x y = Ok (value.Text (str_of x ++ str_of y))
operated (Infix o) x y = applied o x y

-- operands that are read where they stand, the left one first, and what is assigned by them
module _ (names : List (List ℕ)) where
  abbrev pub operand_value : Operand → Run Value
  operand_value (operand.Constant x) = ret x
  operand_value (operand.Variable x) = read_variable names x
  operand_value (operand.Field k) = read_field (pos k)
  operand_value (operand.FieldAt x) = read_variable names x >>= λ w. number_of w >>= λ k. read_field k

  -- those of several, in their order
  abbrev pub operand_values : List Operand → Run (List Value)
  operand_values [] = ret []
  operand_values (a ∷ rest) = operand_value a >>= λ w. operand_values rest >>= λ ws. ret (w ∷ ws)

  abbrev pub operated_with : BinaryOperator → (left : Value) → Operand → Run Value
  operated_with o x b = operand_value b >>= λ y. lift (operated o x y)

  abbrev pub operated_on : BinaryOperator → (left right : Operand) → Run Value
  operated_on o a b = operand_value a >>= λ x. operated_with o x b

  -- the key of an element: an operand, or the texts of several, one behind the other
  abbrev pub key_value : Key → Run Value
  key_value (key.At a) = operand_value a
  key_value (key.Joined list) = operand_values list.items >>= λ ws. ret (value.Text (concat (map str_of ws)))

  -- a variable gets a value
  abbrev pub assign_variable : AssignmentOperator → Variable → Value → Run Value
  assign_variable o x w = assign_by_at names (operator_of o) (place.Variable x) value.Nothing w

  -- a variable gets its text with those of values behind it
  abbrev pub append_to : Variable → List Value → Run Value
  append_to x ws = read_variable names x >>= λ old. assign_by_at names None (place.Variable x) value.Nothing (value.Text (str_of old ++ concat (map str_of ws)))

  -- a place, with its operand, gets its text with those of operands behind it
  abbrev pub append_operands_at : Place → (operand : Value) → List Operand → Run Value
  append_operands_at p w list = read_at names p w >>= λ old. operand_values list >>= λ ws. assign_by_at names None p w (value.Text (str_of old ++ concat (map str_of ws)))

  abbrev pub append_operands : Target → List Operand → Run Value
  append_operands (target.Variable x) list = append_operands_at (place.Variable x) value.Nothing list
  append_operands (target.Element a k) list = key_value k >>= λ w. append_operands_at (place.Element a) w list

  -- the same, where a step is spent
  abbrev pub append_by_step : Target → List Operand → Run Value
  append_by_step t list = spend >>= λ _. append_operands t list

  -- operands as a line to standard output
  abbrev pub print_operands : List Operand → Run (Unit {0})
  print_operands list = operand_values list >>= λ ws. print_line 0 ws

  -- the same, where a step is spent
  abbrev pub print_by_step : List Operand → Run (Unit {0})
  print_by_step list = spend >>= λ _. print_operands list

  -- a target gets an operand; an element's key is read before it
  abbrev pub assign_target : AssignmentOperator → Target → Operand → Run Value
  assign_target o (target.Variable x) a = operand_value a >>= λ w. assign_variable o x w
  assign_target o (target.Element e k) a = key_value k >>= λ x. operand_value a >>= λ w. assign_by_at names (operator_of o) (place.Element e) x w

  -- a target gets its number and 1, or less 1
  abbrev pub raise_target : IncrementOperator → Target → Run Value
  raise_target o (target.Variable x) = post_increment_at names o (place.Variable x) value.Nothing
  raise_target o (target.Element e k) = key_value k >>= λ x. post_increment_at names o (place.Element e) x

  -- the same, where a step is spent
  abbrev pub update : AssignmentOperator → Target → Operand → Run Value
  update o t a = spend >>= λ _. assign_target o t a

  abbrev pub increment : IncrementOperator → Target → Run Value
  increment o t = spend >>= λ _. raise_target o t

-- calls: values are given in their order, and arrays by their numbers

abbrev pub local_by : ArgumentForm → List Value → State → Local
local_by form.Value vs s = local.Value (first vs)
local_by (form.Array a) vs s = local.Array (number_at a s)

abbrev pub behind_form : ArgumentForm → List Value → List Value
behind_form form.Value vs = drop 1 vs
behind_form (form.Array a) vs = vs

-- what the parameters are given, where these are the values in their order
abbrev pub locals_by : List ArgumentForm → List Value → State → List Local
locals_by [] vs s = []
locals_by (f ∷ fs) vs s = local_by f vs s ∷ locals_by fs (behind_form f vs) s

abbrev pub values_among : List ArgumentForm → ℕ
values_among [] = 0
values_among (form.Value ∷ fs) = suc (values_among fs)
values_among (form.Array a ∷ fs) = values_among fs

unfoldable pub given_by : List ArgumentForm → List Value → Run (List Local)
given_by fs vs s = gives (locals_by fs vs s) s

abbrev pub call_at : Functions → (name : List ℕ) → List ArgumentForm → List Value → Run Value
call_at functions f fs vs = given_by fs vs >>= λ given. check_height (functions.height f) >>= λ _. spend >>= λ _. functions.call f given

-- `close`, `system` and `fflush`
abbrev pub outside_value : OutsideCall → List Value → Run Value
outside_value outside.Close vs = close_named (str_of (first vs)) >>= λ k. ret (value.Number k)
outside_value outside.System vs = run_command (str_of (first vs)) >>= λ k. ret (value.Number k)
outside_value outside.FlushAll vs = flush_outputs
outside_value outside.Flush vs = flush_named (str_of (first vs)) >>= λ k. ret (value.Number k)

module _ (tables : Tables) where
  -- by an ERE of the program, or by the value behind the replacement; the replacement is the topmost
  abbrev pub substitute_by : (all : Bool) → Option ℕ → Place → (operand old : Value) → List Value → Run Value
  substitute_by all (Some i) p operand old vs = substitute_at tables.names all (ere_at tables i) (str_of (first vs)) p operand old
  substitute_by all None p operand old vs = substitute_at tables.names all (str_of (second vs)) (str_of (first vs)) p operand old

  -- in a place, whose old value is the topmost and whose operand lies below it, or in the record
  abbrev pub substitute : (all : Bool) → Option ℕ → Option Place → List Value → Run Value
  substitute all pattern None vs = record_text >>= λ old. substitute_by all pattern place.Field (value.Number (pos 0)) old vs
  substitute all pattern (Some p) vs = substitute_by all pattern p (second vs) (first vs) (drop (suc (operands p)) vs)

  -- in a variable or in the record, by an ERE of the program
  abbrev pub substitute_in : (all : Bool) → ℕ → (replacement : Value) → Option Variable → Run Value
  substitute_in all i w None = record_text >>= λ old. substitute_at tables.names all (ere_at tables i) (str_of w) place.Field (value.Number (pos 0)) old
  substitute_in all i w (Some x) = read_variable tables.names x >>= λ old. substitute_at tables.names all (ere_at tables i) (str_of w) (place.Variable x) value.Nothing old

  -- `getline`: the name of a file lies above the operand of the place, and a command below it
  abbrev pub getline_by : Source → Option Place → List Value → Run Value
  getline_by source.Main p vs = main_getline_at tables.names p (first vs)
  getline_by source.File p vs = named_getline_at tables.names input.File (str_of (first vs)) p (second vs)
  getline_by source.Command p vs = named_getline_at tables.names input.Command (str_of (get_or vs (place_operands p) value.Nothing)) p (first vs)

  -- the value of a node
  abbrev pub value_of : Functions → ValueNode → List Value → Run Value
  value_of functions (v.Put a) vs = operand_value tables.names a
  value_of functions (v.Matches a i) vs = operand_value tables.names a >>= λ x. lift (applied Matches x (value.Text (ere_at tables i)))
  value_of functions (v.Operate o) vs = lift (operated o (second vs) (first vs))
  value_of functions (v.OperateWith o b) vs = operated_with tables.names o (first vs) b
  value_of functions (v.OperateOn o a b) vs = operated_on tables.names o a b
  value_of functions (v.MatchesEre o i) vs = lift (applied o (first vs) (value.Text (ere_at tables i)))
  value_of functions (v.Change o) vs = lift (changed o (first vs))
  value_of functions (v.ConcatenateAll k) vs = lift (Ok (value.Text (concat (map str_of (taken k vs)))))
  value_of functions v.ReadField vs = number_of (first vs) >>= λ k. read_field k
  value_of functions (v.ReadElement a None) vs = read_element_of a (str_of (first vs))
  value_of functions (v.ReadElement a (Some k)) vs = key_value tables.names k >>= λ w. read_element_of a (str_of w)
  value_of functions (v.Contains a None) vs = contains_at a (str_of (first vs)) >>= λ b. ret (truth_value b)
  value_of functions (v.Contains a (Some k)) vs = key_value tables.names k >>= λ w. contains_at a (str_of w) >>= λ b. ret (truth_value b)
  value_of functions (v.Key k) vs = joined_key (taken k vs) >>= λ key. ret (value.Text key)
  value_of functions v.FieldNumber vs = number_of (first vs) >>= λ k. ret (value.Number k)
  value_of functions (v.Assign o p) vs = assign_by_at tables.names (operator_of o) p (second vs) (first vs)
  value_of functions (v.Append x) vs = lift (operated Concatenate (second vs) (first vs)) >>= λ w. assign_by_at tables.names None (place.Variable x) value.Nothing w
  value_of functions (v.PreIncrement o p) vs = assign_by_at tables.names (Some (by_one o)) p (first vs) one
  value_of functions (v.PostIncrement o p) vs = post_increment_at tables.names o p (first vs)
  value_of functions (v.PostIncrementAt o t) vs = raise_target tables.names o t
  value_of functions (v.Load p) vs = read_at tables.names p (first vs)
  value_of functions v.RecordLength vs = record_length
  value_of functions (v.CountElements a) vs = count_elements_at a
  value_of functions (v.Apply f k) vs = lift (applied_all f (taken k vs))
  value_of functions (v.ApplyTo f list k) vs = operand_values tables.names list.items >>= λ ws. lift (applied_all f (ws ++ taken k vs))
  value_of functions (v.Match (Some i)) vs = match_in (ere_at tables i) (str_of (first vs))
  value_of functions (v.Match None) vs = match_in (str_of (first vs)) (str_of (second vs))
  value_of functions (v.Split a by.FieldSeparator) vs = split_with a (str_of (first vs)) field_separator
  value_of functions (v.Split a by.Value) vs = split_with a (str_of (second vs)) (lift (separator_in (str_of (first vs))))
  value_of functions (v.Split a (by.Ere i)) vs = split_with a (str_of (first vs)) (lift (ere_separator (pattern_in (ere_at tables i))))
  value_of functions (v.Substitute all pattern p) vs = substitute all pattern p vs
  value_of functions (v.SubstituteIn x) vs = substitute_in x.all x.ere x.replacement x.variable
  value_of functions (v.Getline x p) vs = getline_by x p vs
  value_of functions (v.Outside call) vs = outside_value call vs
  value_of functions (v.Call f fs) vs = call_at functions (function_at tables f) fs.items (taken (values_among fs.items) vs)

  -- what a test asks that is neither a comparison nor a match
  abbrev pub asked : Tested → List Value → Run Bool
  asked tested.Top vs = ret (truth_of (first vs))
  asked (tested.Inside i) vs = is_inside i
  asked (tested.Raised o t) vs = raise_target tables.names o t >>= λ w. ret (truth_of w)
  asked (tested.Element a k) vs = key_value tables.names k >>= λ w. contains_at a (str_of w)

-- how many values a test takes off the stack
abbrev pub asked_operands : Tested → ℕ
asked_operands tested.Top = 1
asked_operands x = 0

-- how many values a substitution takes
abbrev pub pattern_operands : Option ℕ → ℕ
pattern_operands (Some i) = 0
pattern_operands None = 1

abbrev pub target_operands : Option Place → ℕ
target_operands None = 0
target_operands (Some p) = suc (operands p)

abbrev pub source_operands : Source → ℕ
source_operands source.Main = 0
source_operands x = 1

abbrev pub split_operands : SplitBy → ℕ
split_operands by.Value = 1
split_operands b = 0

abbrev pub key_operands : Option Key → ℕ
key_operands None = 1
key_operands (Some k) = 0

abbrev pub outside_operands : OutsideCall → ℕ
outside_operands outside.FlushAll = 0
outside_operands call = 1

-- how many values a node takes off the stack
abbrev pub popped : ValueNode → ℕ
popped (v.Put a) = 0
popped (v.Matches a i) = 0
popped (v.Operate o) = 2
popped (v.OperateWith o b) = 1
popped (v.OperateOn o a b) = 0
popped (v.MatchesEre o i) = 1
popped (v.Change o) = 1
popped (v.ConcatenateAll k) = k
popped v.ReadField = 1
popped (v.ReadElement a k) = key_operands k
popped (v.Contains a k) = key_operands k
popped (v.Key k) = k
popped v.FieldNumber = 1
popped (v.Assign o p) = suc (operands p)
popped (v.Append x) = 2
popped (v.PreIncrement o p) = operands p
popped (v.PostIncrement o p) = operands p
popped (v.PostIncrementAt o t) = 0
popped (v.Load p) = 0
popped v.RecordLength = 0
popped (v.CountElements a) = 0
popped (v.Apply f k) = k
popped (v.ApplyTo f list k) = k
popped (v.Match pattern) = suc (pattern_operands pattern)
popped (v.Split a b) = suc (split_operands b)
popped (v.Substitute all pattern p) = target_operands p + suc (pattern_operands pattern)
popped (v.SubstituteIn x) = 0
popped (v.Getline x p) = source_operands x + place_operands p
popped (v.Outside call) = outside_operands call
popped (v.Call f fs) = values_among fs.items

-- the opening that a print prints to; the name of a redirection's target is the topmost value
abbrev pub target_by : Option Redirection → List Value → Run ℕ
target_by None vs = ret 0
target_by (Some way) vs = open_target way (str_of (first vs))

abbrev pub way_operands : Option Redirection → ℕ
way_operands None = 0
way_operands (Some way) = 1

-- what a node does that gives no value
module _ (tables : Tables) where
  abbrev pub effect_of : Functions → EffectNode → List Value → Run (Unit {0})
  effect_of functions (e.Exchange x) vs = spend >>= λ _. substitute_in tables x.all x.ere x.replacement x.variable >>= λ _. ret tt
  effect_of functions (e.Drop k) vs = ret tt
  effect_of functions (e.Delete a) vs = delete_at a (str_of (first vs))
  effect_of functions (e.Clear a) vs = clear_at a
  effect_of functions e.EndInput vs = close_main
  effect_of functions (e.Print f k way) vs = target_by way vs >>= λ n. print_by functions f n (taken k (drop (way_operands way) vs))
  effect_of functions e.SetStatus vs = set_status (first vs)
  effect_of functions (e.SetInside i b) vs = set_inside i b

abbrev pub dropped : EffectNode → ℕ
dropped (e.Exchange x) = 0
dropped (e.Drop k) = k
dropped (e.Delete a) = 1
dropped (e.Clear a) = 0
dropped e.EndInput = 0
dropped (e.Print f k way) = way_operands way + k
dropped e.SetStatus = 1
dropped (e.SetInside i b) = 0

-- walks: the count of the keys that are left is the topmost value, and the keys lie below it, the next one first

abbrev pub walk_values : List (List ℕ) → List Value
walk_values keys = value.Number (pos (length keys)) ∷ map (λ key. value.Text key) keys

abbrev pub keys_left : Value → ℕ
keys_left (value.Number (pos k)) = k
keys_left x = 0

abbrev pub next_key_by : ℕ → (turn exit : Run Value) → Run Value
next_key_by zero turn exit = exit
next_key_by (suc k) turn exit = turn

abbrev pub halt_by : Ending → Halt
halt_by ending.Next = halt.Next
halt_by ending.Exit = halt.Exit

-- what a node does, from what other places do and from what a turn of a loop does
module _ (tables : Tables) (functions : Functions) (again : ℕ → Cont) where
  abbrev pub made : (ℕ → Cont) → Node → Cont
  made at (n.Value x k) = λ vs. value_of tables functions x vs >>= λ w. at k (w ∷ drop (popped x) vs)
  made at (n.Effect x k) = λ vs. effect_of tables functions x vs >>= λ _. at k (drop (dropped x) vs)
  made at (n.Spend k) = λ vs. spend >>= λ _. at k vs
  made at (n.Test x here other) = λ vs. asked tables x vs >>= λ holds. choose holds (at here (drop (asked_operands x) vs)) (at other (drop (asked_operands x) vs))
  made at (n.CompareWith o b here other) = λ vs. operated_with tables.names o (first vs) b >>= λ x. choose (truth_of x) (at here (drop 1 vs)) (at other (drop 1 vs))
  made at (n.Compare o a b here other) = λ vs. operated_on tables.names o a b >>= λ x. choose (truth_of x) (at here vs) (at other vs)
  made at (n.Match a i here other) = λ vs. value_of tables functions (v.Matches a i) vs >>= λ x. choose (truth_of x) (at here vs) (at other vs)
  made at (n.Assign o p k) = λ vs. value_of tables functions (v.Assign o p) vs >>= λ _. at k (drop (popped (v.Assign o p)) vs)
  made at (n.Raise o p k) = λ vs. value_of tables functions (v.PostIncrement o p) vs >>= λ _. at k (drop (popped (v.PostIncrement o p)) vs)
  made at (n.Update o t a k) = λ vs. update tables.names o t a >>= λ _. at k vs
  made at (n.Increment o t k) = λ vs. increment tables.names o t >>= λ _. at k vs
  made at (n.AppendTo x count k) = λ vs. append_to tables.names x (taken count vs) >>= λ _. at k (drop count vs)
  made at (n.AppendOperands t list k) = λ vs. append_by_step tables.names t list.items >>= λ _. at k vs
  made at (n.Print list k) = λ vs. print_by_step tables.names list.items >>= λ _. at k vs
  made at (n.Again i) = again i
  made at (n.Walk a k) = λ vs. keys_of_array a >>= λ keys. at k (walk_values keys ++ vs)
  made at (n.NextKey i exit) = λ vs. next_key_by (keys_left (first vs)) (again i vs) (at exit (drop 1 vs))
  made at (n.TakeKey x k) = λ vs. put_variable tables.names x (second vs) >>= λ _. at k (value.Number (pos (keys_left (first vs) - 1)) ∷ drop 2 vs)
  made at (n.LeaveWalk k) = λ vs. at k (drop (suc (keys_left (first vs))) vs)
  made at n.Return = λ vs. ret (first vs)
  made at (n.Stop ending) = λ vs. lift (Err (halt_by ending))
  made at n.End = nothing

  abbrev pub conts : List Cont → List Node → List Cont
  conts done [] = done
  conts done (node ∷ nodes) = conts (done ++ made (λ i. get_or done i nothing) node ∷ []) nodes

module _ (tables : Tables) (functions : Functions) (heads : List ℕ) (nodes : List Node) where
  -- a turn: how many may follow is bounded
  abbrev pub level : ℕ → ℕ → Cont
  level zero i = λ vs. spend >>= λ _. lift (Err halt.OutOfSteps)
  level (suc k) i = λ vs. spend >>= λ _. get_or (conts tables functions (level k) [] nodes) (get_or heads i 0) nothing vs

  abbrev pub cont_at : ℕ → ℕ → Cont
  cont_at k at = get_or (conts tables functions (level k) [] nodes) at nothing

-- the nodes that follow one stand before it
abbrev pub AreBelow : ℕ → Node → Type 0
AreBelow at (n.Value x k) = k < at
AreBelow at (n.Effect x k) = k < at
AreBelow at (n.Spend k) = k < at
AreBelow at (n.Test x here other) = (here < at) × (other < at)
AreBelow at (n.CompareWith o b here other) = (here < at) × (other < at)
AreBelow at (n.Compare o a b here other) = (here < at) × (other < at)
AreBelow at (n.Match a i here other) = (here < at) × (other < at)
AreBelow at (n.Assign o p k) = k < at
AreBelow at (n.Raise o p k) = k < at
AreBelow at (n.Update o t a k) = k < at
AreBelow at (n.Increment o t k) = k < at
AreBelow at (n.AppendTo x count k) = k < at
AreBelow at (n.AppendOperands t list k) = k < at
AreBelow at (n.Print list k) = k < at
AreBelow at (n.Again i) = Unit {0}
AreBelow at (n.Walk a k) = k < at
AreBelow at (n.NextKey i exit) = exit < at
AreBelow at (n.TakeKey x k) = k < at
AreBelow at (n.LeaveWalk k) = k < at
AreBelow at n.Return = Unit {0}
AreBelow at (n.Stop ending) = Unit {0}
AreBelow at n.End = Unit {0}

abbrev pub IsOrdered : List Node → Type 0
IsOrdered nodes = (at : ℕ) (node : Node) → slice_get nodes at ≡ Some node → AreBelow at node

-- arguments of these forms are arrays where the parameters are; what is given behind the last parameter is of no use

abbrev pub is_array_form : ArgumentForm → Bool
is_array_form form.Value = false
is_array_form (form.Array a) = true

abbrev pub FormsFit : (are_arrays : List Bool) → List ArgumentForm → Type 0
FormsFit [] fs = Unit {0}
FormsFit (b ∷ bs) [] = Unit {0}
FormsFit (b ∷ bs) (f ∷ fs) = (is_array_form f ≡ b) × FormsFit bs fs

abbrev pub CallFits : (function : Option (List Bool)) → List ArgumentForm → Type 0
CallFits None fs = ⊥
CallFits (Some bs) fs = FormsFit bs fs

-- a call is of one of these functions, by which of their parameters are arrays, and fits it
abbrev pub CallsFit : (functions : List (List Bool)) → Node → Type 0
CallsFit functions (n.Value (v.Call f fs) k) = CallFits (slice_get functions f) fs.items
CallsFit functions x = Unit {0}

abbrev pub AllCallsFit : (functions : List (List Bool)) → List Node → Type 0
AllCallsFit functions nodes = (at : ℕ) (node : Node) → slice_get nodes at ≡ Some node → CallsFit functions node
