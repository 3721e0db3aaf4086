-- The semantics of items: the actions before all records, those on each record, and those behind them
-- (POSIX awk, Overall Program Structure; Patterns).
use Rattle.std.specs.Prelude.{ℕ, zero, suc, Bool, true, false, ◌||◌, List, [], ◌∷◌, Option, Some, None, Result, Ok, Err}
use Rattle.awk_grammar.specs.Tree.{Expr, Bare, Nil, Standard, Statements, Pattern, Single, Range, Item, Begin, End, Action, PatternAction, PatternOnly, Function}
use Rattle.awk_grammar.specs.declared.tree.PrintForm.TheVariants as form
use Rattle.awk_semantics.specs.declared.halt.Halt.{Halt}
use Rattle.awk_semantics.specs.declared.halt.Halt.TheVariants as halt
use Rattle.awk_kinds.specs.declared.special.Special.TheVariants.{Nr, Fnr}
use Rattle.awk_semantics.specs.definitions.State.{Run, ◌>>=◌, lift, ret}
use Rattle.awk_semantics.specs.definitions.Primitives.{spend, set_record, count_in, is_inside, set_inside, outside_calls}
use Rattle.awk_semantics.specs.definitions.Inputs.{next_record}
use Rattle.awk_semantics.specs.definitions.Semantics.{Functions, eval, tested, choose, print, exec_all}

-- What ends early ends the calls that are active.

abbrev pub unless_next : Result (Unit {0}) Halt → Result (Unit {0}) Halt
unless_next (Err halt.Next) = Ok tt
unless_next r = r

-- where `next` ended it, what follows goes on
unfoldable pub until_next : Run (Unit {0}) → Run (Unit {0})
until_next m s = record { result = unless_next (m s).result; state = outside_calls (m s).state; effects = (m s).effects }

abbrev pub unless_exit : Result (Unit {0}) Halt → Result (Unit {0}) Halt
unless_exit (Err halt.Exit) = Ok tt
unless_exit r = r

-- where `exit` ended it, what follows goes on
unfoldable pub until_exit : Run (Unit {0}) → Run (Unit {0})
until_exit m s = record { result = unless_exit (m s).result; state = outside_calls (m s).state; effects = (m s).effects }

-- a record that was found is at hand, and counted
unfoldable pub begin_record : List ℕ → Run (Unit {0})
begin_record text = set_record text >>= λ _. count_in Nr >>= λ _. count_in Fnr

abbrev pub on_record : Option (List ℕ) → (List ℕ → Run (Unit {0})) → Run (Unit {0})
on_record None rest = ret tt
on_record (Some text) rest = rest text

-- at most n records, each of which spends a step
unfoldable pub each_record : ℕ → Run (Unit {0}) → Run (Unit {0})
each_record zero action = lift (Err halt.OutOfSteps)
each_record (suc n) action = next_record >>= λ found. on_record found (λ text. spend >>= λ _. begin_record text >>= λ _. action >>= λ _. each_record n action)

-- all records: no more than there are steps
unfoldable pub run_records : Run (Unit {0}) → Run (Unit {0})
run_records action s = each_record (suc s.steps) action s

-- records are read for all items but BEGIN and functions
abbrev pub is_rule : Item → Bool
is_rule (Begin block) = false
is_rule (Function f parameters block) = false
is_rule x = true

abbrev pub has_rule : List Item → Bool
has_rule [] = false
has_rule (x ∷ xs) = is_rule x || has_rule xs

module _ (functions : Functions) where
  -- an action ends with its statements, however they pass on: a program whose `break` or `continue` stands outside a loop, or
  -- whose `return` stands outside a function, is refused
  unfoldable pub run_action : Statements → Run (Unit {0})
  run_action all = exec_all functions all >>= λ f. ret tt

  -- a range that is inside selects the record, and is inside behind it until its second expression holds
  unfoldable pub go_through : ℕ → Expr → Run Bool
  go_through n to = tested (eval functions to) >>= λ ends. choose ends (set_inside n false) (ret tt) >>= λ _. ret true

  -- a range that isn't begins where its first expression holds: it is inside from then on, and the second one is tested too
  unfoldable pub begin_range : ℕ → (from to : Expr) → Run Bool
  begin_range n from to = tested (eval functions from) >>= λ begins. choose begins (set_inside n true >>= λ _. go_through n to) (ret false)

  -- whether a pattern selects the record
  unfoldable pub selects : ℕ → Pattern → Run Bool
  selects n (Single e) = tested (eval functions e)
  selects n (Range from to) = is_inside n >>= λ inside. choose inside (go_through n to) (begin_range n from to)

  -- a pattern without an action prints the record
  unfoldable pub print_record : Run (Unit {0})
  print_record = print functions form.Print (Bare Nil) Standard

  -- an item on a record, by the item's number
  unfoldable pub try_item : ℕ → Item → Run (Unit {0})
  try_item n (Begin block) = ret tt
  try_item n (End block) = ret tt
  try_item n (Action block) = run_action block
  try_item n (PatternAction p block) = selects n p >>= λ x. choose x (run_action block) (ret tt)
  try_item n (PatternOnly p) = selects n p >>= λ x. choose x print_record (ret tt)
  try_item n (Function f parameters block) = ret tt

  -- items, the first of which has this number
  unfoldable pub try_items : ℕ → List Item → Run (Unit {0})
  try_items n [] = ret tt
  try_items n (x ∷ xs) = try_item n x >>= λ _. try_items (suc n) xs

  -- the actions that come before all records, in the order of the text
  unfoldable pub begin_item : Item → Run (Unit {0})
  begin_item (Begin block) = run_action block
  begin_item x = ret tt

  unfoldable pub begin_items : List Item → Run (Unit {0})
  begin_items [] = ret tt
  begin_items (x ∷ xs) = begin_item x >>= λ _. begin_items xs

  -- the actions that come behind all records
  unfoldable pub end_item : Item → Run (Unit {0})
  end_item (End block) = run_action block
  end_item x = ret tt

  unfoldable pub end_items : List Item → Run (Unit {0})
  end_items [] = ret tt
  end_items (x ∷ xs) = end_item x >>= λ _. end_items xs

  -- the actions before all records; and then the items on each record until `next`, where there is one that records are read for
  unfoldable pub run_before_end : List Item → Run (Unit {0})
  run_before_end xs = begin_items xs >>= λ _. choose (has_rule xs) (run_records (until_next (try_items 0 xs))) (ret tt)

  -- an `exit` before the END actions goes on with them, and one in them ends the run
  unfoldable pub run_items : List Item → Run (Unit {0})
  run_items xs = until_exit (run_before_end xs) >>= λ _. end_items xs
