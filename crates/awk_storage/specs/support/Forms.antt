-- What built-in functions, `getline` and walks do with arrays and places by their positions (POSIX awk, String Functions;
-- Input/Output and General Functions; Actions).
use Rattle.std.specs.Prelude.{ℕ, zero, suc, pos, negsuc, Bool, false, List, length, Option, Some, None}
use Rattle.awk_value.specs.declared.value.Value.{Value}
use Rattle.awk_value.specs.declared.value.Value.TheVariants as value
use Rattle.awk_value.specs.Values.{str_of}
use Rattle.awk_text.specs.definitions.Separators.{Separator}
use Rattle.awk_text.specs.definitions.Fields.{pieces_of}
use Rattle.awk_world.specs.declared.world.InputKind.{InputKind}
use Rattle.awk_kinds.specs.declared.special.Special.TheVariants.{Nr, Fnr}
use Rattle.awk_semantics.specs.definitions.State.{Run, ◌>>=◌, lift}
use Rattle.awk_semantics.specs.definitions.Operators.{pattern_in}
use Rattle.awk_semantics.specs.definitions.Texts.{find_from, exchanged}
use Rattle.awk_semantics.specs.definitions.Primitives.{spend, set_record, count_in, has_element_at, delete_element_at, clear_array_at, array_length_at, keys_at, fill_array_at}
use Rattle.awk_semantics.specs.definitions.BuiltIns.{note_match, count_value}
use Rattle.awk_semantics.specs.definitions.Streams.{Answer, ARecord, NoRecord, NotReadable, next_of}
use Rattle.awk_semantics.specs.definitions.Inputs.{next_record}
use Rattle.awk_semantics.specs.definitions.Places.{answer, count_of}
use Rattle.awk_storage.specs.declared.position.Array.{Array}
use Rattle.awk_storage.specs.declared.position.Place.{Place}
use Rattle.awk_storage.specs.support.Positions.{number_at, store_at}

-- arrays

unfoldable pub contains_at : Array → (key : List ℕ) → Run Bool
contains_at a key s = has_element_at (number_at a s) key s

unfoldable pub delete_at : Array → (key : List ℕ) → Run (Unit {0})
delete_at a key s = delete_element_at (number_at a s) key s

unfoldable pub clear_at : Array → Run (Unit {0})
clear_at a s = clear_array_at (number_at a s) s

-- `length` of an array
unfoldable pub count_elements_at : Array → Run Value
count_elements_at a s = (array_length_at (number_at a s) >>= λ n. count_value n) s

unfoldable pub keys_of_array : Array → Run (List (List ℕ))
keys_of_array a s = keys_at (number_at a s) s

unfoldable pub fill_at : Array → List (List ℕ) → Run (Unit {0})
fill_at a texts s = fill_array_at (number_at a s) texts s

-- `match`
abbrev pub match_in : (pattern text : List ℕ) → Run Value
match_in pattern text = lift (pattern_in pattern) >>= λ t. note_match (find_from t text 0)

-- `split`: the array is emptied, and gets the pieces
abbrev pub split_at : Array → List (List ℕ) → Run Value
split_at a pieces = fill_at a pieces >>= λ _. count_value (length pieces)

abbrev pub split_with : Array → (text : List ℕ) → Run Separator → Run Value
split_with a text m = m >>= λ separator. split_at a (pieces_of separator false text)

-- places; `names` are those of the program's variables by their slots
module _ (names : List (List ℕ)) where
  -- `sub` and `gsub`: the text is assigned if a match was exchanged; the answer is how many were
  abbrev pub assign_exchange_at : Place → (operand : Value) → (count : ℕ) → (text : List ℕ) → Run Value
  assign_exchange_at p operand zero text = count_value 0
  assign_exchange_at p operand (suc n) text = store_at names p operand (value.Text text) >>= λ _. count_value (suc n)

  abbrev pub substitute_at : (all : Bool) → (pattern replacement : List ℕ) → Place → (operand old : Value) → Run Value
  substitute_at all pattern replacement p operand old = lift (pattern_in pattern) >>= λ t. assign_exchange_at p operand (exchanged all t replacement (str_of old)).count (exchanged all t replacement (str_of old)).text

  -- `getline`: a record that was read goes to a place, or is the record at hand
  abbrev pub receive_at : Option Place → (operand : Value) → (text : List ℕ) → Run (Unit {0})
  receive_at None operand text = set_record text
  receive_at (Some p) operand text = store_at names p operand (value.Input text)

  abbrev pub receive_main_at : Option Place → (operand : Value) → Option (List ℕ) → Run Value
  receive_main_at p operand None = answer (pos 0)
  receive_main_at p operand (Some text) = spend >>= λ _. receive_at p operand text >>= λ _. count_in Nr >>= λ _. count_in Fnr >>= λ _. answer (pos 1)

  -- of the main input
  unfoldable pub main_getline_at : Option Place → (operand : Value) → Run Value
  main_getline_at p operand = next_record >>= λ found. receive_main_at p operand found

  abbrev pub receive_named_at : InputKind → Option Place → (operand : Value) → Answer → Run Value
  receive_named_at kind p operand (ARecord text) = receive_at p operand text >>= λ _. count_of kind >>= λ _. answer (pos 1)
  receive_named_at kind p operand NoRecord = answer (pos 0)
  receive_named_at kind p operand NotReadable = answer (negsuc 0)

  -- of a file or a command
  unfoldable pub named_getline_at : InputKind → (name : List ℕ) → Option Place → (operand : Value) → Run Value
  named_getline_at kind name p operand = next_of kind name >>= λ found. receive_named_at kind p operand found
