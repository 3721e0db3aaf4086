-- What an array is: pairs of a key and a value, in the order in which the keys were made. A key is a
-- text, and no two are equal (POSIX awk, Expressions in awk).
use Rattle.std.specs.Prelude.{ℕ, if◌then◌else◌, List, [], ◌∷◌, ◌++◌, bytes_eq, Option, is_some}
use Rattle.std.specs.List.{IsDistinct}
use Rattle.std.specs.Map.{keys_of, lookup, set_value, remove_entry}
use Rattle.awk_value.specs.declared.value.Value.{Value}
use Rattle.awk_value.specs.declared.value.Value.TheVariants.{Nothing}

abbrev pub Array : Type 0
Array = List (List ℕ × Value)

-- the value at the key, if it is present
abbrev pub value_at : Array → List ℕ → Option Value
value_at array key = lookup (bytes_eq key) array

-- a present key keeps its place and takes the value; a new key goes last
abbrev pub with_pair : Array → List ℕ → Value → Array
with_pair array key value =
    if is_some (value_at array key) then set_value (bytes_eq key) array value else array ++ (key, value) ∷ []

-- the array with the key, which is uninitialized and goes last where it is new
abbrev pub with_key : Array → List ℕ → Array
with_key array key = if is_some (value_at array key) then array else array ++ (key, Nothing) ∷ []

-- the array without the key: the others close up
abbrev pub without : Array → List ℕ → Array
without array key = remove_entry (bytes_eq key) array

abbrev pub HasDistinctKeys : Array → Type 0
HasDistinctKeys array = IsDistinct bytes_eq (keys_of array)
