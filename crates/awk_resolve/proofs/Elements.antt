-- What is done with the array of a name is done with the array at its position.
use Rattle.std.proofs.Common.{◌≡◌, ℕ, List, ap}
use Rattle.awk_value.specs.declared.value.Value.{Value}
use Rattle.awk_semantics.specs.definitions.State.{State}
use Rattle.awk_semantics.specs.definitions.Primitives.{array_number, read_element_at, store_element_at, has_element_at, delete_element_at, clear_array_at, array_length_at, keys_at, fill_array_at, read_element, store_element, has_element, delete_element, clear_array, array_length, keys_in, fill_array}
use Rattle.awk_semantics.specs.definitions.BuiltIns.{count_value, count_elements}
use Rattle.awk_storage.specs.declared.position.Array.{Array}
use Rattle.awk_storage.specs.support.Positions.{number_at, read_element_of, store_element_of}
use Rattle.awk_storage.specs.support.Forms.{contains_at, delete_at, clear_at, count_elements_at, keys_of_array, fill_at}
use Rattle.awk_resolve.proofs.Calculus.{first_same}

module _ (a : Array) (x : List ℕ) (s : State) (is : array_number s x ≡ number_at a s) where
  pub reads_element : (key : List ℕ) → read_element x key s ≡ read_element_of a key s
  unfolding read_element read_element_of
  reads_element key = ap (λ n. read_element_at n key s) is

  pub stores_element : (key : List ℕ) (w : Value) → store_element x key w s ≡ store_element_of a key w s
  unfolding store_element store_element_of
  stores_element key w = ap (λ n. store_element_at n key w s) is

  pub has_the_element : (key : List ℕ) → has_element x key s ≡ contains_at a key s
  unfolding has_element contains_at
  has_the_element key = ap (λ n. has_element_at n key s) is

  pub deletes_element : (key : List ℕ) → delete_element x key s ≡ delete_at a key s
  unfolding delete_element delete_at
  deletes_element key = ap (λ n. delete_element_at n key s) is

  pub clears_array : clear_array x s ≡ clear_at a s
  unfolding clear_array clear_at
  clears_array = ap (λ n. clear_array_at n s) is

  pub counts_elements : count_elements x s ≡ count_elements_at a s
  unfolding count_elements array_length count_elements_at
  counts_elements = first_same (array_length x) (array_length_at (number_at a s)) (λ n. count_value n) s (ap (λ n. array_length_at n s) is)

  pub gives_keys : keys_in x s ≡ keys_of_array a s
  unfolding keys_in keys_of_array
  gives_keys = ap (λ n. keys_at n s) is

  pub fills_array : (texts : List (List ℕ)) → fill_array x texts s ≡ fill_at a texts s
  unfolding fill_array fill_at
  fills_array texts = ap (λ n. fill_array_at n texts s) is
