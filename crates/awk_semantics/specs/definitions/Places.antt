-- Places: what can be assigned, and how values are stored there (POSIX awk, Expressions in awk: lvalue).
use Rattle.std.specs.Prelude.{ℕ, ℤ, pos, negsuc, List, Option, Some, None}
use Rattle.awk_value.specs.declared.value.Value.{Value}
use Rattle.awk_value.specs.declared.value.Value.TheVariants as value
use Rattle.awk_lex.specs.declared.token.IncrementOperator.{IncrementOperator}
use Rattle.awk_lex.specs.declared.token.Operator.{Operator}
use Rattle.awk_kinds.specs.declared.special.Special.TheVariants.{Nr, Fnr}
use Rattle.awk_world.specs.declared.world.InputKind.{InputKind}
use Rattle.awk_world.specs.declared.world.InputKind.TheVariants as input
use Rattle.awk_semantics.specs.definitions.State.{Run, ◌>>=◌, lift, ret}
use Rattle.awk_semantics.specs.definitions.Operators.{applied, by_one, one}
use Rattle.awk_semantics.specs.definitions.Primitives.{spend, number_of, read_field, set_field, set_record, read_name, put, count_in, read_element, store_element}
use Rattle.awk_semantics.specs.definitions.Streams.{Answer, ARecord, NoRecord, NotReadable, next_of}
use Rattle.awk_semantics.specs.definitions.Inputs.{next_record}

-- a place that was evaluated: a name, an array and the text of the subscript, or the number of a field
pub data Place : Type 0 where
  AName : (name : List ℕ) → Place
  AnElement : (array key : List ℕ) → Place
  AField : (number : ℤ) → Place

-- what a place holds; to read an element makes it
unfoldable pub read_place : Place → Run Value
read_place (AName x) = read_name x
read_place (AnElement x key) = read_element x key
read_place (AField n) = read_field n

-- a place gets a value
unfoldable pub store : Place → Value → Run (Unit {0})
store (AName x) v = put x v
store (AnElement x key) v = store_element x key v
store (AField n) v = set_field n v

-- a place gets a value, and gives what it then holds
unfoldable pub assign : Place → Value → Run Value
assign p v = store p v >>= λ _. read_place p

-- the same, of what an operator, if there is one, makes of the old value and of this one
unfoldable pub assign_by : Option Operator → Place → Value → Run Value
assign_by None p v = assign p v
assign_by (Some o) p v = read_place p >>= λ old. lift (applied o old v) >>= λ w. assign p w

-- a place gets its number and 1, or less 1; it gives the number that it had
unfoldable pub post_increment : IncrementOperator → Place → Run Value
post_increment o p = read_place p >>= λ v. number_of v >>= λ n. lift (applied (by_one o) (value.Number n) one) >>= λ w. store p w >>= λ _. ret (value.Number n)

-- getline

-- a record that was read goes to a place, or is the record at hand
abbrev pub receive : Option Place → List ℕ → Run (Unit {0})
receive None text = set_record text
receive (Some p) text = store p (value.Input text)

abbrev pub answer : ℤ → Run Value
answer n = ret (value.Number n)

-- a main record that was found spends a step, as for the run itself
abbrev pub receive_main : Option Place → Option (List ℕ) → Run Value
receive_main p None = answer (pos 0)
receive_main p (Some text) = spend >>= λ _. receive p text >>= λ _. count_in Nr >>= λ _. count_in Fnr >>= λ _. answer (pos 1)

-- `getline` and `getline place`
unfoldable pub main_getline : Option Place → Run Value
main_getline p = next_record >>= λ found. receive_main p found

-- a record of a command counts in NR, and one of a file doesn't
abbrev pub count_of : InputKind → Run (Unit {0})
count_of input.Command = count_in Nr
count_of kind = ret tt

abbrev pub receive_named : InputKind → Option Place → Answer → Run Value
receive_named kind p (ARecord text) = receive p text >>= λ _. count_of kind >>= λ _. answer (pos 1)
receive_named kind p NoRecord = answer (pos 0)
receive_named kind p NotReadable = answer (negsuc 0)

-- `getline < file`, `command | getline`, and these with a place
unfoldable pub named_getline : InputKind → (name : List ℕ) → Option Place → Run Value
named_getline kind name p = next_of kind name >>= λ found. receive_named kind p found
