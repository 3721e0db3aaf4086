-- Named streams in the words of the language: what is open, what is left of an input, and which opening an output is
-- (POSIX awk, Output Statements; Input/Output and General Functions).
use Rattle.std.specs.Prelude.{ℕ, zero, suc, Bool, true, false, ◌&&◌, ◌||◌, not, List, [], ◌∷◌, ◌++◌, filter, codes, Option, Some, None, is_some, bytes_eq, if◌then◌else◌}
use Rattle.awk_world.specs.declared.world.InputKind.{InputKind}
use Rattle.awk_world.specs.declared.world.InputKind.TheVariants as input
use Rattle.awk_world.specs.declared.world.OutputKind.{OutputKind}
use Rattle.awk_world.specs.declared.world.OutputKind.TheVariants as output
use Rattle.awk_world.specs.definitions.Oracle.{Source, same_input_kind, same_output_kind}
use Rattle.awk_world.specs.definitions.Openings.{Opening}

-- a named stream: what kind of input or output it is, and its name
pub data Named : Type 0 where
  Input : (kind : InputKind) (name : List ℕ) → Named
  Output : (kind : OutputKind) (name : List ℕ) → Named

-- a named stream that is open
pub data Stream : Type 0 where
  -- an input, and what is left of it
  AnInput : (kind : InputKind) (name : List ℕ) (rest : Source) → Stream
  -- an output, and which of the openings of outputs it is: they are counted from 0 in their order, and standard output and
  -- standard error are 0 and 1
  AnOutput : (kind : OutputKind) (name : List ℕ) (opening : ℕ) → Stream

abbrev pub same_named : Named → Named → Bool
same_named (Input j m) (Input k n) = same_input_kind j k && bytes_eq m n
same_named (Output j m) (Output k n) = same_output_kind j k && bytes_eq m n
same_named x y = false

abbrev pub named_of : Stream → Named
named_of (AnInput kind name rest) = Input kind name
named_of (AnOutput kind name opening) = Output kind name

abbrev pub is_input_command : InputKind → Bool
is_input_command input.Command = true
is_input_command kind = false

abbrev pub is_output_command : OutputKind → Bool
is_output_command output.Command = true
is_output_command kind = false

abbrev pub is_command : Named → Bool
is_command (Input kind name) = is_input_command kind
is_command (Output kind name) = is_output_command kind

-- what is left of the input, if it is open
abbrev pub rest_in : List Stream → InputKind → List ℕ → Option Source
rest_in [] kind name = None
rest_in (AnInput k n rest ∷ streams) kind name = if same_input_kind k kind && bytes_eq n name then Some rest else rest_in streams kind name
rest_in (x ∷ streams) kind name = rest_in streams kind name

-- the streams where this is left of the input
abbrev pub with_rest_of : InputKind → List ℕ → Source → List Stream → List Stream
with_rest_of kind name left [] = []
with_rest_of kind name left (AnInput k n rest ∷ streams) = AnInput k n (if same_input_kind k kind && bytes_eq n name then left else rest) ∷ with_rest_of kind name left streams
with_rest_of kind name left (x ∷ streams) = x ∷ with_rest_of kind name left streams

-- the opening of the output, if it is open
abbrev pub opening_in : List Stream → OutputKind → List ℕ → Option ℕ
opening_in [] kind name = None
opening_in (AnOutput k n opening ∷ streams) kind name = if same_output_kind k kind && bytes_eq n name then Some opening else opening_in streams kind name
opening_in (x ∷ streams) kind name = opening_in streams kind name

abbrev pub has_output : List Stream → List ℕ → Bool
has_output streams name = is_some (opening_in streams output.File name) || is_some (opening_in streams output.Command name)

-- whether outputs have this name: those that are open, and standard output and standard error
abbrev pub is_output : List Stream → List ℕ → Bool
is_output streams name = bytes_eq name (codes "/dev/stdout") || (bytes_eq name (codes "/dev/stderr") || has_output streams name)

abbrev pub is_other : Named → Stream → Bool
is_other x y = not (same_named x (named_of y))

abbrev pub has_the_name : List ℕ → Stream → Bool
has_the_name name (AnInput kind n rest) = bytes_eq n name
has_the_name name (AnOutput kind n opening) = bytes_eq n name

-- the names of streams with the numbers under which they stand open in a world

abbrev pub number_among : List (Named × ℕ) → Named → Option ℕ
number_among [] x = None
number_among (y ∷ ys) x = if same_named x y.0 then Some y.1 else number_among ys x

abbrev pub without_number : Named → List (Named × ℕ) → List (Named × ℕ)
without_number x ys = filter (λ (y : Named × ℕ). not (same_named x y.0)) ys

-- openings of outputs, of which the one of this number gets more bytes
abbrev pub with_bytes : ℕ → List ℕ → List Opening → List Opening
with_bytes n bytes [] = []
with_bytes zero bytes (o ∷ os) = record { output = o.output; bytes = o.bytes ++ bytes } ∷ os
with_bytes (suc n) bytes (o ∷ os) = o ∷ with_bytes n bytes os
