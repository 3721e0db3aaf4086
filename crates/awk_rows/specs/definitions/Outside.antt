-- What rows are started with, what the outside of a row answers, and what it is left with.
use Rattle.std.specs.Prelude.{ℕ, ℤ, pos, false, true, Bool, ◌&&◌, bytes_eq, if◌then◌else◌, List, [], ◌∷◌, Option, Some, None}
use Rattle.awk_record.specs.Cut.{AtEnd, AtBreak}
use Rattle.awk_world.specs.declared.world.InputKind.{InputKind}
use Rattle.awk_world.specs.declared.world.InputKind.TheVariants as input
use Rattle.awk_world.specs.declared.world.OutputKind.TheVariants as output
use Rattle.awk_streams.specs.Oracle.{Oracle, Source, same_input_kind}
use Rattle.awk_streams.specs.Openings.{StandardOutput, StandardError, Named, Opening}
use Rattle.awk_semantics.specs.Meaning.{StartValues}

-- nothing is assigned before, there is no operand and no environment
abbrev pub plain : StartValues
plain = record { pre = []; operands = []; environ = [] }

-- this is assigned before, as -v does
abbrev pub assigned : List (List ℕ × List ℕ) → StartValues
assigned pre = record { pre = pre; operands = []; environ = [] }

-- these are the operands
abbrev pub over : List (List ℕ) → StartValues
over operands = record { pre = []; operands = operands; environ = [] }

-- an input of the outside: its kind, its name, and what it gives
pub record Input : Type 0 where
  pub kind : InputKind
  pub name : List ℕ
  pub source : Source

-- bytes that end, and bytes that break off
abbrev pub whole : List ℕ → Source
whole bytes = record { bytes = bytes; ending = AtEnd }

abbrev pub broken : List ℕ → Source
broken bytes = record { bytes = bytes; ending = AtBreak }

abbrev pub standard : List ℕ → Input
standard bytes = record { kind = input.Standard; name = []; source = whole bytes }

abbrev pub file : List ℕ → List ℕ → Input
file name bytes = record { kind = input.File; name = name; source = whole bytes }

abbrev pub broken_file : List ℕ → List ℕ → Input
broken_file name bytes = record { kind = input.File; name = name; source = broken bytes }

abbrev pub command : List ℕ → List ℕ → Input
command name bytes = record { kind = input.Command; name = name; source = whole bytes }

abbrev pub has_name : InputKind → List ℕ → Input → Bool
has_name input.Standard name x = same_input_kind x.kind input.Standard
has_name kind name x = same_input_kind x.kind kind && bytes_eq x.name name

-- what the input of a kind and name gives, the first of those that are listed
abbrev pub found_in : List Input → InputKind → List ℕ → Option Source
found_in [] kind name = None
found_in (x ∷ xs) kind name = if has_name kind name x then Some x.source else found_in xs kind name

-- an outside of these inputs, which grants every output; a command closes with the one number and runs with the other
abbrev pub with_answers : ℤ → ℤ → List Input → Oracle
with_answers closing running inputs = record { input = λ kind name count. found_in inputs kind name; output = λ kind name count. true; closing = λ count. closing; running = λ count. running }

abbrev pub holding : List Input → Oracle
holding inputs = with_answers (pos 0) (pos 0) inputs

-- standard input gives these bytes, and no other input is there
abbrev pub given : List ℕ → Oracle
given bytes = holding (standard bytes ∷ [])

-- an outside that refuses every named output
abbrev pub without_outputs : Oracle
without_outputs = record { input = λ kind name count. None; output = λ kind name count. false; closing = λ count. pos 0; running = λ count. pos 0 }

-- what is left where these bytes were printed to standard output, and these to named outputs
abbrev pub prints_with : List ℕ → List Opening → List Opening
prints_with bytes others = record { output = StandardOutput; bytes = bytes } ∷ record { output = StandardError; bytes = [] } ∷ others

abbrev pub prints : List ℕ → List Opening
prints bytes = prints_with bytes []

abbrev pub to_file : List ℕ → List ℕ → Opening
to_file name bytes = record { output = Named output.File name; bytes = bytes }

abbrev pub to_command : List ℕ → List ℕ → Opening
to_command name bytes = record { output = Named output.Command name; bytes = bytes }
