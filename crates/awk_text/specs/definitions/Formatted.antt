-- The text that a format gives of values. POSIX awk, Output Statements (formatted output).
use Rattle.std.specs.Prelude.{◌≡◌, ◌⊎◌, ℕ, List, [], ◌∷◌, ◌++◌, drop, Result, Ok, Err}
use Rattle.awk_value.specs.declared.value.Value.{Value}
use Rattle.awk_value.specs.declared.value.Value.TheVariants.{Nothing}
use Rattle.awk_text.specs.declared.format_fault.FormatFault.{FormatFault}
use Rattle.awk_text.specs.declared.format_fault.FormatFault.TheVariants.{Memory, Format}
use Rattle.awk_text.specs.declared.part.Part.{Part}
use Rattle.awk_text.specs.declared.part.Part.TheVariants.{Plain, Directed, Refused}
use Rattle.awk_text.specs.definitions.Directives.{directive_text}
use Rattle.awk_text.specs.definitions.Reading.{parts_of}

-- one text and then the other; or the fault of the first that has one
abbrev pub joined : Result (List ℕ) FormatFault → Result (List ℕ) FormatFault → Result (List ℕ) FormatFault
joined (Ok first) (Ok rest) = Ok (first ++ rest)
joined (Ok first) (Err fault) = Err fault
joined (Err fault) rest = Err fault

-- the next value; a missing one is uninitialized
abbrev pub next_value : List Value → Value
next_value [] = Nothing
next_value (value ∷ values) = value

-- what stands for itself, the text of a directive, or the fault of what is no directive
abbrev pub part_text : Part → Value → Result (List ℕ) FormatFault
part_text (Plain text) value = Ok text
part_text (Directed directive) value = directive_text directive value
part_text Refused value = Err Format

-- a directive takes a value
abbrev pub values_after : Part → List Value → List Value
values_after (Plain text) values = values
values_after (Directed directive) values = drop 1 values
values_after Refused values = values

-- the texts of the parts, joined; the directives take the values in turn
abbrev pub written : List Part → List Value → Result (List ℕ) FormatFault
written [] values = Ok []
written (part ∷ parts) values = joined (part_text part (next_value values)) (written parts (values_after part values))

-- the text that a format gives of values, or the fault of its leftmost directive that has one
abbrev pub formatted : (format : List ℕ) → List Value → Result (List ℕ) FormatFault
formatted format values = written (parts_of format) values

-- what a call tells in place of the text: want of memory, or the fault that stands in its place
abbrev pub IsFaultOf : FormatFault → Result (List ℕ) FormatFault → Type 0
IsFaultOf fault text = (fault ≡ Memory) ⊎ (text ≡ Err fault)
