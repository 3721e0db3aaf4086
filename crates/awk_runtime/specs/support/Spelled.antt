-- Which text spells a pattern in a run, and what separates the pieces of a text there.
use Rattle.std.specs.Prelude.{ℕ, pos, Bool, false, List, Option, Some, None, Result, Ok, Err}
use Rattle.awk_value.specs.declared.value.Value.{Value}
use Rattle.awk_value.specs.declared.value.Value.TheVariants as value
use Rattle.awk_value.specs.Values.{str_of}
use Rattle.awk_text.specs.Separators.{Separator}
use Rattle.awk_text.specs.Fields.{pieces_of}
use Rattle.awk_lex.specs.declared.token.Operator.TheVariants.{Matches}
use Rattle.awk_semantics.specs.declared.halt.Halt.{Halt}
use Rattle.awk_semantics.specs.State.{Run, ◌>>=◌, lift, ret}
use Rattle.awk_semantics.specs.Operators.{applied, pattern_in, truth_value}
use Rattle.awk_semantics.specs.Texts.{separator_in, ere_separator}
use Rattle.awk_semantics.specs.Primitives.{record_text, field_separator}
use Rattle.awk_storage.specs.declared.position.Variable.{Variable}
use Rattle.awk_storage.specs.declared.position.Place.TheVariants as place
use Rattle.awk_storage.specs.Positions.{read_variable}
use Rattle.awk_storage.specs.Forms.{substitute_at}
use Rattle.awk_functions.specs.declared.found.Exchanged.{Exchanged}
use Rattle.awk_functions.specs.support.Matched.{exchanged_by}
use Rattle.awk_runtime.specs.support.Naming.{Naming, ere_at}
use Rattle.awk_runtime.specs.declared.texts.PatternSource.{PatternSource}
use Rattle.awk_runtime.specs.declared.texts.PatternSource.TheVariants as source

-- the text between the slashes of an ERE, or the text of a value
abbrev pub spelled : Naming → PatternSource → List ℕ
spelled names (source.Ere number) = ere_at names number
spelled names (source.Value v) = str_of v.now

-- an ERE is a separator whatever its length, and the text of a value is read as FS is
abbrev pub separator_spelled : Naming → PatternSource → Result Separator Halt
separator_spelled names (source.Ere number) = ere_separator (pattern_in (ere_at names number))
separator_spelled names (source.Value v) = separator_in (str_of v.now)

-- for want of a separator it is what FS stands for
abbrev pub separation : Naming → Option PatternSource → Run Separator
separation names None = field_separator
separation names (Some by) = lift (separator_spelled names by)

abbrev pub pieces_by : Run Separator → (text : List ℕ) → Run (List (List ℕ))
pieces_by m text = m >>= λ separator. ret (pieces_of separator false text)

-- the pieces that were found, unless that ended
abbrev pub with_pieces : {A : Type 0} → A → Result (Unit {0}) Halt → Result A Halt
with_pieces pieces (Ok u) = Ok pieces
with_pieces pieces (Err h) = Err h

-- whether the record has a match of an ERE
abbrev pub record_tested : (ere : List ℕ) → Run Value
record_tested ere = record_text >>= λ x. lift (applied Matches x (value.Text ere))

-- what a test came to, as a value
abbrev pub as_truth : Result Bool Halt → Result Value Halt
as_truth (Ok holds) = Ok (truth_value holds)
as_truth (Err h) = Err h

-- what is read, with matches exchanged
abbrev pub exchange_read : Run Value → (all : Bool) (pattern replacement : List ℕ) → Run (Option Exchanged)
exchange_read read all pattern replacement = read >>= λ old. lift (exchanged_by all (pattern_in pattern) replacement (str_of old))

-- `sub` and `gsub` in a variable, and in the record; `names` are those of the program's variables by their slots
abbrev pub substitute_in_variable : (names : List (List ℕ)) (all : Bool) (pattern replacement : List ℕ) → Variable → Run Value
substitute_in_variable names all pattern replacement x = read_variable names x >>= λ old. substitute_at names all pattern replacement (place.Variable x) value.Nothing old

abbrev pub substitute_in_record : (names : List (List ℕ)) (all : Bool) (pattern replacement : List ℕ) → Run Value
substitute_in_record names all pattern replacement = record_text >>= λ old. substitute_at names all pattern replacement place.Field (value.Number (pos 0)) old
