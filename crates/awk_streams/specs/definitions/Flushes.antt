-- What flushes that a program asks for do: of all outputs, or of those of a text (POSIX awk, STDOUT; STDERR; OUTPUT FILES).
use Rattle.std.specs.Prelude.{◌≡◌, ℕ, Bool, true, false, ◌&&◌, ◌||◌, ◌==◌, List, [], ◌∷◌, slice_get, codes, Option, Some, Result, Ok, Err, bytes_eq, if◌then◌else◌}
use Rattle.std.specs.List.{list_any}
use Rattle.awk_world.specs.definitions.WorldState.{WorldState}
use Rattle.awk_world.specs.definitions.Log.{Event, Wrote, Flushed}
use Rattle.awk_world.specs.definitions.Oracle.{Oracle, Source, SameCounts}
use Rattle.awk_world.specs.definitions.Writes.{GoesOn}
use Rattle.awk_world.specs.definitions.Openings.{openings, outputs_of, is_flushed}
use Rattle.awk_world.specs.definitions.Grows.{Grows}
use Rattle.awk_streams.specs.declared.fault.StreamFault.{StreamFault}
use Rattle.awk_streams.specs.declared.fault.StreamFault.TheVariants.{Memory, WriteFailed}
use Rattle.awk_streams.specs.declared.named.NamedStream.{NamedStream}
use Rattle.awk_streams.specs.declared.named.NamedStream.TheVariants as named
use Rattle.awk_streams.specs.definitions.Named.{Stream, is_output}
use Rattle.awk_streams.specs.definitions.Streams.{StreamsView, number_of, numbered, place_of, printed_openings, StandFor, AreAs, FailsAs}
use Rattle.awk_streams.specs.definitions.NamedOutputs.{LosesBytes}
use Rattle.awk_streams.specs.definitions.Commands.{BringsAll}

-- all outputs are flushed

abbrev pub AllFlushed : WorldState → StreamsView → Result (Unit {0}) StreamFault → WorldState → StreamsView → Type 0
AllFlushed before old (Ok u) after new = BringsAll before old after new
AllFlushed before old (Err Memory) after new = LosesBytes before old after new
AllFlushed before old (Err WriteFailed) after new = LosesBytes before old after new
AllFlushed before old (Err fault) after new = ⊥

pub record FlushesAll (before : WorldState) (old : StreamsView) (result : Result (Unit {0}) StreamFault) (after : WorldState) (new : StreamsView) : Type 0 where
  pub grows : Grows before after
  pub flushed : AllFlushed before old result after new
  pub failure : FailsAs result before after

-- The outputs of a text: two texts name standard output and standard error, and a named output is of its name.

abbrev pub is_standard_output : List ℕ → Bool
is_standard_output text = bytes_eq text (codes "/dev/stdout")

abbrev pub is_standard_error : List ℕ → Bool
is_standard_error text = bytes_eq text (codes "/dev/stderr")

abbrev pub is_output_called : List ℕ → NamedStream → Bool
is_output_called text (named.Input kind name input) = false
is_output_called text (named.Output kind name output) = bytes_eq name text

-- whether one is open
abbrev pub has_output_called : List ℕ → StreamsView → Bool
has_output_called text streams = is_standard_output text || (is_standard_error text || list_any (is_output_called text) streams.named)

-- whether one of these streams is an output of the text, and has this number
abbrev pub is_number_among : List ℕ → List NamedStream → ℕ → Bool
is_number_among text [] id = false
is_number_among text (x ∷ xs) id = (is_output_called text x && number_of x == id) || is_number_among text xs id

abbrev pub is_standard_number : List ℕ → ℕ → Bool
is_standard_number text id = (is_standard_output text && id == 0) || (is_standard_error text && id == 1)

-- whether one of them has this number
abbrev pub is_number_of : List ℕ → StreamsView → ℕ → Bool
is_number_of text streams id = is_standard_number text id || is_number_among text streams.named id

-- they hold nothing back any longer, and all else is as it was

abbrev pub held_unless : Bool → List ℕ → List ℕ
held_unless is_brought held = if is_brought then [] else held

abbrev pub emptied : List ℕ → NamedStream → NamedStream
emptied text (named.Input kind name input) = named.Input kind name input
emptied text (named.Output kind name output) = named.Output kind name record { id = output.id; held = held_unless (bytes_eq name text) output.held }

abbrev pub all_emptied : List ℕ → List NamedStream → List NamedStream
all_emptied text [] = []
all_emptied text (x ∷ xs) = emptied text x ∷ all_emptied text xs

abbrev pub without_held : List ℕ → StreamsView → StreamsView
without_held text streams = record {
  main = streams.main;
  output = held_unless (is_standard_output text) streams.output;
  error = held_unless (is_standard_error text) streams.error;
  named = all_emptied text streams.named;
}

-- these events only write to outputs of such numbers, or flush them
abbrev pub AreBringingTo : (among : ℕ → Bool) → List Event → Type 0
AreBringingTo among [] = Unit {0}
AreBringingTo among (Wrote id bytes ∷ es) = (among id ≡ true) × AreBringingTo among es
AreBringingTo among (Flushed id ∷ es) = (among id ≡ true) × AreBringingTo among es
AreBringingTo among (e ∷ es) = ⊥

-- the outputs of a text are flushed, if one is open: each has then received just what was printed to it
pub record FlushesCalled (text : List ℕ) (before : WorldState) (old : StreamsView) (is_open : Bool) (after : WorldState) (new : StreamsView) : Type 0 where
  pub found : (a : Oracle) (open_streams : List Stream) → StandFor a before.log old.named open_streams → is_output open_streams text ≡ is_open
  pub received : (id opening : ℕ) → is_number_of text old id ≡ true → place_of id (openings before.log) ≡ Some opening → slice_get (outputs_of after.log) opening ≡ slice_get (printed_openings before old) opening
  pub flushed : (id : ℕ) → is_number_of text old id ≡ true → is_flushed id after.log ≡ true
  pub main : new.main ≡ old.main
  pub numbers : numbered new.named ≡ numbered old.named
  pub printed : printed_openings after new ≡ printed_openings before old
  pub counts : SameCounts before.log after.log
  pub same : (a : Oracle) (main : Option Source) (open_streams : List Stream) → AreAs a before old main open_streams → AreAs a after new main open_streams
  pub no_failure : after.failures ≡ before.failures

abbrev pub TextFlushed : List ℕ → WorldState → StreamsView → Result Bool StreamFault → WorldState → StreamsView → Type 0
TextFlushed text before old (Ok is_open) after new = FlushesCalled text before old is_open after new
TextFlushed text before old (Err Memory) after new = LosesBytes before old after new
TextFlushed text before old (Err WriteFailed) after new = LosesBytes before old after new
TextFlushed text before old (Err fault) after new = ⊥

-- each output of a text is flushed, and nothing else is done
pub record FlushesText (text : List ℕ) (before : WorldState) (old : StreamsView) (result : Result Bool StreamFault) (after : WorldState) (new : StreamsView) : Type 0 where
  pub grows : Grows before after
  pub only : GoesOn (AreBringingTo (is_number_of text old)) before.log after.log
  pub flushed : TextFlushed text before old result after new
  pub failure : FailsAs result before after
