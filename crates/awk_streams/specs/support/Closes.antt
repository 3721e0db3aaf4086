-- The closing of the named stream in a place, and the answer of a run.
use Rattle.std.specs.Prelude.{◌≡◌, ℕ, ℤ, Some, slice_get, Result, Ok, Err}
use Rattle.awk_world.specs.declared.world.WorldFault.{WorldFault}
use Rattle.awk_streams.specs.declared.fault.StreamFault.{StreamFault}
use Rattle.awk_streams.specs.definitions.Outputs.{output_fault_of}
use Rattle.std.specs.List.{remove}
use Rattle.awk_world.specs.definitions.WorldState.{WorldState}
use Rattle.awk_streams.specs.declared.named.NamedStream.{NamedStream}
use Rattle.awk_streams.specs.definitions.Streams.{StreamsView, name_of}
use Rattle.awk_streams.specs.definitions.Commands.{ClosesStream}

abbrev pub without_place : ℕ → StreamsView → StreamsView
without_place place streams = record streams { named = remove streams.named place }

pub record ClosesAt (place : ℕ) (before : WorldState) (old : StreamsView) (answer : ℤ) (after : WorldState) (new : StreamsView) : Type 0 where
  pub stream : NamedStream
  pub at : slice_get old.named place ≡ Some stream
  pub closes : ClosesStream (name_of stream) before old answer after new

abbrev pub run_answer_of : Result ℤ WorldFault → Result ℤ StreamFault
run_answer_of (Ok number) = Ok number
run_answer_of (Err fault) = Err (output_fault_of fault)
