-- What the parts of a whole run answer.
use Rattle.std.specs.Prelude.{[], None, Result, Ok, Err}
use Rattle.awk_streams.specs.declared.fault.StreamFault.{StreamFault}
use Rattle.awk_streams.specs.WorldState.{WorldState}
use Rattle.awk_streams.specs.Streams.{StreamsView}
use Rattle.awk_streams.specs.Commands.{Finishes}
use Rattle.awk_semantics.specs.declared.outcome.Outcome.{Outcome}
use Rattle.awk_semantics.specs.declared.outcome.Outcome.TheVariants.{Fault}
use Rattle.awk_semantics.specs.support.PartFaults.{stream_fault}

-- a failure of the end of a run counts unless a fault came before it
abbrev pub outcome_after : Outcome → Result (Unit {0}) StreamFault → Outcome
outcome_after ended (Ok v) = ended
outcome_after (Fault f) (Err e) = Fault f
outcome_after ended (Err e) = Fault (stream_fault e)

-- the streams before a run: no input is open, no named stream, and nothing is held back
abbrev pub no_streams : StreamsView
no_streams = record { main = None; output = []; error = []; named = [] }

-- the end of a run that had no streams yet
pub record EndsWithoutStreams (before : WorldState) (result : Result (Unit {0}) StreamFault) (after : WorldState) : Type 0 where
  pub last : StreamsView
  pub finishes : Finishes before no_streams result after last
