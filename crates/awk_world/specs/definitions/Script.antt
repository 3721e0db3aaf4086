-- What the stored log of a world in memory says, and its script: what it is still to answer.
use Rattle.std.specs.Prelude.{ℕ, Bool, List, map, reverse}
use Rattle.awk_world.specs.declared.answer.Answer.{Answer}
use Rattle.awk_world.specs.declared.answer.Ending.{Ending}
use Rattle.awk_world.specs.declared.entry.Entry.{Entry}
use Rattle.awk_world.specs.declared.entry.Entry.TheVariants.{OpenedInput, OpenedOutput, Read, Ended, Broke, Wrote, Flushed, Closed, Ran}
use Rattle.awk_world.specs.declared.planned_faults.PlannedFaults.{PlannedFaults}
use Rattle.awk_world.specs.declared.script_stream.ScriptStream.{ScriptStream}
use Rattle.awk_world.specs.definitions.Log as log
use Rattle.awk_world.specs.definitions.Log.{Event}

abbrev pub event_of : Entry → Event
event_of (OpenedInput kind name id) = log.OpenedInput kind name.items id
event_of (OpenedOutput kind name mode id) = log.OpenedOutput kind name.items mode id
event_of (Read id bytes) = log.Read id bytes.items
event_of (Ended id) = log.Ended id
event_of (Broke id) = log.Broke id
event_of (Wrote id bytes) = log.Wrote id bytes.items
event_of (Flushed id) = log.Flushed id
event_of (Closed id answer) = log.Closed id answer
event_of (Ran command answer) = log.Ran command.items answer

-- entries stand the oldest first, events the newest first
abbrev pub events : List Entry → List Event
events entries = reverse (map event_of entries)

-- a stream that was granted: whether it is a command's, the bytes of an input, where its pieces end, what comes behind its
-- bytes, and the place up to which it was read; an output is one that breaks when it is read
pub record GrantedStream : Type 0 where
  pub is_command : Bool
  pub bytes : List ℕ
  pub piece_ends : List ℕ
  pub ending : Ending
  pub at : ℕ

-- the answers that no call took yet; the streams that were granted, the first of them under the number 2; the size of an
-- output's buffer; and the failures that are planned
pub record Script : Type 0 where
  pub answers : List Answer
  pub streams : List GrantedStream
  pub buffer_size : ℕ
  pub faults : PlannedFaults

abbrev pub stream_of : ScriptStream → GrantedStream
stream_of s = record { is_command = s.is_command; bytes = s.bytes.items; piece_ends = s.piece_ends.items; ending = s.ending; at = s.at }

abbrev pub streams_of : List ScriptStream → List GrantedStream
streams_of streams = map stream_of streams
