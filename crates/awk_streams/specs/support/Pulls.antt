-- One asking for a record: what is read for it, what the buffer then answers, and what an oracle says of that.
use Rattle.std.specs.Prelude.{◌≡◌, ◌≢◌, ℕ, List, [], ◌++◌, ◌+◌, ◌-◌, Result, Ok, Err, Option, Some, None}
use Rattle.awk_record.specs.Buffer.{Pending, Steps}
use Rattle.awk_record.specs.Cut.{Ending, AtEnd, AtBreak, longest, cut_of, Cut, Found, NoMore, BrokenOff, TooLong}
use Rattle.awk_record.specs.declared.buffer.Step.{Step}
use Rattle.awk_record.specs.declared.buffer.Step.TheVariants.{Record, NeedMore, End, Broken}
use Rattle.awk_record.specs.declared.buffer_fault.BufferFault.{BufferFault}
use Rattle.awk_record.specs.declared.buffer_fault.BufferFault.TheVariants.{Memory as BufferMemory, RecordTooLong as BufferRecordTooLong}
use Rattle.awk_streams.specs.declared.fault.StreamFault.{StreamFault}
use Rattle.awk_streams.specs.declared.fault.StreamFault.TheVariants.{InputNotReadable}
use Rattle.awk_streams.specs.definitions.Inputs.{Reaches, Rest, input_fault_of}
use Rattle.awk_world.specs.definitions.Log.{Event, Read, Ended, Broke}
use Rattle.awk_world.specs.definitions.Oracle.{Oracle, Source, IsConsistent}

-- one asking for a record: needed readings, and then what the buffer answers of the bytes at hand;
-- where memory is refused the buffer may lack the bytes of the last reading
pub record Pulls (id : ℕ) (separator : List ℕ) (old : Pending) (log : List Event) (result : Result Step BufferFault) (new : Pending) (log' : List Event) : Type 0 where
  pub seen : Pending
  pub reads : Reaches id separator old log seen log'
  pub ending : new.ending ≡ None → seen.ending ≡ None
  pub steps : result ≢ Err BufferMemory → Steps separator seen result new

-- what one reading brings to the buffer
abbrev pub Brings : ℕ → Event → Pending → Pending → Type 0
Brings id (Read i bs) old new = (i ≡ id) × (new.bytes ≡ old.bytes ++ bs) × (new.ending ≡ None)
Brings id (Ended i) old new = (i ≡ id) × (new.bytes ≡ old.bytes) × (new.ending ≡ Some AtEnd)
Brings id (Broke i) old new = (i ≡ id) × (new.bytes ≡ old.bytes) × (new.ending ≡ Some AtBreak)
Brings id e old new = ⊥

-- how many more readings the buffer can ask for
abbrev pub room_of : Option Ending → ℕ → ℕ
room_of None len = 1 + (longest + 1 - len)
room_of (Some ending) len = 0

-- the buffer answers what the cut of the whole rest gives, and this is left of it
abbrev pub Tells : Cut → Result Step BufferFault → List ℕ → List ℕ → Type 0
Tells (Found first rest) result whole left = (result ≡ Ok (Record first)) × (left ≡ rest)
Tells NoMore result whole left = (result ≡ Ok End) × (left ≡ [])
Tells BrokenOff result whole left = (result ≡ Ok Broken) × (left ≡ [])
Tells TooLong result whole left = (result ≡ Err BufferRecordTooLong) × (left ≡ whole)

-- for all oracles that are consistent: from the whole rest to what is left of it, by its first cut
abbrev pub TellsNext : ℕ → List ℕ → Pending → List Event → Result Step BufferFault → Pending → List Event → Type 0
TellsNext id separator old log result new log' = (a : Oracle) (s : Source) (whole : List ℕ) → IsConsistent a log' → Rest a id log s whole old.bytes old.ending →
    (left : List ℕ) × Tells (cut_of separator whole s.ending) result whole left × Rest a id log' s left new.bytes new.ending

-- what the buffer answers, as the streams answer it; no step that is told asks for more
abbrev pub IsToldAs : Result Step BufferFault → Result (Option (List ℕ)) StreamFault → Type 0
IsToldAs (Ok (Record first)) result = result ≡ Ok (Some first)
IsToldAs (Ok End) result = result ≡ Ok None
IsToldAs (Ok Broken) result = result ≡ Err InputNotReadable
IsToldAs (Ok NeedMore) result = ⊥
IsToldAs (Err fault) result = result ≡ Err (input_fault_of fault)
