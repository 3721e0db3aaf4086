-- How an input is read: only as far as its next record needs, what is left of it then, and what that record is.
-- (POSIX awk, INPUT FILES; Variables and Special Variables: RS)
use Rattle.std.specs.Prelude.{◌≡◌, ◌⊎◌, ℕ, List, [], ◌∷◌, ◌++◌, Option, Some, None, Result, Ok, Err}
use Rattle.awk_record.specs.Cut.{Ending, AtEnd, AtBreak, IsDecided, Cut, Found, NoMore, BrokenOff, TooLong}
use Rattle.awk_record.specs.Buffer.{Pending}
use Rattle.awk_record.specs.declared.buffer_fault.BufferFault.{BufferFault}
use Rattle.awk_record.specs.declared.buffer_fault.BufferFault.TheVariants as buffer
use Rattle.awk_streams.specs.declared.fault.StreamFault.{StreamFault}
use Rattle.awk_streams.specs.declared.fault.StreamFault.TheVariants.{Memory, InputNotReadable, RecordTooLong}
use Rattle.awk_world.specs.definitions.Log.{Event, Read, Ended, Broke}
use Rattle.awk_world.specs.definitions.Oracle.{Oracle, Source, Reading, reading_of}
use Rattle.awk_world.specs.definitions.Writes.{GoesOn}

-- these events, the oldest first, each read the input while the bytes at hand don't decide its record;
-- they lead from the bytes b to b', and to the ending that was met: the last of them, if any
abbrev pub NeededReads : ℕ → List ℕ → List ℕ → List ℕ → Option Ending → List Event → Type 0
NeededReads id separator b b' ending [] = (b' ≡ b) × (ending ≡ None)
NeededReads id separator b b' ending (Read i bs ∷ es) = (i ≡ id) × (IsDecided separator b → ⊥) × NeededReads id separator (b ++ bs) b' ending es
NeededReads id separator b b' ending (Ended i ∷ es) = (i ≡ id) × (IsDecided separator b → ⊥) × (es ≡ []) × (b' ≡ b) × (ending ≡ Some AtEnd)
NeededReads id separator b b' ending (Broke i ∷ es) = (i ≡ id) × (IsDecided separator b → ⊥) × (es ≡ []) × (b' ≡ b) × (ending ≡ Some AtBreak)
NeededReads id separator b b' ending (e ∷ es) = ⊥

-- nothing was done; or needed readings alone, of an input whose ending was not met, that lead from what is pending to these bytes and ending
abbrev pub Reaches : ℕ → List ℕ → Pending → List Event → Pending → List Event → Type 0
Reaches id separator old log new log' =
    ((new ≡ old) × (log' ≡ log)) ⊎ ((old.ending ≡ None) × GoesOn (NeededReads id separator old.bytes new.bytes new.ending) log log')

-- needed readings led somewhere, whether or not the buffer had the memory to hold what they gave
abbrev pub ReadsAsNeeded : ℕ → List ℕ → Pending → List Event → List Event → Type 0
ReadsAsNeeded id separator old log log' = (seen : Pending) × Reaches id separator old log seen log'

-- `whole` is what is not yet taken of the source s: the bytes b at hand, and what was not read yet;
-- once the ending was met, nothing is unread
pub record Rest (a : Oracle) (id : ℕ) (log : List Event) (s : Source) (whole b : List ℕ) (ending : Option Ending) : Type 0 where
  pub reading : Reading
  pub stands : reading_of id log ≡ Some reading
  pub answer : a.input reading.kind reading.name reading.count ≡ Some s
  pub more : List ℕ
  pub begins : s.bytes ≡ reading.bytes ++ more
  pub same : whole ≡ b ++ more
  pub over : (e : Ending) → ending ≡ Some e → (more ≡ []) × (s.ending ≡ e)

-- what is answered where the rest of the input is cut so, and what is left of the whole rest
abbrev pub NextTold : Cut → Result (Option (List ℕ)) StreamFault → List ℕ → List ℕ → Type 0
NextTold (Found first rest) result whole left = (result ≡ Ok (Some first)) × (left ≡ rest)
NextTold NoMore result whole left = (result ≡ Ok None) × (left ≡ [])
NextTold BrokenOff result whole left = (result ≡ Err InputNotReadable) × (left ≡ [])
NextTold TooLong result whole left = (result ≡ Err RecordTooLong) × (left ≡ whole)

abbrev pub input_fault_of : BufferFault → StreamFault
input_fault_of buffer.Memory = Memory
input_fault_of buffer.RecordTooLong = RecordTooLong

-- the faults of asking an input for a record
abbrev pub IsInputFault : StreamFault → Type 0
IsInputFault Memory = Unit {0}
IsInputFault InputNotReadable = Unit {0}
IsInputFault RecordTooLong = Unit {0}
IsInputFault fault = ⊥
