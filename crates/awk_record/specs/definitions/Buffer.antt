-- What a buffer of an input's bytes holds, and what it answers when it is asked for the next record.
use Rattle.std.specs.Prelude.{◌≡◌, ℕ, List, [], Option, Some, None, Result, Ok, Err}
use Rattle.awk_record.specs.definitions.Cut.{Ending, Cut, Found, NoMore, BrokenOff, TooLong, cut_of, IsDecided}
use Rattle.awk_record.specs.declared.buffer.Step.{Step}
use Rattle.awk_record.specs.declared.buffer.Step.TheVariants.{Record, NeedMore, End, Broken}
use Rattle.awk_record.specs.declared.buffer_fault.BufferFault.{BufferFault}
use Rattle.awk_record.specs.declared.buffer_fault.BufferFault.TheVariants.{RecordTooLong}

-- the bytes that were fed and not yet taken, and the ending that was met behind them
pub record Pending : Type 0 where
  pub bytes : List ℕ
  pub ending : Option Ending

-- the buffer answers what a cut of its bytes found, and keeps what follows it
abbrev pub IsAnswerOf : Cut → Option Ending → Result Step BufferFault → (old new : Pending) → Type 0
IsAnswerOf (Found first rest) ending result old new = (result ≡ Ok (Record first)) × (new.bytes ≡ rest) × (new.ending ≡ ending)
IsAnswerOf NoMore ending result old new = (result ≡ Ok End) × (new.bytes ≡ []) × (new.ending ≡ ending)
IsAnswerOf BrokenOff ending result old new = (result ≡ Ok Broken) × (new.bytes ≡ []) × (new.ending ≡ ending)
IsAnswerOf TooLong ending result old new = (result ≡ Err RecordTooLong) × (new ≡ old)

-- what an asking for the next record answers, and what is pending then
pub record Steps (separator : List ℕ) (old : Pending) (result : Result Step BufferFault) (new : Pending) : Type 0 where
  -- more is asked for exactly where no ending was met and the bytes don't decide the record
  pub needs_more : old.ending ≡ None → (IsDecided separator old.bytes → ⊥) → (result ≡ Ok NeedMore) × (new ≡ old)
  pub only_then : result ≡ Ok NeedMore → (old.ending ≡ None) × (IsDecided separator old.bytes → ⊥)
  -- a decided record is the same whatever ending comes
  pub decided : old.ending ≡ None → IsDecided separator old.bytes → (ending : Ending) → IsAnswerOf (cut_of separator old.bytes ending) None result old new
  -- after the ending the bytes are all that is left
  pub ended : (ending : Ending) → old.ending ≡ Some ending → IsAnswerOf (cut_of separator old.bytes ending) (Some ending) result old new
