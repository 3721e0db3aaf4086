-- The log of a world, and what each call adds to it.
-- (POSIX awk, INPUT FILES, STDOUT, OUTPUT FILES; Input/Output and General Functions: getline, close, system)
use Rattle.std.specs.Prelude.{ℕ, ℤ, List, [], ◌∷◌, length, take, Option, Some, None, Result, Ok, Err, ◌==◌, if◌then◌else◌}
use Rattle.awk_world.specs.declared.world.InputKind.{InputKind}
use Rattle.awk_world.specs.declared.world.OutputKind.{OutputKind}
use Rattle.awk_world.specs.declared.world.Mode.{Mode}
use Rattle.awk_world.specs.declared.world.WorldFault.{WorldFault}
use Rattle.awk_world.specs.declared.world.WorldFault.TheVariants.{Memory, Failed}
use Rattle.awk_world.specs.declared.failure.Failure.{Failure}

pub data Event : Type 0 where
  -- an opening, and the number of the stream; no number: refused
  OpenedInput : (kind : InputKind) (name : List ℕ) (id : Option ℕ) → Event
  OpenedOutput : (kind : OutputKind) (name : List ℕ) (mode : Mode) (id : Option ℕ) → Event
  -- a reading: bytes, or the end, or a break
  Read : (id : ℕ) (bytes : List ℕ) → Event
  Ended : (id : ℕ) → Event
  Broke : (id : ℕ) → Event
  Wrote : (id : ℕ) (bytes : List ℕ) → Event
  Flushed : (id : ℕ) → Event
  Closed : (id : ℕ) (answer : ℤ) → Event
  Ran : (command : List ℕ) (answer : ℤ) → Event

-- what there is to note of a call: what it did, or that it failed, and the output that it was to write to or flush
pub data Noted : Type 0 where
  Did : (event : Event) → Noted
  DidNot : (output : Option ℕ) (what : WorldFault) → Noted

-- the log after a call, the newest event first
abbrev pub logged : Noted → List Event → List Event
logged (Did e) log = e ∷ log
logged (DidNot output what) log = log

-- the failures after a call, the newest first: one that isn't logged is a failure, at the length of the log then
abbrev pub failures_after : Noted → List Event → List Failure → List Failure
failures_after (Did e) log failures = failures
failures_after (DidNot output what) log failures = record { at = length log; output = output; what = what } ∷ failures

-- What there is to note of each call, by its arguments and its answer. Refused memory, a failed write and a failed flush are not logged.

abbrev pub input_opening : InputKind → List ℕ → Result ℕ WorldFault → Noted
input_opening kind name (Ok id) = Did (OpenedInput kind name (Some id))
input_opening kind name (Err Failed) = Did (OpenedInput kind name None)
input_opening kind name (Err Memory) = DidNot None Memory

abbrev pub output_opening : OutputKind → List ℕ → Mode → Result ℕ WorldFault → Noted
output_opening kind name mode (Ok id) = Did (OpenedOutput kind name mode (Some id))
output_opening kind name mode (Err Failed) = Did (OpenedOutput kind name mode None)
output_opening kind name mode (Err Memory) = DidNot None Memory

-- the first n bytes of the slice were read; none into a slice with room is the end
abbrev pub bytes_or_end : ℕ → ℕ → List ℕ → Event
bytes_or_end id n [] = Read id []
bytes_or_end id n (b ∷ bs) = if n == 0 then Ended id else Read id (take n (b ∷ bs))

abbrev pub reading : ℕ → Result ℕ WorldFault → List ℕ → Noted
reading id (Ok n) into = Did (bytes_or_end id n into)
reading id (Err Failed) into = Did (Broke id)
reading id (Err Memory) into = DidNot None Memory

-- the first n bytes were taken; to take none of some bytes is a failure
abbrev pub taken_or_none : ℕ → ℕ → List ℕ → Noted
taken_or_none id n [] = Did (Wrote id [])
taken_or_none id n (b ∷ bs) = if n == 0 then DidNot (Some id) Failed else Did (Wrote id (take n (b ∷ bs)))

abbrev pub writing : ℕ → Result ℕ WorldFault → List ℕ → Noted
writing id (Ok n) bytes = taken_or_none id n bytes
writing id (Err e) bytes = DidNot (Some id) e

abbrev pub flushing : ℕ → Result (Unit {0}) WorldFault → Noted
flushing id (Ok u) = Did (Flushed id)
flushing id (Err e) = DidNot (Some id) e

abbrev pub running : List ℕ → Result ℤ WorldFault → Noted
running command (Ok n) = Did (Ran command n)
running command (Err e) = DidNot None e
