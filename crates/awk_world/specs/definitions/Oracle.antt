-- What the outside of a run would answer, and which logs are consistent with that. All logs have the newest event first.
use Rattle.std.specs.Prelude.{◌≡◌, ◌+◌, ℕ, ℤ, Bool, true, false, ◌&&◌, ◌==◌, if◌then◌else◌, List, [], ◌∷◌, ◌++◌, Option, Some, None, bytes_eq}
use Rattle.awk_world.specs.declared.world.InputKind.{InputKind}
use Rattle.awk_world.specs.declared.world.InputKind.TheVariants.{Standard, File, Command}
use Rattle.awk_world.specs.declared.world.OutputKind.{OutputKind}
use Rattle.awk_world.specs.declared.world.OutputKind.TheVariants.{File as ToFile, Command as ToCommand}
use Rattle.awk_world.specs.definitions.Log.{Event, OpenedInput, OpenedOutput, Read, Ended, Broke, Wrote, Flushed, Closed, Ran}
use Rattle.awk_record.specs.Cut.{Ending, AtEnd, AtBreak}

-- all the bytes that an opening of an input gives, and its ending
pub record Source : Type 0 where
  pub bytes : List ℕ
  pub ending : Ending

-- To the k-th opening of an input of a kind and name: what it gives, or that it is refused; to that of an output: whether it is granted;
-- to the k-th closing of a command and to the k-th run of one: its number. Each k is counted from 0.
pub record Oracle : Type 0 where
  pub input : InputKind → List ℕ → ℕ → Option Source
  pub output : OutputKind → List ℕ → ℕ → Bool
  pub closing : ℕ → ℤ
  pub running : ℕ → ℤ

-- Counts: a sort of events is told by the event and the log before it.

abbrev pub one_if : Bool → ℕ
one_if b = if b then 1 else 0

-- how many events of the log are of a sort
abbrev pub how_many : (Event → List Event → Bool) → List Event → ℕ
how_many sort [] = 0
how_many sort (e ∷ older) = one_if (sort e older) + how_many sort older

abbrev pub same_input_kind : InputKind → InputKind → Bool
same_input_kind Standard Standard = true
same_input_kind File File = true
same_input_kind Command Command = true
same_input_kind j k = false

abbrev pub same_output_kind : OutputKind → OutputKind → Bool
same_output_kind ToFile ToFile = true
same_output_kind ToCommand ToCommand = true
same_output_kind j k = false

abbrev pub opens_input : InputKind → List ℕ → Event → List Event → Bool
opens_input kind name (OpenedInput k n id) older = same_input_kind kind k && bytes_eq name n
opens_input kind name e older = false

abbrev pub opens_output : OutputKind → List ℕ → Event → List Event → Bool
opens_output kind name (OpenedOutput k n mode id) older = same_output_kind kind k && bytes_eq name n
opens_output kind name e older = false

pub data Standing : Type 0 where
  AnInput : (kind : InputKind) → Standing
  AnOutput : (kind : OutputKind) → Standing

-- what stands open under a number: what its newest opening granted, unless that was closed since
abbrev pub standing : ℕ → List Event → Option Standing
standing id [] = None
standing id (OpenedInput kind name (Some i) ∷ older) = if i == id then Some (AnInput kind) else standing id older
standing id (OpenedOutput kind name mode (Some i) ∷ older) = if i == id then Some (AnOutput kind) else standing id older
standing id (Closed i n ∷ older) = if i == id then None else standing id older
standing id (e ∷ older) = standing id older

abbrev pub is_command : Option Standing → Bool
is_command (Some (AnInput Command)) = true
is_command (Some (AnOutput ToCommand)) = true
is_command s = false

abbrev pub closes_command : Event → List Event → Bool
closes_command (Closed id n) older = is_command (standing id older)
closes_command e older = false

abbrev pub runs : Event → List Event → Bool
runs (Ran command n) older = true
runs e older = false

-- what was read of an input that stands open: its kind, its name, which opening of these it is, its bytes so far, and whether its ending was met
pub record Reading : Type 0 where
  pub kind : InputKind
  pub name : List ℕ
  pub count : ℕ
  pub bytes : List ℕ
  pub is_over : Bool

abbrev pub new_reading : InputKind → List ℕ → List Event → Reading
new_reading kind name older = record { kind = kind; name = name; count = how_many (opens_input kind name) older; bytes = []; is_over = false }

abbrev pub read_on : List ℕ → Option Reading → Option Reading
read_on bs None = None
read_on bs (Some r) = Some record r { bytes = r.bytes ++ bs }

abbrev pub over : Option Reading → Option Reading
over None = None
over (Some r) = Some record r { is_over = true }

-- the reading of the input that stands open under a number
abbrev pub reading_of : ℕ → List Event → Option Reading
reading_of id [] = None
reading_of id (OpenedInput kind name (Some i) ∷ older) = if i == id then Some (new_reading kind name older) else reading_of id older
reading_of id (OpenedOutput kind name mode (Some i) ∷ older) = if i == id then None else reading_of id older
reading_of id (Read i bs ∷ older) = if i == id then read_on bs (reading_of id older) else reading_of id older
reading_of id (Ended i ∷ older) = if i == id then over (reading_of id older) else reading_of id older
reading_of id (Broke i ∷ older) = if i == id then over (reading_of id older) else reading_of id older
reading_of id (Closed i n ∷ older) = if i == id then None else reading_of id older
reading_of id (e ∷ older) = reading_of id older

-- the oracle gives what was read before, then these bytes, and then any more
abbrev pub Gives : Oracle → Option Reading → List ℕ → Type 0
Gives a None bs = ⊥
Gives a (Some r) bs = (s : Source) × (a.input r.kind r.name r.count ≡ Some s) × ((more : List ℕ) × (s.bytes ≡ (r.bytes ++ bs) ++ more))

-- the oracle gives just what was read before, and this ending
abbrev pub EndsWith : Oracle → Option Reading → Ending → Type 0
EndsWith a None ending = ⊥
EndsWith a (Some r) ending = (s : Source) × (a.input r.kind r.name r.count ≡ Some s) × (s.bytes ≡ r.bytes) × (s.ending ≡ ending)

-- an event is what the oracle gives after the older ones; what is written, and what a file's closing gives, is no answer of the outside
abbrev pub IsConsistentAt : Oracle → Event → List Event → Type 0
IsConsistentAt a (OpenedInput kind name (Some id)) older = (s : Source) × (a.input kind name (how_many (opens_input kind name) older) ≡ Some s)
IsConsistentAt a (OpenedInput kind name None) older = a.input kind name (how_many (opens_input kind name) older) ≡ None
IsConsistentAt a (OpenedOutput kind name mode (Some id)) older = a.output kind name (how_many (opens_output kind name) older) ≡ true
IsConsistentAt a (OpenedOutput kind name mode None) older = a.output kind name (how_many (opens_output kind name) older) ≡ false
IsConsistentAt a (Read id bs) older = Gives a (reading_of id older) bs
IsConsistentAt a (Ended id) older = EndsWith a (reading_of id older) AtEnd
IsConsistentAt a (Broke id) older = EndsWith a (reading_of id older) AtBreak
IsConsistentAt a (Closed id n) older = is_command (standing id older) ≡ true → a.closing (how_many closes_command older) ≡ n
IsConsistentAt a (Ran command n) older = a.running (how_many runs older) ≡ n
IsConsistentAt a (Wrote id bs) older = Unit {0}
IsConsistentAt a (Flushed id) older = Unit {0}

abbrev pub IsConsistent : Oracle → List Event → Type 0
IsConsistent a [] = Unit {0}
IsConsistent a (e ∷ older) = IsConsistentAt a e older × IsConsistent a older

-- no opening, no closing of a command and no run was answered
pub record SameCounts (old new : List Event) : Type 0 where
  pub inputs : (kind : InputKind) (name : List ℕ) → how_many (opens_input kind name) new ≡ how_many (opens_input kind name) old
  pub outputs : (kind : OutputKind) (name : List ℕ) → how_many (opens_output kind name) new ≡ how_many (opens_output kind name) old
  pub closings : how_many closes_command new ≡ how_many closes_command old
  pub runs : how_many runs new ≡ how_many runs old
