-- The streams of a run as one value: the main input, the standard outputs, and the named streams; what is known of them
-- in a world, and what they are in the words of the language (POSIX awk, INPUT FILES; STDOUT; STDERR; OUTPUT FILES).
use Rattle.std.specs.Prelude.{◌≡◌, ◌≢◌, ◌≤◌, ℕ, Bool, true, false, ◌||◌, ◌==◌, List, [], ◌∷◌, length, slice_get, Option, Some, None, is_some, Result, Ok, Err, bytes_eq, if◌then◌else◌}
use Rattle.awk_world.specs.declared.world.InputKind.{InputKind}
use Rattle.awk_world.specs.declared.world.InputKind.TheVariants.{Command}
use Rattle.awk_world.specs.definitions.WorldState.{WorldState, Closes, SameOpen, FailsNow, MayFailNow, MayFailInside}
use Rattle.awk_world.specs.declared.world.WorldFault.TheVariants.{Failed}
use Rattle.awk_world.specs.definitions.Log.{Event, Wrote, Flushed}
use Rattle.awk_world.specs.definitions.Oracle.{Oracle, Source, AnInput as InputStands, AnOutput as OutputStands, standing}
use Rattle.awk_world.specs.definitions.Orderly.{IsReadable, IsInOrder}
use Rattle.awk_world.specs.definitions.Writes.{GoesOn}
use Rattle.awk_world.specs.definitions.Openings.{Opening, openings, in_order, receives, is_flushed, AreBrought}
use Rattle.awk_streams.specs.declared.fault.StreamFault.{StreamFault}
use Rattle.awk_streams.specs.declared.fault.StreamFault.TheVariants.{Memory, WriteFailed}
use Rattle.awk_streams.specs.declared.input.Input.{Input}
use Rattle.awk_streams.specs.declared.named.NamedStream.{NamedStream}
use Rattle.awk_streams.specs.declared.named.NamedStream.TheVariants as named
use Rattle.awk_streams.specs.declared.streams.Target.{Target}
use Rattle.awk_streams.specs.declared.streams.Target.TheVariants as target
use Rattle.awk_streams.specs.definitions.Inputs.{Rest}
use Rattle.awk_streams.specs.definitions.Named as words

pub record StreamsView : Type 0 where
  pub main : Option Input
  -- what was printed to standard output and to standard error, and is not yet written
  pub output : List ℕ
  pub error : List ℕ
  -- the named streams that are open, in the order of their openings
  pub named : List NamedStream

-- no more may be open
abbrev pub most_streams : ℕ
most_streams = 200

-- the number of a stream in its world
abbrev pub number_of : NamedStream → ℕ
number_of (named.Input kind name input) = input.id
number_of (named.Output kind name output) = output.id

abbrev pub name_of : NamedStream → words.Named
name_of (named.Input kind name input) = words.Input kind name
name_of (named.Output kind name output) = words.Output kind name

-- the names of the streams, with their numbers
abbrev pub numbered : List NamedStream → List (words.Named × ℕ)
numbered [] = []
numbered (x ∷ xs) = (name_of x, number_of x) ∷ numbered xs

abbrev pub is_called : List ℕ → NamedStream → Bool
is_called text (named.Input kind name input) = bytes_eq name text
is_called text (named.Output kind name output) = bytes_eq name text

-- a stream without what it holds back
abbrev pub unheld : NamedStream → NamedStream
unheld (named.Input kind name input) = named.Input kind name input
unheld (named.Output kind name output) = named.Output kind name record { id = output.id; held = [] }

abbrev pub all_unheld : List NamedStream → List NamedStream
all_unheld [] = []
all_unheld (x ∷ xs) = unheld x ∷ all_unheld xs

-- What is known of every world: the streams are open in it, under different numbers.

abbrev pub IsOpenMain : WorldState → Option Input → Type 0
IsOpenMain world None = Unit {0}
IsOpenMain world (Some input) = (world.is_open input.id ≡ true) × (2 ≤ input.id)

abbrev pub AreOpenNamed : WorldState → List NamedStream → Type 0
AreOpenNamed world [] = Unit {0}
AreOpenNamed world (x ∷ xs) = (world.is_open (number_of x) ≡ true) × (2 ≤ number_of x) × AreOpenNamed world xs

-- none of the streams has this number
abbrev pub AreOthers : ℕ → List NamedStream → Type 0
AreOthers id [] = Unit {0}
AreOthers id (x ∷ xs) = (number_of x ≢ id) × AreOthers id xs

abbrev pub AreApart : List NamedStream → Type 0
AreApart [] = Unit {0}
AreApart (x ∷ xs) = AreOthers (number_of x) xs × AreApart xs

abbrev pub IsApartFrom : Option Input → List NamedStream → Type 0
IsApartFrom None xs = Unit {0}
IsApartFrom (Some input) xs = AreOthers input.id xs

pub record AreOpen (world : WorldState) (streams : StreamsView) : Type 0 where
  pub main : IsOpenMain world streams.main
  pub named : AreOpenNamed world streams.named
  pub apart : AreApart streams.named
  pub apart_from_main : IsApartFrom streams.main streams.named

-- an input of which nothing was read
abbrev pub IsFreshMain : Option Input → Type 0
IsFreshMain main = (id : ℕ) × (main ≡ Some record { id = id; pending = record { bytes = []; ending = None } })

-- the same main input, or none as before
abbrev pub IsSameMain : Option Input → Option Input → Type 0
IsSameMain None None = Unit {0}
IsSameMain (Some x) (Some y) = y.id ≡ x.id
IsSameMain x y = ⊥

-- which streams are open after the main input, if there was one, was closed
abbrev pub ClosesMain : WorldState → WorldState → Option Input → Type 0
ClosesMain old new None = SameOpen old new
ClosesMain old new (Some input) = Closes old new input.id

-- What is known of a world that tells its log.

-- the numbers of all outputs, each with what is held back
abbrev pub held_in : List NamedStream → List (ℕ × List ℕ)
held_in [] = []
held_in (named.Input kind name input ∷ xs) = held_in xs
held_in (named.Output kind name output ∷ xs) = (output.id, output.held) ∷ held_in xs

abbrev pub held_of : StreamsView → List (ℕ × List ℕ)
held_of streams = (0, streams.output) ∷ (1, streams.error) ∷ held_in streams.named

-- the openings of outputs, as they are once what is held back is written
abbrev pub with_held : List (ℕ × List ℕ) → List (ℕ × Opening) → List (ℕ × Opening)
with_held [] os = os
with_held (h ∷ hs) os = with_held hs (receives h.0 h.1 os)

-- all openings of outputs in their order, with what was printed to each
abbrev pub printed_openings : WorldState → StreamsView → List Opening
printed_openings world streams = in_order (with_held (held_of streams) (openings world.log))

abbrev pub is_output_among : ℕ → List (ℕ × List ℕ) → Bool
is_output_among id [] = false
is_output_among id (h ∷ hs) = h.0 == id || is_output_among id hs

-- what stands open in the log as an input of this kind, and can be read on unless its ending was met
pub record IsSoundInput (log : List Event) (kind : InputKind) (input : Input) : Type 0 where
  pub stands : standing input.id log ≡ Some (InputStands kind)
  pub readable : input.pending.ending ≡ None → IsReadable input.id log

-- the main input is no command
abbrev pub IsSoundMain : List Event → Option Input → Type 0
IsSoundMain log None = Unit {0}
IsSoundMain log (Some input) = (kind : InputKind) × (kind ≢ Command) × IsSoundInput log kind input

abbrev pub IsSound : List Event → NamedStream → Type 0
IsSound log (named.Input kind name input) = IsSoundInput log kind input
IsSound log (named.Output kind name output) = standing output.id log ≡ Some (OutputStands kind)

abbrev pub AreSoundNamed : List Event → List NamedStream → Type 0
AreSoundNamed log [] = Unit {0}
AreSoundNamed log (x ∷ xs) = IsSound log x × AreSoundNamed log xs

-- none of the streams is of this kind and name
abbrev pub HaveOtherNames : words.Named → List NamedStream → Type 0
HaveOtherNames x [] = Unit {0}
HaveOtherNames x (y ∷ ys) = (words.same_named x (name_of y) ≡ false) × HaveOtherNames x ys

-- no two streams are of one kind and name
abbrev pub AreOnce : List NamedStream → Type 0
AreOnce [] = Unit {0}
AreOnce (x ∷ xs) = HaveOtherNames (name_of x) xs × AreOnce xs

-- whether the main input, or one of the named streams, has this number
abbrev pub is_of_main : ℕ → Option Input → Bool
is_of_main id None = false
is_of_main id (Some input) = input.id == id

abbrev pub is_of_named : ℕ → List NamedStream → Bool
is_of_named id [] = false
is_of_named id (x ∷ xs) = number_of x == id || is_of_named id xs

pub record AreSound (world : WorldState) (streams : StreamsView) : Type 0 where
  pub order : IsInOrder world.is_open world.log
  pub main : IsSoundMain world.log streams.main
  pub named : AreSoundNamed world.log streams.named
  pub once : AreOnce streams.named
  pub few : length streams.named ≤ most_streams
  -- what is written to no more was flushed, or closed
  pub flushed : (id : ℕ) → is_output_among id (held_of streams) ≡ false → is_flushed id world.log ≡ true
  -- nothing else stands open
  pub owned : (id : ℕ) → is_of_main id streams.main ≡ false → is_of_named id streams.named ≡ false → standing id world.log ≡ None

-- What the streams are in the words of the language, as the oracle gives it.

-- what is left of an input: all bytes not yet taken, and the ending behind them
abbrev pub IsRestOf : Oracle → List Event → Input → Source → Type 0
IsRestOf a log input whole = (s : Source) × (s.ending ≡ whole.ending) × Rest a input.id log s whole.bytes input.pending.bytes input.pending.ending

abbrev pub IsMainRest : Oracle → List Event → Option Input → Option Source → Type 0
IsMainRest a log None None = Unit {0}
IsMainRest a log (Some input) (Some whole) = IsRestOf a log input whole
IsMainRest a log x y = ⊥

-- which of all openings the newest under a number is, counted from 0 in their order
abbrev pub place_of : ℕ → List (ℕ × Opening) → Option ℕ
place_of id [] = None
place_of id (o ∷ older) = if o.0 == id then Some (length older) else place_of id older

abbrev pub StandsFor : Oracle → List Event → NamedStream → words.Stream → Type 0
StandsFor a log (named.Input kind name input) (words.AnInput k n rest) = (k ≡ kind) × (n ≡ name) × IsRestOf a log input rest
StandsFor a log (named.Output kind name output) (words.AnOutput k n opening) = (k ≡ kind) × (n ≡ name) × (place_of output.id (openings log) ≡ Some opening)
StandsFor a log x y = ⊥

-- these streams, in their order
abbrev pub StandFor : Oracle → List Event → List NamedStream → List words.Stream → Type 0
StandFor a log [] [] = Unit {0}
StandFor a log (x ∷ xs) (y ∷ ys) = StandsFor a log x y × StandFor a log xs ys
StandFor a log xs ys = ⊥

-- the rest of the main input, if it is open, and the named streams
pub record AreAs (a : Oracle) (world : WorldState) (streams : StreamsView) (main_rest : Option Source) (open_streams : List words.Stream) : Type 0 where
  pub main : IsMainRest a world.log streams.main main_rest
  pub named : StandFor a world.log streams.named open_streams

-- Targets of printing.

abbrev pub number_of_output : NamedStream → Option ℕ
number_of_output (named.Input kind name input) = None
number_of_output (named.Output kind name output) = Some output.id

abbrev pub number_of_some : Option NamedStream → Option ℕ
number_of_some None = None
number_of_some (Some x) = number_of_output x

-- the number of what is printed to
abbrev pub number_at : Target → StreamsView → Option ℕ
number_at target.StandardOutput streams = Some 0
number_at target.StandardError streams = Some 1
number_at (target.Named i) streams = number_of_some (slice_get streams.named i)

abbrev pub IsTarget : Target → StreamsView → Type 0
IsTarget x streams = is_some (number_at x streams) ≡ true

-- which of the openings of outputs is printed to
abbrev pub place_of_some : Option ℕ → List (ℕ × Opening) → Option ℕ
place_of_some None os = None
place_of_some (Some id) os = place_of id os

abbrev pub opening_at : Target → StreamsView → List Event → Option ℕ
opening_at target.StandardOutput streams log = Some 0
opening_at target.StandardError streams log = Some 1
opening_at (target.Named i) streams log = place_of_some (number_of_some (slice_get streams.named i)) (openings log)

-- Failures, and what comes before commands, closings and the end.

-- a call that ended with this fault
abbrev pub FailsBy : StreamFault → WorldState → WorldState → Type 0
FailsBy Memory before after = MayFailNow before after
FailsBy WriteFailed before after = FailsNow Failed before after
FailsBy fault before after = after.failures ≡ before.failures

abbrev pub FailsAs : {T : Type 0} → Result T StreamFault → WorldState → WorldState → Type 0
FailsAs (Ok x) before after = after.failures ≡ before.failures
FailsAs (Err fault) before after = FailsBy fault before after

-- a call that writes to no output, which may fail for want of memory alone
abbrev pub FailsInside : {T : Type 0} → Result T StreamFault → WorldState → WorldState → Type 0
FailsInside (Err Memory) before after = MayFailInside before after
FailsInside result before after = after.failures ≡ before.failures

-- these events only bring bytes to outputs
abbrev pub AreBringing : List Event → Type 0
AreBringing [] = Unit {0}
AreBringing (Wrote id bytes ∷ es) = AreBringing es
AreBringing (Flushed id ∷ es) = AreBringing es
AreBringing (e ∷ es) = ⊥

-- when the log was this, every output had received all that was printed to it, and was flushed
pub record Brings (before : WorldState) (old : StreamsView) (log : List Event) : Type 0 where
  pub only : GoesOn AreBringing before.log log
  pub brought : AreBrought (printed_openings before old) log

-- so it is before a command; before a file nothing need be done
abbrev pub BringsIf : (is_command : Bool) → WorldState → StreamsView → List Event → Type 0
BringsIf true before old log = Brings before old log
BringsIf false before old log = log ≡ before.log
