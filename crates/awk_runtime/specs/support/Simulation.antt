-- How the code's state and world stand for the state of the definitions, and what a part of the code does.
use Rattle.std.specs.Prelude.{◌≡◌, ◌⊎◌, ℕ, pos, ◌≤◌, ◌<◌, Bool, false, List, [], ◌∷◌, ◌++◌, length, map, slice_get, get_or, unwrap_or, Option, Some, None, Result, Ok, Err, OnOk}
use Rattle.awk_value.specs.declared.value.Value.TheVariants.{Nothing}
use Rattle.awk_world.specs.declared.world.InputKind.{InputKind}
use Rattle.awk_world.specs.declared.world.OutputKind.{OutputKind}
use Rattle.awk_world.specs.declared.world.WorldFault.{WorldFault}
use Rattle.awk_world.specs.declared.world.WorldFault.TheVariants.{Memory, Failed}
use Rattle.awk_streams.specs.declared.fault.StreamFault.{StreamFault}
use Rattle.awk_streams.specs.declared.input.Input.{Input}
use Rattle.awk_streams.specs.WorldState.{WorldState}
use Rattle.awk_streams.specs.Oracle.{Oracle, IsConsistent, how_many, opens_input, opens_output, closes_command, runs}
use Rattle.awk_streams.specs.Log.{Event}
use Rattle.awk_streams.specs.Openings.{Begins}
use Rattle.awk_streams.specs.Grows.{Grows}
use Rattle.awk_streams.specs.Streams.{StreamsView, AreOpen, AreSound, AreAs, numbered, held_of, printed_openings}
use Rattle.awk_streams.specs.Lost.{KeepsOthers}
use Rattle.awk_kinds.specs.declared.special.Special.{Special}
use Rattle.awk_kinds.specs.Variables.{value_of, name_of}
use Rattle.awk_semantics.specs.declared.halt.Halt.{Halt}
use Rattle.awk_semantics.specs.declared.halt.Halt.TheVariants as halt
use Rattle.awk_semantics.specs.declared.local.Local.{Local}
use Rattle.awk_semantics.specs.State.{Effect, Frame, State, Out, Run}
use Rattle.awk_semantics.specs.Results.{Sort, WantOfMemory, FailedWrite, OfLanguage, sort_of}
use Rattle.awk_semantics.specs.PartFaults.{stream_fault}
use Rattle.awk_semantics.specs.Primitives.{spend}
use Rattle.awk_semantics.specs.Meaning.{first_outputs, outputs_after, requests_from}
use Rattle.awk_semantics.specs.Order.{Stage, MeetsAll, first_stage}
use Rattle.awk_storage.specs.support.Frames.{FrameView}
use Rattle.awk_runtime.specs.declared.runtime.Runtime.{Runtime}

-- the code's own state

-- whether a range is inside, by the number of its item
abbrev pub inside_of : Runtime → ℕ → Bool
inside_of m n = unwrap_or (slice_get m.inside.items n) false

-- a call that is active, without the names of its parameters
abbrev pub frame_view : Frame → FrameView
frame_view frame = record { locals = map (λ (l : List ℕ × Local). l.1) frame.locals; height = frame.height; arrays_before = frame.arrays_before }

-- the code's own state is the one of the definitions; its streams are left aside
pub record OwnRelation (m : Runtime) (s : State) : Type 0 where
  pub current : s.current ≡ m.current
  pub specials : (x : Special) → s.variables (name_of x) ≡ value_of m.specials (name_of x)
  pub globals : (i : ℕ) (x : List ℕ) → slice_get m.names.scalars i ≡ Some x → s.variables x ≡ get_or m.globals.items i Nothing
  pub slots : length m.globals.items ≡ length m.names.scalars
  pub array_names : s.array_names ≡ m.names.arrays
  pub function_names : s.function_names ≡ m.names.functions
  pub arrays : s.arrays ≡ m.arrays
  pub frames : m.frames.frames ≡ map frame_view s.frames
  pub staged : m.frames.staged ≡ []
  pub next : pos s.next ≡ m.next
  pub input_seen : s.input_seen ≡ m.input_seen
  pub inside : (n : ℕ) → s.inside n ≡ inside_of m n
  pub status : s.status ≡ m.status
  pub steps : s.steps ≡ m.steps

-- the streams

-- the number of the main input, if there is one
abbrev pub main_number : Option Input → Option ℕ
main_number None = None
main_number (Some input) = Some input.id

abbrev pub stage_of : List Event → StreamsView → Stage
stage_of log streams = record { log = log; main = main_number streams.main; streams = numbered streams.named }

-- the streams and the world stand for those of the state s after these effects, whose requests were met in turn; what they
-- print is received or held back
pub record StreamsRelation (oracle : Oracle) (streams : StreamsView) (k : WorldState) (s : State) (past : List Effect) : Type 0 where
  pub outside : s.outside ≡ oracle
  pub openings : (kind : InputKind) (name : List ℕ) → s.openings kind name ≡ how_many (opens_input kind name) k.log
  pub output_openings : (kind : OutputKind) (name : List ℕ) → s.output_openings kind name ≡ how_many (opens_output kind name) k.log
  pub closings : s.closings ≡ how_many closes_command k.log
  pub runs : s.runs ≡ how_many runs k.log
  pub outputs : s.outputs ≡ length (outputs_after past)
  pub are : AreAs oracle k streams s.main s.streams
  pub printed : printed_openings k streams ≡ outputs_after past
  pub turn : MeetsAll oracle (requests_from first_outputs past) first_stage (stage_of k.log streams)

-- the code's state and world stand for the state s after these effects
pub record StateRelation (oracle : Oracle) (m : Runtime) (k : WorldState) (s : State) (past : List Effect) : Type 0 where
  pub clear : k.failures ≡ []
  pub streams : StreamsRelation oracle m.streams k s past
  pub holds : OwnRelation m s

-- what is known of the streams in every world
pub record IsReady (is_logged : Type 0) (k : WorldState) (streams : StreamsView) : Type 0 where
  pub are_open : AreOpen k streams
  pub are_sound : is_logged → AreSound k streams

-- a part that a failure ended: of these effects some were done, whose requests the log met in turn, and the outputs, with what is
-- held back, are what those print, but for those of which a write or a flush failed; they all begin what all effects print. The
-- world's failures stand so
pub record FailureRelation (oracle : Oracle) (stands : Type 0) (streams : StreamsView) (k : WorldState) (effects : List Effect) : Type 0 where
  pub done : List Effect
  pub others : List Effect
  pub parts : effects ≡ done ++ others
  pub last : Stage
  pub at : last.log ≡ k.log
  pub turn : MeetsAll oracle (requests_from first_outputs done) first_stage last
  pub keeps : KeepsOthers (outputs_after done) k (held_of streams)
  pub begins : Begins (printed_openings k streams) (outputs_after effects)
  pub failure : stands

-- the world met one failure, of this kind, where its log ended
abbrev pub FailedLast : WorldFault → WorldState → Type 0
FailedLast what k = (output : Option ℕ) × (k.failures ≡ record { at = length k.log; output = output; what = what } ∷ [])

-- what a part came to: where a write failed, that was the world's one failure, and where memory was refused, the world met none or
-- this one alone; else the result is the meaning's, and the code's state stands for the meaning's
abbrev pub ResultRelationBy : {A : Type 0} → Oracle → Runtime → WorldState → Sort → Out A → List Effect → Type 0
ResultRelationBy oracle m k WantOfMemory o past = FailureRelation oracle ((k.failures ≡ []) ⊎ FailedLast Memory k) m.streams k (past ++ o.effects)
ResultRelationBy oracle m k FailedWrite o past = FailureRelation oracle (FailedLast Failed k) m.streams k (past ++ o.effects)
ResultRelationBy oracle m k (OfLanguage reason) o past = (o.result ≡ Err reason) × StateRelation oracle m k o.state (past ++ o.effects)

abbrev pub ResultRelation : {A : Type 0} → Oracle → Runtime → WorldState → Result A Halt → Out A → List Effect → Type 0
ResultRelation oracle m k (Ok a) o past = (o.result ≡ Ok a) × StateRelation oracle m k o.state (past ++ o.effects)
ResultRelation oracle m k (Err h) o past = ResultRelationBy oracle m k (sort_of h) o past

-- from the old state and a world that is logged to the new ones, with this result, the code does what the run says
pub record SimulatesLogged {A : Type 0} (old : Runtime) (before : WorldState) (new : Runtime) (after : WorldState) (r : Result A Halt) (run : Run A) : Type 0 where
  pub grows : Grows before after
  pub means : (oracle : Oracle) (s : State) (past : List Effect) → IsConsistent oracle after.log → StateRelation oracle old before s past → ResultRelation oracle new after r (run s) past

-- the same of any world, of which it holds where the world is logged
pub record Simulates {A : Type 0} (is_logged : Type 0) (old : Runtime) (before : WorldState) (new : Runtime) (after : WorldState) (r : Result A Halt) (run : Run A) : Type 0 where
  pub steps : new.steps ≤ old.steps
  pub names : new.names ≡ old.names
  pub told : is_logged → SimulatesLogged old before new after r run

-- a change of the code's state alone, whatever world stands beside it; no call begins or is over
pub record Changes {A : Type 0} (run : Run A) (old new : Runtime) (r : Result A Halt) : Type 0 where
  pub steps : new.steps ≤ old.steps
  pub names : new.names ≡ old.names
  pub streams : new.streams ≡ old.streams
  pub callers : new.frames.callers ≡ old.frames.callers
  pub means : (k : WorldState) → SimulatesLogged old k new k r run

-- the same where a call may begin or be over
pub record ChangesCalls {A : Type 0} (run : Run A) (old new : Runtime) (r : Result A Halt) : Type 0 where
  pub steps : new.steps ≤ old.steps
  pub names : new.names ≡ old.names
  pub streams : new.streams ≡ old.streams
  pub means : (k : WorldState) → SimulatesLogged old k new k r run

-- what a call that reaches the world does
pub record Follows {A : Type 0} (is_logged : Type 0) (run : Run A) (old : Runtime) (before : WorldState) (new : Runtime) (after : WorldState) (r : Result A Halt) : Type 0 where
  pub simulates : Simulates is_logged old before new after r run
  pub callers : new.frames.callers ≡ old.frames.callers

-- a step is spent, or there is none
pub record Spends (old new : Runtime) (r : Result (Unit {0}) Halt) : Type 0 where
  pub changes : Changes spend old new r
  pub falls : OnOk r (new.steps < old.steps)
  pub frames : new.frames ≡ old.frames

-- nothing is changed that the definitions know, but perhaps the streams
pub record Beside (old new : Runtime) : Type 0 where
  pub names : new.names ≡ old.names
  pub current : new.current ≡ old.current
  pub specials : new.specials ≡ old.specials
  pub globals : new.globals ≡ old.globals
  pub arrays : new.arrays ≡ old.arrays
  pub frames : new.frames ≡ old.frames
  pub next : new.next ≡ old.next
  pub input_seen : new.input_seen ≡ old.input_seen
  pub inside : new.inside ≡ old.inside
  pub status : new.status ≡ old.status
  pub steps : new.steps ≡ old.steps

-- nothing is changed that the definitions know
pub record SameState (old new : Runtime) : Type 0 where
  pub beside : Beside old new
  pub streams : new.streams ≡ old.streams

-- a fault of the streams, as a halt
abbrev pub halted : {A : Type 0} → Result A StreamFault → Result A Halt
halted (Ok a) = Ok a
halted (Err f) = Err (halt.Fault (stream_fault f))
