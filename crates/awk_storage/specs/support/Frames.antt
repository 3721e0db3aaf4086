-- The parameters of the active calls, as they are kept: all in one list, those of the oldest call first, and behind those of the
-- newest one what a call that is about to be made is given.
use Rattle.std.specs.Prelude.{◌≡◌, ◌≤◌, ℕ, ◌+◌, List, [], ◌∷◌, map, reverse, length, take, drop, slice_set, Option, Some, None}
use Rattle.awk_value.specs.declared.value.Value.{Value}
use Rattle.awk_semantics.specs.declared.local.Local.{Local}
use Rattle.awk_semantics.specs.declared.local.Local.TheVariants as local
use Rattle.awk_storage.specs.declared.entry.Caller.{Caller}
use Rattle.awk_storage.specs.declared.entry.Entry.{Entry}

-- the parameters of an active call, by their positions
pub record FrameView : Type 0 where
  pub locals : List Local
  -- the height of the function's body
  pub height : ℕ
  -- how many arrays there were before the call
  pub arrays_before : ℕ

-- the active calls, the newest first
pub record ActiveView : Type 0 where
  pub frames : List FrameView
  -- what a call that is about to be made is given
  pub staged : List Local

-- the same with their callers, which the definitions don't know
pub record FramesView : Type 0 where
  pub frames : List FrameView
  pub staged : List Local
  pub callers : List Caller

-- what is kept of an active call besides its parameters
pub record Saved : Type 0 where
  pub count : ℕ
  pub height : ℕ
  pub arrays_before : ℕ

-- the entries with the heights of the bodies
abbrev pub saved_of : List Entry → List ℕ → List Saved
saved_of [] heights = []
saved_of (e ∷ es) [] = []
saved_of (e ∷ es) (height ∷ heights) = record { count = e.count; height = height; arrays_before = e.arrays_before } ∷ saved_of es heights

abbrev pub frame_of : Saved → List Local → FrameView
frame_of saved locals = record { locals = take saved.count locals; height = saved.height; arrays_before = saved.arrays_before }

-- the calls, the oldest first, before which stand the older ones
abbrev pub frames_from : List FrameView → List Local → List Saved → ActiveView
frames_from older locals [] = record { frames = older; staged = locals }
frames_from older locals (saved ∷ more) = frames_from (frame_of saved locals ∷ older) (drop saved.count locals) more

-- the callers, that of the newest call first
abbrev pub callers_in : List Entry → List Caller
callers_in es = reverse (map (λ (e : Entry). e.caller) es)

abbrev pub with_callers : List Caller → ActiveView → FramesView
with_callers callers view = record { frames = view.frames; staged = view.staged; callers = callers }

-- how many parameters calls have together
abbrev pub total_count : List Saved → ℕ
total_count [] = 0
total_count (saved ∷ more) = saved.count + total_count more

-- the calls but the newest one
abbrev pub front_of : List Saved → List Saved
front_of [] = []
front_of (x ∷ []) = []
front_of (x ∷ y ∷ more) = x ∷ front_of (y ∷ more)

abbrev pub newest_count : List Saved → ℕ
newest_count [] = 0
newest_count (x ∷ []) = x.count
newest_count (x ∷ y ∷ more) = newest_count (y ∷ more)

-- where the parameters of the newest call begin, and end, in the one list of all
pub record AreKept (saved : List Saved) (locals : List Local) (base top : ℕ) : Type 0 where
  pub begin : base ≡ total_count (front_of saved)
  pub end : top ≡ total_count saved
  pub within : top ≤ length locals

-- the newest call

abbrev pub newest_of : List FrameView → List Local
newest_of [] = []
newest_of (frame ∷ frames) = frame.locals

abbrev pub older_of : List FrameView → List FrameView
older_of [] = []
older_of (frame ∷ frames) = frames

abbrev pub heights_of : List FrameView → ℕ
heights_of [] = 0
heights_of (frame ∷ frames) = frame.height + heights_of frames

-- how many arrays there were before the newest call
abbrev pub arrays_before_of : List FrameView → Option ℕ
arrays_before_of [] = None
arrays_before_of (frame ∷ frames) = Some frame.arrays_before

abbrev pub with_newest_of : List Local → List FrameView → List FrameView
with_newest_of locals [] = []
with_newest_of locals (frame ∷ frames) = record frame { locals = locals } ∷ frames

-- a parameter that is no array gets a value
abbrev pub given : Local → Value → Local
given (local.Value old) v = local.Value v
given (local.Array n) v = local.Array n

abbrev pub with_value_at : Option Local → ℕ → Value → List FrameView → List FrameView
with_value_at (Some old) i v frames = with_newest_of (slice_set (newest_of frames) i (given old v)) frames
with_value_at None i v frames = frames
