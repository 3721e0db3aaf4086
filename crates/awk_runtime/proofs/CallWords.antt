-- Calls of functions.
use Rattle.std.proofs.Common.{get_or, ◌≡◌, ◌≤◌, ◌<◌, ◌+◌, ℕ, suc, Bool, true, false, List, [], ◌∷◌, ◌++◌, map, length, take, drop, Some, None, Result, Ok, Err, refl, sym, ap, ◌∙◌, subst, arith, append_assoc, append-nil, length-append}
use Rattle.std.specs.Prelude.{nat_lt, if◌then◌else◌, Option, slice_get, IfSome, IfNone}
use Rattle.std.specs.Option.{option_map}
use Rattle.std.proofs.lemmas.List.{take_more}
use Rattle.std.proofs.lemmas.Bool.Decides.{nat_tests}
use Rattle.awk_value.specs.declared.value.Value.TheVariants as value
use Rattle.awk_semantics.specs.declared.fault.Fault.TheVariants.{CallsTooDeep, OutOfMemory}
use Rattle.awk_semantics.specs.declared.halt.Halt.{Halt}
use Rattle.awk_semantics.specs.declared.halt.Halt.TheVariants as halt
use Rattle.awk_semantics.specs.declared.local.Local.{Local}
use Rattle.awk_semantics.specs.declared.local.Local.TheVariants as local
use Rattle.awk_semantics.specs.State.{Frame, State, Run}
use Rattle.awk_semantics.specs.Primitives.{most_height, height_in, fault_if, check_height, bound, made, enter, without_call, leave, without_calls, outside_calls}
use Rattle.awk_kinds.specs.Kinds.{FormalParameter}
use Rattle.awk_storage.specs.declared.entry.Caller.{Caller}
use Rattle.awk_storage.specs.declared.entry.Entry.{Entry}
use Rattle.awk_storage.specs.support.Frames.{FrameView, FramesView, heights_of, older_of, arrays_before_of}
use Rattle.awk_runtime.specs.declared.runtime.Runtime.{Runtime}
use Rattle.awk_runtime.specs.support.Simulation.{frame_view, OwnRelation, Changes, ChangesCalls}
use Rattle.awk_runtime.specs.support.Calling.{with_given, without_given, Refused, missing_locals, missing_arrays, with_missing, completed, EntersCall, LeavesCall, EndsCalls}
use Rattle.awk_runtime.proofs.Composition.{OwnPart, own_changes, own_calls, same_part, memory_calls}

-- the height of the bodies

heights_are : (frames : List Frame) → heights_of (map frame_view frames) ≡ height_in frames
heights_are [] = refl
heights_are (frame ∷ frames) = ap (λ n. frame.height + n) (heights_are frames)

height_holds : {m : Runtime} {s : State} → OwnRelation m s → height_in s.frames ≡ heights_of m.frames.frames
height_holds {s = s} h = sym (heights_are s.frames) ∙ ap heights_of (sym h.frames)

pub height_low : (m : Runtime) (height : ℕ) → heights_of m.frames.frames + height ≤ most_height → Changes (check_height height) m m (Ok tt)
unfolding check_height
height_low m height low = own_changes (check_height height) refl refl refl (omega arith) (λ s h.
    let sum = height_holds h in
    let test : nat_lt most_height (height_in s.frames + height) ≡ false = grind (arith, nat_tests, sum) in
    record {
      result = Ok tt;
      state = s;
      is = ap (λ b. fault_if b CallsTooDeep s) test;
      part = same_part s;
      matches = refl;
      holds = h;
    })

pub height_high : (m : Runtime) (height : ℕ) → most_height < heights_of m.frames.frames + height → Changes (check_height height) m m (Err (halt.Fault CallsTooDeep))
unfolding check_height
height_high m height high = own_changes (check_height height) refl refl refl (omega arith) (λ s h.
    let sum = height_holds h in
    let test : nat_lt most_height (height_in s.frames + height) ≡ true = grind (arith, nat_tests, sum) in
    record {
      result = Err (halt.Fault CallsTooDeep);
      state = s;
      is = ap (λ b. fault_if b CallsTooDeep s) test;
      part = same_part s;
      matches = refl;
      holds = h;
    })

-- the newest call is over

abbrev pub left_by : Runtime → ℕ → Runtime
left_by m count = record m { arrays = take count m.arrays; frames = record { frames = older_of m.frames.frames; staged = []; callers = drop 1 m.frames.callers } }

-- the call that is over, and the older ones
pub record Left (m : Runtime) (count : ℕ) (s : State) : Type 0 where
  pub frame : Frame
  pub frames : List Frame
  pub is : s.frames ≡ frame ∷ frames
  pub before : frame.arrays_before ≡ count

newest : (m : Runtime) (count : ℕ) (s : State) → arrays_before_of m.frames.frames ≡ Some count → OwnRelation m s → Left m count s
newest m count s some h = by s.frames refl
  where
    by : (frames : List Frame) → s.frames ≡ frames → Left m count s
    by [] e =
        let none : arrays_before_of m.frames.frames ≡ None = ap arrays_before_of h.frames ∙ ap (λ fs. arrays_before_of (map frame_view fs)) e in
        absurd (cc)
    by (frame ∷ frames) e =
        let some' : arrays_before_of m.frames.frames ≡ Some frame.arrays_before = ap arrays_before_of h.frames ∙ ap (λ fs. arrays_before_of (map frame_view fs)) e in
        record { frame = frame; frames = frames; is = e; before = (cc) }

pub left_holds : (m : Runtime) (count : ℕ) (s : State) → (left : Left m count s) → OwnRelation m s → OwnRelation (left_by m count) (without_call s.frames s)
left_holds m count s left h = subst (λ (fs : List Frame). OwnRelation (left_by m count) (without_call fs s)) (sym left.is) record {
  current = h.current;
  specials = h.specials;
  globals = h.globals;
  slots = h.slots;
  array_names = h.array_names;
  function_names = h.function_names;
  arrays = ap (λ n. take n s.arrays) left.before ∙ ap (take count) h.arrays;
  frames = ap older_of h.frames ∙ ap (λ fs. older_of (map frame_view fs)) left.is;
  staged = refl;
  next = h.next;
  input_seen = h.input_seen;
  inside = h.inside;
  status = h.status;
  steps = h.steps;
}

own_left : (frames : List Frame) (s : State) → OwnPart s (without_call frames s)
own_left [] s = same_part s
own_left (frame ∷ frames) s = record { outside = refl; openings = refl; output_openings = refl; closings = refl; runs = refl; outputs = refl; main = refl; streams = refl }

pub call_left : (m : Runtime) (count : ℕ) → arrays_before_of m.frames.frames ≡ Some count → ChangesCalls leave m (left_by m count) (Ok tt)
unfolding leave
call_left m count some = own_calls leave refl refl (omega arith) (λ s h. record {
  result = Ok tt;
  state = without_call s.frames s;
  is = refl;
  part = own_left s.frames s;
  matches = refl;
  holds = left_holds m count s (newest m count s some h) h;
})

none_active : (m : Runtime) (s : State) → arrays_before_of m.frames.frames ≡ None → OwnRelation m s → s.frames ≡ []
none_active m s none h = by s.frames refl
  where
    by : (frames : List Frame) → s.frames ≡ frames → s.frames ≡ []
    by [] e = e
    by (frame ∷ frames) e =
        let some : arrays_before_of m.frames.frames ≡ Some frame.arrays_before = ap arrays_before_of h.frames ∙ ap (λ fs. arrays_before_of (map frame_view fs)) e in
        absurd (cc)

first_is : (caller : Caller) (callers : List Caller) → Some caller ≡ slice_get callers 0 → callers ≡ caller ∷ drop 1 callers
first_is caller [] is = absurd (cc)
first_is caller (c ∷ more) is = let same : c ≡ caller = cc in ap (λ x. x ∷ more) same

pub none_is : (callers : List Caller) → None ≡ slice_get callers 0 → callers ≡ []
none_is [] is = refl
none_is (c ∷ more) is = absurd (cc)

-- what became of the newest call, by what was kept of it
pub leaves : (kept : Option Entry) {old new : Runtime} → option_map (λ (e : Entry). e.arrays_before) kept ≡ arrays_before_of old.frames.frames → option_map (λ (e : Entry). e.caller) kept ≡ slice_get old.frames.callers 0
    → IfSome kept (λ e. new ≡ left_by old e.arrays_before) → IfNone kept (new ≡ old) → LeavesCall old (option_map (λ (e : Entry). e.caller) kept) new
leaves (Some e) {old = old} arrays caller left none = record {
  leaves = (
    first_is e.caller old.frames.callers caller ∙ ap (λ (m : Runtime). e.caller ∷ m.frames.callers) (sym left),
    subst (λ (m : Runtime). ChangesCalls leave old m (Ok tt)) (sym left) (call_left old e.arrays_before (sym arrays)),
  );
}
leaves None {old = old} arrays caller left none = record { leaves = (none_is old.frames.callers caller, none) }

-- calls are over, one after the other

pub record Ending (old now : Runtime) : Type 0 where
  pub steps : now.steps ≡ old.steps
  pub names : now.names ≡ old.names
  pub streams : now.streams ≡ old.streams
  pub status : now.status ≡ old.status
  pub holds : (s : State) → OwnRelation old s → (t : State) × OwnRelation now t × (outside_calls t ≡ outside_calls s)

pub ending_begins : (m : Runtime) → Ending m m
ending_begins m = record { steps = refl; names = refl; streams = refl; status = refl; holds = λ s h. (s, h, refl) }

outside_left : (m : Runtime) (count : ℕ) (t : State) → Left m count t → outside_calls (without_call t.frames t) ≡ outside_calls t
outside_left m count t left = ap (λ fs. outside_calls (without_call fs t)) left.is ∙ sym (ap (λ fs. without_calls fs t) left.is)

pub ending_goes_on : (old now : Runtime) (count : ℕ) → arrays_before_of now.frames.frames ≡ Some count → Ending old now → Ending old (left_by now count)
ending_goes_on old now count some e = record {
  steps = e.steps;
  names = e.names;
  streams = e.streams;
  status = e.status;
  holds = λ s h.
      let t = e.holds s h in
      let left = newest now count t.0 some t.1 in
      (without_call t.0.frames t.0, left_holds now count t.0 left t.1, outside_left now count t.0 left ∙ t.2);
}

pub ending_ends : (old now : Runtime) → arrays_before_of now.frames.frames ≡ None → now.frames.callers ≡ [] → Ending old now → EndsCalls old now
ending_ends old now none no_callers e = record {
  steps = e.steps;
  names = e.names;
  streams = e.streams;
  status = e.status;
  callers = no_callers;
  holds = λ s h.
      let t = e.holds s h in
      let out : t.0 ≡ outside_calls s = ap (λ fs. without_calls fs t.0) (sym (none_active now t.0 none t.1)) ∙ t.2 in
      subst (λ (u : State). OwnRelation now u) out t.1;
}

pub fewer_calls : (frames : List FrameView) (count : ℕ) → arrays_before_of frames ≡ Some count → length (older_of frames) < length frames
fewer_calls [] count some = absurd (cc)
fewer_calls (frame ∷ frames) count some = omega arith

-- what parameters have for want of arguments

missing_then : (ks : List Bool) (n : ℕ) (k : Bool) → missing_locals (ks ++ k ∷ []) n ≡ missing_locals ks n ++ missing_locals (k ∷ []) (n + length (missing_arrays ks))
missing_then [] n true = ap (λ m. local.Array m ∷ []) (let e : n ≡ n + 0 = omega arith in e)
missing_then [] n false = refl
missing_then (true ∷ ks) n k = ap (λ l. local.Array n ∷ l) (missing_then ks (suc n) k ∙ ap (λ m. missing_locals ks (suc n) ++ missing_locals (k ∷ []) m) (let e : suc n + length (missing_arrays ks) ≡ n + suc (length (missing_arrays ks)) = omega arith in e))
missing_then (false ∷ ks) n k = ap (λ l. local.Value value.Nothing ∷ l) (missing_then ks n k)

arrays_then : (ks : List Bool) (k : Bool) → missing_arrays (ks ++ k ∷ []) ≡ missing_arrays ks ++ missing_arrays (k ∷ [])
arrays_then [] k = refl
arrays_then (true ∷ ks) k = ap (λ l. [] ∷ l) (arrays_then ks k)
arrays_then (false ∷ ks) k = arrays_then ks k

missing_more : (m : Runtime) (ks : List Bool) (k : Bool) → with_missing (k ∷ []) (with_missing ks m) ≡ with_missing (ks ++ k ∷ []) m
missing_more m ks k =
    let arrays : (m.arrays ++ missing_arrays ks) ++ missing_arrays (k ∷ []) ≡ m.arrays ++ missing_arrays (ks ++ k ∷ []) =
    append_assoc m.arrays (missing_arrays ks) (missing_arrays (k ∷ [])) ∙ ap (λ l. m.arrays ++ l) (sym (arrays_then ks k)) in
    let staged : (m.frames.staged ++ missing_locals ks (length m.arrays)) ++ missing_locals (k ∷ []) (length (m.arrays ++ missing_arrays ks)) ≡ m.frames.staged ++ missing_locals (ks ++ k ∷ []) (length m.arrays) =
    append_assoc m.frames.staged (missing_locals ks (length m.arrays)) (missing_locals (k ∷ []) (length (m.arrays ++ missing_arrays ks)))
    ∙ ap (λ l. m.frames.staged ++ l) (ap (λ n. missing_locals ks (length m.arrays) ++ missing_locals (k ∷ []) n) (length-append m.arrays (missing_arrays ks)) ∙ sym (missing_then ks (length m.arrays) k)) in
    ap (λ l. record m { arrays = l; frames = record m.frames { staged = (m.frames.staged ++ missing_locals ks (length m.arrays)) ++ missing_locals (k ∷ []) (length (m.arrays ++ missing_arrays ks)) } }) arrays
    ∙ ap (λ l. record m { arrays = m.arrays ++ missing_arrays (ks ++ k ∷ []); frames = record m.frames { staged = l } }) staged

-- one more of these parameters has what it has for want of an argument
pub missing_next : (m now next : Runtime) (ks : List Bool) (i : ℕ) (k : Bool) → i < length ks → get_or ks i false ≡ k → now ≡ with_missing (take i ks) m → next ≡ with_missing (k ∷ []) now → next ≡ with_missing (take (i + 1) ks) m
missing_next m now next ks i k low is before one =
    one ∙ (ap (with_missing (k ∷ [])) before ∙ (missing_more m (take i ks) k ∙ ap (λ l. with_missing l m) (ap (λ b. take i ks ++ b ∷ []) (sym is) ∙ sym (take_more ks i false low))))

pub missing_value : (now : Runtime) → with_given (local.Value value.Nothing) now ≡ with_missing (false ∷ []) now
missing_value now = ap (λ l. record now { arrays = l; frames = record now.frames { staged = now.frames.staged ++ local.Value value.Nothing ∷ [] } }) (sym (append-nil now.arrays))

-- a call is active

bound_missing : (ps : List FormalParameter) (n : ℕ) → map (λ (l : List ℕ × Local). l.1) (bound ps [] n) ≡ missing_locals (map (λ p. p.is_array) ps) n
bound_missing [] n = refl
bound_missing (p ∷ ps) n = by p.is_array (bound_missing ps)
  where
    by : (b : Bool) → ((k : ℕ) → map (λ (l : List ℕ × Local). l.1) (bound ps [] k) ≡ missing_locals (map (λ p. p.is_array) ps) k) → map (λ (l : List ℕ × Local). l.1) (if b then (p.name, local.Array n) ∷ bound ps [] (suc n) else (p.name, local.Value value.Nothing) ∷ bound ps [] n) ≡ missing_locals (b ∷ map (λ p. p.is_array) ps) n
    by true rest = ap (λ l. local.Array n ∷ l) (rest (suc n))
    by false rest = ap (λ l. local.Value value.Nothing ∷ l) (rest n)

bound_locals : (ps : List FormalParameter) (given : List Local) (n : ℕ) → map (λ (l : List ℕ × Local). l.1) (bound ps given n) ≡ take (length (map (λ p. p.is_array) ps)) given ++ missing_locals (drop (length given) (map (λ p. p.is_array) ps)) n
bound_locals [] [] n = refl
bound_locals [] (a ∷ given) n = refl
bound_locals (p ∷ ps) [] n = bound_missing (p ∷ ps) n
bound_locals (p ∷ ps) (a ∷ given) n = ap (λ l. a ∷ l) (bound_locals ps given n)

made_missing : (ps : List FormalParameter) → made ps [] ≡ missing_arrays (map (λ p. p.is_array) ps)
made_missing [] = refl
made_missing (p ∷ ps) = by p.is_array (made_missing ps)
  where
    by : (b : Bool) → made ps [] ≡ missing_arrays (map (λ p. p.is_array) ps) → (if b then [] ∷ made ps [] else made ps []) ≡ missing_arrays (b ∷ map (λ p. p.is_array) ps)
    by true rest = ap (λ l. [] ∷ l) rest
    by false rest = rest

made_arrays : (ps : List FormalParameter) (given : List Local) → made ps given ≡ missing_arrays (drop (length given) (map (λ p. p.is_array) ps))
made_arrays [] [] = refl
made_arrays [] (a ∷ given) = refl
made_arrays (p ∷ ps) [] = made_missing (p ∷ ps)
made_arrays (p ∷ ps) (a ∷ given) = made_arrays ps given

-- a call with what was completed is active
abbrev pub entered_by : Runtime → (height arrays_before : ℕ) → Caller → Runtime
entered_by m height before caller = record m { frames = record { frames = record { locals = m.frames.staged; height = height; arrays_before = before } ∷ m.frames.frames; staged = []; callers = caller ∷ m.frames.callers } }

pub call_entered : (m : Runtime) (kinds : List Bool) (height : ℕ) (caller : Caller) → EntersCall kinds height caller m (entered_by (completed kinds m) height (length m.arrays) caller) (Ok tt)
unfolding enter
call_entered m kinds height caller = record {
  callers = refl;
  enters = λ parameters are. own_calls (enter parameters height m.frames.staged) refl refl (omega arith) (λ s h.
      let n : length s.arrays ≡ length m.arrays = ap length h.arrays in
      let given = m.frames.staged in
      let locals : map (λ (l : List ℕ × Local). l.1) (bound parameters given (length s.arrays)) ≡ take (length kinds) given ++ missing_locals (drop (length given) kinds) (length m.arrays) =
      bound_locals parameters given (length s.arrays)
      ∙ (ap (λ ks. take (length ks) given ++ missing_locals (drop (length given) ks) (length s.arrays)) are
      ∙ ap (λ k. take (length kinds) given ++ missing_locals (drop (length given) kinds) k) n) in
      record {
        result = Ok tt;
        state = record s {
          frames = record { locals = bound parameters given (length s.arrays); height = height; arrays_before = length s.arrays } ∷ s.frames;
          arrays = s.arrays ++ made parameters given;
        };
        is = refl;
        part = record { outside = refl; openings = refl; output_openings = refl; closings = refl; runs = refl; outputs = refl; main = refl; streams = refl };
        matches = refl;
        holds = record {
          current = h.current;
          specials = h.specials;
          globals = h.globals;
          slots = h.slots;
          array_names = h.array_names;
          function_names = h.function_names;
          arrays = ap (λ l. l ++ made parameters given) h.arrays ∙ ap (λ l. m.arrays ++ l) (made_arrays parameters given ∙ ap (λ ks. missing_arrays (drop (length given) ks)) are);
          frames = ap (λ l. record { locals = l; height = height; arrays_before = length m.arrays } ∷ m.frames.frames) (sym locals)
              ∙ (ap (λ k. record { locals = map (λ (l : List ℕ × Local). l.1) (bound parameters given (length s.arrays)); height = height; arrays_before = k } ∷ m.frames.frames) (sym n)
              ∙ ap (λ fs. record { locals = map (λ (l : List ℕ × Local). l.1) (bound parameters given (length s.arrays)); height = height; arrays_before = length s.arrays } ∷ fs) h.frames);
          staged = refl;
          next = h.next;
          input_seen = h.input_seen;
          inside = h.inside;
          status = h.status;
          steps = h.steps;
        };
      });
}

pub call_refused : (kinds : List Bool) (height : ℕ) (caller : Caller) {m new : Runtime} → Refused m new → EntersCall kinds height caller m new (Err (halt.Fault OutOfMemory))
call_refused kinds height caller refused = record { callers = tt; enters = λ parameters are. memory_calls (enter parameters height _) refused.streams refused.names (omega (arith, refused.steps)) }

module _ (m mid : Runtime) (kinds : List Bool) (height : ℕ) (caller : Caller) (is : mid ≡ completed kinds m) where
  pub entered_behind : (before : ℕ) {calls : FramesView} → before ≡ length m.arrays → calls ≡ record { frames = record { locals = mid.frames.staged; height = height; arrays_before = before } ∷ mid.frames.frames; staged = []; callers = caller ∷ mid.frames.callers }
      → EntersCall kinds height caller m (record mid { frames = calls }) (Ok tt)
  entered_behind before number calls_are = subst (λ (x : Runtime). EntersCall kinds height caller m x (Ok tt))
      (ap (λ x. entered_by x height (length m.arrays) caller) (sym is) ∙ (ap (λ k. entered_by mid height k caller) (sym number) ∙ ap (λ c. record mid { frames = c }) (sym calls_are)))
      (call_entered m kinds height caller)

  pub refused_behind : {calls : FramesView} → EntersCall kinds height caller m (record mid { frames = calls }) (Err (halt.Fault OutOfMemory))
  refused_behind = call_refused kinds height caller record { steps = ap (λ x. x.steps) is; names = ap (λ x. x.names) is; streams = ap (λ x. x.streams) is }

-- what was given, where there is nothing: the state is the one without it
pub given_nothing : {A : Type 0} {m new : Runtime} {r : Result A Halt} (run : Run A) → ChangesCalls run (without_given m) new r → ChangesCalls run m new r
given_nothing {m = m} {new = new} {r = r} run d = record {
  steps = d.steps;
  names = d.names;
  streams = d.streams;
  means = λ k. record {
    grows = (d.means k).grows;
    means = λ oracle s past consistent stands. (d.means k).means oracle s past consistent record { clear = stands.clear; streams = stands.streams; holds = without_holds stands.holds };
  };
}
  where
    without_holds : {m : Runtime} {s : State} → OwnRelation m s → OwnRelation (without_given m) s
    without_holds h = record {
      current = h.current;
      specials = h.specials;
      globals = h.globals;
      slots = h.slots;
      array_names = h.array_names;
      function_names = h.function_names;
      arrays = h.arrays;
      frames = h.frames;
      staged = refl;
      next = h.next;
      input_seen = h.input_seen;
      inside = h.inside;
      status = h.status;
      steps = h.steps;
    }
