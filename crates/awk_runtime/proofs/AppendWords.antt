-- What appending to a variable does to the code's own state: a variable that is let go of, and then given a value, is given the value.
use Rattle.std.proofs.Common.{◌≡◌, ◌<◌, ℕ, zero, suc, Bool, true, false, List, [], ◌∷◌, ◌++◌, length, set, slice_get, Option, Some, None, Result, Ok, Err, refl, sym, ap, ◌∙◌, subst}
use Rattle.std.specs.Prelude.{if◌then◌else◌, bytes_eq}
use Rattle.std.proofs.lemmas.Option.{slice_get_within}
use Rattle.awk_streams.specs.WorldState.{WorldState}
use Rattle.awk_streams.specs.Oracle.{Oracle}
use Rattle.awk_streams.specs.Streams.{StreamsView}
use Rattle.awk_value.specs.declared.value.Value.{Value}
use Rattle.awk_value.specs.declared.value.Value.TheVariants as value
use Rattle.awk_value.specs.Values.{str_of}
use Rattle.awk_kinds.specs.Variables.{name_of, with_value}
use Rattle.awk_kinds.specs.Names.{AreDistinct}
use Rattle.awk_semantics.specs.declared.halt.Halt.{Halt}
use Rattle.awk_semantics.specs.declared.local.Local.{Local}
use Rattle.awk_semantics.specs.declared.local.Local.TheVariants as local
use Rattle.awk_semantics.specs.State.{Effect, Frame, State, Out, Run, ◌>>=◌, go_on, lift, ret, gives}
use Rattle.awk_semantics.specs.Results.{Sort, WantOfMemory, FailedWrite, OfLanguage, sort_of}
use Rattle.awk_semantics.specs.Primitives.{put_outside, with_variable}
use Rattle.awk_storage.specs.declared.position.Variable.{Variable}
use Rattle.awk_storage.specs.declared.position.Variable.TheVariants as variable
use Rattle.awk_storage.specs.declared.position.Place.TheVariants as place
use Rattle.awk_storage.specs.support.Frames.{newest_of, with_value_at}
use Rattle.awk_storage.specs.Positions.{newest_locals, put_local, put_slot, put_variable, read_variable, assign_at, assign_by_at}
use Rattle.awk_runtime.specs.declared.runtime.Runtime.{Runtime}
use Rattle.awk_runtime.specs.support.Simulation.{OwnRelation, StreamsRelation, StateRelation, ResultRelationBy, ResultRelation, Changes}
use Rattle.awk_runtime.specs.support.Naming.{Naming, AreOwn}
use Rattle.awk_runtime.specs.support.Appends.{appended, LetsGo, AppendsText, AppendsAt}
use Rattle.awk_runtime.proofs.Composition.{then_changes, ends_changes, lift_changes, callers_stay}
use Rattle.awk_runtime.proofs.Steps.{same_changes}
use Rattle.awk_runtime.proofs.VariableWords.{SameButVariables, SameButFrames, plain, slot_read, slot_given, frames_after, with_local-is, local_given}
use Rattle.awk_runtime.proofs.PlaceWords.{get-set, assigned, plainly_assigned}

-- the same, with values of variables that are spelled in another way

record Alike {A : Type 0} (o p : Out A) : Type 0 where
  variables : List ℕ → Value
  values : (y : List ℕ) → variables y ≡ p.state.variables y
  is : o ≡ record { result = p.result; state = record p.state { variables = variables }; effects = p.effects }

streams_alike : {oracle : Oracle} {streams : StreamsView} {k : WorldState} {s : State} {past : List Effect} (variables : List ℕ → Value) → StreamsRelation oracle streams k s past → StreamsRelation oracle streams k (record s { variables = variables }) past
streams_alike variables h = record {
  outside = h.outside;
  openings = h.openings;
  output_openings = h.output_openings;
  closings = h.closings;
  runs = h.runs;
  outputs = h.outputs;
  are = h.are;
  printed = h.printed;
  turn = h.turn;
}

own_alike : {m : Runtime} {s : State} (variables : List ℕ → Value) → ((y : List ℕ) → variables y ≡ s.variables y) → OwnRelation m s → OwnRelation m (record s { variables = variables })
own_alike variables e h = record {
  current = h.current;
  specials = λ x. e (name_of x) ∙ h.specials x;
  globals = λ i x at. e x ∙ h.globals i x at;
  slots = h.slots;
  array_names = h.array_names;
  function_names = h.function_names;
  arrays = h.arrays;
  frames = h.frames;
  staged = h.staged;
  next = h.next;
  input_seen = h.input_seen;
  inside = h.inside;
  status = h.status;
  steps = h.steps;
}

stands_alike : {oracle : Oracle} {m : Runtime} {k : WorldState} {s : State} {past : List Effect} (variables : List ℕ → Value) → ((y : List ℕ) → variables y ≡ s.variables y) → StateRelation oracle m k s past → StateRelation oracle m k (record s { variables = variables }) past
stands_alike variables e h = record { clear = h.clear; streams = streams_alike variables h.streams; holds = own_alike variables e h.holds }

module _ {A : Type 0} (oracle : Oracle) (m : Runtime) (k : WorldState) (past : List Effect) (o : Out A) (variables : List ℕ → Value) (e : (y : List ℕ) → variables y ≡ o.state.variables y) where
  abbrev other : Out A
  other = record { result = o.result; state = record o.state { variables = variables }; effects = o.effects }

  comes_alike_by : (sort : Sort) → ResultRelationBy oracle m k sort o past → ResultRelationBy oracle m k sort other past
  comes_alike_by WantOfMemory h = h
  comes_alike_by FailedWrite h = h
  comes_alike_by (OfLanguage reason) h = (h.0, stands_alike variables e h.1)

  comes_alike : (r : Result A Halt) → ResultRelation oracle m k r o past → ResultRelation oracle m k r other past
  comes_alike (Ok a) h = (h.0, stands_alike variables e h.1)
  comes_alike (Err reason) h = comes_alike_by (sort_of reason) h

alike_changes : {A : Type 0} {old new : Runtime} {r : Result A Halt} (x y : Run A) → ((s : State) → OwnRelation old s → Alike (x s) (y s)) → Changes y old new r → Changes x old new r
alike_changes {new = new} {r = r} x y e d = record {
  steps = d.steps;
  names = d.names;
  streams = d.streams;
  callers = d.callers;
  means = λ k. record {
    grows = (d.means k).grows;
    means = λ oracle s past consistent stands.
        let a = e s stands.holds in
        subst (λ (o : Out _). ResultRelation oracle new k r o past) (sym a.is) (comes_alike oracle new k past (y s) a.variables a.values r ((d.means k).means oracle s past consistent stands));
  };
}

-- a part that gives no more than another state

behind_gives : {A B : Type 0} (m : Run A) (f : A → Run B) (a : A) (s t : State) → m s ≡ gives a t → (m >>= f) s ≡ f a t
unfolding ◌>>=◌ go_on
behind_gives {A = A} m f a s t e = ap (λ (o : Out A). go_on o.result o.state o.effects f) e

-- slots

valued_twice : (f : List ℕ → Value) (x : List ℕ) (v w : Value) (y : List ℕ) → with_value f x w y ≡ with_value (with_value f x v) x w y
valued_twice f x v w y = by (bytes_eq x y)
  where
    by : (b : Bool) → (if b then w else f y) ≡ (if b then w else (if b then v else f y))
    by true = refl
    by false = refl

variable_alike : (names : List (List ℕ)) → AreOwn names → (i : ℕ) (x : List ℕ) → slice_get names i ≡ Some x → (v w : Value) (s : State) → Alike (put_outside x w s) ((put_outside x v >>= λ _. put_outside x w) s)
variable_alike names own i x at v w s =
    let twice : (put_outside x v >>= λ _. put_outside x w) s ≡ gives tt (with_variable x w (with_variable x v s)) = behind_gives (put_outside x v) (λ _. put_outside x w) tt s (with_variable x v s) (plain names own i x at v s) ∙ plain names own i x at w (with_variable x v s) in
    rw (plain names own i x at w s, twice) (record { variables = with_value s.variables x w; values = valued_twice s.variables x v w; is = refl })

slot_overwritten : (o : Option (List ℕ)) (i : ℕ) (v w : Value) {old mid new : Runtime} {r : Result (Unit {0}) Halt} → slice_get old.names.scalars i ≡ o → AreOwn old.names.scalars → Changes (put_slot o v) old mid (Ok tt) → Changes (put_slot o w) mid new r → Changes (put_slot o w) old new r
unfolding ◌>>=◌ go_on lift
slot_overwritten None i v w at own x y = same_changes (ret (tt {0})) (ret (tt {0}) >>= λ _. ret (tt {0})) (λ s h. refl) (then_changes (λ _. ret (tt {0})) x y)
slot_overwritten (Some name) i v w {old = old} at own x y = alike_changes (put_outside name w) (put_outside name v >>= λ _. put_outside name w) (λ s h. variable_alike old.names.scalars own i name at v w s) (then_changes (λ _. put_outside name w) x y)

-- parameters

set_twice : {A : Type 0} (xs : List A) (i : ℕ) (x y : A) → set (set xs i x) i y ≡ set xs i y
set_twice [] i x y = refl
set_twice (z ∷ xs) zero x y = refl
set_twice (z ∷ xs) (suc i) x y = ap (λ l. z ∷ l) (set_twice xs i x y)

frames_twice : (frames : List Frame) (i : ℕ) (v w : Value) (o : Option (List ℕ × Local)) → slice_get (newest_locals frames) i ≡ o
    → frames_after (slice_get (newest_locals (frames_after o i v frames)) i) i w (frames_after o i v frames) ≡ frames_after o i w frames
frames_twice frames i v w None at = ap (λ o. frames_after o i w frames) at
frames_twice frames i v w (Some (x, local.Array n)) at = ap (λ o. frames_after o i w frames) at
frames_twice [] i v w (Some (x, local.Value old)) at = cc
frames_twice (frame ∷ frames) i v w (Some (x, local.Value old)) at =
    ap (λ o. frames_after o i w (record frame { locals = set frame.locals i (x, local.Value v) } ∷ frames)) (get-set frame.locals i (x, local.Value v) (slice_get_within frame.locals i (x, local.Value old) at))
    ∙ ap (λ l. record frame { locals = l } ∷ frames) (set_twice frame.locals i (x, local.Value v) (x, local.Value w))

local_put : (i : ℕ) (w : Value) (s : State) → put_local i w s ≡ gives tt (record s { frames = frames_after (slice_get (newest_locals s.frames) i) i w s.frames })
unfolding put_local
local_put i w s = ap (gives tt) (with_local-is (slice_get (newest_locals s.frames) i) i w s)

local_twice : (i : ℕ) (v w : Value) (s : State) → put_local i w s ≡ (put_local i v >>= λ _. put_local i w) s
local_twice i v w s =
    let o = slice_get (newest_locals s.frames) i in
    let between : State = record s { frames = frames_after o i v s.frames } in
    local_put i w s
    ∙ sym (behind_gives (put_local i v) (λ _. put_local i w) tt s between (local_put i v s) ∙ local_put i w between ∙ ap (λ (l : List Frame). gives tt (record s { frames = l })) (frames_twice s.frames i v w o refl))

local_overwritten : (i : ℕ) (v w : Value) {old mid new : Runtime} {r : Result (Unit {0}) Halt} → Changes (put_local i v) old mid (Ok tt) → Changes (put_local i w) mid new r → Changes (put_local i w) old new r
local_overwritten i v w x y = same_changes (put_local i w) (put_local i v >>= λ _. put_local i w) (λ s h. local_twice i v w s) (then_changes (λ _. put_local i w) x y)

-- letting go

pub keeps_hold : (x : Variable) (m : Runtime) → LetsGo x m m
keeps_hold x m = record { names = refl; streams = refl; callers = refl; steps = refl; puts = λ w h. h }

pub slot_let_go : (i : ℕ) {old new : Runtime} → i < length old.globals.items → AreOwn old.names.scalars → AreDistinct old.names.scalars → new.globals.items ≡ set old.globals.items i value.Nothing → new.specials ≡ old.specials → SameButVariables old new → LetsGo (variable.Global i) old new
slot_let_go i {old = old} {new = new} low own distinct put specials same = record {
  names = same.names;
  streams = same.streams;
  callers = callers_stay same.frames;
  steps = same.steps;
  puts = λ w {after} {r} h.
      slot_overwritten (slice_get old.names.scalars i) i value.Nothing w refl own (slot_given i value.Nothing low own distinct put specials same)
      (subst (λ (n : Naming). Changes (put_slot (slice_get n.scalars i) w) new after r) same.names h);
}

pub local_let_go : (i : ℕ) {old new : Runtime} → new.frames ≡ record old.frames { frames = with_value_at (slice_get (newest_of old.frames.frames) i) i value.Nothing old.frames.frames } → SameButFrames old new → LetsGo (variable.Local i) old new
local_let_go i put same = record {
  names = same.names;
  streams = same.streams;
  callers = callers_stay put;
  steps = same.steps;
  puts = λ w h. local_overwritten i value.Nothing w (local_given i value.Nothing put same) h;
}

-- appending

module _ (x : Variable) (left right : Value) {old mid : Runtime} (free : LetsGo x old mid) where
  abbrev text : Value
  text = value.Text (str_of left ++ str_of right)

  pub not_appended : {new : Runtime} {h : Halt} → Changes (put_variable mid.names.scalars x text) mid new (Err h) → Changes (appended old.names.scalars x left right) old new (Err h)
  unfolding assign_by_at assign_at
  not_appended put = then_changes _ (lift_changes (Ok text) old refl) (ends_changes _ (free.puts text put))

  pub is_appended : {later new : Runtime} {r : Result Value Halt} → Changes (put_variable mid.names.scalars x text) mid later (Ok tt) → Changes (read_variable later.names.scalars x) later new r → Changes (appended old.names.scalars x left right) old new r
  unfolding assign_by_at assign_at
  is_appended {later = later} {new = new} {r = r} put read =
      let put' = free.puts text put in
      then_changes _ (lift_changes (Ok text) old refl) (then_changes _ put' (subst (λ (n : Naming). Changes (read_variable n.scalars x) later new r) put'.names read))

-- a text that grows where it stands
pub slot_appended : (i : ℕ) (before behind : Value) {old new : Runtime} → slice_get old.globals.items i ≡ Some before → AreOwn old.names.scalars → AreDistinct old.names.scalars → new.globals.items ≡ set old.globals.items i (value.Text (str_of before ++ str_of behind)) → new.specials ≡ old.specials → SameButVariables old new → AppendsText (variable.Global i) behind old new
slot_appended i before behind {old = old} {new = new} at own distinct put specials same =
    let after : Value = value.Text (str_of before ++ str_of behind) in
    let within = slice_get_within old.globals.items i before at in
    record {
      before = before;
      read = slot_read i old own at;
      after = after;
      appends = is_appended (variable.Global i) before behind (keeps_hold (variable.Global i) old)
          (slot_given i after within own distinct put specials same)
          (slot_read i new (subst (λ (n : Naming). AreOwn n.scalars) (sym same.names) own) (ap (λ l. slice_get l i) put ∙ get-set old.globals.items i after within));
    }

pub slot_appended_at : (i : ℕ) (before : Value) (behind : List ℕ) {old new : Runtime} → slice_get old.globals.items i ≡ Some before → AreOwn old.names.scalars → AreDistinct old.names.scalars → new.globals.items ≡ set old.globals.items i (value.Text (str_of before ++ behind)) → new.specials ≡ old.specials → SameButVariables old new → (operand : Value) → AppendsAt (place.Variable (variable.Global i)) operand behind old new
slot_appended_at i before behind {old = old} {new = new} at own distinct put specials same operand =
    let after : Value = value.Text (str_of before ++ behind) in
    let within = slice_get_within old.globals.items i before at in
    record {
      before = before;
      read = slot_read i old own at;
      after = after;
      appends = plainly_assigned (place.Variable (variable.Global i)) operand after (assigned (place.Variable (variable.Global i)) operand after (slot_given i after within own distinct put specials same)
          (slot_read i new (subst (λ (n : Naming). AreOwn n.scalars) (sym same.names) own) (ap (λ l. slice_get l i) put ∙ get-set old.globals.items i after within)));
    }
