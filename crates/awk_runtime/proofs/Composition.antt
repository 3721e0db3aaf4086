-- How what the parts of the code do is put together.
use Rattle.std.proofs.Common.{◌≡◌, ◌⊎◌, inl, inr, ◌≤◌, ℕ, true, false, List, [], ◌∷◌, ◌++◌, length, slice_get, None, Result, Ok, Err, refl, sym, ap, ◌∙◌, subst, arith, append_assoc, append-nil}
use Rattle.awk_world.specs.declared.world.InputKind.{InputKind}
use Rattle.awk_world.specs.declared.world.OutputKind.{OutputKind}
use Rattle.awk_world.specs.declared.failure.Failure.{Failure}
use Rattle.awk_world.specs.declared.world.WorldFault.{WorldFault}
use Rattle.awk_world.specs.declared.world.WorldFault.TheVariants.{Memory}
use Rattle.awk_streams.specs.WorldState.{WorldState, FailsNow, MayFailNow, MayFailInside}
use Rattle.awk_streams.specs.Oracle.{Oracle}
use Rattle.awk_streams.specs.Openings.{Opening}
use Rattle.awk_streams.specs.Streams.{StreamsView, AreAs, held_of, printed_openings}
use Rattle.awk_streams.specs.Lost.{AreSpent, KeepsOthers}
use Rattle.awk_streams.proofs.GrowsLemmas.{Grows-self, Grows-then}
use Rattle.awk_streams.proofs.LostLemmas.{spent_inside}
use Rattle.awk_semantics.specs.declared.halt.Halt.{Halt}
use Rattle.awk_semantics.specs.declared.halt.Halt.TheVariants as halt
use Rattle.awk_semantics.specs.declared.fault.Fault.TheVariants.{OutOfMemory}
use Rattle.awk_semantics.specs.State.{Effect, State, Out, Run, go_on, ◌>>=◌, lift}
use Rattle.awk_semantics.specs.Meaning.{first_outputs, outputs_after, requests_from}
use Rattle.awk_semantics.specs.Order.{Stage, MeetsAll, first_stage}
use Rattle.awk_semantics.specs.Results.{Sort, WantOfMemory, FailedWrite, OfLanguage, sort_of, YieldsBy, Yields}
use Rattle.awk_storage.specs.support.Frames.{FramesView}
use Rattle.awk_runtime.specs.declared.runtime.Runtime.{Runtime}
use Rattle.awk_runtime.specs.support.Simulation.{stage_of, OwnRelation, StreamsRelation, StateRelation, IsReady, FailureRelation, FailedLast, ResultRelationBy, ResultRelation, SimulatesLogged, Simulates, Changes, ChangesCalls}
use Rattle.awk_runtime.proofs.Effects.{begins-longer, begins_still}

-- a failure of a world that had met none before

pub fails_last : {what : WorldFault} (before after : WorldState) → before.failures ≡ [] → FailsNow what before after → FailedLast what after
fails_last {what = what} before after clear (output, fails) = (output, fails ∙ ap (λ (fs : List Failure). record { at = length after.log; output = output; what = what } ∷ fs) clear)

pub may_fail_last : (before after : WorldState) → before.failures ≡ [] → MayFailNow before after → (after.failures ≡ []) ⊎ FailedLast Memory after
may_fail_last before after clear (inl same) = inl (same ∙ clear)
may_fail_last before after clear (inr fails) = inr (fails_last before after clear fails)

-- refused memory that was for no output
pub inside_last : (before after : WorldState) → before.failures ≡ [] → MayFailInside before after → (after.failures ≡ []) ⊎ FailedLast Memory after
inside_last before after clear (inl same) = inl (same ∙ clear)
inside_last before after clear (inr fails) = inr (fails_last before after clear (None, fails))

-- where no output failed, none that did holds anything back

none_failed : (held : List (ℕ × List ℕ)) → AreSpent [] held
none_failed [] = tt
none_failed (h ∷ held) = (λ (failed : false ≡ true). absurd (cc), none_failed held)

pub clear_spent : (k : WorldState) (held : List (ℕ × List ℕ)) → k.failures ≡ [] → AreSpent k.failures held
clear_spent k held clear = subst (λ (fs : List Failure). AreSpent fs held) (sym clear) (none_failed held)

pub inside_spent : (before after : WorldState) (held : List (ℕ × List ℕ)) → before.failures ≡ [] → MayFailInside before after → AreSpent after.failures held
inside_spent before after held clear inside = spent_inside before after held inside (clear_spent before held clear)

-- all that is printed is received or held back
pub keeps_all : (k : WorldState) (streams : StreamsView) (done : List Effect) → printed_openings k streams ≡ outputs_after done → AreSpent k.failures (held_of streams) → KeepsOthers (outputs_after done) k (held_of streams)
keeps_all k streams done printed spent = record { same = λ n kept. ap (λ (os : List Opening). slice_get os n) printed; spent = spent }

-- a failure behind what was done, which left nothing out
pub cut_off : {failure : Type 0} (oracle : Oracle) (streams : StreamsView) (k : WorldState) (done others : List Effect) (last : Stage) → last.log ≡ k.log → MeetsAll oracle (requests_from first_outputs done) first_stage last → printed_openings k streams ≡ outputs_after done → AreSpent k.failures (held_of streams) → failure → FailureRelation oracle failure streams k (done ++ others)
cut_off oracle streams k done others last at turn printed spent failed = record {
  done = done;
  others = others;
  parts = refl;
  last = last;
  at = at;
  turn = turn;
  keeps = keeps_all k streams done printed spent;
  begins = begins_still (printed_openings k streams) done others printed;
  failure = failed;
}

-- a failure behind all of it
pub cut_behind : {failure : Type 0} (oracle : Oracle) (streams : StreamsView) (k : WorldState) (done : List Effect) (last : Stage) → last.log ≡ k.log → MeetsAll oracle (requests_from first_outputs done) first_stage last → printed_openings k streams ≡ outputs_after done → AreSpent k.failures (held_of streams) → failure → FailureRelation oracle failure streams k done
cut_behind {failure = failure} oracle streams k done last at turn printed spent failed = subst (λ (l : List Effect). FailureRelation oracle failure streams k l) (append-nil done) (cut_off oracle streams k done [] last at turn printed spent failed)

-- want of memory behind all of it
pub wanted_behind : {failure : Type 0} (oracle : Oracle) (m : Runtime) (k : WorldState) (s : State) (done : List Effect) → StateRelation oracle m k s done → failure → FailureRelation oracle failure m.streams k done
wanted_behind oracle m k s done stands failed = cut_behind oracle m.streams k done (stage_of k.log m.streams) refl stands.streams.turn stands.streams.printed (clear_spent k (held_of m.streams) stands.clear) failed

-- what a failure left still begins with what is printed, and with more
failure_longer : {oracle : Oracle} {failure : Type 0} {streams : StreamsView} {k : WorldState} (past xs ys : List Effect) → FailureRelation oracle failure streams k (past ++ xs) → FailureRelation oracle failure streams k (past ++ (xs ++ ys))
failure_longer {streams = streams} {k = k} past xs ys h = record {
  done = h.done;
  others = h.others ++ ys;
  parts = sym (append_assoc past xs ys) ∙ (ap (λ l. l ++ ys) h.parts ∙ append_assoc h.done h.others ys);
  last = h.last;
  at = h.at;
  turn = h.turn;
  keeps = h.keeps;
  begins = begins-longer (printed_openings k streams) past xs ys h.begins;
  failure = h.failure;
}

-- want of memory where all is as the meaning has it
pub unfailed : {failure : Type 0} (oracle : Oracle) (m new : Runtime) (k : WorldState) (s : State) (past more : List Effect) → new.streams ≡ m.streams → StateRelation oracle m k s past → ((k.failures ≡ []) → failure) → FailureRelation oracle failure new.streams k (past ++ more)
unfailed oracle m new k s past more same stands failure = cut_off oracle new.streams k past more (stage_of k.log m.streams) refl stands.streams.turn (ap (printed_openings k) same ∙ stands.streams.printed) (clear_spent k (held_of new.streams) stands.clear) (failure stands.clear)

-- what lies outside the code's own part is the same
pub record OwnPart (s t : State) : Type 0 where
  pub outside : t.outside ≡ s.outside
  pub openings : t.openings ≡ s.openings
  pub output_openings : t.output_openings ≡ s.output_openings
  pub closings : t.closings ≡ s.closings
  pub runs : t.runs ≡ s.runs
  pub outputs : t.outputs ≡ s.outputs
  pub main : t.main ≡ s.main
  pub streams : t.streams ≡ s.streams

-- effects that came before
shift_by : {A : Type 0} (oracle : Oracle) (m : Runtime) (k : WorldState) (h : Sort) (o : Out A) (past first : List Effect) → ResultRelationBy oracle m k h o (past ++ first) → ResultRelationBy oracle m k h (record { result = o.result; state = o.state; effects = first ++ o.effects }) past
shift_by oracle m k WantOfMemory o past first c = rw (← append_assoc past first o.effects) c
shift_by oracle m k FailedWrite o past first c = rw (← append_assoc past first o.effects) c
shift_by oracle m k (OfLanguage reason) o past first c = rw (← append_assoc past first o.effects) c

pub shift : {A : Type 0} (oracle : Oracle) (m : Runtime) (k : WorldState) (r : Result A Halt) (o : Out A) (past first : List Effect) → ResultRelation oracle m k r o (past ++ first) → ResultRelation oracle m k r (record { result = o.result; state = o.state; effects = first ++ o.effects }) past
shift oracle m k (Ok a) o past first c = rw (← append_assoc past first o.effects) c
shift oracle m k (Err h) o past first c = shift_by oracle m k (sort_of h) o past first c

bound_ok : {A B : Type 0} (oracle : Oracle) (m : Runtime) (k : WorldState) (r : Result B Halt) (past : List Effect) (f : A → Run B) (a : A) (o : Result A Halt) (t : State) (effects : List Effect) → o ≡ Ok a → ResultRelation oracle m k r (f a t) (past ++ effects) → ResultRelation oracle m k r (go_on o t effects f) past
unfolding go_on
bound_ok oracle m k r past f a o t effects e c = rw e (shift oracle m k r (f a t) past effects c)

err_on : {A B : Type 0} (oracle : Oracle) (m : Runtime) (k : WorldState) (h : Sort) (past : List Effect) (f : A → Run B) (o : Result A Halt) (t : State) (effects : List Effect) → ResultRelationBy oracle m k h (record { result = o; state = t; effects = effects }) past → ResultRelationBy oracle m k h (go_on o t effects f) past
unfolding go_on
err_on oracle m k WantOfMemory past f (Ok a) t effects c = failure_longer past effects (f a t).effects c
err_on oracle m k WantOfMemory past f (Err e) t effects c = c
err_on oracle m k FailedWrite past f (Ok a) t effects c = failure_longer past effects (f a t).effects c
err_on oracle m k FailedWrite past f (Err e) t effects c = c
err_on oracle m k (OfLanguage reason) past f (Ok a) t effects c = let e : Ok a ≡ Err reason = c.0 in absurd (cc)
err_on oracle m k (OfLanguage reason) past f (Err e) t effects c = let q : Err e ≡ Err reason = c.0 in ((cc), c.1)

-- what was done first and went well, and then the rest
pub then_logged : {A B : Type 0} {old mid new : Runtime} {before between after : WorldState} {a : A} {r : Result B Halt} {run : Run A} (f : A → Run B) → SimulatesLogged old before mid between (Ok a) run → SimulatesLogged mid between new after r (f a) → SimulatesLogged old before new after r (run >>= f)
unfolding ◌>>=◌
then_logged {new = new} {after = after} {a = a} {r = r} {run = run} f x y = record {
  grows = Grows-then x.grows y.grows;
  means = λ oracle s past consistent stands.
      let c = x.means oracle s past (y.grows.consistent oracle consistent) stands in
      bound_ok oracle new after r past f a (run s).result (run s).state (run s).effects c.0
      (y.means oracle (run s).state (past ++ (run s).effects) consistent c.1);
}

-- what was done first and ended
pub ends_logged : {A B : Type 0} {old new : Runtime} {before after : WorldState} {h : Halt} {run : Run A} (f : A → Run B) → SimulatesLogged old before new after (Err h) run → SimulatesLogged old before new after (Err h) (run >>= f)
unfolding ◌>>=◌
ends_logged {new = new} {after = after} {h = h} {run = run} f x = record {
  grows = x.grows;
  means = λ oracle s past consistent stands.
      err_on oracle new after (sort_of h) past f (run s).result (run s).state (run s).effects (x.means oracle s past consistent stands);
}

-- want of memory may be met anywhere
pub memory_logged : {A : Type 0} (m : Runtime) (k : WorldState) (run : Run A) → SimulatesLogged m k m k (Err (halt.Fault OutOfMemory)) run
memory_logged m k run = record {
  grows = Grows-self k;
  means = λ oracle s past consistent stands. unfailed oracle m m k s past (run s).effects refl stands (λ none. inl none);
}

stands_still : {oracle : Oracle} {m : Runtime} {k : WorldState} {s : State} {past : List Effect} → StateRelation oracle m k s past → StateRelation oracle m k s (past ++ [])
stands_still {oracle = oracle} {m = m} {k = k} {s = s} {past = past} h = subst (λ (l : List Effect). StateRelation oracle m k s l) (sym (append-nil past)) h

lifted_by : {A : Type 0} (oracle : Oracle) (m : Runtime) (k : WorldState) (h : Sort) (r : Result A Halt) (s : State) (past : List Effect) → YieldsBy h r → StateRelation oracle m k s past → ResultRelationBy oracle m k h (record { result = r; state = s; effects = [] }) past
lifted_by oracle m k WantOfMemory r s past e stands = unfailed oracle m m k s past [] refl stands (λ none. inl none)
lifted_by oracle m k FailedWrite r s past e stands = absurd e
lifted_by oracle m k (OfLanguage reason) r s past e stands = (e, stands_still stands)

lifted : {A : Type 0} (oracle : Oracle) (m : Runtime) (k : WorldState) (c : Result A Halt) (r : Result A Halt) (s : State) (past : List Effect) → Yields c r → StateRelation oracle m k s past → ResultRelation oracle m k c (record { result = r; state = s; effects = [] }) past
lifted oracle m k (Ok a) r s past e stands = (e, stands_still stands)
lifted oracle m k (Err h) r s past e stands = lifted_by oracle m k (sort_of h) r s past e stands

-- a result that is had without a change
pub lift_logged : {A : Type 0} {c : Result A Halt} (r : Result A Halt) (m : Runtime) (k : WorldState) → Yields c r → SimulatesLogged m k m k c (lift r)
unfolding lift
lift_logged {c = c} r m k e = record {
  grows = Grows-self k;
  means = λ oracle s past consistent stands. lifted oracle m k c r s past e stands;
}

pub then_simulates : {A B : Type 0} {is_logged : Type 0} {old mid new : Runtime} {before between after : WorldState} {a : A} {r : Result B Halt} {run : Run A} (f : A → Run B) → Simulates is_logged old before mid between (Ok a) run → Simulates is_logged mid between new after r (f a) → Simulates is_logged old before new after r (run >>= f)
then_simulates f x y = record {
  steps = omega (arith, x.steps, y.steps);
  names = y.names ∙ x.names;
  told = λ t. then_logged f (x.told t) (y.told t);
}

pub ends_simulates : {A B : Type 0} {is_logged : Type 0} {old new : Runtime} {before after : WorldState} {h : Halt} {run : Run A} (f : A → Run B) → Simulates is_logged old before new after (Err h) run → Simulates is_logged old before new after (Err h) (run >>= f)
ends_simulates f x = record { steps = x.steps; names = x.names; told = λ t. ends_logged f (x.told t) }

pub memory_simulates : {A : Type 0} {is_logged : Type 0} (m : Runtime) (k : WorldState) (run : Run A) → Simulates is_logged m k m k (Err (halt.Fault OutOfMemory)) run
memory_simulates m k run = record { steps = omega arith; names = refl; told = λ t. memory_logged m k run }

pub lift_simulates : {A : Type 0} {is_logged : Type 0} {c : Result A Halt} (r : Result A Halt) (m : Runtime) (k : WorldState) → Yields c r → Simulates is_logged m k m k c (lift r)
lift_simulates r m k e = record { steps = omega arith; names = refl; told = λ t. lift_logged r m k e }

pub change_simulates : {A : Type 0} {is_logged : Type 0} {old new : Runtime} {k : WorldState} {r : Result A Halt} {run : Run A} → Changes run old new r → Simulates is_logged old k new k r run
change_simulates {k = k} h = record { steps = h.steps; names = h.names; told = λ t. h.means k }

-- what is ready stays so where the streams are the same
pub ready_same : {is_logged : Type 0} {k : WorldState} {old new : StreamsView} → new ≡ old → IsReady is_logged k old → IsReady is_logged k new
ready_same {is_logged = is_logged} {k = k} same ready = subst (λ s. IsReady is_logged k s) (sym same) ready

pub ready_behind : {A : Type 0} {is_logged : Type 0} {k : WorldState} {old new : Runtime} {r : Result A Halt} {run : Run A} → Changes run old new r → IsReady is_logged k old.streams → IsReady is_logged k new.streams
ready_behind h ready = ready_same h.streams ready

-- changes of the code's state alone

pub then_changes : {A B : Type 0} {old mid new : Runtime} {a : A} {r : Result B Halt} {run : Run A} (f : A → Run B) → Changes run old mid (Ok a) → Changes (f a) mid new r → Changes (run >>= f) old new r
then_changes f x y = record {
  steps = omega (arith, x.steps, y.steps);
  names = y.names ∙ x.names;
  streams = y.streams ∙ x.streams;
  callers = y.callers ∙ x.callers;
  means = λ k. then_logged f (x.means k) (y.means k);
}

pub ends_changes : {A B : Type 0} {old new : Runtime} {h : Halt} {run : Run A} (f : A → Run B) → Changes run old new (Err h) → Changes (run >>= f) old new (Err h)
ends_changes f x = record { steps = x.steps; names = x.names; streams = x.streams; callers = x.callers; means = λ k. ends_logged f (x.means k) }

pub lift_changes : {A : Type 0} {c : Result A Halt} (r : Result A Halt) (m : Runtime) → Yields c r → Changes (lift r) m m c
lift_changes r m e = record { steps = omega arith; names = refl; streams = refl; callers = refl; means = λ k. lift_logged r m k e }

pub memory_changes : {A : Type 0} (run : Run A) {old new : Runtime} → new.streams ≡ old.streams → new.names ≡ old.names → new.frames.callers ≡ old.frames.callers → new.steps ≤ old.steps → Changes run old new (Err (halt.Fault OutOfMemory))
memory_changes run {old = old} {new = new} same names callers low = record {
  callers = callers;
  steps = low;
  names = names;
  streams = same;
  means = λ k. record { grows = Grows-self k; means = λ oracle s past consistent stands. unfailed oracle old new k s past (run s).effects same stands (λ none. inl none) };
}

-- the streams stand for those of a state that differs in the code's own part alone
pub streams_own : {oracle : Oracle} {old new : StreamsView} {k : WorldState} {s t : State} {past : List Effect} → new ≡ old → OwnPart s t → StreamsRelation oracle old k s past → StreamsRelation oracle new k t (past ++ [])
streams_own {oracle = oracle} {old = old} {new = new} {k = k} {s = s} {t = t} {past = past} same own stands = subst (λ (v : StreamsView). StreamsRelation oracle v k t (past ++ [])) (sym same) (subst (λ (l : List Effect). StreamsRelation oracle old k t l) (sym (append-nil past)) record {
  outside = own.outside ∙ stands.outside;
  openings = λ kind name. ap (λ (f : InputKind → List ℕ → ℕ). f kind name) own.openings ∙ stands.openings kind name;
  output_openings = λ kind name. ap (λ (f : OutputKind → List ℕ → ℕ). f kind name) own.output_openings ∙ stands.output_openings kind name;
  closings = own.closings ∙ stands.closings;
  runs = own.runs ∙ stands.runs;
  outputs = own.outputs ∙ stands.outputs;
  are = subst (λ rest. AreAs oracle k old rest t.streams) (sym own.main) (subst (λ open_streams. AreAs oracle k old s.main open_streams) (sym own.streams) stands.are);
  printed = stands.printed;
  turn = stands.turn;
})

-- a state that differs in the code's own part alone stands after the same effects
stands_own : {oracle : Oracle} {old new : Runtime} {k : WorldState} {s t : State} {past : List Effect} → new.streams ≡ old.streams → OwnPart s t → OwnRelation new t → StateRelation oracle old k s past → StateRelation oracle new k t (past ++ [])
stands_own same own holds stands = record { clear = stands.clear; streams = streams_own same own stands.streams; holds = holds }

own_by : {A : Type 0} (oracle : Oracle) (m : Runtime) (k : WorldState) (h : Sort) (r : Result A Halt) (t : State) (past : List Effect) → YieldsBy h r → StateRelation oracle m k t (past ++ []) → ResultRelationBy oracle m k h (record { result = r; state = t; effects = [] }) past
own_by oracle m k WantOfMemory r t past e stands = wanted_behind oracle m k t (past ++ []) stands (inl stands.clear)
own_by oracle m k FailedWrite r t past e stands = absurd e
own_by oracle m k (OfLanguage reason) r t past e stands = (e, stands)

own_comes : {A : Type 0} (oracle : Oracle) (m : Runtime) (k : WorldState) (c : Result A Halt) (r : Result A Halt) (t : State) (past : List Effect) → Yields c r → StateRelation oracle m k t (past ++ []) → ResultRelation oracle m k c (record { result = r; state = t; effects = [] }) past
own_comes oracle m k (Ok a) r t past e stands = (e, stands)
own_comes oracle m k (Err h) r t past e stands = own_by oracle m k (sort_of h) r t past e stands

-- a run that changes the code's own part alone, and shows nothing
pub record Own {A : Type 0} (old new : Runtime) (c : Result A Halt) (run : Run A) (s : State) : Type 0 where
  pub result : Result A Halt
  pub state : State
  pub is : run s ≡ record { result = result; state = state; effects = [] }
  pub part : OwnPart s state
  pub matches : Yields c result
  pub holds : OwnRelation new state

pub own_calls : {A : Type 0} {c : Result A Halt} {old new : Runtime} (run : Run A) → new.streams ≡ old.streams → new.names ≡ old.names → new.steps ≤ old.steps → ((s : State) → OwnRelation old s → Own old new c run s) → ChangesCalls run old new c
own_calls {c = c} {old = old} {new = new} run same names low own = record {
  steps = low;
  names = names;
  streams = same;
  means = λ k. record {
    grows = Grows-self k;
    means = λ oracle s past consistent stands.
        let o = own s stands.holds in
        subst (λ (x : Out _). ResultRelation oracle new k c x past) (sym o.is) (own_comes oracle new k c o.result o.state past o.matches (stands_own same o.part o.holds stands));
  };
}

pub own_changes : {A : Type 0} {c : Result A Halt} {old new : Runtime} (run : Run A) → new.streams ≡ old.streams → new.names ≡ old.names → new.frames.callers ≡ old.frames.callers → new.steps ≤ old.steps → ((s : State) → OwnRelation old s → Own old new c run s) → Changes run old new c
own_changes run same names callers low own = let d = own_calls run same names low own in record { steps = d.steps; names = d.names; streams = d.streams; callers = callers; means = d.means }

-- calls that begin or are over

pub as_calls : {A : Type 0} {old new : Runtime} {r : Result A Halt} {run : Run A} → Changes run old new r → ChangesCalls run old new r
as_calls x = record { steps = x.steps; names = x.names; streams = x.streams; means = x.means }

pub then_calls : {A B : Type 0} {old mid new : Runtime} {a : A} {r : Result B Halt} {run : Run A} (f : A → Run B) → Changes run old mid (Ok a) → ChangesCalls (f a) mid new r → ChangesCalls (run >>= f) old new r
then_calls f x y = record {
  steps = omega (arith, x.steps, y.steps);
  names = y.names ∙ x.names;
  streams = y.streams ∙ x.streams;
  means = λ k. then_logged f (x.means k) (y.means k);
}

pub memory_calls : {A : Type 0} (run : Run A) {old new : Runtime} → new.streams ≡ old.streams → new.names ≡ old.names → new.steps ≤ old.steps → ChangesCalls run old new (Err (halt.Fault OutOfMemory))
memory_calls run {old = old} {new = new} same names low = record {
  steps = low;
  names = names;
  streams = same;
  means = λ k. record { grows = Grows-self k; means = λ oracle s past consistent stands. unfailed oracle old new k s past (run s).effects same stands (λ none. inl none) };
}

pub calls_simulate : {A : Type 0} {is_logged : Type 0} {old new : Runtime} {k : WorldState} {r : Result A Halt} {run : Run A} → ChangesCalls run old new r → Simulates is_logged old k new k r run
calls_simulate {k = k} h = record { steps = h.steps; names = h.names; told = λ t. h.means k }

-- what stays of calls that stay

pub frames_stay : {old new : FramesView} → new ≡ old → new.frames ≡ old.frames
frames_stay e = ap (λ (v : FramesView). v.frames) e

pub staged_stay : {old new : FramesView} → new ≡ old → new.staged ≡ old.staged
staged_stay e = ap (λ (v : FramesView). v.staged) e

pub callers_stay : {old new : FramesView} → new ≡ old → new.callers ≡ old.callers
callers_stay e = ap (λ (v : FramesView). v.callers) e

pub same_part : (s : State) → OwnPart s s
same_part s = record { outside = refl; openings = refl; output_openings = refl; closings = refl; runs = refl; outputs = refl; main = refl; streams = refl }
