-- What the items of a program keep: what ends early ends the calls that are active, and all that stands outside them is kept.
use Rattle.std.proofs.Math.Nat.{le_trans}
use Rattle.std.proofs.lemmas.List.{length-take}
use Rattle.std.proofs.Common.{◌≡◌, ℕ, zero, suc, ◌≤◌, Bool, true, false, List, [], ◌∷◌, length, map, Option, Some, None, Result, Ok, Err, refl, sym, ap, subst, ◌∙◌}
use Rattle.awk_grammar.specs.Tree.{Item}
use Rattle.awk_semantics.specs.declared.halt.Halt.{Halt}
use Rattle.awk_semantics.specs.declared.halt.Halt.TheVariants as halt
use Rattle.awk_semantics.specs.definitions.State.{Effect, Frame, State, Run, go_on, ◌>>=◌}
use Rattle.awk_semantics.specs.definitions.Primitives.{without_call, without_calls, outside_calls}
use Rattle.awk_semantics.specs.definitions.Semantics.{Functions, choose}
use Rattle.awk_semantics.specs.definitions.Items.{until_next, until_exit, on_record, each_record, run_records, has_rule, run_before_end, run_items}
use Rattle.awk_semantics.specs.support.Keeps.{frame_scope, scope_of, arrays_behind, outside_of, Keeps, CallsKeep, KeepsOutside, EndsOutside}
use Rattle.awk_semantics.specs.support.LawOfKeeping.{LawOfItems}
use Rattle.awk_semantics.proofs.PlainRuns.{spend_plain}
use Rattle.awk_semantics.proofs.PlainParts.{next_plain}
use Rattle.awk_semantics.proofs.Forms.{items_holds, begin_items_holds, end_items_holds}
use Rattle.awk_semantics.proofs.Keeping.{keeps_lift, keeps_plain, keeps_closed}
use Rattle.awk_semantics.proofs.KeepsForms.{keeps_begin_record}

-- all calls over

without_frames : (frames : List Frame) (s : State) → s.frames ≡ frames → (without_calls frames s).frames ≡ []
without_frames [] s e = e
without_frames (frame ∷ frames) s e = without_frames frames (without_call (frame ∷ frames) s) refl

without_scope : (frames : List Frame) (s : State) → s.frames ≡ frames → scope_of (without_calls frames s) ≡ record (scope_of s) { frames = []; arrays = arrays_behind (map frame_scope frames) (length s.arrays) }
without_scope [] s e = ap (λ fs. record (scope_of s) { frames = map frame_scope fs }) e
without_scope (frame ∷ frames) s e =
    without_scope frames (without_call (frame ∷ frames) s) refl
    ∙ ap (λ n. record (scope_of s) { frames = []; arrays = arrays_behind (map frame_scope frames) n }) (length-take frame.arrays_before s.arrays)

without_steps : (frames : List Frame) (s : State) → (without_calls frames s).steps ≡ s.steps
without_steps [] s = refl
without_steps (frame ∷ frames) s = without_steps frames (without_call (frame ∷ frames) s)

pub outside_frames : (s : State) → (outside_calls s).frames ≡ []
outside_frames s = without_frames s.frames s refl

pub outside_scope : (s : State) → scope_of (outside_calls s) ≡ outside_of (scope_of s)
outside_scope s = without_scope s.frames s refl

outside_falls : (s t : State) → t.steps ≤ s.steps → (outside_calls t).steps ≤ s.steps
outside_falls s t h = subst (λ n. n ≤ s.steps) (sym (without_steps t.frames t)) h

-- runs

pub kept_outside : {A : Type 0} {m : Run A} → Keeps m → KeepsOutside m
kept_outside h = record { falls = h.falls; outside = h.outside }

pub ended_outside : {A : Type 0} {m : Run A} → EndsOutside m → KeepsOutside m
ended_outside h = record { falls = h.falls; outside = λ s. ap outside_of (h.scope s) }

go_falls : {A B : Type 0} (f : A → Run B) (s : State) → ((a : A) → KeepsOutside (f a)) → (r : Result A Halt) (t : State) (effects : List Effect) → t.steps ≤ s.steps → (go_on r t effects f).state.steps ≤ s.steps
unfolding go_on
go_falls f s h (Ok a) t effects e = le_trans ((h a).falls t) e
go_falls f s h (Err x) t effects e = e

go_outside : {A B : Type 0} (f : A → Run B) (s : State) → ((a : A) → KeepsOutside (f a)) → (r : Result A Halt) (t : State) (effects : List Effect) → outside_of (scope_of t) ≡ outside_of (scope_of s) → outside_of (scope_of (go_on r t effects f).state) ≡ outside_of (scope_of s)
unfolding go_on
go_outside f s h (Ok a) t effects e = (h a).outside t ∙ e
go_outside f s h (Err x) t effects e = e

pub then_outside : {A B : Type 0} {m : Run A} {f : A → Run B} → KeepsOutside m → ((a : A) → KeepsOutside (f a)) → KeepsOutside (m >>= f)
unfolding ◌>>=◌
then_outside {m = m} {f = f} x h = record {
  falls = λ s. go_falls f s h (m s).result (m s).state (m s).effects (x.falls s);
  outside = λ s. go_outside f s h (m s).result (m s).state (m s).effects (x.outside s);
}

pub next_outside : {m : Run (Unit {0})} → KeepsOutside m → EndsOutside (until_next m)
unfolding until_next
next_outside {m = m} h = record {
  falls = λ s. outside_falls s (m s).state (h.falls s);
  scope = λ s. outside_scope (m s).state ∙ h.outside s;
  frames = λ s. outside_frames (m s).state;
}

pub exit_outside : {m : Run (Unit {0})} → KeepsOutside m → EndsOutside (until_exit m)
unfolding until_exit
exit_outside {m = m} h = record {
  falls = λ s. outside_falls s (m s).state (h.falls s);
  scope = λ s. outside_scope (m s).state ∙ h.outside s;
  frames = λ s. outside_frames (m s).state;
}

on_outside : (found : Option (List ℕ)) {f : List ℕ → Run (Unit {0})} → ((text : List ℕ) → KeepsOutside (f text)) → KeepsOutside (on_record found f)
on_outside None h = kept_outside (keeps_lift (Ok tt))
on_outside (Some text) h = h text

pub each_outside : (n : ℕ) {action : Run (Unit {0})} → KeepsOutside action → KeepsOutside (each_record n action)
unfolding each_record
each_outside zero h = kept_outside (keeps_lift (Err halt.OutOfSteps))
each_outside (suc n) h =
    let t = each_outside n h in
    then_outside (kept_outside (keeps_plain next_plain)) (λ found. on_outside found (λ text. then_outside (kept_outside (keeps_plain spend_plain)) (λ _. then_outside (kept_outside (keeps_begin_record text)) (λ _. then_outside h (λ _. t)))))

pub records_outside : {action : Run (Unit {0})} → KeepsOutside action → KeepsOutside (run_records action)
unfolding run_records
records_outside h = record { falls = λ s. (each_outside (suc s.steps) h).falls s; outside = λ s. (each_outside (suc s.steps) h).outside s }

choose_outside : {A : Type 0} (b : Bool) {here other : Run A} → KeepsOutside here → KeepsOutside other → KeepsOutside (choose b here other)
choose_outside true h k = h
choose_outside false h k = k

-- items

module _ (functions : Functions) (calls : CallsKeep functions) where
  pub before_end_outside : (items : List Item) → KeepsOutside (run_before_end functions items)
  unfolding run_before_end
  before_end_outside items = then_outside (kept_outside (begin_items_holds (λ A m. Keeps m) keeps_closed functions calls items)) (λ _. choose_outside (has_rule items) (records_outside (ended_outside (next_outside (kept_outside (items_holds (λ A m. Keeps m) keeps_closed functions calls 0 items))))) (kept_outside (keeps_lift (Ok tt))))

  pub items_outside : (items : List Item) → KeepsOutside (run_items functions items)
  unfolding run_items
  items_outside items = then_outside (ended_outside (exit_outside (before_end_outside items))) (λ _. kept_outside (end_items_holds (λ A m. Keeps m) keeps_closed functions calls items))

pub law_of_items : LawOfItems
law_of_items = record {
  kept = λ m h. kept_outside h;
  ended = λ m h. ended_outside h;
  until_next = λ m h. next_outside h;
  until_exit = λ m h. exit_outside h;
  run_records = λ action h. records_outside h;
  run_before_end = before_end_outside;
  run_items = items_outside;
}
