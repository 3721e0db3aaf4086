-- Each part of a run keeps what names stand for, and raises no steps; so does a call, whose body keeps them.
use Rattle.std.proofs.Math.Nat.{le_refl, le_trans, min-eq_left}
use Rattle.std.proofs.lemmas.List.{length-take}
use Rattle.std.proofs.Common.{◌≡◌, ℕ, zero, suc, ◌≤◌, min, List, [], ◌∷◌, ◌++◌, length, length-append, map, take, Option, Some, None, Result, Ok, Err, refl, sym, ap, subst, ◌∙◌, arith}
use Rattle.awk_value.specs.declared.value.Value.{Value}
use Rattle.awk_value.specs.declared.value.Value.TheVariants as value
use Rattle.awk_value.specs.Arrays.{Array}
use Rattle.awk_grammar.specs.Height.{height_of_block}
use Rattle.awk_semantics.specs.declared.flow.Flow.{Flow}
use Rattle.awk_semantics.specs.declared.halt.Halt.{Halt}
use Rattle.awk_semantics.specs.declared.halt.Halt.TheVariants as halt
use Rattle.awk_semantics.specs.declared.local.Local.{Local}
use Rattle.awk_kinds.specs.definitions.Kinds.{FormalParameter, Definition}
use Rattle.awk_semantics.specs.definitions.State.{Effect, Frame, State, Out, Run, go_on, ◌>>=◌, lift}
use Rattle.awk_semantics.specs.definitions.Primitives.{bound, made, enter, without_call, leave}
use Rattle.awk_semantics.specs.definitions.Calls.{definition_of, returned, call_by, call_within, functions_within}
use Rattle.awk_semantics.specs.support.Keeps.{FrameScope, Scope, frame_scope, scope_of, arrays_behind, outside_of, Keeps, CallsKeep}
use Rattle.awk_semantics.proofs.PlainRuns.{Plain}
use Rattle.awk_semantics.proofs.Forms.{GoesOn, exec_all_holds}

-- one run and then another

go_falls : {A B : Type 0} (f : A → Run B) (s : State) → ((a : A) → Keeps (f a)) → (r : Result A Halt) (t : State) (effects : List Effect) → t.steps ≤ s.steps → (go_on r t effects f).state.steps ≤ s.steps
unfolding go_on
go_falls f s h (Ok a) t effects e = le_trans ((h a).falls t) e
go_falls f s h (Err x) t effects e = e

go_scope : {A B : Type 0} (f : A → Run B) (s : State) → ((a : A) → Keeps (f a)) → (r : Result A Halt) (t : State) (effects : List Effect) → ((a : A) → r ≡ Ok a → scope_of t ≡ scope_of s) → (b : B) → (go_on r t effects f).result ≡ Ok b → scope_of (go_on r t effects f).state ≡ scope_of s
unfolding go_on
go_scope f s h (Ok a) t effects k b e = (h a).scope t b e ∙ k a refl
go_scope f s h (Err x) t effects k b e = absurd (cc)

go_outside : {A B : Type 0} (f : A → Run B) (s : State) → ((a : A) → Keeps (f a)) → (r : Result A Halt) (t : State) (effects : List Effect) → outside_of (scope_of t) ≡ outside_of (scope_of s) → outside_of (scope_of (go_on r t effects f).state) ≡ outside_of (scope_of s)
unfolding go_on
go_outside f s h (Ok a) t effects e = (h a).outside t ∙ e
go_outside f s h (Err x) t effects e = e

pub keeps_bind : {A B : Type 0} {m : Run A} {f : A → Run B} → Keeps m → ((a : A) → Keeps (f a)) → Keeps (m >>= f)
unfolding ◌>>=◌
keeps_bind {m = m} {f = f} x h = record {
  falls = λ s. go_falls f s h (m s).result (m s).state (m s).effects (x.falls s);
  scope = λ s. go_scope f s h (m s).result (m s).state (m s).effects (x.scope s);
  outside = λ s. go_outside f s h (m s).result (m s).state (m s).effects (x.outside s);
}

pub keeps_lift : {A : Type 0} (r : Result A Halt) → Keeps (lift r)
unfolding lift
keeps_lift r = record { falls = λ s. le_refl s.steps; scope = λ s a e. refl; outside = λ s. refl }

pub keeps_plain : {A : Type 0} {m : Run A} → Plain m → Keeps m
keeps_plain h = record { falls = λ s. (h.at s).falls; scope = λ s a e. (h.at s).scope; outside = λ s. ap outside_of (h.at s).scope }

-- what does in each state what a run does that keeps them
pub keeps_at : {A : Type 0} {m : Run A} → ((s : State) → (n : Run A) × Keeps n × (m s ≡ n s)) → Keeps m
keeps_at {A = A} {m = m} h = record {
  falls = λ s. subst (λ (o : Out A). o.state.steps ≤ s.steps) (sym (h s).2) ((h s).1.falls s);
  scope = λ s a e. subst (λ (o : Out A). scope_of o.state ≡ scope_of s) (sym (h s).2) ((h s).1.scope s a (ap (λ (o : Out A). o.result) (sym (h s).2) ∙ e));
  outside = λ s. subst (λ (o : Out A). outside_of (scope_of o.state) ≡ outside_of (scope_of s)) (sym (h s).2) ((h s).1.outside s);
}

pub keeps_closed : GoesOn (λ A m. Keeps m)
keeps_closed = record {
  plain = λ A m h. keeps_plain h;
  bind = λ A B m f h k. keeps_bind h k;
  at = λ A m h. keeps_at h;
}

-- calls

abbrev entered : List FormalParameter → ℕ → List Local → State → State
entered parameters height given s = record s {
  frames = record { locals = bound parameters given (length s.arrays); height = height; arrays_before = length s.arrays } ∷ s.frames;
  arrays = s.arrays ++ made parameters given;
}

-- the arrays of before stand in front
arrays_before : (xs ys : List Array) → min (length xs) (length (xs ++ ys)) ≡ length xs
arrays_before xs ys = min-eq_left (omega (arith, length-append xs ys))

entered_outside : (parameters : List FormalParameter) (height : ℕ) (given : List Local) (s : State) → outside_of (scope_of (entered parameters height given s)) ≡ outside_of (scope_of s)
entered_outside parameters height given s = ap (λ n. record (scope_of s) { frames = []; arrays = arrays_behind (map frame_scope s.frames) n }) (arrays_before s.arrays (made parameters given))

left_outside : (frames : List Frame) (s : State) → s.frames ≡ frames → outside_of (scope_of (without_call frames s)) ≡ outside_of (scope_of s)
left_outside [] s e = refl
left_outside (frame ∷ frames) s e =
    ap (λ n. record (scope_of s) { frames = []; arrays = arrays_behind (map frame_scope frames) n }) (length-take frame.arrays_before s.arrays)
    ∙ ap (λ fs. record (scope_of s) { frames = []; arrays = arrays_behind (map frame_scope fs) (length s.arrays) }) (sym e)

left_scope : (frames : List Frame) (s : State) (frame : FrameScope) (behind : List FrameScope) → map frame_scope frames ≡ frame ∷ behind → scope_of (without_call frames s) ≡ record (scope_of s) { frames = behind; arrays = min frame.arrays_before (length s.arrays) }
left_scope [] s frame behind e = absurd (cc)
left_scope (x ∷ frames) s frame behind e =
    let first : frame_scope x ≡ frame = cc in
    let rest : map frame_scope frames ≡ behind = cc in
    ap (λ fs. record (scope_of s) { frames = fs; arrays = length (take x.arrays_before s.arrays) }) rest
    ∙ ap (λ n. record (scope_of s) { frames = behind; arrays = n }) (length-take x.arrays_before s.arrays)
    ∙ ap (λ (f : FrameScope). record (scope_of s) { frames = behind; arrays = min f.arrays_before (length s.arrays) }) first

-- behind a body that keeps what names stand for there, all is as before the call
call_scope : (parameters : List FormalParameter) (height : ℕ) (given : List Local) (s t : State) → scope_of t ≡ scope_of (entered parameters height given s) → scope_of (without_call t.frames t) ≡ scope_of s
call_scope parameters height given s t e =
    left_scope t.frames t _ (map frame_scope s.frames) (ap (λ (x : Scope). x.frames) e)
    ∙ ap (λ (x : Scope). record x { frames = map frame_scope s.frames; arrays = min (length s.arrays) x.arrays }) e
    ∙ ap (λ n. record (scope_of s) { arrays = n }) (arrays_before s.arrays (made parameters given))

left_falls : (frames : List Frame) (t s : State) → t.steps ≤ s.steps → (without_call frames t).steps ≤ s.steps
left_falls [] t s h = h
left_falls (frame ∷ frames) t s h = h

body_scope : (d : Definition) (given : List Local) (s : State) (r : Result Flow Halt) (t : State) (effects : List Effect) → ((f : Flow) → r ≡ Ok f → scope_of t ≡ scope_of (entered d.parameters (height_of_block d.body) given s)) → (v : Value) → (go_on r t effects (λ f. leave >>= λ _. lift (Ok (returned f)))).result ≡ Ok v → scope_of (go_on r t effects (λ f. leave >>= λ _. lift (Ok (returned f)))).state ≡ scope_of s
unfolding go_on ◌>>=◌ lift leave
body_scope d given s (Ok f) t effects h v e = call_scope d.parameters (height_of_block d.body) given s t (h f refl)
body_scope d given s (Err x) t effects h v e = absurd (cc)

body_falls : (r : Result Flow Halt) (s t : State) (effects : List Effect) → t.steps ≤ s.steps → (go_on r t effects (λ f. leave >>= λ _. lift (Ok (returned f)))).state.steps ≤ s.steps
unfolding go_on ◌>>=◌ lift leave
body_falls (Ok f) s t effects h = left_falls t.frames t s h
body_falls (Err x) s t effects h = h

body_outside : (r : Result Flow Halt) (s t : State) (effects : List Effect) → outside_of (scope_of t) ≡ outside_of (scope_of s) → outside_of (scope_of (go_on r t effects (λ f. leave >>= λ _. lift (Ok (returned f)))).state) ≡ outside_of (scope_of s)
unfolding go_on ◌>>=◌ lift leave
body_outside (Ok f) s t effects h = left_outside t.frames t refl ∙ h
body_outside (Err x) s t effects h = h

pub keeps_call_by : (o : Option Definition) (given : List Local) {body : Definition → Run Flow} → ((d : Definition) → Keeps (body d)) → Keeps (call_by o given body)
unfolding ◌>>=◌ go_on enter
keeps_call_by None given h = keeps_lift (Ok value.Nothing)
keeps_call_by (Some d) given {body = body} h =
    let inside : State → State = entered d.parameters (height_of_block d.body) given in
    record {
      falls = λ s. body_falls (body d (inside s)).result s (body d (inside s)).state (body d (inside s)).effects ((h d).falls (inside s));
      scope = λ s. body_scope d given s (body d (inside s)).result (body d (inside s)).state (body d (inside s)).effects ((h d).scope (inside s));
      outside = λ s. body_outside (body d (inside s)).result s (body d (inside s)).state (body d (inside s)).effects ((h d).outside (inside s) ∙ entered_outside d.parameters (height_of_block d.body) given s);
    }

pub keeps_call_within : (ds : List Definition) (n : ℕ) → CallsKeep (functions_within ds n)
unfolding call_within
keeps_call_within ds zero f given = keeps_lift (Err halt.OutOfSteps)
keeps_call_within ds (suc n) f given =
    let calls = keeps_call_within ds n in
    keeps_call_by (definition_of ds f) given (λ d. exec_all_holds (λ A m. Keeps m) keeps_closed (functions_within ds n) calls d.body)
