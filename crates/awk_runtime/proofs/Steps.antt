-- Steps, and states that the definitions see as the same.
use Rattle.std.proofs.Common.{◌≡◌, ℕ, suc, Bool, false, List, [], ◌++◌, append_assoc, Result, Ok, Err, length, unwrap_or, slice_get, Some, refl, sym, ap, ◌∙◌, subst, arith}
use Rattle.std.specs.Prelude.{get_or}
use Rattle.std.specs.Global.{Vec}
use Rattle.awk_value.specs.declared.value.Value.{Value}
use Rattle.awk_value.specs.declared.value.Value.TheVariants.{Nothing}
use Rattle.awk_kinds.specs.Variables.{value_of, name_of}
use Rattle.awk_semantics.specs.declared.halt.Halt.{Halt}
use Rattle.awk_semantics.specs.declared.halt.Halt.TheVariants as halt
use Rattle.awk_semantics.specs.State.{State, Out, Run, ◌>>=◌, go_on}
use Rattle.awk_semantics.specs.Results.{Yields}
use Rattle.awk_semantics.specs.Primitives.{spend_of, spend}
use Rattle.awk_runtime.specs.declared.runtime.Runtime.{Runtime}
use Rattle.awk_runtime.specs.support.Simulation.{OwnRelation, ResultRelation, Changes, Spends, Beside, SameState}
use Rattle.awk_runtime.specs.support.Naming.{Naming}
use Rattle.awk_runtime.proofs.Composition.{own_changes, same_part, frames_stay, staged_stay, callers_stay}

-- nothing changes
pub beside_self : (m : Runtime) → Beside m m
beside_self m = record { names = refl; current = refl; specials = refl; globals = refl; arrays = refl; frames = refl; next = refl; input_seen = refl; inside = refl; status = refl; steps = refl }

pub still : (m : Runtime) → SameState m m
still m = record { beside = beside_self m; streams = refl }

pub beside_holds : {old new : Runtime} {s : State} → Beside old new → OwnRelation old s → OwnRelation new s
beside_holds {old = old} {new = new} {s = s} beside h = record {
  current = h.current ∙ sym beside.current;
  specials = λ x. h.specials x ∙ ap (λ v. value_of v (name_of x)) (sym beside.specials);
  globals = λ i x is. h.globals i x (subst (λ (n : Naming). slice_get n.scalars i ≡ Some x) beside.names is) ∙ ap (λ (v : Vec Value). get_or v.items i Nothing) (sym beside.globals);
  slots = ap (λ (v : Vec Value). length v.items) beside.globals ∙ (h.slots ∙ ap (λ (n : Naming). length n.scalars) (sym beside.names));
  array_names = h.array_names ∙ ap (λ (n : Naming). n.arrays) (sym beside.names);
  function_names = h.function_names ∙ ap (λ (n : Naming). n.functions) (sym beside.names);
  arrays = h.arrays ∙ sym beside.arrays;
  frames = frames_stay beside.frames ∙ h.frames;
  staged = staged_stay beside.frames ∙ h.staged;
  next = h.next ∙ sym beside.next;
  input_seen = h.input_seen ∙ sym beside.input_seen;
  inside = λ n. h.inside n ∙ ap (λ (v : Vec Bool). unwrap_or (slice_get v.items n) false) (sym beside.inside);
  status = h.status ∙ sym beside.status;
  steps = h.steps ∙ sym beside.steps;
}

-- a result that the code's own part determines
pub reads_changes : {A : Type 0} {c : Result A Halt} {old new : Runtime} (run : Run A) (r : State → Result A Halt) → ((s : State) → run s ≡ record { result = r s; state = s; effects = [] }) → SameState old new → ((s : State) → OwnRelation old s → Yields c (r s)) → Changes run old new c
reads_changes run r is same e =
    own_changes run same.streams same.beside.names (callers_stay same.beside.frames) (omega (arith, same.beside.steps)) (λ s h. record { result = r s; state = s; is = is s; part = same_part s; matches = e s h; holds = beside_holds same.beside h })

-- runs that are equal where the state stands for the code's

go_assoc : {A B C : Type 0} (r : Result A Halt) (t : State) (effects : List _) (f : A → Run B) (g : B → Run C) → go_on (go_on r t effects f).result (go_on r t effects f).state (go_on r t effects f).effects g ≡ go_on r t effects (λ a. f a >>= g)
unfolding go_on ◌>>=◌
go_assoc (Ok a) t effects f g = go_more (f a t).result (f a t).state (f a t).effects effects g
  where
    go_more : {B C : Type 0} (r : Result B Halt) (t : State) (es effects : List _) (g : B → Run C) → go_on r t (effects ++ es) g ≡ record { result = (go_on r t es g).result; state = (go_on r t es g).state; effects = effects ++ (go_on r t es g).effects }
    go_more (Ok b) t es effects g = ap (λ l. record { result = (g b t).result; state = (g b t).state; effects = l }) (append_assoc effects es (g b t).effects)
    go_more (Err h) t es effects g = refl
go_assoc (Err h) t effects f g = refl

pub assoc_at : {A B C : Type 0} (m : Run A) (f : A → Run B) (g : B → Run C) (s : State) → ((m >>= f) >>= g) s ≡ (m >>= λ a. f a >>= g) s
unfolding ◌>>=◌
assoc_at m f g s = go_assoc (m s).result (m s).state (m s).effects f g

-- what goes on the same way
go_same : {A B : Type 0} (r : Result A Halt) (t : State) (effects : List _) (f g : A → Run B) → ((a : A) (u : State) → f a u ≡ g a u) → go_on r t effects f ≡ go_on r t effects g
unfolding go_on
go_same (Ok a) t effects f g e = ap (λ (o : Out _). record { result = o.result; state = o.state; effects = effects ++ o.effects }) (e a t)
go_same (Err h) t effects f g e = refl

pub later_same : {A B : Type 0} (m : Run A) (f g : A → Run B) (s : State) → ((a : A) (u : State) → f a u ≡ g a u) → (m >>= f) s ≡ (m >>= g) s
unfolding ◌>>=◌
later_same m f g s e = go_same (m s).result (m s).state (m s).effects f g e

pub same_changes : {A : Type 0} {old new : Runtime} {r : Result A Halt} (x y : Run A) → ((s : State) → OwnRelation old s → x s ≡ y s) → Changes y old new r → Changes x old new r
same_changes {old = old} {new = new} {r = r} x y e d = record {
  steps = d.steps;
  names = d.names;
  streams = d.streams;
  callers = d.callers;
  means = λ k. record {
    grows = (d.means k).grows;
    means = λ oracle s past consistent stands. subst (λ (o : Out _). ResultRelation oracle new k r o past) (sym (e s stands.holds)) ((d.means k).means oracle s past consistent stands);
  };
}

-- a step is spent
pub step_taken : (m : Runtime) (n : ℕ) → m.steps ≡ suc n → Spends m (record m { steps = n }) (Ok tt)
unfolding spend
step_taken m n is = record {
  changes = own_changes spend refl refl refl (omega (arith, is)) (λ s h. record {
    result = Ok tt;
    state = record s { steps = n };
    is = ap (λ i. spend_of i s) (h.steps ∙ is);
    part = record { outside = refl; openings = refl; output_openings = refl; closings = refl; runs = refl; outputs = refl; main = refl; streams = refl };
    matches = refl;
    holds = record {
      current = h.current;
      specials = h.specials;
      globals = h.globals;
      slots = h.slots;
      array_names = h.array_names;
      function_names = h.function_names;
      arrays = h.arrays;
      frames = h.frames;
      staged = h.staged;
      next = h.next;
      input_seen = h.input_seen;
      inside = h.inside;
      status = h.status;
      steps = refl;
    };
  });
  falls = omega (arith, is);
  frames = refl;
}

-- no step is left
pub no_step : (m : Runtime) → m.steps ≡ 0 → Spends m m (Err halt.OutOfSteps)
unfolding spend
no_step m is = record {
  changes = own_changes spend refl refl refl (omega arith) (λ s h. record {
    result = Err halt.OutOfSteps;
    state = s;
    is = ap (λ i. spend_of i s) (h.steps ∙ is);
    part = same_part s;
    matches = refl;
    holds = h;
  });
  falls = tt;
  frames = refl;
}
