-- Parts of a run in a row: what follows may be exchanged for what does the same.
use Rattle.std.proofs.Math.Nat.{le_trans}
use Rattle.std.proofs.Common.{◌≡◌, ℕ, ◌≤◌, Bool, is_some, List, [], ◌∷◌, ◌++◌, map, Option, Result, Ok, Err, refl, sym, ap, ◌∙◌, append_assoc}
use Rattle.awk_kinds.specs.definitions.Kinds.{FormalParameter}
use Rattle.awk_semantics.specs.declared.halt.Halt.{Halt}
use Rattle.awk_semantics.specs.declared.local.Local.{Local}
use Rattle.awk_semantics.specs.declared.local.Local.TheVariants as local
use Rattle.awk_semantics.specs.definitions.State.{Effect, Frame, State, Run, Out, go_on, ◌>>=◌, lift}
use Rattle.awk_semantics.specs.support.Keeps.{FrameScope, Scope, kind_of, parameter_of, frame_scope, scope_of, Keeps}
use Rattle.awk_storage.specs.support.Positions.{newest_locals}
use Rattle.awk_resolve.specs.support.Nodes.{Tables}
use Rattle.awk_resolve.specs.support.States.{is_array_local, IsIn}

-- with more effects before it
abbrev behind_effects : {A : Type 0} → List Effect → Out A → Out A
behind_effects es o = record { result = o.result; state = o.state; effects = es ++ o.effects }

go_behind : {A B : Type 0} (r : Result A Halt) (t : State) (es fs : List Effect) (f : A → Run B) → go_on r t (es ++ fs) f ≡ behind_effects es (go_on r t fs f)
unfolding go_on
go_behind (Ok a) t es fs f = ap (λ (l : List Effect). record { result = (f a t).result; state = (f a t).state; effects = l }) (append_assoc es fs (f a t).effects)
go_behind (Err h) t es fs f = refl

go_assoc : {A B C : Type 0} (r : Result A Halt) (t : State) (es : List Effect) (f : A → Run B) (g : B → Run C) → go_on (go_on r t es f).result (go_on r t es f).state (go_on r t es f).effects g ≡ go_on r t es (λ a. f a >>= g)
unfolding go_on ◌>>=◌
go_assoc (Ok a) t es f g = go_behind (f a t).result (f a t).state es (f a t).effects g
go_assoc (Err h) t es f g = refl

pub assoc_at : {A B C : Type 0} (m : Run A) (f : A → Run B) (g : B → Run C) (s : State) → ((m >>= f) >>= g) s ≡ (m >>= λ a. f a >>= g) s
unfolding ◌>>=◌
assoc_at m f g s = go_assoc (m s).result (m s).state (m s).effects f g

pub go_same : {A B : Type 0} (r : Result A Halt) (t : State) (es : List Effect) (f g : A → Run B) → ((a : A) → r ≡ Ok a → f a t ≡ g a t) → go_on r t es f ≡ go_on r t es g
unfolding go_on
go_same (Ok a) t es f g e = ap (λ (o : Out _). behind_effects es o) (e a refl)
go_same (Err h) t es f g e = refl

pub later_same : {A B : Type 0} (m : Run A) (f g : A → Run B) (s : State) → ((a : A) (u : State) → f a u ≡ g a u) → (m >>= f) s ≡ (m >>= g) s
unfolding ◌>>=◌
later_same m f g s e = go_same (m s).result (m s).state (m s).effects f g (λ a _. e a (m s).state)

pub first_same : {A B : Type 0} (x y : Run A) (f : A → Run B) (s : State) → x s ≡ y s → (x >>= f) s ≡ (y >>= f) s
unfolding ◌>>=◌
first_same {A = A} x y f s e = ap (λ (o : Out A). go_on o.result o.state o.effects f) e

-- a result that is known
pub given : {A B : Type 0} (a : A) (f : A → Run B) (s : State) → (lift (Ok a) >>= f) s ≡ f a s
unfolding ◌>>=◌ go_on lift
given a f s = refl

pub stopped : {A B : Type 0} (h : Halt) (f : A → Run B) (s : State) → (lift (Err h) >>= f) s ≡ lift (Err h) s
unfolding ◌>>=◌ go_on lift
stopped h f s = refl

-- what ends early is alike, whatever it would have gone on with
pub stopped_alike : {A B : Type 0} (h : Halt) (f : A → Run B) (s : State) → lift {A = B} (Err h) s ≡ (lift (Err h) >>= f) s
unfolding ◌>>=◌ go_on lift
stopped_alike h f s = refl

-- what follows is asked of the states alone that a part leads to

pub later_falls : {A B : Type 0} (m : Run A) (f g : A → Run B) (s : State) → ((m s).state.steps ≤ s.steps) → ((a : A) (u : State) → u.steps ≤ s.steps → f a u ≡ g a u) → (m >>= f) s ≡ (m >>= g) s
unfolding ◌>>=◌
later_falls m f g s low e = go_same (m s).result (m s).state (m s).effects f g (λ a _. e a (m s).state low)

pub later_kept : {A B : Type 0} {m : Run A} (f g : A → Run B) (s : State) → Keeps m → ((a : A) (u : State) → u.steps ≤ s.steps → scope_of u ≡ scope_of s → f a u ≡ g a u) → (m >>= f) s ≡ (m >>= g) s
unfolding ◌>>=◌
later_kept {m = m} f g s k e = go_same (m s).result (m s).state (m s).effects f g (λ a r. e a (m s).state (k.falls s) (k.scope s a r))

-- where names stand is told by the scope

abbrev newest_names : List FrameScope → List (List ℕ)
newest_names [] = []
newest_names (frame ∷ frames) = map (λ (l : List ℕ × Option ℕ). l.0) frame.locals

names_seen : (xs : List (List ℕ × Local)) → map (λ (l : List ℕ × Option ℕ). l.0) (map parameter_of xs) ≡ map (λ (l : List ℕ × Local). l.0) xs
names_seen [] = refl
names_seen (x ∷ xs) = ap (λ l. x.0 ∷ l) (names_seen xs)

newest_seen : (frames : List Frame) → newest_names (map frame_scope frames) ≡ map (λ (l : List ℕ × Local). l.0) (newest_locals frames)
newest_seen [] = refl
newest_seen (frame ∷ frames) = names_seen frame.locals

-- and so is which of them stand for arrays

abbrev newest_kinds : List FrameScope → List Bool
newest_kinds [] = []
newest_kinds (frame ∷ frames) = map (λ (l : List ℕ × Option ℕ). is_some l.1) frame.locals

kind_seen : (l : Local) → is_some (kind_of l) ≡ is_array_local l
kind_seen (local.Value v) = refl
kind_seen (local.Array n) = refl

kinds_seen : (xs : List (List ℕ × Local)) → map (λ (l : List ℕ × Option ℕ). is_some l.1) (map parameter_of xs) ≡ map (λ (l : List ℕ × Local). is_array_local l.1) xs
kinds_seen [] = refl
kinds_seen (x ∷ xs) = ap (λ b. b ∷ map (λ (l : List ℕ × Option ℕ). is_some l.1) (map parameter_of xs)) (kind_seen x.1) ∙ ap (λ l. is_array_local x.1 ∷ l) (kinds_seen xs)

newest_kinds_seen : (frames : List Frame) → newest_kinds (map frame_scope frames) ≡ map (λ (l : List ℕ × Local). is_array_local l.1) (newest_locals frames)
newest_kinds_seen [] = refl
newest_kinds_seen (frame ∷ frames) = kinds_seen frame.locals

pub still_in : {tables : Tables} {parameters : List FormalParameter} {n : ℕ} {s t : State} → IsIn tables parameters n s → t.steps ≤ s.steps → scope_of t ≡ scope_of s → IsIn tables parameters n t
still_in {s = s} {t = t} i low e = record {
  low = le_trans low i.low;
  names = sym (newest_seen t.frames) ∙ ap (λ (x : Scope). newest_names x.frames) e ∙ newest_seen s.frames ∙ i.names;
  kinds = sym (newest_kinds_seen t.frames) ∙ ap (λ (x : Scope). newest_kinds x.frames) e ∙ newest_kinds_seen s.frames ∙ i.kinds;
  arrays = ap (λ (x : Scope). x.array_names) e ∙ i.arrays;
}

-- with another bound of the steps
pub bounded_by : {tables : Tables} {parameters : List FormalParameter} {n : ℕ} {s : State} (m : ℕ) → IsIn tables parameters n s → s.steps ≤ m → IsIn tables parameters m s
bounded_by m i low = record { low = low; names = i.names; kinds = i.kinds; arrays = i.arrays }

pub later_in : {tables : Tables} {parameters : List FormalParameter} {A B : Type 0} {m : Run A} (f g : A → Run B) (s : State) (n : ℕ) → Keeps m → IsIn tables parameters n s
    → ((a : A) (u : State) → IsIn tables parameters n u → f a u ≡ g a u) → (m >>= f) s ≡ (m >>= g) s
later_in f g s n k i e = later_kept f g s k (λ a u low scope. e a u (still_in i low scope))
