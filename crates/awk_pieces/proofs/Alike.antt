-- Two runs that treat a record alike: on states that differ in their input, in the steps that are left, and in the
-- variables and the arrays that aren't known to be the same.
use Rattle.std.proofs.Common.{◌≡◌, ℕ, ◌+◌, Bool, true, false, List, [], ◌∷◌, ◌++◌, Option, Result, Ok, Err, refl, ap, ◌∙◌, zero, suc, ◌≤◌, le_trans, codes, bytes_eq, length, ◌||◌}
use Rattle.std.specs.Prelude.{IfOk}
use Rattle.awk_value.specs.declared.value.Value.{Value}
use Rattle.awk_value.specs.Arrays.{Array}
use Rattle.awk_record.specs.definitions.Record.{RecordPair}
use Rattle.awk_kinds.specs.Names.{has_name}
use Rattle.awk_streams.specs.Oracle.{Source, Oracle}
use Rattle.awk_semantics.specs.declared.halt.Halt.{Halt}
use Rattle.awk_semantics.specs.declared.halt.Halt.TheVariants as halt
use Rattle.awk_semantics.specs.definitions.State.{OpensMain, RecordOfMain, Ends, Effect, Printed, Requested, State, Out, Run, go_on, ◌>>=◌}
use Rattle.awk_semantics.specs.definitions.Primitives.{number_in, array_in}

-- the outside of a run, what is left of its main input, and whether there was one
pub record Outer : Type 0 where
  pub outside : Oracle
  pub main : Option Source
  pub seen : Bool

abbrev pub Names : Type 0
Names = List ℕ → Bool

abbrev pub Values : Type 0
Values = List ℕ → Value

-- the state with this outside, record and these variables, where no call is active, no named stream is open, and there are
-- no operands
abbrev pub state_on : State → Outer → RecordPair → Values → ℕ → State
state_on base o c v k = record base { outside = o.outside; main = o.main; current = c; variables = v; frames = []; streams = []; next = 1; status = 0; input_seen = o.seen; steps = k }

-- the state with these arrays, and the array of a name there
abbrev pub with_arrays : State → List Array → State
with_arrays base arrays = record base { arrays = arrays }

abbrev pub array_of : State → List Array → List ℕ → Array
array_of base arrays x = array_in (with_arrays base arrays) (number_in base.array_names x)

-- the names of the variables that no rule changes, of those that have the same values on both sides as a record begins, and of
-- the variables and the arrays of the record
pub record Sorts : Type 0 where
  pub kept : Names
  pub shared : Names
  pub own : Names
  pub arrays : Names
  -- whether anything is shown
  pub shows : Bool

-- variables of the record aren't awk's number of fields, nor among those that no rule changes
pub record SetsApart (sorts : Sorts) : Type 0 where
  pub count : (x : List ℕ) → sorts.own x ≡ true → bytes_eq x (codes "NF") ≡ false
  pub kept : (x z : List ℕ) → sorts.own x ≡ true → sorts.kept z ≡ true → bytes_eq x z ≡ false

-- the variables by which a record is cut into fields and made of them, subscripts are joined, and a line is printed, are known
pub record OwnsSeparators (known : Names) : Type 0 where
  pub fs : known (codes "FS") ≡ true
  pub rs : known (codes "RS") ≡ true
  pub ofs : known (codes "OFS") ≡ true
  pub ors : known (codes "ORS") ≡ true
  pub subsep : known (codes "SUBSEP") ≡ true

-- a name stands for an array in both states or in neither, and both arrays are the same
pub record SameKind (s t : State) (x : List ℕ) : Type 0 where
  pub named : has_name t.array_names x ≡ has_name s.array_names x
  pub same : array_in t (number_in t.array_names x) ≡ array_in s (number_in s.array_names x)

abbrev pub SameKinds : Names → State → State → Type 0
SameKinds names s t = (x : List ℕ) → names x ≡ true → SameKind s t x

pub own_kinds : (names : Names) (s : State) → SameKinds names s s
own_kinds names s x is = record { named = refl; same = refl }

abbrev pub AgreeOn : Names → Values → Values → Type 0
AgreeOn names v w = (x : List ℕ) → names x ≡ true → w x ≡ v x

-- as many arrays as names, and the same names on both sides
pub record Sized (base base' : State) (arrays arrays' : List Array) : Type 0 where
  pub names : base'.array_names ≡ base.array_names
  pub here : length arrays ≡ length base.array_names
  pub there : length arrays' ≡ length base.array_names

-- Both sides agree on the variables and the arrays of the names that are known, on the variables that have the name of an array
-- of the record, and on the arrays that have the name of a variable of it.
pub record Agrees (sorts : Sorts) (known : Names) (base base' : State) (arrays arrays' : List Array) (v w : Values) : Type 0 where
  pub values : AgreeOn known v w
  pub unset : AgreeOn sorts.arrays v w
  pub kinds : SameKinds (λ x. known x || sorts.own x) (with_arrays base arrays) (with_arrays base' arrays')
  pub sized : (x : List ℕ) → sorts.arrays x ≡ true → Sized base base' arrays arrays'

-- no arrays change but those of the record
pub record Moves (sorts : Sorts) (base : State) (arrays moved : List Array) : Type 0 where
  pub fixed : ((x : List ℕ) → sorts.arrays x ≡ false) → moved ≡ arrays
  pub keeps : (x : List ℕ) → sorts.arrays x ≡ false → array_of base moved x ≡ array_of base arrays x
  pub size : length moved ≡ length arrays

pub unmoved_arrays : (sorts : Sorts) (base : State) (arrays : List Array) → Moves sorts base arrays arrays
unmoved_arrays sorts base arrays = record { fixed = λ none. refl; keeps = λ x e. refl; size = refl }

moves_on : (sorts : Sorts) (base : State) (arrays between moved : List Array) → Moves sorts base arrays between → Moves sorts base between moved → Moves sorts base arrays moved
moves_on sorts base arrays between moved a b = record { fixed = λ none. b.fixed none ∙ a.fixed none; keeps = λ x e. b.keeps x e ∙ a.keeps x e; size = b.size ∙ a.size }

-- what agrees with both sides in turn
pub agrees_on : (base base' : State) (sorts : Sorts) (known : Names) (xs ys zs : List Array) (v w u : Values) → Agrees sorts known base base' xs ys v w → Agrees sorts known base' base' ys zs w u → Agrees sorts known base base' xs zs v u
agrees_on base base' sorts known xs ys zs v w u a b = record {
  values = λ x is. b.values x is ∙ a.values x is;
  unset = λ x is. b.unset x is ∙ a.unset x is;
  kinds = λ x is. record { named = (b.kinds x is).named ∙ (a.kinds x is).named; same = (b.kinds x is).same ∙ (a.kinds x is).same };
  sized = λ x is. let one = a.sized x is in record { names = one.names; here = one.here; there = (b.sized x is).there ∙ ap (λ (names : List (List ℕ)). length names) one.names };
}

-- prints to standard output alone, and readings of the main input
abbrev pub IsPlain : Effect → Type 0
IsPlain (Printed zero bytes) = Unit {0}
IsPlain (Printed (suc n) bytes) = ⊥
IsPlain (Requested (OpensMain kind name)) = Unit {0}
IsPlain (Requested (RecordOfMain separator left)) = Unit {0}
IsPlain (Requested Ends) = Unit {0}
IsPlain (Requested what) = ⊥

abbrev pub ArePlain : List Effect → Type 0
ArePlain [] = Unit {0}
ArePlain (x ∷ xs) = IsPlain x × ArePlain xs

pub plain_append : (xs ys : List Effect) → ArePlain xs → ArePlain ys → ArePlain (xs ++ ys)
plain_append [] ys a b = b
plain_append (x ∷ xs) ys a b = (a.0, plain_append xs ys a.1 b)

-- plain effects, or none
abbrev pub AreShown : Bool → List Effect → Type 0
AreShown true effects = ArePlain effects
AreShown false effects = effects ≡ []

pub shown_append : (shows : Bool) (xs ys : List Effect) → AreShown shows xs → AreShown shows ys → AreShown shows (xs ++ ys)
shown_append true xs ys a b = plain_append xs ys a b
shown_append false xs ys a b = rw (a, b) refl

pub shown_none : (shows : Bool) → AreShown shows []
shown_none true = tt
shown_none false = refl

abbrev pub behind : {A : Type 0} → List Effect → Out A → Out A
behind effects x = record { result = x.result; state = x.state; effects = effects ++ x.effects }

-- both give the same result, show the same, and leave states that are alike on the known names; those that are kept
-- have their values still
pub record Same {A : Type 0} (sorts : Sorts) (known : Names) (base base' : State) (o p : Outer) (arrays arrays' : List Array) (v w : Values) (k d : ℕ) (x y : Out A) : Type 0 where
  pub pair : RecordPair
  pub left : ℕ
  pub arrays_here : List Array
  pub arrays_there : List Array
  pub here : Values
  pub there : Values
  pub agrees : Agrees sorts known base base' arrays_here arrays_there here there
  pub keeps : AgreeOn sorts.kept v here
  pub keeps_there : AgreeOn sorts.kept w there
  pub moves : Moves sorts base arrays arrays_here
  pub moves_there : Moves sorts base' arrays' arrays_there
  pub falls : left ≤ k
  pub is_here : x.state ≡ state_on (with_arrays base arrays_here) o pair here left
  pub is_there : y ≡ record { result = x.result; state = state_on (with_arrays base' arrays_there) p pair there (left + d); effects = x.effects }
  pub plain : AreShown sorts.shows x.effects

abbrev pub Covers : {A : Type 0} → (sorts : Sorts) (known : Names) → (base base' : State) → (o p : Outer) → (arrays arrays' : List Array) → (v w : Values) → (k d : ℕ) → Result A Halt → Out A → Out A → Type 0
Covers sorts known base base' o p arrays arrays' v w k d (Ok a) x y = Same sorts known base base' o p arrays arrays' v w k d x y
Covers sorts known base base' o p arrays arrays' v w k d (Err (halt.Fault f)) x y = Unit {0}
Covers sorts known base base' o p arrays arrays' v w k d (Err halt.OutOfSteps) x y = Unit {0}
Covers sorts known base base' o p arrays arrays' v w k d (Err halt.Next) x y = Same sorts sorts.shared base base' o p arrays arrays' v w k d x y
Covers sorts known base base' o p arrays arrays' v w k d (Err halt.Exit) x y = ⊥

-- from states that are alike on the names known before, to such on those known behind
pub record Alike {A : Type 0} (sorts : Sorts) (before known : Names) (base base' : State) (m n : Run A) : Type 0 where
  pub covers : (o p : Outer) (c : RecordPair) (arrays arrays' : List Array) (v w : Values) (k d : ℕ) → Agrees sorts before base base' arrays arrays' v w →
      Covers sorts known base base' o p arrays arrays' v w k d (m (state_on (with_arrays base arrays) o c v k)).result (m (state_on (with_arrays base arrays) o c v k)) (n (state_on (with_arrays base' arrays') p c w (k + d)))

abbrev pub IsWithin : Names → Names → Type 0
IsWithin kept known = (x : List ℕ) → kept x ≡ true → known x ≡ true

or_within : (a b c : Bool) → (a ≡ true → b ≡ true) → (a || c) ≡ true → (b || c) ≡ true
or_within true true c f e = refl
or_within true false c f e = absurd (let bad : false ≡ true = f refl in cc)
or_within false true c f e = refl
or_within false false c f e = e

pub agrees_within : {sorts : Sorts} {fewer known : Names} {base base' : State} {arrays arrays' : List Array} {v w : Values} → IsWithin fewer known → Agrees sorts known base base' arrays arrays' v w → Agrees sorts fewer base base' arrays arrays' v w
agrees_within {sorts = sorts} {fewer = fewer} {known = known} within a = record {
  values = λ x e. a.values x (within x e);
  unset = a.unset;
  kinds = λ x e. a.kinds x (or_within (fewer x) (known x) (sorts.own x) (within x) e);
  sized = a.sized;
}

pub same_within : {A : Type 0} {sorts : Sorts} {fewer known : Names} {base base' : State} {o p : Outer} {arrays arrays' : List Array} {v w : Values} {k d : ℕ} {x y : Out A} → IsWithin fewer known → Same sorts known base base' o p arrays arrays' v w k d x y → Same sorts fewer base base' o p arrays arrays' v w k d x y
same_within within c = record {
  pair = c.pair;
  left = c.left;
  arrays_here = c.arrays_here;
  arrays_there = c.arrays_there;
  here = c.here;
  there = c.there;
  agrees = agrees_within within c.agrees;
  keeps = c.keeps;
  keeps_there = c.keeps_there;
  moves = c.moves;
  moves_there = c.moves_there;
  falls = c.falls;
  is_here = c.is_here;
  is_there = c.is_there;
  plain = c.plain;
}

covers_within : {A : Type 0} (sorts : Sorts) (fewer known : Names) (base base' : State) (o p : Outer) (arrays arrays' : List Array) (v w : Values) (k d : ℕ) (r : Result A Halt) (x y : Out A) → IsWithin fewer known → Covers sorts known base base' o p arrays arrays' v w k d r x y → Covers sorts fewer base base' o p arrays arrays' v w k d r x y
covers_within sorts fewer known base base' o p arrays arrays' v w k d (Ok a) x y within c = same_within within c
covers_within sorts fewer known base base' o p arrays arrays' v w k d (Err (halt.Fault f)) x y within c = tt
covers_within sorts fewer known base base' o p arrays arrays' v w k d (Err halt.OutOfSteps) x y within c = tt
covers_within sorts fewer known base base' o p arrays arrays' v w k d (Err halt.Next) x y within c = c
covers_within sorts fewer known base base' o p arrays arrays' v w k d (Err halt.Exit) x y within c = absurd c

-- fewer names are known behind it
pub alike_within : {A : Type 0} {sorts : Sorts} {before fewer known : Names} {base base' : State} {m n : Run A} → IsWithin fewer known → Alike sorts before known base base' m n → Alike sorts before fewer base base' m n
alike_within {sorts = sorts} {fewer = fewer} {known = known} {base = base} {base' = base'} {m = m} {n = n} within h = record {
  covers = λ o p c arrays arrays' v w k d agrees. covers_within sorts fewer known base base' o p arrays arrays' v w k d (m (state_on (with_arrays base arrays) o c v k)).result (m (state_on (with_arrays base arrays) o c v k)) (n (state_on (with_arrays base' arrays') p c w (k + d))) within (h.covers o p c arrays arrays' v w k d agrees);
}

pub same_behind : {A : Type 0} (sorts : Sorts) (known : Names) (base base' : State) (o p : Outer) (arrays arrays' xs ys : List Array) (v w u z : Values) (k l d : ℕ) (effects : List Effect) (x y : Out A) → AreShown sorts.shows effects → AgreeOn sorts.kept v u → AgreeOn sorts.kept w z → Moves sorts base arrays xs → Moves sorts base' arrays' ys → l ≤ k →
    Same sorts known base base' o p xs ys u z l d x y → Same sorts known base base' o p arrays arrays' v w k d (behind effects x) (behind effects y)
same_behind sorts known base base' o p arrays arrays' xs ys v w u z k l d effects x y plain keeps keeps_there moves moves_there falls c = record {
  pair = c.pair;
  left = c.left;
  arrays_here = c.arrays_here;
  arrays_there = c.arrays_there;
  here = c.here;
  there = c.there;
  agrees = c.agrees;
  keeps = λ x e. c.keeps x e ∙ keeps x e;
  keeps_there = λ x e. c.keeps_there x e ∙ keeps_there x e;
  moves = moves_on sorts base arrays xs c.arrays_here moves c.moves;
  moves_there = moves_on sorts base' arrays' ys c.arrays_there moves_there c.moves_there;
  falls = le_trans c.falls falls;
  is_here = c.is_here;
  is_there = ap (behind effects) c.is_there;
  plain = shown_append sorts.shows effects x.effects plain c.plain;
}

pub covers_behind : {A : Type 0} (sorts : Sorts) (known : Names) (base base' : State) (o p : Outer) (arrays arrays' xs ys : List Array) (v w u z : Values) (k l d : ℕ) (effects : List Effect) (r : Result A Halt) (x y : Out A) → AreShown sorts.shows effects → AgreeOn sorts.kept v u → AgreeOn sorts.kept w z → Moves sorts base arrays xs → Moves sorts base' arrays' ys → l ≤ k →
    Covers sorts known base base' o p xs ys u z l d r x y → Covers sorts known base base' o p arrays arrays' v w k d r (behind effects x) (behind effects y)
covers_behind sorts known base base' o p arrays arrays' xs ys v w u z k l d effects (Ok a) x y plain keeps keeps_there moves moves_there falls c = same_behind sorts known base base' o p arrays arrays' xs ys v w u z k l d effects x y plain keeps keeps_there moves moves_there falls c
covers_behind sorts known base base' o p arrays arrays' xs ys v w u z k l d effects (Err (halt.Fault f)) x y plain keeps keeps_there moves moves_there falls c = tt
covers_behind sorts known base base' o p arrays arrays' xs ys v w u z k l d effects (Err halt.OutOfSteps) x y plain keeps keeps_there moves moves_there falls c = tt
covers_behind sorts known base base' o p arrays arrays' xs ys v w u z k l d effects (Err halt.Next) x y plain keeps keeps_there moves moves_there falls c = same_behind sorts sorts.shared base base' o p arrays arrays' xs ys v w u z k l d effects x y plain keeps keeps_there moves moves_there falls c
covers_behind sorts known base base' o p arrays arrays' xs ys v w u z k l d effects (Err halt.Exit) x y plain keeps keeps_there moves moves_there falls c = absurd c

-- the same, and this holds of each result
pub record AlikeWith {A : Type 0} (P : A → Type 0) (sorts : Sorts) (before known : Names) (base base' : State) (m n : Run A) : Type 0 where
  pub alike : Alike sorts before known base base' m n
  pub holds : (s : State) → IfOk (m s).result P

any_result : {A : Type 0} (r : Result A Halt) → IfOk r (λ (a : A). Unit {0})
any_result (Ok a) = tt
any_result (Err h) = tt

pub with_any : {A : Type 0} {sorts : Sorts} {before known : Names} {base base' : State} {m n : Run A} → Alike sorts before known base base' m n → AlikeWith (λ (a : A). Unit {0}) sorts before known base base' m n
with_any {m = m} x = record { alike = x; holds = λ s. any_result (m s).result }

module _ {A B : Type 0} (P : A → Type 0) where
  go_covers : (sorts : Sorts) (known after : Names) (base base' : State) (f g : A → Run B) → ((a : A) → P a → Alike sorts known after base base' (f a) (g a)) → (o p : Outer) (arrays arrays' : List Array) (v w : Values) (k d : ℕ) (r : Result A Halt) (t : State) (effects : List Effect) (y : Out A) → IfOk r P →
      Covers sorts known base base' o p arrays arrays' v w k d r (record { result = r; state = t; effects = effects }) y → Covers sorts after base base' o p arrays arrays' v w k d (go_on r t effects f).result (go_on r t effects f) (go_on y.result y.state y.effects g)
  unfolding go_on
  go_covers sorts known after base base' f g h o p arrays arrays' v w k d (Ok a) t effects y holds c =
      let here : State = state_on (with_arrays base c.arrays_here) o c.pair c.here c.left in
      rw (c.is_here, c.is_there) (covers_behind sorts after base base' o p arrays arrays' c.arrays_here c.arrays_there v w c.here c.there k c.left d effects (f a here).result (f a here) (g a (state_on (with_arrays base' c.arrays_there) p c.pair c.there (c.left + d))) c.plain c.keeps c.keeps_there c.moves c.moves_there c.falls ((h a holds).covers o p c.pair c.arrays_here c.arrays_there c.here c.there c.left d c.agrees))
  go_covers sorts known after base base' f g h o p arrays arrays' v w k d (Err (halt.Fault n)) t effects y holds c = tt
  go_covers sorts known after base base' f g h o p arrays arrays' v w k d (Err halt.OutOfSteps) t effects y holds c = tt
  go_covers sorts known after base base' f g h o p arrays arrays' v w k d (Err halt.Next) t effects y holds c = rw c.is_there (record {
    pair = c.pair;
    left = c.left;
    arrays_here = c.arrays_here;
    arrays_there = c.arrays_there;
    here = c.here;
    there = c.there;
    agrees = c.agrees;
    keeps = c.keeps;
    keeps_there = c.keeps_there;
    moves = c.moves;
    moves_there = c.moves_there;
    falls = c.falls;
    is_here = c.is_here;
    is_there = refl;
    plain = c.plain;
  })
  go_covers sorts known after base base' f g h o p arrays arrays' v w k d (Err halt.Exit) t effects y holds c = absurd c

  go_holds : (Q : B → Type 0) (f : A → Run B) → ((a : A) → P a → (s : State) → IfOk (f a s).result Q) → (r : Result A Halt) (t : State) (effects : List Effect) → IfOk r P → IfOk (go_on r t effects f).result Q
  unfolding go_on
  go_holds Q f h (Ok a) t effects holds = h a holds t
  go_holds Q f h (Err reason) t effects holds = tt

pub then_where : {A B : Type 0} {P : A → Type 0} {sorts : Sorts} {before known after : Names} {base base' : State} {m n : Run A} (f g : A → Run B) → AlikeWith P sorts before known base base' m n → ((a : A) → P a → Alike sorts known after base base' (f a) (g a)) → Alike sorts before after base base' (m >>= f) (n >>= g)
unfolding ◌>>=◌
then_where {P = P} {sorts = sorts} {before = before} {known = known} {after = after} {base = base} {base' = base'} {m = m} {n = n} f g x h = record {
  covers = λ o p c arrays arrays' v w k d agrees.
      let here : State = state_on (with_arrays base arrays) o c v k in
      go_covers P sorts known after base base' f g h o p arrays arrays' v w k d (m here).result (m here).state (m here).effects (n (state_on (with_arrays base' arrays') p c w (k + d))) (x.holds here) (x.alike.covers o p c arrays arrays' v w k d agrees);
}

pub then_alike : {A B : Type 0} {sorts : Sorts} {before known after : Names} {base base' : State} {m n : Run A} (f g : A → Run B) → Alike sorts before known base base' m n → ((a : A) → Alike sorts known after base base' (f a) (g a)) → Alike sorts before after base base' (m >>= f) (n >>= g)
then_alike f g x h = then_where f g (with_any x) (λ a _. h a)

pub then_with : {A B : Type 0} {P : A → Type 0} {Q : B → Type 0} {sorts : Sorts} {before known after : Names} {base base' : State} {m n : Run A} (f g : A → Run B) → AlikeWith P sorts before known base base' m n → ((a : A) → P a → AlikeWith Q sorts known after base base' (f a) (g a)) → AlikeWith Q sorts before after base base' (m >>= f) (n >>= g)
unfolding ◌>>=◌
then_with {P = P} {Q = Q} {m = m} f g x h = record {
  alike = then_where f g x (λ a p. (h a p).alike);
  holds = λ s. go_holds P Q f (λ a p. (h a p).holds) (m s).result (m s).state (m s).effects (x.holds s);
}
