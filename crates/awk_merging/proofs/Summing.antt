-- Two runs that sum up: one from no sums, and one from a state that is ahead. They do alike, or a sum leaves the range in the
-- second one.
use Rattle.std.proofs.Common.{◌≡◌, ◌⊎◌, inl, inr, ℕ, suc, zero, ◌+◌, ◌≤◌, Bool, true, false, not, ◌&&◌, ◌||◌, List, [], ◌++◌, length, Option, Some, None, Result, Ok, Err, refl, sym, ap, ap₂, ◌∙◌, le_refl, le_trans, arith, append_assoc, subst, codes, bytes_eq}
use Rattle.std.proofs.lemmas.Bool.{or_cases}
use Rattle.awk_value.specs.declared.value.Value.{Value}
use Rattle.awk_value.specs.Arrays.{Array}
use Rattle.awk_value.specs.Values.{truth_of}
use Rattle.awk_record.specs.Record.{RecordPair}
use Rattle.awk_semantics.specs.declared.halt.Halt.{Halt}
use Rattle.awk_semantics.specs.declared.halt.Halt.TheVariants as halt
use Rattle.awk_semantics.specs.declared.fault.Fault.TheVariants as fault
use Rattle.awk_semantics.specs.definitions.State.{Effect, State, Out, Run, go_on, ◌>>=◌, lift, ret}
use Rattle.awk_semantics.specs.definitions.Primitives.{spend, spend_of}
use Rattle.awk_semantics.specs.declared.flow.Flow.{Flow}
use Rattle.awk_semantics.specs.definitions.Semantics.{tested, choose, turn, unless_ended, repeat_within, repeat}
use Rattle.awk_pieces.specs.definitions.Pieceable.{no_own, tells_apart, is_setting_of_awk, also}
use Rattle.awk_pieces.proofs.Alike.{Outer, Names, Sorts, Values, AgreeOn, IsWithin, SameKind, SameKinds, SetsApart}
use Rattle.awk_pieces.proofs.Alike.{state_on as plain_state, Same as PlainSame, Covers as PlainCovers, Alike as PlainAlike}
use Rattle.awk_pieces.proofs.LoopsAlike.{unless_alike, turn_alike, repeat_within_alike}
use Rattle.awk_pieces.proofs.PlacesAlike.{within_also}
use Rattle.awk_pieces.proofs.ReadsAlike.{left_true, right_true}
use Rattle.awk_merging.specs.definitions.Sums.{Sum, Alone}
use Rattle.awk_merging.specs.definitions.LawOfStates.{Tables}
use Rattle.awk_merging.specs.definitions.Mergeable.{is_sum, is_derived, knows}
use Rattle.awk_merging.specs.definitions.LawOfRules.{ahead, IsAhead, KeepsOthers}
use Rattle.awk_merging.proofs.Gathering.{same_key}
use Rattle.awk_merging.proofs.ProgramSums.{no_left}
use Rattle.awk_merging.proofs.OwnVariables.{AreOwn, not_true, not_own, sum_not_own, own_other, own_no_sum, known_other, known_not_own}
use Rattle.awk_merging.proofs.SecondRun.{kept_held}
use Rattle.awk_merging.proofs.Sound.{no_array_sum}

-- what a rule may read is no sum, and doesn't tell pieces apart

pub known_no_sum : (a b c : Bool) → not (a || (b || c)) ≡ true → c ≡ false
known_no_sum true b c e = cc
known_no_sum false true c e = cc
known_no_sum false false true e = cc
known_no_sum false false false e = refl

pub known_here : (a b c : Bool) → not (a || (b || c)) ≡ true → a ≡ false
known_here true b c e = cc
known_here false b c e = refl

-- runs one behind the other

behind_both : {A B : Type 0} (r : Result A Halt) (s : State) (es fs : List Effect) (f : A → Run B) → go_on r s (es ++ fs) f ≡ record { result = (go_on r s fs f).result; state = (go_on r s fs f).state; effects = es ++ (go_on r s fs f).effects }
unfolding go_on
behind_both (Ok a) s es fs f = ap (λ (l : List Effect). record { result = (f a s).result; state = (f a s).state; effects = l }) (append_assoc es fs (f a s).effects)
behind_both (Err h) s es fs f = refl

goes_apart : {A B C : Type 0} (r : Result A Halt) (s : State) (es : List Effect) (f : A → Run B) (g : B → Run C) → go_on (go_on r s es f).result (go_on r s es f).state (go_on r s es f).effects g ≡ go_on r s es (λ a. f a >>= g)
unfolding go_on ◌>>=◌
goes_apart (Ok a) s es f g = behind_both (f a s).result (f a s).state es (f a s).effects g
goes_apart (Err h) s es f g = refl

pub apart : {A B C : Type 0} (m : Run A) (f : A → Run B) (g : B → Run C) → ((m >>= f) >>= g) ≡ (m >>= λ a. f a >>= g)
unfolding ◌>>=◌
apart m f g = λ i s. goes_apart (m s).result (m s).state (m s).effects f g i

pub ret_first : {A B : Type 0} (a : A) (f : A → Run B) → (ret a >>= f) ≡ f a
unfolding ◌>>=◌ lift go_on
ret_first a f = refl

-- where a sum leaves the range
abbrev pub Lost : {A : Type 0} → Out A → Type 0
Lost y = y.result ≡ Err (halt.Fault fault.NumberOutOfRange)

pub go_lost : {A B : Type 0} (y : Out A) (g : A → Run B) → Lost y → Lost (go_on y.result y.state y.effects g)
unfolding go_on
go_lost y g lost = rw lost refl

-- rules change no variables but sums and those of the record
abbrev pub reading_sorts : Names → List Sum → Sorts
reading_sorts own xs = record { kept = λ x. not (own x); shared = knows own xs; own = own; arrays = no_own; shows = false }

module _ (own : Names) (xs : List Sum) (owned : AreOwn own xs) where
  pub reading_apart : SetsApart (reading_sorts own xs)
  reading_apart = record {
    count = λ x is. own_other own xs owned x (codes "NF") is (not_own own xs owned (codes "NF") refl);
    kept = λ x z is kept. own_other own xs owned x z is (not_true (own z) kept);
  }

  -- what is known in a rule: all that it may read as it begins; no sum, and nothing that tells pieces apart
  pub record Knows (known : Names) : Type 0 where
    pub within : IsWithin (knows own xs) known
    pub plain : (x : List ℕ) → known x ≡ true → tells_apart x ≡ false
    pub no_sum : (x : List ℕ) → known x ≡ true → is_sum xs x ≡ false

  pub knows_first : Knows (knows own xs)
  knows_first = record {
    within = λ x e. e;
    plain = λ x e. known_here (tells_apart x) (is_derived x) (is_sum xs x) (known_other own xs x e);
    no_sum = λ x e. known_no_sum (tells_apart x) (is_derived x) (is_sum xs x) (known_other own xs x e);
  }

  -- and variables of the record that were set
  own_plain : (x : List ℕ) → own x ≡ true → tells_apart x ≡ false
  own_plain x is = no_left (tells_apart x) (is_setting_of_awk x) (owned.awk x is)

  also_known : (known : Names) (x : List ℕ) (P : List ℕ → Type 0) → ((z : List ℕ) → known z ≡ true → P z) → (own x ≡ true → P x) → (z : List ℕ) → also own (Some x) known z ≡ true → P z
  also_known known x P holds set z is = elim (or_cases (own x && bytes_eq x z) (known z) is) [
    | inl here ↦ subst P (same_key x z (right_true (own x) _ here)) (set (left_true (own x) _ here))
    | inr there ↦ holds z there
  ]

  pub knows_also : (known : Names) (name : Option (List ℕ)) → Knows known → Knows (also own name known)
  knows_also known None knew = knew
  knows_also known (Some x) knew = record {
    within = λ z e. within_also own known (Some x) z (knew.within z e);
    plain = also_known known x (λ z. tells_apart z ≡ false) knew.plain (own_plain x);
    no_sum = also_known known x (λ z. is_sum xs z ≡ false) knew.no_sum (own_no_sum own xs owned.sums x);
  }

module _ (own : Names) (xs : List Sum) (owned : AreOwn own xs) (before : Tables) (base base' : State) (o p : Outer) where
  abbrev pub at : RecordPair → List Array → Values → ℕ → State
  at c arrays v k = plain_state (record base { arrays = arrays }) o c v k

  abbrev pub at' : RecordPair → List Array → Values → ℕ → State
  at' c arrays v k = plain_state (record base' { arrays = arrays }) p c v k

  -- the second state is ahead still, both have the same values of what is known, and nothing was shown
  pub record Same {A : Type 0} (known : Names) (v w : Values) (k d : ℕ) (x y : Out A) : Type 0 where
    pub pair : RecordPair
    pub arrays : List Array
    pub arrays' : List Array
    pub here : Values
    pub there : Values
    pub left : ℕ
    pub are_ahead : IsAhead own xs before (at pair arrays here left) (at' pair arrays' there (left + d))
    pub agrees : AgreeOn known here there
    pub keeps : KeepsOthers own xs v here
    pub keeps' : KeepsOthers own xs w there
    pub falls : left ≤ k
    pub is_here : x.state ≡ at pair arrays here left
    pub silent : x.effects ≡ []
    pub is_there : y ≡ record { result = x.result; state = at' pair arrays' there (left + d); effects = [] }

  abbrev pub Covers : {A : Type 0} → (known : Names) → (v w : Values) → (k d : ℕ) → Result A Halt → Out A → Out A → Type 0
  Covers known v w k d (Ok a) x y = Same known v w k d x y
  Covers known v w k d (Err (halt.Fault f)) x y = Unit {0}
  Covers known v w k d (Err halt.OutOfSteps) x y = Unit {0}
  Covers known v w k d (Err halt.Next) x y = Same (knows own xs) v w k d x y
  Covers known v w k d (Err halt.Exit) x y = ⊥

  abbrev pub Told : {A : Type 0} → (known : Names) → (v w : Values) → (k d : ℕ) → Result A Halt → Out A → Out A → Type 0
  Told known v w k d r x y = Covers known v w k d r x y ⊎ Lost y

  -- from states that have the same values of what is known, to such with what is known then
  pub record Alike {A : Type 0} (known after : Names) (m n : Run A) : Type 0 where
    pub told : (c : RecordPair) (arrays arrays' : List Array) (v w : Values) (k d : ℕ) → IsAhead own xs before (at c arrays v k) (at' c arrays' w (k + d)) → AgreeOn known v w →
        Told after v w k d (m (at c arrays v k)).result (m (at c arrays v k)) (n (at' c arrays' w (k + d)))

  pub same_within : {A : Type 0} (fewer known : Names) (v w : Values) (k d : ℕ) (x y : Out A) → IsWithin fewer known → Same known v w k d x y → Same fewer v w k d x y
  same_within fewer known v w k d x y within c = record {
    pair = c.pair;
    arrays = c.arrays;
    arrays' = c.arrays';
    here = c.here;
    there = c.there;
    left = c.left;
    are_ahead = c.are_ahead;
    agrees = λ z e. c.agrees z (within z e);
    keeps = c.keeps;
    keeps' = c.keeps';
    falls = c.falls;
    is_here = c.is_here;
    silent = c.silent;
    is_there = c.is_there;
  }

  told_within : {A : Type 0} (fewer known : Names) (v w : Values) (k d : ℕ) (r : Result A Halt) (x y : Out A) → IsWithin fewer known → Told known v w k d r x y → Told fewer v w k d r x y
  told_within fewer known v w k d (Ok a) x y within (inl c) = inl (same_within fewer known v w k d x y within c)
  told_within fewer known v w k d (Err (halt.Fault f)) x y within (inl c) = inl tt
  told_within fewer known v w k d (Err halt.OutOfSteps) x y within (inl c) = inl tt
  told_within fewer known v w k d (Err halt.Next) x y within (inl c) = inl c
  told_within fewer known v w k d (Err halt.Exit) x y within (inl c) = absurd c
  told_within fewer known v w k d r x y within (inr lost) = inr lost

  -- fewer names are known behind it
  pub alike_within : {A : Type 0} {known after fewer : Names} {m n : Run A} → IsWithin fewer after → Alike known after m n → Alike known fewer m n
  alike_within {after = after} {fewer = fewer} {m = m} {n = n} within h = record {
    told = λ c arrays arrays' v w k d are agrees. told_within fewer after v w k d (m (at c arrays v k)).result (m (at c arrays v k)) (n (at' c arrays' w (k + d))) within (h.told c arrays arrays' v w k d are agrees);
  }

  same_behind : {A : Type 0} (known : Names) (v w u z : Values) (k l d : ℕ) (x y : Out A) → KeepsOthers own xs v u → KeepsOthers own xs w z → l ≤ k → Same known u z l d x y → Same known v w k d x y
  same_behind known v w u z k l d x y keeps keeps' falls c = record {
    pair = c.pair;
    arrays = c.arrays;
    arrays' = c.arrays';
    here = c.here;
    there = c.there;
    left = c.left;
    are_ahead = c.are_ahead;
    agrees = c.agrees;
    keeps = λ x e f. c.keeps x e f ∙ keeps x e f;
    keeps' = λ x e f. c.keeps' x e f ∙ keeps' x e f;
    falls = le_trans c.falls falls;
    is_here = c.is_here;
    silent = c.silent;
    is_there = c.is_there;
  }

  covers_behind : {A : Type 0} (known : Names) (v w u z : Values) (k l d : ℕ) (r : Result A Halt) (x y : Out A) → KeepsOthers own xs v u → KeepsOthers own xs w z → l ≤ k → Covers known u z l d r x y → Covers known v w k d r x y
  covers_behind known v w u z k l d (Ok a) x y keeps keeps' falls c = same_behind known v w u z k l d x y keeps keeps' falls c
  covers_behind known v w u z k l d (Err (halt.Fault f)) x y keeps keeps' falls c = tt
  covers_behind known v w u z k l d (Err halt.OutOfSteps) x y keeps keeps' falls c = tt
  covers_behind known v w u z k l d (Err halt.Next) x y keeps keeps' falls c = same_behind (knows own xs) v w u z k l d x y keeps keeps' falls c
  covers_behind known v w u z k l d (Err halt.Exit) x y keeps keeps' falls c = absurd c

  told_behind : {A : Type 0} (known : Names) (v w u z : Values) (k l d : ℕ) (r : Result A Halt) (x y : Out A) → KeepsOthers own xs v u → KeepsOthers own xs w z → l ≤ k → Told known u z l d r x y → Told known v w k d r x y
  told_behind known v w u z k l d r x y keeps keeps' falls (inl c) = inl (covers_behind known v w u z k l d r x y keeps keeps' falls c)
  told_behind known v w u z k l d r x y keeps keeps' falls (inr lost) = inr lost

  go_told : {A B : Type 0} (known after : Names) (f g : A → Run B) → ((a : A) → Alike known after (f a) (g a)) → (v w : Values) (k d : ℕ) (r : Result A Halt) (t : State) (effects : List Effect) (y : Out A) → Covers known v w k d r (record { result = r; state = t; effects = effects }) y →
      Told after v w k d (go_on r t effects f).result (go_on r t effects f) (go_on y.result y.state y.effects g)
  unfolding go_on
  go_told known after f g h v w k d (Ok a) t effects y c =
      rw (c.is_here, c.silent, c.is_there) (told_behind after v w c.here c.there k c.left d (f a (at c.pair c.arrays c.here c.left)).result (f a (at c.pair c.arrays c.here c.left)) (g a (at' c.pair c.arrays' c.there (c.left + d))) c.keeps c.keeps' c.falls ((h a).told c.pair c.arrays c.arrays' c.here c.there c.left d c.are_ahead c.agrees))
  go_told known after f g h v w k d (Err (halt.Fault n)) t effects y c = inl tt
  go_told known after f g h v w k d (Err halt.OutOfSteps) t effects y c = inl tt
  go_told known after f g h v w k d (Err halt.Next) t effects y c = rw c.is_there (inl (record {
    pair = c.pair;
    arrays = c.arrays;
    arrays' = c.arrays';
    here = c.here;
    there = c.there;
    left = c.left;
    are_ahead = c.are_ahead;
    agrees = c.agrees;
    keeps = c.keeps;
    keeps' = c.keeps';
    falls = c.falls;
    is_here = c.is_here;
    silent = c.silent;
    is_there = refl;
  }))
  go_told known after f g h v w k d (Err halt.Exit) t effects y c = absurd c

  either_told : {A B : Type 0} (known after : Names) (f g : A → Run B) → ((a : A) → Alike known after (f a) (g a)) → (v w : Values) (k d : ℕ) (x y : Out A) → Told known v w k d x.result x y →
      Told after v w k d (go_on x.result x.state x.effects f).result (go_on x.result x.state x.effects f) (go_on y.result y.state y.effects g)
  either_told known after f g h v w k d x y (inl c) = go_told known after f g h v w k d x.result x.state x.effects y c
  either_told known after f g h v w k d x y (inr lost) = inr (go_lost y g lost)

  pub then_alike : {A B : Type 0} {known between after : Names} {m n : Run A} (f g : A → Run B) → Alike known between m n → ((a : A) → Alike between after (f a) (g a)) → Alike known after (m >>= f) (n >>= g)
  unfolding ◌>>=◌
  then_alike {between = between} {after = after} {m = m} {n = n} f g x h = record { told = λ c arrays arrays' v w k d are agrees. either_told between after f g h v w k d (m (at c arrays v k)) (n (at' c arrays' w (k + d))) (x.told c arrays arrays' v w k d are agrees) }

  -- what is had without a change
  unmoved : {A : Type 0} (known : Names) (r : Result A Halt) (c : RecordPair) (arrays arrays' : List Array) (v w : Values) (k d : ℕ) → IsAhead own xs before (at c arrays v k) (at' c arrays' w (k + d)) → AgreeOn known v w →
      Same known v w k d (record { result = r; state = at c arrays v k; effects = [] }) (record { result = r; state = at' c arrays' w (k + d); effects = [] })
  unmoved known r c arrays arrays' v w k d are agrees = record {
    pair = c;
    arrays = arrays;
    arrays' = arrays';
    here = v;
    there = w;
    left = k;
    are_ahead = are;
    agrees = agrees;
    keeps = λ x e f. refl;
    keeps' = λ x e f. refl;
    falls = le_refl _;
    is_here = refl;
    silent = refl;
    is_there = refl;
  }

  pub ret_alike : {A : Type 0} {known : Names} (a : A) → Alike known known (ret a) (ret a)
  unfolding lift
  ret_alike {known = known} a = record { told = λ c arrays arrays' v w k d are agrees. inl (unmoved known (Ok a) c arrays arrays' v w k d are agrees) }

  pub next_alike : {A : Type 0} {known after : Names} → Alike {A = A} known after (lift (Err halt.Next)) (lift (Err halt.Next))
  unfolding lift
  next_alike = record { told = λ c arrays arrays' v w k d are agrees. inl (unmoved (knows own xs) (Err halt.Next) c arrays arrays' v w k d are are.variables) }

  pub choose_alike : {A : Type 0} {known after : Names} (b : Bool) {here here' other other' : Run A} → Alike known after here here' → Alike known after other other' → Alike known after (choose b here other) (choose b here' other')
  choose_alike true h k = h
  choose_alike false h k = k

  pub tested_alike : {known after : Names} {m n : Run Value} → Alike known after m n → Alike known after (tested m) (tested n)
  unfolding tested
  tested_alike h = then_alike _ _ h (λ v. ret_alike (truth_of v))

  -- the states stay ahead where no variables change but those of the record
  moved : (c c' : RecordPair) (arrays arrays' : List Array) (v w u z : Values) (k l k' l' : ℕ) → ((x : List ℕ) → own x ≡ false → u x ≡ v x) → ((x : List ℕ) → own x ≡ false → z x ≡ w x) → IsAhead own xs before (at c arrays v k) (at' c arrays' w l) → IsAhead own xs before (at c' arrays u k') (at' c' arrays' z l')
  moved c c' arrays arrays' v w u z k l k' l' same same' are = record {
    tables = are.tables;
    here = kept_held (at c arrays v k) (at c' arrays u k') refl refl xs are.tables (λ x free one. same x (sum_not_own own xs owned (Alone x) one)) are.here;
    there = kept_held (at' c arrays' w l) (at' c' arrays' z l') refl refl xs (ahead before are.tables) (λ x free one. same' x (sum_not_own own xs owned (Alone x) one)) are.there;
    sound = are.sound;
    sound_there = are.sound_there;
    variables = λ x e. let not = known_not_own own xs x e in same' x not ∙ are.variables x e ∙ sym (same x not);
    arrays = are.arrays;
  }

  spend_told : (known : Names) (c : RecordPair) (arrays arrays' : List Array) (v w : Values) (k d : ℕ) → IsAhead own xs before (at c arrays v k) (at' c arrays' w (k + d)) → AgreeOn known v w → Told known v w k d (spend_of k (at c arrays v k)).result (spend_of k (at c arrays v k)) (spend_of (k + d) (at' c arrays' w (k + d)))
  spend_told known c arrays arrays' v w zero d are agrees = inl tt
  spend_told known c arrays arrays' v w (suc k) d are agrees = let e : suc k + d ≡ suc (k + d) = omega arith in rw e (inl (record {
    pair = c;
    arrays = arrays;
    arrays' = arrays';
    here = v;
    there = w;
    left = k;
    are_ahead = moved c c arrays arrays' v w v w (suc k) (suc k + d) k (k + d) (λ x f. refl) (λ x f. refl) are;
    agrees = agrees;
    keeps = λ x e f. refl;
    keeps' = λ x e f. refl;
    falls = omega arith;
    is_here = refl;
    silent = refl;
    is_there = refl;
  }))

  pub spend_alike : {known : Names} → Alike known known spend spend
  unfolding spend
  spend_alike {known = known} = record { told = λ c arrays arrays' v w k d are agrees. spend_told known c arrays arrays' v w k d are agrees }

  -- loops

  abbrev DoesAt : Names → (A : Type 0) → Run A → Run A → Type 0
  DoesAt known A m n = Alike known known m n

  next : (known : Names) (A B : Type 0) (m n : Run A) (f g : A → Run B) → DoesAt known A m n → ((a : A) → DoesAt known B (f a) (g a)) → DoesAt known B (m >>= f) (n >>= g)
  next known A B m n f g x h = then_alike f g x h

  pub turned : {known : Names} {m n : Run Flow} → Alike known known m n → Alike known known (turn m) (turn n)
  turned {known = known} h = turn_alike (DoesAt known) (λ A a. ret_alike a) (next known) spend_alike h

  pub unless : {known : Names} (ended : Option Flow) {m n : Run Flow} → Alike known known m n → Alike known known (unless_ended ended m) (unless_ended ended n)
  unless {known = known} ended h = unless_alike (DoesAt known) (λ A a. ret_alike a) ended h

  starved : (known : Names) (n : Run Flow) → Alike known known (lift (Err halt.OutOfSteps)) n
  unfolding lift
  starved known n = record { told = λ c arrays arrays' v w k d are agrees. inl tt }

  pub repeat_alike : {known : Names} {c c' : Run Bool} {s s' : Run Flow} {last last' : Run (Unit {0})} → Alike known known c c' → Alike known known s s' → Alike known known last last' → Alike known known (repeat c s last) (repeat c' s' last')
  unfolding repeat
  repeat_alike {known = known} {c = c} {c' = c'} {s = s} {s' = s'} {last = last} {last' = last'} condition body end = record {
    told = λ pair arrays arrays' v w k d are agrees.
        let more : suc k + d ≡ suc (k + d) = omega arith in
        (subst (λ (n : ℕ). Alike known known (repeat_within (suc k) c s last) (repeat_within n c' s' last')) more (repeat_within_alike (DoesAt known) (λ A a. ret_alike a) (next known) spend_alike (starved known) (suc k) d condition body end)).told pair arrays arrays' v w k d are agrees;
  }

  -- what keeps to the record does alike
  lifted_same : {A : Type 0} (after : Names) (c : RecordPair) (arrays arrays' : List Array) (v w : Values) (k d : ℕ) (x y : Out A) → IsAhead own xs before (at c arrays v k) (at' c arrays' w (k + d)) →
      PlainSame (reading_sorts own xs) after base base' o p arrays arrays' v w k d x y → Same after v w k d x y
  lifted_same after c arrays arrays' v w k d x y are s = record {
    pair = s.pair;
    arrays = arrays;
    arrays' = arrays';
    here = s.here;
    there = s.there;
    left = s.left;
    are_ahead = moved c s.pair arrays arrays' v w s.here s.there k (k + d) s.left (s.left + d) (λ x f. s.keeps x (ap not f)) (λ x f. s.keeps_there x (ap not f)) are;
    agrees = s.agrees.values;
    keeps = λ x e f. s.keeps x (ap not f);
    keeps' = λ x e f. s.keeps_there x (ap not f);
    falls = s.falls;
    is_here = s.is_here ∙ ap (λ (filled : List Array). at s.pair filled s.here s.left) (s.moves.fixed (λ z. refl));
    silent = s.plain;
    is_there = s.is_there ∙ ap₂ (λ (filled : List Array) (l : List Effect). record { result = x.result; state = at' s.pair filled s.there (s.left + d); effects = l }) (s.moves_there.fixed (λ z. refl)) s.plain;
  }

  lifted : {A : Type 0} (after : Names) (c : RecordPair) (arrays arrays' : List Array) (v w : Values) (k d : ℕ) (r : Result A Halt) (x y : Out A) → IsAhead own xs before (at c arrays v k) (at' c arrays' w (k + d)) →
      PlainCovers (reading_sorts own xs) after base base' o p arrays arrays' v w k d r x y → Covers after v w k d r x y
  lifted after c arrays arrays' v w k d (Ok a) x y are s = lifted_same after c arrays arrays' v w k d x y are s
  lifted after c arrays arrays' v w k d (Err (halt.Fault f)) x y are s = tt
  lifted after c arrays arrays' v w k d (Err halt.OutOfSteps) x y are s = tt
  lifted after c arrays arrays' v w k d (Err halt.Next) x y are s = lifted_same (knows own xs) c arrays arrays' v w k d x y are s
  lifted after c arrays arrays' v w k d (Err halt.Exit) x y are s = absurd s

  pub reads_alike : {A : Type 0} {after : Names} {m n : Run A} (known : Names) → Knows own xs owned known → PlainAlike (reading_sorts own xs) known after base base' m n → Alike known after m n
  reads_alike {after = after} {m = m} {n = n} known knew h = record {
    told = λ c arrays arrays' v w k d are agrees.
        let same : (x : List ℕ) → is_sum xs x ≡ false → tells_apart x ≡ false → SameKind (record base { arrays = arrays }) (record base' { arrays = arrays' }) x = λ x no_sum plain.
        let none = are.arrays x (no_array_sum xs x no_sum) plain in
        record { named = none.1.0 ∙ sym none.0.0; same = none.1.1 ∙ sym none.0.1 } in
        let kinds : SameKinds (λ x. known x || own x) (record base { arrays = arrays }) (record base' { arrays = arrays' }) = λ x e. elim (or_cases (known x) (own x) e) [
          | inl held ↦ same x (knew.no_sum x held) (knew.plain x held)
          | inr mine ↦ same x (own_no_sum own xs owned.sums x mine) (own_plain own xs owned x mine)
        ] in
        inl (lifted after c arrays arrays' v w k d (m (at c arrays v k)).result (m (at c arrays v k)) (n (at' c arrays' w (k + d))) are (h.covers o p c arrays arrays' v w k d (record { values = agrees; unset = λ x e. absurd (cc); kinds = kinds; sized = λ x e. absurd (cc) })));
  }
