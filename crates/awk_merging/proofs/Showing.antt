-- Two runs that show alike: on states in which all is the same that END may read.
use Rattle.std.proofs.Common.{◌≡◌, inl, inr, ℕ, suc, zero, ◌+◌, ◌<◌, Bool, true, false, ◌&&◌, List, [], ◌++◌, length, Some, Result, Ok, Err, refl, sym, ap, ◌∙◌, subst, arith, codes, bytes_eq, slice_get, slice_set}
use Rattle.std.specs.Prelude.{unwrap_or}
use Rattle.std.proofs.lemmas.Bool.{cases_Bool, or_cases}
use Rattle.std.proofs.lemmas.List.{length-set, get_or-set_same, get_or-set_other}
use Rattle.std.proofs.lemmas.Option.{unwrap_or-slice_get}
use Rattle.std.proofs.lemmas.Slice.Eq.{bytes_eq-Decides}
use Rattle.awk_value.specs.declared.value.Value.{Value}
use Rattle.awk_value.specs.Arrays.{Array}
use Rattle.awk_value.specs.Values.{truth_of}
use Rattle.awk_kinds.specs.Names.{has_name}
use Rattle.awk_kinds.specs.Variables.{with_value}
use Rattle.awk_lex.specs.declared.token.Operator.TheVariants as o
use Rattle.awk_grammar.specs.declared.tree.BinaryOperator.{BinaryOperator}
use Rattle.awk_grammar.specs.declared.tree.BinaryOperator.TheVariants.{Concatenate, Infix}
use Rattle.awk_grammar.specs.Tree.{Expr, Number, String, Ere, Name, Element, Field, Group, Call, BuiltIn, Length, PreIncrement, PostIncrement, Getline, PipedGetline, Unary, Binary, Membership, ListMembership, Conditional, Assign}
use Rattle.awk_semantics.specs.declared.halt.Halt.{Halt}
use Rattle.awk_semantics.specs.declared.halt.Halt.TheVariants as halt
use Rattle.awk_semantics.specs.definitions.State.{Effect, State, Out, Run, go_on, ◌>>=◌, lift, ret}
use Rattle.awk_semantics.specs.definitions.Operators.{truth_value, applied}
use Rattle.awk_semantics.specs.definitions.Primitives.{spend, spend_of, number_in, array_in, read_name, put, put_outside}
use Rattle.awk_semantics.specs.definitions.Places.{AName, read_place, store, assign}
use Rattle.awk_semantics.specs.definitions.Semantics.{right_operand, tested, choose, combined}
use Rattle.awk_pieces.specs.definitions.Pieceable.{also}
use Rattle.awk_pieces.proofs.Alike.{Names, Values, IsWithin}
use Rattle.awk_pieces.proofs.PlacesAlike.{within_also, set_agrees}
use Rattle.awk_pieces.proofs.ReadsAlike.{left_true, right_true}
use Rattle.awk_pieces.proofs.ValuesAndFaults.{IsValueOrFault, applied_faults}
use Rattle.awk_merging.specs.definitions.Sums.{Sum, ByKey, is_taken}
use Rattle.awk_merging.specs.definitions.Mergeable.{is_array_sum, is_shown, shows}
use Rattle.awk_merging.specs.definitions.LawOfEnd.{ShowAlike}
use Rattle.awk_merging.proofs.Gathering.{same_key}
use Rattle.awk_merging.proofs.Cells.{apart_from_taken}
use Rattle.awk_merging.proofs.OwnVariables.{AreOwn, not_own}
use Rattle.awk_merging.proofs.ProgramSums.{AreProper, is_proper}
use Rattle.awk_merging.proofs.Sound.{one_array, other_number}

-- a sum's name may be shown
pub proper_shown : (x : List ℕ) → is_taken x ≡ false → is_shown x ≡ true
proper_shown x proper = rw (
  apart_from_taken x (codes "NR") proper refl,
  apart_from_taken x (codes "FNR") proper refl,
  apart_from_taken x (codes "FILENAME") proper refl,
  apart_from_taken x (codes "ARGC") proper refl,
  apart_from_taken x (codes "ARGV") proper refl,
  apart_from_taken x (codes "ENVIRON") proper refl,
  apart_from_taken x (codes "merge_what") proper refl,
  apart_from_taken x (codes "merge_key") proper refl,
  apart_from_taken x (codes "NF") proper refl,
) refl

abbrev pub Any : {A : Type 0} → A → Type 0
Any a = Unit {0}

-- what END may read: what may be shown, and the variables by which a line is printed and keys are joined
pub record Shows (shown : Names) : Type 0 where
  pub within : (x : List ℕ) → shown x ≡ true → is_shown x ≡ true
  pub subsep : shown (codes "SUBSEP") ≡ true
  pub ofs : shown (codes "OFS") ≡ true
  pub ors : shown (codes "ORS") ≡ true

pub shows_first : (own : Names) (xs : List Sum) → AreOwn own xs → Shows (shows own)
shows_first own xs owned = record {
  within = λ x e. left_true (is_shown x) _ e;
  subsep = rw (not_own own xs owned (codes "SUBSEP") refl) refl;
  ofs = rw (not_own own xs owned (codes "OFS") refl) refl;
  ors = rw (not_own own xs owned (codes "ORS") refl) refl;
}

-- and what is set there
pub shows_also : (own shown : Names) (x : List ℕ) → is_taken x ≡ false → Shows shown → Shows (also own (Some x) shown)
shows_also own shown x free may = record {
  within = λ z e. elim (or_cases (own x && bytes_eq x z) (shown z) e) [
    | inl here ↦ subst (λ (y : List ℕ). is_shown y ≡ true) (same_key x z (right_true (own x) _ here)) (proper_shown x free)
    | inr there ↦ may.within z there
  ];
  subsep = within_also own shown (Some x) (codes "SUBSEP") may.subsep;
  ofs = within_also own shown (Some x) (codes "OFS") may.ofs;
  ors = within_also own shown (Some x) (codes "ORS") may.ors;
}

-- fewer variables may be read
pub shows_fewer : {xs : List Sum} {fewer known : Names} {s t : State} → IsWithin fewer known → ShowAlike known xs s t → ShowAlike fewer xs s t
shows_fewer within alike = record { variables = λ x e. alike.variables x (within x e); arrays = alike.arrays; summed = alike.summed }

module _ (xs : List Sum) (proper : AreProper xs) (base base' : State) where
  -- outside of calls
  abbrev pub at : List Array → Values → ℕ → State
  at arrays v k = record base { arrays = arrays; variables = v; frames = []; steps = k }

  abbrev pub at' : List Array → Values → ℕ → State
  at' arrays v k = record base' { arrays = arrays; variables = v; frames = []; steps = k }

  -- both give the same result, which has this property, show the same, and leave states that are alike in what may be read then
  pub record Same {A : Type 0} (known : Names) (d : ℕ) (x y : Out A) : Type 0 where
    pub arrays : List Array
    pub arrays' : List Array
    pub here : Values
    pub there : Values
    pub left : ℕ
    pub alike : ShowAlike known xs (at arrays here left) (at' arrays' there (left + d))
    pub is_here : x.state ≡ at arrays here left
    pub is_there : y ≡ record { result = x.result; state = at' arrays' there (left + d); effects = x.effects }

  -- faults and exits are the same too
  abbrev pub Covers : {A : Type 0} → (A → Type 0) → Names → ℕ → Result A Halt → Out A → Out A → Type 0
  Covers P known d (Ok a) x y = Same known d x y × P a
  Covers P known d (Err (halt.Fault f)) x y = (y.result ≡ Err (halt.Fault f)) × (y.effects ≡ x.effects)
  Covers P known d (Err halt.OutOfSteps) x y = Unit {0}
  Covers P known d (Err halt.Next) x y = ⊥
  Covers P known d (Err halt.Exit) x y = (y.result ≡ Err halt.Exit) × ((y.effects ≡ x.effects) × (y.state.status ≡ x.state.status))

  -- from states that are alike in what may be read before, to such in what may be read behind
  pub record Alike {A : Type 0} (before known : Names) (P : A → Type 0) (m n : Run A) : Type 0 where
    pub covers : (arrays arrays' : List Array) (v w : Values) (k d : ℕ) → ShowAlike before xs (at arrays v k) (at' arrays' w (k + d)) → Covers P known d (m (at arrays v k)).result (m (at arrays v k)) (n (at' arrays' w (k + d)))

  covers_within : {A : Type 0} (P : A → Type 0) (fewer known : Names) (d : ℕ) (r : Result A Halt) (x y : Out A) → IsWithin fewer known → Covers P known d r x y → Covers P fewer d r x y
  covers_within P fewer known d (Ok a) x y within c = (record { arrays = c.0.arrays; arrays' = c.0.arrays'; here = c.0.here; there = c.0.there; left = c.0.left; alike = shows_fewer within c.0.alike; is_here = c.0.is_here; is_there = c.0.is_there }, c.1)
  covers_within P fewer known d (Err (halt.Fault f)) x y within c = c
  covers_within P fewer known d (Err halt.OutOfSteps) x y within c = tt
  covers_within P fewer known d (Err halt.Next) x y within c = absurd c
  covers_within P fewer known d (Err halt.Exit) x y within c = c

  -- fewer variables may be read behind it
  pub alike_within : {A : Type 0} {P : A → Type 0} {before fewer known : Names} {m n : Run A} → IsWithin fewer known → Alike before known P m n → Alike before fewer P m n
  alike_within {P = P} {fewer = fewer} {known = known} {m = m} {n = n} within h = record {
    covers = λ arrays arrays' v w k d alike. covers_within P fewer known d (m (at arrays v k)).result (m (at arrays v k)) (n (at' arrays' w (k + d))) within (h.covers arrays arrays' v w k d alike);
  }

  abbrev behind : {A : Type 0} → List Effect → Out A → Out A
  behind effects x = record { result = x.result; state = x.state; effects = effects ++ x.effects }

  covers_behind : {A : Type 0} (P : A → Type 0) (known : Names) (d : ℕ) (effects : List Effect) (r : Result A Halt) (x y : Out A) → Covers P known d r x y → Covers P known d r (behind effects x) (behind effects y)
  covers_behind P known d effects (Ok a) x y c = (record { arrays = c.0.arrays; arrays' = c.0.arrays'; here = c.0.here; there = c.0.there; left = c.0.left; alike = c.0.alike; is_here = c.0.is_here; is_there = ap (behind effects) c.0.is_there }, c.1)
  covers_behind P known d effects (Err (halt.Fault f)) x y c = (c.0, ap (λ (l : List Effect). effects ++ l) c.1)
  covers_behind P known d effects (Err halt.OutOfSteps) x y c = tt
  covers_behind P known d effects (Err halt.Next) x y c = absurd c
  covers_behind P known d effects (Err halt.Exit) x y c = (c.0, (ap (λ (l : List Effect). effects ++ l) c.1.0, c.1.1))

  go_fails : {A B : Type 0} (y : Out A) (g : A → Run B) (h : Halt) (effects : List Effect) → y.result ≡ Err h → y.effects ≡ effects → ((go_on y.result y.state y.effects g).result ≡ Err h) × ((go_on y.result y.state y.effects g).effects ≡ effects)
  unfolding go_on
  go_fails y g h effects is same = rw (is, same) (refl, refl)

  go_exits : {A B : Type 0} (y : Out A) (g : A → Run B) (effects : List Effect) (status : ℕ) → y.result ≡ Err halt.Exit → y.effects ≡ effects → y.state.status ≡ status →
      ((go_on y.result y.state y.effects g).result ≡ Err halt.Exit) × (((go_on y.result y.state y.effects g).effects ≡ effects) × ((go_on y.result y.state y.effects g).state.status ≡ status))
  unfolding go_on
  go_exits y g effects status is same ends = rw (is, same) (refl, (refl, ends))

  go_covers : {A B : Type 0} (P : A → Type 0) (Q : B → Type 0) (known after : Names) (f g : A → Run B) → ((a : A) → P a → Alike known after Q (f a) (g a)) → (d : ℕ) (r : Result A Halt) (t : State) (effects : List Effect) (y : Out A) → Covers P known d r (record { result = r; state = t; effects = effects }) y →
      Covers Q after d (go_on r t effects f).result (go_on r t effects f) (go_on y.result y.state y.effects g)
  unfolding go_on
  go_covers P Q known after f g h d (Ok a) t effects y c =
      rw (c.0.is_here, c.0.is_there) (covers_behind Q after d effects (f a (at c.0.arrays c.0.here c.0.left)).result (f a (at c.0.arrays c.0.here c.0.left)) (g a (at' c.0.arrays' c.0.there (c.0.left + d))) ((h a c.1).covers c.0.arrays c.0.arrays' c.0.here c.0.there c.0.left d c.0.alike))
  go_covers P Q known after f g h d (Err (halt.Fault n)) t effects y c = go_fails y g (halt.Fault n) effects c.0 c.1
  go_covers P Q known after f g h d (Err halt.OutOfSteps) t effects y c = tt
  go_covers P Q known after f g h d (Err halt.Next) t effects y c = absurd c
  go_covers P Q known after f g h d (Err halt.Exit) t effects y c = go_exits y g effects t.status c.0 c.1.0 c.1.1

  pub then_with : {A B : Type 0} {P : A → Type 0} {Q : B → Type 0} {before known after : Names} {m n : Run A} (f g : A → Run B) → Alike before known P m n → ((a : A) → P a → Alike known after Q (f a) (g a)) → Alike before after Q (m >>= f) (n >>= g)
  unfolding ◌>>=◌
  then_with {P = P} {Q = Q} {known = known} {after = after} {m = m} {n = n} f g x h = record {
    covers = λ arrays arrays' v w k d alike.
        go_covers P Q known after f g h d (m (at arrays v k)).result (m (at arrays v k)).state (m (at arrays v k)).effects (n (at' arrays' w (k + d))) (x.covers arrays arrays' v w k d alike);
  }

  pub then_alike : {A B : Type 0} {P : A → Type 0} {Q : B → Type 0} {before known after : Names} {m n : Run A} (f g : A → Run B) → Alike before known P m n → ((a : A) → Alike known after Q (f a) (g a)) → Alike before after Q (m >>= f) (n >>= g)
  then_alike f g x h = then_with f g x (λ a _. h a)

  pub choose_alike : {A : Type 0} {P : A → Type 0} {before known : Names} (b : Bool) {here here' other other' : Run A} → Alike before known P here here' → Alike before known P other other' → Alike before known P (choose b here other) (choose b here' other')
  choose_alike true h k = h
  choose_alike false h k = k

module _ (shown : Names) (xs : List Sum) (proper : AreProper xs) (base base' : State) where
  -- what leaves what may be read alike
  abbrev pub Reads : {A : Type 0} → (A → Type 0) → Run A → Run A → Type 0
  Reads P m n = Alike xs proper base base' shown shown P m n

  abbrev here_at : List Array → Values → ℕ → State
  here_at arrays v k = at xs proper base base' arrays v k

  abbrev there_at : List Array → Values → ℕ → State
  there_at arrays v k = at' xs proper base base' arrays v k

  abbrev CoversRead : {A : Type 0} → (A → Type 0) → ℕ → Result A Halt → Out A → Out A → Type 0
  CoversRead P d r x y = Covers xs proper base base' P shown d r x y

  abbrev then_reads : {A B : Type 0} {P : A → Type 0} {Q : B → Type 0} {m n : Run A} (f g : A → Run B) → Reads P m n → ((a : A) → Reads Q (f a) (g a)) → Reads Q (m >>= f) (n >>= g)
  then_reads f g x h = then_alike xs proper base base' f g x h

  -- what leaves the states as they are
  pub unmoved : {A : Type 0} (P : A → Type 0) (arrays arrays' : List Array) (v w : Values) (k d : ℕ) (effects : List Effect) (r : Result A Halt) → IsValueOrFault r → ((a : A) → r ≡ Ok a → P a) → ShowAlike shown xs (here_at arrays v k) (there_at arrays' w (k + d)) →
      CoversRead P d r (record { result = r; state = here_at arrays v k; effects = effects }) (record { result = r; state = there_at arrays' w (k + d); effects = effects })
  unmoved P arrays arrays' v w k d effects (Ok a) is holds alike = (record { arrays = arrays; arrays' = arrays'; here = v; there = w; left = k; alike = alike; is_here = refl; is_there = refl }, holds a refl)
  unmoved P arrays arrays' v w k d effects (Err (halt.Fault f)) is holds alike = (refl, refl)
  unmoved P arrays arrays' v w k d effects (Err halt.OutOfSteps) is holds alike = absurd is
  unmoved P arrays arrays' v w k d effects (Err halt.Next) is holds alike = absurd is
  unmoved P arrays arrays' v w k d effects (Err halt.Exit) is holds alike = absurd is

  pub lift_alike : {A : Type 0} (r : Result A Halt) → IsValueOrFault r → Reads Any (lift r) (lift r)
  unfolding lift
  lift_alike r is = record { covers = λ arrays arrays' v w k d alike. unmoved Any arrays arrays' v w k d [] r is (λ a _. tt) alike }

  pub ret_with : {A : Type 0} {P : A → Type 0} (a : A) → P a → Reads P (ret a) (ret a)
  unfolding lift
  ret_with {P = P} a holds = record { covers = λ arrays arrays' v w k d alike. unmoved P arrays arrays' v w k d [] (Ok a) tt (λ b e. let same : a ≡ b = cc in subst P same holds) alike }

  pub ret_alike : {A : Type 0} (a : A) → Reads Any (ret a) (ret a)
  ret_alike a = ret_with a tt

  fewer : (arrays arrays' : List Array) (v w : Values) (k l k' l' : ℕ) → ShowAlike shown xs (here_at arrays v k) (there_at arrays' w l) → ShowAlike shown xs (here_at arrays v k') (there_at arrays' w l')
  fewer arrays arrays' v w k l k' l' alike = record {
    variables = alike.variables;
    arrays = λ x e. record { named = (alike.arrays x e).named; elements = (alike.arrays x e).elements };
    summed = alike.summed;
  }

  spend_covers : (arrays arrays' : List Array) (v w : Values) (k d : ℕ) → ShowAlike shown xs (here_at arrays v k) (there_at arrays' w (k + d)) → CoversRead Any d (spend_of k (here_at arrays v k)).result (spend_of k (here_at arrays v k)) (spend_of (k + d) (there_at arrays' w (k + d)))
  spend_covers arrays arrays' v w zero d alike = tt
  spend_covers arrays arrays' v w (suc k) d alike =
      let e : suc k + d ≡ suc (k + d) = omega arith in
      rw e (record { arrays = arrays; arrays' = arrays'; here = v; there = w; left = k; alike = fewer arrays arrays' v w (suc k) (suc k + d) k (k + d) alike; is_here = refl; is_there = refl }, tt)

  pub spend_alike : Reads Any spend spend
  unfolding spend
  spend_alike = record { covers = λ arrays arrays' v w k d alike. spend_covers arrays arrays' v w k d alike }

  pub tested_alike : {m n : Run Value} → Reads Any m n → Reads Any (tested m) (tested n)
  unfolding tested
  tested_alike h = then_reads _ _ h (λ v. ret_alike (truth_of v))

  pub right_alike : (takes : Bool) (e : Expr) {m n : Run Value} → Reads Any m n → Reads Any (right_operand takes e m) (right_operand takes e n)
  right_alike true (Ere text) h = ret_alike _
  right_alike true (Number n) h = h
  right_alike true (String bytes) h = h
  right_alike true (Name x) h = h
  right_alike true (Element x es) h = h
  right_alike true (Field a) h = h
  right_alike true (Group a) h = h
  right_alike true (Call f es) h = h
  right_alike true (BuiltIn f es) h = h
  right_alike true Length h = h
  right_alike true (PreIncrement c p) h = h
  right_alike true (PostIncrement c p) h = h
  right_alike true (Getline p file) h = h
  right_alike true (PipedGetline c p) h = h
  right_alike true (Unary c a) h = h
  right_alike true (Binary c a b) h = h
  right_alike true (Membership a x) h = h
  right_alike true (ListMembership es x) h = h
  right_alike true (Conditional c a b) h = h
  right_alike true (Assign c p a) h = h
  right_alike false e h = h

  pub combined_alike : (c : BinaryOperator) {m n x y : Run Value} → Reads Any m n → Reads Any x y → Reads Any (combined c m x) (combined c n y)
  combined_alike Concatenate h k = then_reads _ _ h (λ x. then_reads _ _ k (λ y. ret_alike _))
  combined_alike (Infix o.And) h k = then_reads _ _ (tested_alike h) (λ x. then_reads _ _ (choose_alike xs proper base base' x (tested_alike k) (ret_alike false)) (λ y. ret_alike (truth_value y)))
  combined_alike (Infix o.Or) h k = then_reads _ _ (tested_alike h) (λ x. then_reads _ _ (choose_alike xs proper base base' x (ret_alike true) (tested_alike k)) (λ y. ret_alike (truth_value y)))
  combined_alike (Infix o.Power) h k = then_reads _ _ h (λ x. then_reads _ _ k (λ y. lift_alike (applied o.Power x y) (applied_faults o.Power x y)))
  combined_alike (Infix o.Times) h k = then_reads _ _ h (λ x. then_reads _ _ k (λ y. lift_alike (applied o.Times x y) (applied_faults o.Times x y)))
  combined_alike (Infix o.Divide) h k = then_reads _ _ h (λ x. then_reads _ _ k (λ y. lift_alike (applied o.Divide x y) (applied_faults o.Divide x y)))
  combined_alike (Infix o.Remainder) h k = then_reads _ _ h (λ x. then_reads _ _ k (λ y. lift_alike (applied o.Remainder x y) (applied_faults o.Remainder x y)))
  combined_alike (Infix o.Plus) h k = then_reads _ _ h (λ x. then_reads _ _ k (λ y. lift_alike (applied o.Plus x y) (applied_faults o.Plus x y)))
  combined_alike (Infix o.Minus) h k = then_reads _ _ h (λ x. then_reads _ _ k (λ y. lift_alike (applied o.Minus x y) (applied_faults o.Minus x y)))
  combined_alike (Infix o.Less) h k = then_reads _ _ h (λ x. then_reads _ _ k (λ y. lift_alike (applied o.Less x y) (applied_faults o.Less x y)))
  combined_alike (Infix o.LessEqual) h k = then_reads _ _ h (λ x. then_reads _ _ k (λ y. lift_alike (applied o.LessEqual x y) (applied_faults o.LessEqual x y)))
  combined_alike (Infix o.NotEqual) h k = then_reads _ _ h (λ x. then_reads _ _ k (λ y. lift_alike (applied o.NotEqual x y) (applied_faults o.NotEqual x y)))
  combined_alike (Infix o.Equal) h k = then_reads _ _ h (λ x. then_reads _ _ k (λ y. lift_alike (applied o.Equal x y) (applied_faults o.Equal x y)))
  combined_alike (Infix o.Greater) h k = then_reads _ _ h (λ x. then_reads _ _ k (λ y. lift_alike (applied o.Greater x y) (applied_faults o.Greater x y)))
  combined_alike (Infix o.GreaterEqual) h k = then_reads _ _ h (λ x. then_reads _ _ k (λ y. lift_alike (applied o.GreaterEqual x y) (applied_faults o.GreaterEqual x y)))
  combined_alike (Infix o.Matches) h k = then_reads _ _ h (λ x. then_reads _ _ k (λ y. lift_alike (applied o.Matches x y) (applied_faults o.Matches x y)))
  combined_alike (Infix o.NotMatches) h k = then_reads _ _ h (λ x. then_reads _ _ k (λ y. lift_alike (applied o.NotMatches x y) (applied_faults o.NotMatches x y)))

  -- an array of a sum gets these elements on both sides
  module _ (a : List ℕ) (is : is_array_sum xs a ≡ true) where
    pub array_shown : is_shown a ≡ true
    array_shown = proper_shown a (is_proper (ByKey a) xs proper (one_array xs a is))

    abbrev pub number : ℕ
    number = number_in base.array_names a

    abbrev pub number' : ℕ
    number' = number_in base'.array_names a

    set_at : (names : List (List ℕ)) (arrays : List Array) (new : Array) → number_in names a < length arrays → unwrap_or (slice_get (slice_set arrays (number_in names a) new) (number_in names a)) [] ≡ new
    set_at names arrays new inside = unwrap_or-slice_get (slice_set arrays (number_in names a) new) (number_in names a) [] ∙ get_or-set_same arrays (number_in names a) new [] inside

    set_elsewhere : (names : List (List ℕ)) (arrays : List Array) (new : Array) (x : List ℕ) → has_name names a ≡ true → bytes_eq a x ≡ false →
        unwrap_or (slice_get (slice_set arrays (number_in names a) new) (number_in names x)) [] ≡ unwrap_or (slice_get arrays (number_in names x)) []
    set_elsewhere names arrays new x has apart =
        unwrap_or-slice_get (slice_set arrays (number_in names a) new) (number_in names x) []
        ∙ get_or-set_other arrays (number_in names a) (number_in names x) new [] (other_number names a x has apart)
        ∙ sym (unwrap_or-slice_get arrays (number_in names x) [])

    module _ (arrays arrays' : List Array) (v w : Values) (k l : ℕ) (new : Array) (alike : ShowAlike shown xs (here_at arrays v k) (there_at arrays' w l)) where
      same_elements : (x : List ℕ) → is_shown x ≡ true → array_in (there_at (slice_set arrays' number' new) w l) (number_in base'.array_names x) ≡ array_in (here_at (slice_set arrays number new) v k) (number_in base.array_names x)
      same_elements x shown =
          let held = alike.summed a is in
          elim (cases_Bool (bytes_eq a x)) [
            | inl same ↦ subst (λ (z : List ℕ). array_in (there_at (slice_set arrays' number' new) w l) (number_in base'.array_names z) ≡ array_in (here_at (slice_set arrays number new) v k) (number_in base.array_names z)) (same_key a x same)
                (set_at base'.array_names arrays' new held.1.1 ∙ sym (set_at base.array_names arrays new held.0.1))
            | inr apart ↦ set_elsewhere base'.array_names arrays' new x held.1.0 apart ∙ (alike.arrays x shown).elements ∙ sym (set_elsewhere base.array_names arrays new x held.0.0 apart)
          ]

      pub set_alike : ShowAlike shown xs (here_at (slice_set arrays number new) v k) (there_at (slice_set arrays' number' new) w l)
      set_alike = record {
        variables = alike.variables;
        arrays = λ x e. record { named = (alike.arrays x e).named; elements = same_elements x e };
        summed = λ b e. let held = alike.summed b e in
            ((held.0.0, omega (arith, held.0.1, length-set arrays number new)), (held.1.0, omega (arith, held.1.1, length-set arrays' number' new)));
      }

    -- it gets them, with this result
    pub array_put : {A : Type 0} (result : A) (arrays arrays' : List Array) (v w : Values) (k d : ℕ) (new : Array) → ShowAlike shown xs (here_at arrays v k) (there_at arrays' w (k + d)) →
        CoversRead Any d (Ok result) (record { result = Ok result; state = here_at (slice_set arrays number new) v k; effects = [] }) (record { result = Ok result; state = there_at (slice_set arrays' number' new) w (k + d); effects = [] })
    array_put result arrays arrays' v w k d new alike = (
      record {
        arrays = slice_set arrays number new;
        arrays' = slice_set arrays' number' new;
        here = v;
        there = w;
        left = k;
        alike = set_alike arrays arrays' v w k (k + d) new alike;
        is_here = refl;
        is_there = refl;
      },
      tt,
    )

held_itself : (x : List ℕ) → bytes_eq x x ≡ true
held_itself x = (bytes_eq-Decides x x).1 refl

-- a name gets a value, and may be read behind that
module _ (own shown : Names) (x : List ℕ) (free : is_taken x ≡ false) (xs : List Sum) (proper : AreProper xs) (base base' : State) where
  abbrev more : Names
  more = also own (Some x) shown

  set_covers : {A : Type 0} (result : A) (a : Value) (arrays arrays' : List Array) (v w : Values) (k d : ℕ) → ShowAlike shown xs (at xs proper base base' arrays v k) (at' xs proper base base' arrays' w (k + d)) →
      Covers xs proper base base' Any more d (Ok result) (record { result = Ok result; state = at xs proper base base' arrays (with_value v x a) k; effects = [] }) (record { result = Ok result; state = at' xs proper base base' arrays' (with_value w x a) (k + d); effects = [] })
  set_covers result a arrays arrays' v w k d alike = (
    record {
      arrays = arrays;
      arrays' = arrays';
      here = with_value v x a;
      there = with_value w x a;
      left = k;
      alike = record {
        variables = set_agrees own shown x a v w alike.variables;
        arrays = λ z e. record { named = (alike.arrays z e).named; elements = (alike.arrays z e).elements };
        summed = alike.summed;
      };
      is_here = refl;
      is_there = refl;
    },
    tt,
  )

  pub put_alike : (a : Value) → Alike xs proper base base' shown more Any (put x a) (put x a)
  unfolding put put_outside
  put_alike a = record {
    covers = λ arrays arrays' v w k d alike. rw (apart_from_taken x (codes "NF") free refl, apart_from_taken x (codes "FS") free refl) (set_covers tt a arrays arrays' v w k d alike);
  }

  -- and what it then holds is the same
  pub assigned_alike : (a : Value) → Alike xs proper base base' shown more Any (assign (AName x) a) (assign (AName x) a)
  unfolding assign store read_place put put_outside read_name ◌>>=◌ go_on
  assigned_alike a = record {
    covers = λ arrays arrays' v w k d alike. rw (apart_from_taken x (codes "NF") free refl, apart_from_taken x (codes "FS") free refl, apart_from_taken x (codes "NF") free refl, held_itself x) (set_covers a a arrays arrays' v w k d alike);
  }
