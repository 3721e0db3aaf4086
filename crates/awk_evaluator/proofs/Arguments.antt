-- The arguments of a call, one after the other.
use Rattle.std.proofs.Common.{◌≡◌, ◌==◌, true, ℕ, ℤ, zero, suc, ◌+◌, ◌≤◌, List, [], ◌∷◌, length, drop, slice_get, Some, None, Result, Ok, Err, refl, sym, ap, ◌∙◌, arith, append_assoc, append-nil}
use Rattle.std.proofs.lemmas.Bool.{eqb-true}
use Rattle.std.proofs.lemmas.List.{drop-drop}
use Rattle.awk_value.specs.declared.value.Value.{Value}
use Rattle.awk_value.specs.declared.value.Value.TheVariants as value
use Rattle.awk_semantics.specs.declared.halt.Halt.{Halt}
use Rattle.awk_semantics.specs.declared.local.Local.{Local}
use Rattle.awk_semantics.specs.declared.local.Local.TheVariants as local
use Rattle.awk_storage.specs.declared.position.Array.{Array}
use Rattle.awk_storage.specs.declared.position.Array.TheVariants as array
use Rattle.awk_storage.specs.support.Frames.{FramesView, newest_of}
use Rattle.awk_resolve.specs.declared.node.ArgumentForm.{ArgumentForm}
use Rattle.awk_resolve.specs.declared.node.ArgumentForm.TheVariants as form
use Rattle.awk_resolve.specs.Nodes.{first, second, behind_form, taken, values_among}
use Rattle.awk_runtime.specs.declared.runtime.Runtime.{Runtime}
use Rattle.awk_runtime.specs.Calling.{number_of_kept, kept_number, with_given, Gives}
use Rattle.awk_evaluator.specs.declared.machine.Machine.{Machine}
use Rattle.awk_evaluator.specs.Operands.{OperandsView}
use Rattle.awk_evaluator.specs.Calling.{kept_by, kept_all, with_all, GivesAll}

drop_get : {A : Type 0} (xs : List A) (i : ℕ) (x : A) → slice_get xs i ≡ Some x → drop i xs ≡ x ∷ drop (suc i) xs
drop_get [] i x e = cc
drop_get (z ∷ zs) zero x e = let same : z ≡ x = cc in ap (λ y. y ∷ zs) same
drop_get (z ∷ zs) (suc i) x e = drop_get zs i x e

drop_none : {A : Type 0} (xs : List A) (i : ℕ) → slice_get xs i ≡ None → drop i xs ≡ []
drop_none [] zero e = refl
drop_none [] (suc i) e = refl
drop_none (z ∷ zs) zero e = cc
drop_none (z ∷ zs) (suc i) e = drop_none zs i e

pub one_within : {A : Type 0} (xs : List A) (i : ℕ) {x : A} → slice_get xs i ≡ Some x → i + 1 ≤ length xs
one_within [] i e = cc
one_within (z ∷ zs) zero e = omega arith
one_within (z ∷ zs) (suc i) e = let h = one_within zs i e in omega (arith, h)

counted : (f : ArgumentForm) (fs : List ArgumentForm) → values_among (f ∷ fs) ≡ values_among (f ∷ []) + values_among fs
counted form.Value fs = omega arith
counted (form.Array a) fs = omega arith

pub one_more : (fs : List ArgumentForm) (i count one : ℕ) {f : ArgumentForm} → slice_get fs i ≡ Some f → one ≡ values_among (f ∷ []) → count + values_among (drop i fs) ≡ values_among fs → (count + one) + values_among (drop (i + 1) fs) ≡ values_among fs
one_more fs i count one {f = f} at is e =
    let rest = ap values_among (drop_get fs i f at) in
    let parts = counted f (drop (suc i) fs) in
    let next : i + 1 ≡ suc i = omega arith in
    let same = ap (λ j. values_among (drop j fs)) next in
    omega (arith, rest, parts, same, is, e)

pub none_more : (fs : List ArgumentForm) (i count : ℕ) → slice_get fs i ≡ None → count + values_among (drop i fs) ≡ values_among fs → count ≡ values_among fs
none_more fs i count none e = let rest = ap values_among (drop_none fs i none) in omega (arith, rest, e)

-- what an argument gives is told by the calls that are active

number_still : (a : Array) (x y : FramesView) → x.frames ≡ y.frames → kept_number a x ≡ kept_number a y
number_still (array.Global n) x y e = refl
number_still (array.Local i) x y e = ap (λ fs. number_of_kept (slice_get (newest_of fs) i)) e

kept_still : (f : ArgumentForm) (vs : List Value) (x y : FramesView) → x.frames ≡ y.frames → kept_by f vs x ≡ kept_by f vs y
kept_still form.Value vs x y e = refl
kept_still (form.Array a) vs x y e = ap (λ n. local.Array n) (number_still a x y e)

behind_given : (f : ArgumentForm) (given : ℕ) (args : List Value) → behind_form f (drop given args) ≡ drop (given + values_among (f ∷ [])) args
behind_given form.Value given args = drop-drop 1 given args
behind_given (form.Array a) given args = let e : given + 0 ≡ given = omega arith in ap (λ n. drop n args) (sym e)

with_more : (l : Local) (ls : List Local) (m : Runtime) → with_all (l ∷ ls) m ≡ with_all ls (with_given l m)
with_more l ls m = ap (λ (staged : List Local). record m { frames = record m.frames { staged = staged } }) (sym (append_assoc m.frames.staged (l ∷ []) ls))

-- one more is given
pub given_more : (fs : List ArgumentForm) (args : List Value) (i given one : ℕ) (calls : FramesView) (m m' goal : Runtime) {f : ArgumentForm} → slice_get fs i ≡ Some f → one ≡ values_among (f ∷ []) → m.frames.frames ≡ calls.frames
    → m' ≡ with_given (kept_by f (drop given args) m.frames) m → with_all (kept_all (drop i fs) (drop given args) calls) m ≡ goal → with_all (kept_all (drop (i + 1) fs) (drop (given + one) args) calls) m' ≡ goal
given_more fs args i given one calls m m' goal {f = f} at is same gives e =
    let next : i + 1 ≡ suc i = omega arith in
    let l = kept_by f (drop given args) calls in
    let rest = kept_all (drop (suc i) fs) (behind_form f (drop given args)) calls in
    ap (λ j. with_all (kept_all (drop j fs) (drop (given + one) args) calls) m') next
    ∙ ap (λ k. with_all (kept_all (drop (suc i) fs) (drop (given + k) args) calls) m') is
    ∙ ap (λ vs. with_all (kept_all (drop (suc i) fs) vs calls) m') (sym (behind_given f given args))
    ∙ ap (λ x. with_all rest x) (gives ∙ ap (λ k. with_given k m) (kept_still f (drop given args) m.frames calls same))
    ∙ sym (with_more l rest m)
    ∙ sym (ap (λ gs. with_all (kept_all gs (drop given args) calls) m) (drop_get fs i f at))
    ∙ e

pub given_none : (fs : List ArgumentForm) (args : List Value) (i given : ℕ) (calls : FramesView) (m goal : Runtime) → slice_get fs i ≡ None → with_all (kept_all (drop i fs) (drop given args) calls) m ≡ goal → m ≡ goal
given_none fs args i given calls m goal none e =
    sym (ap (λ (staged : List Local). record m { frames = record m.frames { staged = staged } }) (append-nil m.frames.staged))
    ∙ sym (ap (λ gs. with_all (kept_all gs (drop given args) calls) m) (drop_none fs i none)) ∙ e

-- all are given
pub all_given : {fs : List ArgumentForm} {m m' : Machine} (count : ℕ) → count ≡ values_among fs → m'.runtime ≡ with_all (kept_all fs (taken count m.operands.values) m.runtime.frames) m.runtime
    → m'.operands ≡ record m.operands { values = drop count m.operands.values } → GivesAll fs m (Ok tt) m'
all_given {fs = fs} {m = m} count is given operands =
    let dropped : ℕ → OperandsView = λ n. record { values = drop n m.operands.values; below = m.operands.below } in
    record {
      given = given ∙ ap (λ n. with_all (kept_all fs (taken n m.operands.values) m.runtime.frames) m.runtime) is;
      operands = operands ∙ ap dropped is;
      calls = ap (λ (x : Runtime). x.frames.callers) given;
      names = ap (λ (x : Runtime). x.names) given;
      steps = (let e = ap (λ (x : Runtime). x.steps) given in omega (arith, e));
      streams = ap (λ (x : Runtime). x.streams) given;
      memory = tt;
    }

-- one value is given

first_taken : (vs : List Value) → first (taken 1 vs) ≡ first vs
first_taken [] = refl
first_taken (v ∷ vs) = refl

pub top_given : {m m' : Machine} {r : Result (Unit {0}) Halt} → Gives (local.Value (first m.operands.values)) m.runtime m'.runtime r → m'.operands ≡ record m.operands { values = drop 1 m.operands.values }
    → GivesAll (form.Value ∷ []) m r m'
top_given {m = m} {m' = m'} {r = Ok u} g operands =
    all_given 1 refl (g.given ∙ ap (λ v. with_given (local.Value v) m.runtime) (sym (first_taken m.operands.values))) operands
top_given {m = m} {m' = m'} {r = Err h} g operands = record {
  given = tt;
  operands = tt;
  calls = tt;
  names = ap (λ (x : Runtime). x.names) g.unchanged;
  steps = (let e = ap (λ (x : Runtime). x.steps) g.unchanged in omega (arith, e));
  streams = ap (λ (x : Runtime). x.streams) g.unchanged;
  memory = g.memory;
}

-- two numbers are given

two_kept : (vs : List Value) (calls : FramesView) {a b : ℤ} → second vs ≡ value.Number a → first vs ≡ value.Number b → kept_all (form.Value ∷ form.Value ∷ []) (taken 2 vs) calls ≡ local.Value (value.Number a) ∷ local.Value (value.Number b) ∷ []
two_kept [] calls left right = cc
two_kept (v ∷ []) calls left right = cc
two_kept (v ∷ w ∷ vs) calls {a = a} left right = ap (λ (x : Value). local.Value x ∷ local.Value v ∷ []) left ∙ ap (λ (x : Value). local.Value (value.Number a) ∷ local.Value x ∷ []) right

pub two_given : {m m' : Machine} {m1 : Runtime} {a b : ℤ} {r : Result (Unit {0}) Halt} → second m.operands.values ≡ value.Number a → first m.operands.values ≡ value.Number b → m1 ≡ with_given (local.Value (value.Number a)) m.runtime
    → Gives (local.Value (value.Number b)) m1 m'.runtime r → m'.operands ≡ record m.operands { values = drop 1 (drop 1 m.operands.values) } → GivesAll (form.Value ∷ form.Value ∷ []) m r m'
two_given {m = m} {m' = m'} {m1 = m1} {a = a} {b = b} {r = Ok u} left right one g operands =
    let x = local.Value (value.Number a) in
    let y = local.Value (value.Number b) in
    all_given 2 refl
    (g.given ∙ ap (λ (k : Runtime). with_given y k) one ∙ sym (with_more x (y ∷ []) m.runtime) ∙ ap (λ (ls : List Local). with_all ls m.runtime) (sym (two_kept m.operands.values m.runtime.frames left right)))
    (operands ∙ ap (λ (vs : List Value). record m.operands { values = vs }) (drop-drop 1 1 m.operands.values))
two_given {m = m} {m' = m'} {m1 = m1} {r = Err h} left right one g operands =
    let same = g.unchanged ∙ one in
    record {
      given = tt;
      operands = tt;
      calls = tt;
      names = ap (λ (x : Runtime). x.names) same;
      steps = (let e = ap (λ (x : Runtime). x.steps) same in omega (arith, e));
      streams = ap (λ (x : Runtime). x.streams) same;
      memory = g.memory;
    }

-- the first of two is refused
pub first_refused : {fs : List ArgumentForm} {m m' : Machine} {l : Local} {h : Halt} → Gives l m.runtime m'.runtime (Err h) → GivesAll fs m (Err h) m'
first_refused g = record {
  given = tt;
  operands = tt;
  calls = tt;
  names = ap (λ (x : Runtime). x.names) g.unchanged;
  steps = (let e = ap (λ (x : Runtime). x.steps) g.unchanged in omega (arith, e));
  streams = ap (λ (x : Runtime). x.streams) g.unchanged;
  memory = g.memory;
}

-- nothing is given

pub no_form : (fs : List ArgumentForm) → (length fs == 0) ≡ true → fs ≡ []
no_form [] e = refl
no_form (f ∷ fs) e = let none = eqb-true (length (f ∷ fs)) 0 e in absurd (omega (arith, none))

pub nothing_given : {m : Machine} → GivesAll [] m (Ok tt) m
nothing_given {m = m} = all_given 0 refl (ap (λ (staged : List Local). record m.runtime { frames = record m.runtime.frames { staged = staged } }) (sym (append-nil m.runtime.frames.staged))) refl
