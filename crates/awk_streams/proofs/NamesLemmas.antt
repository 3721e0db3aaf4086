-- Names of streams, and the place of the first that is wanted.
use Rattle.std.proofs.Common.{◌≡◌, ◌<◌, ◌+◌, ◌⊎◌, inl, inr, ℕ, suc, Bool, true, false, List, [], ◌∷◌, ◌++◌, length, Option, Some, None, refl, sym, ◌∙◌, ap, subst, arith}
use Rattle.std.specs.Prelude.{is_some, ◌&&◌, ◌==◌, bytes_eq, slice_get}
use Rattle.std.specs.List.{position, position_from}
use Rattle.std.proofs.lemmas.Iterator.Adapters.{position_from-zero}
use Rattle.std.proofs.lemmas.Bool.{cond-true, cond-false, ne_eqb, eq-eqb, cases_eq}
use Rattle.std.proofs.lemmas.Option.{same_Some}
use Rattle.awk_world.specs.declared.world.InputKind.{InputKind}
use Rattle.awk_world.specs.declared.world.InputKind.TheVariants.{Standard, File, Command}
use Rattle.awk_world.specs.declared.world.OutputKind.{OutputKind}
use Rattle.awk_world.specs.declared.world.OutputKind.TheVariants.{File as ToFile, Command as ToCommand}
use Rattle.awk_world.specs.definitions.Oracle.{same_input_kind, same_output_kind}
use Rattle.awk_streams.specs.declared.named.NamedStream.{NamedStream}
use Rattle.awk_streams.specs.definitions.Named as words

-- the same kind and name, whichever comes first

eq_swap : (x y : ℕ) → (x == y) ≡ (y == x)
eq_swap x y = elim (cases_eq x y) [
  | inl same ↦ eq-eqb x y same ∙ sym (eq-eqb y x (sym same))
  | inr differs ↦ ne_eqb x y differs ∙ sym (ne_eqb y x (λ (e : y ≡ x). differs (sym e)))
]

bytes_swap : (xs ys : List ℕ) → bytes_eq xs ys ≡ bytes_eq ys xs
bytes_swap [] [] = refl
bytes_swap [] (y ∷ ys) = refl
bytes_swap (x ∷ xs) [] = refl
bytes_swap (x ∷ xs) (y ∷ ys) = ap (λ b. b && bytes_eq xs ys) (eq_swap x y) ∙ ap (λ b. y == x && b) (bytes_swap xs ys)

pub input_swap : (j k : InputKind) (m n : List ℕ) → (same_input_kind j k && bytes_eq m n) ≡ (same_input_kind k j && bytes_eq n m)
input_swap Standard Standard m n = bytes_swap m n
input_swap Standard File m n = refl
input_swap Standard Command m n = refl
input_swap File Standard m n = refl
input_swap File File m n = bytes_swap m n
input_swap File Command m n = refl
input_swap Command Standard m n = refl
input_swap Command File m n = refl
input_swap Command Command m n = bytes_swap m n

pub output_swap : (j k : OutputKind) (m n : List ℕ) → (same_output_kind j k && bytes_eq m n) ≡ (same_output_kind k j && bytes_eq n m)
output_swap ToFile ToFile m n = bytes_swap m n
output_swap ToFile ToCommand m n = refl
output_swap ToCommand ToFile m n = refl
output_swap ToCommand ToCommand m n = bytes_swap m n

pub named_swap : (x y : words.Named) → words.same_named x y ≡ words.same_named y x
named_swap (words.Input j m) (words.Input k n) = input_swap j k m n
named_swap (words.Input j m) (words.Output k n) = refl
named_swap (words.Output j m) (words.Input k n) = refl
named_swap (words.Output j m) (words.Output k n) = output_swap j k m n

-- the first that passes, if one does

abbrev pub AllFail : (NamedStream → Bool) → List NamedStream → Type 0
AllFail p [] = Unit {0}
AllFail p (x ∷ xs) = (p x ≡ false) × AllFail p xs

pub record IsFirst (p : NamedStream → Bool) (xs : List NamedStream) (k : ℕ) : Type 0 where
  pub front : List NamedStream
  pub at : NamedStream
  pub back : List NamedStream
  pub is : xs ≡ front ++ at ∷ back
  pub fails : AllFail p front
  pub passes : p at ≡ true
  pub place : length front ≡ k

true_or_false : (b : Bool) → (b ≡ true) ⊎ (b ≡ false)
true_or_false true = inl refl
true_or_false false = inr refl

no_place : {P : Type 0} (k : ℕ) → None ≡ Some k → P
no_place k e = cc

some_place : {P : Type 0} (k : ℕ) → Some k ≡ None → P
some_place k e = cc

from_some : (p : NamedStream → Bool) (i k : ℕ) (xs : List NamedStream) → position_from p i xs ≡ Some k → (n : ℕ) × (k ≡ i + n) × IsFirst p xs n
from_some p i k [] e = no_place k e
from_some p i k (x ∷ xs) e = elim (true_or_false (p x)) [
  | inl good ↦
      let here : i ≡ k = same_Some i k (sym (cond-true _ _ _ good) ∙ e) in
      (0, omega (arith, here), record { front = []; at = x; back = xs; is = refl; fails = tt; passes = good; place = refl })
  | inr bad ↦
      let later = from_some p (i + 1) k xs (sym (cond-false _ _ _ bad) ∙ e) in
      let f = later.2 in
      (suc later.0, omega (arith, later.1), record { front = x ∷ f.front; at = f.at; back = f.back; is = ap (λ l. x ∷ l) f.is; fails = (bad, f.fails); passes = f.passes; place = ap suc f.place })
]

from_none : (p : NamedStream → Bool) (i : ℕ) (xs : List NamedStream) → position_from p i xs ≡ None → AllFail p xs
from_none p i [] e = tt
from_none p i (x ∷ xs) e = elim (true_or_false (p x)) [
  | inl good ↦ some_place i (sym (cond-true _ _ _ good) ∙ e)
  | inr bad ↦ (bad, from_none p (i + 1) xs (sym (cond-false _ _ _ bad) ∙ e))
]

pub first_found : (p : NamedStream → Bool) (xs : List NamedStream) (k : ℕ) → position p xs ≡ Some k → IsFirst p xs k
first_found p xs k e =
    let found = from_some p 0 k xs (sym (position_from-zero p xs) ∙ e) in
    subst (λ (n : ℕ). IsFirst p xs n) (omega (arith, found.1)) found.2

pub none_found : (p : NamedStream → Bool) (xs : List NamedStream) → position p xs ≡ None → AllFail p xs
none_found p xs e = from_none p 0 xs (sym (position_from-zero p xs) ∙ e)

false_true : {P : Type 0} → false ≡ true → P
false_true e = cc

is_place : (o : Option ℕ) → is_some o ≡ true → (k : ℕ) × (o ≡ Some k)
is_place None e = false_true e
is_place (Some k) e = (k, refl)

pub some_found : (p : NamedStream → Bool) (xs : List NamedStream) → is_some (position p xs) ≡ true → (k : ℕ) × (position p xs ≡ Some k)
some_found p xs e = is_place (position p xs) e

true_false : {P : Type 0} → true ≡ false → P
true_false e = cc

no_place_is : (o : Option ℕ) → is_some o ≡ false → o ≡ None
no_place_is None e = refl
no_place_is (Some k) e = true_false e

pub not_found : (p : NamedStream → Bool) (xs : List NamedStream) → is_some (position p xs) ≡ false → AllFail p xs
not_found p xs e = none_found p xs (no_place_is (position p xs) e)

-- and the other way
passes_from : (p : NamedStream → Bool) (i : ℕ) (front back : List NamedStream) (x : NamedStream) → p x ≡ true → is_some (position_from p i (front ++ x ∷ back)) ≡ true
passes_from p i [] back x good = ap is_some (cond-true _ _ _ good)
passes_from p i (y ∷ front) back x good = elim (true_or_false (p y)) [
  | inl here ↦ ap is_some (cond-true _ _ _ here)
  | inr bad ↦ ap is_some (cond-false _ _ _ bad) ∙ passes_from p (i + 1) front back x good
]

pub is_found : (p : NamedStream → Bool) (front back : List NamedStream) (x : NamedStream) → p x ≡ true → is_some (position p (front ++ x ∷ back)) ≡ true
is_found p front back x good = ap is_some (position_from-zero p (front ++ x ∷ back)) ∙ passes_from p 0 front back x good

get_behind : (front back : List NamedStream) (x : NamedStream) → slice_get (front ++ x ∷ back) (length front) ≡ Some x
get_behind [] back x = refl
get_behind (y ∷ front) back x = get_behind front back x

pub first_at : (p : NamedStream → Bool) (xs : List NamedStream) (k : ℕ) (f : IsFirst p xs k) → slice_get xs k ≡ Some f.at
first_at p xs k f = ap (λ l. slice_get l k) f.is ∙ (ap (slice_get (f.front ++ f.at ∷ f.back)) (sym f.place) ∙ get_behind f.front f.back f.at)

shorter : (front back : List NamedStream) (x : NamedStream) → length front < length (front ++ x ∷ back)
shorter [] back x = omega arith
shorter (y ∷ front) back x = omega (arith, shorter front back x)

pub place_within : (p : NamedStream → Bool) (xs : List NamedStream) (k : ℕ) → position p xs ≡ Some k → k < length xs
place_within p xs k e =
    let f = first_found p xs k e in
    omega (arith, f.place, shorter f.front f.back f.at, ap length f.is)

pub none_of : (o : Option ℕ) → ((k : ℕ) → o ≡ Some k → ⊥) → o ≡ None
none_of None h = refl
none_of (Some k) h = absurd (h k refl)
