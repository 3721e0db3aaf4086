-- Closings in turn.
use Rattle.std.proofs.Common.{◌≡◌, ◌<◌, inl, inr, ℕ, ℤ, negsuc, Bool, true, false, List, [], ◌∷◌, ◌++◌, length, Some, None, Ok, Err, refl, sym, ◌∙◌, ap, subst, append_assoc, append-nil, arith}
use Rattle.std.specs.Prelude.{slice_get, ◌==◌, if◌then◌else◌}
use Rattle.std.specs.List.{position, remove}
use Rattle.std.proofs.lemmas.Bool.{cond-true, cond-false, cases_eq, ne_eqb, eq-eqb}
use Rattle.std.proofs.lemmas.List.Edits.{length-remove}
use Rattle.std.proofs.lemmas.Option.{same_Some, slice_get_within}
use Rattle.awk_world.specs.definitions.WorldState.{WorldState}
use Rattle.awk_world.specs.definitions.Grows.{Grows}
use Rattle.awk_streams.specs.declared.fault.StreamFault.{StreamFault}
use Rattle.awk_streams.specs.declared.named.NamedStream.{NamedStream}
use Rattle.awk_streams.specs.declared.named.NamedStream.TheVariants as named
use Rattle.awk_streams.specs.definitions.Outputs.{IsOutputFault}
use Rattle.awk_streams.specs.definitions.Named.{Named}
use Rattle.awk_streams.specs.definitions.Streams.{StreamsView, name_of, is_called, held_of, FailsBy, unheld, all_unheld}
use Rattle.awk_streams.specs.definitions.Commands.{ClosesStream, ClosesEach, BringsAll, names_called, all_names, ClosesNames, ClosesText}
use Rattle.awk_streams.specs.support.Brings.{BringsHeld}
use Rattle.awk_streams.specs.support.Closes.{ClosesAt, without_place}
use Rattle.awk_streams.specs.support.ClosesSoFar.{ClosesSome}
use Rattle.awk_streams.proofs.GrowsLemmas.{Grows-self, Grows-then}
use Rattle.awk_streams.proofs.NamesLemmas.{AllFail, first_found, none_found, first_at}
use Rattle.awk_streams.proofs.ViewLemmas.{loses_bytes}
use Rattle.awk_streams.proofs.CloseLemmas.{removed}

-- one more

closes_more : (xs : List Named) (first : ℤ) (before mid after : WorldState) (old s new : StreamsView) (answer told : ℤ) (x : Named) → ClosesEach xs first before old answer mid s → ClosesStream x mid s told after new → ClosesEach (xs ++ x ∷ []) first before old told after new
closes_more [] first before mid after old s new answer told x (is, world, view) closes =
    (told, after, new, subst (λ (v : StreamsView). ClosesStream x before v told after new) view (subst (λ (w : WorldState). ClosesStream x w s told after new) world closes), (refl, refl, refl))
closes_more (y ∷ ys) first before mid after old s new answer told x (t, world, view, this, later) closes =
    (t, world, view, this, closes_more ys t world mid after view s new answer told x later closes)

pub closes_none : (all : List Named) (first : ℤ) (world : WorldState) (s : StreamsView) → ClosesSome all all first world s first world s
closes_none all first world s = record { done = []; parts = refl; closes = (refl, refl, refl) }

closes_on : (all left : List Named) (x : Named) (first answer told : ℤ) (before mid after : WorldState) (old s new : StreamsView) → ClosesSome all (x ∷ left) first before old answer mid s → ClosesStream x mid s told after new → ClosesSome all left first before old told after new
closes_on all left x first answer told before mid after old s new some closes = record {
  done = some.done ++ x ∷ [];
  parts = some.parts ∙ sym (append_assoc some.done (x ∷ []) left);
  closes = closes_more some.done first before mid after old s new answer told x some.closes closes;
}

pub closes_all : (all left : List Named) (first answer : ℤ) (before after : WorldState) (old new : StreamsView) → ClosesSome all left first before old answer after new → left ≡ [] → ClosesEach all first before old answer after new
closes_all all left first answer before after old new some none =
    subst (λ (l : List Named). ClosesEach l first before old answer after new) (sym (some.parts ∙ (ap (λ l. some.done ++ l) none ∙ append-nil some.done))) some.closes

-- the streams of a text

names_front : (text : List ℕ) (front back : List NamedStream) (x : NamedStream) → AllFail (is_called text) front → is_called text x ≡ true → names_called text (front ++ x ∷ back) ≡ name_of x ∷ names_called text (front ++ back)
names_front text [] back x fails passes = cond-true _ _ _ passes
names_front text (y ∷ front) back x fails passes = cond-false _ _ _ fails.0 ∙ (names_front text front back x fails.1 passes ∙ ap (λ l. name_of x ∷ l) (sym (cond-false _ _ _ fails.0)))

names_none : (text : List ℕ) (xs : List NamedStream) → AllFail (is_called text) xs → names_called text xs ≡ []
names_none text [] fails = refl
names_none text (y ∷ ys) fails = cond-false _ _ _ fails.0 ∙ names_none text ys fails.1

pub no_names : (text : List ℕ) (xs : List NamedStream) → position (is_called text) xs ≡ None → names_called text xs ≡ []
no_names text xs none = names_none text xs (none_found (is_called text) xs none)

called_by : (text : List ℕ) (x : NamedStream) → is_called text (unheld x) ≡ is_called text x
called_by text (named.Input k n input) = refl
called_by text (named.Output k n output) = refl

named_by : (x : NamedStream) → name_of (unheld x) ≡ name_of x
named_by (named.Input k n input) = refl
named_by (named.Output k n output) = refl

names_unheld : (text : List ℕ) (xs : List NamedStream) → names_called text (all_unheld xs) ≡ names_called text xs
names_unheld text [] = refl
names_unheld text (x ∷ xs) =
    ap (λ b. if b then name_of (unheld x) ∷ names_called text (all_unheld xs) else names_called text (all_unheld xs)) (called_by text x)
    ∙ (ap (λ n. if is_called text x then n ∷ names_called text (all_unheld xs) else names_called text (all_unheld xs)) (named_by x) ∙ ap (λ l. if is_called text x then name_of x ∷ l else l) (names_unheld text xs))

pub but_held_names : (text : List ℕ) (xs ys : List NamedStream) → all_unheld ys ≡ all_unheld xs → names_called text ys ≡ names_called text xs
but_held_names text xs ys same = sym (names_unheld text ys) ∙ (ap (names_called text) same ∙ names_unheld text xs)

all_names_unheld : (xs : List NamedStream) → all_names (all_unheld xs) ≡ all_names xs
all_names_unheld [] = refl
all_names_unheld (x ∷ xs) = ap (λ n. n ∷ all_names (all_unheld xs)) (named_by x) ∙ ap (λ l. name_of x ∷ l) (all_names_unheld xs)

pub but_held_all_names : (xs ys : List NamedStream) → all_unheld ys ≡ all_unheld xs → all_names ys ≡ all_names xs
but_held_all_names xs ys same = sym (all_names_unheld ys) ∙ (ap all_names same ∙ all_names_unheld xs)

-- the first of them is closed

same_stream : (xs : List NamedStream) (i : ℕ) (x y : NamedStream) → slice_get xs i ≡ Some x → slice_get xs i ≡ Some y → x ≡ y
same_stream xs i x y p q = same_Some x y (sym p ∙ q)

called_left : (text : List ℕ) (xs : List NamedStream) (place : ℕ) (x : NamedStream) → position (is_called text) xs ≡ Some place → slice_get xs place ≡ Some x → names_called text xs ≡ name_of x ∷ names_called text (remove xs place)
called_left text xs place x found at =
    let f = first_found (is_called text) xs place found in
    let same : f.at ≡ x = same_stream xs place f.at x (first_at (is_called text) xs place f) at in
    let gone : remove xs place ≡ f.front ++ f.back = removed xs place f.at record { front = f.front; back = f.back; is = f.is; place_is = f.place } in
    ap (names_called text) f.is ∙ (names_front text f.front f.back f.at f.fails f.passes ∙ (ap (λ (z : NamedStream). name_of z ∷ names_called text (f.front ++ f.back)) same ∙ ap (λ l. name_of x ∷ names_called text l) (sym gone)))

pub closes_called : (text : List ℕ) (all : List Named) (place : ℕ) (first answer told : ℤ) (before mid after : WorldState) (old s new : StreamsView) → position (is_called text) s.named ≡ Some place → ClosesSome all (names_called text s.named) first before old answer mid s → new ≡ without_place place s →
    ClosesAt place mid s told after new → ClosesSome all (names_called text new.named) first before old told after new
closes_called text all place first answer told before mid after old s new found some is closes =
    let left = called_left text s.named place closes.stream found closes.at in
    let some' = subst (λ (l : List Named). ClosesSome all l first before old answer mid s) left some in
    let on = closes_on all (names_called text (remove s.named place)) (name_of closes.stream) first answer told before mid after old s new some' closes.closes in
    subst (λ (v : StreamsView). ClosesSome all (names_called text v.named) first before old told after new) (sym is) on

all_left : (xs : List NamedStream) (x : NamedStream) → slice_get xs 0 ≡ Some x → all_names xs ≡ name_of x ∷ all_names (remove xs 0)
all_left [] x at = absurd (omega (arith, slice_get_within [] 0 x at))
all_left (y ∷ ys) x at = ap (λ (z : NamedStream). name_of z ∷ all_names ys) (same_Some y x at)

pub closes_first : (all : List Named) (first answer told : ℤ) (before mid after : WorldState) (old s new : StreamsView) → ClosesSome all (all_names s.named) first before old answer mid s → new ≡ without_place 0 s → ClosesAt 0 mid s told after new → ClosesSome all (all_names new.named) first before old told after new
closes_first all first answer told before mid after old s new some is closes =
    let some' = subst (λ (l : List Named). ClosesSome all l first before old answer mid s) (all_left s.named closes.stream closes.at) some in
    let on = closes_on all (all_names (remove s.named 0)) (name_of closes.stream) first answer told before mid after old s new some' closes.closes in
    subst (λ (v : StreamsView). ClosesSome all (all_names v.named) first before old told after new) (sym is) on

pub fewer : (s new : StreamsView) (place : ℕ) → place < length s.named → new ≡ without_place place s → length new.named < length s.named
fewer s new place within is = omega (arith, length-remove s.named place within, ap (λ (v : StreamsView). length v.named) is)

-- what closings in turn keep

pub each_grows : (xs : List Named) (first answer : ℤ) (before after : WorldState) (old new : StreamsView) → ClosesEach xs first before old answer after new → Grows before after
each_grows [] first answer before after old new (is, world, view) = subst (λ (w : WorldState). Grows before w) (sym world) (Grows-self before)
each_grows (x ∷ xs) first answer before after old new (told, world, view, this, later) = Grows-then this.grows (each_grows xs told answer world after view new later)

pub each_no_failure : (xs : List Named) (first answer : ℤ) (before after : WorldState) (old new : StreamsView) → ClosesEach xs first before old answer after new → after.failures ≡ before.failures
each_no_failure [] first answer before after old new (is, world, view) = ap (λ (w : WorldState). w.failures) world
each_no_failure (x ∷ xs) first answer before after old new (told, world, view, this, later) = each_no_failure xs told answer world after view new later ∙ this.no_failure

-- the closing of a text

pub closes_nothing : (text : List ℕ) (world : WorldState) (s : StreamsView) → position (is_called text) s.named ≡ None → ClosesText text world s (Ok (negsuc 0)) world s
closes_nothing text world s none = record {
  grows = Grows-self world;
  closed = subst (λ (l : List Named). ClosesNames l world s (negsuc 0) world s) (sym (no_names text s.named none)) (refl, refl, refl);
  failure = refl;
}

closes_names : (xs : List Named) (before mid after : WorldState) (old s new : StreamsView) (answer : ℤ) → (xs ≡ [] → ⊥) → BringsAll before old mid s → ClosesEach xs (negsuc 0) mid s answer after new → ClosesNames xs before old answer after new
closes_names [] before mid after old s new answer some brings closes = absurd (some refl)
closes_names (x ∷ xs) before mid after old s new answer some brings closes = record { world = mid; streams = s; brings = brings; closes = closes }

nothing_is : (x : Named) (xs : List Named) → [] ≡ x ∷ xs → ⊥
nothing_is x xs e = cc

some_names : (text : List ℕ) (xs : List NamedStream) (place : ℕ) → position (is_called text) xs ≡ Some place → names_called text xs ≡ [] → ⊥
some_names text xs place found none =
    let f = first_found (is_called text) xs place found in
    nothing_is _ _ (sym none ∙ called_left text xs place f.at found (first_at (is_called text) xs place f))

pub closes_brought : (text : List ℕ) (place : ℕ) (before mid after : WorldState) (old s new : StreamsView) (answer : ℤ) → position (is_called text) old.named ≡ Some place → all_unheld s.named ≡ all_unheld old.named → BringsAll before old mid s → ClosesEach (names_called text s.named) (negsuc 0) mid s answer after new →
    ClosesText text before old (Ok answer) after new
closes_brought text place before mid after old s new answer found same brings closes =
    let names : names_called text s.named ≡ names_called text old.named = but_held_names text old.named s.named same in
    let closes' = subst (λ (l : List Named). ClosesEach l (negsuc 0) mid s answer after new) names closes in
    record {
      grows = Grows-then brings.grows (each_grows (names_called text s.named) (negsuc 0) answer mid after s new closes);
      closed = closes_names (names_called text old.named) before mid after old s new answer (some_names text old.named place found) brings closes';
      failure = each_no_failure (names_called text s.named) (negsuc 0) answer mid after s new closes ∙ brings.no_failure;
    }

pub closes_unbrought : (text : List ℕ) (before mid : WorldState) (old s : StreamsView) (e : StreamFault) → IsOutputFault e → BringsHeld before (held_of old) (Err e) mid (held_of s) → FailsBy e before mid → ClosesText text before old (Err e) mid s
closes_unbrought text before mid old s e (inl memory) brings fails =
    subst (λ (f : StreamFault). ClosesText text before old (Err f) mid s) (sym memory) record {
      grows = brings.touches.grows;
      closed = loses_bytes before mid old s (Err e) brings;
      failure = subst (λ (f : StreamFault). FailsBy f before mid) memory fails;
    }
closes_unbrought text before mid old s e (inr failed) brings fails =
    subst (λ (f : StreamFault). ClosesText text before old (Err f) mid s) (sym failed) record {
      grows = brings.touches.grows;
      closed = loses_bytes before mid old s (Err e) brings;
      failure = subst (λ (f : StreamFault). FailsBy f before mid) failed fails;
    }

-- none is left

pub empty_names : (xs : List NamedStream) → length xs ≡ 0 → all_names xs ≡ []
empty_names [] e = refl
empty_names (x ∷ xs) e = absurd (omega (arith, e))

no_streams : (xs : List NamedStream) → length xs ≡ 0 → xs ≡ []
no_streams [] e = refl
no_streams (x ∷ xs) e = absurd (omega (arith, e))

pub empty_is : (old s : StreamsView) → record s { named = [] } ≡ record old { named = [] } → length s.named ≡ 0 → s ≡ record old { named = [] }
empty_is old s rest none = ap (λ l. record s { named = l }) (no_streams s.named none) ∙ rest

-- by the test of the code

true_false : {P : Type 0} → true ≡ false → P
true_false e = cc

pub zero_of : (n : ℕ) (b : Bool) → b ≡ true → b ≡ (n == 0) → n ≡ 0
zero_of n b yes' is = elim (cases_eq n 0) [
  | inl same ↦ same
  | inr differs ↦ true_false (sym yes' ∙ (is ∙ ne_eqb n 0 differs))
]

pub more_of : (n : ℕ) (b : Bool) → b ≡ false → b ≡ (n == 0) → 0 < n
more_of n b no' is = elim (cases_eq n 0) [
  | inl same ↦ true_false (sym (eq-eqb n 0 same) ∙ (sym is ∙ no'))
  | inr differs ↦ omega (arith, differs)
]
