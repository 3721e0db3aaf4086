-- The streams of a world in memory: how many of them are open, and how far each was read.
use Rattle.std.proofs.Common.{◌≡◌, ℕ, zero, suc, ◌+◌, ◌-◌, ◌^◌, ◌<◌, subst, true, false, IsTrue, List, [], ◌∷◌, length, get_or, slice_get, slice_set, Option, Some, refl, sym, ◌∙◌, arith, ap, if◌then◌else◌}
use Rattle.std.specs.Prelude.{IfSome}
use Rattle.std.specs.Option.{option_map}
use Rattle.std.proofs.lemmas.List.{map-set}
use Rattle.std.proofs.lemmas.List.Sums.{sum_by-set}
use Rattle.std.proofs.lemmas.Option.{slice_get-map, slice_get_read}
use Rattle.awk_world.specs.declared.script_stream.ScriptStream.{ScriptStream}
use Rattle.awk_world.specs.declared.script_stream.Portion.TheVariants.{Bytes}
use Rattle.awk_world.specs.definitions.Script.{GrantedStream, stream_of, streams_of}
use Rattle.awk_world.specs.definitions.ScriptAnswers.{advanced, advanced_stream, place_after}
use Rattle.awk_world.specs.support.ScriptStreams.{open_at, open_count, CanAdvance}

open_read : (xs : List ScriptStream) (i : ℕ) (d : ScriptStream) → IsTrue (open_at (slice_get xs i)) → (i < length xs) × ((get_or xs i d).open ≡ true)
open_read [] i d h = cc
open_read (x ∷ xs) zero d h = (omega arith, h)
open_read (x ∷ xs) (suc i) d h = let later = open_read xs i d h in (omega (arith, later.0), later.1)

pub open_count-shut : (xs : List ScriptStream) (i : ℕ) (y : ScriptStream) → IsTrue (open_at (slice_get xs i)) → y.open ≡ false → open_count (slice_set xs i y) + 1 ≡ open_count xs
open_count-shut xs i y h e =
    let was = open_read xs i y h in
    let sums = sum_by-set (λ (s : ScriptStream). if s.open then 1 else 0) xs i y y was.0 in
    let one = ap {B = ℕ} (λ b. if b then 1 else 0) was.1 in
    let none = ap {B = ℕ} (λ b. if b then 1 else 0) e in
    omega (arith, sums, one, none)

-- a stream is open as it was
pub open_at-set : (xs : List ScriptStream) (i k : ℕ) (x y : ScriptStream) → x ≡ get_or xs i x → y.open ≡ x.open → open_at (slice_get (slice_set xs i y) k) ≡ open_at (slice_get xs k)
open_at-set [] i k x y is same = refl
open_at-set (z ∷ xs) zero zero x y is same = same ∙ ap (λ (s : ScriptStream). s.open) is
open_at-set (z ∷ xs) zero (suc k) x y is same = refl
open_at-set (z ∷ xs) (suc i) zero x y is same = refl
open_at-set (z ∷ xs) (suc i) (suc k) x y is same = open_at-set xs i k x y is same

-- the stream of a place
pub stream_at_place : (xs : List ScriptStream) (i : ℕ) (x : ScriptStream) → i < length xs → x ≡ get_or xs i x → slice_get (streams_of xs) i ≡ Some (stream_of x)
stream_at_place xs i x within is = slice_get-map stream_of xs i ∙ ap (option_map stream_of) (slice_get_read xs (length xs) i x refl within is)

pub same_bytes : (m n : ℕ) → Bytes m ≡ Bytes n → m ≡ n
same_bytes m n e = cc

-- so many more bytes of a stream can be counted
pub can_advance : (xs : List ScriptStream) (id i n : ℕ) (x : ScriptStream) → i + 2 ≡ id → i < length xs → x ≡ get_or xs i x → x.at + n < 2 ^ 64 → CanAdvance xs id n
can_advance xs id i n x named within is fits =
    let same : id - 2 ≡ i = omega arith in
    let found : slice_get xs (id - 2) ≡ Some x = ap (slice_get xs) same ∙ slice_get_read xs (length xs) i x refl within is in
    record {
      named = omega arith;
      within = omega arith;
      fits = subst (λ (o : Option ScriptStream). IfSome o (λ (s : ScriptStream). s.at + n < 2 ^ 64)) (sym found) fits;
    }

-- so many more bytes of a stream were read
pub streams_of-advanced : (xs : List ScriptStream) (i n : ℕ) (x y : ScriptStream) → i < length xs → x ≡ get_or xs i x → stream_of y ≡ record (stream_of x) { at = place_after x.ending (length x.bytes.items) (x.at + n) } → streams_of (slice_set xs i y) ≡ advanced i n (streams_of xs)
streams_of-advanced xs i n x y within is made =
    let found = stream_at_place xs i x within is in
    map-set stream_of xs i y ∙ (ap (λ (v : GrantedStream). slice_set (streams_of xs) i v) made ∙ sym (ap (λ (o : Option GrantedStream). advanced_stream o i n (streams_of xs)) found))
