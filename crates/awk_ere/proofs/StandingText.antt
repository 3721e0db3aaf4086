-- A text that stands in a text.
use Rattle.std.proofs.Common.{◌≡◌, ℕ, zero, suc, ◌+◌, ◌-◌, ◌<◌, ◌≤◌, List, [], ◌∷◌, ◌++◌, length, take, drop, get_or, Option, Some, refl, sym, ap, subst, ◌∙◌, arith}
use Rattle.std.specs.Prelude.{slice_get, slice_index}
use Rattle.std.specs.List.{All}
use Rattle.std.proofs.lemmas.Option.{slice_get_within, get_or_from_slice_get, slice_get-get_or}
use Rattle.std.proofs.lemmas.List.{length-drop, get_or-drop, take_all}
use Rattle.memchr.specs.Find.{OccursAt, FindsNeedle}
use Rattle.awk_ere.specs.support.Layout.{byte_count}

-- the bytes stand in s from i up to j
abbrev pub Stands : List ℕ → List ℕ → ℕ → ℕ → Type 0
Stands s [] i j = i ≡ j
Stands s (b ∷ l) i j = (slice_get s i ≡ Some b) × Stands s l (suc i) j

pub stands_append : (s l1 l2 : List ℕ) (i k j : ℕ) → Stands s l1 i k → Stands s l2 k j → Stands s (l1 ++ l2) i j
stands_append s [] l2 i k j e h = subst (λ a. Stands s l2 a j) (sym e) h
stands_append s (b ∷ l) l2 i k j h g = (h.0, stands_append s l l2 (suc i) k j h.1 g)

pub stands_split : (s l1 l2 : List ℕ) (i j : ℕ) → Stands s (l1 ++ l2) i j → (k : ℕ) × Stands s l1 i k × Stands s l2 k j
stands_split s [] l2 i j h = (i, refl, h)
stands_split s (b ∷ l) l2 i j h = let r = stands_split s l l2 (suc i) j h.1 in (r.0, (h.0, r.1), r.2)

abbrev pub Small : List ℕ → Type 0
Small [] = Unit {0}
Small (b ∷ l) = (b < byte_count) × Small l

pub small_bytes : (l : List ℕ) → All (λ b. b < byte_count) l → Small l
small_bytes [] a = tt
small_bytes (b ∷ l) a = (a 0 0 (omega arith), small_bytes l (λ i d lt. a (suc i) d (omega (arith, lt))))

pub small_left : (l1 l2 : List ℕ) → Small (l1 ++ l2) → Small l1
small_left [] l2 a = tt
small_left (b ∷ l) l2 a = (a.0, small_left l l2 a.1)

pub small_right : (l1 l2 : List ℕ) → Small (l1 ++ l2) → Small l2
small_right [] l2 a = a
small_right (b ∷ l) l2 a = small_right l l2 a.1

front_reads : (s : List ℕ) (b : ℕ) (l : List ℕ) (i : ℕ) → slice_index s i ≡ b → ((k : ℕ) → k < length l → slice_index s (suc i + k) ≡ slice_index l k) → (k : ℕ) → k < length (b ∷ l) → slice_index s (i + k) ≡ slice_index (b ∷ l) k
front_reads s b l i here later zero lt = ap (slice_index s) (omega arith) ∙ here
front_reads s b l i here later (suc k) lt = ap (slice_index s) (omega arith) ∙ later k (omega (arith, lt))

pub stands_occurs : (s l : List ℕ) (i j : ℕ) → i ≤ length s → Stands s l i j → OccursAt s l i × (j ≡ i + length l)
stands_occurs s [] i j le e = (record { fits = omega (arith, le); reads = λ k lt. absurd (omega (arith, lt)) }, omega (arith, e))
stands_occurs s (b ∷ l) i j le h =
    let r = stands_occurs s l (suc i) j (slice_get_within s i b h.0) h.1 in
    (record { fits = omega (arith, r.0.fits); reads = front_reads s b l i (get_or_from_slice_get s i b 0 h.0) r.0.reads }, omega (arith, r.1))

pub occurs_stands : (s l : List ℕ) (i : ℕ) → OccursAt s l i → Stands s l i (i + length l)
occurs_stands s [] i o = omega arith
occurs_stands s (b ∷ l) i o =
    let here : slice_index s i ≡ b = ap (slice_index s) (omega arith) ∙ o.reads 0 (omega arith) in
    let next : OccursAt s l (suc i) = record {
      fits = omega (arith, o.fits);
      reads = λ k lt. ap (slice_index s) (omega arith) ∙ o.reads (suc k) (omega (arith, lt));
    } in
    (slice_get-get_or s i 0 (omega (arith, o.fits)) ∙ ap Some here, subst (λ n. Stands s l (suc i) n) (omega arith) (occurs_stands s l (suc i) next))

-- ---- a text behind a place of a text

pub occurs_behind : (s needle : List ℕ) (from k : ℕ) → from ≤ k → OccursAt s needle k → OccursAt (drop from s) needle (k - from)
occurs_behind s needle from k le o = record {
  fits = omega (arith, o.fits, le, length-drop from s);
  reads = λ j lt.
      get_or-drop from s (k - from + j) 0
      ∙ ap (λ n. get_or s n 0) (let e : from + (k - from + j) ≡ k + j = omega (arith, le) in e)
      ∙ o.reads j lt;
}

pub occurs_before : (s needle : List ℕ) (from k : ℕ) → from ≤ length s → OccursAt (drop from s) needle k → OccursAt s needle (from + k)
occurs_before s needle from k le o = record {
  fits = omega (arith, o.fits, le, length-drop from s);
  reads = λ j lt.
      ap (λ n. get_or s n 0) (let e : from + k + j ≡ from + (k + j) = omega arith in e)
      ∙ sym (get_or-drop from s (k + j) 0)
      ∙ o.reads j lt;
}

pub rest_finds : (s needle : List ℕ) (from : ℕ) (found : Option ℕ) → FindsNeedle (take (length s - from) (drop from s)) needle 0 found → FindsNeedle (drop from s) needle 0 found
rest_finds s needle from found first =
    subst (λ l. FindsNeedle l needle 0 found) (take_all (length s - from) (drop from s) (omega (arith, length-drop from s))) first
