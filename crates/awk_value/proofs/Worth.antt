-- What the bytes of a word are worth together, and short texts as words of theirs.
use Rattle.std.proofs.Common.{◌≡◌, ℕ, zero, suc, ◌+◌, ◌-◌, ◌*◌, ◌/◌, ◌%◌, ◌^◌, ◌<◌, ◌≤◌, List, [], ◌∷◌, ◌++◌, take, drop, length, get_or, replicate, refl, sym, ap, subst, ◌∙◌, ⊎_elim, arith, w32, w64}
use Rattle.std.specs.Prelude.{slice_index, bit_or}
use Rattle.std.specs.Int.{from_le_bytes}
use Rattle.std.proofs.Math.ListN.{get_or-append}
use Rattle.std.proofs.Math.Nat.{add-zero, div-one}
use Rattle.std.proofs.Math.Seq.{get_or-append_right}
use Rattle.std.proofs.lemmas.Bool.{cases_lt}
use Rattle.std.proofs.lemmas.Grind.{or_before_shift}
use Rattle.std.proofs.lemmas.List.{drop-drop, get_or-drop, get_or_past, get_or-replicate, length-drop, length-replicate, take-take, take_all}
use Rattle.std.proofs.lemmas.Nat.{shr-shr, shr_high, shr_le}
use Rattle.awk_value.specs.support.Texts.{word_at, half_at, filled}
use Rattle.awk_value.proofs.Words.{count}

-- the number whose bytes these are, the lowest first
abbrev pub worth : List ℕ → ℕ
worth [] = 0
worth (b ∷ l) = b + 256 * worth l

abbrev pub Small : List ℕ → Type 0
Small [] = Unit {0}
Small (b ∷ l) = (b < 256) × Small l

pub small_bytes : (l : List ℕ) → ((i : ℕ) → get_or l i 0 < 256) → Small l
small_bytes [] h = tt
small_bytes (b ∷ l) h = (h 0, small_bytes l (λ i. h (suc i)))

pub small_behind : (n : ℕ) (l : List ℕ) → ((i : ℕ) → get_or l i 0 < 256) → Small (drop n l)
small_behind n l h = small_bytes (drop n l) (λ i. subst (λ b. b < 256) (sym (get_or-drop n l i 0)) (h (n + i)))

-- ---- words

abbrev summed : ℕ → (ℕ → ℕ) → ℕ
summed zero f = 0
summed (suc k) f = f 0 + 256 * summed k (λ i. f (suc i))

summed-zeros : (k : ℕ) → summed k (λ i. 0) ≡ 0
summed-zeros zero = refl
summed-zeros (suc k) = ap (λ n. 0 + 256 * n) (summed-zeros k)

summed-worth : (k : ℕ) (l : List ℕ) → summed k (λ i. get_or l i 0) ≡ worth (take k l)
summed-worth zero l = refl
summed-worth (suc k) [] = ap (λ n. 0 + 256 * n) (summed-zeros k)
summed-worth (suc k) (b ∷ l) = ap (λ n. b + 256 * n) (summed-worth k l)

eight-worth : (l : List ℕ) → from_le_bytes w64 l ≡ worth (take 8 l)
eight-worth l = let e : from_le_bytes w64 l ≡ summed 8 (λ i. get_or l i 0) = omega arith in e ∙ summed-worth 8 l

four-worth : (l : List ℕ) → from_le_bytes w32 l ≡ worth (take 4 l)
four-worth l = let e : from_le_bytes w32 l ≡ summed 4 (λ i. get_or l i 0) = omega arith in e ∙ summed-worth 4 l

module _ (l : List ℕ) (at : ℕ) where
  behind : (i : ℕ) → slice_index l (at + i) ≡ slice_index (drop at l) i
  behind i = sym (get_or-drop at l i 0)

  here : slice_index l at ≡ slice_index (drop at l) 0
  here = ap (slice_index l) (sym (add-zero at)) ∙ behind 0

  pub word-worth : word_at l at ≡ worth (take 8 (drop at l))
  unfolding word_at
  word-worth =
      (λ j. from_le_bytes w64 (here j ∷ behind 1 j ∷ behind 2 j ∷ behind 3 j ∷ behind 4 j ∷ behind 5 j ∷ behind 6 j ∷ behind 7 j ∷ []))
      ∙ eight-worth (drop at l)

  pub half-worth : half_at l at ≡ worth (take 4 (drop at l))
  unfolding half_at
  half-worth = (λ j. from_le_bytes w32 (here j ∷ behind 1 j ∷ behind 2 j ∷ behind 3 j ∷ [])) ∙ four-worth (drop at l)

pub copied_word : (l : List ℕ) (at n : ℕ) → n ≡ 8 → from_le_bytes w64 (take n (drop at l)) ≡ word_at l at
copied_word l at n e =
    ap (λ k. from_le_bytes w64 (take k (drop at l))) e
    ∙ eight-worth (take 8 (drop at l)) ∙ ap worth (take-take 8 8 (drop at l) (omega arith)) ∙ sym (word-worth l at)

pub copied_half : (l : List ℕ) (at n : ℕ) → n ≡ 4 → from_le_bytes w32 (take n (drop at l)) ≡ half_at l at
copied_half l at n e =
    ap (λ k. from_le_bytes w32 (take k (drop at l))) e
    ∙ four-worth (take 4 (drop at l)) ∙ ap worth (take-take 4 4 (drop at l) (omega arith)) ∙ sym (half-worth l at)

-- ---- the last bytes

shifted : (m : ℕ) (l : List ℕ) → Small l → worth l / 2 ^ (8 * m) ≡ worth (drop m l)
shifted zero l s = div-one (worth l)
shifted (suc m) [] s = omega (arith, shr_le 0 (8 * suc m))
shifted (suc m) (b ∷ l) s =
    let more : 8 * suc m ≡ 8 + 8 * m = omega arith in
    let turned : b + 256 * worth l ≡ worth l * 2 ^ 8 + b = omega arith in
    ap (λ k. (b + 256 * worth l) / 2 ^ k) more
    ∙ sym (shr-shr (b + 256 * worth l) 8 (8 * m))
    ∙ ap (λ n. n / 2 ^ (8 * m)) (ap (λ n. n / 2 ^ 8) turned ∙ shr_high (worth l) 8 b s.0)
    ∙ shifted m l s.1

-- fewer than eight bytes behind a place are the last of eight
pub rest-word : (l : List ℕ) (at missing : ℕ) → ((i : ℕ) → get_or l i 0 < 256) → 8 ≤ length l → at ≤ length l → missing + (length l - at) ≡ 7 → word_at l (length l - 8) / 2 ^ (8 * missing) / 2 ^ 8 ≡ word_at l at
rest-word l at missing bytes long within few =
    let from = length l - 8 in
    let all : take 8 (drop from l) ≡ drop from l = take_all 8 (drop from l) (omega (arith, length-drop from l)) in
    let rest : take 8 (drop at l) ≡ drop at l = take_all 8 (drop at l) (omega (arith, length-drop at l)) in
    let place : from + (missing + 1) ≡ at = omega arith in
    ap (λ n. n / 2 ^ (8 * missing) / 2 ^ 8) (word-worth l from ∙ ap worth all)
    ∙ shr-shr (worth (drop from l)) (8 * missing) 8
    ∙ ap (λ k. worth (drop from l) / 2 ^ k) (let e : 8 * missing + 8 ≡ 8 * (missing + 1) = omega arith in e)
    ∙ shifted (missing + 1) (drop from l) (small_behind from l bytes)
    ∙ ap worth (drop-drop (missing + 1) from l ∙ ap (λ n. drop n l) place)
    ∙ sym (word-worth l at ∙ ap worth rest)

-- ---- few bytes

split-worth : (l : List ℕ) → worth l ≡ worth (take 4 l) + 2 ^ 32 * worth (drop 4 l)
split-worth [] = refl
split-worth (a ∷ []) = omega arith
split-worth (a ∷ b ∷ []) = omega arith
split-worth (a ∷ b ∷ c ∷ []) = omega arith
split-worth (a ∷ b ∷ c ∷ d ∷ l) = omega arith

front-below : (l : List ℕ) → Small l → worth (take 4 l) < 2 ^ 32
front-below [] s = omega arith
front-below (a ∷ []) s = omega (arith, s.0)
front-below (a ∷ b ∷ []) s = omega (arith, s.0, s.1.0)
front-below (a ∷ b ∷ c ∷ []) s = omega (arith, s.0, s.1.0, s.1.1.0)
front-below (a ∷ b ∷ c ∷ d ∷ l) s = omega (arith, s.0, s.1.0, s.1.1.0, s.1.1.1.0)

few-word : (l : List ℕ) → length l ≤ 8 → word_at l 0 ≡ worth l
few-word l few = word-worth l 0 ∙ ap worth (take_all 8 l few)

pub two-halves : (l : List ℕ) → ((i : ℕ) → get_or l i 0 < 256) → 4 ≤ length l → length l < 8
    → bit_or (half_at l 0) (half_at l (length l - 4) / 2 ^ (8 * (8 - length l)) * 2 ^ 32 % 2 ^ 64) ≡ word_at l 0
two-halves l bytes long few =
    let from = length l - 4 in
    let all : take 4 (drop from l) ≡ drop from l = take_all 4 (drop from l) (omega (arith, length-drop from l)) in
    let place : from + (8 - length l) ≡ 4 = omega arith in
    let front = half-worth l 0 in
    let back : half_at l from / 2 ^ (8 * (8 - length l)) ≡ worth (drop 4 l) =
    ap (λ n. n / 2 ^ (8 * (8 - length l))) (half-worth l from ∙ ap worth all)
    ∙ shifted (8 - length l) (drop from l) (small_behind from l bytes)
    ∙ ap worth (drop-drop (8 - length l) from l ∙ ap (λ n. drop n l) place) in
    let low : worth (take 4 l) < 2 ^ 32 = front-below l (small_bytes l bytes) in
    let high : worth (drop 4 l) * 2 ^ 32 < 2 ^ 64 =
    let small = front-below (drop 4 l) (small_behind 4 l bytes) in
    let same = ap worth (take_all 4 (drop 4 l) (omega (arith, length-drop 4 l))) in
    omega arith in
    (λ j. bit_or (front j) (back j * 2 ^ 32 % 2 ^ 64))
    ∙ or_before_shift (worth (take 4 l)) (worth (drop 4 l)) (2 ^ 32) (2 ^ 64) refl low high
    ∙ (let e : worth (drop 4 l) * 2 ^ 32 + worth (take 4 l) ≡ worth (take 4 l) + 2 ^ 32 * worth (drop 4 l) = omega arith in e)
    ∙ sym (split-worth l) ∙ sym (few-word l (omega arith))

pub no-word : (l : List ℕ) → length l ≡ 0 → 0 ≡ word_at l 0
no-word [] e = sym (few-word [] (omega arith))
no-word (a ∷ l) e = absurd (omega arith)

pub one-word : (l : List ℕ) → length l ≡ 1 → get_or l 0 0 ≡ word_at l 0
one-word [] e = absurd (omega arith)
one-word (a ∷ []) e = let w = few-word (a ∷ []) (omega arith) in omega arith
one-word (a ∷ b ∷ l) e = absurd (omega arith)

pub two-word : (l : List ℕ) → length l ≡ 2 → ((i : ℕ) → get_or l i 0 < 256) → bit_or (get_or l 0 0) (get_or l 1 0 * 2 ^ 8 % 2 ^ 64) ≡ word_at l 0
two-word [] e h = absurd (omega arith)
two-word (a ∷ []) e h = absurd (omega arith)
two-word (a ∷ b ∷ []) e h =
    let w = few-word (a ∷ b ∷ []) (omega arith) in
    or_before_shift a b (2 ^ 8) (2 ^ 64) refl (h 0) (omega (arith, h 1)) ∙ (let s : b * 2 ^ 8 + a ≡ word_at (a ∷ b ∷ []) 0 = omega arith in s)
two-word (a ∷ b ∷ c ∷ l) e h = absurd (omega arith)

pub three-word : (l : List ℕ) → length l ≡ 3 → ((i : ℕ) → get_or l i 0 < 256)
    → bit_or (bit_or (get_or l 0 0) (get_or l 1 0 * 2 ^ 8 % 2 ^ 64)) (get_or l 2 0 * 2 ^ 16 % 2 ^ 64) ≡ word_at l 0
three-word [] e h = absurd (omega arith)
three-word (a ∷ []) e h = absurd (omega arith)
three-word (a ∷ b ∷ []) e h = absurd (omega arith)
three-word (a ∷ b ∷ c ∷ []) e h =
    let w = few-word (a ∷ b ∷ c ∷ []) (omega arith) in
    ap (λ n. bit_or n (c * 2 ^ 16 % 2 ^ 64)) (or_before_shift a b (2 ^ 8) (2 ^ 64) refl (h 0) (omega (arith, h 1)))
    ∙ or_before_shift (b * 2 ^ 8 + a) c (2 ^ 16) (2 ^ 64) refl (omega (arith, h 0, h 1)) (omega (arith, h 2))
    ∙ (let s : c * 2 ^ 16 + (b * 2 ^ 8 + a) ≡ word_at (a ∷ b ∷ c ∷ []) 0 = omega arith in s)
three-word (a ∷ b ∷ c ∷ d ∷ l) e h = absurd (omega arith)

-- ---- what is filled up

module _ (text : List ℕ) (few : length text ≤ 23) where
  filled-at : (i : ℕ) → i < 23 → slice_index (filled text) i ≡ slice_index text i
  unfolding filled
  filled-at i lt =
      let zeros : List ℕ = replicate (23 - length text) 0 in
      ⊎_elim (λ below. get_or-append text (zeros ++ length text ∷ []) 0 i below)
      (λ ge.
      let left : i - length text < 23 - length text = omega arith in
      get_or-append_right text (zeros ++ length text ∷ []) i 0 ge
      ∙ get_or-append zeros (length text ∷ []) 0 (i - length text) (omega (arith, length-replicate {A = ℕ} (23 - length text) 0))
      ∙ get_or-replicate (23 - length text) (i - length text) 0 0 left
      ∙ sym (get_or_past text i 0 ge))
      (cases_lt i (length text))

  pub filled-word : (at : ℕ) → at + 7 < 23 → word_at text at ≡ word_at (filled text) at
  unfolding word_at
  filled-word at lt =
      let f : (i : ℕ) → i < 23 → slice_index text i ≡ slice_index (filled text) i = λ i h. sym (filled-at i h) in
      (λ j. from_le_bytes w64 (f at (omega arith) j ∷ f (at + 1) (omega arith) j ∷ f (at + 2) (omega arith) j ∷ f (at + 3) (omega arith) j ∷ f (at + 4) (omega arith) j ∷ f (at + 5) (omega arith) j ∷ f (at + 6) (omega arith) j ∷ f (at + 7) (omega arith) j ∷ []))

  pub none-left : (at : ℕ) → length text ≤ at → 0 ≡ word_at text at
  none-left at le =
      sym (word-worth text at ∙ ap (λ l. worth (take 8 l)) (nil (drop at text) (omega (arith, length-drop at text))))
    where
      nil : (l : List ℕ) → length l ≡ 0 → l ≡ []
      nil [] e = refl
      nil (b ∷ l) e = absurd (omega arith)

  last-filled : word_at (filled text) 16 ≡ length text * 2 ^ 56 + word_at text 16
  unfolding word_at
  last-filled =
      omega (arith, filled-at 16 (omega arith), filled-at 17 (omega arith), filled-at 18 (omega arith), filled-at 19 (omega arith), filled-at 20 (omega arith), filled-at 21 (omega arith), filled-at 22 (omega arith), count text few, get_or_past text 23 0 few)

  pub counted-alone : length text < 16 → length text * 2 ^ 56 % 2 ^ 64 ≡ word_at (filled text) 16
  counted-alone short =
      let none = none-left 16 (omega arith) in
      let last = last-filled in
      omega arith

  module _ (bytes : (i : ℕ) → get_or text i 0 < 256) where
    seven : word_at text 16 < 2 ^ 56
    unfolding word_at
    seven = omega (arith, bytes 16, bytes 17, bytes 18, bytes 19, bytes 20, bytes 21, bytes 22, get_or_past text 23 0 few)

    pub counted : bit_or (word_at text 16) (length text * 2 ^ 56 % 2 ^ 64) ≡ word_at (filled text) 16
    counted =
        or_before_shift (word_at text 16) (length text) (2 ^ 56) (2 ^ 64) refl seven (omega arith) ∙ sym last-filled
