-- Short texts as words: what is packed is the text.
use Rattle.std.proofs.Common.{◌≡◌, ℕ, zero, suc, ◌+◌, ◌-◌, ◌<◌, ◌≤◌, List, [], ◌∷◌, ◌++◌, take, drop, length, get_or, replicate, min, refl, sym, ap, ◌∙◌, arith, append_assoc, length-append, w64}
use Rattle.std.specs.Prelude.{slice_index}
use Rattle.std.specs.Int.{to_le_bytes}
use Rattle.std.specs.List.{AllByRecursion}
use Rattle.std.proofs.Math.Seq.{drop-cons, take-append_seam}
use Rattle.std.proofs.lemmas.List.{length-replicate, take_all}
use Rattle.std.proofs.lemmas.Nat.{le_bytes_8}
use Rattle.awk_value.specs.declared.short_text.ShortText.{ShortText}
use Rattle.awk_value.specs.support.Texts.{word_at, room, short_text, filled, packed}

-- bytes
abbrev AreBytes : List ℕ → Type 0
AreBytes xs = AllByRecursion (λ b. b < 256) xs

all-bytes : (xs : List ℕ) → ((i : ℕ) → get_or xs i 0 < 256) → AreBytes xs
all-bytes [] h = tt
all-bytes (x ∷ xs) h = (h 0, all-bytes xs (λ i. h (suc i)))

get-byte : (xs : List ℕ) → AreBytes xs → (i : ℕ) → get_or xs i 0 < 256
get-byte [] a i = omega arith
get-byte (x ∷ xs) a zero = a.0
get-byte (x ∷ xs) a (suc i) = get-byte xs a.1 i

both-bytes : (xs ys : List ℕ) → AreBytes xs → AreBytes ys → AreBytes (xs ++ ys)
both-bytes [] ys a b = b
both-bytes (x ∷ xs) ys a b = (a.0, both-bytes xs ys a.1 b)

zero-bytes : (m : ℕ) → AreBytes (replicate m 0)
zero-bytes zero = tt
zero-bytes (suc m) = (omega arith, zero-bytes m)

-- the elements of a list, one by one
gets : ℕ → List ℕ → ℕ → List ℕ
gets zero l at = []
gets (suc k) l at = slice_index l at ∷ gets k l (suc at)

-- eight of them
abbrev eight : List ℕ → ℕ → List ℕ
eight l at =
    slice_index l at ∷ slice_index l (at + 1) ∷ slice_index l (at + 2) ∷ slice_index l (at + 3) ∷ slice_index l (at + 4) ∷ slice_index l (at + 5) ∷ slice_index l (at + 6) ∷ slice_index l (at + 7) ∷ []

gets-are : (k : ℕ) (l : List ℕ) (at : ℕ) → at + k ≤ length l → gets k l at ≡ take k (drop at l)
unfolding gets
gets-are zero l at h = refl
gets-are (suc k) l at h =
    ap (λ r. slice_index l at ∷ r) (gets-are k l (suc at) (omega arith)) ∙ sym (ap (take (suc k)) (drop-cons l at 0 (omega arith)))

-- the last place of what is filled up
get-last : (xs : List ℕ) (v n : ℕ) → length xs ≡ n → slice_index (xs ++ v ∷ []) n ≡ v
get-last [] v zero e = refl
get-last [] v (suc n) e = absurd (omega arith)
get-last (x ∷ xs) v zero e = absurd (omega arith)
get-last (x ∷ xs) v (suc n) e = get-last xs v n (omega arith)

module _ (text : List ℕ) (few : length text ≤ 23) where
  long : length (filled text) ≡ 24
  unfolding filled
  long =
      let zeros : List ℕ = replicate (23 - length text) 0 in
      omega (arith, length-append text (zeros ++ length text ∷ []), length-append zeros (length text ∷ []), length-replicate {A = ℕ} (23 - length text) 0)

  pub count : slice_index (filled text) 23 ≡ length text
  unfolding filled
  count =
      let zeros : List ℕ = replicate (23 - length text) 0 in
      let full : length (text ++ zeros) ≡ 23 = omega (arith, length-append text zeros, length-replicate {A = ℕ} (23 - length text) 0) in
      ap (λ l. slice_index l 23) (sym (append_assoc text zeros (length text ∷ []))) ∙ get-last (text ++ zeros) (length text) 23 full

  begin : take (length text) (filled text) ≡ text
  unfolding filled
  begin = take-append_seam text (replicate (23 - length text) 0 ++ length text ∷ [])

  module _ (bytes : (i : ℕ) → get_or text i 0 < 256) where
    are : AreBytes (filled text)
    unfolding filled
    are = both-bytes text (replicate (23 - length text) 0 ++ length text ∷ []) (all-bytes text bytes) (both-bytes (replicate (23 - length text) 0) (length text ∷ []) (zero-bytes (23 - length text)) (omega arith, tt))

    byte : (i : ℕ) → slice_index (filled text) i < 256
    byte i = get-byte (filled text) are i

    word-bytes : (at : ℕ) → to_le_bytes w64 (word_at (filled text) at) ≡ eight (filled text) at
    unfolding word_at
    word-bytes at =
        let l = filled text in
        let small : AreBytes (eight l at) = (byte at, (byte (at + 1), (byte (at + 2), (byte (at + 3), (byte (at + 4), (byte (at + 5), (byte (at + 6), (byte (at + 7), tt)))))))) in
        le_bytes_8 (eight l at) (word_at l at) refl (get-byte (eight l at) small) refl

    whole : room (packed text) ≡ filled text
    unfolding room packed gets
    whole =
        let l = filled text in
        (λ j. word-bytes 0 j ++ (word-bytes 8 j ++ word-bytes 16 j))
        ∙ gets-are 24 l 0 (let e = long in omega arith) ∙ take_all 24 l (let e = long in omega arith)

    pub unpacked : short_text (packed text) ≡ text
    unfolding short_text
    unpacked =
        let least : min 23 (length text) ≡ length text = omega arith in
        (λ j. take (min 23 (slice_index (whole j) 23)) (whole j))
        ∙ ap (λ n. take (min 23 n) (filled text)) count ∙ ap (λ n. take n (filled text)) least ∙ begin

pub packed-by : (text : List ℕ) (a b c : ℕ) → a ≡ word_at (filled text) 0 → b ≡ word_at (filled text) 8 → c ≡ word_at (filled text) 16
    → ◌≡◌ {A = ShortText} (record { first = a; second = b; third = c }) (packed text)
unfolding packed
packed-by text a b c e f g = (λ j. record { first = e j; second = f j; third = g j })
