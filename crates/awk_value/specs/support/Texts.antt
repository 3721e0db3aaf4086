-- The texts that are keys: those of 64-bit numbers, and others, which may be short.
use Rattle.std.specs.Prelude.{◌≡◌, ℕ, ℤ, ◌<◌, ◌≤◌, ◌+◌, ◌-◌, ◌*◌, ◌^◌, List, [], ◌∷◌, ◌++◌, take, length, replicate, min, slice_index}
use Rattle.std.specs.Int.Signed.{mag}
use Rattle.std.specs.Fmt.{signed_decimal}
use Rattle.std.specs.Int.{to_le_bytes, from_le_bytes}
use mir.Syntax.{w32, w64}
use Rattle.awk_value.specs.declared.short_text.ShortText.{ShortText}

-- from -2^63 to 2^63 - 1
abbrev pub IsInt64 : ℤ → Type 0
IsInt64 n = mag n < 2 ^ 63

-- the text is no decimal form of a 64-bit number
abbrev pub IsTextKey : List ℕ → Type 0
IsTextKey text = (n : ℤ) → IsInt64 n → text ≡ signed_decimal n → ⊥

-- the number that digits spell behind those of n
abbrev pub digits_after : ℕ → List ℕ → ℕ
digits_after n [] = n
digits_after n (c ∷ cs) = digits_after (n * 10 + (c - 48)) cs

-- eight bytes as a word
unfoldable pub word_at : List ℕ → ℕ → ℕ
word_at bytes at =
    from_le_bytes w64 (slice_index bytes at ∷ slice_index bytes (at + 1) ∷ slice_index bytes (at + 2) ∷ slice_index bytes (at + 3) ∷ slice_index bytes (at + 4) ∷ slice_index bytes (at + 5) ∷ slice_index bytes (at + 6) ∷ slice_index bytes (at + 7) ∷ [])

-- four bytes as a word
unfoldable pub half_at : List ℕ → ℕ → ℕ
half_at bytes at =
    from_le_bytes w32 (slice_index bytes at ∷ slice_index bytes (at + 1) ∷ slice_index bytes (at + 2) ∷ slice_index bytes (at + 3) ∷ [])

-- the bytes that the words of a short text hold
unfoldable pub room : ShortText → List ℕ
room s = to_le_bytes w64 s.first ++ (to_le_bytes w64 s.second ++ to_le_bytes w64 s.third)

-- the text that a short one keeps: the first bytes, as many as the last byte says
unfoldable pub short_text : ShortText → List ℕ
short_text s = take (min 23 (slice_index (room s) 23)) (room s)

-- a text of at most 23 bytes, zeros after it up to 23 bytes, and how many its bytes are
unfoldable pub filled : List ℕ → List ℕ
filled text = text ++ (replicate (23 - length text) 0 ++ length text ∷ [])

unfoldable pub packed : List ℕ → ShortText
packed text = record { first = word_at (filled text) 0; second = word_at (filled text) 8; third = word_at (filled text) 16 }

-- a short text is what its text makes
abbrev pub IsPadded : ShortText → Type 0
IsPadded s = (s ≡ packed (short_text s)) × (length (short_text s) ≤ 23)
