-- An element of ARGV that assigns: its name stands before a byte of it.
use Rattle.std.proofs.Common.{◌≡◌, ◌==◌, ◌&&◌, ℕ, suc, ◌<◌, Bool, true, false, if◌then◌else◌, List, [], ◌∷◌, length, take, drop, refl, ap, arith}
use Rattle.std.specs.List.{prefix_len}
use Rattle.std.specs.Prelude.{bytes_eq, codes}
use Rattle.std.proofs.lemmas.List.{length-take, length-drop}
use Rattle.awk_lex.specs.Words.{is_word, is_word_byte}
use Rattle.awk_semantics.specs.Inputs.{Nothing, Assignment, StandardInput, AFile, input_named, split_name, operand_of}

not_named : (x text : List ℕ) (b : Bool) → Assignment x text ≡ (if b then StandardInput else AFile) → ⊥
not_named x text true e = let f : Assignment x text ≡ StandardInput = e in absurd (cc)
not_named x text false e = let f : Assignment x text ≡ AFile = e in absurd (cc)

named_within : (word text : List ℕ) (b : ℕ) (named : Bool) (i n : ℕ) → drop i word ≡ b ∷ text → Assignment (take n word) (drop (suc n) word) ≡ (if named then Assignment (take i word) text else input_named word) → n < length word
named_within word text b true i n is e =
    let f : Assignment (take n word) (drop (suc n) word) ≡ Assignment (take i word) text = e in
    let same : take n word ≡ take i word = cc in
    omega (arith, simp length-take at (ap length same), simp length-drop at (ap length is))
named_within word text b false i n is e = absurd (not_named (take n word) (drop (suc n) word) (bytes_eq word (codes "-")) e)

split_within : (word behind : List ℕ) (i n : ℕ) → drop i word ≡ behind → Assignment (take n word) (drop (suc n) word) ≡ split_name word (take i word) behind → n < length word
split_within word [] i n is e = absurd (not_named (take n word) (drop (suc n) word) (bytes_eq word (codes "-")) e)
split_within word (b ∷ text) i n is e = named_within word text b (b == 61 && is_word (take i word)) i n is e

pub assignment_within : (word : List ℕ) (n : ℕ) → Assignment (take n word) (drop (suc n) word) ≡ operand_of word → n < length word
assignment_within [] n e = let f : Assignment (take n []) (drop (suc n) []) ≡ Nothing = e in absurd (cc)
assignment_within (b ∷ bs) n e =
    let word : List ℕ = b ∷ bs in
    split_within word (drop (prefix_len is_word_byte word) word) (prefix_len is_word_byte word) n refl e
