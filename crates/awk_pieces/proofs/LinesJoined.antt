-- The first record of a text that ends in a newline is that of the text with more behind it.
use Rattle.std.proofs.Common.{◌≡◌, ◌⊎◌, inl, inr, ℕ, ◌+◌, ◌-◌, ◌<◌, ◌≤◌, false, nat_lt, List, [], ◌∷◌, ◌++◌, length, take, drop, Option, Some, None, refl, sym, ◌∙◌, ap, subst, arith, length-append, length-drop, append-nil}
use Rattle.std.proofs.lemmas.Bool.{cases_Bool, cases_lt, cond-true, cond-false}
use Rattle.std.proofs.lemmas.List.{take-append-le, drop-append-le, drop_all}
use Rattle.awk_record.specs.definitions.Cut.{AtEnd, Cut, Found, NoMore, TooLong, longest, begins_with, first_at, limited, cut_at, cut_of}
use Rattle.awk_record.proofs.CutIsDecided.{first_at-fits, first_at-append, one_later-none}
use Rattle.awk_pieces.specs.definitions.LawOfPieces.{EndsLine}

abbrev pub newline : List ℕ
newline = 10 ∷ []

-- where a text and more behind it are read record by record, and the text ends with a record
abbrev pub Joins : (bytes more : List ℕ) → Type 0
Joins bytes more = EndsLine bytes ⊎ (more ≡ [])

limited_found : (n : ℕ) (c : Cut) (first rest : List ℕ) → limited n c ≡ Found first rest → (nat_lt longest n ≡ false) × (c ≡ Found first rest)
limited_found n c first rest e = elim (cases_Bool (nat_lt longest n)) [
  | inl over ↦ let bad : TooLong ≡ Found first rest = sym (cond-true _ _ _ over) ∙ e in cc
  | inr within ↦ (within, sym (cond-false _ _ _ within) ∙ e)
]

limited_none : (n : ℕ) (c : Cut) → limited n c ≡ NoMore → c ≡ NoMore
limited_none n c e = elim (cases_Bool (nat_lt longest n)) [
  | inl over ↦ let bad : TooLong ≡ NoMore = sym (cond-true _ _ _ over) ∙ e in cc
  | inr within ↦ sym (cond-false _ _ _ within) ∙ e
]

-- a newline at the end is found
ends_found : (front : List ℕ) → first_at newline (front ++ newline) ≡ None → ⊥
ends_found [] e = cc
ends_found (b ∷ front) e = elim (cases_Bool (begins_with newline ((b ∷ front) ++ newline))) [
  | inl holds ↦ let bad : Some 0 ≡ None = sym (cond-true _ _ _ holds) ∙ e in cc
  | inr fails ↦ ends_found front (one_later-none _ (sym (cond-false _ _ _ fails) ∙ e))
]

-- what is left behind a place ends in a newline too
behind_ends : (n : ℕ) (bytes : List ℕ) → n ≤ length bytes → EndsLine bytes → EndsLine (drop n bytes)
behind_ends n bytes le (inl e) = let none : length bytes ≡ 0 = ap length e in inl (drop_all n bytes (omega arith))
behind_ends n bytes le (inr ends) = elim (cases_lt (length ends.0) n) [
  | inl past ↦ let all : length bytes ≡ length ends.0 + 1 = ap length ends.1 ∙ length-append ends.0 newline in inl (drop_all n bytes (omega arith))
  | inr within ↦ inr (drop n ends.0, ap (drop n) ends.1 ∙ drop-append-le n ends.0 newline within)
]

-- the record is found with more behind it, and so much is left
pub record JoinedCut (bytes more first left : List ℕ) : Type 0 where
  pub found : cut_of newline (bytes ++ more) AtEnd ≡ Found first (left ++ more)
  pub joins : Joins left more
  pub shorter : length left < length bytes

by_place : (o : Option ℕ) (bytes more first left : List ℕ) → first_at newline bytes ≡ o → EndsLine bytes → cut_at o 0 newline (λ b. b) bytes AtEnd ≡ Found first left → JoinedCut bytes more first left
by_place None [] more first left is ends e = let parts = limited_found 0 NoMore first left e in let bad : NoMore ≡ Found first left = parts.1 in cc
by_place None (b ∷ bytes) more first left is (inl none) e = cc
by_place None (b ∷ bytes) more first left is (inr ends) e = absurd (ends_found ends.0 (ap (first_at newline) (sym ends.1) ∙ is))
by_place (Some i) bytes more first left is ends e =
    let parts = limited_found (0 + (i + 1)) (Found (take i bytes) (drop (i + 1) bytes)) first left e in
    let fits : i + 1 ≤ length bytes = first_at-fits newline bytes i is in
    let le : i ≤ length bytes = omega arith in
    let there : first_at newline (bytes ++ more) ≡ Some i = first_at-append newline bytes more i is in
    let front : take i bytes ≡ first = cc in
    let back : drop (i + 1) bytes ≡ left = cc in
    let size : length left ≡ length bytes - (i + 1) = ap length (sym back) ∙ length-drop (i + 1) bytes in
    record {
      found = rw there (cond-false _ _ _ parts.0 ∙ rw (take-append-le, drop-append-le, front, back) refl);
      joins = inl (subst EndsLine back (behind_ends (i + 1) bytes fits ends));
      shorter = omega arith;
    }

shorter_by : (o : Option ℕ) (bytes first left : List ℕ) → first_at newline bytes ≡ o → cut_at o 0 newline (λ b. b) bytes AtEnd ≡ Found first left → length left < length bytes
shorter_by None [] first left is e = let parts = limited_found 0 NoMore first left e in let bad : NoMore ≡ Found first left = parts.1 in cc
shorter_by None (b ∷ bytes) first left is e =
    let parts = limited_found (0 + length (b ∷ bytes)) (Found (b ∷ bytes) []) first left e in
    let none : [] ≡ left = cc in
    let size : length left ≡ 0 = ap length (sym none) in omega arith
shorter_by (Some i) bytes first left is e =
    let parts = limited_found (0 + (i + 1)) (Found (take i bytes) (drop (i + 1) bytes)) first left e in
    let fits : i + 1 ≤ length bytes = first_at-fits newline bytes i is in
    let back : drop (i + 1) bytes ≡ left = cc in
    let size : length left ≡ length bytes - (i + 1) = ap length (sym back) ∙ length-drop (i + 1) bytes in
    omega arith

pub joined_cut : (bytes more first left : List ℕ) → Joins bytes more → cut_of newline bytes AtEnd ≡ Found first left → JoinedCut bytes more first left
joined_cut bytes more first left (inl ends) e = by_place (first_at newline bytes) bytes more first left refl ends e
joined_cut bytes more first left (inr none) e = record {
  found = rw (none, append-nil, append-nil) e;
  joins = inr none;
  shorter = shorter_by (first_at newline bytes) bytes first left refl e;
}

none_by : (o : Option ℕ) (bytes : List ℕ) → cut_at o 0 newline (λ b. b) bytes AtEnd ≡ NoMore → bytes ≡ []
none_by None [] e = refl
none_by None (b ∷ bytes) e = let bad : Found (b ∷ bytes) [] ≡ NoMore = limited_none _ _ e in cc
none_by (Some i) bytes e = let bad : Found (take i bytes) (drop (i + 1) bytes) ≡ NoMore = limited_none _ _ e in cc

pub no_more : (bytes : List ℕ) → cut_of newline bytes AtEnd ≡ NoMore → bytes ≡ []
no_more bytes e = none_by (first_at newline bytes) bytes e
