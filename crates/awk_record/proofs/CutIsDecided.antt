-- What the bytes that are there settle, no more bytes can change.
use Rattle.std.proofs.Common.{◌≡◌, ◌≢◌, ◌↔◌, inl, inr, ℕ, suc, ◌+◌, ◌-◌, ◌<◌, ◌≤◌, true, false, ◌&&◌, ◌==◌, nat_lt, List, [], ◌∷◌, ◌++◌, length, take, drop, Option, Some, None, refl, sym, ◌∙◌, ap, arith, length-append, append-nil}
use Rattle.std.proofs.lemmas.Bool.{cases_Bool, cases_lt, cond-true, cond-false, lt-ltb, ltb-true}
use Rattle.std.proofs.lemmas.Bool.Decides.{nat_tests}
use Rattle.std.proofs.lemmas.List.{take-append-le, drop-append-le, drop_all, drop-drop}
use Rattle.awk_record.specs.definitions.Cut.{Ending, AtBreak, Cut, Found, NoMore, BrokenOff, TooLong, longest, begins_with, one_later, first_at, limited, cut_at, cut_behind, newlines, without_newline, cut_of, IsDecided}

pub begins_with-append : (w xs ys : List ℕ) → begins_with w xs ≡ true → begins_with w (xs ++ ys) ≡ true
begins_with-append [] xs ys e = refl
begins_with-append (w ∷ ws) [] ys e = cc
begins_with-append (w ∷ ws) (x ∷ xs) ys e = grind (arith, nat_tests, begins_with-append ws xs ys)

pub begins_with-front : (w xs ys : List ℕ) → length w ≤ length xs → begins_with w (xs ++ ys) ≡ begins_with w xs
begins_with-front [] xs ys le = refl
begins_with-front (w ∷ ws) [] ys le = absurd (omega arith)
begins_with-front (w ∷ ws) (x ∷ xs) ys le = ap (λ b. (x == w) && b) (begins_with-front ws xs ys (omega arith))

pub begins_with-length : (w xs : List ℕ) → begins_with w xs ≡ true → length w ≤ length xs
begins_with-length [] xs e = omega arith
begins_with-length (w ∷ ws) [] e = cc
begins_with-length (w ∷ ws) (x ∷ xs) e = grind (arith, nat_tests, begins_with-length ws xs)

-- what `one_later` gives at `Some`
one_later-some : (o : Option ℕ) (i : ℕ) → one_later o ≡ Some i → (j : ℕ) × (o ≡ Some j) × (i ≡ suc j)
one_later-some None i e = cc
one_later-some (Some j) i e = (j, refl, cc)

-- the first place leaves room for the word
pub first_at-fits : (w s : List ℕ) (i : ℕ) → first_at w s ≡ Some i → i + length w ≤ length s
first_at-fits w [] i e = cc
first_at-fits w (x ∷ xs) i e = elim (cases_Bool (begins_with w (x ∷ xs))) [
  | inl holds ↦
      let is : Some 0 ≡ Some i = sym (cond-true _ _ _ holds) ∙ e in
      let zero_is : 0 ≡ i = cc in
      omega (arith, begins_with-length w (x ∷ xs) holds)
  | inr fails ↦
      let later = one_later-some (first_at w xs) i (sym (cond-false _ _ _ fails) ∙ e) in
      omega (arith, first_at-fits w xs later.0 later.1, later.2)
]

-- the first place stays the first
pub first_at-append : (w s t : List ℕ) (i : ℕ) → first_at w s ≡ Some i → first_at w (s ++ t) ≡ Some i
first_at-append w [] t i e = cc
first_at-append w (x ∷ xs) t i e = elim (cases_Bool (begins_with w (x ∷ xs))) [
  | inl holds ↦ cond-true _ _ _ (begins_with-append w (x ∷ xs) t holds) ∙ (sym (cond-true _ _ _ holds) ∙ e)
  | inr fails ↦
      let later = one_later-some (first_at w xs) i (sym (cond-false _ _ _ fails) ∙ e) in
      let fits = first_at-fits w xs later.0 later.1 in
      let still : begins_with w ((x ∷ xs) ++ t) ≡ false = begins_with-front w (x ∷ xs) t (omega (arith, fits)) ∙ fails in
      cond-false _ _ _ still ∙ (ap one_later (first_at-append w xs t later.0 later.1) ∙ ap Some (sym later.2))
]

pub one_later-none : (o : Option ℕ) → one_later o ≡ None → o ≡ None
one_later-none None e = refl
one_later-none (Some j) e = cc

-- a place that more bytes bring ends behind what was there
pub first_at-new : (w s t : List ℕ) (i : ℕ) → 0 < length w → first_at w s ≡ None → first_at w (s ++ t) ≡ Some i → length s < i + length w
first_at-new w [] t i some none e = omega arith
first_at-new w (x ∷ xs) t i some none e = elim (cases_Bool (begins_with w (x ∷ xs))) [
  | inl holds ↦ let bad : Some 0 ≡ None = sym (cond-true _ _ _ holds) ∙ none in cc
  | inr fails ↦
      let rest_none = one_later-none (first_at w xs) (sym (cond-false _ _ _ fails) ∙ none) in
      elim (cases_Bool (begins_with w ((x ∷ xs) ++ t))) [
        | inl now ↦ elim (cases_lt (length (x ∷ xs)) (length w)) [
          | inl short ↦ omega arith
          | inr fits ↦ let same = begins_with-front w (x ∷ xs) t fits in let bad : true ≡ false = sym now ∙ (same ∙ fails) in cc
        ]
        | inr still ↦
            let later = one_later-some (first_at w (xs ++ t)) i (sym (cond-false _ _ _ still) ∙ e) in
            omega (arith, first_at-new w xs t later.0 some rest_none later.1, later.2)
      ]
]

-- settled as it is, the cut stays the same behind the same skipped bytes
limited-found : (n : ℕ) (c : Cut) (first rest : List ℕ) → limited n c ≡ Found first rest → (nat_lt longest n ≡ false) × (c ≡ Found first rest)
limited-found n c first rest e = elim (cases_Bool (nat_lt longest n)) [
  | inl over ↦ let bad : TooLong ≡ Found first rest = sym (cond-true _ _ _ over) ∙ e in cc
  | inr within ↦ (within, sym (cond-false _ _ _ within) ∙ e)
]

found_more : (o : Option ℕ) (k : ℕ) (w : List ℕ) (trim : List ℕ → List ℕ) (s t : List ℕ) (ending : Ending) (first rest : List ℕ) →
    o ≡ first_at w s → cut_at o k w trim s AtBreak ≡ Found first rest → cut_at (first_at w (s ++ t)) k w trim (s ++ t) ending ≡ Found first (rest ++ t)
found_more None k w trim s t ending first rest is e =
    let parts = limited-found (k + length s) BrokenOff first rest e in
    let bad : BrokenOff ≡ Found first rest = parts.1 in cc
found_more (Some i) k w trim s t ending first rest is e =
    let parts = limited-found (k + (i + length w)) (Found (take i s) (drop (i + length w) s)) first rest e in
    let fits : i + length w ≤ length s = first_at-fits w s i (sym is) in
    let le : i ≤ length s = omega arith in
    let there : first_at w (s ++ t) ≡ Some i = first_at-append w s t i (sym is) in
    let front : take i s ≡ first = cc in
    let back : drop (i + length w) s ≡ rest = cc in
    rw there (cond-false _ _ _ parts.0 ∙ rw (take-append-le, drop-append-le, front, back) refl)

pub cut_behind-found : (k : ℕ) (w : List ℕ) (trim : List ℕ → List ℕ) (s t : List ℕ) (ending : Ending) (first rest : List ℕ) →
    cut_behind k w trim s AtBreak ≡ Found first rest → cut_behind k w trim (s ++ t) ending ≡ Found first (rest ++ t)
cut_behind-found k w trim s t ending first rest e = found_more (first_at w s) k w trim s t ending first rest refl e

limited-too_long : (n : ℕ) (c : Cut) → c ≢ TooLong → limited n c ≡ TooLong → nat_lt longest n ≡ true
limited-too_long n c other e = elim (cases_Bool (nat_lt longest n)) [
  | inl over ↦ over
  | inr within ↦ absurd (other (sym (cond-false _ _ _ within) ∙ e))
]

limited-over : (n : ℕ) (c : Cut) → longest < n → limited n c ≡ TooLong
limited-over n c over = cond-true _ _ _ (lt-ltb longest n over)

too_long_more : (o p : Option ℕ) (k : ℕ) (w : List ℕ) (trim : List ℕ → List ℕ) (s t : List ℕ) (ending : Ending) → 0 < length w →
    o ≡ first_at w s → p ≡ first_at w (s ++ t) → cut_at o k w trim s AtBreak ≡ TooLong → cut_at p k w trim (s ++ t) ending ≡ TooLong
too_long_more (Some i) p k w trim s t ending some is now e =
    let over = ltb-true longest (k + (i + length w)) (limited-too_long (k + (i + length w)) _ (λ (bad : Found (take i s) (drop (i + length w) s) ≡ TooLong). cc) e) in
    let there : p ≡ Some i = now ∙ first_at-append w s t i (sym is) in
    rw there (limited-over (k + (i + length w)) _ over)
too_long_more None (Some i) k w trim s t ending some is now e =
    let over = ltb-true longest (k + length s) (limited-too_long (k + length s) BrokenOff (λ (bad : BrokenOff ≡ TooLong). cc) e) in
    let new = first_at-new w s t i some (sym is) (sym now) in
    limited-over (k + (i + length w)) _ (omega arith)
too_long_more None None k w trim s t ending some is now e =
    let over = ltb-true longest (k + length s) (limited-too_long (k + length s) BrokenOff (λ (bad : BrokenOff ≡ TooLong). cc) e) in
    limited-over (k + length (s ++ t)) _ (omega (arith, length-append s t))

pub cut_behind-too_long : (k : ℕ) (w : List ℕ) (trim : List ℕ → List ℕ) (s t : List ℕ) (ending : Ending) → 0 < length w →
    cut_behind k w trim s AtBreak ≡ TooLong → cut_behind k w trim (s ++ t) ending ≡ TooLong
cut_behind-too_long k w trim s t ending some e =
    too_long_more (first_at w s) (first_at w (s ++ t)) k w trim s t ending some refl refl e

-- the newlines in front stay the same, unless there is nothing else
newlines-append : (bytes more : List ℕ) → newlines bytes < length bytes → newlines (bytes ++ more) ≡ newlines bytes
newlines-append [] more lt = absurd (omega arith)
newlines-append (x ∷ xs) more lt = elim (cases_Bool (x == 10)) [
  | inl newline ↦
      let count : newlines (x ∷ xs) ≡ suc (newlines xs) = cond-true _ _ _ newline in
      let both : newlines ((x ∷ xs) ++ more) ≡ suc (newlines (xs ++ more)) = cond-true _ _ _ newline in
      both ∙ (ap suc (newlines-append xs more (omega arith)) ∙ sym count)
  | inr other ↦
      let none : newlines (x ∷ xs) ≡ 0 = cond-false _ _ _ other in
      let both : newlines ((x ∷ xs) ++ more) ≡ 0 = cond-false _ _ _ other in
      both ∙ sym none
]

newlines-fit : (bytes : List ℕ) → newlines bytes ≤ length bytes
newlines-fit [] = omega arith
newlines-fit (x ∷ xs) = elim (cases_Bool (x == 10)) [
  | inl newline ↦ let count : newlines (x ∷ xs) ≡ suc (newlines xs) = cond-true _ _ _ newline in omega (arith, newlines-fit xs)
  | inr other ↦ let none : newlines (x ∷ xs) ≡ 0 = cond-false _ _ _ other in omega arith
]

newlines_at_least : (bytes more : List ℕ) → newlines bytes ≡ length bytes → length bytes ≤ newlines (bytes ++ more)
newlines_at_least [] more e = omega arith
newlines_at_least (x ∷ xs) more e = elim (cases_Bool (x == 10)) [
  | inl newline ↦
      let count : newlines (x ∷ xs) ≡ suc (newlines xs) = cond-true _ _ _ newline in
      let both : newlines ((x ∷ xs) ++ more) ≡ suc (newlines (xs ++ more)) = cond-true _ _ _ newline in
      omega (arith, newlines_at_least xs more (omega arith))
  | inr other ↦
      let none : newlines (x ∷ xs) ≡ 0 = cond-false _ _ _ other in
      absurd (omega arith)
]

-- what is found is found whatever follows
pub cut-found : (separator bytes more : List ℕ) (ending : Ending) (first rest : List ℕ) →
    cut_of separator bytes AtBreak ≡ Found first rest → cut_of separator (bytes ++ more) ending ≡ Found first (rest ++ more)
cut-found (c ∷ separator) bytes more ending first rest e = cut_behind-found 0 (c ∷ separator) (λ s. s) bytes more ending first rest e
cut-found [] bytes more ending first rest e = elim (cases_lt (newlines bytes) (length bytes)) [
  | inl lt ↦ rw (newlines-append bytes more lt, drop-append-le (newlines bytes) bytes more (newlines-fit bytes))
      (cut_behind-found (newlines bytes) (10 ∷ 10 ∷ []) without_newline (drop (newlines bytes) bytes) more ending first rest e)
  | inr all ↦
      let nothing : drop (newlines bytes) bytes ≡ [] = drop_all (newlines bytes) bytes all in
      let bad = limited-found (newlines bytes + 0) BrokenOff first rest (sym (ap (λ s. cut_behind (newlines bytes) (10 ∷ 10 ∷ []) without_newline s AtBreak) nothing) ∙ e) in
      let worse : BrokenOff ≡ Found first rest = bad.1 in cc
]

over_all : (o : Option ℕ) (k : ℕ) (w : List ℕ) (trim : List ℕ → List ℕ) (s : List ℕ) (ending : Ending) → longest < k → cut_at o k w trim s ending ≡ TooLong
over_all (Some i) k w trim s ending over = limited-over (k + (i + length w)) _ (omega arith)
over_all None k w trim s ending over = limited-over (k + length s) _ (omega arith)

pub cut-too_long : (separator bytes more : List ℕ) (ending : Ending) →
    cut_of separator bytes AtBreak ≡ TooLong → cut_of separator (bytes ++ more) ending ≡ TooLong
cut-too_long (c ∷ separator) bytes more ending e = cut_behind-too_long 0 (c ∷ separator) (λ s. s) bytes more ending (omega arith) e
cut-too_long [] bytes more ending e = elim (cases_lt (newlines bytes) (length bytes)) [
  | inl lt ↦ rw (newlines-append bytes more lt, drop-append-le (newlines bytes) bytes more (newlines-fit bytes))
      (cut_behind-too_long (newlines bytes) (10 ∷ 10 ∷ []) without_newline (drop (newlines bytes) bytes) more ending (omega arith) e)
  | inr all ↦
      let nothing : drop (newlines bytes) bytes ≡ [] = drop_all (newlines bytes) bytes all in
      let n = newlines bytes in
      let fits = newlines-fit bytes in
      let over = ltb-true longest (n + 0) (limited-too_long (n + 0) BrokenOff (λ (bad : BrokenOff ≡ TooLong). cc) (sym (ap (λ s. cut_behind n (10 ∷ 10 ∷ []) without_newline s AtBreak) nothing) ∙ e)) in
      let least = newlines_at_least bytes more (omega arith) in
      over_all (first_at (10 ∷ 10 ∷ []) (drop (newlines (bytes ++ more)) (bytes ++ more))) (newlines (bytes ++ more)) (10 ∷ 10 ∷ []) without_newline (drop (newlines (bytes ++ more)) (bytes ++ more)) ending (omega arith)
]

none_at : (o : Option ℕ) (k : ℕ) (w : List ℕ) (trim : List ℕ → List ℕ) (s : List ℕ) → cut_at o k w trim s AtBreak ≡ NoMore → ⊥
none_at (Some i) k w trim s e = elim (cases_Bool (nat_lt longest (k + (i + length w)))) [
  | inl over ↦ let bad : TooLong ≡ NoMore = sym (cond-true _ _ _ over) ∙ e in cc
  | inr within ↦ let bad : Found (take i s) (drop (i + length w) s) ≡ NoMore = sym (cond-false _ _ _ within) ∙ e in cc
]
none_at None k w trim s e = elim (cases_Bool (nat_lt longest (k + length s))) [
  | inl over ↦ let bad : TooLong ≡ NoMore = sym (cond-true _ _ _ over) ∙ e in cc
  | inr within ↦ let bad : BrokenOff ≡ NoMore = sym (cond-false _ _ _ within) ∙ e in cc
]

pub cut-never_none : (separator bytes : List ℕ) → cut_of separator bytes AtBreak ≡ NoMore → ⊥
cut-never_none (c ∷ separator) bytes e = none_at (first_at (c ∷ separator) bytes) 0 (c ∷ separator) (λ s. s) bytes e
cut-never_none [] bytes e = none_at (first_at (10 ∷ 10 ∷ []) (drop (newlines bytes) bytes)) (newlines bytes) (10 ∷ 10 ∷ []) without_newline (drop (newlines bytes) bytes) e

settled : (separator bytes : List ℕ) → IsDecided separator bytes → cut_of separator bytes AtBreak ≢ BrokenOff
settled separator bytes (inl (first, rest, always)) broken =
    let bad : BrokenOff ≡ Found first (rest ++ []) = sym broken ∙ (ap (λ b. cut_of separator b AtBreak) (sym (append-nil bytes)) ∙ always [] AtBreak) in cc
settled separator bytes (inr always) broken =
    let bad : BrokenOff ≡ TooLong = sym broken ∙ (ap (λ b. cut_of separator b AtBreak) (sym (append-nil bytes)) ∙ always [] AtBreak) in cc

settles : (separator bytes : List ℕ) (c : Cut) → cut_of separator bytes AtBreak ≡ c → c ≢ BrokenOff → IsDecided separator bytes
settles separator bytes (Found first rest) is not_broken = inl (first, rest, λ more ending. cut-found separator bytes more ending first rest is)
settles separator bytes TooLong is not_broken = inr (λ more ending. cut-too_long separator bytes more ending is)
settles separator bytes BrokenOff is not_broken = absurd (not_broken refl)
settles separator bytes NoMore is not_broken = absurd (cut-never_none separator bytes is)

-- what is there settles the record exactly where it would be no broken record if nothing followed
pub IsDecided_law : (separator bytes : List ℕ) → IsDecided separator bytes ↔ (cut_of separator bytes AtBreak ≢ BrokenOff)
IsDecided_law separator bytes = (settled separator bytes, settles separator bytes (cut_of separator bytes AtBreak) refl)

-- a place so much later
abbrev pub later_by : ℕ → Option ℕ → Option ℕ
later_by n (Some i) = Some (n + i)
later_by n None = None

later_by-one : (n : ℕ) (o : Option ℕ) → later_by n (one_later o) ≡ later_by (n + 1) o
later_by-one n None = refl
later_by-one n (Some i) = ap Some (omega arith)

-- behind the skipped bytes the places count from the front
pub stretch : (held : List ℕ) (skipped i n : ℕ) →
    Found (take (skipped + i - skipped) (drop skipped held)) (drop (skipped + (i + n)) held) ≡ Found (take i (drop skipped held)) (drop (i + n) (drop skipped held))
stretch held skipped i n =
    let same : skipped + i - skipped ≡ i = omega arith in
    rw (same, drop-drop) refl
