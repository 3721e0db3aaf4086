-- What the searches find is the first place of a word.
use Rattle.std.proofs.Common.{◌≡◌, ◌≢◌, inl, inr, ℕ, zero, suc, ◌+◌, ◌-◌, ◌<◌, ◌≤◌, true, false, ◌==◌, ◌&&◌, List, [], ◌∷◌, length, take, drop, get_or, Option, Some, None, refl, sym, ◌∙◌, ap, arith, nat_lt}
use Rattle.std.proofs.lemmas.Bool.{cases_Bool, cases_lt, cond-true, cond-false, eqb-true, eq-eqb, false≢true}
use Rattle.std.proofs.lemmas.Bool.Decides.{nat_tests}
use Rattle.std.proofs.lemmas.List.{at_drop_more, get_or-drop, length-drop}
use Rattle.memchr.specs.Find.{IsFirstByte, FindsNeedle, OccursAt, is_byte}
use Rattle.awk_record.specs.definitions.Cut.{Ending, Found, BrokenOff, TooLong, longest, begins_with, one_later, first_at, cut_at}
use Rattle.awk_record.specs.support.Boundary.{HasNoWord}
use Rattle.awk_record.proofs.CutIsDecided.{begins_with-length, one_later-none}

-- the byte doesn't stand among the first n bytes
abbrev pub IsNotAmong : (byte n : ℕ) → (bytes : List ℕ) → Type 0
IsNotAmong byte n bytes = (k : ℕ) → k < n → get_or bytes k 0 ≢ byte

-- the word begins at none of the places
pub first_at_none : (word bytes : List ℕ) → ((k : ℕ) → k < length bytes → begins_with word (drop k bytes) ≡ false) → first_at word bytes ≡ None
first_at_none word [] fails = refl
first_at_none word (b ∷ bytes) fails =
    let later : first_at word bytes ≡ None = first_at_none word bytes (λ k lt. fails (suc k) (omega arith)) in
    cond-false _ _ _ (fails 0 (omega arith)) ∙ ap one_later later

-- it begins at this place and at none before
pub first_at_some : (word bytes : List ℕ) (i : ℕ) → i < length bytes → ((k : ℕ) → k < i → begins_with word (drop k bytes) ≡ false) → begins_with word (drop i bytes) ≡ true →
    first_at word bytes ≡ Some i
first_at_some word [] i lt fails holds = absurd (omega arith)
first_at_some word (b ∷ bytes) zero lt fails holds = cond-true _ _ _ holds
first_at_some word (b ∷ bytes) (suc i) lt fails holds =
    let later : first_at word bytes ≡ Some i = first_at_some word bytes i (omega arith) (λ k lt. fails (suc k) (omega arith)) holds in
    cond-false _ _ _ (fails 0 (omega arith)) ∙ ap one_later later

-- a word of one byte
one_byte : (c : ℕ) (bytes : List ℕ) (k : ℕ) → k < length bytes → begins_with (c ∷ []) (drop k bytes) ≡ ((get_or bytes k 0 == c) && true)
one_byte c bytes k lt = at_drop_more (begins_with (c ∷ [])) bytes k 0 lt

pub byte_fails : (c : ℕ) (bytes : List ℕ) (k : ℕ) → k < length bytes → get_or bytes k 0 ≢ c → begins_with (c ∷ []) (drop k bytes) ≡ false
byte_fails c bytes k lt other = one_byte c bytes k lt ∙ grind (arith, nat_tests)

pub byte_holds : (c : ℕ) (bytes : List ℕ) (k : ℕ) → k < length bytes → get_or bytes k 0 ≡ c → begins_with (c ∷ []) (drop k bytes) ≡ true
byte_holds c bytes k lt same = one_byte c bytes k lt ∙ grind (arith, nat_tests)

-- a search from the n-th byte on reaches each byte
pub byte_nowhere : (c : ℕ) (bytes : List ℕ) (n : ℕ) → n ≤ length bytes → IsNotAmong c n bytes → IsFirstByte (is_byte c) (drop n bytes) None → IsNotAmong c (length bytes) bytes
byte_nowhere c bytes n le none found k lt is = elim (cases_lt k n) [
  | inl before ↦ none k before is
  | inr after ↦
      let place : n + (k - n) ≡ k = omega arith in
      let within : k - n < length (drop n bytes) = omega (arith, length-drop n bytes) in
      let read : get_or (drop n bytes) (k - n) 0 ≡ get_or bytes k 0 = get_or-drop n bytes (k - n) 0 ∙ ap (λ j. get_or bytes j 0) place in
      found (k - n) (omega arith) within (eq-eqb (get_or (drop n bytes) (k - n) 0) c (read ∙ is))
]

pub first_byte_none : (c : ℕ) (bytes : List ℕ) → IsNotAmong c (length bytes) bytes → first_at (c ∷ []) bytes ≡ None
first_byte_none c bytes none = first_at_none (c ∷ []) bytes (λ k lt. byte_fails c bytes k lt (none k lt))

pub first_byte_some : (c : ℕ) (bytes : List ℕ) (n i : ℕ) → n ≤ length bytes → IsNotAmong c n bytes → IsFirstByte (is_byte c) (drop n bytes) (Some i) →
    (first_at (c ∷ []) bytes ≡ Some (n + i)) × (n + i < length bytes)
first_byte_some c bytes n i le none found =
    let within : n + i < length bytes = omega (arith, found.0.high, length-drop n bytes) in
    let read : get_or (drop n bytes) i 0 ≡ get_or bytes (n + i) 0 = get_or-drop n bytes i 0 in
    let here : get_or bytes (n + i) 0 ≡ c = sym read ∙ eqb-true (get_or (drop n bytes) i 0) c found.1 in
    let fails : (k : ℕ) → k < n + i → get_or bytes k 0 ≢ c = λ k lt is. elim (cases_lt k n) [
      | inl before ↦ none k before is
      | inr after ↦
          let place : n + (k - n) ≡ k = omega arith in
          let same : get_or (drop n bytes) (k - n) 0 ≡ get_or bytes k 0 = get_or-drop n bytes (k - n) 0 ∙ ap (λ j. get_or bytes j 0) place in
          found.0.before (k - n) (omega arith) (omega arith) (eq-eqb (get_or (drop n bytes) (k - n) 0) c (same ∙ is))
    ] in
    (first_at_some (c ∷ []) bytes (n + i) within (λ k lt. byte_fails c bytes k (omega arith) (fails k lt)) (byte_holds c bytes (n + i) within here), within)

-- a word stands where it begins what is left
occurs_begins : (word bytes : List ℕ) (k : ℕ) → OccursAt bytes word k → begins_with word (drop k bytes) ≡ true
occurs_begins [] bytes k occurs = refl
occurs_begins (c ∷ word) bytes k occurs =
    let fits : k + suc (length word) ≤ length bytes = occurs.fits in
    let lt : k < length bytes = omega arith in
    let place : k + 0 ≡ k = omega arith in
    let here : get_or bytes k 0 ≡ c = ap (λ j. get_or bytes j 0) (sym place) ∙ occurs.reads 0 (omega arith) in
    let later : OccursAt bytes word (k + 1) = record {
      fits = omega arith;
      reads = λ j less. let next : k + 1 + j ≡ k + suc j = omega arith in ap (λ i. get_or bytes i 0) next ∙ occurs.reads (suc j) (omega arith);
    } in
    let rest = occurs_begins word bytes (k + 1) later in
    let both : ((get_or bytes k 0 == c) && begins_with word (drop (k + 1) bytes)) ≡ true = grind (arith, nat_tests) in
    at_drop_more (begins_with (c ∷ word)) bytes k 0 lt ∙ both

pub begins_reads : (word bytes : List ℕ) (j : ℕ) → j < length word → begins_with word bytes ≡ true → get_or bytes j 0 ≡ get_or word j 0
begins_reads [] bytes j less holds = absurd (omega arith)
begins_reads (c ∷ word) [] j less holds = absurd (false≢true holds)
begins_reads (c ∷ word) (b ∷ bytes) zero less holds = grind (arith, nat_tests)
begins_reads (c ∷ word) (b ∷ bytes) (suc j) less holds =
    let rest : begins_with word bytes ≡ true = grind (arith, nat_tests) in
    begins_reads word bytes j (omega arith) rest

begins_occurs : (word bytes : List ℕ) (k : ℕ) → k ≤ length bytes → begins_with word (drop k bytes) ≡ true → OccursAt bytes word k
begins_occurs word bytes k le holds = record {
  fits = omega (arith, begins_with-length word (drop k bytes) holds, length-drop k bytes);
  reads = λ j less. sym (get_or-drop k bytes j 0) ∙ begins_reads word (drop k bytes) j less holds;
}

pub word_fails : (word bytes : List ℕ) (k : ℕ) → k ≤ length bytes → (OccursAt bytes word k → ⊥) → begins_with word (drop k bytes) ≡ false
word_fails word bytes k le nowhere = elim (cases_Bool (begins_with word (drop k bytes))) [
  | inl holds ↦ absurd (nowhere (begins_occurs word bytes k le holds))
  | inr fails ↦ fails
]

-- what a search for a word finds
pub found_needle : (word bytes : List ℕ) (found : Option ℕ) → 0 < length word → FindsNeedle bytes word 0 found → found ≡ first_at word bytes
found_needle word bytes None some finds =
    sym (first_at_none word bytes (λ k lt. word_fails word bytes k (omega arith) (finds k (omega arith) (omega arith))))
found_needle word bytes (Some i) some finds =
    let fits : i + length word ≤ length bytes = finds.1.fits in
    sym (first_at_some word bytes i (omega arith) (λ k lt. word_fails word bytes k (omega arith) (finds.0.before k (omega arith) lt)) (occurs_begins word bytes i finds.1))

-- where a word isn't found, it begins at none of the places
pub none_begins : (word bytes : List ℕ) → first_at word bytes ≡ None → (k : ℕ) → k < length bytes → begins_with word (drop k bytes) ≡ false
none_begins word [] none k lt = absurd (omega arith)
none_begins word (b ∷ bytes) none zero lt = elim (cases_Bool (begins_with word (b ∷ bytes))) [
  | inl holds ↦ let bad : Some 0 ≡ None = sym (cond-true _ _ _ holds) ∙ none in cc
  | inr fails ↦ fails
]
none_begins word (b ∷ bytes) none (suc k) lt = elim (cases_Bool (begins_with word (b ∷ bytes))) [
  | inl holds ↦ let bad : Some 0 ≡ None = sym (cond-true _ _ _ holds) ∙ none in cc
  | inr fails ↦ none_begins word bytes (one_later-none (first_at word bytes) (sym (cond-false _ _ _ fails) ∙ none)) k (omega arith)
]

-- where the word that is a byte doesn't stand, the byte doesn't
pub not_among : (c n : ℕ) (bytes : List ℕ) → n ≤ length bytes → HasNoWord (c ∷ []) 0 n bytes → IsNotAmong c n bytes
not_among c n bytes le none k lt = λ is. false≢true (sym (none k (omega arith) (omega arith)) ∙ byte_holds c bytes k (omega arith) is)

pub nothing_found : (place : Option ℕ) (skipped : ℕ) (word : List ℕ) (trim : List ℕ → List ℕ) (bytes : List ℕ) (ending : Ending) → BrokenOff ≡ cut_at place skipped word trim bytes ending → place ≡ None
nothing_found None skipped word trim bytes ending is = refl
nothing_found (Some i) skipped word trim bytes ending is = elim (cases_Bool (nat_lt longest (skipped + (i + length word)))) [
  | inl over ↦ let bad : BrokenOff ≡ TooLong = is ∙ cond-true _ _ _ over in cc
  | inr within ↦ let bad : BrokenOff ≡ Found (take i bytes) (drop (i + length word) bytes) = is ∙ cond-false _ _ _ within in cc
]
