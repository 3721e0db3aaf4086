-- The cut of bytes in which the first place of the separator is known.
use Rattle.std.proofs.Common.{◌≡◌, ◌≢◌, ℕ, ◌+◌, ◌<◌, ◌≤◌, true, false, List, [], ◌∷◌, ◌++◌, length, take, drop, Option, refl, sym, ◌∙◌, ap, arith, length-append}
use Rattle.std.proofs.Math.Seq.{take-append_seam, drop-append_seam}
use Rattle.std.proofs.lemmas.Bool.Decides.{nat_tests}
use Rattle.std.proofs.lemmas.List.{drop-drop}
use Rattle.memchr.specs.Find.{OccursAt}
use Rattle.awk_record.specs.definitions.Cut.{Ending, AtEnd, AtBreak, Found, BrokenOff, longest, begins_with, unfinished, cut_at, cut_behind, cut_of}
use Rattle.awk_record.specs.definitions.Literal.{StandsAt}
use Rattle.awk_record.proofs.SearchFindsFirst.{first_at_some, first_at_none, word_fails}
use Rattle.awk_record.proofs.CutOfLine.{limited-within}

behind_word : (word bytes : List ℕ) (ending : Ending) → word ≢ [] → cut_of word bytes ending ≡ cut_behind 0 word (λ b. b) bytes ending
behind_word [] bytes ending some = absurd (some refl)
behind_word (c ∷ word) bytes ending some = refl

some_bytes : (word : List ℕ) → word ≢ [] → 0 < length word
some_bytes [] some = absurd (some refl)
some_bytes (c ∷ word) some = omega arith

begins_itself : (word rest : List ℕ) → begins_with word (word ++ rest) ≡ true
begins_itself [] rest = refl
begins_itself (c ∷ word) rest = grind (arith, nat_tests, begins_itself word rest)

stands : (k : ℕ) (word bytes : List ℕ) → OccursAt bytes word k → StandsAt k word bytes
stands k word bytes occurs = record { fits = occurs.fits; reads = occurs.reads }

pub cut_of-literal : (word first rest : List ℕ) (ending : Ending) → word ≢ [] → ((k : ℕ) → k < length first → StandsAt k word (first ++ (word ++ rest)) → ⊥) → length first + length word ≤ longest → cut_of word (first ++ (word ++ rest)) ending ≡ Found first rest
cut_of-literal word first rest ending some none le =
    let bytes = first ++ (word ++ rest) in
    let size : length bytes ≡ length first + (length word + length rest) = length-append first (word ++ rest) ∙ ap (λ n. length first + n) (length-append word rest) in
    let within : length first < length bytes = omega (arith, some_bytes word some) in
    let here : begins_with word (drop (length first) bytes) ≡ true = ap (begins_with word) (drop-append_seam first (word ++ rest)) ∙ begins_itself word rest in
    let fails : (k : ℕ) → k < length first → begins_with word (drop k bytes) ≡ false = λ k lt. word_fails word bytes k (omega arith) (λ occurs. none k lt (stands k word bytes occurs)) in
    let place = first_at_some word bytes (length first) within fails here in
    let front : take (length first) bytes ≡ first = take-append_seam first (word ++ rest) in
    let back : drop (length first + length word) bytes ≡ rest = sym (drop-drop (length word) (length first) bytes) ∙ (ap (drop (length word)) (drop-append_seam first (word ++ rest)) ∙ drop-append_seam word rest) in
    behind_word word bytes ending some
    ∙ (ap (λ (i : Option ℕ). cut_at i 0 word (λ b. b) bytes ending) place ∙ (limited-within (0 + (length first + length word)) _ (omega arith) ∙ rw (front, back) refl))

nowhere : (word bytes : List ℕ) (ending : Ending) → word ≢ [] → ((k : ℕ) → StandsAt k word bytes → ⊥) → length bytes ≤ longest → cut_of word bytes ending ≡ unfinished (λ b. b) bytes ending
nowhere word bytes ending some none le =
    let place = first_at_none word bytes (λ k lt. word_fails word bytes k (omega arith) (λ occurs. none k (stands k word bytes occurs))) in
    behind_word word bytes ending some ∙ (ap (λ (i : Option ℕ). cut_at i 0 word (λ b. b) bytes ending) place ∙ limited-within (0 + length bytes) _ (omega arith))

pub cut_of-last : (word bytes : List ℕ) → word ≢ [] → ((k : ℕ) → StandsAt k word bytes → ⊥) → bytes ≢ [] → length bytes ≤ longest → cut_of word bytes AtEnd ≡ Found bytes []
cut_of-last word [] some none filled le = absurd (filled refl)
cut_of-last word (b ∷ bytes) some none filled le = nowhere word (b ∷ bytes) AtEnd some none le

pub cut_of-broken : (word bytes : List ℕ) → word ≢ [] → ((k : ℕ) → StandsAt k word bytes → ⊥) → length bytes ≤ longest → cut_of word bytes AtBreak ≡ BrokenOff
cut_of-broken word bytes some none le = nowhere word bytes AtBreak some none le
