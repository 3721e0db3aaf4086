-- Arrays whose keys are numbers in order.
use Rattle.std.proofs.Common.{◌≡◌, ◌+◌, ◌-◌, ◌<◌, ◌≤◌, ◌^◌, ℕ, suc, pos, Bool, true, false, List, [], ◌∷◌, ◌++◌, length, take, drop, get_or, refl, sym, ap, ◌∙◌, arith}
use Rattle.std.specs.Prelude.{bytes_eq, Some, None, if◌then◌else◌}
use Rattle.std.specs.Fmt.{signed_decimal}
use Rattle.std.proofs.lemmas.Fmt.{signed_decimal_injective}
use Rattle.std.proofs.lemmas.Slice.Eq.{bytes_eq-Decides}
use Rattle.std.proofs.lemmas.List.{drop-take, length-map, length-take-le, map-append, take_more}
use Rattle.awk_text.specs.Pieces.{stretch_at, stretches_at, IsSpanOf}
use Rattle.awk_text.specs.declared.span.Span.{Span}
use Rattle.awk_value.specs.declared.value.Value.TheVariants.{Input}
use Rattle.awk_value.specs.Arrays.{value_at}
use Rattle.awk_semantics.specs.definitions.Primitives.{elements_from}

-- different numbers have different texts
other_number : (n m : ℕ) → n < m → m < 2 ^ 63 → bytes_eq (signed_decimal (pos m)) (signed_decimal (pos n)) ≡ false
other_number n m low high = by (bytes_eq (signed_decimal (pos m)) (signed_decimal (pos n))) refl
  where
    by : (b : Bool) → bytes_eq (signed_decimal (pos m)) (signed_decimal (pos n)) ≡ b → bytes_eq (signed_decimal (pos m)) (signed_decimal (pos n)) ≡ false
    by true e =
        let same : pos m ≡ pos n = signed_decimal_injective (pos m) (pos n) high (omega arith) ((bytes_eq-Decides (signed_decimal (pos m)) (signed_decimal (pos n))).0 e) in
        let equal : m ≡ n = cc in
        absurd (omega arith)
    by false e = e

pub absent : (n m : ℕ) (xs : List (List ℕ)) → n + length xs ≤ m → m < 2 ^ 63 → value_at (elements_from n xs) (signed_decimal (pos m)) ≡ None
absent n m [] low high = refl
absent n m (x ∷ xs) low high =
    ap (λ b. if b then Some (Input x) else value_at (elements_from (suc n) xs) (signed_decimal (pos m))) (other_number n m (omega arith) high)
    ∙ absent (suc n) m xs (omega arith) high

-- the next text goes to the next key
pub longer : (n m : ℕ) (xs : List (List ℕ)) (x : List ℕ) → m ≡ n + length xs → elements_from n (xs ++ x ∷ []) ≡ elements_from n xs ++ (signed_decimal (pos m), Input x) ∷ []
longer n m [] x e = let same : n ≡ m = omega arith in ap (λ k. (signed_decimal (pos k), Input x) ∷ []) same
longer n m (y ∷ xs) x e = ap (λ l. (signed_decimal (pos n), Input y) ∷ l) (longer (suc n) m xs x (omega arith))

-- stretches of a text

-- as many as were passed
passed : (text : List ℕ) (spans : List Span) (i : ℕ) → i ≤ length spans → length (stretches_at text (take i spans)) ≡ i
passed text spans i le = length-map (take i spans) (stretch_at text) ∙ length-take-le i spans le

-- the key of the next one is none yet
pub next_absent : (text : List ℕ) (spans : List Span) (i key : ℕ) → i ≤ length spans → key ≡ 1 + i → key < 2 ^ 63 → value_at (elements_from 1 (stretches_at text (take i spans))) (signed_decimal (pos key)) ≡ None
next_absent text spans i key le number high = absent 1 key (stretches_at text (take i spans)) (omega (arith, passed text spans i le)) high

cut_stretch : (text : List ℕ) (span : Span) → IsSpanOf text span → drop span.start (take span.end text) ≡ stretch_at text span
cut_stretch text span (le, within) =
    let sum : span.end ≡ span.start + (span.end - span.start) = omega arith in
    ap (λ n. drop span.start (take n text)) sum ∙ drop-take span.start (span.end - span.start) text

-- the next one goes to the next key
pub next_added : (text : List ℕ) (spans : List Span) (i key : ℕ) (cut : List ℕ) (span : Span) → i < length spans → IsSpanOf text (get_or spans i span) → key ≡ 1 + i → cut ≡ drop (get_or spans i span).start (take (get_or spans i span).end text)
    → elements_from 1 (stretches_at text (take i spans)) ++ (signed_decimal (pos key), Input cut) ∷ [] ≡ elements_from 1 (stretches_at text (take (i + 1) spans))
next_added text spans i key cut span low within number cutting =
    let here = get_or spans i span in
    let past : List (List ℕ) = stretches_at text (take i spans) in
    let last : cut ≡ stretch_at text here = cutting ∙ cut_stretch text here within in
    let count : key ≡ 1 + length past = omega (arith, passed text spans i (omega arith)) in
    ap (λ (t : List ℕ). elements_from 1 past ++ (signed_decimal (pos key), Input t) ∷ []) last
    ∙ (sym (longer 1 key past (stretch_at text here) count)
    ∙ (ap (elements_from 1) (sym (map-append (stretch_at text) (take i spans) (here ∷ []))) ∙ ap (λ (l : List Span). elements_from 1 (stretches_at text l)) (sym (take_more spans i span low))))
