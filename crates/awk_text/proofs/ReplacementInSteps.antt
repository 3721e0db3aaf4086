-- The replacement, a byte or an escape at a time.
use Rattle.std.proofs.Common.{◌≡◌, ℕ, ◌+◌, ◌<◌, ◌≤◌, true, false, cond, List, [], ◌∷◌, ◌++◌, length, drop, get_or, sym, ap, ◌∙◌, arith, append_assoc, append-nil}
use Rattle.std.proofs.lemmas.List.{drop_more, drop_all}
use Rattle.awk_text.specs.definitions.Replacement.{bytes_for, is_escape, replacement_for}
use Rattle.awk_text.specs.support.Escapes.{escapes}

pub no_escape_at_end : (r : List ℕ) (i : ℕ) → i < length r → length r ≤ i + 1 → false ≡ escapes (drop i r)
no_escape_at_end r i lt le = sym (ap escapes (drop_more r i 0 lt) ∙ ap (λ rest. escapes (get_or r i 0 ∷ rest)) (drop_all (i + 1) r le))

two_more : (r : List ℕ) (i : ℕ) → i + 1 < length r → drop i r ≡ get_or r i 0 ∷ get_or r (i + 1) 0 ∷ drop (i + 2) r
two_more r i lt =
    let n : i + 1 + 1 ≡ i + 2 = omega arith in
    drop_more r i 0 (omega arith) ∙ (ap (λ rest. get_or r i 0 ∷ rest) (drop_more r (i + 1) 0 lt) ∙ ap (λ k. get_or r i 0 ∷ get_or r (i + 1) 0 ∷ drop k r) n)

at_escape : (byte next : ℕ) (rest m : List ℕ) → is_escape byte next ≡ true → replacement_for (byte ∷ next ∷ rest) m ≡ next ∷ replacement_for rest m
at_escape byte next rest m h = ap (λ v. cond v (next ∷ replacement_for rest m) (bytes_for byte m ++ replacement_for (next ∷ rest) m)) h

pub at_byte : (byte : ℕ) (rest m : List ℕ) → escapes (byte ∷ rest) ≡ false → replacement_for (byte ∷ rest) m ≡ bytes_for byte m ++ replacement_for rest m
at_byte byte [] m h = sym (append-nil (bytes_for byte m))
at_byte byte (next ∷ rest) m h = ap (λ v. cond v (next ∷ replacement_for rest m) (bytes_for byte m ++ replacement_for (next ∷ rest) m)) h

pub escape_more : (r m out more whole : List ℕ) (i : ℕ) → i + 1 < length r → escapes (drop i r) ≡ true → more ≡ out ++ get_or r (i + 1) 0 ∷ [] →
    out ++ replacement_for (drop i r) m ≡ whole → more ++ replacement_for (drop (i + 2) r) m ≡ whole
escape_more r m out more whole i lt h e so_far =
    let two = two_more r i lt in
    let step = ap (λ rest. replacement_for rest m) two ∙ at_escape (get_or r i 0) (get_or r (i + 1) 0) (drop (i + 2) r) m (sym (ap escapes two) ∙ h) in
    ap (λ o. o ++ replacement_for (drop (i + 2) r) m) e ∙ (append_assoc out (get_or r (i + 1) 0 ∷ []) (replacement_for (drop (i + 2) r) m) ∙ (ap (λ rest. out ++ rest) (sym step) ∙ so_far))

pub byte_more : (r m out more whole : List ℕ) (i : ℕ) → i < length r → escapes (drop i r) ≡ false → more ≡ out ++ bytes_for (get_or r i 0) m →
    out ++ replacement_for (drop i r) m ≡ whole → more ++ replacement_for (drop (i + 1) r) m ≡ whole
byte_more r m out more whole i lt h e so_far =
    let one = drop_more r i 0 lt in
    let step = ap (λ rest. replacement_for rest m) one ∙ at_byte (get_or r i 0) (drop (i + 1) r) m (sym (ap escapes one) ∙ h) in
    ap (λ o. o ++ replacement_for (drop (i + 1) r) m) e ∙ (append_assoc out (bytes_for (get_or r i 0) m) (replacement_for (drop (i + 1) r) m) ∙ (ap (λ rest. out ++ rest) (sym step) ∙ so_far))
