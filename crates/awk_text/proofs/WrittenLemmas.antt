-- The texts of parts, joined.
use Rattle.std.proofs.Common.{◌≡◌, ℕ, ◌+◌, ◌<◌, ◌≤◌, List, [], ◌∷◌, ◌++◌, length, drop, get_or, refl, sym, ap, ◌∙◌, append_assoc, append-nil, drop-cons, add-one}
use Rattle.std.specs.Prelude.{Result, Ok, Err}
use Rattle.std.proofs.lemmas.List.{drop_all}
use Rattle.awk_value.specs.declared.value.Value.{Value}
use Rattle.awk_text.specs.definitions.Formatted.{joined, next_value, part_text, values_after, written}
use Rattle.awk_text.specs.declared.format_fault.FormatFault.{FormatFault}
use Rattle.awk_text.specs.declared.part.Part.{Part}

pub joined_nothing : (text : Result (List ℕ) FormatFault) → joined (Ok []) text ≡ text
joined_nothing (Ok text) = refl
joined_nothing (Err fault) = refl

-- A text that was joined may be taken for done.
joined_next : (out new : List ℕ) (here rest whole : Result (List ℕ) FormatFault) → joined (Ok out) here ≡ Ok new → joined (Ok out) (joined here rest) ≡ whole → joined (Ok new) rest ≡ whole
joined_next out new (Ok text) (Ok more) whole e h =
    let is : out ++ text ≡ new = cc in
    ap (λ t. Ok (t ++ more)) (sym is) ∙ (ap (λ t. Ok t) (append_assoc out text more) ∙ h)
joined_next out new (Ok text) (Err fault) whole e h = h
joined_next out new (Err fault) rest whole e h = cc

joined_err : (old : List ℕ) (text : Result (List ℕ) FormatFault) (fault : FormatFault) → Err fault ≡ joined (Ok old) text → text ≡ Err fault
joined_err old (Ok text) fault h = cc
joined_err old (Err other) fault h = sym h

first_of_rest : (parts : List Part) (i : ℕ) (part : Part) → i < length parts → part ≡ get_or parts i part → drop i parts ≡ part ∷ drop (i + 1) parts
first_of_rest parts i part below is = rw (drop-cons parts i part, ← is, add-one)

-- A part that was written, and the parts that are left.
pub part_done : (parts : List Part) (i : ℕ) (part : Part) (value : Value) (left behind : List Value) (out new : List ℕ) (whole : Result (List ℕ) FormatFault) → i < length parts → part ≡ get_or parts i part → value ≡ next_value left → behind ≡ values_after part left →
    joined (Ok out) (part_text part value) ≡ Ok new → joined (Ok out) (written (drop i parts) left) ≡ whole → joined (Ok new) (written (drop (i + 1) parts) behind) ≡ whole
part_done parts i part value left behind out new whole below is ev eb e h =
    let here = first_of_rest parts i part below is in
    ap (λ (vs : List Value). joined (Ok new) (written (drop (i + 1) parts) vs)) eb
    ∙ joined_next out new (part_text part value) (written (drop (i + 1) parts) (values_after part left)) whole e
    (ap (λ (v : Value). joined (Ok out) (joined (part_text part v) (written (drop (i + 1) parts) (values_after part left)))) ev
    ∙ (ap (λ (ps : List Part). joined (Ok out) (written ps left)) (sym here) ∙ h))

-- All parts were written.
pub parts_done : (parts : List Part) (i : ℕ) (left : List Value) (out : List ℕ) (whole : Result (List ℕ) FormatFault) → length parts ≤ i → joined (Ok out) (written (drop i parts) left) ≡ whole → whole ≡ Ok out
parts_done parts i left out whole past h =
    let none : drop i parts ≡ [] = drop_all i parts past in
    sym h ∙ (ap (λ (ps : List Part). joined (Ok out) (written ps left)) none ∙ ap (λ t. Ok t) (append-nil out))
