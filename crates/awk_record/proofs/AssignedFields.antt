-- Fields that are assigned, and what they make of the record.
use Rattle.std.proofs.Common.{◌≡◌, ℕ, zero, suc, ℤ, ◌+◌, ◌-◌, ◌<◌, min, max, List, [], ◌∷◌, ◌++◌, length, take, get_or, replicate, Result, Ok, refl, sym, ◌∙◌, ap, arith, inl, inr}
use Rattle.std.specs.Prelude.{slice_set}
use Rattle.std.specs.List.{AllClonesOf, AppendsClonesOf}
use Rattle.std.proofs.Math.Seq.{set-append_seam}
use Rattle.std.proofs.lemmas.List.{take_more, map-append, length-append, length-take}
use Rattle.awk_text.specs.Pieces.{stretch_at, stretches_at}
use Rattle.awk_text.specs.declared.span.Span.{Span}
use Rattle.awk_value.specs.declared.value.Value.{Value}
use Rattle.awk_value.specs.declared.value.Value.TheVariants.{Nothing, Input}
use Rattle.awk_record.specs.declared.record_fault.RecordFault.{RecordFault}
use Rattle.awk_record.specs.definitions.Record.{RecordPair, inputs_of, assignable, resized, joined_by, with_count, with_field}

-- a list of cuts grows by the next stretch, which is put in the place of what was pushed
pub cuts_more : (text : List ℕ) (spans : List Span) (i : ℕ) (values pushed : List Value) (size : ℕ) (blank place : Value) (span : Span) → i < length spans →
    values ≡ inputs_of (stretches_at text (take i spans)) → pushed ≡ values ++ blank ∷ [] → size ≡ length pushed → place ≡ Input (stretch_at text (get_or spans i span)) →
    slice_set pushed (size - 1) place ≡ inputs_of (stretches_at text (take (i + 1) spans))
cuts_more text spans i values pushed size blank place span lt is added long cut =
    let here = get_or spans i span in
    let more : take (i + 1) spans ≡ take i spans ++ here ∷ [] = take_more spans i span lt in
    let one : length pushed ≡ length values + 1 = ap length added ∙ length-append values (blank ∷ []) in
    let last : size - 1 ≡ length values = omega arith in
    ap (λ k. slice_set pushed k place) last
    ∙ (ap (λ (vs : List Value). slice_set vs (length values) place) added
    ∙ (set-append_seam values blank [] place
    ∙ (ap (λ (v : Value). values ++ v ∷ []) cut
    ∙ (ap (λ (vs : List Value). vs ++ Input (stretch_at text here) ∷ []) is
    ∙ (sym (map-append (λ (t : List ℕ). Input t) (stretches_at text (take i spans)) (stretch_at text here ∷ []))
    ∙ (ap inputs_of (sym (map-append (stretch_at text) (take i spans) (here ∷ []))) ∙ ap (λ (spans : List Span). inputs_of (stretches_at text spans)) (sym more)))))))

pub count_is : (number : ℤ) (n : ℕ) (separator : List ℕ) (r : RecordPair) (values : List Value) → Ok n ≡ assignable number → values ≡ resized n r.fields → Ok (joined_by separator values) ≡ with_count (assignable number) separator r
count_is number n separator r values is made =
    ap (λ (values : List Value). Ok (joined_by separator values)) made ∙ ap (λ (n : Result ℕ RecordFault). with_count n separator r) is

pub field_is : (number : ℤ) (n : ℕ) (value : Value) (separator : List ℕ) (r : RecordPair) (values : List Value) → Ok n ≡ assignable number → 0 < n →
    values ≡ slice_set (resized (max n (length r.fields)) r.fields) (n - 1) value → Ok (joined_by separator values) ≡ with_field (assignable number) value separator r
field_is number zero value separator r values is low made = absurd (omega arith)
field_is number (suc i) value separator r values is low made =
    let place : suc i - 1 ≡ i = omega arith in
    ap (λ (values : List Value). Ok (joined_by separator values)) (made ∙ ap (λ k. slice_set (resized (max (suc i) (length r.fields)) r.fields) k value) place)
    ∙ ap (λ (n : Result ℕ RecordFault). with_field n value separator r) is

-- a list of copies
copies : (x : Value) (ys : List Value) → AllClonesOf (λ (v copy : Value). copy ≡ v) x ys → ys ≡ replicate (length ys) x
copies x [] all = refl
copies x (y ∷ ys) (first, rest) =
    let same : y ≡ x = elim first [ inl e ↦ e | inr e ↦ e ] in
    ap (λ (z : Value). z ∷ ys) same ∙ ap (λ (zs : List Value). x ∷ zs) (copies x ys rest)

pub resized_is : (count : ℕ) (old new : List Value) → AppendsClonesOf (λ (v copy : Value). copy ≡ v) (take count old) new Nothing → length new ≡ count → new ≡ resized count old
resized_is count old new (added, is, all) size =
    let parts : length new ≡ length (take count old) + length added = ap length is ∙ length-append (take count old) added in
    let front : length (take count old) ≡ min count (length old) = length-take count old in
    let more : length added ≡ count - length old = omega arith in
    is ∙ (ap (λ (vs : List Value). take count old ++ vs) (copies Nothing added all ∙ ap (λ n. replicate n Nothing) more))
